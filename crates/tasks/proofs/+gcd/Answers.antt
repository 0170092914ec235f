-- `tasks::gcd` meets its contract.
use native.Mathlib.Omega.{arith}
use native.Mathlib.Nat.{mod-lt, pos_of_ne-zero}
use Rattle.tasks.proofs.Euclid.{gcd_zero, gcd_step}
use Rattle.tasks.proofs.+gcd.Goals as goal

pub nonzero_rem-a : goal.nonzero_rem-a
nonzero_rem-a t c = pos_of_ne-zero c.if-b-eq0.false

pub gcd-requires : goal.gcd-requires
gcd-requires t c = (omega (arith, mod-lt c.args.a (pos_of_ne-zero c.if-b-eq0.false)), tt)

pub returns-then-b-eq0 : goal.returns-then-b-eq0
returns-then-b-eq0 t c = cc (gcd_zero c.args.a)

pub returns-else-b-eq0 : goal.returns-else-b-eq0
returns-else-b-eq0 t c = cc (gcd_step c.args.a c.args.b (pos_of_ne-zero c.if-b-eq0.false))
