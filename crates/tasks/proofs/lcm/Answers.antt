-- `tasks::lcm` meets its contract: the divisor is not 0, and the product of two numbers of 32 bits fits.
use Prim.Native.Nat.{◌≤◌, ◌/◌}
use native.Mathlib.Omega.{arith}
use native.Mathlib.Nat.{mul-le-mul, div-le_self, zero-div, zero-mul}
use Rattle.tasks.specs.Euclid.{lcm_of, gcd_of}
use Rattle.tasks.proofs.Euclid.{gcd_pos}
use Rattle.tasks.proofs.lcm.Goals as goal

pub returns-then-a-eq0 : goal.returns-then-a-eq0
unfolding lcm_of
returns-then-a-eq0 c = let a = c.args in rw (c.if-a-eq0.true, zero-div (gcd_of 0 a.b), zero-mul a.b)

pub nonzero_div-a : goal.nonzero_div-a
nonzero_div-a c = omega (arith, gcd_pos c.args.a c.args.b (omega (arith, c.if-a-eq0.false)))

pub overflow_mul-result : goal.overflow_mul-result
overflow_mul-result c =
    let q : c.args.a / c.gcd.result ≤ 4294967295 = omega (arith, div-le_self c.args.a c.gcd.result) in
    let b : c.args.b ≤ 4294967295 = omega arith in
    rw (c.from.ensures, c.from-2.ensures) (omega (arith, mul-le-mul q b))

pub returns : goal.returns
unfolding lcm_of
returns c = cc
