-- `units::period_slices` meets its contract.
use mathlib.Core.Path.{refl}
use borrow.Author.Tests.{eq-eqb, ne_eqb}
use Prim.Native.Nat.{◌%◌}
use Rattle.basis.specs.Choose.{cases, choose}
use Rattle.units.specs.Conversion.{period_slices}
use Rattle.units.proofs.period_slices.Goals.{else-slice-ne0-via-then-slice-ne0+else-micros-slice-eq0, else-slice-ne0-via-else-slice-ne0}
use Rattle.units.proofs.period_slices.Goals as goal

pub returns-then-micros-slice-eq0 : goal.returns-then-micros-slice-eq0
unfolding period_slices
returns-then-micros-slice-eq0 c = search cases depth 12

pub returns-else-slice-ne0 : goal.returns-else-slice-ne0
unfolding period_slices choose
returns-else-slice-ne0 c = elim c.else-slice-ne0.branch [
  | else-slice-ne0-via-then-slice-ne0+else-micros-slice-eq0 w ↦ rw (ne_eqb c.args.slice 0 w.if-slice-ne0.true, ne_eqb (c.args.micros % c.args.slice) 0 w.if-micros-slice-eq0.false) refl
  | else-slice-ne0-via-else-slice-ne0 w ↦ rw (eq-eqb c.args.slice 0 w.if-slice-ne0.false) refl
]
