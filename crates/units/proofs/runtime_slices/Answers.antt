-- `units::runtime_slices` meets its contract.
use native.Mathlib.Omega.{arith}
use borrow.Author.Tests.{lt-leb, le-leb}
use Rattle.std.specs.Prelude.{◌-◌}
use Rattle.basis.specs.Choose.{yes_so, no_so}
use Rattle.units.specs.Conversion.{runtime_slices}
use Rattle.units.proofs.Division.{rounded_up}
use Rattle.units.proofs.runtime_slices.Goals as goal

pub returns-then-tick-slice : goal.returns-then-tick-slice
unfolding runtime_slices
returns-then-tick-slice c =
    let a = c.args in
    no_so _ _ _ _ (lt-leb a.slice a.tick (omega arith)) (cc (rounded_up a.micros (a.slice - a.tick) (omega arith)))

pub returns-else-tick-slice : goal.returns-else-tick-slice
unfolding runtime_slices
returns-else-tick-slice c = let a = c.args in yes_so _ _ _ _ (le-leb a.slice a.tick (omega arith)) (cc)
