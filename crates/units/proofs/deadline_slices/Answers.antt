-- `units::deadline_slices` meets its contract.
use Rattle.units.specs.Conversion.{deadline_slices}
use Rattle.units.proofs.Division.{divided}
use Rattle.units.proofs.deadline_slices.Goals as goal

pub returns : goal.returns
unfolding deadline_slices
returns c = divided _ _ _ c.checked_div.ensures
