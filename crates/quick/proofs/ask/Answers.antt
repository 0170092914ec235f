-- `quick::ask` meets its contract.
use Rattle.std.proofs.Common.{◌∙◌, sym, ap, Err}
use Rattle.quick.proofs.Answers.{broken, kept_bounded, kept}
use Rattle.quick.proofs.ask.Goals as goal

pub returns-in-Err : goal.returns-in-Err
returns-in-Err c = ap Err c.named.ensures ∙ broken _ _ _ (sym c.check_bounds.ensures ∙ c.in-Err.is)

pub try_points-requires : goal.try_points-requires
try_points-requires c = kept_bounded _ _ _ (sym c.check_bounds.ensures ∙ c.in-Ok.is)

pub returns-in-Ok : goal.returns-in-Ok
returns-in-Ok c = kept _ _ _ (sym c.check_bounds.ensures ∙ c.in-Ok.is) _ c.try_points.ensures
