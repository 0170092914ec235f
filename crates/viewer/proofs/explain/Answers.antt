-- `viewer::explain` meets its contract: a file that is the form of no run, and one that is, each by a law of Ways.
use mathlib.Core.Path.{sym}
use lib.Seq.{length-take-le}
use Rattle.viewer.proofs.Ways.{found_run, found_bad, fits_aside, explains_run, explains_formless}
use Rattle.viewer.proofs.explain.Goals as goal

pub slice_bounds-run-end : goal.slice_bounds-run-end
slice_bounds-run-end c = fits_aside _ _ _ (found_run _ _ _ _ c.read.ensures _ c.in-Ok.is)

pub slice_bounds-explain_run-end : goal.slice_bounds-explain_run-end
slice_bounds-explain_run-end c = sym (length-take-le _ _ (fits_aside _ _ _ (found_run _ _ _ _ c.read.ensures _ c.in-Ok.is)))

pub returns-in-Err : goal.returns-in-Err
returns-in-Err c = explains_formless _ _ _ _ _ _ _ _ (found_bad _ _ _ _ c.read.ensures _ c.in-Err.is) c.no_form.ensures

pub returns-in-Ok : goal.returns-in-Ok
returns-in-Ok c = explains_run _ _ _ (found_run _ _ _ _ c.read.ensures _ c.in-Ok.is) _ _ _ _ _ c.explain_run.ensures
