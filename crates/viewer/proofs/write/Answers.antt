-- `viewer::write` meets its contract: each way out is a law of Ways.
use Rattle.std.proofs.Common.{rules, ◌≡◌, Err}
use Rattle.viewer.proofs.Ways.{writes_stopped, writes_passed}
use Rattle.viewer.proofs.write.Goals as goal

pub returns-in_err-check_run : goal.returns-in_err-check_run
returns-in_err-check_run c =
    let gives : c.from_residual.result ≡ Err c.in_err-check_run.field-0.0 = search rules in
    rw gives (writes_stopped _ _ _ _ c.check_run.ensures _ _ c.in_err-check_run.was)

pub returns : goal.returns
returns c = writes_passed _ _ _ _ c.check_run.ensures _ c.in_ok-check_run.was _ _ _ _ c.write-length.ensures c.fit.ensures
