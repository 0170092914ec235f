-- `explain::check_run` meets its contract.
use Rattle.std.proofs.Common.{rules, ◌≡◌, ◌∙◌, Err}
use Rattle.explain.proofs.Answers.{check_refused, run_checked, run_unchecked}
use Rattle.explain.proofs.check_run.Goals as goal

pub returns-in_err-accepted : goal.returns-in_err-accepted
returns-in_err-accepted c =
    let gives : c.from_residual.result ≡ Err c.in_err-accepted.field-0.0 = search rules in
    gives ∙ check_refused _ _ _ _ c.judge.ensures _ c.in_err-accepted.was

pub returns-in_err-check : goal.returns-in_err-check
returns-in_err-check c =
    let gives : c.from_residual-in_err-check.result ≡ Err c.in_err-check.field-0.0 = search rules in
    gives ∙ run_unchecked _ _ _ _ c.judge.ensures _ c.in_ok-accepted.was _ c.check.ensures _ c.in_err-check.was

pub returns : goal.returns
returns c = run_checked _ _ _ _ c.judge.ensures _ c.in_ok-accepted.was _ c.check.ensures c.in_ok-check.was
