-- `verdict::build` meets its contract.
use Rattle.std.proofs.Common.{rules, ◌≡◌, arith, Err}
use Rattle.verdict.proofs.Answers.{built_refused, built_short, built_whole}
use Rattle.verdict.proofs.build.Goals as goal

pub returns-in_err-accepted : goal.returns-in_err-accepted
returns-in_err-accepted c =
    let gives : c.from_residual.result ≡ Err c.in_err-accepted.field-0.0 = search rules in
    rw gives (built_refused _ _ _ _ _ c.settle.ensures _ c.in_err-accepted.was)

pub returns-then-table-accepted : goal.returns-then-table-accepted
returns-then-table-accepted c = built_short _ _ _ _ _ c.settle.ensures _ c.in_ok-accepted.was (omega arith)

pub returns : goal.returns
returns c = built_whole _ _ _ _ _ c.settle.ensures _ c.in_ok-accepted.was (omega arith)
