-- `explain::explain_run` meets its contract.
use Rattle.std.proofs.Common.{rules, ◌≡◌, Err}
use Rattle.explain.proofs.Answers.{accepted_judged, explain_refused, explain_accepted, explained_long}
use Rattle.explain.proofs.explain_run.Goals as goal

pub returns-in_err-accepted : goal.returns-in_err-accepted
returns-in_err-accepted c =
    let gives : c.from_residual.result ≡ Err c.in_err-accepted.field-0.0 = search rules in
    rw gives (explain_refused _ _ c.args.run.now _ c.judge.ensures _ c.in_err-accepted.was _)

pub explain-requires : goal.explain-requires
explain-requires c = accepted_judged _ _ c.args.run.now _ c.judge.ensures _ c.in_ok-accepted.was

pub shape_of-needs : goal.shape_of-needs
shape_of-needs c = explained_long _ _ _ _ _ _ _ c.explain.ensures

pub returns : goal.returns
returns c = explain_accepted _ _ c.args.run.now _ c.judge.ensures _ c.in_ok-accepted.was _ _ _ c.explain.ensures
