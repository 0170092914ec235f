-- `viewer::no_form` meets its contract.
use Rattle.std.proofs.Common.{rules, ◌≡◌, ◌∙◌, Err}
use Rattle.basis.specs.Choose.{choose}
use Rattle.explain.specs.Seen.{refused_by, run_refusal}
use Rattle.viewer.proofs.Ways.{list_refused, list_accepted}
use Rattle.viewer.proofs.no_form.Goals as goal

pub returns-in_err-judge : goal.returns-in_err-judge
returns-in_err-judge c =
    let gives : c.from_residual.result ≡ Err c.in_err-judge.field-0.0 = search rules in
    gives ∙ list_refused _ _ _ _ c.judge.ensures _ c.in_err-judge.was

pub returns : goal.returns
unfolding refused_by run_refusal choose
returns c = list_accepted _ _ _ _ c.judge.ensures _ c.in_ok-judge.was
