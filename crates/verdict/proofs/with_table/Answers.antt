-- `verdict::with_table` meets its contract.
use Rattle.std.proofs.Common.{rules, ◌≡◌, arith, Err}
use Rattle.basis.proofs.Overwritten.{copied_front}
use Rattle.verdict.proofs.Answers.{settled_refused, settled_whole}
use Rattle.verdict.proofs.with_table.Goals as goal

pub returns-in_err-accepted : goal.returns-in_err-accepted
returns-in_err-accepted c =
    let gives : c.from_residual.result ≡ Err c.in_err-accepted.field-0.0 = search rules in
    λ S. rw gives (settled_refused S.list _ _ _ (c.conclude.ensures S).answer _ _ c.in_err-accepted.was)

pub returns : goal.returns
returns c = λ S. settled_whole S.list _ _ _ (c.conclude.ensures S).answer _ _ c.in_ok-accepted.was c.requires.3 _ _ _ c.requires.2 (c.conclude.ensures S) (copied_front 0 _ _ _ _ c.copy_from_slice.ensures.after (omega (arith, c.requires.2)) c.requires.3)
