-- `viewer::give` meets its contract: each way out is a law of Ways.
use Rattle.std.proofs.Common.{rules, ◌≡◌, ◌∙◌, sym, ap, ℕ, List, length, Err, arith, length-take-le}
use Rattle.basis.specs.Bytes.{at}
use Rattle.basis.proofs.Overwritten.{overwritten_front}
use Rattle.explain.specs.Seen.{refused_by, run_refusal}
use Rattle.basis.specs.Choose.{choose}
use Rattle.viewer.proofs.Ways.{gives_stopped, gives_short, gives_all, run_whole}
use Rattle.viewer.proofs.give.Goals as goal

pub returns-in_err-cycle : goal.returns-in_err-cycle
returns-in_err-cycle c =
    let gives : c.from_residual.result ≡ Err c.in_err-cycle.field-0.0 = search rules in
    rw gives (gives_stopped _ _ _ _ c.check_run.ensures _ _ c.in_err-cycle.was)

pub returns-then-out-cycle : goal.returns-then-out-cycle
unfolding refused_by run_refusal choose
returns-then-out-cycle c = gives_short _ _ _ _ c.check_run.ensures _ c.in_ok-cycle.was _ c.if-out-cycle.true

pub copy_from_slice-requires : goal.copy_from_slice-requires
copy_from_slice-requires c = length-take-le _ _ (omega arith) ∙ sym (run_whole _ _ _ _ c.check_run.ensures _ c.in_ok-cycle.was)

pub returns : goal.returns
returns c =
    gives_all _ _ _ _ c.check_run.ensures _ c.in_ok-cycle.was _ _ c.if-out-cycle.false
    (overwritten_front (at c.args.run.now) 0 _ _ _ (ap length c.copy_from_slice.ensures.after ∙ run_whole _ _ _ _ c.check_run.ensures _ c.in_ok-cycle.was) (omega arith) (λ i _. ap (λ (x : List ℕ). at x i) c.copy_from_slice.ensures.after))
