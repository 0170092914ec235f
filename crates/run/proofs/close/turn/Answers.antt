-- `run::close::turn` meets its contract.
use Rattle.std.proofs.Common.{◌≡◌, sym, ◌∙◌, eq-eqb, ne_eqb}
use Rattle.run.specs.State.{period_of}
use Rattle.run.specs.Shapes.{outcome_byte, late_at}
use Rattle.run.proofs.Served.{late_state, late_yes, late_no, release_tested, turned_anew, turned_kept}
use Rattle.run.proofs.close.turn.Goals as goal
use Rattle.run.proofs.close.turn.Goals.{then-is_late, else-is_late}

pub nonzero_rem-age : goal.nonzero_rem-age
unfolding period_of
nonzero_rem-age c = c.requires.period_from

pub returns-then-is_release : goal.returns-then-is_release
unfolding outcome_byte
returns-then-is_release c =
    let told : (c.if-is_late.state ≡ late_state c.args.state.now c.args.i) × (c.if-is_late.log ≡ late_at c.args.state.now c.args.i c.args.log.now) =
    elim c.if-is_late.branch [
      | then-is_late w ↦ late_yes _ _ _ _ _ w.if-is_late.true (w.state-is ∙ w.end_job.ensures.0) (w.log-is ∙ w.end_job.ensures.1)
      | else-is_late w ↦ late_no _ _ _ _ _ w.if-is_late.false w.state-is w.log-is
    ]
    in
    (turned_anew _ _ _ told.0 (sym (release_tested _ _) ∙ eq-eqb _ _ c.if-is_release.true), told.1)

pub returns-else-is_release : goal.returns-else-is_release
unfolding outcome_byte
returns-else-is_release c =
    let told : (c.if-is_late.state ≡ late_state c.args.state.now c.args.i) × (c.if-is_late.log ≡ late_at c.args.state.now c.args.i c.args.log.now) =
    elim c.if-is_late.branch [
      | then-is_late w ↦ late_yes _ _ _ _ _ w.if-is_late.true (w.state-is ∙ w.end_job.ensures.0) (w.log-is ∙ w.end_job.ensures.1)
      | else-is_late w ↦ late_no _ _ _ _ _ w.if-is_late.false w.state-is w.log-is
    ]
    in
    (turned_kept _ _ _ told.0 (sym (release_tested _ _) ∙ ne_eqb _ _ c.if-is_release.false), told.1)
