-- `run::sound::count_jobs` meets its contract.
use Rattle.std.proofs.Common.{◌≡◌, Some, sym, refl, ap, ◌∙◌, div-le_self, arith}
use Rattle.basis.specs.Bytes.{at}
use Rattle.basis.specs.Choose.{choose_yes, choose_no}
use Rattle.basis.specs.Sum.{sum}
use Rattle.run.specs.State.{every, offset, job_count, period_of}
use Rattle.run.specs.Sound.{task_tells}
use Rattle.run.specs.Shapes.{sound_at, jobs_of}
use Rattle.run.proofs.Turns.{one_more_sound, one_unsound, one_more_sum}
use Rattle.run.proofs.sound.count_jobs.Goals as goal

pub loop-i-init : goal.loop-i-init
unfolding sum every offset
loop-i-init c = (omega arith, refl, refl)

pub returns-then-not-is_task_sound : goal.returns-then-not-is_task_sound
unfolding jobs_of
returns-then-not-is_task_sound c = sym (choose_no _ _ _ (one_unsound _ _ _ c.loop-i-test.true (sym c.is_task_sound.ensures ∙ c.if-not-is_task_sound.true)))

pub nonzero_div-jobs : goal.nonzero_div-jobs
unfolding sound_at period_of
nonzero_div-jobs c = (task_tells _ _ _ _ _ _ (sym c.is_task_sound.ensures ∙ c.if-not-is_task_sound.false)).period_from

pub loop-i-preserved : goal.loop-i-preserved
unfolding offset period_of
loop-i-preserved c = (omega (arith, c.requires, div-le_self c.args.state.now.cycle (at c.args.state.now.periods c.loop-i.i)), one_more_sum _ _ _ c.loop-i.invariant.1, one_more_sound _ _ c.loop-i.invariant.2 (sym c.is_task_sound.ensures ∙ c.if-not-is_task_sound.false))

pub returns : goal.returns
unfolding jobs_of job_count
returns c = let end : c.loop-i.i ≡ c.args.state.now.count = omega arith in
    ap Some (rw end at c.loop-i.invariant.1) ∙ sym (choose_yes _ _ _ (rw end at c.loop-i.invariant.2))
