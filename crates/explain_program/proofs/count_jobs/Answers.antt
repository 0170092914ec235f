-- `count_jobs` meets its contract, task by task.
use Rattle.std.proofs.Common.{rules, ◌≡◌, refl, ap, arith}
use Rattle.basis.specs.Bytes.{overwrite}
use Rattle.tasks.specs.declared.Task.{Task}
use Rattle.tasks.specs.List.{no_task}
use Rattle.tasks.proofs.Steps.{task_among, before_end, at_end}
use Rattle.explain_program.proofs.Jobs.{counted_next}
use Rattle.explain_program.proofs.count_jobs.Goals as goal

pub loop-i-init : goal.loop-i-init
unfolding overwrite
loop-i-init c = refl

pub nonzero_div-jobs : goal.nonzero_div-jobs
unfolding no_task
nonzero_div-jobs c =
    let at = c.loop-i-test.true in
    omega (arith, (c.requires.keeps_bounds.fits _ (before_end c.args.list.tasks _ _ at)).period_from, ap (λ (t : Task). t.period) (task_among c.args.list.tasks _ _ at))

pub loop-i-preserved : goal.loop-i-preserved
unfolding no_task
loop-i-preserved c =
    let item = task_among c.args.list.tasks _ _ c.loop-i-test.true in
    rw item (counted_next _ _ _ _ _ c.requires.cycle_value c.loop-i.invariant)

pub returns : goal.returns
returns c =
    let end : c.loop-i.i ≡ c.args.list.count = at_end c.args.list.tasks _ _ (search rules) (omega arith) (omega arith) in
    rw end at c.loop-i.invariant
