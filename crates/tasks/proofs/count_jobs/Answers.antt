-- `tasks::count_jobs` meets its contract: up to 16 numbers up to 4,096 add up to no more than 65,536.
use Rattle.std.proofs.Common.{rules, ◌≡◌, refl, ap, arith, div-le_self}
use Rattle.basis.specs.Sum.{sum}
use Rattle.tasks.specs.declared.Task.{Task}
use Rattle.tasks.specs.List.{no_task, task_at}
use Rattle.tasks.specs.Bounds.{job_sum}
use Rattle.tasks.proofs.Steps.{task_among, before_end, at_end, one_more_jobs}
use Rattle.tasks.proofs.count_jobs.Goals as goal

pub loop-task-init : goal.loop-task-init
unfolding job_sum sum
loop-task-init c = (refl, omega arith)

pub nonzero_div-jobs : goal.nonzero_div-jobs
unfolding no_task
nonzero_div-jobs c =
    let at = c.loop-task-test.true in
    omega (arith, (c.requires.0.fits _ (before_end c.args.list.now.tasks _ _ at)).period_from, ap (λ (t : Task). t.period) (task_among c.args.list.now.tasks _ _ at))

pub loop-task-preserved : goal.loop-task-preserved
unfolding no_task
loop-task-preserved c =
    let item = task_among c.args.list.now.tasks _ _ c.loop-task-test.true in
    rw item (one_more_jobs c.args.list.now.tasks _ _ _ c.loop-task.invariant.0, omega (arith, c.loop-task.invariant.1, div-le_self c.args.cycle (task_at c.args.list.now.tasks c.loop-task.task-index).period))

pub returns : goal.returns
returns c =
    let end : c.loop-task.task-index ≡ c.args.list.now.count = at_end c.args.list.now.tasks _ _ (search rules) (omega arith) (omega arith) in
    rw end at c.loop-task.invariant.0
