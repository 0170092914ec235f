-- `tasks::count_jobs` meets its contract: the jobs of the tasks so far.
use Rattle.std.proofs.Common.{◌≡◌, ◌≤◌, ◌*◌}
use Rattle.tasks.specs.Bounds.{job_sum}
use Rattle.tasks.proofs.count_jobs.Given as goal

abbrev pub invariant-loop-task : goal.invariant-loop-task
invariant-loop-task l = (l.jobs ≡ job_sum l.list.tasks l.cycle l.task-index) × (l.jobs ≤ l.task-index * 4096)
