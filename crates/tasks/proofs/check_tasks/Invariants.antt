-- `tasks::check_tasks` meets its contract: up to task i nothing is found.
use Rattle.std.proofs.Common.{◌≡◌}
use Rattle.basis.specs.Answer.{first_found}
use Rattle.tasks.specs.Bounds.{of_task}
use Rattle.tasks.proofs.check_tasks.Given as goal

abbrev pub invariant-loop-i : goal.invariant-loop-i
invariant-loop-i l = (first_found (of_task l.list.tasks) l.i).number ≡ 0
