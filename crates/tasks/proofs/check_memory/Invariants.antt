-- `tasks::check_memory` meets its contract: up to task i the memory is within the supply.
use Rattle.std.proofs.Common.{◌≡◌, ◌≤◌}
use Rattle.basis.specs.Answer.{first_found}
use Rattle.tasks.specs.Bounds.{of_memory, memory_sum}
use Rattle.tasks.proofs.check_memory.Given as goal

abbrev pub invariant-loop-i : goal.invariant-loop-i
invariant-loop-i l = (l.sum ≤ l.supply) × (l.sum ≡ memory_sum l.list.tasks l.i) × ((first_found (of_memory l.list.tasks l.supply) l.i).number ≡ 0)
