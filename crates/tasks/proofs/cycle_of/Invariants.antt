-- `tasks::cycle_of` meets its contract: up to task i no multiple was above 4,096.
use Rattle.std.proofs.Common.{◌≡◌, ◌≤◌}
use Rattle.basis.specs.Answer.{first_found}
use Rattle.tasks.specs.Bounds.{of_cycle, multiple}
use Rattle.tasks.proofs.cycle_of.Given as goal

abbrev pub invariant-loop-i : goal.invariant-loop-i
invariant-loop-i l = (l.multiple ≤ 4096) × (l.multiple ≡ multiple l.list.tasks l.i) × ((first_found (of_cycle l.list.tasks) l.i).number ≡ 0)
