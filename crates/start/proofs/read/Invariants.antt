-- `start::read` meets its contract: the first i tasks are read.
use Rattle.std.proofs.Common.{◌≡◌}
use Rattle.basis.specs.Bytes.{overwrite}
use Rattle.tasks.specs.List.{task_at, due_of, runtime_of}
use Rattle.start.proofs.read.Given as goal

abbrev pub invariant-loop-i : goal.invariant-loop-i
invariant-loop-i l = (l.periods ≡ overwrite (λ j. (task_at l.list.tasks j).period) l.i l.initial.periods) × (l.deadlines ≡ overwrite (λ j. due_of (task_at l.list.tasks j)) l.i l.initial.deadlines) × (l.runtimes ≡ overwrite (λ j. runtime_of (task_at l.list.tasks j) 0) l.i l.initial.runtimes)
