-- `lent::copied` meets its contract: the records that have a place stand at the front, and no task after them.
use Rattle.std.proofs.Common.{◌≡◌, ℕ, List, ◌++◌, length, take, drop, replicate, min, ◌∙◌, arith}
use Rattle.basis.proofs.Overwritten.{copied_front}
use Rattle.tasks.specs.declared.Task.{Task}
use Rattle.tasks.specs.List.{no_task, task_at, list_of}
use Rattle.lent.specs.Shapes.{filled, filled_all}
use Rattle.lent.proofs.copied.Goals as goal

makes_list : (ts front : List Task) (n : ℕ) → n ≡ min (length ts) 16 → front ≡ take n ts → record { tasks = front ++ drop n (replicate 16 no_task); count = length ts } ≡ list_of ts
unfolding filled task_at
makes_list ts front n held is = (λ j. record { tasks = copied_front no_task ts (replicate 16 no_task) front n is (omega arith) (omega arith) j; count = length ts }) ∙ filled_all ts n held

pub returns : goal.returns
unfolding no_task
returns c = makes_list _ _ _ c.min-held.ensures c.copy_from_slice.ensures.after
