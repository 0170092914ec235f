-- A task list read as a plan: the nearer deadline first, one run-time a task. Where each deadline is the end of the period that is
-- rate-monotonic.
use Rattle.std.specs.Prelude.{ℕ, List, get_or, length, replicate}
use Rattle.basis.specs.Bytes.{overwrite}
use Rattle.plan.specs.Plan.{Plan}
use Rattle.tasks.specs.declared.Task.{Task}
use Rattle.tasks.specs.declared.TaskList.{TaskList}

-- what stands where there is no task
unfoldable pub no_task : Task
no_task = record { period = 0; runtime = 0; memory = 0; deadline = 0 }

-- the task at a place, counted from 0: task number i + 1
unfoldable pub task_at : List Task → ℕ → Task
task_at ts i = get_or ts i no_task

-- The deadline of a task's jobs, counted from the release.
abbrev pub due_of : Task → ℕ
due_of t = t.deadline

-- The run-time of its job k: the same for all.
abbrev pub runtime_of : Task → ℕ → ℕ
runtime_of t k = t.runtime

-- What its job k is ranked by. The nearer deadline goes first; of equal deadlines, the earlier in the list.
abbrev pub key_of : Task → ℕ → ℕ
key_of t k = t.deadline

unfoldable pub plan_of : TaskList → Plan
plan_of l =
    record {
      count = l.count;
      period = λ i. (task_at l.tasks i).period;
      due = λ i. due_of (task_at l.tasks i);
      runtime = λ i. runtime_of (task_at l.tasks i);
      key = λ i. key_of (task_at l.tasks i);
    }

-- The list that a run of records makes: the first 16 of them, and a count that says how many there are, more than 16 too.
unfoldable pub list_of : List Task → TaskList
list_of ts = record { tasks = overwrite (task_at ts) 16 (replicate 16 no_task); count = length ts }
