-- What bounds a task list: refusals 1 to 6 and 20, in the order in which they are looked for, and the cycle and job count of a
-- list that keeps all bounds.
use Rattle.std.specs.Prelude.{List, not, ℕ, zero, suc, ◌/◌, ltb, eqb, pos, Result, Ok, Err}
use Rattle.basis.specs.Choose.{choose, within}
use Rattle.basis.specs.Sum.{sum}
use Rattle.basis.specs.Answer.{Answer, refusal, clash, none, ◌or_else◌, first_found}
use Rattle.tasks.specs.declared.Task.{Task}
use Rattle.tasks.specs.declared.TaskList.{TaskList}
use Rattle.tasks.specs.declared.InBounds.{InBounds}
use Rattle.tasks.specs.declared.refusals.Refusal.{Refusal}
use Rattle.tasks.specs.Refusal.{refusal_answer, unless_broken}
use Rattle.tasks.specs.List.{task_at}
use Rattle.tasks.specs.Euclid.{lcm_of}

-- ---- sums and multiples over the first n tasks
-- The running multiple: the least common multiple of the first n periods.
unfoldable pub multiple : List Task → ℕ → ℕ
multiple ts zero = 1
multiple ts (suc n) = lcm_of (multiple ts n) (task_at ts n).period

-- The running sum of memory.
unfoldable pub memory_sum : List Task → ℕ → ℕ
memory_sum ts n = sum (λ i. (task_at ts i).memory) n

-- The jobs in a cycle: the sum of cycle / period.
unfoldable pub job_sum : List Task → ℕ → ℕ → ℕ
job_sum ts cycle n = sum (λ i. cycle / (task_at ts i).period) n

unfoldable pub cycle_of : TaskList → ℕ
cycle_of l = multiple l.tasks l.count

unfoldable pub jobs_of : TaskList → ℕ
jobs_of l = job_sum l.tasks (cycle_of l) l.count

-- ---- refusals 1 to 6 and 20
-- 1: no tasks. 2: more than 16.
unfoldable pub of_count : ℕ → Answer
of_count n = choose (eqb n 0) (refusal 1 0) (choose (ltb 16 n) (refusal 2 0) none)

-- 3: period outside 1 to 4,096. 4: run-time 0 or above the period. 20: deadline below the run-time or above the period. Each names
-- that task.
unfoldable pub of_numbers : ℕ → ℕ → ℕ → ℕ → Answer
of_numbers period runtime deadline task =
    choose (not (within 1 4096 period)) (refusal 3 task)
    (choose (not (within 1 period runtime)) (refusal 4 task) (choose (not (within runtime period deadline)) (refusal 20 task) none))

unfoldable pub of_task : List Task → ℕ → Answer
of_task ts i = of_numbers (task_at ts i).period (task_at ts i).runtime (task_at ts i).deadline (suc i)

-- 5: memory exceeds the supply; names the first task where the running sum does.
unfoldable pub of_memory : List Task → ℕ → ℕ → Answer
of_memory ts supply i = choose (ltb supply (memory_sum ts (suc i))) (refusal 5 (suc i)) none

-- 6: cycle above 4,096; names the first task where the running multiple is, with the multiple before it and its period.
unfoldable pub of_cycle : List Task → ℕ → Answer
of_cycle ts i = choose (ltb 4096 (multiple ts (suc i))) (clash (suc i) (multiple ts i) (task_at ts i).period) none

-- Lists go 1, 2, then 3, 4 and 20 task by task, then 5, then 6.
unfoldable pub found : TaskList → ℕ → Answer
found l supply =
    of_count l.count
    or_else first_found (of_task l.tasks) l.count
    or_else first_found (of_memory l.tasks supply) l.count
    or_else first_found (of_cycle l.tasks) l.count

-- The answer: the refusal found, or else cycle and job count.
unfoldable pub answer : Answer → ℕ → ℕ → Result InBounds Refusal
answer f cycle jobs = unless_broken f (record { cycle = cycle; jobs = jobs })

unfoldable pub bounds_of : TaskList → ℕ → Result InBounds Refusal
bounds_of l supply = answer (found l supply) (cycle_of l) (jobs_of l)

-- The paper's values of each case.
unfoldable pub bounds_answer : Result InBounds Refusal → Answer
bounds_answer (Ok k) = record { number = 0; task = 0; margin = pos 0; cycle = k.cycle; jobs = k.jobs; reached = 0; period = 0 }
bounds_answer (Err r) = refusal_answer r
