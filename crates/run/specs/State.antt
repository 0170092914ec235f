-- The state of a run: its tasks and their current jobs, when it is sound, and where a job's byte stands in the log.
use Rattle.std.specs.Prelude.{ℕ, zero, suc, ◌+◌, ◌/◌, ◌%◌, Bool, true, false, ◌&&◌, ◌||◌, List, ◌==◌, nat_le, nat_lt, slice_index_or}
use Rattle.basis.specs.Bytes.{at}
use Rattle.basis.specs.Sum.{sum}
use Rattle.basis.specs.Choose.{within}
use Rattle.run.specs.declared.State.{State}

-- ---- tasks and jobs
-- Task i, counted from 0: its period,
unfoldable pub period_of : State → ℕ → ℕ
period_of s i = at s.periods i

-- the deadline of its jobs, counted from the release,
unfoldable pub due_of : State → ℕ → ℕ
due_of s i = at s.deadlines i

-- the run-time of its job k: the same for all,
unfoldable pub runtime_of : State → ℕ → ℕ → ℕ
runtime_of s i k = at s.runtimes i

-- and what its job k is ranked by.
abbrev pub key_of : State → ℕ → ℕ → ℕ
key_of s i k = due_of s i

-- The number of its current job, and how many slices old that job is.
unfoldable pub current_of : State → ℕ → ℕ
current_of s i = s.position / period_of s i

unfoldable pub age_of : State → ℕ → ℕ
age_of s i = s.position % period_of s i

-- The job itself: the slices that it has used, and whether it has ended. A fresh job has 0 used and has not ended.
pub record Job : Type 0 where
  pub used : ℕ
  pub ended : Bool

unfoldable pub fresh : Job
fresh = record { used = 0; ended = false }

unfoldable pub job_of : State → ℕ → Job
job_of s i = record { used = at s.used i; ended = slice_index_or s.ended i false }

-- ---- soundness
-- the test holds for every number below n
unfoldable pub every : (ℕ → Bool) → ℕ → Bool
every test zero = true
every test (suc n) = every test n && test n

-- Each period from 1 to 4,096 and dividing the cycle; each run-time from 1 to its period; each deadline from the run-time to the
-- period; slices used at most the run-time, and below it unless the job has ended; from the deadline to the next release the job has
-- ended, its age being counted from its release.
unfoldable pub sound_task : ℕ → ℕ → ℕ → ℕ → ℕ → Job → Bool
sound_task cycle period due runtime age j =
    within 1 4096 period && cycle % period == 0 && within 1 period runtime && within runtime period due && nat_le j.used runtime
    && (j.ended || (nat_lt j.used runtime && nat_lt age due))

-- 1 to 16 tasks; the cycle at most 4,096 and not 0; position from 0 to the cycle; every task as above.
unfoldable pub sound : State → Bool
sound s =
    within 1 16 s.count && within 1 4096 s.cycle && nat_le s.position s.cycle && every (λ i. sound_task s.cycle (period_of s i) (due_of s i) (runtime_of s i (current_of s i)) (age_of s i) (job_of s i)) s.count

-- ---- the log
-- All jobs of task 1, then all of task 2, and so on: the jobs of the tasks before task i,
unfoldable pub offset : State → ℕ → ℕ
offset s i = sum (λ j. s.cycle / period_of s j) i

-- all jobs,
unfoldable pub job_count : State → ℕ
job_count s = offset s s.count

-- and the place of the current job of task i.
unfoldable pub place : State → ℕ → ℕ
place s i = offset s i + current_of s i

-- (The same of the numbers that it goes by.)
unfoldable pub place_in : List ℕ → ℕ → ℕ → ℕ → ℕ
place_in periods cycle position i = sum (λ j. cycle / at periods j) i + position / at periods i

-- The slice at the position is the last before the current job's deadline; the last before the task's next release.
unfoldable pub deadline_next : State → ℕ → Bool
deadline_next s i = suc (age_of s i) == due_of s i

unfoldable pub release_next : State → ℕ → Bool
release_next s i = suc (age_of s i) == period_of s i
