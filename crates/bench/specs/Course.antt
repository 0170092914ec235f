-- The course of a run: what is held after so many slices, each closed with the report that the job's need makes, and the
-- position at which each job was logged.
use Rattle.std.specs.Prelude.{◌≡◌, ℕ, zero, suc, ◌+◌, ◌<◌, List, length, ◌==◌, slice_index, Result, Ok, Err}
use Rattle.basis.specs.Choose.{choose}
use Rattle.basis.specs.Bytes.{overwrite}
use Rattle.plan.specs.Plan.{Demand}
use Rattle.run.specs.declared.State.{State}
use Rattle.run.specs.declared.Refusal.{Refusal}
use Rattle.run.specs.declared.Next.{Next}
use Rattle.run.specs.State.{current_of, job_of, offset}
use Rattle.run.specs.Who.{running, who_of, runner_answer}
use Rattle.run.specs.Step.{next_clock, step_refusal, state_after, log_after, answer_of, next_state, next_log, Stepped}

-- The state, the log, and for each job the position at which it was logged, 0 while it was not.
pub record Course : Type 0 where
  pub state : State
  pub log : List ℕ
  pub ends : List ℕ

-- ---- the report
-- A job reports finished, 1, exactly in the slice where its count reaches its need.
unfoldable pub report_of : Demand → State → ℕ → ℕ
report_of need s zero = 0
report_of need s (suc i) = choose ((job_of s i).used + 1 == need i (current_of s i)) 1 0

-- The one who reports is the one who runs.
unfoldable pub report_in : List ℕ → Demand → State → ℕ
report_in table need s = report_of need s (runner_answer (who_of s table)).task

-- Needs may be lent as a list that stands as the log does: all jobs of task 1, then all of task 2, and so on.
unfoldable pub need_in : List ℕ → State → Demand
need_in needs s i k = slice_index needs (offset s i + k)

-- ---- the ends
-- A job that is logged and has no end yet ends at this position.
unfoldable pub end_of : ℕ → ℕ → ℕ → ℕ
end_of position byte end = choose (end == 0) (choose (byte == 0) 0 position) end

unfoldable pub noted : List ℕ → ℕ → List ℕ → List ℕ
noted log position ends = overwrite (λ i. end_of position (slice_index log i) (slice_index ends i)) (length ends) ends

-- ---- one slice
unfoldable pub refusal_in : List ℕ → Demand → Course → ℕ
refusal_in table need c = step_refusal c.state table (next_clock c.state.clock) (report_in table need c.state) c.log

unfoldable pub state_in : List ℕ → Demand → Course → State
state_in table need c =
    next_state (refusal_in table need c) c.state (state_after c.state (running c.state table) (next_clock c.state.clock) (report_in table need c.state))

unfoldable pub log_in : List ℕ → Demand → Course → List ℕ
log_in table need c = next_log (refusal_in table need c) c.log (log_after c.state (running c.state table) (report_in table need c.state) c.log)

-- A refused step ends no job.
unfoldable pub ends_by : Result (Unit {0}) Refusal → List ℕ → List ℕ → List ℕ
ends_by (Ok _) new old = new
ends_by (Err r) new old = old

unfoldable pub closed : List ℕ → Demand → Course → Course
closed table need c =
    record {
      state = state_in table need c;
      log = log_in table need c;
      ends = ends_by (answer_of (refusal_in table need c)) (noted (log_in table need c) (state_in table need c).position c.ends) c.ends;
    }

pub record SliceClosed (table : List ℕ) (need : Demand) (c : Course) (log' ends' : List ℕ) (r : Next) : Type 0 where
  pub answer : r.answer ≡ answer_of (refusal_in table need c)
  pub after : record { state = r.state; log = log'; ends = ends' } ≡ closed table need c

-- ---- slice after slice
unfoldable pub course_at : List ℕ → Demand → Course → ℕ → Course
course_at table need c zero = c
course_at table need c (suc p) = closed table need (course_at table need c p)

-- The same of whatever the steps answer, as long as each keeps its contract: state s p and log g p before step p, whose answer
-- is r p.
pub record Steps (cycle : ℕ) (table : List ℕ) (need : Demand) (s : ℕ → State) (g : ℕ → List ℕ) (r : ℕ → Next) : Type 0 where
  pub stepped : (p : ℕ) → p < cycle → Stepped (s p) table (next_clock (s p).clock) (report_in table need (s p)) (g p) (g (suc p)) (r p)
  pub handed : (p : ℕ) → p < cycle → s (suc p) ≡ (r p).state
