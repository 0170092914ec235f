-- The step that closes the slice at the state's position: refusals 9 to 14, the log and the next state.
use Rattle.std.specs.Prelude.{◌≡◌, ℕ, zero, suc, ◌+◌, ◌%◌, ◌^◌, Bool, not, ◌&&◌, ◌||◌, List, length, Result, Ok, Err, ◌==◌, nat_lt, slice_set, refl}
use Rattle.std.proofs.Common.{ap, arith}
use Rattle.basis.specs.Choose.{choose}
use Rattle.basis.specs.Bytes.{overwrite}
use Rattle.basis.specs.Answer.{Answer, refusal, none, ◌or_else◌}
use Rattle.run.specs.declared.Mode.{Mode}
use Rattle.run.specs.declared.State.{State}
use Rattle.run.specs.declared.Refusal.{Refusal}
use Rattle.run.specs.declared.Next.{Next}
use Rattle.run.specs.State.{Job, fresh, runtime_of, current_of, job_of, job_count, place, deadline_next, release_next}
use Rattle.run.specs.Who.{running, who_found, number_of, unless_refused, IsFound, some_back, found_if, found_unless, found_else, who_found_is}

-- ---- refusals 12 to 14, after 9 to 11
-- 12: log shorter than the job count.
unfoldable pub of12 : State → List ℕ → Answer
of12 s log = choose (nat_lt (length log) (job_count s)) (refusal 12 0) none

-- After 4,294,967,295 comes 0.
unfoldable pub next_clock : ℕ → ℕ
next_clock clock = (clock + 1) % 2 ^ 32

-- 13: clock reading wrong: not one more than the last.
unfoldable pub of13 : State → ℕ → Answer
of13 s clock = choose (clock == next_clock s.clock) none (refusal 13 0)

-- 14: report above 1, or finished in an idle slice.
unfoldable pub of14 : ℕ → ℕ → Answer
of14 ran report = choose (nat_lt 1 report || (report == 1 && ran == 0)) (refusal 14 0) none

-- A step goes 9 to 14.
unfoldable pub step_found : State → List ℕ → ℕ → ℕ → List ℕ → Answer
step_found s table clock report log = who_found s table or_else of12 s log or_else of13 s clock or_else of14 (running s table) report

abbrev pub step_refusal : State → List ℕ → ℕ → ℕ → List ℕ → ℕ
step_refusal s table clock report log = (step_found s table clock report log).number

-- ---- what the slice does, `ran` being the entry of the task that ran and `report` 0 for still working, 1 for finished
-- The task that ran used one slice more. Its job has ended if it finished, or if this slice completes its run-time.
unfoldable pub after_slice : State → ℕ → ℕ → ℕ → Job
after_slice s ran report i =
    choose (ran == suc i)
    (record { used = (job_of s i).used + 1; ended = report == 1 || ((job_of s i).used + 1 == runtime_of s i (current_of s i)) })
    (job_of s i)

-- Finished writes 1 (done) for that job. Still working in the slice that completes its run-time writes 2 (over).
unfoldable pub result_of : State → ℕ → ℕ → List ℕ → List ℕ
result_of s i report log =
    choose (report == 1) (slice_set log (place s i) 1) (choose ((job_of s i).used + 1 == runtime_of s i (current_of s i)) (slice_set log (place s i) 2) log)

unfoldable pub with_result : State → ℕ → ℕ → List ℕ → List ℕ
with_result s zero report log = log
with_result s (suc i) report log = result_of s i report log

-- Then every task with a deadline after this slice whose job has not ended gets 3 (late), task by task.
unfoldable pub with_late : State → ℕ → ℕ → List ℕ → ℕ → List ℕ
with_late s ran report log zero = log
with_late s ran report log (suc i) =
    choose (deadline_next s i && not (after_slice s ran report i).ended) (slice_set (with_late s ran report log i) (place s i) 3) (with_late s ran report log i)

unfoldable pub log_after : State → ℕ → ℕ → List ℕ → List ℕ
log_after s ran report log = with_late s ran report (with_result s ran report log) s.count

-- It is closed there: it has ended, and the task waits for its next release.
unfoldable pub closed_at : Bool → Job → Job
closed_at last j = record { used = j.used; ended = j.ended || last }

-- And each task with a release there begins a fresh job.
unfoldable pub job_after : State → ℕ → ℕ → ℕ → Job
job_after s ran report i = choose (release_next s i) fresh (closed_at (deadline_next s i) (after_slice s ran report i))

-- The position rises by one. Places beyond the task count are handed on.
unfoldable pub state_after : State → ℕ → ℕ → ℕ → State
state_after s ran clock report =
    record {
      periods = s.periods;
      deadlines = s.deadlines;
      runtimes = s.runtimes;
      used = overwrite (λ i. (job_after s ran report i).used) s.count s.used;
      ended = overwrite (λ i. (job_after s ran report i).ended) s.count s.ended;
      count = s.count;
      cycle = s.cycle;
      position = s.position + 1;
      clock = clock;
      mode = s.mode;
    }

-- ---- the step
-- A refused step gives back the state that it got and writes nothing.
unfoldable pub answer_of : ℕ → Result (Unit {0}) Refusal
answer_of n = unless_refused n tt

unfoldable pub next_state : ℕ → State → State → State
next_state zero s after = after
next_state (suc n) s after = s

unfoldable pub next_log : ℕ → List ℕ → List ℕ → List ℕ
next_log zero log after = after
next_log (suc n) log after = log

pub record Stepped (s : State) (table : List ℕ) (clock report : ℕ) (log log' : List ℕ) (r : Next) : Type 0 where
  pub answer : r.answer ≡ answer_of (step_refusal s table clock report log)
  pub state : r.state ≡ next_state (step_refusal s table clock report log) s (state_after s (running s table) clock report)
  pub bytes : log' ≡ next_log (step_refusal s table clock report log) log (log_after s (running s table) report log)

-- The same of a state that lies with the caller: what it and the log hold afterwards.
abbrev pub SteppedIn : State → List ℕ → ℕ → ℕ → List ℕ → List ℕ → State → Result (Unit {0}) Refusal → Type 0
SteppedIn s table clock report log log' after r = Stepped s table clock report log log' (record { answer = r; state = after })

-- A state by its parts.
abbrev pub state_of : List ℕ → List ℕ → List ℕ → List ℕ → List Bool → ℕ → ℕ → ℕ → ℕ → Mode → State
state_of periods deadlines runtimes used ended count cycle position clock mode =
    record { periods = periods; deadlines = deadlines; runtimes = runtimes; used = used; ended = ended; count = count; cycle = cycle; position = position; clock = clock; mode = mode }

-- The paper's values of each case.
unfoldable pub closed_answer : Result (Unit {0}) Refusal → Answer
closed_answer (Ok done) = none
closed_answer (Err r) = refusal (number_of r) 0

-- ---- the numbers that arise
pub step_found_is : (s : State) (table : List ℕ) (clock report : ℕ) (log : List ℕ) → IsFound (step_refusal s table clock report log)
unfolding step_found of12 of13 of14
step_found_is s table clock report log =
    found_else _ _ (who_found_is s table)
    (found_else _ _ (found_if _ 12 (omega arith) (omega arith)) (found_else _ _ (found_unless _ 13 (omega arith) (omega arith)) (found_if _ 14 (omega arith) (omega arith))))

-- What a step's answer says is the refusal that was found.
pub closed_number : (n : ℕ) → IsFound n → closed_answer (answer_of n) ≡ refusal n 0
unfolding closed_answer answer_of unless_refused none
closed_number zero f = refl
closed_number (suc n) f = ap (λ (x : ℕ). refusal x 0) (some_back n f)

pub step_says : (s : State) (table : List ℕ) (clock report : ℕ) (log : List ℕ) → closed_answer (answer_of (step_refusal s table clock report log)) ≡ refusal (step_refusal s table clock report log) 0
step_says s table clock report log = closed_number (step_refusal s table clock report log) (step_found_is s table clock report log)
