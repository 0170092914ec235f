-- What deadlines leave as it was: a list whose deadlines are its periods is judged, put in a table, asked about and run as the rules
-- paper has it, which knows no deadlines. DeadlinesHold has the proof.
use Rattle.std.specs.Prelude.{◌≡◌, false, not, List, ℕ, suc, ◌≤◌, ◌<◌, ◌↔◌, eqb, Result, Ok, Err}
use Rattle.std.specs.Int.{◌∣◌}
use Rattle.basis.specs.Choose.{choose, within}
use Rattle.basis.specs.Bytes.{overwrite}
use Rattle.basis.specs.Answer.{Answer, refusal, none, ◌or_else◌, first_found}
use Rattle.plan.specs.Plan.{Plan, table}
use Rattle.plan.specs.Points.{first_without}
use Rattle.tasks.specs.declared.TaskList.{TaskList}
use Rattle.tasks.specs.List.{task_at, plan_of}
use Rattle.tasks.specs.Refusal.{refusal_answer, bound_refusal}
use Rattle.tasks.specs.Bounds.{of_count, of_memory, of_cycle, cycle_of, jobs_of}
use Rattle.quick.specs.declared.Refused.{Refused}
use Rattle.quick.specs.Quick.{tried, quick_of}
use Rattle.verdict.specs.declared.Accepted.{Accepted}
use Rattle.verdict.specs.Lateness.{lateness}
use Rattle.verdict.specs.Verdict.{Verdict, judged, verdict_of}
use Rattle.verdict.specs.Table.{Built}
use Rattle.run.specs.declared.State.{State}
use Rattle.run.specs.State.{fresh, period_of, due_of, runtime_of, key_of, current_of, job_of, deadline_next, release_next}
use Rattle.run.specs.Sound.{SoundState}
use Rattle.run.specs.Step.{after_slice, job_after}

-- ---- the rules paper
-- Its plan: a deadline at the end of each period; shorter period first, of equal periods the earlier in the list.
unfoldable pub rate_monotonic : TaskList → Plan
rate_monotonic l =
    record {
      count = l.count;
      period = λ i. (task_at l.tasks i).period;
      due = λ i. (task_at l.tasks i).period;
      runtime = λ i k. (task_at l.tasks i).runtime;
      key = λ i k. (task_at l.tasks i).period;
    }

-- 3: period outside 1 to 4,096. 4: run-time 0 or above the period.
unfoldable pub of_pair : ℕ → ℕ → ℕ → Answer
of_pair period runtime task =
    choose (not (within 1 4096 period)) (refusal 3 task) (choose (not (within 1 period runtime)) (refusal 4 task) none)

-- Lists go 1, 2, then 3 and 4 task by task, then 5, then 6,
unfoldable pub found_before : TaskList → ℕ → Answer
found_before l supply =
    of_count l.count
    or_else first_found (λ i. of_pair (task_at l.tasks i).period (task_at l.tasks i).runtime (suc i)) l.count
    or_else first_found (of_memory l.tasks supply) l.count
    or_else first_found (of_cycle l.tasks) l.count

-- then 7, by the slice rule over the cycle; and quickly, by the points.
unfoldable pub verdict_before : TaskList → ℕ → Verdict
verdict_before l supply =
    choose (eqb (found_before l supply).number 0)
    (judged (rate_monotonic l) (cycle_of l) (jobs_of l) (lateness (rate_monotonic l) (cycle_of l)))
    (Err (bound_refusal (found_before l supply)))

unfoldable pub quick_before : TaskList → ℕ → Result (Unit {0}) Refused
quick_before l supply =
    choose (eqb (found_before l supply).number 0)
    (tried (first_without (rate_monotonic l)))
    (Err (record { number = (found_before l supply).number; task = (found_before l supply).task }))

-- A state is sound: each period from 1 to 4,096 and dividing the cycle; each run-time from 1 to its period; slices used at most the
-- run-time, and below it unless the job has ended.
pub record SoundBefore (s : State) : Type 0 where
  pub count_from : 1 ≤ s.count
  pub count_within : s.count ≤ 16
  pub cycle_from : 1 ≤ s.cycle
  pub cycle_to : s.cycle ≤ 4096
  pub position_to : s.position ≤ s.cycle
  pub period_from : (i : ℕ) → i < s.count → 1 ≤ period_of s i
  pub period_to : (i : ℕ) → i < s.count → period_of s i ≤ 4096
  pub period_divides : (i : ℕ) → i < s.count → period_of s i ∣ s.cycle
  pub runtime_from : (i : ℕ) → i < s.count → 1 ≤ runtime_of s i (current_of s i)
  pub runtime_to : (i : ℕ) → i < s.count → runtime_of s i (current_of s i) ≤ period_of s i
  pub used_to : (i : ℕ) → i < s.count → (job_of s i).used ≤ runtime_of s i (current_of s i)
  pub used_below : (i : ℕ) → i < s.count → (job_of s i).ended ≡ false → (job_of s i).used < runtime_of s i (current_of s i)

-- ---- deadlines at the periods
abbrev pub AtPeriods : TaskList → Type 0
AtPeriods l = (i : ℕ) → (task_at l.tasks i).deadline ≡ (task_at l.tasks i).period

abbrev pub StateAtPeriods : State → Type 0
StateAtPeriods s = (i : ℕ) → due_of s i ≡ period_of s i

pub record Deadlines : Type 0 where
  -- Of such a list the plan is the rate-monotonic one; the verdict, the quick answer and the table are those of the rules paper, and
  -- a refusal by its bounds says what is found there.
  pub plan_as_before : (l : TaskList) → AtPeriods l → plan_of l ≡ rate_monotonic l
  pub verdict_as_before : (l : TaskList) → AtPeriods l → (supply : ℕ) → verdict_of l supply ≡ verdict_before l supply
  pub quick_as_before : (l : TaskList) → AtPeriods l → (supply : ℕ) → quick_of l supply ≡ quick_before l supply
  pub table_as_before : (l : TaskList) → AtPeriods l → (supply : ℕ) (old new : List ℕ) (a : Accepted) → Built l supply old new (Ok a) → new ≡ overwrite (table (rate_monotonic l)) a.cycle old
  pub said_as_before : (l : TaskList) → AtPeriods l → (supply : ℕ) → ((found_before l supply).number ≡ 0 → ⊥) → refusal_answer (bound_refusal (found_before l supply)) ≡ found_before l supply
  -- Of such a state soundness is as it was; rank goes by the period; late is who has not ended at the next release, where a fresh job
  -- begins.
  pub sound_as_before : (s : State) → StateAtPeriods s → SoundState s ↔ SoundBefore s
  pub rank_as_before : (s : State) → StateAtPeriods s → (i k : ℕ) → key_of s i k ≡ period_of s i
  pub late_as_before : (s : State) → StateAtPeriods s → (i : ℕ) → deadline_next s i ≡ release_next s i
  pub job_as_before : (s : State) → StateAtPeriods s → (ran report i : ℕ) → job_after s ran report i ≡ choose (release_next s i) fresh (after_slice s ran report i)
