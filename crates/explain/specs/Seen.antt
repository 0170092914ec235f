-- A run of a list, one entry a slice: its checks, and its explanation by needs. What each call answers and writes.
use Rattle.std.specs.Prelude.{◌≡◌, Bool, true, ◌&&◌, List, ◌⊎◌, ℕ, zero, suc, ◌+◌, ◌/◌, ◌≤◌, ◌<◌, leb, eqb, length, Option, Some, None, Result, Ok, Err}
use Rattle.basis.specs.Answer.{Answer, none}
use Rattle.basis.specs.Bytes.{at}
use Rattle.basis.specs.Choose.{choose}
use Rattle.plan.specs.Plan.{Demand}
use Rattle.needs.specs.Explained.{Explains}
use Rattle.tasks.specs.declared.TaskList.{TaskList}
use Rattle.tasks.specs.List.{plan_of}
use Rattle.tasks.specs.Bounds.{cycle_of, job_sum, jobs_of}
use Rattle.tasks.specs.declared.refusals.Refusal.{Refusal}
use Rattle.tasks.specs.declared.refusals.Refusal.TheVariants.{OtherForm, OtherLength, EntryAbove, NoRoom}
use Rattle.tasks.specs.Refusal.{refusal_answer}
use Rattle.verdict.specs.Verdict.{Verdict, verdict_of}

abbrev pub Viewed : Type 0
Viewed = Result (Option ℕ) Refusal

-- The paper's values of each case. Yes and no are no refusals.
unfoldable pub viewed_answer : Viewed → Answer
viewed_answer (Ok _) = none
viewed_answer (Err r) = refusal_answer r

-- The refusal of that number which is not the list's, one of 18, 19, 30 and 31: of 18 with the place.
unfoldable pub run_refusal : ℕ → ℕ → Refusal
run_refusal number place = choose (eqb number 18) (OtherForm place) (choose (eqb number 19) OtherLength (choose (eqb number 30) EntryAbove NoRoom))

unfoldable pub refused_by : ℕ → ℕ → Viewed
refused_by number place = Err (run_refusal number place)

-- The list's own checks come first, and refused by one of them, nothing is written.
unfoldable pub AfterList : Verdict → (ℕ → ℕ → Type 0) → (old new : List ℕ) → Viewed → Type 0
AfterList (Ok a) Then old new r = Then a.cycle a.jobs
AfterList (Err e) Then old new r = (r ≡ Err e) × (new ≡ old)

-- ---- the checks of a run
-- each of the first n entries is at most the count
unfoldable pub entries_to : ℕ → List ℕ → ℕ → Bool
entries_to count run zero = true
entries_to count run (suc n) = entries_to count run n && leb (at run n) count

-- 19: its length is not the cycle; 30: an entry is above the task count; 31: what is lent is too short. 0: none of them.
unfoldable pub run_number : ℕ → ℕ → List ℕ → ℕ → ℕ → ℕ
run_number cycle count run needed room =
    choose (eqb (length run) cycle) (choose (entries_to count run (length run)) (choose (leb needed room) 0 31) 30) 19

-- Refused by that number, or the value.
unfoldable pub unless_run_refused : {A : Type 0} → ℕ → A → Result A Refusal
unless_run_refused number x = choose (eqb number 0) (Ok x) (Err (run_refusal number 0))

-- Refused by that number, or so much is given.
unfoldable pub unless_refused : ℕ → ℕ → Viewed
unless_refused number count = unless_run_refused number (Some count)

-- The checks alone, of a list and a run, or its cycle: nothing is lent, so 31 does not occur.
unfoldable pub checked_by : Verdict → ℕ → List ℕ → Result ℕ Refusal
checked_by (Ok a) count run = unless_run_refused (run_number a.cycle count run 0 0) a.cycle
checked_by (Err r) count run = Err r

unfoldable pub checked_of : TaskList → ℕ → List ℕ → Result ℕ Refusal
checked_of l supply run = checked_by (verdict_of l supply) l.count run

-- ---- explaining
-- The needs stand in the log's order: all jobs of task 1, then all of task 2, and so on. What lies behind them stays.
pub record NeedsIn (l : TaskList) (need : Demand) (old new : List ℕ) : Type 0 where
  pub long : length new ≡ length old
  pub each : (i k : ℕ) → i < l.count → k < cycle_of l / (plan_of l).period i → at new (job_sum l.tasks (cycle_of l) i + k) ≡ need i k
  pub beyond : (x : ℕ) → jobs_of l ≤ x → at new x ≡ at old x

-- Yes: needs that lead the filling run to this run, none above its run-time, so that a job that took its whole run-time is given
-- just that.
pub record Yes (l : TaskList) (run old new : List ℕ) (r : Viewed) : Type 0 where
  pub need : Demand
  pub explains : Explains (plan_of l) (cycle_of l) run need
  pub just : (i k : ℕ) → i < l.count → k < cycle_of l / (plan_of l).period i → need i k ≤ (plan_of l).runtime i k
  pub needs : NeedsIn l need old new
  pub answer : r ≡ Ok (Some (jobs_of l))

-- No: no needs do, and nothing is written.
pub record NoNeeds (l : TaskList) (run old new : List ℕ) (r : Viewed) : Type 0 where
  pub none_lead : (need : Demand) → Explains (plan_of l) (cycle_of l) run need → ⊥
  pub answer : r ≡ Ok None
  pub bytes : new ≡ old

-- A run that is refused by 19, 30 or 31 is not looked at further, and nothing is written.
pub record Explained (l : TaskList) (run old new : List ℕ) (r : Viewed) (cycle jobs : ℕ) : Type 0 where
  pub refused : (run_number cycle l.count run jobs (length old) ≡ 0 → ⊥) → (r ≡ refused_by (run_number cycle l.count run jobs (length old)) 0) × (new ≡ old)
  pub said : run_number cycle l.count run jobs (length old) ≡ 0 → Yes l run old new r ⊎ NoNeeds l run old new r

unfoldable pub ExplainsRun : TaskList → ℕ → List ℕ → List ℕ → List ℕ → Viewed → Type 0
ExplainsRun l supply run old new r = AfterList (verdict_of l supply) (λ cycle jobs. Explained l run old new r cycle jobs) old new r
