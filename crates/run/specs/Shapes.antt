-- Shaped like the code, for private contracts alone; the laws of proofs/ tie each to the definitions of State, Who and Step.
use Rattle.std.specs.Prelude.{◌≡◌, ℕ, zero, suc, ◌+◌, ◌<◌, ◌≤◌, Bool, true, false, not, ◌&&◌, ◌||◌, List, length, Option, Some, None, Result, Ok, Err, ◌==◌, nat_lt, slice_index_or, slice_set}
use Rattle.basis.specs.Bytes.{at}
use Rattle.basis.specs.Choose.{choose}
use Rattle.run.specs.declared.ask.Asked.{Asked}
use Rattle.run.specs.declared.close.Outcome.{Outcome}
use Rattle.run.specs.declared.close.Outcome.TheVariants.{Done, Over, Late}
use Rattle.run.specs.declared.Refusal.{Refusal}
use Rattle.run.specs.declared.Refusal.TheVariants.{NoEntry}
use Rattle.run.specs.declared.State.{State}
use Rattle.run.specs.State.{period_of, due_of, runtime_of, current_of, age_of, job_of, every, sound_task, sound, job_count, place, deadline_next, release_next}
use Rattle.run.specs.Who.{unless_ended, running, who_refusal, of_entry, unless_refused}
use Rattle.run.specs.Step.{next_clock}

-- ---- soundness and job count in one pass
unfoldable pub sound_at : State → ℕ → Bool
sound_at s i = sound_task s.cycle (period_of s i) (due_of s i) (runtime_of s i (current_of s i)) (age_of s i) (job_of s i)

unfoldable pub jobs_of : State → Option ℕ
jobs_of s = choose (every (sound_at s) s.count) (Some (job_count s)) None

unfoldable pub jobs_if_sound : State → Option ℕ
jobs_if_sound s = choose (sound s) (Some (job_count s)) None

-- ---- asking
-- The scan has found this entry so far: idle, or that of one of 16 tasks.
pub record OfEntry (best : Option ℕ) : Type 0 where
  pub entry : ℕ
  pub is : best ≡ of_entry entry
  pub to : entry ≤ 16

unfoldable pub table_ask : State → List ℕ → Result (Option ℕ) Refusal
table_ask s table =
    choose (nat_lt (length table) s.cycle || nat_lt s.count (at table s.position)) (Err NoEntry) (Ok (of_entry (unless_ended s (at table s.position))))

unfoldable pub asked_of : State → List ℕ → Result Asked Refusal
asked_of s table = unless_refused (who_refusal s table) (record { jobs = job_count s; ran = of_entry (running s table) })

-- ---- refusals 12 to 14
unfoldable pub twelve_on : ℕ → ℕ → ℕ → ℕ → Bool → ℕ → ℕ
twelve_on jobs length last clock idle report =
    choose (nat_lt length jobs) 12 (choose (clock == next_clock last) (choose (nat_lt 1 report || (report == 1 && idle)) 14 0) 13)

-- ---- a slice
unfoldable pub outcome_byte : Outcome → ℕ
outcome_byte Done = 1
outcome_byte Over = 2
outcome_byte Late = 3

unfoldable pub ended_with : State → ℕ → State
ended_with s i = record s { ended = slice_set s.ended i true }

-- Whoever ran has a job in the log.
pub record Serves (s : State) (log : List ℕ) (ran : Option ℕ) : Type 0 where
  pub entry : ℕ
  pub is : ran ≡ of_entry entry
  pub task_to : entry ≤ 16
  pub used_to : (i : ℕ) → entry ≡ suc i → at s.used i ≤ 4096
  pub within : (i : ℕ) → entry ≡ suc i → place s i < length log

-- The state when the task that ran has had the slice, by its entry, before late and fresh jobs.
unfoldable pub served_one : State → ℕ → ℕ → State
served_one s i report =
    record s {
      used = slice_set s.used i (at s.used i + 1);
      ended = choose (report == 1 || (at s.used i + 1 == at s.runtimes i)) (slice_set s.ended i true) s.ended;
    }

unfoldable pub served : State → ℕ → ℕ → State
served s zero report = s
served s (suc i) report = served_one s i report

-- What the end of the slice is for task i, in the state and in the log,
pub record Turns (s : State) (log : List ℕ) (i : ℕ) : Type 0 where
  pub task_to : i < 16
  pub period_from : 1 ≤ period_of s i
  pub position_to : s.position ≤ 4096
  pub within : place s i < length log

unfoldable pub turned : State → ℕ → State
turned s i =
    record s {
      used = slice_set s.used i (choose (release_next s i) 0 (at s.used i));
      ended = slice_set s.ended i (choose (release_next s i) false (slice_index_or s.ended i false || deadline_next s i));
    }

unfoldable pub late_at : State → ℕ → List ℕ → List ℕ
late_at s i log = choose (deadline_next s i && not (slice_index_or s.ended i false)) (slice_set log (place s i) 3) log

-- and for the tasks below n.
unfoldable pub renewed : State → ℕ → State
renewed s zero = s
renewed s (suc i) = turned (renewed s i) i

unfoldable pub late_up_to : State → List ℕ → ℕ → List ℕ
late_up_to s log zero = log
late_up_to s log (suc i) = late_at (renewed s i) i (late_up_to s log i)

-- The slice is closed: one position further, at a new clock reading.
unfoldable pub gone_on : State → ℕ → State
gone_on s clock = record s { position = s.position + 1; clock = clock }
