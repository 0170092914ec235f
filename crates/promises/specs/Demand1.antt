-- Demand 1, the statement: what breaks a rule is refused by its number, in a fixed order, and after a refusal table, log and state
-- hold what they held before; what is not refused is done as the rules say. Demand1Holds has the proof. (That every input gets an
-- answer is that no public function has a requires. What an accepted verdict and its table are is demand 2.)
use Rattle.std.specs.Prelude.{◌≡◌, true, false, List, ◌↔◌, ℕ, suc, ◌+◌, ◌*◌, ◌≤◌, ◌<◌, eqb, length, get_or, Option, Some, None}
use Rattle.basis.specs.Bytes.{at}
use Rattle.basis.specs.Choose.{choose}
use Rattle.basis.specs.Slices.{ceil}
use Rattle.basis.specs.Rules.{GoesBy, no_more, ◌then◌}
use Rattle.tasks.specs.declared.TaskList.{TaskList}
use Rattle.tasks.specs.List.{task_at}
use Rattle.tasks.specs.Bounds.{bounds_of, bounds_answer, cycle_of, jobs_of}
use Rattle.verdict.specs.Verdict.{Verdict, verdict_of, verdict_answer}
use Rattle.verdict.specs.Table.{Built}
use Rattle.run.specs.declared.Mode.{Mode}
use Rattle.start.specs.declared.Started.{Started}
use Rattle.start.specs.Start.{Begins, begun_answer}
use Rattle.run.specs.declared.Mode.TheVariants as mode
use Rattle.run.specs.declared.State.{State}
use Rattle.run.specs.declared.Next.{Next}
use Rattle.run.specs.State.{period_of, runtime_of, current_of, job_of, fresh, place, due_of}
use Rattle.run.specs.Sound.{SoundState}
use Rattle.run.specs.StateAfter.{HandedOn, Room}
use Rattle.run.specs.Who.{running, who_of, runner_answer}
use Rattle.run.specs.Step.{Stepped, closed_answer}
use Rattle.units.specs.Conversion.{runtime_slices, period_slices, slices_of, slices_answer, deadline_slices}
use Rattle.units.specs.Laws.{Fewest, Latest}
use Rattle.readings.specs.declared.Entry.{Entry}
use Rattle.readings.specs.declared.Entry.TheVariants.{Idle, Task, NoEntry}
use Rattle.readings.specs.declared.Logged.TheVariants.{NoResult, Done}
use Rattle.readings.specs.Reading.{entry_of, refusal_of, logged_of, entry_byte, refusal_number, logged_byte}
use Rattle.bench.specs.Drive.{task_in}
use Rattle.promises.specs.Program.{Program}
use Rattle.promises.specs.Refusals.{bounds_rules, list_rules, build_rules, start_rules, who_rules, step_rules, no_share, not_whole, no_length}

-- ---- a start
-- A state of no tasks in table mode, every number 0 and no job ended, which is not sound.
pub record NoRun (s : State) : Type 0 where
  pub count_0 : s.count ≡ 0
  pub cycle_0 : s.cycle ≡ 0
  pub position_0 : s.position ≡ 0
  pub clock_0 : s.clock ≡ 0
  pub is_by_table : s.mode ≡ mode.Table
  pub periods_0 : (i : ℕ) → period_of s i ≡ 0
  pub deadlines_0 : (i : ℕ) → due_of s i ≡ 0
  pub runtimes_0 : (i k : ℕ) → runtime_of s i k ≡ 0
  pub none_ended : (i : ℕ) → job_of s i ≡ fresh
  pub not_sound : SoundState s → ⊥

-- What an accepted start gives: the list's tasks, every job fresh, slice 0, the mode asked for (none named: filling) and the
-- clock reading; places beyond the task count are 0, with no job ended. The first job-count bytes of the log are 0, the others stay.
pub record BegunRun (l : TaskList) (asked : Option Mode) (clock : ℕ) (log log' : List ℕ) (s : State) : Type 0 where
  pub count_is : s.count ≡ l.count
  pub cycle_is : s.cycle ≡ cycle_of l
  pub position_0 : s.position ≡ 0
  pub clock_is : s.clock ≡ clock
  pub filling_asked : asked ≡ Some mode.Filling → s.mode ≡ mode.Filling
  pub table_asked : asked ≡ Some mode.Table → s.mode ≡ mode.Table
  pub none_named : asked ≡ None → s.mode ≡ mode.Filling
  pub periods_are : (i : ℕ) → i < l.count → period_of s i ≡ (task_at l.tasks i).period
  pub deadlines_are : (i : ℕ) → i < l.count → due_of s i ≡ (task_at l.tasks i).deadline
  pub runtimes_are : (i k : ℕ) → i < l.count → runtime_of s i k ≡ (task_at l.tasks i).runtime
  pub beyond_0 : (i k : ℕ) → l.count ≤ i → (period_of s i ≡ 0) × (due_of s i ≡ 0) × (runtime_of s i k ≡ 0)
  pub jobs_fresh : (i : ℕ) → job_of s i ≡ fresh
  pub log_cleared : (x : ℕ) → x < jobs_of l → get_or log' x 0 ≡ 0
  pub log_beyond : (x : ℕ) → jobs_of l ≤ x → get_or log' x 0 ≡ get_or log x 0
  pub log-length : length log' ≡ length log

-- ---- who runs
-- By the table, the task of entry p unless its current job has ended (then idle). Entries are read as `readings` does.
pub record RunsByTable (s : State) (entry : Entry) (task : ℕ) : Type 0 where
  pub idle : entry ≡ Idle → task ≡ 0
  pub ended : (i : ℕ) → entry ≡ Task (suc i) → (job_of s i).ended ≡ true → task ≡ 0
  pub unended : (i : ℕ) → entry ≡ Task (suc i) → (job_of s i).ended ≡ false → task ≡ suc i

-- Filling, the first-ranking task whose current job has not ended: nearer deadline first, then the earlier in the list.
pub record RunsFilling (s : State) (task : ℕ) : Type 0 where
  pub idle : task ≡ 0 → (j : ℕ) → j < s.count → (job_of s j).ended ≡ true
  pub unended : (i : ℕ) → task ≡ suc i → (i < s.count) × ((job_of s i).ended ≡ false)
  pub nearest : (i j : ℕ) → task ≡ suc i → j < s.count → (job_of s j).ended ≡ false → due_of s i ≤ due_of s j
  pub earliest : (i j : ℕ) → task ≡ suc i → j < s.count → (job_of s j).ended ≡ false → due_of s j ≡ due_of s i → i ≤ j

-- ---- a step
-- There is a deadline of task i at p + 1: so long after the release of its current job.
abbrev pub Due : State → ℕ → Type 0
Due s i = suc s.position ≡ current_of s i * period_of s i + due_of s i

-- There is its next release.
abbrev pub Released : State → ℕ → Type 0
Released s i = suc s.position ≡ suc (current_of s i) * period_of s i

-- Task i ran and this slice completes its run-time.
abbrev pub Completes : State → List ℕ → ℕ → Type 0
Completes s table i = (running s table ≡ suc i) × ((job_of s i).used + 1 ≡ runtime_of s i (current_of s i))

-- What an accepted step does: the clock reading is stored, the position rises by one (HandedOn), and for each task,
pub record ClosedSlice (s : State) (table : List ℕ) (clock report : ℕ) (log log' : List ℕ) (after : State) : Type 0 where
  pub handed : HandedOn s after clock
  -- in the log: finished writes 1; still working in the slice that completes the run-time 2; then a job with a deadline there that
  -- has not ended gets 3; no other byte changes.
  pub done : (i : ℕ) → running s table ≡ suc i → report ≡ 1 → get_or log' (place s i) 0 ≡ 1
  pub over : (i : ℕ) → Completes s table i → report ≡ 0 → get_or log' (place s i) 0 ≡ 2
  pub late : (i : ℕ) → i < s.count → Due s i → (job_of s i).ended ≡ false → (running s table ≡ suc i → report ≡ 0) → (Completes s table i → ⊥) → get_or log' (place s i) 0 ≡ 3
  pub still_open : (i : ℕ) → i < s.count → (Due s i → ⊥) → (running s table ≡ suc i → report ≡ 0) → (Completes s table i → ⊥) → get_or log' (place s i) 0 ≡ get_or log (place s i) 0
  pub had_ended : (i : ℕ) → i < s.count → (job_of s i).ended ≡ true → get_or log' (place s i) 0 ≡ get_or log (place s i) 0
  pub no_other : (x : ℕ) → ((i : ℕ) → i < s.count → x ≡ place s i → ⊥) → get_or log' x 0 ≡ get_or log x 0
  pub log-length : length log' ≡ length log
  -- of its job: a fresh one where it is released; else one slice used for the task that ran, and none for the others; at its deadline
  -- it is closed, having ended or not.
  pub fresh_job : (i : ℕ) → i < s.count → Released s i → job_of after i ≡ fresh
  pub closed_job : (i : ℕ) → i < s.count → Due s i → (Released s i → ⊥) → (job_of after i).ended ≡ true
  pub one_used : (i : ℕ) → running s table ≡ suc i → (Released s i → ⊥) → (job_of after i).used ≡ (job_of s i).used + 1
  pub none_used : (i : ℕ) → i < s.count → (running s table ≡ suc i → ⊥) → (Released s i → ⊥) → (job_of after i).used ≡ (job_of s i).used
  pub ended_then : (i : ℕ) → running s table ≡ suc i → (Released s i → ⊥) → report ≡ 1 → (job_of after i).ended ≡ true
  pub ended_complete : (i : ℕ) → Completes s table i → (Released s i → ⊥) → (job_of after i).ended ≡ true
  pub open_still : (i : ℕ) → running s table ≡ suc i → (Released s i → ⊥) → (Due s i → ⊥) → report ≡ 0 → (Completes s table i → ⊥) → (job_of after i).ended ≡ false
  pub others_same : (i : ℕ) → i < s.count → (running s table ≡ suc i → ⊥) → (Released s i → ⊥) → (Due s i → ⊥) → job_of after i ≡ job_of s i

pub record Demand1 : Type 0 where
  -- Refusals 1 to 6 and 20, then 7, then 8; a refused build writes nothing.
  pub bounds : (l : TaskList) (supply : ℕ) → GoesBy (bounds_rules l supply) (bounds_answer (bounds_of l supply))
  pub judge : (l : TaskList) (supply : ℕ) → GoesBy (list_rules l supply) (verdict_answer (verdict_of l supply))
  pub build : (l : TaskList) (supply : ℕ) (old new : List ℕ) (v : Verdict) → Built l supply old new v → GoesBy (build_rules l supply (length old)) (verdict_answer v)
  pub build_refused : (l : TaskList) (supply : ℕ) (old new : List ℕ) (v : Verdict) → Built l supply old new v → ((verdict_answer v).number ≡ 0 → ⊥) → new ≡ old
  -- A start: 1 to 7 and 20, then 12; refused, it writes nothing and gives the state of no run.
  pub start : (l : TaskList) (supply : ℕ) (asked : Option Mode) (clock : ℕ) (log log' : List ℕ) (r : Started)
      → Begins l supply asked clock log log' r → GoesBy (start_rules l supply (length log)) (begun_answer r.answer)
  pub start_refused : (l : TaskList) (supply : ℕ) (asked : Option Mode) (clock : ℕ) (log log' : List ℕ) (r : Started)
      → Begins l supply asked clock log log' r → ((begun_answer r.answer).number ≡ 0 → ⊥) → (log' ≡ log) × NoRun r.state
  pub start_begun : (l : TaskList) (supply : ℕ) (asked : Option Mode) (clock : ℕ) (log log' : List ℕ) (r : Started)
      → Begins l supply asked clock log log' r → (begun_answer r.answer).number ≡ 0 → BegunRun l asked clock log log' r.state
  -- Asking who runs: 9 to 11; refused, task 0.
  pub who : (s : State) (table : List ℕ) → GoesBy (who_rules s table) (runner_answer (who_of s table))
  pub who_by_table : (s : State) (table : List ℕ) → (runner_answer (who_of s table)).number ≡ 0 → s.mode ≡ mode.Table → RunsByTable s (entry_of (at table s.position) s.count) (runner_answer (who_of s table)).task
  pub no_entry_above : (byte count : ℕ) → count ≤ 16 → (count < byte) ↔ (entry_of byte count ≡ NoEntry byte)
  pub who_filling : (s : State) (table : List ℕ) → (runner_answer (who_of s table)).number ≡ 0 → s.mode ≡ mode.Filling → RunsFilling s (runner_answer (who_of s table)).task
  -- A step: 9 to 14; refused, it gives back the state it got and writes nothing. (Clock readings are of 32 bits.)
  pub step : (s : State) (table : List ℕ) (clock report : ℕ) (log log' : List ℕ) (r : Next)
      → Stepped s table clock report log log' r → s.clock ≤ 4294967295 → GoesBy (step_rules s table clock report log) (closed_answer r.answer)
  pub step_refused : (s : State) (table : List ℕ) (clock report : ℕ) (log log' : List ℕ) (r : Next)
      → Stepped s table clock report log log' r → ((closed_answer r.answer).number ≡ 0 → ⊥) → (r.state ≡ s) × (log' ≡ log)
  pub step_closed : (s : State) (table : List ℕ) (clock report : ℕ) (log log' : List ℕ) (r : Next)
      → Stepped s table clock report log log' r → (closed_answer r.answer).number ≡ 0 → Room s → ClosedSlice s table clock report log log' r.state
  -- Conversions: 17; refused, the answer is 0. A run-time takes the fewest slices that hold it beside a tick in each, no fewer
  -- where the tick costs more, and without a tick cost what it took by the whole slice length; a period exactly its slices; a
  -- deadline as many as end no later.
  pub runtime : (micros slice tick : ℕ) → GoesBy (no_share slice tick then no_more) (slices_answer (runtime_slices micros slice tick))
  pub period : (micros slice : ℕ) → GoesBy (not_whole micros slice then no_more) (slices_answer (period_slices micros slice))
  pub deadline : (micros slice : ℕ) → GoesBy (no_length slice then no_more) (slices_answer (deadline_slices micros slice))
  pub runtime_fewest : (micros slice tick : ℕ) → tick < slice → Fewest micros slice tick (slices_of (runtime_slices micros slice tick))
  pub larger_tick_no_fewer : (micros slice tick tick' : ℕ) → tick ≤ tick' → tick' < slice → slices_of (runtime_slices micros slice tick) ≤ slices_of (runtime_slices micros slice tick')
  pub without_tick : (micros slice : ℕ) → runtime_slices micros slice 0 ≡ choose (eqb slice 0) None (Some (ceil micros slice))
  pub period_exact : (n slice : ℕ) → 0 < slice → slices_of (period_slices (n * slice) slice) ≡ n
  pub deadline_latest : (micros slice : ℕ) → 0 < slice → Latest micros slice (slices_of (deadline_slices micros slice))
  -- The bench's task from microseconds: what the conversions give, and 0 for what they refuse.
  pub task_whole : (n runtime memory due slice tick : ℕ) → 0 < slice → (task_in (n * slice) runtime memory due slice tick).period ≡ n
  pub task_runtime : (period micros memory due slice tick : ℕ) → tick < slice → Fewest micros slice tick (task_in period micros memory due slice tick).runtime
  pub task_deadline : (period runtime memory micros slice tick : ℕ) → 0 < slice → Latest micros slice (task_in period runtime memory micros slice tick).deadline
  pub task_no_period : (micros runtime memory due slice tick : ℕ) → ((slices_answer (period_slices micros slice)).number ≡ 0 → ⊥) → (task_in micros runtime memory due slice tick).period ≡ 0
  pub task_no_runtime : (period micros memory due slice tick : ℕ) → ((slices_answer (runtime_slices micros slice tick)).number ≡ 0 → ⊥) → (task_in period micros memory due slice tick).runtime ≡ 0
  pub task_no_deadline : (period runtime memory micros slice tick : ℕ) → ((slices_answer (deadline_slices micros slice)).number ≡ 0 → ⊥) → (task_in period runtime memory micros slice tick).deadline ≡ 0
  -- A reading stands for the number that was read, whatever it is; a result byte of 0 means no result, and only a 1 reads as done.
  pub entry_said : (byte count : ℕ) → entry_byte (entry_of byte count) ≡ byte
  pub refusal_said : (number : ℕ) → refusal_number (refusal_of number) ≡ number
  pub logged_said : (byte : ℕ) → logged_byte (logged_of byte) ≡ byte
  pub zero_is_no_result : logged_of 0 ≡ NoResult
  pub done_is_one : (byte : ℕ) → logged_of byte ≡ Done → byte ≡ 1
  -- The program: 16, then 15, then the list's rules; what it prints is the record of the refusal, or the table.
  pub program : Program
