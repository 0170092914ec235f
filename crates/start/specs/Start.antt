-- A start: the list is checked anew, and the run begins at slice 0 with every job fresh and the log cleared to no result.
use Rattle.std.specs.Prelude.{◌≡◌, List, false, ℕ, ltb, length, replicate, Option, Some, None, Result, Ok, Err}
use Rattle.basis.specs.Choose.{choose}
use Rattle.basis.specs.Bytes.{overwrite}
use Rattle.basis.specs.Answer.{Answer, none}
use Rattle.tasks.specs.declared.TaskList.{TaskList}
use Rattle.tasks.specs.List.{task_at, due_of, runtime_of}
use Rattle.tasks.specs.declared.refusals.Refusal.{Refusal}
use Rattle.tasks.specs.declared.refusals.Refusal.TheVariants.{ShortLog}
use Rattle.tasks.specs.Refusal.{refusal_answer}
use Rattle.verdict.specs.Verdict.{Verdict, verdict_of}
use Rattle.run.specs.declared.Mode.{Mode}
use Rattle.run.specs.declared.Mode.TheVariants as mode
use Rattle.run.specs.declared.State.{State}
use Rattle.start.specs.declared.Started.{Started}

-- ---- the state
-- A start with no mode named fills freed slices.
unfoldable pub mode_of : Option Mode → Mode
mode_of (Some named) = named
mode_of None = mode.Filling

-- Every job fresh, at slice 0, with no job ended. Task places beyond the task count are 0.
unfoldable pub start_state : TaskList → ℕ → Mode → ℕ → State
start_state l cycle m clock =
    record {
      periods = overwrite (λ i. (task_at l.tasks i).period) l.count (replicate 16 0);
      deadlines = overwrite (λ i. due_of (task_at l.tasks i)) l.count (replicate 16 0);
      runtimes = overwrite (λ i. runtime_of (task_at l.tasks i) 0) l.count (replicate 16 0);
      used = replicate 16 0;
      ended = replicate 16 false;
      count = l.count;
      cycle = cycle;
      position = 0;
      clock = clock;
      mode = m;
    }

-- A refused start gives a state of no tasks in table mode, every number 0 and no job ended.
unfoldable pub no_run : State
no_run =
    record {
      periods = replicate 16 0;
      deadlines = replicate 16 0;
      runtimes = replicate 16 0;
      used = replicate 16 0;
      ended = replicate 16 false;
      count = 0;
      cycle = 0;
      position = 0;
      clock = 0;
      mode = mode.Table;
    }

-- ---- the answer: refusals 1 to 7 and 20 as the verdict gives them, then 12: log shorter than the job count
unfoldable pub begun_of : Verdict → ℕ → Result (Unit {0}) Refusal
begun_of (Err r) room = Err r
begun_of (Ok a) room = choose (ltb room a.jobs) (Err ShortLog) (Ok tt)

unfoldable pub begun_state : TaskList → Option Mode → ℕ → Verdict → ℕ → State
begun_state l asked clock (Err r) room = no_run
begun_state l asked clock (Ok a) room = choose (ltb room a.jobs) no_run (start_state l a.cycle (mode_of asked) clock)

-- It writes 0 into the first job-count bytes of the log. Refused, it writes nothing.
unfoldable pub begun_log : Verdict → List ℕ → List ℕ
begun_log (Err r) log = log
begun_log (Ok a) log = choose (ltb (length log) a.jobs) log (overwrite (λ _. 0) a.jobs log)

pub record Begins (l : TaskList) (supply : ℕ) (asked : Option Mode) (clock : ℕ) (log log' : List ℕ) (r : Started) : Type 0 where
  pub answer : r.answer ≡ begun_of (verdict_of l supply) (length log)
  pub state : r.state ≡ begun_state l asked clock (verdict_of l supply) (length log)
  pub bytes : log' ≡ begun_log (verdict_of l supply) log

-- The paper's values of each case.
unfoldable pub begun_answer : Result (Unit {0}) Refusal → Answer
begun_answer (Ok _) = none
begun_answer (Err r) = refusal_answer r
