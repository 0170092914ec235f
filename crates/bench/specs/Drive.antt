-- A drive of one cycle: the table is built, the run is started, and as many slices are closed as the cycle has.
use Rattle.std.specs.Prelude.{◌≡◌, ℕ, List, length, Option}
use Rattle.basis.specs.Bytes.{overwrite}
use Rattle.tasks.specs.declared.Task.{Task}
use Rattle.tasks.specs.declared.TaskList.{TaskList}
use Rattle.units.specs.Conversion.{runtime_slices, period_slices, deadline_slices, slices_of}
use Rattle.verdict.specs.Verdict.{verdict_of}
use Rattle.verdict.specs.Table.{Built}
use Rattle.run.specs.declared.Mode.{Mode}
use Rattle.start.specs.Start.{begun_of, begun_state, begun_log}
use Rattle.bench.specs.declared.Driven.{Driven}
use Rattle.bench.specs.Course.{Course, need_in, course_at}

-- A task given in microseconds. A refused conversion is 0, which the list's checks refuse.
unfoldable pub task_in : ℕ → ℕ → ℕ → ℕ → ℕ → ℕ → Task
task_in period runtime memory deadline slice tick =
    record {
      period = slices_of (period_slices period slice);
      runtime = slices_of (runtime_slices runtime slice tick);
      memory = memory;
      deadline = slices_of (deadline_slices deadline slice);
    }

-- What the start leaves, with no job ended.
unfoldable pub begun : TaskList → ℕ → Option Mode → ℕ → List ℕ → List ℕ → Course
begun l supply asked clock log ends =
    record {
      state = begun_state l asked clock (verdict_of l supply) (length log);
      log = begun_log (verdict_of l supply) log;
      ends = overwrite (λ _. 0) (length ends) ends;
    }

pub record Drives (l : TaskList) (supply : ℕ) (asked : Option Mode) (clock : ℕ) (needs table table' log log' ends ends' : List ℕ) (r : Driven) : Type 0 where
  pub built : Built l supply table table' r.built
  pub started : r.begun ≡ begun_of (verdict_of l supply) (length log)
  pub whole : record { state = r.state; log = log'; ends = ends' } ≡ course_at table' (need_in needs (begun l supply asked clock log ends).state) (begun l supply asked clock log ends) (begun l supply asked clock log ends).state.cycle
