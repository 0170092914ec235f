-- Demand 3, the statement, about the contracts of start and step; Demand3Holds has the proof. It speaks of steps that are accepted,
-- each given the state that the start or the step before it gave, each lent the same log, and the list's own table.
use Rattle.std.specs.Prelude.{◌≡◌, List, Bool, not, ℕ, suc, ◌+◌, ◌/◌, ◌≤◌, ◌<◌, eqb, leb, length, get_or, Option}
use Rattle.basis.specs.Choose.{choose}
use Rattle.basis.specs.Least.{least}
use Rattle.plan.specs.Plan.{Plan, Demand, table}
use Rattle.tasks.specs.declared.TaskList.{TaskList}
use Rattle.tasks.specs.List.{plan_of}
use Rattle.tasks.specs.Bounds.{cycle_of, job_sum, jobs_of}
use Rattle.run.specs.declared.Mode.{Mode}
use Rattle.start.specs.declared.Started.{Started}
use Rattle.start.specs.Start.{mode_of, Begins, begun_answer}
use Rattle.run.specs.declared.Mode.TheVariants.{Table, Filling}
use Rattle.run.specs.declared.State.{State}
use Rattle.run.specs.declared.Next.{Next}
use Rattle.run.specs.State.{current_of}
use Rattle.run.specs.Who.{running}
use Rattle.run.specs.Step.{closed_answer}
use Rattle.bench.specs.Course.{Steps}

-- The jobs of task i in the cycle, counted from 0 as tasks are.
abbrev pub jobs_in : TaskList → ℕ → ℕ
jobs_in l i = cycle_of l / (plan_of l).period i

-- The table is the plan's own up to the cycle's end.
pub record Own (P : Plan) (cycle : ℕ) (tab : List ℕ) : Type 0 where
  pub reaches : cycle ≤ length tab
  pub entries : (t : ℕ) → t < cycle → get_or tab t 0 ≡ table P t

-- A full run of a list: an accepted start, then as many steps as the cycle has slices. Whatever start and steps answer, as long
-- as they keep their contracts.
pub record FullRun (l : TaskList) : Type 0 where
  -- what the caller brings: any needs from one slice up, and the list's own table
  pub supply : ℕ
  pub asked : Option Mode
  pub clock : ℕ
  pub need : Demand
  pub tab : List ℕ
  pub log : List ℕ
  pub needs_from : (i k : ℕ) → i < l.count → k < jobs_in l i → 1 ≤ need i k
  pub own : Own (plan_of l) (cycle_of l) tab
  -- what is answered: state and log before step p, and the answer of step p
  pub begun : Started
  pub states : ℕ → State
  pub logs : ℕ → List ℕ
  pub answers : ℕ → Next
  pub begins : Begins l supply asked clock log (logs 0) begun
  pub accepted : (begun_answer begun.answer).number ≡ 0
  pub from_start : states 0 ≡ begun.state
  pub steps : Steps (cycle_of l) tab need states logs answers

-- The log holds all jobs of task 1, then all of task 2, and so on: the place of job k of task i.
unfoldable pub place_of : TaskList → ℕ → ℕ → ℕ
place_of l i k = job_sum l.tasks (cycle_of l) i + k

-- It is logged before step p once its byte is not 0.
unfoldable pub is_logged : TaskList → (ℕ → List ℕ) → ℕ → ℕ → ℕ → Bool
is_logged l logs i k p = not (eqb (get_or (logs p) (place_of l i k) 0) 0)

-- The end of a job: the position after the step that logs it.
unfoldable pub end_in : TaskList → (ℕ → List ℕ) → ℕ → ℕ → ℕ
end_in l logs i k = least (is_logged l logs i k) (cycle_of l)

-- It ends with slice p, in which that very job ran.
pub record EndsWith (l : TaskList) (run : FullRun l) (i k p : ℕ) : Type 0 where
  pub within : p < cycle_of l
  pub end_is : end_in l run.logs i k ≡ suc p
  pub ran : running (run.states p) run.tab ≡ suc i
  pub that_job : current_of (run.states p) i ≡ k

-- Run G needs no more than run F, whichever jobs the needs belong to.
abbrev pub NeedsNoMore : (l : TaskList) → FullRun l → FullRun l → Type 0
NeedsNoMore l run other = (i k : ℕ) → i < l.count → other.need i k ≤ run.need i k

-- No job of run G ends later than in run F.
abbrev pub EndsNoLater : (l : TaskList) → FullRun l → FullRun l → Type 0
EndsNoLater l run other = (i k : ℕ) → i < l.count → k < jobs_in l i → end_in l other.logs i k ≤ end_in l run.logs i k

pub record Demand3 : Type 0 where
  -- No step of a full run is refused.
  pub no_step_refused : (l : TaskList) (run : FullRun l) (p : ℕ) → p < cycle_of l → (closed_answer (run.answers p).answer).number ≡ 0
  -- Each job that needs no more than it declared is logged done (1), each other one over (2): none late (3), none without a
  -- result (0).
  pub logged : (l : TaskList) (run : FullRun l) (i k : ℕ) → i < l.count → k < jobs_in l i
      → get_or (run.logs (cycle_of l)) (place_of l i k) 0 ≡ choose (leb (run.need i k) ((plan_of l).runtime i k)) 1 2
  -- Bytes beyond the jobs stay.
  pub beyond_kept : (l : TaskList) (run : FullRun l) (x : ℕ) → jobs_of l ≤ x → get_or (run.logs (cycle_of l)) x 0 ≡ get_or run.log x 0
  pub length_kept : (l : TaskList) (run : FullRun l) → length (run.logs (cycle_of l)) ≡ length run.log
  -- Each job ends within the cycle, with a slice in which it ran.
  pub ends_in_own_slice : (l : TaskList) (run : FullRun l) (i k : ℕ) → i < l.count → k < jobs_in l i → (p : ℕ) × EndsWith l run i k p
  -- No slice ends more than one job.
  pub one_end_a_slice : (l : TaskList) (run : FullRun l) (i k j m p : ℕ) → EndsWith l run i k p → EndsWith l run j m p → (i ≡ j) × (k ≡ m)
  -- Filling freed slices ends no job later than the run by the table with the same needs, or with higher ones.
  pub filling_no_later : (l : TaskList) (run other : FullRun l) → mode_of run.asked ≡ Table → mode_of other.asked ≡ Filling → NeedsNoMore l run other → EndsNoLater l run other
  -- No job of a filling run ends later when needs are lowered, whichever jobs they belong to.
  pub lower_no_later : (l : TaskList) (run other : FullRun l) → mode_of run.asked ≡ Filling → mode_of other.asked ≡ Filling → NeedsNoMore l run other → EndsNoLater l run other
