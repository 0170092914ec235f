-- A pass is earned, the statement: the answer to the empty chamber. EmptyChamberHolds has the proof.
use Rattle.std.specs.Prelude.{◌≡◌, List, ℕ, suc, ◌≤◌, ◌<◌, get_or, Option}
use Rattle.plan.specs.Plan.{deadline}
use Rattle.tasks.specs.declared.TaskList.{TaskList}
use Rattle.tasks.specs.List.{plan_of}
use Rattle.run.specs.declared.Mode.{Mode}
use Rattle.start.specs.declared.Started.{Started}
use Rattle.start.specs.Start.{Begins, begun_answer}
use Rattle.run.specs.declared.State.{State}
use Rattle.run.specs.declared.Next.{Next}
use Rattle.run.specs.State.{current_of}
use Rattle.run.specs.Who.{running}
use Rattle.run.specs.Step.{Stepped, closed_answer}
use Rattle.promises.specs.Demand3.{jobs_in, place_of}

-- Any calls of step after an accepted start, with any reports, clock readings and tables and with refused calls in between, each
-- given the state that the call before it gave and the same log: state and log before call n, what it is lent and brings, and
-- its answer.
pub record Calls (l : TaskList) : Type 0 where
  pub supply : ℕ
  pub asked : Option Mode
  pub clock : ℕ
  pub log : List ℕ
  pub begun : Started
  pub states : ℕ → State
  pub logs : ℕ → List ℕ
  pub tables : ℕ → List ℕ
  pub clocks : ℕ → ℕ
  pub reports : ℕ → ℕ
  pub answers : ℕ → Next
  pub begins : Begins l supply asked clock log (logs 0) begun
  pub accepted : (begun_answer begun.answer).number ≡ 0
  pub from_start : states 0 ≡ begun.state
  pub stepped : (n : ℕ) → Stepped (states n) (tables n) (clocks n) (reports n) (logs n) (logs (suc n)) (answers n)
  pub handed : (n : ℕ) → states (suc n) ≡ (answers n).state

-- Before call n an accepted step, in a slice in which job k of task i ran, brought the report finished.
pub record Earned (l : TaskList) (C : Calls l) (n i k : ℕ) : Type 0 where
  pub call : ℕ
  pub before : call < n
  pub went : (closed_answer (C.answers call).answer).number ≡ 0
  pub ran_here : running (C.states call) (C.tables call) ≡ suc i
  pub that_job : current_of (C.states call) i ≡ k
  pub finished : C.reports call ≡ 1

-- The byte of job k of task i before call n.
abbrev pub byte_in : (l : TaskList) → Calls l → ℕ → ℕ → ℕ → ℕ
byte_in l C n i k = get_or (C.logs n) (place_of l i k) 0

pub record EmptyChamber : Type 0 where
  -- A byte is 1 only if an accepted step, in a slice in which that very job ran, brought the report finished.
  pub a_pass_is_earned : (l : TaskList) (C : Calls l) (n i k : ℕ) → i < l.count → k < jobs_in l i → byte_in l C n i k ≡ 1 → Earned l C n i k
  -- It is not 0 once the job's deadline has passed.
  pub none_left_empty : (l : TaskList) (C : Calls l) (n i k : ℕ) → i < l.count → k < jobs_in l i → deadline (plan_of l) i k ≤ (C.states n).position → byte_in l C n i k ≡ 0 → ⊥
  -- Once written, it is not written again before the next start.
  pub written_once : (l : TaskList) (C : Calls l) (n i k : ℕ) → i < l.count → k < jobs_in l i → (byte_in l C n i k ≡ 0 → ⊥) → byte_in l C (suc n) i k ≡ byte_in l C n i k
