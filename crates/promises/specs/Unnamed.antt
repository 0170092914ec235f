-- After a start with no mode named the table is not looked at: 11 never comes. UnnamedHolds has the proof.
use Rattle.std.specs.Prelude.{◌≡◌, List, ℕ, suc, None}
use Rattle.tasks.specs.declared.TaskList.{TaskList}
use Rattle.start.specs.declared.Started.{Started}
use Rattle.start.specs.Start.{Begins, begun_answer}
use Rattle.run.specs.declared.State.{State}
use Rattle.run.specs.declared.Next.{Next}
use Rattle.run.specs.declared.Mode.TheVariants.{Filling}
use Rattle.run.specs.Who.{who_of, runner_answer}
use Rattle.run.specs.Step.{Stepped, closed_answer}

-- Any calls of step after a start with no mode named, accepted or not, each given the state that the call before it gave; logs,
-- tables, clock readings and reports are whatever is lent and brought.
pub record CallsUnnamed (l : TaskList) : Type 0 where
  pub supply : ℕ
  pub clock : ℕ
  pub log : List ℕ
  pub log_begun : List ℕ
  pub begun : Started
  pub states : ℕ → State
  pub logs : ℕ → List ℕ
  pub logs_after : ℕ → List ℕ
  pub tables : ℕ → List ℕ
  pub clocks : ℕ → ℕ
  pub reports : ℕ → ℕ
  pub answers : ℕ → Next
  pub begins : Begins l supply None clock log log_begun begun
  pub from_start : states 0 ≡ begun.state
  pub stepped : (n : ℕ) → Stepped (states n) (tables n) (clocks n) (reports n) (logs n) (logs_after n) (answers n)
  pub handed : (n : ℕ) → states (suc n) ≡ (answers n).state

pub record NoModeNamed : Type 0 where
  -- Accepted, the state says filling, and goes on saying so.
  pub fills : (l : TaskList) (C : CallsUnnamed l) → (begun_answer C.begun.answer).number ≡ 0 → (n : ℕ) → (C.states n).mode ≡ Filling
  -- No step is refused by 11, and whoever asks in between who runs is not either, whatever table is lent.
  pub no_step_by_11 : (l : TaskList) (C : CallsUnnamed l) (n : ℕ) → (closed_answer (C.answers n).answer).number ≡ 11 → ⊥
  pub no_one_by_11 : (l : TaskList) (C : CallsUnnamed l) (n : ℕ) (table : List ℕ) → (runner_answer (who_of (C.states n) table)).number ≡ 11 → ⊥
