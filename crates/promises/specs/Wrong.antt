-- The wrong programs of the paper, refuted: whatever answers keep the contracts, they are not those of a verdict that refuses all, of
-- one verdict or table for all lists, of an invented margin or job count, of a step that does nothing, or of a first step that
-- closes the whole cycle while later ones only count.
use Rattle.std.specs.Prelude.{List, ℕ}
use Rattle.run.specs.declared.State.{State}
use Rattle.run.specs.declared.Next.{Next}
use Rattle.run.specs.Step.{Stepped}

-- So no step that keeps its contract is such a one, since list A has a full run.
pub record StepKept : Type 0 where
  pub answer : State → List ℕ → ℕ → ℕ → List ℕ → Next
  pub leaves : State → List ℕ → ℕ → ℕ → List ℕ → List ℕ
  pub keeps : (s : State) (table : List ℕ) (clock report : ℕ) (log : List ℕ) → Stepped s table clock report log (leaves s table clock report log) (answer s table clock report log)
