-- The quick question: it answers as the verdict does, whatever the list; and the points that it tries are those of the paper.
-- QuickHolds has the proof.
use Rattle.std.specs.Prelude.{◌≡◌, true, ◌⊎◌, ◌↔◌, List, ℕ, suc, ◌*◌, ◌≤◌, ◌<◌, ℤ}
use Rattle.basis.specs.Answer.{Answer, refusal}
use Rattle.plan.specs.Plan.{Plan, Sound, key_in, ranks_before, bound, Passes}
use Rattle.plan.specs.ExactTest.{FirstFailing}
use Rattle.plan.specs.Points.{points, Among, Rising}
use Rattle.tasks.specs.declared.TaskList.{TaskList}
use Rattle.tasks.specs.List.{task_at, plan_of}
use Rattle.tasks.specs.Kept.{KeepsBounds}
use Rattle.quick.specs.Quick.{quick_of, quick_answer}
use Rattle.printing.specs.Text.{refusal_text, quick_text, table_text}
use Rattle.output.specs.Output.{Prints}
use Rattle.output.specs.Quick.{QuickPrints}
use Rattle.promises.specs.Demand2.{judged_as}

-- The quick answer on a list, in the paper's values.
abbrev pub asked_as : TaskList → ℕ → Answer
asked_as l supply = quick_answer (quick_of l supply)

-- t is a multiple of the period of task i, or of the period of a task ranking before it, up to its own deadline.
pub record MultipleUpTo (l : TaskList) (i t : ℕ) : Type 0 where
  pub from_1 : 1 ≤ t
  pub to_deadline : t ≤ (task_at l.tasks i).deadline
  pub task : ℕ
  pub below : task < l.count
  pub ranks : (task ≡ i) ⊎ (ranks_before (key_in (plan_of l) 0) task i ≡ true)
  pub times : ℕ
  pub is : t ≡ times * (task_at l.tasks task).period

-- Task i passes at one of the numbers of a list.
pub record PassesAtOne (P : Plan) (i : ℕ) : Type 0 where
  pub point : ℕ
  pub among : Among point (points P i)
  pub passes : bound P i point ≤ point

-- The quick program says what the program says: of a table 0,0, of a refusal record its number and task.
pub data SaysTheSame : List ℕ → List ℕ → Type 0 where
  of_table : (entries : List ℕ) → SaysTheSame (table_text entries) (quick_text 0 0)
  of_refusal : (number task : ℕ) (margin : ℤ) → SaysTheSame (refusal_text number task margin) (quick_text number task)

pub record QuickQuestion : Type 0 where
  -- For every list and supply the number is the verdict's, 0 for accepted,
  pub number_same : (l : TaskList) (supply : ℕ) → (asked_as l supply).number ≡ (judged_as l supply).number
  -- and where it refuses, so is the task that is named.
  pub task_same : (l : TaskList) (supply : ℕ) → ((asked_as l supply).number ≡ 0 → ⊥) → (asked_as l supply).task ≡ (judged_as l supply).task
  -- Accepted, it names none; and it says nothing but number and task.
  pub none_named : (l : TaskList) (supply : ℕ) → (asked_as l supply).number ≡ 0 → (asked_as l supply).task ≡ 0
  pub no_more : (l : TaskList) (supply : ℕ) → asked_as l supply ≡ refusal (asked_as l supply).number (asked_as l supply).task
  -- 7 names the first-ranking task that fails the test.
  pub seven_names : (l : TaskList) (supply : ℕ) → (asked_as l supply).number ≡ 7 → (i : ℕ) × (((asked_as l supply).task ≡ suc i) × FirstFailing (plan_of l) i)
  -- The points of a task are the multiples of its period and of the periods of those ranking before it, up to its own deadline, and
  -- the deadline itself,
  pub points_are : (l : TaskList) (supply : ℕ) → KeepsBounds l supply → (i : ℕ) → i < l.count → (t : ℕ) → Among t (points (plan_of l) i) ↔ ((t ≡ (task_at l.tasks i).deadline) ⊎ MultipleUpTo l i t)
  -- in rising order; and at these alone a task passes exactly if it does at some slice from 1 to its deadline.
  pub points_rise : (P : Plan) (i : ℕ) → Rising 0 (points P i)
  pub points_enough : (P : Plan) → Sound P → (i : ℕ) → i < P.count → PassesAtOne P i ↔ Passes P i
  -- Whatever the input, what the two programs print for it says the same.
  pub programs_same : (input text quick-text : List ℕ) → Prints input text → QuickPrints input quick-text → SaysTheSame text quick-text
