-- What a list that keeps all bounds is like, said without numbers of refusal; and that its cycle is the least common multiple of its periods.
use Rattle.std.specs.Prelude.{◌≡◌, ◌⊎◌, pos}
use Prim.Native.Nat.{ℕ, ◌≤◌, ◌<◌}
use Rattle.basis.specs.Answer.{Answer}
use Rattle.tasks.specs.declared.Task.{Task}
use Rattle.tasks.specs.declared.TaskList.{TaskList}
use Rattle.tasks.specs.declared.refusals.Refusal.{Refusal}
use Rattle.tasks.specs.Refusal.{refusal_answer}
use Rattle.tasks.specs.List.{task_at}
use Rattle.tasks.specs.Bounds.{memory_sum, cycle_of, jobs_of, found}

-- ---- refusals 1 to 4 and 20
-- Period 1 to 4,096. Run-time 1 to the period. Deadline from the run-time to the period.
pub record TaskFits (t : Task) : Type 0 where
  pub period_from : 1 ≤ t.period
  pub period_to : t.period ≤ 4096
  pub runtime_from : 1 ≤ t.runtime
  pub runtime_to : t.runtime ≤ t.period
  pub deadline_from : t.runtime ≤ t.deadline
  pub deadline_to : t.deadline ≤ t.period

pub record AllFit (l : TaskList) : Type 0 where
  pub few : l.count ≤ 16
  pub fits : (i : ℕ) → i < l.count → TaskFits (task_at l.tasks i)

-- 1 to 16 tasks, each of which fits. The memory of all together is at most the supply, and the cycle at most 4,096.
pub record KeepsBounds (l : TaskList) (supply : ℕ) : Type 0 where
  pub some : 1 ≤ l.count
  pub few : l.count ≤ 16
  pub fits : (i : ℕ) → i < l.count → TaskFits (task_at l.tasks i)
  pub memory_within : memory_sum l.tasks l.count ≤ supply
  pub cycle_within : cycle_of l ≤ 4096

pub record KeptAs (l : TaskList) (supply cycle jobs : ℕ) : Type 0 where
  pub keeps : KeepsBounds l supply
  pub cycle_is : cycle ≡ cycle_of l
  pub jobs_is : jobs ≡ jobs_of l

-- ---- by which numbers each bound is refused: up to this one or by 20, with margin 0, and only 6 says why
pub record UpTo (most : ℕ) (f : Answer) : Type 0 where
  pub to_most : (f.number ≤ most) ⊎ (f.number ≡ 20)
  pub margin_0 : f.margin ≡ pos 0
  pub cycle_0 : f.cycle ≡ 0
  pub jobs_0 : f.jobs ≡ 0
  pub no_clash : (f.number ≡ 6 → ⊥) → (f.reached ≡ 0) × (f.period ≡ 0)

pub record BrokenAs (l : TaskList) (supply : ℕ) (r : Refusal) : Type 0 where
  pub some : (found l supply).number ≡ 0 → ⊥
  pub says : refusal_answer r ≡ found l supply

-- The list keeps all bounds, of memory with some supply.
pub record Bounded (l : TaskList) : Type 0 where
  pub supply : ℕ
  pub keeps : KeepsBounds l supply
