-- Which two periods clash: what refusal 6 says beside the task, and that no other answer says it. ClashHolds has the proof.
use Rattle.std.specs.Prelude.{◌≡◌, List, ℕ, suc, ◌≤◌, ◌<◌, Option}
use Rattle.std.specs.Int.{◌∣◌}
use Rattle.basis.specs.Answer.{Answer}
use Rattle.tasks.specs.declared.TaskList.{TaskList}
use Rattle.tasks.specs.List.{task_at}
use Rattle.tasks.specs.Euclid.{lcm_of}
use Rattle.tasks.specs.Bounds.{bounds_of, bounds_answer}
use Rattle.verdict.specs.Verdict.{Verdict, verdict_of, verdict_answer}
use Rattle.verdict.specs.Table.{Built}
use Rattle.run.specs.declared.Mode.{Mode}
use Rattle.start.specs.declared.Started.{Started}
use Rattle.start.specs.Start.{Begins, begun_answer}

module _ (l : TaskList) where
  abbrev period_at : ℕ → ℕ
  period_at i = (task_at l.tasks i).period

  pub record ClashAt (a : Answer) : Type 0 where
    -- The task that is named, counted from 0.
    pub place : ℕ
    pub below : place < l.count
    pub named : a.task ≡ suc place
    -- The first number is the least common multiple of the periods before it, 1 before the first, and at most 4,096:
    -- each of them divides it, and it divides whatever they all divide.
    pub multiple_of_all : (i : ℕ) → i < place → period_at i ∣ a.reached
    pub least_of_all : (x : ℕ) → ((i : ℕ) → i < place → period_at i ∣ x) → a.reached ∣ x
    pub one_before_first : place ≡ 0 → a.reached ≡ 1
    pub within : a.reached ≤ 4096
    -- The second is the period of that task.
    pub period_is : a.period ≡ period_at place
    -- The least common multiple of the two is above 4,096, and so is whatever both divide.
    pub together_above : 4096 < lcm_of a.reached a.period
    pub too_much : (x : ℕ) → 0 < x → a.reached ∣ x → a.period ∣ x → 4096 < x

  -- Refusal 6 says so, and of every other answer, accepted or refused, both numbers are 0.
  pub record Explains (a : Answer) : Type 0 where
    pub six_says : a.number ≡ 6 → ClashAt a
    pub others_silent : (a.number ≡ 6 → ⊥) → (a.reached ≡ 0) × (a.period ≡ 0)

-- Each call that checks a list hands both numbers on.
pub record Clash : Type 0 where
  pub bounds : (l : TaskList) (supply : ℕ) → Explains l (bounds_answer (bounds_of l supply))
  pub judge : (l : TaskList) (supply : ℕ) → Explains l (verdict_answer (verdict_of l supply))
  pub build : (l : TaskList) (supply : ℕ) (old new : List ℕ) (v : Verdict) → Built l supply old new v → Explains l (verdict_answer v)
  pub start : (l : TaskList) (supply : ℕ) (asked : Option Mode) (clock : ℕ) (log log' : List ℕ) (r : Started) → Begins l supply asked clock log log' r → Explains l (begun_answer r.answer)
