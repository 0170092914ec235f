-- A list by value, lent: the list that its records make is like it as far as its count goes, and every answer on the one is the answer on the other.
use Rattle.std.specs.Prelude.{◌≡◌, List, ℕ, ◌-◌, ◌≤◌, ◌<◌, ltb, length, replicate, take, slice_range, Option, Ok, Err}
use Rattle.std.proofs.Math.Path.{refl, sym, ap}
use Rattle.std.proofs.Common.{◌∙◌, arith, subst}
use Rattle.std.proofs.lemmas.List.{length-replicate}
use Rattle.basis.specs.Bytes.{overwrite, overwrite_at}
use Rattle.basis.specs.Choose.{choose}
use Rattle.plan.specs.Plan.{table}
use Rattle.tasks.specs.declared.Task.{Task}
use Rattle.tasks.specs.declared.TaskList.{TaskList}
use Rattle.tasks.specs.List.{no_task, task_at, plan_of, list_of}
use Rattle.quick.specs.Quick.{quick_of}
use Rattle.run.specs.declared.Mode.{Mode}
use Rattle.verdict.specs.Verdict.{Verdict, verdict_of}
use Rattle.verdict.specs.Table.{fitted, tabled, Built}
use Rattle.start.specs.declared.Started.{Started}
use Rattle.start.specs.Start.{mode_of, start_state, no_run, begun_of, begun_state, begun_log, Begins}
use Rattle.lent.specs.Beyond.{verdict_same, quick_same, entries_same, state_same}
use Rattle.lent.specs.Shapes.{filled, filled_first}

-- As many tasks, and the same ones. Places beyond the count may differ.
pub record Alike (k l : TaskList) : Type 0 where
  pub count : k.count ≡ l.count
  pub tasks : (i : ℕ) → i < l.count → task_at k.tasks i ≡ task_at l.tasks i

-- The list filled from its own places, as many as it counts.
pub first_alike : (l : TaskList) → l.count ≤ 16 → Alike (filled l.tasks l.count l.count) l
unfolding filled task_at
first_alike l few = record { count = refl; tasks = λ i h. overwrite_at (task_at l.tasks) (replicate 16 no_task) no_task l.count i h (omega (arith, length-replicate 16 no_task)) }

-- The list that its records make, as many as it counts and has places for.
pub lent_alike : (l : TaskList) (lent : List Task) → length l.tasks ≡ 16 → l.count ≤ length l.tasks → lent ≡ slice_range l.tasks 0 l.count → Alike (list_of lent) l
lent_alike l lent all few is =
    let fits : l.count ≤ 16 = omega (arith, few, all) in
    let from-front : l.count - 0 ≡ l.count = omega arith in
    let first : lent ≡ take l.count l.tasks = is ∙ ap (λ (n : ℕ). take n l.tasks) from-front in
    subst (λ (k : TaskList). Alike k l) (sym (ap list_of first ∙ filled_first l.tasks l.count all fits)) (first_alike l fits)

-- ---- the answers on lists alike
module _ (k l : TaskList) (a : Alike k l) where
  -- what is the same at one count is the same
  counted : {B : Type 0} (f : TaskList → B) → f (record { tasks = k.tasks; count = l.count }) ≡ f l → f k ≡ f l
  counted f e = (λ j. f (record { tasks = k.tasks; count = a.count j })) ∙ e

  pub verdict_alike : (supply : ℕ) → verdict_of k supply ≡ verdict_of l supply
  verdict_alike supply = counted (λ m. verdict_of m supply) (verdict_same k.tasks l.tasks l.count a.tasks supply)

  pub quick_alike : (supply : ℕ) → quick_of k supply ≡ quick_of l supply
  quick_alike supply = counted (λ m. quick_of m supply) (quick_same k.tasks l.tasks l.count a.tasks supply)

  tabled_alike : (r : Verdict) (old : List ℕ) → tabled k r old ≡ tabled l r old
  unfolding tabled
  tabled_alike (Ok v) old = counted (λ m. overwrite (table (plan_of m)) v.cycle old) (entries_same k.tasks l.tasks l.count a.tasks v.cycle old)
  tabled_alike (Err r) old = refl

  begun_alike : (asked : Option Mode) (clock : ℕ) (v : Verdict) (room : ℕ) → begun_state k asked clock v room ≡ begun_state l asked clock v room
  unfolding begun_state
  begun_alike asked clock (Ok v) room =
      ap (choose (ltb room v.jobs) no_run) (counted (λ m. start_state m v.cycle (mode_of asked) clock) (state_same k.tasks l.tasks l.count a.tasks v.cycle (mode_of asked) clock))
  begun_alike asked clock (Err r) room = refl

  pub built_alike : (supply : ℕ) (old new : List ℕ) (r : Verdict) → Built k supply old new r → Built l supply old new r
  built_alike supply old new r b =
      record {
        answer = b.answer ∙ ap (λ (v : Verdict). fitted v (length old)) (verdict_alike supply);
        bytes = b.bytes ∙ tabled_alike r old;
      }

  pub begins_alike : (supply : ℕ) (asked : Option Mode) (clock : ℕ) (log log' : List ℕ) (r : Started) → Begins k supply asked clock log log' r → Begins l supply asked clock log log' r
  begins_alike supply asked clock log log' r b =
      let same = verdict_alike supply in
      record {
        answer = b.answer ∙ ap (λ (v : Verdict). begun_of v (length log)) same;
        state = b.state ∙ begun_alike asked clock (verdict_of k supply) (length log) ∙ ap (λ (v : Verdict). begun_state l asked clock v (length log)) same;
        bytes = b.bytes ∙ ap (λ (v : Verdict). begun_log v log) same;
      }
