-- One turn of each loop over the tasks, as a law over plain values.
use Rattle.std.specs.Prelude.{Result, Ok, Err, length, take}
use Rattle.std.proofs.Math.ListN.{get_or}
use Rattle.std.proofs.lemmas.List.{get_or-take, length-take}
use mathlib.Core.Path.{◌≡◌, refl, sym, ap, ap₂, ◌∙◌}
use mathlib.Core.Logic.{⊎_elim}
use mathlib.Core.List.{List}
use Prim.Native.Nat.{ℕ, suc, ◌+◌, ◌/◌, ◌≤◌, ◌<◌}
use native.Mathlib.Omega.{arith}
use native.Mathlib.Numerals.{add-one}
use lib.Dec.{ltb, eqb}
use borrow.Author.Tests.{eq-eqb, ne_eqb, lt-ltb}
use Rattle.basis.specs.Choose.{choose, choose_yes, choose_no, eq_or_ne}
use Rattle.basis.specs.Sum.{sum}
use Rattle.basis.specs.Answer.{Answer, none, first_found, none_else, found_at}
use Rattle.tasks.specs.declared.Task.{Task}
use Rattle.tasks.specs.declared.refusals.Refusal.{Refusal}
use Rattle.tasks.specs.List.{task_at, no_task}
use Rattle.tasks.specs.Euclid.{lcm_of}
use Rattle.tasks.specs.Bounds.{of_numbers, of_task, multiple, memory_sum, job_sum}
use Rattle.tasks.proofs.Kept.{one_test_none}
use Rattle.tasks.specs.Refusal.{bound_refusal, unless_broken}

-- ---- what is refused, and what passes
module _ {A : Type 0} (x : A) where
  pub passes : (f : Answer) → f.number ≡ 0 → Ok x ≡ unless_broken f x
  unfolding unless_broken
  passes f z = sym (choose_yes (eqb f.number 0) _ _ (eq-eqb f.number 0 z))

  pub refuses : (f says : Answer) → f ≡ says → (says.number ≡ 0 → ⊥) → Err (bound_refusal says) ≡ unless_broken f x
  unfolding unless_broken
  refuses f says e some = sym (ap (λ (a : Answer). unless_broken a x) e ∙ choose_no (eqb says.number 0) _ _ (ne_eqb says.number 0 some))

  -- What passes was not refused,
  pub passed : (f : Answer) (r : Result A Refusal) (y : A) → r ≡ unless_broken f x → r ≡ Ok y → f.number ≡ 0
  passed f r y is ok =
      ⊎_elim
      (λ (z : f.number ≡ 0). z)
      (λ (some : f.number ≡ 0 → ⊥).
      let never : Ok y ≡ Err (bound_refusal f) = sym ok ∙ is ∙ sym (refuses f f refl some) in
      let zero_one : ◌≡◌ {A = ℕ} 0 1 = cc in
      absurd (omega arith))
      (eq_or_ne f.number 0)

  -- and what is refused says what was found.
  pub refused : (f : Answer) (r : Result A Refusal) (e : Refusal) → r ≡ unless_broken f x → r ≡ Err e → (f.number ≡ 0 → ⊥) × (e ≡ bound_refusal f)
  refused f r e is err =
      ⊎_elim
      (λ (z : f.number ≡ 0).
      let never : Err e ≡ Ok x = sym err ∙ is ∙ sym (passes f z) in
      let zero_one : ◌≡◌ {A = ℕ} 0 1 = cc in
      absurd (omega arith))
      (λ (some : f.number ≡ 0 → ⊥).
      let both : Err e ≡ Err (bound_refusal f) = sym err ∙ is ∙ sym (refuses f f refl some) in
      (some, cc))
      (eq_or_ne f.number 0)

-- ---- the tasks of a list, one after the other
-- Of the first n tasks, the one at place i is the list's,
pub task_among : (ts : List Task) (n i : ℕ) → i < length (take n ts) → get_or (take n ts) i no_task ≡ task_at ts i
unfolding task_at
task_among ts n i l = get_or-take n ts i no_task (omega (arith, length-take n ts))

-- and it is before the n-th.
pub before_end : (ts : List Task) (n i : ℕ) → i < length (take n ts) → i < n
before_end ts n i l = omega (arith, length-take n ts)

-- They end at the n-th, where the list reaches that far.
pub at_end : (ts : List Task) (n i : ℕ) → n ≤ length ts → i ≤ length (take n ts) → length (take n ts) ≤ i → i ≡ n
at_end ts n i reaches a b = omega (arith, length-take n ts)

-- ---- a search that stops at the first it finds
module _ (find : ℕ → Answer) where
  pub nothing_here : (i : ℕ) → (first_found find i).number ≡ 0 → (find i).number ≡ 0 → (first_found find (i + 1)).number ≡ 0
  unfolding first_found
  nothing_here i so_far here = rw add-one (none_else (first_found find i) (find i) so_far here)

  -- What is refused at a place is the whole search's refusal.
  pub refused_here : {A : Type 0} (x : A) (n i : ℕ) (r : Result (Unit {0}) Refusal) (e : Refusal) → i < n → (first_found find i).number ≡ 0 → r ≡ unless_broken (find i) tt → r ≡ Err e
      → Err e ≡ unless_broken (first_found find n) x
  refused_here x n i r e l so_far is err =
      let h = refused tt (find i) r e is err in
      ap Err h.1 ∙ refuses x (first_found find n) (find i) (found_at find n i l so_far h.0) h.0

  pub found_here : (n i : ℕ) (says : Answer) → i < n → (first_found find i).number ≡ 0 → find i ≡ says → (says.number ≡ 0 → ⊥) → first_found find n ≡ says
  found_here n i says l so_far e some = found_at find n i l so_far (λ z. some (sym (ap (λ (a : Answer). a.number) e) ∙ z)) ∙ e

pub of_task_at : (ts : List Task) (i : ℕ) (g : Answer) → g ≡ of_numbers (task_at ts i).period (task_at ts i).runtime (task_at ts i).deadline (i + 1) → g ≡ of_task ts i
unfolding of_task
of_task_at ts i g e = rw (← add-one i) e

pub of_task_among : (ts : List Task) (n i : ℕ) → i < length (take n ts)
    → of_numbers (get_or (take n ts) i no_task).period (get_or (take n ts) i no_task).runtime (get_or (take n ts) i no_task).deadline (i + 1) ≡ of_task ts i
of_task_among ts n i l = of_task_at ts i _ (ap (λ (t : Task). of_numbers t.period t.runtime t.deadline (i + 1)) (task_among ts n i l))

-- ---- a running number with one task more, and its bound
module _ (bound next r : ℕ) (is : r ≡ next) (says : Answer) (some : says.number ≡ 0 → ⊥) where
  pub exceeds : bound < r → choose (ltb bound next) says none ≡ says
  exceeds over = choose_yes _ _ _ (lt-ltb bound next (omega arith))

  pub keeps_to : r ≤ bound → (choose (ltb bound next) says none).number ≡ 0
  keeps_to within = (one_test_none bound next says some).1 (omega arith)

-- ---- one more task in a running sum or multiple
pub one_more_memory : (ts : List Task) (i s m : ℕ) → s ≡ memory_sum ts i → m ≡ (task_at ts i).memory → s + m ≡ memory_sum ts (suc i)
unfolding memory_sum sum
one_more_memory ts i s m es em = ap₂ ◌+◌ es em

pub one_more_multiple : (ts : List Task) (i m r : ℕ) → m ≡ multiple ts i → r ≡ lcm_of m (task_at ts i).period → r ≡ multiple ts (suc i)
unfolding multiple
one_more_multiple ts i m r em er = er ∙ ap (λ (x : ℕ). lcm_of x (task_at ts i).period) em

pub one_more_jobs : (ts : List Task) (cycle i jobs : ℕ) → jobs ≡ job_sum ts cycle i → jobs + cycle / (task_at ts i).period ≡ job_sum ts cycle (i + 1)
unfolding job_sum sum
one_more_jobs ts cycle i jobs e = rw add-one (ap (λ (x : ℕ). x + cycle / (task_at ts i).period) e)
