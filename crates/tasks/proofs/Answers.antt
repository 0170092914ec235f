-- What the checks of a list's bounds answer at each way out, as laws over plain values.
use Rattle.std.specs.Prelude.{Result, Ok, Err}
use mathlib.Core.Path.{◌≡◌, refl, sym, ap, ap₂, ◌∙◌}
use Prim.Native.Nat.{ℕ, ◌≤◌, ◌<◌}
use native.Mathlib.Omega.{arith}
use borrow.Author.Tests.{eq-eqb, ne_eqb, lt-ltb}
use Rattle.basis.specs.Choose.{choose, choose_yes, choose_no}
use Rattle.basis.specs.Answer.{Answer, refusal, ◌or_else◌, first_found, else_found, else_kept}
use Rattle.tasks.specs.declared.TaskList.{TaskList}
use Rattle.tasks.specs.declared.InBounds.{InBounds}
use Rattle.tasks.specs.declared.refusals.Refusal.{Refusal}
use Rattle.tasks.specs.declared.refusals.Refusal.TheVariants.{NoTasks, TooManyTasks}
use Rattle.tasks.specs.Bounds.{cycle_of, jobs_of, job_sum, of_count, of_task, of_memory, of_cycle, found, answer, bounds_of}
use Rattle.tasks.specs.Refusal.{bound_refusal, unless_broken}
use Rattle.tasks.specs.Kept.{AllFit}
use Rattle.tasks.proofs.Kept.{of_count_none, tasks_none, cycle_none}
use Rattle.tasks.proofs.Steps.{passes, refuses, passed, refused}

-- Of two checks the first is made first.
module _ {A B : Type 0} (x : A) (y : B) (a b : Answer) where
  first_refuses : (r : Result B Refusal) (e : Refusal) → r ≡ unless_broken a y → r ≡ Err e → Err e ≡ unless_broken (a or_else b) x
  first_refuses r e is err = let h = refused y a r e is err in ap Err h.1 ∙ refuses x (a or_else b) a (else_kept a b h.0) h.0

  then_next : a.number ≡ 0 → unless_broken b x ≡ unless_broken (a or_else b) x
  then_next z = ap (λ (f : Answer). unless_broken f x) (sym (else_found a b z))

module _ (l : TaskList) (supply : ℕ) where
  abbrev in_bounds : InBounds
  in_bounds = record { cycle = cycle_of l; jobs = jobs_of l }

  pub no_tasks : l.count ≡ 0 → Err NoTasks ≡ bounds_of l supply
  unfolding bounds_of answer found of_count refusal bound_refusal choose
  no_tasks z =
      let one : of_count l.count ≡ refusal 1 0 = choose_yes _ _ _ (eq-eqb l.count 0 z) in
      refuses in_bounds _ (refusal 1 0) (else_kept _ _ (λ e. omega (arith, ap (λ (a : Answer). a.number) one)) ∙ one) (λ e. omega arith)

  module _ (some : l.count ≡ 0 → ⊥) where
    pub too_many : 16 < l.count → Err TooManyTasks ≡ bounds_of l supply
    unfolding bounds_of answer found of_count refusal bound_refusal choose
    too_many many =
        let two : of_count l.count ≡ refusal 2 0 = choose_no _ _ _ (ne_eqb l.count 0 some) ∙ choose_yes _ _ _ (lt-ltb 16 l.count many) in
        refuses in_bounds _ (refusal 2 0) (else_kept _ _ (λ e. omega (arith, ap (λ (a : Answer). a.number) two)) ∙ two) (λ e. omega arith)

    -- ---- with 1 to 16 tasks
    module _ (few : l.count ≤ 16) (r : Result (Unit {0}) Refusal) (is : r ≡ unless_broken (first_found (of_task l.tasks) l.count) tt) where
      after_count : unless_broken (first_found (of_task l.tasks) l.count or_else first_found (of_memory l.tasks supply) l.count or_else first_found (of_cycle l.tasks) l.count) in_bounds ≡ bounds_of l supply
      unfolding bounds_of answer found
      after_count = then_next in_bounds (tt {0}) (of_count l.count) _ ((of_count_none l.count).1 (omega arith, few))

      pub task_refused : (e : Refusal) → r ≡ Err e → Err e ≡ bounds_of l supply
      task_refused e err = first_refuses in_bounds (tt {0}) _ _ r e is err ∙ after_count

      -- ---- that all fit
      module _ (all : r ≡ Ok tt) (m : Result (Unit {0}) Refusal) (im : m ≡ unless_broken (first_found (of_memory l.tasks supply) l.count) tt) where
        pub all_fit : AllFit l
        all_fit = record { few = few; fits = (tasks_none l supply).0 (passed (tt {0}) _ r tt is all) }

        after_tasks : unless_broken (first_found (of_memory l.tasks supply) l.count or_else first_found (of_cycle l.tasks) l.count) in_bounds ≡ bounds_of l supply
        after_tasks = then_next in_bounds (tt {0}) _ _ (passed (tt {0}) _ r tt is all) ∙ after_count

        pub memory_refused : (e : Refusal) → m ≡ Err e → Err e ≡ bounds_of l supply
        memory_refused e err = first_refuses in_bounds (tt {0}) _ _ m e im err ∙ after_tasks

        -- ---- with memory enough
        module _ (enough : m ≡ Ok tt) (c : Result ℕ Refusal) (ic : c ≡ unless_broken (first_found (of_cycle l.tasks) l.count) (cycle_of l)) where
          after_memory : unless_broken (first_found (of_cycle l.tasks) l.count) in_bounds ≡ bounds_of l supply
          after_memory = then_next in_bounds (tt {0}) _ _ (passed (tt {0}) _ m tt im enough) ∙ after_tasks

          pub cycle_refused : (e : Refusal) → c ≡ Err e → Err e ≡ bounds_of l supply
          cycle_refused e err = let h = refused (cycle_of l) _ c e ic err in ap Err h.1 ∙ refuses in_bounds _ _ refl h.0 ∙ after_memory

          module _ (cycle : ℕ) (ok : c ≡ Ok cycle) where
            within : (first_found (of_cycle l.tasks) l.count).number ≡ 0
            within = passed (cycle_of l) _ c cycle ic ok

            pub cycle_is : cycle ≡ cycle_of l
            cycle_is = let both : Ok cycle ≡ Ok (cycle_of l) = sym ok ∙ ic ∙ sym (passes (cycle_of l) _ within) in cc

            pub cycle_small : cycle ≤ 4096
            unfolding cycle_of
            cycle_small = rw cycle_is ((cycle_none l supply (omega arith) (λ i li. ((tasks_none l supply).0 (passed (tt {0}) _ r tt is all) i li).period_from)).0 within)

            pub all_kept : (jobs : ℕ) → jobs ≡ job_sum l.tasks cycle l.count → Ok (record { cycle = cycle; jobs = jobs }) ≡ bounds_of l supply
            unfolding jobs_of
            all_kept jobs ij = ap₂ (λ (x y : ℕ). Ok (record { cycle = x; jobs = y })) cycle_is (ij ∙ ap (λ (x : ℕ). job_sum l.tasks x l.count) cycle_is) ∙ passes in_bounds _ within ∙ after_memory
