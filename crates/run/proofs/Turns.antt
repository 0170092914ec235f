-- One turn of each loop over the tasks, as laws over plain values.
use Rattle.std.proofs.Common.{◌≡◌, ℕ, zero, suc, ◌+◌, ◌-◌, ◌<◌, ◌≤◌, Bool, true, false, ◌&&◌, ltb, Option, Some, None, sym, refl, ap, ◌∙◌, ap₂, ⊎_elim, true≢false, add-one, arith, le-ltb, lt-ltb}
use Rattle.basis.specs.Choose.{choose, choose_yes, choose_no, bool_cases, le_or_lt, eq_or_ne}
use Rattle.plan.specs.Plan.{first, first_of}
use Rattle.basis.specs.Sum.{sum}
use Rattle.run.specs.State.{every}
use Rattle.run.specs.Sound.{every_tells}
use Rattle.run.specs.Who.{of_entry}

module _ (test : ℕ → Bool) where
  -- the tests so far and the test of task i make the tests up to the next task
  pub one_more_sound : (i : ℕ) → every test i ≡ true → test i ≡ true → every test (i + 1) ≡ true
  unfolding every
  one_more_sound i ei et = rw add-one (ap₂ ◌&&◌ ei et)

  -- one that fails spoils all
  pub one_unsound : (n i : ℕ) → i < n → test i ≡ false → every test n ≡ false
  one_unsound n i l f =
      ⊎_elim
      (λ (t : every test n ≡ true). absurd (true≢false (sym (every_tells test n t i l) ∙ f)))
      (λ (h : every test n ≡ false). h)
      (bool_cases (every test n))

pub one_more_sum : (f : ℕ → ℕ) (i m : ℕ) → m ≡ sum f i → m + f i ≡ sum f (i + 1)
unfolding sum
one_more_sum f i m e = rw add-one (ap (λ (x : ℕ). x + f i) e)

-- ---- the scan for the first-ranking open task
of_two : (key : ℕ → ℕ) (i best : ℕ) → (best ≡ 0 → ⊥) → first_of key (choose false 0 1) i best ≡ choose (ltb (key i) (key (best - 1))) (suc i) best
unfolding first_of choose
of_two key i zero nz = absurd (nz refl)
of_two key i (suc j) nz = let e : suc j - 1 ≡ j = omega arith in rw e

module _ (key : ℕ → ℕ) (ended : Bool) (i best : ℕ) where
  -- Task i against the best so far: ended, it does not count;
  ended_stays : ended ≡ true → best ≡ first_of key (choose ended 0 1) i best
  unfolding first_of choose
  ended_stays e = rw e

  -- open, it is the first of all, or takes the place of one with a greater key.
  first_of_all : ended ≡ false → best ≡ 0 → i + 1 ≡ first_of key (choose ended 0 1) i best
  unfolding first_of choose
  first_of_all e z = rw (e, z, add-one)

  module _ (o : ended ≡ false) (nz : best ≡ 0 → ⊥) where
    against : first_of key (choose ended 0 1) i best ≡ choose (ltb (key i) (key (best - 1))) (suc i) best
    against = rw o (of_two key i best nz)

    smaller_taken : key i < key (best - 1) → i + 1 ≡ first_of key (choose ended 0 1) i best
    smaller_taken l = add-one i ∙ sym (against ∙ choose_yes _ _ _ (lt-ltb _ _ l))

    earlier_kept : key (best - 1) ≤ key i → best ≡ first_of key (choose ended 0 1) i best
    earlier_kept l = sym (against ∙ choose_no _ _ _ (le-ltb _ _ l))

  -- It is a task that was looked at.
  pub scanned_to : best ≤ i → first_of key (choose ended 0 1) i best ≤ suc i
  scanned_to l =
      ⊎_elim
      (λ (t : ended ≡ true). omega (arith, ended_stays t))
      (λ (o : ended ≡ false).
      ⊎_elim
      (λ (z : best ≡ 0). omega (arith, first_of_all o z))
      (λ (nz : best ≡ 0 → ⊥).
      ⊎_elim (λ (h : key (best - 1) ≤ key i). omega (arith, earlier_kept o nz h)) (λ (h : key i < key (best - 1)). omega (arith, smaller_taken o nz h)) (le_or_lt (key (best - 1)) (key i)))
      (eq_or_ne best 0))
      (bool_cases ended)

-- By what the scan holds: nothing yet, or the entry of a task.
pub entry_of_none : (e : ℕ) → None ≡ of_entry e → e ≡ 0
unfolding of_entry
entry_of_none zero q = refl
entry_of_none (suc i) q = cc

pub entry_of_some : (e task : ℕ) → Some task ≡ of_entry e → (e ≡ task) × (1 ≤ task)
unfolding of_entry
entry_of_some zero task q = cc
entry_of_some (suc i) task q = let z : suc i ≡ task = cc in (z, omega arith)

some_entry : (i e : ℕ) → i + 1 ≡ e → Some (i + 1) ≡ of_entry e
unfolding of_entry
some_entry i zero q = absurd (omega arith)
some_entry i (suc k) q = ap Some q

module _ (key : ℕ → ℕ) (ended : Bool) (i e : ℕ) (best : Option ℕ) (is : best ≡ of_entry e) where
  pub ended_keeps : ended ≡ true → best ≡ of_entry (first_of key (choose ended 0 1) i e)
  ended_keeps t = is ∙ ap of_entry (ended_stays key ended i e t)

  pub none_gives : ended ≡ false → best ≡ None → Some (i + 1) ≡ of_entry (first_of key (choose ended 0 1) i e)
  none_gives o n = some_entry i _ (first_of_all key ended i e o (entry_of_none e (sym n ∙ is)))

  module _ (task : ℕ) (some : best ≡ Some task) where
    held : (e ≡ task) × (1 ≤ task)
    held = entry_of_some e task (sym some ∙ is)

    pub smaller_gives : ended ≡ false → key i < key (task - 1) → Some (i + 1) ≡ of_entry (first_of key (choose ended 0 1) i e)
    smaller_gives o l = some_entry i _ (smaller_taken key ended i e o (λ z. omega (arith, held)) (rw held.0 l))

    pub earlier_keeps : ended ≡ false → key (task - 1) ≤ key i → Some task ≡ of_entry (first_of key (choose ended 0 1) i e)
    earlier_keeps o l = sym some ∙ is ∙ ap of_entry (earlier_kept key ended i e o (λ z. omega (arith, held)) (rw held.0 l))

-- A task more is looked at.
pub one_more_scanned : (key wants : ℕ → ℕ) (i : ℕ) (best : Option ℕ) → best ≡ of_entry (first_of key (wants i) i (first key wants i)) → best ≡ of_entry (first key wants (i + 1))
unfolding first
one_more_scanned key wants i best e = rw add-one e

pub scanned_next : (key : ℕ → ℕ) (ended : ℕ → Bool) (i : ℕ) → first key (λ k. choose (ended k) 0 1) i ≤ i → first key (λ k. choose (ended k) 0 1) (i + 1) ≤ i + 1
unfolding first
scanned_next key ended i l = rw add-one (scanned_to key (ended i) i (first key (λ k. choose (ended k) 0 1) i) l)
