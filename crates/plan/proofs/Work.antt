-- The work that tasks ranking before a given rank still want: in every slice it falls by exactly one, unless it is 0.
use Rattle.std.specs.Prelude.{◌≡◌, Bool, ◌⊎◌, ℕ, suc, pred, ◌+◌, ◌-◌, ◌%◌, ◌≤◌, ◌<◌, ltb, eqb}
use Rattle.std.proofs.Math.Path.{refl, ap}
use Rattle.std.proofs.Common.{sym, ◌∙◌, inl, inr}
use Rattle.std.proofs.Math.Logic.{⊎_elim}
use native.Mathlib.Omega.{arith}
use Rattle.std.proofs.Math.Nat.{suc_inj}
use borrow.Author.Tests.{lt-ltb, le-ltb, ltb-false, eq-eqb, ne_eqb}
use Rattle.basis.specs.Choose.{choose, choose_yes, choose_no, le_or_lt, eq_or_ne, ltb_same}
use Rattle.basis.specs.Sum.{sum, sum_zero, sum_ext, sum_le, sum_add, sum_more_at}
use Rattle.basis.proofs.Slices.{mod_at}
use Rattle.plan.specs.Plan.{gets, IsFirst, NoneWants, FirstTask}
use Rattle.plan.specs.Rank.{rank}
use Rattle.plan.proofs.Rank.{rank_tells}
use Rattle.plan.specs.Work.{after, before, part}

pub gets_one : (e i : ℕ) → e ≡ suc i → gets e i ≡ 1
unfolding gets
gets_one e i h = choose_yes (eqb e (suc i)) 1 0 (eq-eqb e (suc i) h)

pub gets_none : (e i : ℕ) → (e ≡ suc i → ⊥) → gets e i ≡ 0
unfolding gets
gets_none e i h = choose_no (eqb e (suc i)) 1 0 (ne_eqb e (suc i) h)

pub gets_cases : (e i : ℕ) → ((e ≡ suc i) × (gets e i ≡ 1)) ⊎ ((e ≡ suc i → ⊥) × (gets e i ≡ 0))
gets_cases e i = ⊎_elim (λ h. inl (h, gets_one e i h)) (λ h. inr (h, gets_none e i h)) (eq_or_ne e (suc i))

module _ (n : ℕ) (key : ℕ → ℕ) (ρ : ℕ) (f : ℕ → ℕ) (j : ℕ) where
  pub part_in : rank n key j < ρ → part n key ρ f j ≡ f j
  unfolding part
  part_in l = choose_yes (ltb (rank n key j) ρ) (f j) 0 (lt-ltb (rank n key j) ρ l)

  pub part_out : ρ ≤ rank n key j → part n key ρ f j ≡ 0
  unfolding part
  part_out l = choose_no (ltb (rank n key j) ρ) (f j) 0 (le-ltb (rank n key j) ρ l)

  pub part_zero : f j ≡ 0 → part n key ρ f j ≡ 0
  part_zero z = ⊎_elim (λ l. part_out l) (λ l. part_in l ∙ z) (le_or_lt ρ (rank n key j))

-- where g is no less at each task ranking before ρ, so is its sum over these
pub part_le : (n : ℕ) (key : ℕ → ℕ) (ρ : ℕ) (f g : ℕ → ℕ) (j : ℕ) → (rank n key j < ρ → f j ≤ g j) → part n key ρ f j ≤ part n key ρ g j
part_le n key ρ f g j h =
    ⊎_elim
    (λ (o : ρ ≤ rank n key j). omega (arith, part_out n key ρ f j o))
    (λ (b : rank n key j < ρ). omega (arith, part_in n key ρ f j b, part_in n key ρ g j b, h b))
    (le_or_lt ρ (rank n key j))

pub before_le : (n : ℕ) (key : ℕ → ℕ) (ρ : ℕ) (f g : ℕ → ℕ) → ((j : ℕ) → j < n → rank n key j < ρ → f j ≤ g j) → before n key ρ f ≤ before n key ρ g
unfolding before
before_le n key ρ f g h = sum_le (part n key ρ f) (part n key ρ g) n (λ j l. part_le n key ρ f g j (h j l))

pub before_all : (n : ℕ) (key : ℕ → ℕ) (ρ : ℕ) (f : ℕ → ℕ) → before n key ρ f ≤ sum f n
unfolding before
before_all n key ρ f = sum_le (part n key ρ f) f n (λ j l.
    ⊎_elim (λ (o : ρ ≤ rank n key j). omega (arith, part_out n key ρ f j o)) (λ (b : rank n key j < ρ). omega (arith, part_in n key ρ f j b)) (le_or_lt ρ (rank n key j)))

pub before_add : (n : ℕ) (key : ℕ → ℕ) (ρ : ℕ) (f g : ℕ → ℕ) → before n key ρ (λ j. f j + g j) ≡ before n key ρ f + before n key ρ g
unfolding before
before_add n key ρ f g =
    sum_ext (part n key ρ (λ j. f j + g j)) (λ j. part n key ρ f j + part n key ρ g j) n (λ j l. part_add j)
    ∙ sum_add (part n key ρ f) (part n key ρ g) n
  where
    part_add : (j : ℕ) → part n key ρ (λ j. f j + g j) j ≡ part n key ρ f j + part n key ρ g j
    part_add j =
        ⊎_elim
        (λ (o : ρ ≤ rank n key j). omega (arith, part_out n key ρ (λ j. f j + g j) j o, part_out n key ρ f j o, part_out n key ρ g j o))
        (λ (b : rank n key j < ρ). omega (arith, part_in n key ρ (λ j. f j + g j) j b, part_in n key ρ f j b, part_in n key ρ g j b))
        (le_or_lt ρ (rank n key j))

-- no two tasks have one rank
pub rank_only : (n : ℕ) (key : ℕ → ℕ) (i j : ℕ) → i < n → j < n → rank n key i ≡ rank n key j → i ≡ j
unfolding rank
rank_only n key i j li lj e = sym (mod_at n (omega arith) (key i) i li) ∙ ap (λ (x : ℕ). x % n) e ∙ mod_at n (omega arith) (key j) j lj

-- the work up to task j's own rank is that before it and the task's own
pub before_own : (n : ℕ) (key f : ℕ → ℕ) (j : ℕ) → j < n → before n key (rank n key j) f + f j ≡ before n key (suc (rank n key j)) f
unfolding before part
before_own n key f j lj =
    sum_more_at (part n key (suc (rank n key j)) f) (part n key (rank n key j) f) n j (f j) lj
    (omega (arith, part_out n key (rank n key j) f j (omega arith), part_in n key (suc (rank n key j)) f j (omega arith)))
    (λ i li ne.
    let other : rank n key i ≡ rank n key j → ⊥ = λ q. ne (rank_only n key i j li lj q) in
    ap (λ (b : Bool). choose b (f i) 0) (ltb_same (rank n key i) (rank n key j) (rank n key i) (suc (rank n key j)) (λ l. omega arith) (λ l. omega arith)))

-- One slice, with entry e for the first-ranking task that wants one.
module _ (n : ℕ) (key wants : ℕ → ℕ) (e : ℕ) (law : IsFirst key wants n e) where
  -- whoever gets the slice wants it, and whoever wants it does not rank before
  pub got_wants : (i : ℕ) → e ≡ suc i → (i < n) × (0 < wants i)
  unfolding IsFirst
  got_wants i h = ⊎_elim (λ (k : NoneWants wants n e). absurd (omega arith)) (λ (k : FirstTask key wants n e). let q : k.task ≡ i = suc_inj (sym k.is ∙ h) in (omega arith, omega (arith, ap wants q))) law

  pub got_first : (i j : ℕ) → e ≡ suc i → j < n → 0 < wants j → rank n key i ≤ rank n key j
  unfolding IsFirst
  got_first i j h l w =
      ⊎_elim
      (λ (k : NoneWants wants n e). absurd (omega arith))
      (λ (k : FirstTask key wants n e).
      let q : k.task ≡ i = suc_inj (sym k.is ∙ h) in
      omega (arith, ap (rank n key) q, ltb-false (rank n key j) (rank n key k.task) (sym (rank_tells key n j k.task l k.below) ∙ k.none_before j l w)))
      law

  -- while task i gets the slice, none ranking before it wants one
  pub none_before : (i ρ : ℕ) → e ≡ suc i → ρ ≤ rank n key i → before n key ρ wants ≡ 0
  unfolding before
  none_before i ρ h l = sum_zero (part n key ρ wants) n (λ j lj.
      ⊎_elim
      (λ (o : ρ ≤ rank n key j). part_out n key ρ wants j o)
      (λ (b : rank n key j < ρ).
      ⊎_elim
      (λ (z : wants j ≡ 0). part_zero n key ρ wants j z)
      (λ (nz : wants j ≡ 0 → ⊥). absurd (omega (arith, got_first i j h lj (omega arith))))
      (eq_or_ne (wants j) 0))
      (le_or_lt ρ (rank n key j)))

  after_less : (ρ : ℕ) → before n key ρ (after e wants) ≤ before n key ρ wants
  unfolding after
  after_less ρ = before_le n key ρ (after e wants) wants (λ j lj b. omega arith)

  -- where the task that gets the slice ranks before ρ, the work before ρ is one less after it
  one_done : (i ρ : ℕ) → e ≡ suc i → rank n key i < ρ → before n key ρ (after e wants) + 1 ≡ before n key ρ wants
  unfolding before after
  one_done i ρ h b =
      let w : (i < n) × (0 < wants i) = got_wants i h in
      sum_more_at (part n key ρ wants) (part n key ρ (after e wants)) n i 1 w.0
      (omega (arith, part_in n key ρ wants i b, part_in n key ρ (after e wants) i b, gets_one e i h))
      (λ j lj ne.
      let z : gets e j ≡ 0 = gets_none e j (λ q. ne (suc_inj (sym q ∙ h))) in
      ⊎_elim
      (λ (o : ρ ≤ rank n key j). omega (arith, part_out n key ρ (after e wants) j o, part_out n key ρ wants j o))
      (λ (q : rank n key j < ρ). omega (arith, part_in n key ρ (after e wants) j q, part_in n key ρ wants j q))
      (le_or_lt ρ (rank n key j)))

  none_wants : NoneWants wants n e → (ρ : ℕ) → before n key ρ wants ≡ 0
  unfolding before
  none_wants k ρ = sum_zero (part n key ρ wants) n (λ j lj. part_zero n key ρ wants j (k.none j lj))

  -- In every slice the work before a rank falls by exactly one, unless it is 0.
  pub work_falls : (ρ : ℕ) → before n key ρ (after e wants) ≡ pred (before n key ρ wants)
  unfolding IsFirst
  work_falls ρ =
      ⊎_elim
      (λ (k : NoneWants wants n e). omega (arith, none_wants k ρ, after_less ρ))
      (λ (k : FirstTask key wants n e).
      ⊎_elim
      (λ (o : ρ ≤ rank n key k.task). omega (arith, none_before k.task ρ k.is o, after_less ρ))
      (λ (b : rank n key k.task < ρ). omega (arith, one_done k.task ρ k.is b))
      (le_or_lt ρ (rank n key k.task)))
      law

  after_own : (j : ℕ) → after e wants j ≡ wants j - gets e j
  unfolding after
  after_own j = refl

  -- So does the work before task j with any part r of its own added.
  pub level_falls : (j r : ℕ) → j < n → r ≤ wants j → before n key (rank n key j) (after e wants) + (r - gets e j) ≡ pred (before n key (rank n key j) wants + r)
  level_falls j r lj lr =
      omega (
        arith,
        work_falls (rank n key j),
        work_falls (suc (rank n key j)),
        before_own n key wants j lj,
        before_own n key (after e wants) j lj,
        after_own j,
      )
