-- The scan's law: which entry `first` gives, that no other entry is so, and rank as one number.
use Rattle.std.specs.Prelude.{◌≡◌, true, false, ltb}
use Rattle.std.proofs.Math.Path.{refl, sym, ap}
use Rattle.std.proofs.Common.{◌∙◌, true≢false}
use Rattle.std.proofs.Math.Logic.{inl, inr, ⊎_elim}
use Prim.Native.Nat.{ℕ, zero, suc, ◌+◌, ◌*◌, ◌≤◌, ◌<◌}
use native.Mathlib.Omega.{arith}
use Rattle.std.proofs.Math.Nat.{mul-le-mul_right, suc_inj}
use borrow.Author.Tests.{lt-ltb, le-ltb, ltb-false, eq-eqb, ne_eqb}
use Rattle.basis.specs.Choose.{choose, le_or_lt, eq_or_ne, ltb_same, below_suc}
use Rattle.plan.specs.Plan.{ranks_before, FirstTask, IsFirst, first_of, first}
use Rattle.plan.specs.Rank.{rank}

module _ (key : ℕ → ℕ) where
  pub smaller_key_first : (i j : ℕ) → key i < key j → ranks_before key i j ≡ true
  unfolding ranks_before
  smaller_key_first i j l = rw (lt-ltb (key i) (key j) l)

  larger_key_later : (i j : ℕ) → key j < key i → ranks_before key i j ≡ false
  unfolding ranks_before
  larger_key_later i j l = rw (le-ltb (key i) (key j) (omega arith), ne_eqb (key i) (key j) (λ e. omega arith))

  equal_keys_by_place : (i j : ℕ) → key i ≡ key j → ranks_before key i j ≡ ltb i j
  unfolding ranks_before
  equal_keys_by_place i j e = rw (le-ltb (key i) (key j) (omega arith), eq-eqb (key i) (key j) e)

  pub later_place_later : (i j : ℕ) → key j ≤ key i → j ≤ i → ranks_before key i j ≡ false
  later_place_later i j l lj =
      ⊎_elim
      (λ (e : key i ≡ key j). equal_keys_by_place i j e ∙ le-ltb i j lj)
      (λ (ne : key i ≡ key j → ⊥). larger_key_later i j (omega arith))
      (eq_or_ne (key i) (key j))

  pub earlier_place_first : (i j : ℕ) → key i ≤ key j → i < j → ranks_before key i j ≡ true
  earlier_place_first i j l lj =
      ⊎_elim
      (λ (e : key i ≡ key j). equal_keys_by_place i j e ∙ lt-ltb i j lj)
      (λ (ne : key i ≡ key j → ⊥). smaller_key_first i j (omega arith))
      (eq_or_ne (key i) (key j))

  pub not_before_key : (i j : ℕ) → ranks_before key i j ≡ false → key j ≤ key i
  not_before_key i j h =
      ⊎_elim (λ (l : key j ≤ key i). l) (λ (l : key i < key j). let z : true ≡ false = sym (smaller_key_first i j l) ∙ h in absurd (true≢false z)) (le_or_lt (key j) (key i))

  pub not_before_place : (i j : ℕ) → ranks_before key i j ≡ false → key i ≡ key j → j ≤ i
  not_before_place i j h e = ltb-false i j (sym (equal_keys_by_place i j e) ∙ h)

  pub rank_tells : (n i j : ℕ) → i < n → j < n → ranks_before key i j ≡ ltb (rank n key i) (rank n key j)
  unfolding rank
  rank_tells n i j li lj =
      ⊎_elim
      (λ (le : key i ≤ key j).
      ⊎_elim
      (λ (e : key i ≡ key j).
      equal_keys_by_place i j e ∙ ltb_same i j (key i * n + i) (key j * n + j) (λ l. omega (arith, ap (λ (k : ℕ). k * n) e)) (λ l. omega (arith, ap (λ (k : ℕ). k * n) e)))
      (λ (ne : key i ≡ key j → ⊥).
      let l : key i < key j = omega arith in
      smaller_key_first i j l ∙ sym (lt-ltb (key i * n + i) (key j * n + j) (omega (arith, below l))))
      (eq_or_ne (key i) (key j)))
      (λ (gt : key j < key i). larger_key_later i j gt ∙ sym (le-ltb (key i * n + i) (key j * n + j) (omega (arith, below gt))))
      (le_or_lt (key i) (key j))
    where
      below : {a b : ℕ} → a < b → a * n + n ≤ b * n
      below {a} {b} l = omega (arith, mul-le-mul_right n l)

-- ---- the scan's law
module _ (key wants : ℕ → ℕ) (n : ℕ) where
  -- Task n comes first if none of the others that wants a slice ranks before it;
  comes_first : 0 < wants n → ((j : ℕ) → j < n → 0 < wants j → ranks_before key j n ≡ false) → FirstTask key wants (suc n) (suc n)
  comes_first w others = record {
    task = n;
    is = refl;
    below = omega arith;
    wanting = w;
    none_before = λ j l p.
        ⊎_elim (λ b. others j b p) (λ b. later_place_later key j n (omega (arith, ap key b)) (omega arith)) (below_suc j n l);
  }

  -- and whoever was first stays so if task n, where it wants a slice, does not rank before.
  stays_first : (e : ℕ) (h : FirstTask key wants n e) → (0 < wants n → ranks_before key n h.task ≡ false) → FirstTask key wants (suc n) e
  stays_first e h behind = record {
    task = h.task;
    is = h.is;
    below = omega arith;
    wanting = h.wanting;
    none_before = λ j l p. ⊎_elim (λ b. h.none_before j b p) (λ (b : j ≡ n). rw b (behind (rw b at p))) (below_suc j n l);
  }

  one_more : (w e : ℕ) → wants n ≡ w → IsFirst key wants n e → IsFirst key wants (suc n) (first_of key w n e)
  unfolding IsFirst first_of choose
  one_more zero e q (inl h) =
      inl (record { idle = h.idle; none = λ j l. ⊎_elim (λ b. h.none j b) (λ b. ap wants b ∙ q) (below_suc j n l) })
  one_more zero e q (inr h) = inr (stays_first e h (λ p. absurd (omega arith)))
  one_more (suc w) zero q (inl h) = inr (comes_first (omega arith) (λ j l p. absurd (omega (arith, h.none j l))))
  one_more (suc w) zero q (inr h) = absurd (omega arith)
  one_more (suc w) (suc i) q (inl h) = absurd (omega arith)
  one_more (suc w) (suc i) q (inr h) =
      let same = ap key (suc_inj h.is) in
      ⊎_elim
      (λ (l : key i ≤ key n).
      rw (le-ltb (key n) (key i) l) (inr (stays_first (suc i) h (λ _. later_place_later key n h.task (omega arith) (omega arith)))))
      (λ (l : key n < key i).
      rw (lt-ltb (key n) (key i) l)
      (inr (comes_first (omega arith) (λ j lj p. larger_key_later key j n (omega (arith, not_before_key key j h.task (h.none_before j lj p)))))))
      (le_or_lt (key i) (key n))

module _ (key wants : ℕ → ℕ) where
  -- `first` is the first-ranking task that wants a slice.
  pub first_law : (n : ℕ) → IsFirst key wants n (first key wants n)
  unfolding IsFirst first
  first_law zero = inl (record { idle = refl; none = λ j l. absurd (omega arith) })
  first_law (suc n) = one_more key wants n (wants n) (first key wants n) refl (first_law n)

  -- No other entry is.
  pub first_only : (n e f : ℕ) → IsFirst key wants n e → IsFirst key wants n f → e ≡ f
  unfolding IsFirst
  first_only n e f (inl h) (inl k) = omega arith
  first_only n e f (inl h) (inr k) = absurd (omega (arith, h.none k.task k.below))
  first_only n e f (inr h) (inl k) = absurd (omega (arith, k.none h.task h.below))
  first_only n e f (inr h) (inr k) =
      let a : key k.task ≤ key h.task = not_before_key key h.task k.task (k.none_before h.task h.below h.wanting) in
      let b : key h.task ≤ key k.task = not_before_key key k.task h.task (h.none_before k.task k.below k.wanting) in
      omega (arith, not_before_place key h.task k.task (k.none_before h.task h.below h.wanting) (omega arith), not_before_place key k.task h.task (h.none_before k.task k.below k.wanting) (omega arith))

  pub first_is : (n e : ℕ) → IsFirst key wants n e → e ≡ first key wants n
  first_is n e h = first_only n e (first key wants n) h (first_law n)

-- It goes by the keys and by who wants a slice, not by how many.
module _ (key key' wants wants' : ℕ → ℕ) (n : ℕ)
    (keys : (i : ℕ) → i < n → key i ≡ key' i)
    (none : (i : ℕ) → i < n → wants i ≡ 0 → wants' i ≡ 0)
    (some : (i : ℕ) → i < n → wants' i ≡ 0 → wants i ≡ 0) where
  same_order : (i j : ℕ) → i < n → j < n → ranks_before key i j ≡ ranks_before key' i j
  unfolding ranks_before
  same_order i j li lj = rw (keys i li, keys j lj)

  pub same_law : (e : ℕ) → IsFirst key wants n e → IsFirst key' wants' n e
  unfolding IsFirst
  same_law e (inl h) = inl (record { idle = h.idle; none = λ j l. none j l (h.none j l) })
  same_law e (inr h) = inr (record {
    task = h.task;
    is = h.is;
    below = h.below;
    wanting = wanting_too h.task h.below some h.wanting;
    none_before = λ j l p. sym (same_order j h.task l h.below) ∙ h.none_before j l (wanting_too j l none p);
  })
    where
      wanting_too : {f g : ℕ → ℕ} (i : ℕ) → i < n → ((i : ℕ) → i < n → g i ≡ 0 → f i ≡ 0) → 0 < f i → 0 < g i
      wanting_too {f} {g} i l k p = ⊎_elim (λ (z : g i ≡ 0). absurd (omega (arith, k i l z))) (λ (nz : g i ≡ 0 → ⊥). omega arith) (eq_or_ne (g i) 0)

  pub first_same : first key wants n ≡ first key' wants' n
  first_same = first_is key' wants' n (first key wants n) (same_law (first key wants n) (first_law key wants n))

pub first_ext : (key key' wants wants' : ℕ → ℕ) (n : ℕ) → ((i : ℕ) → i < n → key i ≡ key' i) → ((i : ℕ) → i < n → wants i ≡ wants' i) → first key wants n ≡ first key' wants' n
first_ext key key' wants wants' n keys e = first_same key key' wants wants' n keys (λ i l z. sym (e i l) ∙ z) (λ i l z. e i l ∙ z)
