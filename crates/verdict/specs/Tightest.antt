-- The tightest task: no task is tighter, and no other task is so.
use Rattle.std.specs.Prelude.{◌≡◌, ℕ, zero, suc, ◌<◌, ◌≤◌, true, false}
use Rattle.std.proofs.Common.{sym, ap, ◌∙◌, true≢false, arith}
use Rattle.std.proofs.Math.Logic.{⊎_elim}
use borrow.Author.Tests.{eq-eqb, ne_eqb, lt-ltb, le-ltb, ltb-true, ltb-false}
use Rattle.basis.specs.Choose.{choose, bool_cases, le_or_lt, eq_or_ne, below_suc}
use Rattle.plan.specs.Plan.{Plan, key_in, ranks_before}
use Rattle.plan.specs.Rank.{rank}
use Rattle.plan.proofs.Rank.{rank_tells, not_before_key, not_before_place}
use Rattle.plan.proofs.Order.{not_itself}
use Rattle.verdict.specs.Margin.{margin, tighter, tightest}

-- of equal margins the rank decides, and otherwise the margin
module _ (P : Plan) (i j : ℕ) where
  equal_margins : margin P i ≡ margin P j → tighter P i j ≡ ranks_before (key_in P 0) i j
  unfolding tighter
  equal_margins q = rw (le-ltb (margin P i) (margin P j) (omega arith), eq-eqb (margin P i) (margin P j) q)

  smaller_margin : margin P i < margin P j → tighter P i j ≡ true
  unfolding tighter
  smaller_margin l = rw (lt-ltb (margin P i) (margin P j) l)

  larger_margin : margin P j < margin P i → tighter P i j ≡ false
  unfolding tighter
  larger_margin l = rw (le-ltb (margin P i) (margin P j) (omega arith), ne_eqb (margin P i) (margin P j) (λ q. omega arith))

  no_larger : tighter P i j ≡ true → margin P i ≤ margin P j
  no_larger t = ⊎_elim (λ (l : margin P i ≤ margin P j). l) (λ (l : margin P j < margin P i). absurd (true≢false (sym t ∙ larger_margin l))) (le_or_lt (margin P i) (margin P j))

-- what none is tighter tells of margins and ranks
module _ (P : Plan) (i j : ℕ) (f : tighter P j i ≡ false) where
  pub no_smaller : margin P i ≤ margin P j
  no_smaller = ⊎_elim (λ (l : margin P i ≤ margin P j). l) (λ (l : margin P j < margin P i). absurd (true≢false (sym (smaller_margin P j i l) ∙ f))) (le_or_lt (margin P i) (margin P j))

  pub no_better : margin P i ≡ margin P j → ranks_before (key_in P 0) j i ≡ false
  no_better q = sym (equal_margins P j i (sym q)) ∙ f

-- What has no smaller margin, nor the same and a better rank, is not tighter.
pub not_tighter : (P : Plan) (j i : ℕ) → margin P i ≤ margin P j → (margin P i ≡ margin P j → ranks_before (key_in P 0) j i ≡ false) → tighter P j i ≡ false
not_tighter P j i l later =
    ⊎_elim
    (λ (e : margin P i ≡ margin P j). equal_margins P j i (sym e) ∙ later e)
    (λ (ne : margin P i ≡ margin P j → ⊥). larger_margin P j i (omega arith))
    (eq_or_ne (margin P i) (margin P j))

module _ (P : Plan) where
  -- No task is tighter than the tightest.
  pub record Tightest (n i : ℕ) : Type 0 where
    pub is_below : i < n
    pub none_tighter : (j : ℕ) → j < n → tighter P j i ≡ false

  abbrev τ : ℕ → ℕ
  τ = rank P.count (key_in P 0)

  -- if k is not tighter than j, and i is tighter than j, then k is not tighter than i
  tighter_through : (i j k : ℕ) → i < P.count → j < P.count → k < P.count → tighter P i j ≡ true → tighter P k j ≡ false → tighter P k i ≡ false
  tighter_through i j k li lj lk ij kj =
      let a = no_larger P i j ij in
      let b = no_smaller P j k kj in
      not_tighter P k i (omega arith)
      (λ q.
      let before = ltb-true (τ i) (τ j) (sym (equal_margins P i j (omega arith) ∙ rank_tells (key_in P 0) P.count i j li lj) ∙ ij) in
      let behind = ltb-false (τ k) (τ j) (sym (rank_tells (key_in P 0) P.count k j lk lj) ∙ no_better P j k kj (omega arith)) in
      rank_tells (key_in P 0) P.count k i lk li ∙ le-ltb (τ k) (τ i) (omega arith))

  -- task n stands by itself, and the others are held against the tightest
  one_more : (n i : ℕ) → i < suc n → ((j : ℕ) → j < n → tighter P j i ≡ false) → tighter P n i ≡ false → Tightest (suc n) i
  one_more n i l others last = record { is_below = l; none_tighter = λ j lj. ⊎_elim (others j) (λ (e : j ≡ n). ap (λ (x : ℕ). tighter P x i) e ∙ last) (below_suc j n lj) }

  itself : (i : ℕ) → tighter P i i ≡ false
  itself i = not_tighter P i i (omega arith) (λ e. not_itself (key_in P 0) i i (omega arith))

  pub tightest_law : (n : ℕ) → 1 ≤ n → n ≤ P.count → Tightest n (tightest P n)
  unfolding tightest choose
  tightest_law zero p l = absurd (omega arith)
  tightest_law (suc zero) p l = one_more 0 0 (omega arith) (λ j lj. absurd (omega arith)) (itself 0)
  tightest_law (suc (suc n)) p l =
      let T = tightest_law (suc n) (omega arith) (omega arith) in
      ⊎_elim
      (λ (t : tighter P (suc n) (tightest P (suc n)) ≡ true).
      rw (ne_eqb (suc n) 0 (λ z. omega arith), t)
      (one_more (suc n) (suc n) (omega arith) (λ j lj. tighter_through (suc n) (tightest P (suc n)) j l (omega (arith, T.is_below)) (omega arith) t (T.none_tighter j lj)) (itself (suc n))))
      (λ (f : tighter P (suc n) (tightest P (suc n)) ≡ false). rw (ne_eqb (suc n) 0 (λ z. omega arith), f) (one_more (suc n) _ (omega (arith, T.is_below)) T.none_tighter f))
      (bool_cases (tighter P (suc n) (tightest P (suc n))))

-- No other task is the tightest.
pub tightest_only : (P : Plan) (i j : ℕ) → Tightest P P.count i → Tightest P P.count j → i ≡ j
tightest_only P i j T U =
    let ij = T.none_tighter j U.is_below in
    let ji = U.none_tighter i T.is_below in
    let same : margin P i ≡ margin P j = omega (arith, no_smaller P i j ij, no_smaller P j i ji) in
    let f = no_better P i j ij same in
    let g = no_better P j i ji (sym same) in
    let keys : key_in P 0 i ≡ key_in P 0 j = omega (arith, not_before_key (key_in P 0) j i f, not_before_key (key_in P 0) i j g) in
    omega (arith, not_before_place (key_in P 0) j i f (sym keys), not_before_place (key_in P 0) i j g keys)
