-- The tightest task so far against one more, as laws over plain values.
use Rattle.std.proofs.Common.{◌≡◌, ℕ, ◌+◌, ◌<◌, ◌≤◌, ap, ⊎_elim, arith}
use Rattle.basis.specs.Choose.{le_or_lt, below_suc}
use Rattle.verdict.specs.Shapes.{Tighter, TightestAt}

module _ (margin : ℕ → ℕ) where
  pub tightest_first : TightestAt margin 1 0
  tightest_first = record { below = omega arith; smallest = λ k l. let z : 0 ≡ k = omega arith in omega (arith, ap margin z); first = λ k l. absurd (omega arith) }

  pub tightest_more : (k best r : ℕ) → TightestAt margin k best → Tighter margin k best r → TightestAt margin (k + 1) r
  tightest_more k best r T e =
      ⊎_elim
      (λ (l : margin best ≤ margin k).
      rw (e.not_smaller l)
      (record {
        below = omega (arith, T.below);
        smallest = λ j lj. ⊎_elim (λ (b : j < k). T.smallest j b) (λ (q : j ≡ k). omega (arith, ap margin q)) (below_suc j k (omega arith));
        first = T.first;
      }))
      (λ (l : margin k < margin best).
      rw (e.smaller l)
      (record {
        below = omega arith;
        smallest = λ j lj. ⊎_elim (λ (b : j < k). omega (arith, T.smallest j b)) (λ (q : j ≡ k). omega (arith, ap margin q)) (below_suc j k (omega arith));
        first = λ j lj. omega (arith, T.smallest j lj);
      }))
      (le_or_lt (margin best) (margin k))
