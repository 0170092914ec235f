-- The least number that passes a test, and that nothing else is.
use Rattle.std.specs.Prelude.{◌≡◌, Bool, true, ltb}
use Rattle.std.proofs.Common.{sym, ◌∙◌, true≢false, arith, lt-ltb, le-ltb}
use Rattle.std.proofs.Math.Path.{ap}
use Rattle.std.proofs.Math.Bool.{false}
use Rattle.std.proofs.Math.Logic.{⊎_elim}
use Prim.Native.Nat.{ℕ, zero, suc, ◌≤◌, ◌<◌}
use Rattle.basis.specs.Choose.{choose, bool_cases, le_or_lt, below_suc}

-- The least number below n that passes the test; n if none does.
unfoldable pub least : (ℕ → Bool) → ℕ → ℕ
least test zero = 0
least test (suc n) = choose (ltb (least test n) n) (least test n) (choose (test n) n (suc n))

-- s is that number: it passes unless it is n, and none before it does.
pub record Least (test : ℕ → Bool) (n s : ℕ) : Type 0 where
  pub within : s ≤ n
  pub passes : s < n → test s ≡ true
  pub none_before : (j : ℕ) → j < s → test j ≡ false

module _ (test : ℕ → Bool) where
  pub least_law : (n : ℕ) → Least test n (least test n)
  unfolding least choose
  least_law zero = record { within = omega arith; passes = λ l. absurd (omega arith); none_before = λ j l. absurd (omega arith) }
  least_law (suc n) =
      let h = least_law n in
      ⊎_elim
      (λ (l : n ≤ least test n).
      let all : (j : ℕ) → j < n → test j ≡ false = λ j lj. h.none_before j (omega arith) in
      rw (le-ltb (least test n) n l)
      (⊎_elim
      (λ (p : test n ≡ true). rw p (record { within = omega arith; passes = λ _. p; none_before = all }))
      (λ (f : test n ≡ false).
      rw f
      (record {
        within = omega arith;
        passes = λ z. absurd (omega arith);
        none_before = λ j lj. ⊎_elim (λ b. all j b) (λ e. ap test e ∙ f) (below_suc j n lj);
      }))
      (bool_cases (test n))))
      (λ (l : least test n < n).
      rw (lt-ltb (least test n) n l) (record { within = omega arith; passes = λ _. h.passes l; none_before = h.none_before }))
      (le_or_lt n (least test n))

  pub least_is : (n s : ℕ) → Least test n s → least test n ≡ s
  least_is n s h =
      let k = least_law n in
      ⊎_elim
      (λ (a : least test n ≤ s).
      ⊎_elim
      (λ (b : s ≤ least test n). omega arith)
      (λ (b : least test n < s). absurd (true≢false (sym (k.passes (omega (arith, h.within))) ∙ h.none_before (least test n) b)))
      (le_or_lt s (least test n)))
      (λ (a : s < least test n). absurd (true≢false (sym (h.passes (omega (arith, k.within))) ∙ k.none_before s a)))
      (le_or_lt (least test n) s)
