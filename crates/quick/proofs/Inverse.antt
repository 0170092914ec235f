-- The jobs of a task in t slices, by the inverse of its period in parts of 2^32: for numbers up to 4,096 that is exact.
use mathlib.Core.Path.{◌≡◌, sym, ap, ◌∙◌}
use Prim.Native.Nat.{ℕ, zero, suc, ◌+◌, ◌-◌, ◌*◌, ◌/◌, ◌≤◌, ◌<◌}
use native.Mathlib.Omega.{arith}
use native.Mathlib.Numerals.{add-one}
use native.Mathlib.Nat.{mul-le-mul_left, mul-le-mul_right, mul_assoc, mul-add, mul_comm, div-add-mod', div-mul-le_self, lt-div-mul-add}
use Rattle.basis.specs.Slices.{ceil}
use Rattle.basis.proofs.Slices.{div_at, ceil_suc, ceil_covers, ceil_least}
use Rattle.quick.specs.Shapes.{inverse_of}

-- ---- division rounded up
module _ (T : ℕ) (pos : 0 < T) where
  released : (t : ℕ) → 1 ≤ t → (t - 1) / T + 1 ≡ ceil t T
  released zero l = absurd (omega arith)
  released (suc s) l = let e : suc s - 1 ≡ s = omega arith in ap (λ (x : ℕ). x / T + 1) e ∙ add-one (s / T) ∙ sym (ceil_suc T pos s)

  -- The first multiple from slice t on is less than a period away.
  pub multiple_near : (t : ℕ) → 1 ≤ t → ceil t T * T < t + T
  multiple_near zero l = absurd (omega arith)
  multiple_near (suc s) l = rw (ceil_suc T pos s) (omega (arith, div-add-mod' s T))

-- ---- division by the inverse
module _ (T : ℕ) (pos : 0 < T) (small : T ≤ 4096) where
  abbrev I : ℕ
  I = inverse_of T

  abbrev M : ℕ
  M = 4294967296

  pub inverse_most : I ≤ M
  unfolding inverse_of
  inverse_most = ceil_least T pos M M (omega (arith, mul-le-mul_left M pos))

  -- T inverses are 2^32 and less than T more, and an inverse is at least 2^20.
  covers : (M ≤ I * T) × (I * T < M + T)
  unfolding inverse_of
  covers = (ceil_covers T pos M, multiple_near T pos M (omega arith))

  inverse_large : 1048576 ≤ I
  inverse_large = omega (arith, covers.0, mul-le-mul_left I small)

  -- Numbers below 4,096 are divided exactly.
  module _ (n : ℕ) (below : n < 4096) where
    abbrev q : ℕ
    q = n / T

    swap : (x : ℕ) → x * T * I ≡ x * (I * T)
    swap x = mul_assoc x T I ∙ ap (λ (y : ℕ). x * y) (mul_comm T I)

    not_less : q * M ≤ n * I
    not_less = omega (arith, mul-le-mul_left q covers.0, swap q, mul-le-mul_right I (div-mul-le_self n T))

    not_more : n * I < q * M + M
    not_more =
        let next : suc n ≤ suc q * T = omega (arith, lt-div-mul-add {a = n} pos) in
        let most : I * T ≤ M + T = omega (arith, covers.1) in
        omega (arith, mul-le-mul_right I next, swap (suc q), mul-le-mul_left (suc q) most, mul-add (suc q) M T, div-mul-le_self n T, inverse_large)

    pub divides_exactly : n * I / M ≡ n / T
    divides_exactly = ap (λ (x : ℕ). x / M) (omega (arith, not_less)) ∙ div_at M (omega arith) q (n * I - q * M) (omega (arith, not_less, not_more))

  -- So the code counts jobs right.
  pub jobs_are : (t inverse : ℕ) → 1 ≤ t → t ≤ 4096 → inverse ≡ inverse_of T → (t - 1) * inverse / 4294967296 + 1 ≡ ceil t T
  jobs_are t inverse a b e = rw e (ap (λ (x : ℕ). x + 1) (divides_exactly (t - 1) (omega arith)) ∙ released T pos t a)
