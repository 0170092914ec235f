-- A slice number divided by a period: which job it falls to and how old that job is, one slice further on; and division rounded up.
use Rattle.std.specs.Prelude.{◌≡◌}
use Rattle.std.proofs.Math.Path.{ap}
use Rattle.std.proofs.Common.{◌∙◌, arith, mod-lt, mod-eq_of_lt, div-lt_iff_lt-mul, add-mul}
use Prim.Native.Nat.{ℕ, suc, ◌+◌, ◌-◌, ◌*◌, ◌/◌, ◌%◌, ◌≤◌, ◌<◌}
use Rattle.std.proofs.Math.Nat.{div-add-mod', mul-add-div_right, mul-add-mod_self_right, div-eq_of_lt, lt-div-mul-add}
use Rattle.basis.specs.Slices.{ceil}

module _ (T : ℕ) (pos : 0 < T) where
  -- slice q * T + r, with r below T, is slice r of job q
  pub div_at : (q r : ℕ) → r < T → (q * T + r) / T ≡ q
  div_at q r l = omega (arith, mul-add-div_right pos q r, div-eq_of_lt l)

  pub mod_at : (q r : ℕ) → r < T → (q * T + r) % T ≡ r
  mod_at q r l = mul-add-mod_self_right q T r ∙ mod-eq_of_lt l

  -- one slice further on, in the same job
  pub div_same : (t : ℕ) → suc (t % T) < T → suc t / T ≡ t / T
  div_same t l = ap (λ (x : ℕ). x / T) (omega (arith, div-add-mod' t T)) ∙ div_at (t / T) (suc (t % T)) l

  pub mod_same : (t : ℕ) → suc (t % T) < T → suc t % T ≡ suc (t % T)
  mod_same t l = ap (λ (x : ℕ). x % T) (omega (arith, div-add-mod' t T)) ∙ mod_at (t / T) (suc (t % T)) l

  -- one slice further on, with the next job
  pub div_next : (t : ℕ) → suc (t % T) ≡ T → suc t / T ≡ suc (t / T)
  div_next t e = ap (λ (x : ℕ). x / T) (omega (arith, div-add-mod' t T)) ∙ div_at (suc (t / T)) 0 pos

  pub mod_next : (t : ℕ) → suc (t % T) ≡ T → suc t % T ≡ 0
  mod_next t e = ap (λ (x : ℕ). x % T) (omega (arith, div-add-mod' t T)) ∙ mod_at (suc (t / T)) 0 pos

  -- Rounded up, t / T is the least k with t ≤ k * T.
  pub ceil_covers : (t : ℕ) → t ≤ ceil t T * T
  unfolding ceil
  ceil_covers t = omega (arith, lt-div-mul-add {a = t + (T - 1)} pos)

  pub ceil_least : (t k : ℕ) → t ≤ k * T → ceil t T ≤ k
  unfolding ceil
  ceil_least t k h = omega (arith, (div-lt_iff_lt-mul {x = t + (T - 1)} {y = suc k} pos).1 (omega arith))

  -- so a sum rounds up to no more than its parts do
  pub ceil_sum : (s t : ℕ) → ceil (s + t) T ≤ ceil s T + ceil t T
  ceil_sum s t = ceil_least (s + t) (ceil s T + ceil t T) (omega (arith, ceil_covers s, ceil_covers t, add-mul (ceil s T) (ceil t T) T))

  -- Jobs released before slice t: none before slice 0, and by the end of slice t those from 0 to t / T.
  pub ceil_zero : ceil 0 T ≡ 0
  ceil_zero = omega (arith, ceil_least 0 0 (omega arith))

  pub ceil_suc : (t : ℕ) → ceil (suc t) T ≡ suc (t / T)
  unfolding ceil
  ceil_suc t = ap (λ (x : ℕ). x / T) (omega (arith, div-add-mod' t T)) ∙ div_at (suc (t / T)) (t % T) (mod-lt t pos)

  -- It never falls, and it stays the same up to the first multiple of T from slice s on.
  pub ceil_grows : (s t : ℕ) → s ≤ t → ceil s T ≤ ceil t T
  ceil_grows s t l = ceil_least s (ceil t T) (omega (arith, ceil_covers t))

  pub ceil_between : (s t : ℕ) → s ≤ t → t ≤ ceil s T * T → ceil t T ≡ ceil s T
  ceil_between s t l h = omega (arith, ceil_grows s t l, ceil_least t (ceil s T) h)
