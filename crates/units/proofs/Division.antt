-- The divisions that std ensures are those of the definitions.
use mathlib.Core.Path.{◌≡◌, refl, sym, ap, ◌∙◌}
use mathlib.Core.Logic.{⊎_elim}
use Prim.Native.Nat.{ℕ, ◌+◌, ◌-◌, ◌*◌, ◌/◌, ◌%◌, ◌≤◌, ◌<◌, min}
use native.Mathlib.Omega.{arith}
use native.Mathlib.Nat.{div-add-mod', mod-lt, mul-le-mul_left}
use borrow.Author.Tests.{eq-eqb, ne_eqb}
use Rattle.std.specs.Prelude.{Option, Some, None, eqb, SomeIff}
use Rattle.std.specs.Int.{div_ceil}
use Rattle.basis.specs.Choose.{choose, yes_so, no_so, eq_or_ne}
use Rattle.basis.specs.Slices.{ceil}
use Rattle.basis.proofs.Slices.{div_at}

-- Rounded up is the quotient where nothing is left over, else one more. That still fits, since what is left over is part of t too.
module _ (t T : ℕ) (pos : 0 < T) where
  pub nothing_left : t % T ≡ 0 → t / T ≡ ceil t T
  unfolding ceil
  nothing_left none =
      let same : t + (T - 1) ≡ t / T * T + (T - 1) = omega (arith, div-add-mod' t T) in
      sym (ap (λ (x : ℕ). x / T) same ∙ div_at T pos (t / T) (T - 1) (omega arith))

  pub something-left : (t % T ≡ 0 → ⊥) → t / T + 1 ≡ ceil t T
  unfolding ceil
  something-left some =
      let same : t + (T - 1) ≡ (t / T + 1) * T + (t % T - 1) = omega (arith, div-add-mod' t T) in
      sym (ap (λ (x : ℕ). x / T) same ∙ div_at T pos (t / T + 1) (t % T - 1) (omega (arith, mod-lt t pos)))

  pub one-more-fits : (t % T ≡ 0 → ⊥) → t / T + 1 ≤ t
  one-more-fits some = omega (arith, div-add-mod' t T, mul-le-mul_left (t / T) pos)

pub rounded_up : (t T : ℕ) → 0 < T → div_ceil t T ≡ ceil t T
rounded_up t T pos =
    ⊎_elim
    (λ (none : t % T ≡ 0). omega (arith, none, nothing_left t T pos none))
    (λ (some : t % T ≡ 0 → ⊥).
    let one : min 1 (t % T) ≡ 1 = omega arith in
    ap (λ (x : ℕ). t / T + x) one ∙ something-left t T pos some)
    (eq_or_ne (t % T) 0)

pub divided : (a b : ℕ) (r : Option ℕ) → SomeIff r (0 < b) (a / b) → r ≡ choose (eqb b 0) None (Some (a / b))
divided a b None none = yes_so _ _ _ _ (eq-eqb b 0 (omega (arith, none))) refl
divided a b (Some q) h = no_so _ _ _ _ (ne_eqb b 0 (λ z. omega (arith, h.0))) (ap Some h.1)
