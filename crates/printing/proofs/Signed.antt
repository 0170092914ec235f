-- A signed number of 32 bits: as it is read from its bits, and its sign.
use Rattle.std.proofs.Common.{◌≡◌, refl, true, false, true≢false, ◌∷◌, [], ◌^◌, ◌≤◌, ℤ, pos, negsuc, nat_abs, arith}
use lib.Signed.{lt_z}
use mir.Syntax.{w32}
use mir.Val.{SFits, to_z, of_z}
use mir.Facts.{to_z-of_z}
use borrow.Author.Tests.{ltb-true}
use Rattle.printing.specs.Text.{ascii, sign}

-- the number as it is read from its 32 bits
abbrev pub read32 : ℤ → ℤ
read32 z = to_z w32 (of_z w32 z)

pub magnitude_small : (z : ℤ) → SFits w32 z → nat_abs z ≤ 2 ^ 31
magnitude_small (pos n) f = omega (arith, f.sfits)
magnitude_small (negsuc n) f = omega (arith, f.sfits)

below_zero : (z : ℤ) → lt_z z (pos 0) ≡ true → sign z ≡ 45 ∷ []
unfolding sign ascii
below_zero (pos n) h = absurd (omega (arith, ltb-true n 0 h))
below_zero (negsuc n) h = refl

not_below : (z : ℤ) → lt_z z (pos 0) ≡ false → sign z ≡ []
unfolding sign
not_below (pos n) h = refl
not_below (negsuc n) h = absurd (true≢false h)

module _ (z : ℤ) (f : SFits w32 z) where
  pub back32 : read32 z ≡ z
  back32 = to_z-of_z {w = w32} f

  pub sign_below : lt_z (read32 z) (pos 0) ≡ true → sign z ≡ 45 ∷ []
  sign_below h = below_zero z (rw back32 at h)

  pub sign_above : lt_z (read32 z) (pos 0) ≡ false → sign z ≡ []
  sign_above h = not_below z (rw back32 at h)
