-- Numbers of four bytes, as the code makes them of four digits and takes them apart.
use Rattle.std.proofs.Common.{◌≡◌, ℕ, ◌+◌, ◌*◌, ◌/◌, ◌%◌, ◌^◌, ◌<◌, ◌≤◌, sym, ap, ◌∙◌, mod-lt, mod-eq_of_lt, div-add-mod', arith}
use lib.Bits.{bit_and, and_block, and_high}
use Rattle.basis.proofs.Slices.{div_at, mod_at}
use Rattle.printing.specs.Text.{digit}
use Rattle.readback.specs.Shapes.{word, FourBits, FourDigits, LastBit}

-- ---- masks
-- The number of four bytes below some bound.
pub record Four (most n : ℕ) : Type 0 where
  pub a : ℕ
  pub b : ℕ
  pub c : ℕ
  pub d : ℕ
  pub is : n ≡ word a b c d
  pub a_below : a < most
  pub b_below : b < most
  pub c_below : c < most
  pub d_below : d < most

abbrev pub four : {most n : ℕ} (a b c d : ℕ) → a < most → b < most → c < most → d < most → n ≡ word a b c d → Four most n
four a b c d la lb lc ld e = record { a = a; b = b; c = c; d = d; is = e; a_below = la; b_below = lb; c_below = lc; d_below = ld }

wider : {least most n : ℕ} → least ≤ most → Four least n → Four most n
wider l f = four f.a f.b f.c f.d (omega (arith, f.a_below)) (omega (arith, f.b_below)) (omega (arith, f.c_below)) (omega (arith, f.d_below)) f.is

-- What has nothing in common with a mask has nothing in common with its last byte, nor the rest with the rest.
mask_step : (n mask m : ℕ) → m < 256 → bit_and n (mask * 256 + m) ≡ 0 → (bit_and (n / 256) mask ≡ 0) × (bit_and (n % 256) m ≡ 0)
mask_step n mask m l e =
    let split = and_block 8 (n / 256) mask (n % 256) m (mod-lt n (omega arith)) l in
    let all : bit_and (n / 256 * 256 + n % 256) (mask * 256 + m) ≡ 0 = ap (λ (x : ℕ). bit_and x (mask * 256 + m)) (div-add-mod' n 256) ∙ e in
    (omega (arith, split, all), omega (arith, split, all))

-- A mask of one byte, four times.
masked : (m most n : ℕ) → m < 256 → ((r : ℕ) → r < 256 → bit_and r m ≡ 0 → r < most) → n < 2 ^ 32 → bit_and n (((m * 256 + m) * 256 + m) * 256 + m) ≡ 0 → Four most n
masked m most n l small few e =
    let h1 = mask_step n ((m * 256 + m) * 256 + m) m l e in
    let h2 = mask_step (n / 256) (m * 256 + m) m l h1.0 in
    let h3 = mask_step (n / 256 / 256) m m l h2.0 in
    four (n % 256) (n / 256 % 256) (n / 256 / 256 % 256) (n / 256 / 256 / 256) (small (n % 256) (omega arith) h1.1) (small (n / 256 % 256) (omega arith) h2.1)
    (small (n / 256 / 256 % 256) (omega arith) h3.1)
    (small (n / 256 / 256 / 256) (omega arith) h3.0)
    (omega (arith, div-add-mod' n 256, div-add-mod' (n / 256) 256, div-add-mod' (n / 256 / 256) 256))

below_2 : (r : ℕ) → r < 256 → bit_and r 254 ≡ 0 → r < 2
below_2 r l z =
    let masked : bit_and r 254 ≡ r / 2 % 128 * 2 = and_high r 7 1 in
    let few : r / 2 < 128 = omega arith in
    omega (arith, mod-eq_of_lt few)

below_16 : (r : ℕ) → r < 256 → bit_and r 240 ≡ 0 → r < 16
below_16 r l z =
    let masked : bit_and r 240 ≡ r / 16 % 16 * 16 = and_high r 4 4 in
    let few : r / 16 < 16 = omega arith in
    omega (arith, mod-eq_of_lt few)

-- So few that "0000" can be added.
few_16 : (n : ℕ) → Four 16 n → n ≤ 252645135
few_16 n f = omega (arith, f)

-- ---- bytes
byte_one : (p a q b : ℕ) → a < 256 → b < 256 → p * 256 + a ≡ q * 256 + b → (p ≡ q) × (a ≡ b)
byte_one p a q b la lb e = (
  sym (div_at 256 (omega arith) p a la) ∙ ap (λ (i : ℕ). i / 256) e ∙ div_at 256 (omega arith) q b lb,
  sym (mod_at 256 (omega arith) p a la) ∙ ap (λ (i : ℕ). i % 256) e ∙ mod_at 256 (omega arith) q b lb,
)

-- Four bytes are those of one number alone.
module _ (n : ℕ) (f g : Four 256 n) where
  pub word_one : (f.a ≡ g.a) × (f.b ≡ g.b) × (f.c ≡ g.c) × (f.d ≡ g.d)
  word_one =
      let h1 = byte_one ((f.d * 256 + f.c) * 256 + f.b) f.a ((g.d * 256 + g.c) * 256 + g.b) g.a f.a_below g.a_below (omega (arith, f.is, g.is)) in
      let h2 = byte_one (f.d * 256 + f.c) f.b (g.d * 256 + g.c) g.b f.b_below g.b_below h1.0 in
      let h3 = byte_one f.d f.c g.d g.c f.c_below g.c_below h2.0 in
      (h1.1, h2.1, h3.1, h3.0)

-- ---- digits
bits_of : (a b c d r : ℕ) → a < 2 → b < 2 → c < 2 → d < 2 → r ≡ 8 * a + 4 * b + 2 * c + d → (r / 8 % 2 ≡ a) × (r / 4 % 2 ≡ b) × (r / 2 % 2 ≡ c) × (r % 2 ≡ d)
bits_of a b c d r la lb lc ld e = (omega arith, omega arith, omega arith, omega arith)

digits_of : (a b c d r : ℕ) → a < 10 → b < 10 → c < 10 → d < 10 → r ≡ 1000 * a + 100 * b + 10 * c + d → (r / 1000 % 10 ≡ a) × (r / 100 % 10 ≡ b) × (r / 10 % 10 ≡ c) × (r % 10 ≡ d)
digits_of a b c d r la lb lc ld e = (omega arith, omega arith, omega arith, omega arith)

-- Four binary digits and one more are five.
pub five_bits : (q last : ℕ)
    → last ≤ 1
    → ((q * 2 + last) / 16 % 2 ≡ q / 8 % 2) × ((q * 2 + last) / 8 % 2 ≡ q / 4 % 2) × ((q * 2 + last) / 4 % 2 ≡ q / 2 % 2) × ((q * 2 + last) / 2 % 2 ≡ q % 2) × ((q * 2 + last) % 2 ≡ last)
five_bits q last l = (omega arith, omega arith, omega arith, omega arith, omega arith)

module _ (w n : ℕ) (few : n < 2 ^ 32) (less : (n + 808464432) % 2 ^ 32 ≡ w) where
  -- With "0000" more, small bytes do not wrap.
  with_zeros : n ≤ 252645135 → w ≡ n + 808464432
  with_zeros l = let h : n + 808464432 < 2 ^ 32 = omega arith in sym less ∙ mod-eq_of_lt h

  module _ (bits : bit_and n 4278124286 ≡ 0) where
    four_bits : Four 2 n
    four_bits = masked 254 2 n (omega arith) below_2 few bits

    -- The product has them side by side from the 24th bit on.
    side_by_side : n * 134480385 / 16777216 % 16 ≡ 8 * four_bits.a + 4 * four_bits.b + 2 * four_bits.c + four_bits.d
    side_by_side =
        let f = four_bits in
        let high = f.b * 128 + f.c * 32832 + f.d * 8405024 in
        let side = 8 * f.a + 4 * f.b + 2 * f.c + f.d in
        let low = f.a * 262657 + f.b * 131328 + f.c * 65536 in
        let parts : n * 134480385 ≡ (high * 16 + side) * 16777216 + low = omega (arith, f.is) in
        ap (λ (i : ℕ). i / 16777216 % 16) parts
        ∙ ap (λ (i : ℕ). i % 16) (div_at 16777216 (omega arith) (high * 16 + side) low (omega (arith, f)))
        ∙ mod_at 16 (omega arith) high side (omega (arith, f))

    pub bits_read : FourBits w (n * 134480385 / 16777216 % 16)
    unfolding digit
    bits_read =
        let f = four_bits in
        let e = bits_of f.a f.b f.c f.d (n * 134480385 / 16777216 % 16) f.a_below f.b_below f.c_below f.d_below side_by_side in
        record { few = omega arith; are = with_zeros (few_16 n (wider (omega arith) f)) ∙ omega (arith, f.is, e.0, e.1, e.2, e.3) }

  module _ (small : bit_and n 4042322160 ≡ 0) where
    four_small : Four 16 n
    four_small = masked 240 16 n (omega arith) below_16 few small

    pub digits_few : n ≤ 252645135
    digits_few = few_16 n four_small

    module _ (too : bit_and (n + 101058054) 4042322160 ≡ 0) where
      -- Each with 6 more is below 16 too.
      four_digits : Four 10 n
      four_digits =
          let f = four_small in
          let g = masked 240 16 (n + 101058054) (omega arith) below_16 (omega (arith, digits_few)) too in
          let six : Four 256 (n + 101058054) = four (f.a + 6) (f.b + 6) (f.c + 6) (f.d + 6) (omega (arith, f.a_below)) (omega (arith, f.b_below)) (omega (arith, f.c_below)) (omega (arith, f.d_below)) (omega (arith, f.is)) in
          let same = word_one (n + 101058054) six (wider (omega arith) g) in
          four f.a f.b f.c f.d (omega (arith, same.0, g.a_below)) (omega (arith, same.1, g.b_below)) (omega (arith, same.2, g.c_below)) (omega (arith, same.3, g.d_below)) f.is

      pub digits_fewer : n ≤ 151587081
      digits_fewer = let f = four_digits in omega (arith, f)

      -- The first two digits are the last byte of the pairs, the last two the third.
      pairs : n * 10 + n / 256 ≡ word (10 * four_digits.a + four_digits.b) (10 * four_digits.b + four_digits.c) (10 * four_digits.c + four_digits.d) (10 * four_digits.d)
      pairs =
          let f = four_digits in
          let rest = f.b + f.c * 256 + f.d * 65536 in
          let e : n ≡ rest * 256 + f.a = omega (arith, f.is) in
          let q : n / 256 ≡ rest = ap (λ (i : ℕ). i / 256) e ∙ div_at 256 (omega arith) rest f.a (omega (arith, f.a_below)) in
          omega (arith, f.is, q)

      first_two : (n * 10 + n / 256) % 256 ≡ 10 * four_digits.a + four_digits.b
      first_two =
          let f = four_digits in
          let rest = 10 * f.b + f.c + (10 * f.c + f.d) * 256 + 10 * f.d * 65536 in
          let e : n * 10 + n / 256 ≡ rest * 256 + (10 * f.a + f.b) = omega (arith, pairs) in
          ap (λ (i : ℕ). i % 256) e ∙ mod_at 256 (omega arith) rest (10 * f.a + f.b) (omega (arith, f))

      last_two : (n * 10 + n / 256) / 65536 % 256 ≡ 10 * four_digits.c + four_digits.d
      last_two =
          let f = four_digits in
          let two = 10 * f.c + f.d in
          let low = 10 * f.a + f.b + (10 * f.b + f.c) * 256 in
          let e : n * 10 + n / 256 ≡ (10 * f.d * 256 + two) * 65536 + low = omega (arith, pairs) in
          ap (λ (i : ℕ). i / 65536 % 256) e
          ∙ ap (λ (i : ℕ). i % 256) (div_at 65536 (omega arith) (10 * f.d * 256 + two) low (omega (arith, f)))
          ∙ mod_at 256 (omega arith) (10 * f.d) two (omega (arith, f))

      pub digits_read : FourDigits w ((n * 10 + n / 256) % 256 * 100 + (n * 10 + n / 256) / 65536 % 256)
      unfolding digit
      digits_read =
          let f = four_digits in
          let e = digits_of f.a f.b f.c f.d ((n * 10 + n / 256) % 256 * 100 + (n * 10 + n / 256) / 65536 % 256) f.a_below f.b_below f.c_below f.d_below (omega (arith, first_two, last_two)) in
          record { are = with_zeros digits_few ∙ omega (arith, f.is, e.0, e.1, e.2, e.3) }

-- ---- the end of a value line
pub last_read : (w n : ℕ) → n ≤ 1 → (n + 169943088) % 2 ^ 32 ≡ w → LastBit w n
unfolding digit
last_read w n l less = record { few = l; ends = let h : n + 169943088 < 2 ^ 32 = omega arith in sym less ∙ mod-eq_of_lt h ∙ omega arith }
