-- Euclid's rule: the greatest common divisor of two numbers, and their least common multiple, which rests on it.
use Rattle.std.specs.Prelude.{◌≡◌, refl, ℕ, zero, suc, ◌+◌, ◌*◌, ◌/◌, ◌%◌, ◌≤◌, ◌<◌}
use Rattle.std.proofs.Math.Path.{sym, ap, subst}
use Rattle.std.proofs.Common.{◌∙◌, arith, mul-pos, mul_left_comm, mod-lt, mul-add, mul_assoc, mul_comm, one-mul}
use Rattle.std.specs.Int.{◌∣◌}
use Rattle.std.proofs.Math.Nat.{dvd_refl, dvd-zero, dvd-mul_left, dvd-mul_right, dvd-mod_iff, dvd-add_iff_right, dvd-mul_right_of_dvd, pos_of_dvd_of_pos, eq_of_mul-eq-mul_left, mul-dvd-mul_left, mul-dvd-mul_right, dvd_of_mul-dvd-mul_left, mul-div_cancel', div-add-mod}
use Rattle.tasks.specs.Euclid.{GreatestCommonDivisor, LeastCommonMultiple, euclid, gcd_of, lcm_of}

-- ---- the greatest common divisor
-- More remainders allowed than needed change nothing.
euclid_enough : (n m a b : ℕ) → b ≤ n → b ≤ m → euclid n a b ≡ euclid m a b
unfolding euclid
euclid_enough zero zero a b l k = refl
euclid_enough zero (suc m) a zero l k = refl
euclid_enough zero (suc m) a (suc b) l k = absurd (omega arith)
euclid_enough (suc n) zero a zero l k = refl
euclid_enough (suc n) zero a (suc b) l k = absurd (omega arith)
euclid_enough (suc n) (suc m) a zero l k = refl
euclid_enough (suc n) (suc m) a (suc b) l k =
    euclid_enough n m (suc b) (a % suc b) (omega (arith, mod-lt a {m = suc b} (omega arith))) (omega (arith, mod-lt a {m = suc b} (omega arith)))

-- The two equations of Euclid's rule.
pub gcd_zero : (a : ℕ) → gcd_of a 0 ≡ a
unfolding gcd_of euclid
gcd_zero a = refl

pub gcd_step : (a b : ℕ) → 0 < b → gcd_of a b ≡ gcd_of b (a % b)
unfolding gcd_of euclid
gcd_step a zero p = absurd (omega arith)
gcd_step a (suc b) p = euclid_enough b (a % suc b) (suc b) (a % suc b) (omega (arith, mod-lt a {m = suc b} p)) (omega arith)

-- What divides a multiple x of both numbers divides x times what Euclid's rule gives.
scaled : (x c n a b : ℕ) → b ≤ n → c ∣ x * a → c ∣ x * b → c ∣ x * euclid n a b
unfolding euclid
scaled x c zero a b l ca cb = ca
scaled x c (suc n) a zero l ca cb = ca
scaled x c (suc n) a (suc b) l ca cb =
    scaled x c n (suc b) (a % suc b) (omega (arith, mod-lt a {m = suc b} (omega arith))) cb
    ((dvd-add_iff_right c (dvd-mul_right_of_dvd c cb (a / suc b))).1 (subst (λ (y : ℕ). c ∣ y) whole ca))
  where
    whole : x * a ≡ x * suc b * (a / suc b) + x * (a % suc b)
    whole = ap (λ (y : ℕ). x * y) (sym (div-add-mod a (suc b))) ∙ mul-add x (suc b * (a / suc b)) (a % suc b) ∙ ap (λ (y : ℕ). y + x * (a % suc b)) (sym (mul_assoc x (suc b) (a / suc b)))

divides_both : (n a b : ℕ) → b ≤ n → (euclid n a b ∣ a) × (euclid n a b ∣ b)
unfolding euclid
divides_both zero a zero l = (dvd_refl a, dvd-zero a)
divides_both zero a (suc b) l = absurd (omega arith)
divides_both (suc n) a zero l = (dvd_refl a, dvd-zero a)
divides_both (suc n) a (suc b) l =
    let h = divides_both n (suc b) (a % suc b) (omega (arith, mod-lt a {m = suc b} (omega arith))) in
    ((dvd-mod_iff (euclid n (suc b) (a % suc b)) h.0).0 h.1, h.0)

-- Euclid's rule gives the greatest common divisor.
pub gcd_is_greatest : (a b : ℕ) → GreatestCommonDivisor a b (gcd_of a b)
unfolding gcd_of
gcd_is_greatest a b =
    record {
      first = (divides_both b a b (omega arith)).0;
      second = (divides_both b a b (omega arith)).1;
      greatest = λ d da db. subst (λ (y : ℕ). d ∣ y) (one-mul (euclid b a b)) (scaled 1 d b a b (omega arith) (subst (λ (y : ℕ). d ∣ y) (sym (one-mul a)) da) (subst (λ (y : ℕ). d ∣ y) (sym (one-mul b)) db));
    }

pub gcd_pos : (a b : ℕ) → 0 < a → 0 < gcd_of a b
gcd_pos a b p = pos_of_dvd_of_pos (gcd_is_greatest a b).first p

-- ---- the least common multiple
module _ (a b : ℕ) (p : 0 < a) where
  gcd_times_lcm : gcd_of a b * lcm_of a b ≡ a * b
  unfolding lcm_of
  gcd_times_lcm = sym (mul_assoc (gcd_of a b) (a / gcd_of a b) b) ∙ ap (λ (y : ℕ). y * b) (mul-div_cancel' (gcd_of a b) (gcd_is_greatest a b).first)

  -- a / g * b is also a * (b / g)
  other_way : lcm_of a b ≡ a * (b / gcd_of a b)
  other_way = eq_of_mul-eq-mul_left (gcd_of a b) (gcd_pos a b p) (lcm_of a b) (a * (b / gcd_of a b)) (gcd_times_lcm ∙ sym (mul_left_comm (gcd_of a b) a (b / gcd_of a b) ∙ ap (λ (y : ℕ). a * y) (mul-div_cancel' (gcd_of a b) (gcd_is_greatest a b).second)))

  -- what both divide is divided by a * b once it is multiplied by the greatest common divisor
  product_divides : (x : ℕ) → a ∣ x → b ∣ x → a * b ∣ gcd_of a b * x
  unfolding gcd_of
  product_divides x ax bx =
      subst (λ (y : ℕ). a * b ∣ y) (mul_comm x (gcd_of a b))
      (scaled x (a * b) b a b (omega arith) (subst (λ (y : ℕ). a * b ∣ y) (mul_comm a x) (mul-dvd-mul_left b a bx)) (mul-dvd-mul_right a ax b))

  pub lcm_is_least : LeastCommonMultiple a b (lcm_of a b)
  unfolding lcm_of
  lcm_is_least = record {
    first = subst (λ (y : ℕ). a ∣ y) (sym other_way) (dvd-mul_right a (b / gcd_of a b));
    second = dvd-mul_left b (a / gcd_of a b);
    least = λ x ax bx. dvd_of_mul-dvd-mul_left (lcm_of a b) (gcd_pos a b p) (subst (λ (y : ℕ). y ∣ gcd_of a b * x) (sym gcd_times_lcm) (product_divides x ax bx));
  }

  pub lcm_pos : 0 < b → 0 < lcm_of a b
  lcm_pos q = pos_of_dvd_of_pos (lcm_is_least.least (a * b) (dvd-mul_right a b) (dvd-mul_left b a)) (mul-pos p q)
