-- Euclid's rule: the greatest common divisor of two numbers, and their least common multiple, which rests on it.
use Rattle.std.specs.Prelude.{ℕ, zero, suc, ◌*◌, ◌/◌, ◌%◌}
use Rattle.std.specs.Int.{◌∣◌}

-- ---- definitions
-- Euclid's rule, with at most n remainders.
unfoldable pub euclid : ℕ → ℕ → ℕ → ℕ
euclid zero a b = a
euclid (suc n) a zero = a
euclid (suc n) a (suc b) = euclid n (suc b) (a % suc b)

-- The remainder falls each time, so there are no more remainders than the second number says.
unfoldable pub gcd_of : ℕ → ℕ → ℕ
gcd_of a b = euclid b a b

unfoldable pub lcm_of : ℕ → ℕ → ℕ
lcm_of a b = a / gcd_of a b * b

-- g divides both, and whatever divides both divides g.
pub record GreatestCommonDivisor (a b g : ℕ) : Type 0 where
  pub first : g ∣ a
  pub second : g ∣ b
  pub greatest : (d : ℕ) → d ∣ a → d ∣ b → d ∣ g

-- Both divide m, and m divides whatever both divide.
pub record LeastCommonMultiple (a b m : ℕ) : Type 0 where
  pub first : a ∣ m
  pub second : b ∣ m
  pub least : (x : ℕ) → a ∣ x → b ∣ x → m ∣ x
