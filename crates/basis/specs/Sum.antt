-- The sum of a function over the numbers below n, and its laws.
use Rattle.std.specs.Prelude.{◌≡◌, refl, ℕ, zero, suc, ◌+◌, ◌*◌, ◌≤◌, ◌<◌}
use Rattle.std.proofs.Common.{sym, ap, ⊎_elim, arith, zero-mul, add-mul}
use Rattle.basis.specs.Choose.{le_or_lt, eq_or_ne}

-- f 0 + f 1 + .. + f (n - 1)
unfoldable pub sum : (ℕ → ℕ) → ℕ → ℕ
sum f zero = 0
sum f (suc n) = sum f n + f n

pub sum_ext : (f g : ℕ → ℕ) (n : ℕ) → ((i : ℕ) → i < n → f i ≡ g i) → sum f n ≡ sum g n
unfolding sum
sum_ext f g zero h = refl
sum_ext f g (suc n) h = omega (arith, sum_ext f g n (λ i l. h i (omega arith)), h n (omega arith))

pub sum_le : (f g : ℕ → ℕ) (n : ℕ) → ((i : ℕ) → i < n → f i ≤ g i) → sum f n ≤ sum g n
unfolding sum
sum_le f g zero h = omega arith
sum_le f g (suc n) h = omega (arith, sum_le f g n (λ i l. h i (omega arith)), h n (omega arith))

pub sum_add : (f g : ℕ → ℕ) (n : ℕ) → sum (λ i. f i + g i) n ≡ sum f n + sum g n
unfolding sum
sum_add f g zero = omega arith
sum_add f g (suc n) = omega (arith, sum_add f g n)

pub sum_mul : (f : ℕ → ℕ) (m n : ℕ) → sum (λ i. f i * m) n ≡ sum f n * m
unfolding sum
sum_mul f m zero = omega (arith, zero-mul m)
sum_mul f m (suc n) = omega (arith, sum_mul f m n, add-mul (sum f n) (f n) m)

pub sum_same : (c n : ℕ) → sum (λ _. c) n ≡ n * c
unfolding sum
sum_same c zero = omega (arith, zero-mul c)
sum_same c (suc n) = omega (arith, sum_same c n)

pub sum_zero : (f : ℕ → ℕ) (n : ℕ) → ((i : ℕ) → i < n → f i ≡ 0) → sum f n ≡ 0
unfolding sum
sum_zero f zero h = refl
sum_zero f (suc n) h = omega (arith, sum_zero f n (λ i l. h i (omega arith)), h n (omega arith))

pub sum_grows : (f : ℕ → ℕ) (i n : ℕ) → i ≤ n → sum f i ≤ sum f n
unfolding sum
sum_grows f i zero l = let z : i ≡ 0 = omega arith in omega (arith, ap (sum f) z)
sum_grows f i (suc n) l =
    ⊎_elim
    (λ (e : i ≡ suc n). omega (arith, ap (sum f) e))
    (λ (ne : i ≡ suc n → ⊥). omega (arith, sum_grows f i n (omega arith)))
    (eq_or_ne i (suc n))

-- no part is more than the sum
pub part_le_sum : (f : ℕ → ℕ) (n i : ℕ) → i < n → f i ≤ sum f n
unfolding sum
part_le_sum f zero i l = omega arith
part_le_sum f (suc n) i l =
    ⊎_elim
    (λ (e : i ≡ n). omega (arith, ap f e))
    (λ (ne : i ≡ n → ⊥). omega (arith, part_le_sum f n i (omega arith)))
    (eq_or_ne i n)

-- f is g with x more at i: its sum is x more
pub sum_more_at : (f g : ℕ → ℕ) (n i x : ℕ) → i < n → g i + x ≡ f i → ((j : ℕ) → j < n → (j ≡ i → ⊥) → g j ≡ f j) → sum g n + x ≡ sum f n
unfolding sum
sum_more_at f g zero i x l here there = absurd (omega arith)
sum_more_at f g (suc n) i x l here there =
    ⊎_elim
    (λ (e : i ≡ n). omega (arith, ap f e, ap g e, sum_ext g f n (λ j lj. there j (omega arith) (λ z. omega arith))))
    (λ (ne : i ≡ n → ⊥). omega (arith, sum_more_at f g n i x (omega arith) here (λ j lj. there j (omega arith)), there n (omega arith) (λ z. ne (sym z))))
    (eq_or_ne i n)

-- Parts laid one after the other do not overlap: a place in one of them tells the part and how far into it.
before_next : (f : ℕ → ℕ) (i j k : ℕ) → k < f i → i < j → sum f i + k < sum f j
unfolding sum
before_next f i j k lk l = omega (arith, sum_grows f (suc i) j l)

pub sum_apart : (f : ℕ → ℕ) (i j k m : ℕ) → k < f i → m < f j → sum f i + k ≡ sum f j + m → (i ≡ j) × (k ≡ m)
sum_apart f i j k m lk lm e =
    ⊎_elim
    (λ (s : i ≡ j). (s, omega (arith, ap (sum f) s)))
    (λ (ne : i ≡ j → ⊥).
    ⊎_elim
    (λ (l : i ≤ j). absurd (omega (arith, before_next f i j k lk (omega arith))))
    (λ (l : j < i). absurd (omega (arith, before_next f j i m lm l)))
    (le_or_lt i j))
    (eq_or_ne i j)
