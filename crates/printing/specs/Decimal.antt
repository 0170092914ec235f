-- That a decimal is right: its digits read back give the number, there is no leading zero, and no other text is so.
use Rattle.std.specs.Prelude.{◌≡◌, refl, List, [], ◌∷◌, ◌++◌, ℕ, zero, suc, ◌+◌, ◌-◌, ◌*◌, ◌/◌, ◌%◌, ◌^◌, ◌≤◌, ◌<◌, ltb, length, get_or, take}
use Rattle.std.proofs.Common.{sym, ap, ap₂, ◌∙◌, ⊎_elim, arith, div-lt_iff_lt-mul, length-append, take_all, take-suc, length-take-le, get_or-take, lt-ltb, le-ltb}
use Rattle.std.proofs.Math.ListN.{get_or-append}
use Rattle.std.proofs.Math.Seq.{get_or-append_seam}
use Rattle.basis.specs.Choose.{choose, choose_yes, choose_no, le_or_lt, below_suc}
use Rattle.printing.specs.Text.{digit, digits_in, decimal}

-- ---- the equations of `decimal`
-- More turns than the number do not change the digits.
turns_same : (a b n : ℕ) → n < a → n < b → digits_in a n ≡ digits_in b n
unfolding digits_in
turns_same zero b n la lb = absurd (omega arith)
turns_same (suc a) zero n la lb = absurd (omega arith)
turns_same (suc a) (suc b) n la lb =
    ⊎_elim
    (λ (h : 10 ≤ n). ap (λ (ds : List ℕ). choose (ltb n 10) (digit n ∷ []) (ds ++ (digit (n % 10) ∷ []))) (turns_same a b (n / 10) (omega arith) (omega arith)))
    (λ (h : n < 10). choose_yes _ _ _ (lt-ltb n 10 h) ∙ sym (choose_yes _ _ _ (lt-ltb n 10 h)))
    (le_or_lt 10 n)

pub decimal_one : (n : ℕ) → n < 10 → decimal n ≡ digit n ∷ []
unfolding decimal digits_in
decimal_one n h = choose_yes _ _ _ (lt-ltb n 10 h)

pub decimal_more : (n : ℕ) → 10 ≤ n → decimal n ≡ decimal (n / 10) ++ (digit (n % 10) ∷ [])
unfolding decimal digits_in
decimal_more n h =
    choose_no _ _ _ (le-ltb n 10 h) ∙ ap (λ (ds : List ℕ). ds ++ (digit (n % 10) ∷ [])) (turns_same n (suc (n / 10)) (n / 10) (omega arith) (omega arith))

-- ---- reading back
-- The number that digits stand for, most significant first, after those that made up n.
unfoldable pub read_on : ℕ → List ℕ → ℕ
read_on n [] = n
read_on n (d ∷ ds) = read_on (n * 10 + (d - 48)) ds

unfoldable pub value_of : List ℕ → ℕ
value_of ds = read_on 0 ds

pub record IsDigit (d : ℕ) : Type 0 where
  pub low : 48 ≤ d
  pub high : d ≤ 57

-- The text is n in decimal: at least one byte, all of them digits, the first not "0" unless it is the only one.
pub record IsDecimal (n : ℕ) (text : List ℕ) : Type 0 where
  pub value : value_of text ≡ n
  pub some : 0 < length text
  pub digits : (i : ℕ) → i < length text → IsDigit (get_or text i 0)
  pub no_leading_zero : 1 < length text → 48 < get_or text 0 0

read_append : (n : ℕ) (a b : List ℕ) → read_on n (a ++ b) ≡ read_on (read_on n a) b
unfolding read_on
read_append n [] b = refl
read_append n (d ∷ a) b = read_append (n * 10 + (d - 48)) a b

digit_is : (d : ℕ) → d < 10 → IsDigit (digit d)
unfolding digit
digit_is d l = record { low = omega arith; high = omega arith }

length_more : (n : ℕ) → 10 ≤ n → length (decimal n) ≡ length (decimal (n / 10)) + 1
length_more n l = ap length (decimal_more n l) ∙ length-append (decimal (n / 10)) (digit (n % 10) ∷ [])

length_one : (n : ℕ) → n < 10 → length (decimal n) ≡ 1
length_one n l = ap length (decimal_one n l)

-- ---- the theorem, digit by digit
-- Right, and the first digit of a number above 0 is not "0".
unfoldable Right : ℕ → Type 0
Right n = IsDecimal n (decimal n) × (0 < n → 48 < get_or (decimal n) 0 0)

one_digit : (n : ℕ) → n < 10 → Right n
unfolding Right value_of read_on digit
one_digit n l =
    rw (decimal_one n l) (
      record {
        value = omega arith;
        some = omega arith;
        digits = λ i li. let e : i ≡ 0 = omega arith in rw e (digit_is n l);
        no_leading_zero = λ z. absurd (omega arith);
      },
      λ p. omega arith,
    )

one_digit_more : (n : ℕ) → 10 ≤ n → Right (n / 10) → Right n
unfolding Right value_of read_on digit
one_digit_more n l h =
    let len = length-append (decimal (n / 10)) (digit (n % 10) ∷ []) in
    let leads : 48 < get_or (decimal (n / 10) ++ (digit (n % 10) ∷ [])) 0 0 = rw (get_or-append (decimal (n / 10)) (digit (n % 10) ∷ []) 0 0 h.0.some) (h.1 (omega arith)) in
    rw (decimal_more n l) (
      record {
        value = rw (read_append 0 (decimal (n / 10)) (digit (n % 10) ∷ []), h.0.value) (omega arith);
        some = omega arith;
        digits = λ i li.
            ⊎_elim
            (λ (b : i < length (decimal (n / 10))). rw (get_or-append (decimal (n / 10)) (digit (n % 10) ∷ []) 0 i b) (h.0.digits i b))
            (λ (e : i ≡ length (decimal (n / 10))). rw (e, get_or-append_seam (decimal (n / 10)) (digit (n % 10)) [] 0) (digit_is (n % 10) (omega arith)))
            (below_suc i (length (decimal (n / 10))) (omega arith));
        no_leading_zero = λ _. leads;
      },
      λ _. leads,
    )

right : (k n : ℕ) → n < k → Right n
right zero n l = absurd (omega arith)
right (suc k) n l =
    ⊎_elim (λ (h : 10 ≤ n). one_digit_more n h (right k (n / 10) (omega arith))) (λ (h : n < 10). one_digit n h) (le_or_lt 10 n)

pub decimal_right : (n : ℕ) → IsDecimal n (decimal n)
unfolding Right
decimal_right n = (right (suc n) n (omega arith)).0

-- ---- nothing else is one
read_positive : (n : ℕ) (ds : List ℕ) → 0 < n → 0 < read_on n ds
unfolding read_on
read_positive n [] p = p
read_positive n (d ∷ ds) p = read_positive (n * 10 + (d - 48)) ds (omega arith)

value_positive : (ds : List ℕ) → 0 < length ds → 48 < get_or ds 0 0 → 0 < value_of ds
unfolding value_of read_on
value_positive [] some first = absurd (omega arith)
value_positive (d ∷ ds) some first = read_positive (0 * 10 + (d - 48)) ds (omega arith)

-- A text is what stands before its last byte, and that byte.
last_apart : (text : List ℕ) (m : ℕ) → length text ≡ suc m → text ≡ take m text ++ (get_or text m 0 ∷ [])
last_apart text m e = sym (take_all (suc m) text (omega arith)) ∙ take-suc text m 0 (omega arith)

-- So the number is what the front stands for, times ten, and the last digit.
last_value : (n : ℕ) (text : List ℕ) (m : ℕ) → length text ≡ suc m → IsDecimal n text → value_of (take m text) * 10 + (get_or text m 0 - 48) ≡ n
unfolding value_of read_on
last_value n text m e h =
    sym (ap (read_on 0) (last_apart text m e) ∙ read_append 0 (take m text) (get_or text m 0 ∷ [])) ∙ h.value

only : (k n : ℕ) → n < k → (text : List ℕ) (m : ℕ) → length text ≡ suc m → IsDecimal n text → text ≡ decimal n
unfolding value_of read_on digit
only zero n l text m e h = absurd (omega arith)
only (suc k) n l text zero e h =
    let d = h.digits 0 (omega arith) in
    let v = last_value n text 0 e h in
    last_apart text 0 e ∙ ap (λ (x : ℕ). x ∷ []) (omega arith) ∙ sym (decimal_one n (omega arith))
only (suc k) n l text (suc m) e h =
    let len = length-take-le (suc m) text (omega arith) in
    let first : 48 < get_or (take (suc m) text) 0 0 = rw (get_or-take (suc m) text 0 0 (omega arith)) (h.no_leading_zero (omega arith)) in
    let d = h.digits (suc m) (omega arith) in
    let v = last_value n text (suc m) e h in
    let p = value_positive (take (suc m) text) (omega arith) first in
    let front : IsDecimal (n / 10) (take (suc m) text) = record {
      value = omega arith;
      some = omega arith;
      digits = λ i l. rw (get_or-take (suc m) text i 0 (omega arith)) (h.digits i (omega arith));
      no_leading_zero = λ l. first;
    } in
    last_apart text (suc m) e
    ∙ ap₂ (λ (ds : List ℕ) (x : ℕ). ds ++ (x ∷ [])) (only k (n / 10) (omega arith) (take (suc m) text) m len front) (omega arith)
    ∙ sym (decimal_more n (omega arith))

pub decimal_only : (n : ℕ) (text : List ℕ) → IsDecimal n text → text ≡ decimal n
decimal_only n text h = only (suc n) n (omega arith) text (length text - 1) (omega (arith, h.some)) h

-- A number below 10 ^ k has at most k digits, for k from 1 on; a field below 10 ^ 9 at most 9.
pub decimal-length : (k n : ℕ) → n < 10 ^ suc k → length (decimal n) ≤ suc k
decimal-length zero n l = omega (arith, length_one n (omega arith))
decimal-length (suc k) n l =
    ⊎_elim
    (λ (h : 10 ≤ n). omega (arith, length_more n h, decimal-length k (n / 10) ((div-lt_iff_lt-mul {x = n} {y = 10 ^ suc k} (omega arith)).1 (omega arith))))
    (λ (h : n < 10). omega (arith, length_one n h))
    (le_or_lt 10 n)
