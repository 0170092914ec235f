-- How long the texts are, so how much room they ask for.
use Rattle.std.specs.Prelude.{◌≡◌, List, ◌++◌, ℤ, pos, negsuc, nat_abs, length, get_or}
use Rattle.std.proofs.Math.Path.{refl}
use Rattle.std.proofs.Common.{ap, ◌∙◌}
use Prim.Native.Nat.{ℕ, zero, suc, ◌+◌, ◌*◌, ◌^◌, ◌≤◌, ◌<◌}
use native.Mathlib.Omega.{arith}
use Rattle.std.proofs.Math.ListN.{length-append}
use Rattle.basis.specs.Sum.{sum, sum_same, sum_mul, part_le_sum}
use Rattle.printing.specs.Text.{ascii, decimal, sign, signed_decimal, field, crlf, refusal_header, refusal_record, refusal_text, clash_header, clash_text, quick_header, quick_text, table_header, pair_record, records_to, table_text, needs_header, need_record, job_records, need_records, needs_text}
use Rattle.printing.specs.Decimal.{decimal-length}

field-length : (k n : ℕ) → n < 10 ^ suc k → length (field n) ≤ suc k + 1
unfolding field ascii
field-length k n l = omega (arith, length-append (decimal n) (ascii ","), decimal-length k n l)

-- ---- a refusal
sign-length : (z : ℤ) → length (sign z) ≤ 1
unfolding sign ascii
sign-length (pos n) = omega arith
sign-length (negsuc n) = omega arith

signed-length : (k : ℕ) (z : ℤ) → nat_abs z < 10 ^ suc k → length (signed_decimal z) ≤ 1 + suc k
unfolding signed_decimal
signed-length k z l = omega (arith, length-append (sign z) (decimal (nat_abs z)), sign-length z, decimal-length k (nat_abs z) l)

-- A number of 10 digits, a task of 20, a margin of 10 with its sign, two commas and CRLF.
pub refusal-length : (number task : ℕ) (margin : ℤ) → number < 2 ^ 32 → task < 2 ^ 64 → nat_abs margin ≤ 2 ^ 31 → length (refusal_record number task margin) ≤ 45
unfolding refusal_record crlf ascii
refusal-length number task margin ln lt lm =
    omega (
      arith,
      length-append (field number ++ field task ++ signed_decimal margin) crlf,
      length-append (field number ++ field task) (signed_decimal margin),
      length-append (field number) (field task),
      field-length 9 number (omega arith),
      field-length 19 task (omega arith),
      signed-length 9 margin (omega arith),
    )

-- So 66 bytes are room for every refusal.
pub refusal_fits : (number task : ℕ) (margin : ℤ) → number < 2 ^ 32 → task < 2 ^ 64 → nat_abs margin ≤ 2 ^ 31 → length (refusal_text number task margin) ≤ 66
unfolding refusal_text refusal_header crlf ascii
refusal_fits number task margin ln lt lm =
    omega (arith, length-append refusal_header (refusal_record number task margin), refusal-length number task margin ln lt lm)

-- ---- a record of two numbers
-- Numbers of so many digits, a comma and CRLF.
pub pair-length : (k j a b : ℕ) → a < 10 ^ suc k → b < 10 ^ suc j → length (pair_record a b) ≤ suc k + suc j + 3
unfolding pair_record crlf ascii
pair-length k j a b la lb =
    omega (
      arith,
      length-append (field a ++ decimal b) crlf,
      length-append (field a) (decimal b),
      field-length k a la,
      decimal-length j b lb,
    )

-- Two numbers of 10 digits, and the header: 39 bytes are room for every clash.
pub clash_fits : (reached period : ℕ) → reached < 2 ^ 32 → period < 2 ^ 32 → length (clash_text reached period) ≤ 39
unfolding clash_text clash_header crlf ascii
clash_fits reached period lr lp = omega (arith, length-append clash_header (pair_record reached period), pair-length 9 9 reached period (omega arith) (omega arith))

-- A number of 10 digits, a task of 20, and the header: 47 bytes are room for every quick answer.
pub quick_fits : (number task : ℕ) → number < 2 ^ 32 → task < 2 ^ 64 → length (quick_text number task) ≤ 47
unfolding quick_text quick_header crlf ascii
quick_fits number task ln lt = omega (arith, length-append quick_header (pair_record number task), pair-length 9 19 number task (omega arith) (omega arith))

-- ---- a record after the other
-- Texts that grow by a part at each step are as long as the parts together.
module _ (text part : ℕ → List ℕ) (more : (k : ℕ) → text (suc k) ≡ text k ++ part k) where
  pub next_length : (k : ℕ) → length (text (suc k)) ≡ length (text k) + length (part k)
  next_length k = ap length (more k) ∙ length-append (text k) (part k)

  pub parts-length : length (text 0) ≡ 0 → (most : ℕ → ℕ) (n : ℕ) → ((k : ℕ) → k < n → length (part k) ≤ most k) → length (text n) ≤ sum most n
  unfolding sum
  parts-length none most zero each = omega arith
  parts-length none most (suc n) each = omega (arith, next_length n, parts-length none most n (λ k l. each k (omega arith)), each n (omega arith))

-- ---- a table
-- A slice number of so many digits, and an entry of 3.
pub slice-length : (k t entry : ℕ) → t < 10 ^ suc k → entry < 256 → length (pair_record t entry) ≤ suc k + 6
slice-length k t entry lt le = omega (arith, pair-length k 2 t entry lt (omega arith))

module _ (table : List ℕ) where
  -- Records of at most so many bytes each.
  pub records-length : (most n : ℕ) → ((t : ℕ) → t < n → length (pair_record t (get_or table t 0)) ≤ most) → length (records_to table n) ≤ n * most
  unfolding records_to
  records-length most n each = omega (arith, sum_same most n, parts-length (records_to table) (λ t. pair_record t (get_or table t 0)) (λ t. refl) refl (λ _. most) n each)

  -- 40,972 bytes are room for every table of a cycle.
  pub table_fits : length table ≤ 4096 → ((i : ℕ) → i < length table → get_or table i 0 < 256) → length (table_text table) ≤ 40972
  unfolding table_text table_header crlf ascii
  table_fits few bytes =
      omega (
        arith,
        length-append table_header (records_to table (length table)),
        records-length 10 (length table) (λ t l. slice-length 3 t (get_or table t 0) (omega arith) (bytes t l)),
      )

-- ---- needs
-- A task of 2 digits, a job's number of so many, and a need of 10.
pub need-length : (k task job need : ℕ) → task ≤ 16 → job < 10 ^ suc k → need < 2 ^ 32 → length (need_record task job need) ≤ suc k + 16
unfolding need_record
need-length k task job need lt lj ln =
    omega (arith, length-append (field task) (pair_record job need), field-length 1 task (omega arith), pair-length k 9 job need lj (omega arith))

module _ (needs : List ℕ) (small : (i : ℕ) → get_or needs i 0 < 2 ^ 32) where
  -- Jobs below a number of so many digits.
  task-length : (k task from n : ℕ) → task ≤ 16 → n ≤ 10 ^ suc k → length (job_records needs task from n) ≤ n * (suc k + 16)
  unfolding job_records
  task-length k task from n lt ln =
      omega (
        arith,
        sum_same (suc k + 16) n,
        parts-length (job_records needs task from) (λ j. need_record task j (get_or needs (from + j) 0)) (λ j. refl) refl (λ _. suc k + 16) n
            (λ j l. need-length k task j (get_or needs (from + j) 0) lt (omega arith) (small (from + j))),
      )

  pub needs-length : (k : ℕ) (jobs : ℕ → ℕ) (n : ℕ) → n ≤ 16 → ((i : ℕ) → i < n → jobs i ≤ 10 ^ suc k) → length (need_records needs jobs n) ≤ sum jobs n * (suc k + 16)
  unfolding need_records
  needs-length k jobs n few each =
      omega (
        arith,
        sum_mul jobs (suc k + 16) n,
        parts-length (need_records needs jobs) (λ i. job_records needs (suc i) (sum jobs i) (jobs i)) (λ i. refl) refl (λ i. jobs i * (suc k + 16)) n
            (λ i l. task-length k (suc i) (sum jobs i) (jobs i) (omega arith) (each i l)),
      )

  -- 81,935 bytes are room for the needs of 4,096 jobs.
  pub needs_fit : (jobs : ℕ → ℕ) (n : ℕ) → n ≤ 16 → sum jobs n ≤ 4096 → length (needs_text needs jobs n) ≤ 81935
  unfolding needs_text needs_header crlf ascii
  needs_fit jobs n few l =
      omega (
        arith,
        length-append needs_header (need_records needs jobs n),
        needs-length 3 jobs n few (λ i li. omega (arith, part_le_sum jobs n i li)),
      )
