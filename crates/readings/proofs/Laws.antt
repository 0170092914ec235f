-- Reading the number of a case gives the case, and a number that was read is the number of its reading.
use Rattle.std.specs.Prelude.{◌≡◌, Bool, ◌⊎◌, ℕ, ◌≤◌, ◌<◌, eqb}
use Rattle.std.proofs.Math.Path.{refl}
use Rattle.std.proofs.Common.{sym, ap, ◌∙◌, inl, inr, ⊎_elim, arith, le-leb, ne_eqb, eqb-true}
use Rattle.std.proofs.Math.Bool.{true, false, and-false}
use Rattle.std.proofs.lemmas.Bool.{lt-leb}
use Rattle.basis.specs.Choose.{choose, within, is_within, le_or_lt, eq_or_ne}
use Rattle.readings.specs.declared.Entry.{Entry}
use Rattle.readings.specs.declared.Entry.TheVariants.{Idle, Task, NoEntry}
use Rattle.readings.specs.declared.Refusal.{Refusal}
use Rattle.readings.specs.declared.Refusal.TheVariants.{Bound, Lateness, ShortTable, Run, Program, Conversion, Viewer, NoRefusal}
use Rattle.readings.specs.declared.Logged.TheVariants.{NoResult, Done, Over, Late, Damaged}
use Rattle.readings.specs.Reading.{entry_of, refusal_of, logged_of, entry_byte, refusal_number, logged_byte}

-- ---- entries
-- which case it is
unfoldable case_of : Entry → ℕ
case_of Idle = 0
case_of (Task i) = 1
case_of (NoEntry byte) = 2

above : (a b n : ℕ) → b < n → within a b n ≡ false
unfolding within
above a b n o = rw (lt-leb n b o, and-false)

below : (a b n : ℕ) → n < a → within a b n ≡ false
unfolding within
below a b n o = rw (lt-leb a n o)

-- A choice has the number n, if each of its sides has it that can be taken.
module _ {A : Type 0} (number : A → ℕ) (n : ℕ) where
  of_choice : (b : Bool) (x y : A) → (b ≡ true → number x ≡ n) → number y ≡ n → number (choose b x y) ≡ n
  unfolding choose
  of_choice true x y h k = h refl
  of_choice false x y h k = k

apart : {A : Type 0} {x y : Entry} → x ≡ y → (case_of x ≡ case_of y → ⊥) → A
apart e ne = absurd (ne (ap case_of e))

pub reads_idle : (count : ℕ) → entry_of 0 count ≡ Idle
unfolding entry_of choose
reads_idle count = refl

pub reads_task : (i count : ℕ) → 1 ≤ i → i ≤ 16 → i ≤ count → entry_of i count ≡ Task i
unfolding entry_of choose
reads_task i count l u within = rw (ne_eqb i 0 (λ e. omega arith), is_within 1 16 i l u, le-leb i count within)

pub reads_no_entry : (byte count : ℕ) → 1 ≤ byte → (16 < byte) ⊎ (count < byte) → entry_of byte count ≡ NoEntry byte
unfolding entry_of choose
reads_no_entry byte count l (inl beyond) = rw (ne_eqb byte 0 (λ e. omega arith), above 1 16 byte beyond)
reads_no_entry byte count l (inr beyond) = rw (ne_eqb byte 0 (λ e. omega arith), lt-leb byte count beyond, and-false)

pub entry_byte_lem : (byte count : ℕ) → entry_byte (entry_of byte count) ≡ byte
unfolding entry_of entry_byte
entry_byte_lem byte count =
    of_choice entry_byte byte _ _ _ (λ h. sym (eqb-true byte 0 h)) (of_choice entry_byte byte _ _ _ (λ h. refl) refl)

-- What a byte is that reads so, of at most 16 tasks.
pub idle_read : (byte count : ℕ) → entry_of byte count ≡ Idle → byte ≡ 0
unfolding entry_byte
idle_read byte count e = sym (entry_byte_lem byte count) ∙ ap entry_byte e

pub task_read : (byte count i : ℕ) → entry_of byte count ≡ Task i → (byte ≡ i) × (1 ≤ byte) × (byte ≤ count)
unfolding entry_byte case_of
task_read byte count i e =
    let same : byte ≡ i = sym (entry_byte_lem byte count) ∙ ap entry_byte e in
    ⊎_elim
    (λ (z : byte ≡ 0). apart (sym (ap (λ (x : ℕ). entry_of x count) z ∙ reads_idle count) ∙ e) (λ q. omega arith))
    (λ (nz : byte ≡ 0 → ⊥). ⊎_elim (λ (l : byte ≤ count). (same, omega arith, l)) (λ (l : count < byte). apart (sym (reads_no_entry byte count (omega arith) (inr l)) ∙ e) (λ q. omega arith)) (le_or_lt byte count))
    (eq_or_ne byte 0)

pub no_entry_read : (byte count x : ℕ) → count ≤ 16 → entry_of byte count ≡ NoEntry x → count < byte
unfolding case_of
no_entry_read byte count x few e =
    ⊎_elim
    (λ (l : byte ≤ count). ⊎_elim (λ (z : byte ≡ 0). apart (sym (ap (λ (y : ℕ). entry_of y count) z ∙ reads_idle count) ∙ e) (λ q. omega arith)) (λ (nz : byte ≡ 0 → ⊥). apart (sym (reads_task byte count (omega arith) (omega arith) l) ∙ e) (λ q. omega arith)) (eq_or_ne byte 0))
    (λ l. l)
    (le_or_lt byte count)

-- ---- numbers of refusal
pub reads_bound : (n : ℕ) → 1 ≤ n → n ≤ 6 → refusal_of n ≡ Bound n
unfolding refusal_of choose
reads_bound n l u = rw (is_within 1 6 n l u)

pub reads_refusals : (refusal_of 7 ≡ Lateness) × (refusal_of 8 ≡ ShortTable) × (refusal_of 17 ≡ Conversion) × (refusal_of 20 ≡ Bound 20)
unfolding refusal_of choose within
reads_refusals = (refl, refl, refl, refl)

-- past 8, what is left to tell apart; and past 17
past_seventeen : ℕ → Refusal
past_seventeen n = choose (within 18 19 n) (Viewer n) (choose (eqb n 20) (Bound n) (choose (within 30 31 n) (Viewer n) (NoRefusal n)))

past_eight :
    (n : ℕ)
    → 8 < n
    → refusal_of n ≡ choose (within 9 14 n) (Run n) (choose (within 15 16 n) (Program n) (choose (eqb n 17) Conversion (past_seventeen n)))
unfolding refusal_of choose past_seventeen
past_eight n l = rw (above 1 6 n (omega arith), ne_eqb n 7 (λ e. omega arith), ne_eqb n 8 (λ e. omega arith))

beyond_seventeen : (n : ℕ) → 17 < n → refusal_of n ≡ past_seventeen n
unfolding choose
beyond_seventeen n l = rw (past_eight n (omega arith), above 9 14 n (omega arith), above 15 16 n (omega arith), ne_eqb n 17 (λ e. omega arith))

pub reads_run : (n : ℕ) → 9 ≤ n → n ≤ 14 → refusal_of n ≡ Run n
unfolding choose
reads_run n l u = rw (past_eight n l, is_within 9 14 n l u)

pub reads_program : (n : ℕ) → 15 ≤ n → n ≤ 16 → refusal_of n ≡ Program n
unfolding choose
reads_program n l u = rw (past_eight n (omega arith), above 9 14 n l, is_within 15 16 n l u)

pub reads_viewer : (n : ℕ) → ((18 ≤ n) × (n ≤ 19)) ⊎ ((30 ≤ n) × (n ≤ 31)) → refusal_of n ≡ Viewer n
unfolding choose past_seventeen
reads_viewer n (inl h) = rw (beyond_seventeen n h.0, is_within 18 19 n h.0 h.1)
reads_viewer n (inr h) = rw (beyond_seventeen n (omega (arith, h.0)), above 18 19 n (omega (arith, h.0)), ne_eqb n 20 (λ e. omega (arith, h.0)), is_within 30 31 n h.0 h.1)

pub reads_no_refusal : (n : ℕ) → (n ≡ 0) ⊎ (((20 < n) × (n < 30)) ⊎ (31 < n)) → refusal_of n ≡ NoRefusal n
unfolding refusal_of choose within past_seventeen
reads_no_refusal n (inl e) = rw e
reads_no_refusal n (inr (inl h)) = rw (beyond_seventeen n (omega (arith, h.0)), above 18 19 n (omega (arith, h.0)), ne_eqb n 20 (λ e. omega (arith, h.0)), below 30 31 n h.1)
reads_no_refusal n (inr (inr h)) = rw (beyond_seventeen n (omega arith), above 18 19 n (omega arith), ne_eqb n 20 (λ e. omega arith), above 30 31 n h)

pub refusal_number_lem : (n : ℕ) → refusal_number (refusal_of n) ≡ n
unfolding refusal_of refusal_number
refusal_number_lem n =
    of_choice refusal_number n _ _ _ (λ h. refl)
    (of_choice refusal_number n _ _ _ (λ h. sym (eqb-true n 7 h))
    (of_choice refusal_number n _ _ _ (λ h. sym (eqb-true n 8 h))
    (of_choice refusal_number n _ _ _ (λ h. refl)
    (of_choice refusal_number n _ _ _ (λ h. refl)
    (of_choice refusal_number n _ _ _ (λ h. sym (eqb-true n 17 h))
    (of_choice refusal_number n _ _ _ (λ h. refl)
    (of_choice refusal_number n _ _ _ (λ h. refl)
    (of_choice refusal_number n _ _ _ (λ h. refl) refl))))))))

-- ---- log bytes
pub reads_results : (logged_of 0 ≡ NoResult) × (logged_of 1 ≡ Done) × (logged_of 2 ≡ Over) × (logged_of 3 ≡ Late)
unfolding logged_of choose
reads_results = (refl, refl, refl, refl)

pub reads_damaged : (byte : ℕ) → 4 ≤ byte → logged_of byte ≡ Damaged byte
unfolding logged_of choose
reads_damaged byte l =
    rw (ne_eqb byte 0 (λ e. omega arith), ne_eqb byte 1 (λ e. omega arith), ne_eqb byte 2 (λ e. omega arith), ne_eqb byte 3 (λ e. omega arith))

pub logged_byte_lem : (byte : ℕ) → logged_byte (logged_of byte) ≡ byte
unfolding logged_of logged_byte
logged_byte_lem byte =
    of_choice logged_byte byte _ _ _ (λ h. sym (eqb-true byte 0 h))
    (of_choice logged_byte byte _ _ _ (λ h. sym (eqb-true byte 1 h))
    (of_choice logged_byte byte _ _ _ (λ h. sym (eqb-true byte 2 h))
    (of_choice logged_byte byte _ _ _ (λ h. sym (eqb-true byte 3 h)) refl)))

-- Zero means no result, never a pass: only 1 reads as done.
pub done_is_one : (byte : ℕ) → logged_of byte ≡ Done → byte ≡ 1
unfolding logged_byte
done_is_one byte e = sym (logged_byte_lem byte) ∙ ap logged_byte e
