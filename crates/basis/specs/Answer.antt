-- An answer in the paper's values, whatever was asked; and the first refusal that is found.
use Rattle.std.specs.Prelude.{◌≡◌, Bool, true, false, ◌↔◌, eqb, ℤ, pos}
use Rattle.std.proofs.Math.Path.{refl, ap}
use Rattle.std.proofs.Common.{sym, ◌∙◌, true≢false, eq-eqb, ne_eqb}
use Rattle.std.proofs.Math.Logic.{⊎_elim}
use Prim.Native.Nat.{ℕ, zero, suc, ◌<◌}
use native.Mathlib.Omega.{arith}
use Rattle.basis.specs.Choose.{choose, choose_yes, choose_no, choose_either, of_choice, eq_or_ne, below_suc}

-- The number of refusal, 0 for none; the task that is named (of the program's input, the line); the margin; the cycle and the
-- job count; where two periods clash, the multiple reached and the period that is too much for it. What an answer does not give
-- is 0.
pub record Answer : Type 0 where
  pub number : ℕ
  pub task : ℕ
  pub margin : ℤ
  pub cycle : ℕ
  pub jobs : ℕ
  pub reached : ℕ
  pub period : ℕ

-- Refused: cycle and job count are 0, and the margin too, except for lateness.
unfoldable pub refusal : ℕ → ℕ → Answer
refusal number task = record { number = number; task = task; margin = pos 0; cycle = 0; jobs = 0; reached = 0; period = 0 }

-- Refusal 6 alone says why: the multiple reached before the task, and the task's period, which brings it above 4,096.
unfoldable pub clash : ℕ → ℕ → ℕ → Answer
clash task reached period = record { number = 6; task = task; margin = pos 0; cycle = 0; jobs = 0; reached = reached; period = period }

unfoldable pub none : Answer
none = refusal 0 0

-- ---- the first that applies is given
infixr 30 ◌or_else◌
unfoldable pub ◌or_else◌ : Answer → Answer → Answer
a or_else b = choose (eqb a.number 0) b a

-- the first that is found of the tasks below n
unfoldable pub first_found : (ℕ → Answer) → ℕ → Answer
first_found find zero = none
first_found find (suc n) = first_found find n or_else find n

-- Two answers of the same values are one.
pub alike : (a b : Answer) → a.number ≡ b.number → a.task ≡ b.task → a.margin ≡ b.margin → a.cycle ≡ b.cycle → a.jobs ≡ b.jobs → a.reached ≡ b.reached → a.period ≡ b.period
    → a ≡ b
alike a b n t m c j r p = λ k. record { number = n k; task = t k; margin = m k; cycle = c k; jobs = j k; reached = r k; period = p k }

-- Where a test refuses, or where it lets pass, and no refusal comes of it: what the test was.
pub passed_by : (b : Bool) (x a : Answer) → (x.number ≡ 0 → ⊥) → ((choose b x a).number ≡ 0) ↔ ((b ≡ false) × (a.number ≡ 0))
unfolding choose
passed_by true x a some = (λ z. absurd (some z), λ h. absurd (true≢false h.0))
passed_by false x a some = (λ z. (refl, z), λ h. h.1)

pub passed_if : (b : Bool) (n t : ℕ) (a : Answer) → ((choose b (refusal (suc n) t) a).number ≡ 0) ↔ ((b ≡ false) × (a.number ≡ 0))
unfolding refusal
passed_if b n t a = passed_by b (refusal (suc n) t) a (λ z. omega arith)

pub passed_unless : (b : Bool) (n t : ℕ) → ((choose b none (refusal (suc n) t)).number ≡ 0) ↔ (b ≡ true)
unfolding refusal none choose
passed_unless true n t = (λ _. refl, λ _. refl)
passed_unless false n t = (λ z. absurd (omega arith), λ h. absurd (true≢false (sym h)))

pub none_number : none.number ≡ 0
unfolding none refusal
none_number = refl

module _ (a b : Answer) where
  pub else_found : a.number ≡ 0 → (a or_else b) ≡ b
  unfolding ◌or_else◌
  else_found z = choose_yes (eqb a.number 0) b a (eq-eqb a.number 0 z)

  pub else_kept : (a.number ≡ 0 → ⊥) → (a or_else b) ≡ a
  unfolding ◌or_else◌
  else_kept nz = choose_no (eqb a.number 0) b a (ne_eqb a.number 0 nz)

  pub else_none : (a or_else b).number ≡ 0 → (a.number ≡ 0) × (b.number ≡ 0)
  else_none z =
      ⊎_elim
      (λ (h : a.number ≡ 0). (h, sym (ap (λ (x : Answer). x.number) (else_found h)) ∙ z))
      (λ (h : a.number ≡ 0 → ⊥). absurd (h (sym (ap (λ (x : Answer). x.number) (else_kept h)) ∙ z)))
      (eq_or_ne a.number 0)

  pub none_else : a.number ≡ 0 → b.number ≡ 0 → (a or_else b).number ≡ 0
  none_else h k = ap (λ (x : Answer). x.number) (else_found h) ∙ k

-- A test that refuses, or else what comes next.
pub else_choose : (t : Bool) (n task : ℕ) (b : Answer) → (choose t (refusal (suc n) task) none or_else b) ≡ choose t (refusal (suc n) task) b
unfolding refusal none choose
else_choose true n task b = else_kept (refusal (suc n) task) b (λ z. omega arith)
else_choose false n task b = else_found none b refl

-- By number: where the test refuses, and where it lets pass.
pub number_if : (t : Bool) (n : ℕ) (b : Answer) → (choose t (refusal (suc n) 0) none or_else b).number ≡ choose t (suc n) b.number
unfolding refusal
number_if t n b = ap (λ (x : Answer). x.number) (else_choose t n 0 b) ∙ of_choice (λ (x : Answer). x.number) t (refusal (suc n) 0) b

pub number_unless : (t : Bool) (n : ℕ) (b : Answer) → (choose t none (refusal (suc n) 0) or_else b).number ≡ choose t b.number (suc n)
unfolding refusal none choose
number_unless true n b = ap (λ (x : Answer). x.number) (else_found none b refl)
number_unless false n b = ap (λ (x : Answer). x.number) (else_kept (refusal (suc n) 0) b (λ z. omega arith))

-- What holds of whatever is found, and of nothing, holds of the first that is found.
pub first_all : (Q : Answer → Type 0) → Q none → (find : ℕ → Answer) → ((i : ℕ) → Q (find i)) → (n : ℕ) → Q (first_found find n)
unfolding first_found ◌or_else◌
first_all Q q find h zero = q
first_all Q q find h (suc n) = choose_either Q _ _ _ (h n) (first_all Q q find h n)

module _ (find : ℕ → Answer) where
  pub found_none : (n : ℕ) → (first_found find n).number ≡ 0 → (i : ℕ) → i < n → (find i).number ≡ 0
  unfolding first_found
  found_none zero z i l = absurd (omega arith)
  found_none (suc n) z i l =
      let h = else_none (first_found find n) (find n) z in
      ⊎_elim (λ (b : i < n). found_none n h.0 i b) (λ (e : i ≡ n). ap (λ (x : ℕ). (find x).number) e ∙ h.1) (below_suc i n l)

  pub none_found : (n : ℕ) → ((i : ℕ) → i < n → (find i).number ≡ 0) → (first_found find n).number ≡ 0
  unfolding first_found none refusal
  none_found zero h = refl
  none_found (suc n) h = none_else (first_found find n) (find n) (none_found n (λ i l. h i (omega arith))) (h n (omega arith))

  -- The first that is found of n is the first so far.
  pub found_at : (n i : ℕ) → i < n → (first_found find i).number ≡ 0 → ((find i).number ≡ 0 → ⊥) → first_found find n ≡ find i
  unfolding first_found
  found_at zero i l none_yet some = absurd (omega arith)
  found_at (suc n) i l none_yet some =
      ⊎_elim
      (λ (b : i < n).
      let e = found_at n i b none_yet some in
      ap (λ (x : Answer). x or_else find n) e ∙ else_kept (find i) (find n) some)
      (λ (e : i ≡ n). else_found (first_found find n) (find n) (ap (λ (x : ℕ). (first_found find x).number) (sym e) ∙ none_yet) ∙ ap find (sym e))
      (below_suc i n l)

  pub first_is : (n : ℕ) → ((first_found find n).number ≡ 0 → ⊥) → (i : ℕ) × ((i < n) × ((first_found find i).number ≡ 0) × ((find i).number ≡ 0 → ⊥) × (first_found find n ≡ find i))
  unfolding first_found
  first_is zero nz = absurd (nz none_number)
  first_is (suc n) nz =
      ⊎_elim
      (λ (z : (first_found find n).number ≡ 0).
      let e = else_found (first_found find n) (find n) z in
      (n, (omega arith, z, λ zn. nz (ap (λ (x : Answer). x.number) e ∙ zn), e)))
      (λ (some : (first_found find n).number ≡ 0 → ⊥).
      let h = first_is n some in
      (h.0, (omega (arith, h.1.0), h.1.1, h.1.2, else_kept (first_found find n) (find n) some ∙ h.1.3)))
      (eq_or_ne (first_found find n).number 0)
