-- A choice between two values by a test, with its two laws, and the two ways to decide an order or an equation of numbers.
use Rattle.std.specs.Prelude.{◌≡◌, refl, Bool, true, false, ◌&&◌, ◌||◌, ◌⊎◌, ◌↔◌, ℕ, suc, ◌≤◌, ◌<◌, leb, ltb, eqb}
use Rattle.std.proofs.Common.{sym, ◌∙◌, true≢false, inl, inr, ⊎_elim, arith, not-le_of_lt}
use borrow.Author.Tests.{lt-ltb, le-ltb, le-leb, lt-leb, eq-eqb, ne_eqb, leb-true, leb-false, eqb-true, eqb-false}

-- x where the test holds, y where it does not
unfoldable pub choose : {A : Type 0} → Bool → A → A → A
choose true x y = x
choose false x y = y

pub choose_yes : {A : Type 0} (b : Bool) (x y : A) → b ≡ true → choose b x y ≡ x
unfolding choose
choose_yes true x y h = refl
choose_yes false x y h = let z : ◌≡◌ {A = Bool} true false = sym h in cc

pub choose_no : {A : Type 0} (b : Bool) (x y : A) → b ≡ false → choose b x y ≡ y
unfolding choose
choose_no true x y h = cc
choose_no false x y h = refl

-- what holds of both holds of the one chosen
pub choose_either : {A : Type 0} (Q : A → Type 0) (b : Bool) (x y : A) → Q x → Q y → Q (choose b x y)
unfolding choose
choose_either Q true x y p q = p
choose_either Q false x y p q = q

-- what is made of the one chosen
pub of_choice : {A B : Type 0} (f : A → B) (b : Bool) (x y : A) → f (choose b x y) ≡ choose b (f x) (f y)
unfolding choose
of_choice f true x y = refl
of_choice f false x y = refl

-- the same laws as a return of a branch asks them
pub yes_so : {A : Type 0} (b : Bool) (r x y : A) → b ≡ true → r ≡ x → r ≡ choose b x y
yes_so b r x y h e = e ∙ sym (choose_yes b x y h)

pub no_so : {A : Type 0} (b : Bool) (r x y : A) → b ≡ false → r ≡ y → r ≡ choose b x y
no_so b r x y h e = e ∙ sym (choose_no b x y h)

pub ruleset cases = (yes_so, no_so, lt-ltb, le-ltb, le-leb, lt-leb, eq-eqb, ne_eqb)

pub bool_cases : (b : Bool) → (b ≡ true) ⊎ (b ≡ false)
bool_cases true = inl refl
bool_cases false = inr refl

-- what two tests together tell
pub both_true : (a b : Bool) → ((a && b) ≡ true) ↔ ((a ≡ true) × (b ≡ true))
both_true true b = (λ e. (refl, e), λ h. h.1)
both_true false b = (λ e. absurd (true≢false (sym e)), λ h. h.0)

pub both_false : (a b : Bool) → ((a && b) ≡ false) ↔ (a ≡ true → b ≡ false)
both_false true b = (λ e _. e, λ h. h refl)
both_false false b = (λ _ h. absurd (true≢false (sym h)), λ _. refl)

pub either_false : (a b : Bool) → ((a || b) ≡ false) ↔ ((a ≡ false) × (b ≡ false))
either_false true b = (λ e. absurd (true≢false e), λ h. h.0)
either_false false b = (λ e. (refl, e), λ h. h.1)

-- ---- x is from low to high, both included
unfoldable pub within : ℕ → ℕ → ℕ → Bool
within low high x = leb low x && leb x high

module _ (low high x : ℕ) where
  pub within_tells : within low high x ≡ true → (low ≤ x) × (x ≤ high)
  unfolding within
  within_tells e = let h = (both_true (leb low x) (leb x high)).0 e in (leb-true low x h.0, leb-true x high h.1)

  pub is_within : low ≤ x → x ≤ high → within low high x ≡ true
  unfolding within
  is_within l h = (both_true (leb low x) (leb x high)).1 (le-leb low x l, le-leb x high h)

-- ---- orders and equations decided
pub le_or_lt : (a b : ℕ) → (a ≤ b) ⊎ (b < a)
le_or_lt a b = ⊎_elim (λ h. inl (leb-true a b h)) (λ h. inr (leb-false a b h)) (bool_cases (leb a b))

pub eq_or_ne : (a b : ℕ) → (a ≡ b) ⊎ (a ≡ b → ⊥)
eq_or_ne a b = ⊎_elim (λ h. inl (eqb-true a b h)) (λ h. inr (eqb-false a b h)) (bool_cases (eqb a b))

pub below_suc : (j n : ℕ) → j < suc n → (j < n) ⊎ (j ≡ n)
below_suc j n l = ⊎_elim (λ (e : j ≡ n). inr e) (λ (ne : j ≡ n → ⊥). inl (omega arith)) (eq_or_ne j n)

-- two tests that hold together are one
pub ltb_same : (a b c d : ℕ) → (a < b → c < d) → (c < d → a < b) → ltb a b ≡ ltb c d
ltb_same a b c d to from =
    ⊎_elim
    (λ (h : b ≤ a). le-ltb a b h ∙ sym (le-ltb c d (⊎_elim (λ k. k) (λ k. absurd (not-le_of_lt (from k) h)) (le_or_lt d c))))
    (λ (h : a < b). lt-ltb a b h ∙ sym (lt-ltb c d (to h)))
    (le_or_lt b a)
