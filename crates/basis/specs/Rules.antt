-- Rules that are looked at one after the other: an answer is refused by the first that is broken, and only so.
use Rattle.std.specs.Prelude.{◌≡◌, Bool, ◌⊎◌, ℕ, suc, ◌<◌}
use Rattle.std.proofs.Math.Path.{refl, sym}
use Rattle.std.proofs.Common.{ap, subst, ◌∙◌, inl, inr, ⊎_elim, arith}
use Rattle.std.proofs.Math.Bool.{true, false}
use Rattle.basis.specs.Choose.{choose, choose_yes, choose_no, bool_cases, eq_or_ne}
use Rattle.basis.specs.Answer.{Answer, refusal, none, ◌or_else◌, first_found, none_number, else_found, else_kept, found_at, first_is}

-- A rule: the number of its refusal, and when it is broken, with which values.
pub record Rule : Type 1 where
  pub number : ℕ
  pub broken : Answer → Type 0

-- One that names nobody, all else being 0;
unfoldable pub rule : ℕ → Type 0 → Rule
rule number broken = record { number = number; broken = λ a. (a ≡ refusal number 0) × broken }

-- one that is broken at a task i, counted from 0, and then says this of it; and one that says nothing but its name, i + 1.
unfoldable pub saying : ℕ → (ℕ → Answer) → (ℕ → Type 0) → Rule
saying number says broken = record { number = number; broken = λ a. (i : ℕ) × ((a ≡ says i) × broken i) }

abbrev pub naming : ℕ → (ℕ → Type 0) → Rule
naming number broken = saying number (λ i. refusal number (suc i)) broken

-- The answer is this rule's refusal: cycle and job count are 0.
pub record Breaks (r : Rule) (a : Answer) : Type 0 where
  pub number_is : a.number ≡ r.number
  pub not_0 : a.number ≡ 0 → ⊥
  pub broken : r.broken a
  pub cycle_0 : a.cycle ≡ 0
  pub jobs_0 : a.jobs ≡ 0

-- The order in which they are looked at.
infixr 20 ◌then◌
pub data Rules : Type 1 where
  no_more : Rules
  ◌then◌ : Rule → Rules → Rules

infixr 20 ◌and_then◌
unfoldable pub ◌and_then◌ : Rules → Rules → Rules
no_more and_then qs = qs
(r then rs) and_then qs = r then (rs and_then qs)

-- The first that is broken is given.
unfoldable pub Refused : Rules → Answer → Type 0
Refused no_more a = ⊥
Refused (r then rs) a = Breaks r a ⊎ (((b : Answer) → Breaks r b → ⊥) × Refused rs a)

-- The answer goes by the rules: it refuses only where one is broken, and then as the first one says.
pub record GoesBy (rules : Rules) (a : Answer) : Type 0 where
  pub only : (a.number ≡ 0 → ⊥) → Refused rules a
  pub always : (b : Answer) → Refused rules b → a ≡ b

-- ---- laws
pub refused_not_0 : (rs : Rules) (a : Answer) → Refused rs a → a.number ≡ 0 → ⊥
unfolding Refused
refused_not_0 no_more a h z = elim h [ ]
refused_not_0 (r then rs) a (inl b) z = b.not_0 z
refused_not_0 (r then rs) a (inr h) z = refused_not_0 rs a h.1 z

-- None of these rules is broken.
abbrev Kept : Rules → Type 0
Kept rs = (b : Answer) → Refused rs b → ⊥

earlier : (rs qs : Rules) (a : Answer) → Refused rs a → Refused (rs and_then qs) a
unfolding Refused ◌and_then◌
earlier no_more qs a h = elim h [ ]
earlier (r then rs) qs a (inl b) = inl b
earlier (r then rs) qs a (inr h) = inr (h.0, earlier rs qs a h.1)

later : (rs qs : Rules) (a : Answer) → Kept rs → Refused qs a → Refused (rs and_then qs) a
unfolding Refused ◌and_then◌
later no_more qs a kept h = h
later (r then rs) qs a kept h = inr (λ b x. kept b (inl x), later rs qs a (λ b x. kept b (inr (λ c y. kept c (inl y), x))) h)

either : (rs qs : Rules) (a : Answer) → Refused (rs and_then qs) a → Refused rs a ⊎ (Kept rs × Refused qs a)
unfolding Refused ◌and_then◌
either no_more qs a h = inr (λ b x. x, h)
either (r then rs) qs a (inl b) = inl (inl b)
either (r then rs) qs a (inr h) =
    ⊎_elim (λ x. inl (inr (h.0, x))) (λ x. inr (λ c y. ⊎_elim (h.0 c) (λ z. x.0 c z.1) y, x.1)) (either rs qs a h.1)

-- What goes by some rules, or else by others, goes by the ones and then the others.
pub goes_on : (rs qs : Rules) (a b : Answer) → GoesBy rs a → (a.number ≡ 0 → GoesBy qs b) → GoesBy (rs and_then qs) (a or_else b)
goes_on rs qs a b goes goes-next = record {
  only = λ nz.
      ⊎_elim
      (λ (z : a.number ≡ 0).
      let e = else_found a b z in
      subst (Refused (rs and_then qs)) (sym e)
      (later rs qs b (λ c h. refused_not_0 rs c h (sym (ap (λ (x : Answer). x.number) (goes.always c h)) ∙ z)) ((goes-next z).only (λ zb. nz (ap (λ (x : Answer). x.number) e ∙ zb)))))
      (λ (some : a.number ≡ 0 → ⊥). subst (Refused (rs and_then qs)) (sym (else_kept a b some)) (earlier rs qs a (goes.only some)))
      (eq_or_ne a.number 0);
  always = λ c R.
      ⊎_elim
      (λ (h : Refused rs c).
      let e = goes.always c h in
      else_kept a b (λ z. refused_not_0 rs c h (sym (ap (λ (x : Answer). x.number) e) ∙ z)) ∙ e)
      (λ (h : Kept rs × Refused qs c).
      ⊎_elim (λ (z : a.number ≡ 0). else_found a b z ∙ (goes-next z).always c h.1) (λ (some : a.number ≡ 0 → ⊥). absurd (h.0 a (goes.only some))) (eq_or_ne a.number 0))
      (either rs qs c R);
}

-- So does an answer that refuses as one that goes by the ones, and else goes by the others.
pub goes_then : (rs qs : Rules) (a c : Answer) → GoesBy rs a → ((a.number ≡ 0 → ⊥) → c ≡ a) → (a.number ≡ 0 → GoesBy qs c) → GoesBy (rs and_then qs) c
goes_then rs qs a c goes refuses follows =
    subst (GoesBy (rs and_then qs))
    (⊎_elim (λ (z : a.number ≡ 0). else_found a c z) (λ (some : a.number ≡ 0 → ⊥). else_kept a c some ∙ sym (refuses some)) (eq_or_ne a.number 0))
    (goes_on rs qs a c goes follows)

-- And one that refuses as another does.
pub goes_as : (rs : Rules) (a b : Answer) → GoesBy rs a → (a.number ≡ 0 → b.number ≡ 0) → ((a.number ≡ 0 → ⊥) → b ≡ a) → GoesBy rs b
goes_as rs a b goes none-too same = record {
  only = λ nz. subst (Refused rs) (sym (same (λ z. nz (none-too z)))) (goes.only (λ z. nz (none-too z)));
  always = λ c h.
      let e = goes.always c h in
      same (λ z. refused_not_0 rs c h (sym (ap (λ (x : Answer). x.number) e) ∙ z)) ∙ e;
}

-- One rule, by a test, where there is no refusal else.
by_test : (r : Rule) (t : Bool) (a x : Answer) → x.number ≡ 0 → (t ≡ true → Breaks r a) → ((b : Answer) → Breaks r b → (t ≡ true) × (a ≡ b)) → GoesBy (r then no_more) (choose t a x)
unfolding Refused
by_test r t a x passes breaks told = record {
  only = λ nz.
      ⊎_elim
      (λ (y : t ≡ true). inl (subst (Breaks r) (sym (choose_yes t a x y)) (breaks y)))
      (λ (n : t ≡ false). absurd (nz (ap (λ (c : Answer). c.number) (choose_no t a x n) ∙ passes)))
      (bool_cases t);
  always = λ b h. ⊎_elim (λ (breaks : Breaks r b). choose_yes t a x (told b breaks).0 ∙ (told b breaks).1) (λ z. absurd z.1) h;
}

-- A refusal of this number: cycle and job count are 0.
pub record Refuses (number : ℕ) (a : Answer) : Type 0 where
  pub number_is : a.number ≡ suc number
  pub cycle_0 : a.cycle ≡ 0
  pub jobs_0 : a.jobs ≡ 0

pub plain_refuses : (number task : ℕ) → Refuses number (refusal (suc number) task)
unfolding refusal
plain_refuses number task = record { number_is = refl; cycle_0 = refl; jobs_0 = refl }

module _ (number : ℕ) where
  pub breaks_rule : (P : Type 0) → P → Breaks (rule (suc number) P) (refusal (suc number) 0)
  unfolding rule refusal
  breaks_rule P p = record { number_is = refl; not_0 = λ z. omega arith; broken = (refl, p); cycle_0 = refl; jobs_0 = refl }

  pub rule_told : (P : Type 0) (b : Answer) → Breaks (rule (suc number) P) b → P × (refusal (suc number) 0 ≡ b)
  unfolding rule
  rule_told P b breaks = (breaks.broken.1, sym breaks.broken.0)

  pub breaks_saying : (says : ℕ → Answer) (P : ℕ → Type 0) (i : ℕ) → Refuses number (says i) → P i → Breaks (saying (suc number) says P) (says i)
  unfolding saying
  breaks_saying says P i r p = record { number_is = r.number_is; not_0 = λ z. omega (arith, r.number_is); broken = (i, (refl, p)); cycle_0 = r.cycle_0; jobs_0 = r.jobs_0 }

  pub breaks_naming : (P : ℕ → Type 0) (i : ℕ) → P i → Breaks (naming (suc number) P) (refusal (suc number) (suc i))
  breaks_naming P i p = breaks_saying (λ j. refusal (suc number) (suc j)) P i (plain_refuses number (suc i)) p

  pub saying_told : (says : ℕ → Answer) (P : ℕ → Type 0) (b : Answer) → Breaks (saying (suc number) says P) b → (i : ℕ) × (P i × (says i ≡ b))
  unfolding saying
  saying_told says P b breaks = let h = breaks.broken in (h.0, (h.1.1, sym h.1.0))

  pub goes_by_rule : (P : Type 0) (t : Bool) (x : Answer) → x.number ≡ 0 → (t ≡ true → P) → (P → t ≡ true) → GoesBy (rule (suc number) P then no_more) (choose t (refusal (suc number) 0) x)
  goes_by_rule P t x passes to from =
      by_test (rule (suc number) P) t (refusal (suc number) 0) x passes (λ y. breaks_rule P (to y)) (λ b breaks. let h = rule_told P b breaks in (from h.0, h.1))

  pub goes_unless : (P : Type 0) (t : Bool) → (t ≡ false → P) → (P → t ≡ false) → GoesBy (rule (suc number) P then no_more) (choose t none (refusal (suc number) 0))
  unfolding choose
  goes_unless P true to from = goes_by_rule P false none none_number (λ e. to (sym e)) (λ p. sym (from p))
  goes_unless P false to from = goes_by_rule P true none none_number (λ e. to refl) (λ p. refl)

-- The first that is found goes by the rules, if at each place what is found is what they refuse, nothing being found before.
pub first_goes : (rs : Rules) (find : ℕ → Answer) (n : ℕ)
    → ((i : ℕ) → i < n → (first_found find i).number ≡ 0 → ((find i).number ≡ 0 → ⊥) → Refused rs (find i))
    → ((b : Answer) → Refused rs b → (i : ℕ) × ((i < n) × ((first_found find i).number ≡ 0) × (find i ≡ b)))
    → GoesBy rs (first_found find n)
first_goes rs find n refuses told = record {
  only = λ nz. let h = first_is find n nz in subst (Refused rs) (sym h.1.3) (refuses h.0 h.1.0 h.1.1 h.1.2);
  always = λ b R.
      let h = told b R in
      found_at find n h.0 h.1.0 h.1.1 (λ z. refused_not_0 rs b R (sym (ap (λ (x : Answer). x.number) h.1.2) ∙ z)) ∙ h.1.2;
}
