-- A state that fills goes on filling, and one that is not sound stays as it is: of neither a table is read.
use Rattle.std.specs.Prelude.{◌≡◌, refl, Bool, true, false, List, ◌⊎◌, ℕ, zero, suc, None}
use Rattle.std.proofs.Common.{sym, ap, ◌∙◌, inl, inr, ⊎_elim, arith}
use Rattle.basis.specs.Choose.{choose, choose_no, bool_cases, eq_or_ne}
use Rattle.basis.specs.Answer.{Answer, refusal, none, ◌or_else◌, else_found, else_kept}
use Rattle.tasks.specs.declared.TaskList.{TaskList}
use Rattle.start.specs.Start.{begun_answer}
use Rattle.run.specs.declared.Mode.{Mode}
use Rattle.run.specs.declared.Mode.TheVariants.{Filling}
use Rattle.run.specs.declared.State.{State}
use Rattle.run.specs.State.{sound}
use Rattle.run.specs.Sound.{SoundState, sound_tells}
use Rattle.run.specs.Who.{of9, of10, of11_by, of11, who_found, who_refusal, who_of, runner_answer, running, who_says}
use Rattle.run.specs.Step.{of12, of13, of14, step_found, step_refusal, closed_answer}
use Rattle.run.specs.StateAfter.{handed_on}
use Rattle.run.specs.Accepted.{step_accepted, step_answers}
use Rattle.promises.proofs.Demand1Holds.{step_said, step_refused, demand_1}
use Rattle.promises.specs.Unnamed.{CallsUnnamed, NoModeNamed}

-- ---- numbers
-- Of two answers in a row one gave the number;
one_of_two : (a b : Answer) (n : ℕ) → (a or_else b).number ≡ n → (a.number ≡ n) ⊎ (b.number ≡ n)
one_of_two a b n e =
    ⊎_elim
    (λ (z : a.number ≡ 0). inr (sym (ap (λ (x : Answer). x.number) (else_found a b z)) ∙ e))
    (λ (nz : a.number ≡ 0 → ⊥). inl (sym (ap (λ (x : Answer). x.number) (else_kept a b nz)) ∙ e))
    (eq_or_ne a.number 0)

-- and a test gives its own alone.
only_if : (b : Bool) (n : ℕ) → (n ≡ 11 → ⊥) → (choose b (refusal n 0) none).number ≡ 11 → ⊥
unfolding choose refusal none
only_if true n other e = other e
only_if false n other e = omega arith

only_unless : (b : Bool) (n : ℕ) → (n ≡ 11 → ⊥) → (choose b none (refusal n 0)).number ≡ 11 → ⊥
unfolding choose refusal none
only_unless true n other e = omega arith
only_unless false n other e = other e

-- ---- such a state
-- It fills, or is not sound.
abbrev Without : State → Type 0
Without s = (s.mode ≡ Filling) ⊎ (SoundState s → ⊥)

no_11 : (m : Mode) (s : State) (table : List ℕ) → m ≡ Filling → (of11_by m s table).number ≡ 11 → ⊥
unfolding of11_by none refusal
no_11 m s table e h = let none-there : (of11_by m s table).number ≡ 0 = ap (λ (x : Mode). (of11_by x s table).number) e in omega arith

who_not_11 : (s : State) (table : List ℕ) → Without s → who_refusal s table ≡ 11 → ⊥
unfolding who_found of9 of10 of11 refusal none
who_not_11 s table (inl filling) e =
    ⊎_elim
    (only_unless (sound s) 9 (λ z. omega arith))
    (λ rest. ⊎_elim (only_if _ 10 (λ z. omega arith)) (no_11 s.mode s table filling) (one_of_two (of10 s) (of11 s table) 11 rest))
    (one_of_two (of9 s) _ 11 e)
who_not_11 s table (inr unsound) e =
    let not_sound : sound s ≡ false = ⊎_elim (λ (t : sound s ≡ true). absurd (unsound ((sound_tells s).0 t))) (λ f. f) (bool_cases (sound s)) in
    let nine : of9 s ≡ refusal 9 0 = choose_no (sound s) none (refusal 9 0) not_sound in
    let kept = else_kept (of9 s) (of10 s or_else of11 s table) (λ z. omega (arith, ap (λ (x : Answer). x.number) nine)) in
    omega (arith, ap (λ (x : Answer). x.number) (kept ∙ nine))

step_not_11 : (s : State) (table : List ℕ) (clock report : ℕ) (log : List ℕ) → Without s → step_refusal s table clock report log ≡ 11 → ⊥
unfolding step_found of12 of13 of14
step_not_11 s table clock report log without e =
    ⊎_elim
    (who_not_11 s table without)
    (λ rest.
    ⊎_elim
    (only_if _ 12 (λ z. omega arith))
    (λ more. ⊎_elim (only_unless _ 13 (λ z. omega arith)) (only_if _ 14 (λ z. omega arith)) (one_of_two _ _ 11 more))
    (one_of_two _ _ 11 rest))
    (one_of_two _ _ 11 e)

-- ---- call by call
module _ (l : TaskList) (C : CallsUnnamed l) where
  abbrev s : ℕ → State
  s = C.states

  -- a call leaves the mode, and a state that is not sound it leaves whole
  next : (n : ℕ) → (s (suc n) ≡ s n) ⊎ (((s (suc n)).mode ≡ (s n).mode) × SoundState (s n))
  next n =
      ⊎_elim
      (λ (z : (closed_answer (C.answers n).answer).number ≡ 0).
      let accepted = (step_accepted _ _ _ _ _).0 (sym (step_said (s n) (C.tables n) (C.clocks n) (C.reports n) (C.logs n) (C.logs_after n) (C.answers n) (C.stepped n)) ∙ z) in
      let a = step_answers (s n) (C.tables n) (C.clocks n) (C.reports n) (C.logs n) (C.logs_after n) (C.answers n) accepted (C.stepped n) in
      inr (ap (λ (x : State). x.mode) (C.handed n ∙ a.1) ∙ (handed_on (s n) (running (s n) (C.tables n)) (C.clocks n) (C.reports n)).mode_kept, accepted.asked.is_sound))
      (λ (nz : (closed_answer (C.answers n).answer).number ≡ 0 → ⊥).
      inl (C.handed n ∙ (step_refused (s n) (C.tables n) (C.clocks n) (C.reports n) (C.logs n) (C.logs_after n) (C.answers n) (C.stepped n) nz).0))
      (eq_or_ne (closed_answer (C.answers n).answer).number 0)

  fills : (begun_answer C.begun.answer).number ≡ 0 → (n : ℕ) → (s n).mode ≡ Filling
  fills z zero = ap (λ (x : State). x.mode) C.from_start ∙ (demand_1.start_begun l C.supply None C.clock C.log C.log_begun C.begun C.begins z).none_named refl
  fills z (suc n) = ⊎_elim (λ e. ap (λ (x : State). x.mode) e ∙ fills z n) (λ h. h.0 ∙ fills z n) (next n)

  without : (n : ℕ) → Without (s n)
  without zero =
      ⊎_elim
      (λ (z : (begun_answer C.begun.answer).number ≡ 0). inl (fills z zero))
      (λ (nz : (begun_answer C.begun.answer).number ≡ 0 → ⊥).
      inr (λ S. (demand_1.start_refused l C.supply None C.clock C.log C.log_begun C.begun C.begins nz).1.not_sound (rw C.from_start at S)))
      (eq_or_ne (begun_answer C.begun.answer).number 0)
  without (suc n) = ⊎_elim (λ e. rw e (without n)) (λ h. ⊎_elim (λ filling. inl (h.0 ∙ filling)) (λ unsound. absurd (unsound h.1)) (without n)) (next n)

  no_step_by_11 : (n : ℕ) → (closed_answer (C.answers n).answer).number ≡ 11 → ⊥
  no_step_by_11 n e =
      step_not_11 (s n) (C.tables n) (C.clocks n) (C.reports n) (C.logs n) (without n)
      (sym (step_said (s n) (C.tables n) (C.clocks n) (C.reports n) (C.logs n) (C.logs_after n) (C.answers n) (C.stepped n)) ∙ e)

  no_one_by_11 : (n : ℕ) (table : List ℕ) → (runner_answer (who_of (s n) table)).number ≡ 11 → ⊥
  no_one_by_11 n table e = who_not_11 (s n) table (without n) (sym (who_says (s n) table) ∙ e)

pub no_mode_named : NoModeNamed
no_mode_named = record { fills = fills; no_step_by_11 = no_step_by_11; no_one_by_11 = no_one_by_11 }
