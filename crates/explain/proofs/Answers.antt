-- What the checks of a list and of a run come to, as laws over plain values.
use mathlib.Core.Path.{◌≡◌, refl, sym, ap, ◌∙◌}
use mathlib.Core.Bool.{true, false}
use mathlib.Core.List.{List}
use mathlib.Core.Logic.{inl, inr, ⊎_elim}
use Prim.Native.Nat.{ℕ, ◌≤◌, ◌<◌}
use native.Mathlib.Omega.{arith}
use lib.ListN.{length}
use borrow.Author.Tests.{eq-eqb, ne_eqb, le-leb, lt-leb}
use Rattle.basis.specs.Choose.{choose_yes, choose_no, bool_cases, eq_or_ne, le_or_lt}
use Rattle.needs.specs.Explained.{given_in}
use Rattle.tasks.specs.declared.TaskList.{TaskList}
use Rattle.tasks.specs.List.{plan_of}
use Rattle.tasks.specs.Bounds.{cycle_of, jobs_of}
use Rattle.std.specs.Prelude.{Some, None, Result, Ok, Err}
use Rattle.tasks.specs.declared.refusals.Refusal.{Refusal}
use Rattle.verdict.specs.declared.Accepted.{Accepted}
use Rattle.verdict.specs.Verdict.{Verdict, accepted, verdict_of}
use Rattle.verdict.proofs.Told.{accepted_tells}
use Rattle.explain.specs.Seen.{Viewed, entries_to, run_number, run_refusal, refused_by, unless_run_refused, checked_by, checked_of, AfterList, Explained, ExplainsRun, NeedsIn}
use Rattle.explain.specs.Shapes.{Judged, SeenRun, Leads}

-- ---- the first check that fails
module _ (cycle count : ℕ) (run : List ℕ) (needed room : ℕ) where
  pub other_length : (length run ≡ cycle → ⊥) → 19 ≡ run_number cycle count run needed room
  unfolding run_number
  other_length ne = sym (choose_no _ _ _ (ne_eqb (length run) cycle ne))

  module _ (whole : length run ≡ cycle) where
    pub entry_above : entries_to count run (length run) ≡ false → 30 ≡ run_number cycle count run needed room
    unfolding run_number
    entry_above e = sym (choose_yes _ _ _ (eq-eqb (length run) cycle whole) ∙ choose_no _ _ _ e)

    pub too_short : entries_to count run (length run) ≡ true → room < needed → 31 ≡ run_number cycle count run needed room
    unfolding run_number
    too_short e l = sym (choose_yes _ _ _ (eq-eqb (length run) cycle whole) ∙ choose_yes _ _ _ e ∙ choose_no _ _ _ (lt-leb needed room l))

    pub all_passed : entries_to count run (length run) ≡ true → needed ≤ room → 0 ≡ run_number cycle count run needed room
    unfolding run_number
    all_passed e l = sym (choose_yes _ _ _ (eq-eqb (length run) cycle whole) ∙ choose_yes _ _ _ e ∙ choose_yes _ _ _ (le-leb needed room l))

  -- A run that passes them all has the cycle's length, and what is lent is long enough.
  pub passed : run_number cycle count run needed room ≡ 0 → (length run ≡ cycle) × (needed ≤ room)
  passed z =
      ⊎_elim
      (λ (whole : length run ≡ cycle).
      ⊎_elim
      (λ (fine : entries_to count run (length run) ≡ true).
      ⊎_elim (λ (l : needed ≤ room). (whole, l)) (λ (l : room < needed). absurd (omega (arith, too_short whole fine l))) (le_or_lt needed room))
      (λ (above : entries_to count run (length run) ≡ false). absurd (omega (arith, entry_above whole above)))
      (bool_cases (entries_to count run (length run))))
      (λ (ne : length run ≡ cycle → ⊥). absurd (omega (arith, other_length ne)))
      (eq_or_ne (length run) cycle)

-- ---- what a check comes to
module _ {A : Type 0} (number : ℕ) (x : A) where
  pub lets_pass : number ≡ 0 → Ok x ≡ unless_run_refused number x
  unfolding unless_run_refused
  lets_pass z = sym (choose_yes _ _ _ (eq-eqb number 0 z))

  pub refuses : (number ≡ 0 → ⊥) → Err (run_refusal number 0) ≡ unless_run_refused number x
  unfolding unless_run_refused
  refuses nz = sym (choose_no _ _ _ (ne_eqb number 0 nz))

  pub was_passed : (r : Result A Refusal) (y : A) → r ≡ unless_run_refused number x → r ≡ Ok y → number ≡ 0
  was_passed r y is ok =
      ⊎_elim
      (λ (z : number ≡ 0). z)
      (λ (nz : number ≡ 0 → ⊥).
      let never : Ok y ≡ Err (run_refusal number 0) = sym ok ∙ is ∙ sym (refuses nz) in
      let zero_one : ◌≡◌ {A = ℕ} 0 1 = cc in
      absurd (omega arith))
      (eq_or_ne number 0)

  pub was_refused : (r : Result A Refusal) (e : Refusal) → r ≡ unless_run_refused number x → r ≡ Err e → (number ≡ 0 → ⊥) × (e ≡ run_refusal number 0)
  was_refused r e is err =
      ⊎_elim
      (λ (z : number ≡ 0).
      let never : Err e ≡ Ok x = sym err ∙ is ∙ sym (lets_pass z) in
      let zero_one : ◌≡◌ {A = ℕ} 0 1 = cc in
      absurd (omega arith))
      (λ (nz : number ≡ 0 → ⊥).
      let both : Err e ≡ Err (run_refusal number 0) = sym err ∙ is ∙ sym (refuses nz) in
      (nz, cc))
      (eq_or_ne number 0)

-- ---- the list's own checks
module _ (l : TaskList) (supply : ℕ) (run : List ℕ) (v : Verdict) (ev : v ≡ verdict_of l supply) where
  module _ (r : Refusal) (e : v ≡ Err r) where
    pub check_refused : Err r ≡ checked_of l supply run
    unfolding checked_of checked_by
    check_refused = sym (ap (λ (x : Verdict). checked_by x l.count run) (sym ev ∙ e))

    pub explain_refused : (old : List ℕ) → ExplainsRun l supply run old old (Err r)
    unfolding ExplainsRun AfterList
    explain_refused old = rw (sym ev ∙ e) (refl, refl)

  module _ (a : Accepted) (e : v ≡ Ok a) where
    same_accepted : verdict_of l supply ≡ Ok a
    same_accepted = sym ev ∙ e

    module _ (c : Result (Unit {0}) Refusal) (ec : c ≡ unless_run_refused (run_number a.cycle l.count run 0 0) tt) where
      checked_is : checked_of l supply run ≡ unless_run_refused (run_number a.cycle l.count run 0 0) a.cycle
      unfolding checked_of checked_by
      checked_is = ap (λ (x : Verdict). checked_by x l.count run) same_accepted

      pub run_checked : c ≡ Ok tt → Ok a.cycle ≡ checked_of l supply run
      run_checked ok = lets_pass _ a.cycle (was_passed _ (tt {0}) c tt ec ok) ∙ sym checked_is

      pub run_unchecked : (r : Refusal) → c ≡ Err r → Err r ≡ checked_of l supply run
      run_unchecked r err = let h = was_refused _ (tt {0}) c r ec err in ap Err h.1 ∙ refuses _ a.cycle h.0 ∙ sym checked_is

    pub accepted_judged : Judged l a.cycle a.jobs
    accepted_judged =
        let A = accepted_tells l supply a same_accepted in
        let both : Ok a ≡ Ok (accepted (plan_of l) (cycle_of l) (jobs_of l)) = A.is in
        let same : a ≡ accepted (plan_of l) (cycle_of l) (jobs_of l) = cc in
        record { bounded = record { supply = supply; keeps = A.keeps }; cycle_is = ap (λ (x : Accepted). x.cycle) same; jobs_is = ap (λ (x : Accepted). x.jobs) same; on_time = A.on_time }

    pub explain_accepted : (old new : List ℕ) (r : Viewed) → Explained l run old new r a.cycle a.jobs → ExplainsRun l supply run old new r
    unfolding ExplainsRun AfterList
    explain_accepted old new r E = rw same_accepted E

-- ---- the run of an accepted list
-- Written or not, what is lent keeps its length.
pub explained_long : (l : TaskList) (run old new : List ℕ) (r : Viewed) (cycle jobs : ℕ) → Explained l run old new r cycle jobs → length new ≡ length old
explained_long l run old new r cycle jobs E =
    ⊎_elim
    (λ (z : run_number cycle l.count run jobs (length old) ≡ 0). ⊎_elim (λ yes_so. yes_so.needs.long) (λ none_so. ap length none_so.bytes) (E.said z))
    (λ (nz : run_number cycle l.count run jobs (length old) ≡ 0 → ⊥). ap length (E.refused nz).1)
    (eq_or_ne (run_number cycle l.count run jobs (length old)) 0)

module _ (l : TaskList) (cycle jobs : ℕ) (J : Judged l cycle jobs) (run old : List ℕ) (c : Result (Unit {0}) Refusal) (ec : c ≡ unless_run_refused (run_number cycle l.count run jobs (length old)) tt) where
  pub run_refused : (r : Refusal) → c ≡ Err r → Explained l run old old (Err r) cycle jobs
  unfolding refused_by
  run_refused r err = let h = was_refused _ (tt {0}) c r ec err in record {
    refused = λ _. (ap Err h.1, refl);
    said = λ z. absurd (h.0 z);
  }

  module _ (ok : c ≡ Ok tt) where
    number_0 : run_number cycle l.count run jobs (length old) ≡ 0
    number_0 = was_passed _ (tt {0}) c tt ec ok

    pub run_seen : SeenRun l cycle run
    run_seen = record { bounded = J.bounded; cycle_is = J.cycle_is; whole = (passed cycle l.count run jobs (length old) number_0).0; on_time = J.on_time }

    pub needs_room : jobs_of l ≤ length old
    needs_room = omega (arith, (passed cycle l.count run jobs (length old) number_0).1, J.jobs_is)

    pub run_not_led : Leads l run false → Explained l run old old (Ok None) cycle jobs
    run_not_led L = record {
      refused = λ nz. absurd (nz number_0);
      said = λ _. inr (record { none_lead = L.no refl; answer = refl; bytes = refl });
    }

    pub run_led : Leads l run true → (new : List ℕ) → NeedsIn l (given_in (plan_of l) run) old new → Explained l run old new (Ok (Some jobs)) cycle jobs
    run_led L new N = record {
      refused = λ nz. absurd (nz number_0);
      said = λ _. inl (record { need = given_in (plan_of l) run; explains = L.yes refl; just = L.within refl; needs = N; answer = ap (λ (j : ℕ). Ok (Some j)) J.jobs_is });
    }
