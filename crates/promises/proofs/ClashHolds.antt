-- Refusal 6 says which two periods clash: the proof of the statement in Clash.
use Rattle.std.specs.Prelude.{◌≡◌, ◌↔◌, length, Result, Ok, Err}
use Rattle.std.proofs.Math.Path.{refl, ap, subst}
use Rattle.std.proofs.Common.{sym, ◌∙◌, lt-ltb}
use Rattle.std.proofs.Math.Logic.{⊎_elim}
use Prim.Native.Nat.{ℕ, zero, suc, ◌≤◌, ◌<◌}
use native.Mathlib.Omega.{arith}
use Rattle.std.proofs.Math.Nat.{le_of_dvd}
use Rattle.basis.specs.Choose.{choose_yes, choose_either, eq_or_ne, le_or_lt}
use Rattle.basis.specs.Answer.{Answer, refusal, clash, none, ◌or_else◌, first_found, else_found, else_kept, first_is, found_none}
use Rattle.tasks.specs.declared.TaskList.{TaskList}
use Rattle.tasks.specs.declared.refusals.Refusal.{Refusal}
use Rattle.tasks.specs.List.{task_at}
use Rattle.tasks.specs.Refusal.{refusal_answer}
use Rattle.tasks.proofs.Euclid.{lcm_is_least}
use Rattle.tasks.specs.Bounds.{multiple, of_task, of_cycle, found, bounds_of, bounds_answer}
use Rattle.tasks.specs.Kept.{UpTo}
use Rattle.tasks.proofs.Kept.{PeriodsPos, one_test_none, multiple_pos, period_divides, multiple_least, tasks_none, count_most, tasks_most, memory_most, found_most, bounds_kept, bounds_found, broken_tells, nothing_found}
use Rattle.verdict.specs.Verdict.{Verdict, verdict_of, verdict_answer}
use Rattle.verdict.specs.Table.{fitted}
use Rattle.verdict.specs.Answers.{ByBounds, ForLateness, OnTimeAll}
use Rattle.verdict.proofs.Told.{verdict_tells, verdict_found}
use Rattle.start.specs.Start.{begun_of, begun_answer}
use Rattle.promises.specs.Clash.{ClashAt, Explains, Clash}

-- An answer by another number that says nothing of a clash explains all there is.
silent : (l : TaskList) (a : Answer) → (a.number ≡ 6 → ⊥) → a.reached ≡ 0 → a.period ≡ 0 → Explains l a
silent l a not-6 r p = record { six_says = λ e. absurd (not-6 e); others_silent = λ _. (r, p) }

-- ---- what is found by 6
-- Of what comes first the number is not 6; so it is 6 only where that is nothing.
second_of : (most : ℕ) (a b : Answer) → UpTo most a → most ≤ 5 → (a or_else b).number ≡ 6 → (a.number ≡ 0) × (b.number ≡ 6)
second_of most a b low l e =
    ⊎_elim
    (λ (z : a.number ≡ 0). (z, sym (ap (λ (x : Answer). x.number) (else_found a b z)) ∙ e))
    (λ (some : a.number ≡ 0 → ⊥).
    let six : a.number ≡ 6 = sym (ap (λ (x : Answer). x.number) (else_kept a b some)) ∙ e in
    absurd (⊎_elim (λ (h : a.number ≤ most). omega arith) (λ (h : a.number ≡ 20). omega arith) low.to_most))
    (eq_or_ne a.number 0)

module _ (l : TaskList) (supply : ℕ) (six : (found l supply).number ≡ 6) where
  -- Nothing is found by 1 to 5, so that every task fits, and what is found is what the running multiple says.
  only_cycle : ((first_found (of_task l.tasks) l.count).number ≡ 0) × ((first_found (of_cycle l.tasks) l.count).number ≡ 6) × (found l supply ≡ first_found (of_cycle l.tasks) l.count)
  unfolding found
  only_cycle =
      let a = second_of 2 _ _ (count_most l.count) (omega arith) six in
      let b = second_of 4 _ _ (tasks_most l.tasks l.count) (omega arith) a.1 in
      let c = second_of 5 _ _ (memory_most l.tasks l.count supply) (omega arith) b.1 in
      (b.0, c.1, else_found _ _ a.0 ∙ else_found _ _ b.0 ∙ else_found _ _ c.0)

  periods_pos : PeriodsPos l.tasks l.count
  periods_pos i li = ((tasks_none l supply).0 only_cycle.0 i li).period_from

  -- The running multiple is within the bound before the first task that takes it above.
  test : (i : ℕ) → ((of_cycle l.tasks i).number ≡ 0) ↔ (multiple l.tasks (suc i) ≤ 4096)
  unfolding of_cycle clash
  test i = one_test_none 4096 (multiple l.tasks (suc i)) _ (λ z. omega arith)

  before_within : (i : ℕ) → (first_found (of_cycle l.tasks) i).number ≡ 0 → multiple l.tasks i ≤ 4096
  unfolding multiple
  before_within zero z = omega arith
  before_within (suc k) z = (test k).0 (found_none (of_cycle l.tasks) (suc k) z k (omega arith))

  module _ (i : ℕ) (li : i < l.count) (before : (first_found (of_cycle l.tasks) i).number ≡ 0) (here : (of_cycle l.tasks i).number ≡ 0 → ⊥) where
    above : 4096 < multiple l.tasks (suc i)
    above = ⊎_elim (λ (h : multiple l.tasks (suc i) ≤ 4096). absurd (here ((test i).1 h))) (λ h. h) (le_or_lt (multiple l.tasks (suc i)) 4096)

    so_far : PeriodsPos l.tasks i
    so_far j lj = periods_pos j (omega arith)

    says : of_cycle l.tasks i ≡ clash (suc i) (multiple l.tasks i) (task_at l.tasks i).period
    unfolding of_cycle
    says = choose_yes _ _ _ (lt-ltb 4096 (multiple l.tasks (suc i)) above)

    clash_at : ClashAt l (clash (suc i) (multiple l.tasks i) (task_at l.tasks i).period)
    unfolding clash multiple
    clash_at = record {
      place = i;
      below = li;
      named = refl;
      multiple_of_all = period_divides l.tasks i so_far;
      least_of_all = multiple_least l.tasks i so_far;
      one_before_first = λ z. ap (multiple l.tasks) z;
      within = before_within i before;
      period_is = refl;
      together_above = above;
      too_much = λ x some r p. omega (arith, above, le_of_dvd some ((lcm_is_least (multiple l.tasks i) (task_at l.tasks i).period (multiple_pos l.tasks i so_far)).least x r p));
    }

  six_explained : ClashAt l (found l supply)
  six_explained =
      let h = first_is (of_cycle l.tasks) l.count (λ z. omega (arith, only_cycle.1)) in
      let e = only_cycle.2 ∙ h.1.3 ∙ says h.0 h.1.0 h.1.1 h.1.2 in
      subst (ClashAt l) (sym e) (clash_at h.0 h.1.0 h.1.1 h.1.2)

-- ---- the calls
module _ (l : TaskList) (supply : ℕ) where
  found_explains : Explains l (found l supply)
  found_explains = record { six_says = six_explained l supply; others_silent = (found_most l supply).no_clash }

  bounds_explains : Explains l (bounds_answer (bounds_of l supply))
  unfolding bounds_answer
  bounds_explains =
      ⊎_elim
      (λ (z : (found l supply).number ≡ 0). rw (bounds_kept l supply ((nothing_found l supply).0 z)) (silent l _ (λ e. omega arith) refl refl))
      (λ (nz : (found l supply).number ≡ 0 → ⊥). subst (Explains l) (sym (bounds_found l supply nz)) found_explains)
      (eq_or_ne (found l supply).number 0)

  judge_explains : Explains l (verdict_answer (verdict_of l supply))
  unfolding verdict_answer refusal_answer
  judge_explains =
      ⊎_elim
      (λ (nz : ByBounds l supply (verdict_of l supply)). subst (Explains l) (sym (verdict_found l supply (broken_tells l supply nz.reason nz.broken).some)) found_explains)
      (⊎_elim
      (λ (h : ForLateness l supply (verdict_of l supply)). rw h.is (silent l _ (λ e. omega arith) refl refl))
      (λ (h : OnTimeAll l supply (verdict_of l supply)). rw h.is (silent l _ (λ e. omega arith) refl refl)))
      (verdict_tells l supply)

  -- Building and starting hand the verdict's refusal on; their own says nothing of a clash.
  build_explains : (v : Verdict) (room : ℕ) → Explains l (verdict_answer v) → Explains l (verdict_answer (fitted v room))
  unfolding fitted verdict_answer refusal_answer refusal
  build_explains (Err r) room h = h
  build_explains (Ok a) room h = choose_either (λ (v : Verdict). Explains l (verdict_answer v)) _ _ _ (silent l _ (λ e. omega arith) refl refl) h

  start_explains : (v : Verdict) (room : ℕ) → Explains l (verdict_answer v) → Explains l (begun_answer (begun_of v room))
  unfolding begun_of begun_answer verdict_answer refusal_answer none refusal
  start_explains (Err r) room h = h
  start_explains (Ok a) room h = choose_either (λ (b : Result (Unit {0}) Refusal). Explains l (begun_answer b)) _ _ _ (silent l _ (λ e. omega arith) refl refl) (silent l _ (λ e. omega arith) refl refl)

pub which_clash : Clash
which_clash = record {
  bounds = bounds_explains;
  judge = judge_explains;
  build = λ l supply old new v built. subst (λ (x : Verdict). Explains l (verdict_answer x)) (sym built.answer) (build_explains l supply (verdict_of l supply) (length old) (judge_explains l supply));
  start = λ l supply asked clock log log' r begins. subst (λ (x : Result (Unit {0}) Refusal). Explains l (begun_answer x)) (sym begins.answer) (start_explains l supply (verdict_of l supply) (length log) (judge_explains l supply));
}
