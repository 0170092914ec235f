-- What a verdict tells of the list: it is refused by its bounds, refused for lateness, or accepted with every job on time.
use Rattle.std.specs.Prelude.{◌≡◌, ℕ, suc, ◌-◌, ◌⊎◌, ◌↔◌, ℤ, negsuc, ◌≢◌, refl, Result, Ok, Err}
use Rattle.std.proofs.Math.Path.{subst, sym, ap, ap₂}
use Rattle.std.proofs.Common.{◌∙◌, inl, inr, arith, eq-eqb, ne_eqb}
use Rattle.std.proofs.Math.Logic.{⊎_elim}
use Rattle.std.proofs.Math.IntN.{sub_ℕ, pos-ne-negsuc}
use Rattle.basis.specs.Choose.{choose_yes, choose_no, eq_or_ne}
use Rattle.basis.specs.Answer.{Answer}
use Rattle.basis.specs.Signed.{zero_less}
use Rattle.plan.specs.Plan.{Sound, OnTimeUpTo}
use Rattle.tasks.specs.declared.TaskList.{TaskList}
use Rattle.tasks.specs.declared.InBounds.{InBounds}
use Rattle.tasks.specs.declared.refusals.Refusal.{Refusal}
use Rattle.tasks.specs.declared.refusals.Refusal.TheVariants.{Late}
use Rattle.tasks.specs.Refusal.{refusal_answer}
use Rattle.tasks.specs.List.{plan_of}
use Rattle.tasks.specs.Bounds.{bounds_of, bounds_answer, found, cycle_of, jobs_of}
use Rattle.tasks.specs.Kept.{KeepsBounds}
use Rattle.tasks.proofs.Kept.{bounds_kept, bounds_broken, bounds_found, kept_tells, found_most, broken_tells, broken_not_7, plan_monotonic}
use Rattle.verdict.specs.declared.Accepted.{Accepted}
use Rattle.verdict.specs.Lateness.{lateness}
use Rattle.verdict.specs.Verdict.{Verdict, judged, verdict_from, verdict_of, verdict_answer}
use Rattle.verdict.specs.Deadlines.{nothing_late, late_tells}
use Rattle.verdict.specs.Answers.{ByBounds, ForLateness, OnTimeAll}

module _ (l : TaskList) (supply : ℕ) where
  by_bounds : (r : Refusal) → bounds_of l supply ≡ Err r → ByBounds l supply (verdict_of l supply)
  unfolding verdict_of verdict_from
  by_bounds r e = record {
    reason = r;
    broken = e;
    not_7 = broken_not_7 l supply r e;
    margin_0 = ap (λ (a : Answer). a.margin) (broken_tells l supply r e).says ∙ (found_most l supply).margin_0;
    is = ap (verdict_from l) e;
  }

  module _ (K : KeepsBounds l supply) where
    plan_sound : Sound (plan_of l)
    plan_sound = (plan_monotonic l supply K).sound

    kept_judged : verdict_of l supply ≡ judged (plan_of l) (cycle_of l) (jobs_of l) (lateness (plan_of l) (cycle_of l))
    unfolding verdict_of verdict_from
    kept_judged = ap (verdict_from l) (bounds_kept l supply K)

    late_is : (i s : ℕ) → (lateness (plan_of l) (cycle_of l)).task ≡ suc i → (lateness (plan_of l) (cycle_of l)).short ≡ suc s → verdict_of l supply ≡ Err (Late (suc i) (negsuc s))
    unfolding judged
    late_is i s task short = kept_judged
        ∙ choose_no _ _ _ (ne_eqb (lateness (plan_of l) (cycle_of l)).task 0 (λ z. omega arith))
        ∙ ap₂ (λ (t n : ℕ). Err (Late t (sub_ℕ 0 n))) task short
        ∙ ap (λ (m : ℤ). Err (Late (suc i) m)) (zero_less s)

    for_lateness : (i s : ℕ) → (lateness (plan_of l) (cycle_of l)).task ≡ suc i → (lateness (plan_of l) (cycle_of l)).short ≡ suc s → ForLateness l supply (verdict_of l supply)
    unfolding verdict_answer refusal_answer
    for_lateness i s task short = record {
      keeps = K;
      place = i;
      short = s;
      earliest = rw short at (late_tells (plan_of l) plan_sound (cycle_of l) i task);
      is = late_is i s task short;
      says = ap verdict_answer (late_is i s task short);
    }

    late_refused : ((lateness (plan_of l) (cycle_of l)).task ≢ 0) → ForLateness l supply (verdict_of l supply)
    late_refused nz =
        let task : (lateness (plan_of l) (cycle_of l)).task ≡ suc ((lateness (plan_of l) (cycle_of l)).task - 1) = omega arith in
        for_lateness _ ((lateness (plan_of l) (cycle_of l)).short - 1) task (omega (arith, (late_tells (plan_of l) plan_sound (cycle_of l) _ task).lacking))

    -- A list that keeps all bounds is accepted if every job of the cycle is on time.
    pub on_time_accepted : OnTimeUpTo (plan_of l) (plan_of l).runtime (cycle_of l) → OnTimeAll l supply (verdict_of l supply)
    unfolding judged plan_of
    on_time_accepted on = record {
      keeps = K;
      on_time = on;
      is = kept_judged ∙ choose_yes _ _ _ (eq-eqb _ 0 ((nothing_late (plan_of l) plan_sound (cycle_of l)).1 on));
    }

  -- Every verdict is one of the three.
  pub verdict_tells : ByBounds l supply (verdict_of l supply) ⊎ (ForLateness l supply (verdict_of l supply) ⊎ OnTimeAll l supply (verdict_of l supply))
  verdict_tells = go (bounds_of l supply) refl
    where
      go : (b : Result InBounds Refusal) → bounds_of l supply ≡ b → ByBounds l supply (verdict_of l supply) ⊎ (ForLateness l supply (verdict_of l supply) ⊎ OnTimeAll l supply (verdict_of l supply))
      go (Err r) q = inl (by_bounds r q)
      go (Ok k) q =
          let K = (kept_tells l supply k q).keeps in
          ⊎_elim
          (λ (z : (lateness (plan_of l) (cycle_of l)).task ≡ 0). inr (inr (on_time_accepted K ((nothing_late (plan_of l) (plan_sound K) (cycle_of l)).0 z))))
          (λ (nz : (lateness (plan_of l) (cycle_of l)).task ≡ 0 → ⊥). inr (inl (late_refused K nz)))
          (eq_or_ne (lateness (plan_of l) (cycle_of l)).task 0)

-- ---- so an answer says which of the three it is
other : {A : Type 0} {a : Accepted} {r : Refusal} → Ok a ≡ Err r → A
other e = let z : ◌≡◌ {A = ℕ} 0 1 = cc in absurd (omega arith)

module _ (l : TaskList) (supply : ℕ) where
  -- A broken bound is answered by what is found.
  pub verdict_found : ((found l supply).number ≢ 0) → verdict_answer (verdict_of l supply) ≡ found l supply
  unfolding verdict_answer verdict_of verdict_from bounds_answer
  verdict_found nz = let e = bounds_broken l supply nz in ap (λ (b : Result InBounds Refusal). verdict_answer (verdict_from l b)) e ∙ sym (ap bounds_answer e) ∙ bounds_found l supply nz

  -- The margin is below zero exactly if the list is refused for lateness.
  pub below_zero : ((verdict_answer (verdict_of l supply)).number ≡ 7) ↔ ((n : ℕ) × ((verdict_answer (verdict_of l supply)).margin ≡ negsuc n))
  unfolding verdict_answer refusal_answer
  below_zero =
      ⊎_elim
      (λ (h : ByBounds l supply (verdict_of l supply)). rw h.is (λ z. absurd (h.not_7 z), λ n. absurd (pos-ne-negsuc _ _ (sym h.margin_0 ∙ n.1))))
      (⊎_elim
      (λ (h : ForLateness l supply (verdict_of l supply)). rw h.is (λ z. (h.short, refl), λ n. refl))
      (λ (h : OnTimeAll l supply (verdict_of l supply)). rw h.is (λ z. absurd (omega arith), λ n. absurd (pos-ne-negsuc _ _ n.1))))
      (verdict_tells l supply)

  -- A list is accepted only if it keeps all bounds and every job of the cycle is on time, and is never refused by number 0.
  pub accepted_as : (verdict_answer (verdict_of l supply)).number ≡ 0 → OnTimeAll l supply (verdict_of l supply)
  unfolding verdict_answer refusal_answer
  accepted_as z =
      ⊎_elim
      (λ (h : ByBounds l supply (verdict_of l supply)).
      let T = broken_tells l supply h.reason h.broken in
      absurd (T.some (sym (ap (λ (a : Answer). a.number) T.says) ∙ sym (ap (λ (v : Verdict). (verdict_answer v).number) h.is) ∙ z)))
      (⊎_elim
      (λ (h : ForLateness l supply (verdict_of l supply)). absurd (omega (arith, ap (λ (v : Verdict). (verdict_answer v).number) h.is)))
      (λ (h : OnTimeAll l supply (verdict_of l supply)). h))
      (verdict_tells l supply)

  pub accepted_tells : (a : Accepted) → verdict_of l supply ≡ Ok a → OnTimeAll l supply (Ok a)
  unfolding verdict_answer
  accepted_tells a e = subst (OnTimeAll l supply) e (accepted_as (ap (λ (v : Verdict). (verdict_answer v).number) e))

  pub refused_not_0 : (r : Refusal) → verdict_of l supply ≡ Err r → (refusal_answer r).number ≢ 0
  unfolding verdict_answer
  refused_not_0 r e z = other (sym (accepted_as (ap (λ (v : Verdict). (verdict_answer v).number) e ∙ z)).is ∙ e)
