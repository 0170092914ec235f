-- The quick question answers as the verdict does: the proof of the statement in Quick. It rests on demand 2: the verdict is accepted
-- exactly if every task passes, and a refusal for lateness names the first-ranking task that fails.
use Rattle.std.specs.Prelude.{◌≡◌, Bool, true, false, ◌||◌, ◌⊎◌, ◌↔◌, Result, Ok, Err}
use Rattle.std.proofs.Math.Path.{refl, sym, ap, subst}
use Rattle.std.proofs.Common.{◌∙◌, true≢false, arith}
use mathlib.Core.List.{List, [], ◌∷◌}
use Rattle.std.proofs.Math.Logic.{inl, inr, ⊎_elim}
use Prim.Native.Nat.{ℕ, zero, suc, ◌/◌, ◌%◌, ◌≤◌, ◌<◌}
use Rattle.std.proofs.Math.Nat.{div-add-mod'}
use Rattle.std.proofs.Math.Dec.{leb}
use borrow.Author.Tests.{leb-true}
use Rattle.basis.specs.Choose.{bool_cases}
use Rattle.basis.specs.Answer.{Answer, refusal, none}
use Rattle.basis.proofs.Slices.{mod_at}
use Rattle.plan.specs.Plan.{Plan, Sound, bound, Passes}
use Rattle.plan.specs.ExactTest.{AllPass, FirstFailing}
use Rattle.plan.proofs.ExactTest.{fails_first_alone}
use Rattle.plan.specs.Points.{Point, Multiple, points, passes_among, Among, first_without}
use Rattle.plan.proofs.Points.{level_own, level_before, level_tells, points_are, points_rise, points_enough, found_failing, none_found_pass}
use Rattle.tasks.specs.declared.TaskList.{TaskList}
use Rattle.tasks.specs.declared.InBounds.{InBounds}
use Rattle.tasks.specs.declared.refusals.Refusal.{Refusal}
use Rattle.tasks.specs.List.{task_at, plan_of}
use Rattle.tasks.specs.Refusal.{refusal_answer}
use Rattle.tasks.specs.Bounds.{bounds_of}
use Rattle.tasks.specs.Kept.{KeepsBounds}
use Rattle.tasks.proofs.Kept.{plan_sound, kept_tells, broken_tells}
use Rattle.verdict.specs.Verdict.{Verdict, verdict_from, verdict_of, verdict_answer}
use Rattle.verdict.specs.Answers.{ByBounds, ForLateness, OnTimeAll}
use Rattle.verdict.proofs.Told.{verdict_tells}
use Rattle.quick.specs.declared.Refused.{Refused}
use Rattle.quick.specs.Quick.{named, tried, tried_none, tried_late, quick_from, quick_of, quick_answer}
use Rattle.records.specs.Grammar.{Read, Reads}
use Rattle.records.proofs.Reading.{reads_only}
use Rattle.printing.specs.Text.{table_text}
use Rattle.output.specs.Output.{record_of, Prints, too_long, bad_line, refused, accepted}
use Rattle.output.specs.Quick.{quick_record_of, QuickPrints, too_long as quick-too-long, bad_line as quick-bad-line, asked}
use Rattle.promises.specs.Demand2.{judged_as}
use Rattle.promises.specs.Demand2Holds.{not_by_bounds, accepted_exactly, late_named}
use Rattle.promises.specs.Quick.{asked_as, MultipleUpTo, PassesAtOne, SaysTheSame, of_table, of_refusal, QuickQuestion}

-- ---- the same answer
-- Number and task are the verdict's; accepted, no task is named.
pub record Same (a v : Answer) : Type 0 where
  pub number : a.number ≡ v.number
  pub task : (a.number ≡ 0 → ⊥) → a.task ≡ v.task
  pub none_named : a.number ≡ 0 → a.task ≡ 0

module _ (l : TaskList) (supply : ℕ) (K : KeepsBounds l supply) where
  abbrev P : Plan
  P = plan_of l

  -- A list that breaks no bound and has a task that fails is refused by 7.
  refused_late : (i : ℕ) → FirstFailing P i → (judged_as l supply).number ≡ 7
  unfolding verdict_answer refusal_answer AllPass
  refused_late i F =
      ⊎_elim (not_by_bounds l supply K)
      (⊎_elim
      (λ (h : ForLateness l supply (verdict_of l supply)). ap (λ (v : Verdict). (verdict_answer v).number) h.is)
      (λ (h : OnTimeAll l supply (verdict_of l supply)). absurd (F.fails ((accepted_exactly l supply K).0 (ap (λ (v : Verdict). (verdict_answer v).number) h.is) i F.below))))
      (verdict_tells l supply)

  same_kept : (e : ℕ) → first_without P ≡ e → Same (quick_answer (tried e)) (judged_as l supply)
  unfolding quick_answer refusal_answer named none refusal
  same_kept zero z =
      rw tried_none
      (record { number = sym ((accepted_exactly l supply K).1 (none_found_pass P (plan_sound l supply K) z)); task = λ nz. absurd (nz refl); none_named = λ _. refl })
  same_kept (suc i) z =
      let F = found_failing P (plan_sound l supply K) i z in
      let late = late_named l supply K (refused_late i F) in
      rw (tried_late i)
      (record {
        number = sym (refused_late i F);
        task = λ _. ap suc (fails_first_alone P i late.place F late.fails_first) ∙ sym late.named;
        none_named = λ z. absurd (omega arith);
      })

module _ (l : TaskList) (supply : ℕ) where
  same_from : (b : Result InBounds Refusal) → bounds_of l supply ≡ b → Same (asked_as l supply) (judged_as l supply)
  unfolding quick_of quick_from named quick_answer verdict_of verdict_from verdict_answer refusal
  same_from (Ok k) e =
      subst (λ (q : Result (Unit {0}) Refused). Same (quick_answer q) (judged_as l supply)) (sym (ap (quick_from l) e))
      (same_kept l supply (kept_tells l supply k e).keeps (first_without (plan_of l)) refl)
  same_from (Err r) e = record {
    number = ap (λ (b : Result InBounds Refusal). (quick_answer (quick_from l b)).number) e ∙ sym (ap (λ (b : Result InBounds Refusal). (verdict_answer (verdict_from l b)).number) e);
    task = λ _. ap (λ (b : Result InBounds Refusal). (quick_answer (quick_from l b)).task) e ∙ sym (ap (λ (b : Result InBounds Refusal). (verdict_answer (verdict_from l b)).task) e);
    none_named = λ z. absurd ((broken_tells l supply r e).some (sym (ap (λ (a : Answer). a.number) (broken_tells l supply r e).says) ∙ sym (ap (λ (b : Result InBounds Refusal). (quick_answer (quick_from l b)).number) e) ∙ z));
  }

  pub same : Same (asked_as l supply) (judged_as l supply)
  same = same_from (bounds_of l supply) refl

  no_more : asked_as l supply ≡ refusal (asked_as l supply).number (asked_as l supply).task
  unfolding quick_answer none refusal
  no_more = plain (quick_of l supply)
    where
      plain : (q : Result (Unit {0}) Refused) → quick_answer q ≡ refusal (quick_answer q).number (quick_answer q).task
      plain (Ok done) = refl
      plain (Err r) = refl

  seven_names : (asked_as l supply).number ≡ 7 → (i : ℕ) × (((asked_as l supply).task ≡ suc i) × FirstFailing (plan_of l) i)
  unfolding verdict_answer
  seven_names seven =
      let late-too : (judged_as l supply).number ≡ 7 = sym same.number ∙ seven in
      let late = late_named l supply (seven_keeps late-too) late-too in
      (late.place, (same.task (λ z. omega arith) ∙ late.named, late.fails_first))
    where
      seven_keeps : (judged_as l supply).number ≡ 7 → KeepsBounds l supply
      seven_keeps late = ⊎_elim (λ (h : ByBounds l supply (verdict_of l supply)). absurd (h.not_7 (sym (ap (λ (v : Verdict). (verdict_answer v).number) h.is) ∙ late))) (⊎_elim (λ (h : ForLateness l supply (verdict_of l supply)). h.keeps) (λ (h : OnTimeAll l supply (verdict_of l supply)). h.keeps)) (verdict_tells l supply)

-- ---- the points
module _ (l : TaskList) (supply : ℕ) (K : KeepsBounds l supply) (i : ℕ) (li : i < l.count) where
  -- What is a point of the list's plan is its deadline or such a multiple,
  point_multiple : (t : ℕ) → Point (plan_of l) i t → (t ≡ (task_at l.tasks i).deadline) ⊎ MultipleUpTo l i t
  unfolding plan_of
  point_multiple t p =
      ⊎_elim
      (λ (e : t ≡ (task_at l.tasks i).deadline). inl e)
      (λ (m : Multiple (plan_of l) i t). inr (record {
        from_1 = p.from_1;
        to_deadline = p.to_deadline;
        task = m.task;
        below = m.below;
        ranks = level_tells (plan_of l) i m.task m.level;
        times = t / (task_at l.tasks m.task).period;
        is = omega (arith, m.divides, div-add-mod' t (task_at l.tasks m.task).period);
      }))
      p.is

  -- and the other way round.
  multiple_point : (t : ℕ) → MultipleUpTo l i t → Point (plan_of l) i t
  unfolding plan_of
  multiple_point t m = record {
    from_1 = m.from_1;
    to_deadline = m.to_deadline;
    is = inr (record {
      task = m.task;
      below = m.below;
      level = ⊎_elim (λ (e : m.task ≡ i). rw e (level_own (plan_of l) i)) (λ b. level_before (plan_of l) i m.task b) m.ranks;
      divides = ap (λ (x : ℕ). x % period) (omega (arith, m.is)) ∙ mod_at period (K.fits m.task m.below).period_from m.times 0 (K.fits m.task m.below).period_from;
    });
  }
    where
      period : ℕ
      period = (task_at l.tasks m.task).period

  deadline_point : (t : ℕ) → t ≡ (task_at l.tasks i).deadline → Point (plan_of l) i t
  unfolding plan_of
  deadline_point t e = record { from_1 = omega (arith, (K.fits i li).runtime_from, (K.fits i li).deadline_from); to_deadline = omega arith; is = inl e }

  list_points : (t : ℕ) → Among t (points (plan_of l) i) ↔ ((t ≡ (task_at l.tasks i).deadline) ⊎ MultipleUpTo l i t)
  list_points t = let h = points_are (plan_of l) i t in (λ a. point_multiple t (h.0 a), λ m. h.1 (⊎_elim (deadline_point t) (multiple_point t) m))

-- ---- the test at the points
module _ (P : Plan) (i : ℕ) where
  one_passes : (ts : List ℕ) → passes_among P i ts ≡ true → (t : ℕ) × (Among t ts × (bound P i t ≤ t))
  unfolding passes_among Among
  one_passes [] e = absurd (true≢false (sym e))
  one_passes (t ∷ ts) e =
      ⊎_elim
      (λ (y : leb (bound P i t) t ≡ true). (t, (inl refl, leb-true (bound P i t) t y)))
      (λ (n : leb (bound P i t) t ≡ false). let h = one_passes ts (sym (ap (λ (b : Bool). b || passes_among P i ts) n) ∙ e) in (h.0, (inr h.1.0, h.1.1)))
      (bool_cases (leb (bound P i t) t))

  pub enough : Sound P → i < P.count → PassesAtOne P i ↔ Passes P i
  unfolding Passes
  enough sound li = (
    λ o. let p = (points_are P i o.point).0 o.among in (o.point, p.from_1, p.to_deadline, o.passes),
    λ p. let h = one_passes (points P i) ((points_enough P sound i li).1 p) in record { point = h.0; among = h.1.0; passes = h.1.1 },
  )

-- ---- the two programs
-- What is said of one answer, and quickly of the other, is the same where the answers are.
module _ (a v : Answer) (S : Same a v) where
  said_refused : (v.number ≡ 0 → ⊥) → SaysTheSame (record_of v) (quick_record_of a)
  unfolding record_of quick_record_of
  said_refused nz = rw (S.number, S.task (λ z. nz (sym S.number ∙ z))) (of_refusal v.number v.task v.margin)

  said_accepted : (entries : List ℕ) → v.number ≡ 0 → SaysTheSame (table_text entries) (quick_record_of a)
  unfolding quick_record_of
  said_accepted entries z = rw (S.number ∙ z, S.none_named (S.number ∙ z)) (of_table entries)

-- An answer's own record and its quick record say the same.
said_alike : (a : Answer) → SaysTheSame (record_of a) (quick_record_of a)
unfolding record_of quick_record_of
said_alike a = of_refusal a.number a.task a.margin

one_read : {input : List ℕ} {r r' : Read} → Reads input r → Reads input r' → r' ≡ r
one_read R R' = reads_only R' ∙ sym (reads_only R)

not_both : {A : Type 0} {input : List ℕ} {r r' : Read} → Reads input r → Reads input r' → r.answer.number ≡ 15 → r'.answer.number ≡ 0 → A
not_both R R' b g = absurd (omega (arith, ap (λ (x : Read). x.answer.number) (one_read R R')))

programs_same : (input text quick-text : List ℕ) → Prints input text → QuickPrints input quick-text → SaysTheSame text quick-text
programs_same input _ _ (too_long l) (quick-too-long m) = said_alike (refusal 16 0)
programs_same input _ _ (too_long l) (quick-bad-line m R b) = absurd (omega arith)
programs_same input _ _ (too_long l) (asked m R g) = absurd (omega arith)
programs_same input _ _ (bad_line l R b) (quick-too-long m) = absurd (omega arith)
programs_same input _ _ (bad_line {r = r} l R b) (quick-bad-line m R' b') = rw (one_read R R') (said_alike r.answer)
programs_same input _ _ (bad_line l R b) (asked m R' g) = not_both R R' b g
programs_same input _ _ (refused l R g nz) (quick-too-long m) = absurd (omega arith)
programs_same input _ _ (refused l R g nz) (quick-bad-line m R' b) = not_both R' R b g
programs_same input _ _ (refused {r = r} l R g nz) (asked m R' g') = rw (one_read R R') (said_refused _ _ (same r.list 65536) nz)
programs_same input _ _ (accepted l R g z) (quick-too-long m) = absurd (omega arith)
programs_same input _ _ (accepted l R g z) (quick-bad-line m R' b) = not_both R' R b g
programs_same input _ _ (accepted {r = r} l R g z) (asked m R' g') = rw (one_read R R') (said_accepted _ _ (same r.list 65536) _ z)

-- ---- so it holds
pub quick_question : QuickQuestion
quick_question = record {
  number_same = λ l supply. (same l supply).number;
  task_same = λ l supply. (same l supply).task;
  none_named = λ l supply. (same l supply).none_named;
  no_more = no_more;
  seven_names = seven_names;
  points_are = list_points;
  points_rise = points_rise;
  points_enough = λ P sound i li. enough P i sound li;
  programs_same = programs_same;
}
