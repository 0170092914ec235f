-- Demand 2 holds: the proof of the statement in Demand2.
use Rattle.std.specs.Prelude.{◌≡◌, refl, false, List, ◌↔◌, eqb, leb, ℤ, negsuc, get_or, Ok, Err}
use Rattle.std.proofs.Common.{sym, subst, ◌∙◌, zero-add, eq-eqb, lt-ltb, le-ltb, leb-true, leb-false}
use Rattle.std.proofs.Math.Path.{ap}
use Rattle.std.proofs.Math.Logic.{⊎_elim}
use Prim.Native.Nat.{ℕ, zero, suc, ◌+◌, ◌-◌, ◌*◌, ◌/◌, ◌≤◌, ◌<◌}
use native.Mathlib.Omega.{arith}
use Rattle.std.proofs.Math.Nat.{zero-mul, mul_comm, sub_self, suc_inj, mod-eq_of_lt, div-eq_of_lt}
use Rattle.std.proofs.Math.IntN.{sub_ℕ}
use Rattle.std.proofs.Math.ListN.{length}
use Rattle.basis.specs.Answer.{refusal}
use Rattle.basis.specs.Choose.{choose_yes, choose_no, le_or_lt}
use Rattle.basis.specs.Sum.{sum, sum_ext, sum_same}
use Rattle.plan.proofs.Counting.{entries_in_cycle}
use Rattle.basis.specs.Least.{least, least_law}
use Rattle.basis.specs.Bytes.{overwrite, overwrite-length, overwrite_at, overwrite_kept}
use Rattle.plan.specs.Plan.{Plan, Monotonic, release, deadline, job, age, key_in, ranks_before, gets, given, table, HadBy, OnTime, OnTimeUpTo, IsFirst, NoneWants, FirstTask}
use Rattle.plan.proofs.Run.{had_after_lem}
use Rattle.plan.proofs.Rank.{first_law, not_before_key, not_before_place}
use Rattle.plan.specs.ExactTest.{AllPass, FirstFailing}
use Rattle.plan.proofs.ExactTest.{test_exact_up_to, late_has_first_failing, first_failing_late, first_failing_earliest}
use Rattle.tasks.specs.declared.TaskList.{TaskList}
use Rattle.tasks.specs.List.{plan_of}
use Rattle.tasks.specs.Refusal.{refusal_answer}
use Rattle.tasks.specs.Bounds.{cycle_of}
use Rattle.tasks.specs.Kept.{KeepsBounds}
use Rattle.tasks.proofs.Kept.{bounds_kept, plan_sound, plan_monotonic, period_within_cycle, period_divides_cycle}
use Rattle.verdict.specs.Lateness.{received, missing, missed_at}
use Rattle.verdict.specs.Margin.{margin, first_end, tightest}
use Rattle.verdict.specs.Tightest.{Tightest, tightest_law, no_smaller, no_better}
use Rattle.verdict.specs.Verdict.{Verdict, verdict_of, verdict_answer}
use Rattle.basis.specs.Signed.{zero_less}
use Rattle.verdict.specs.Answers.{ByBounds, ForLateness, OnTimeAll}
use Rattle.verdict.proofs.Told.{on_time_accepted, verdict_tells, accepted_as, below_zero}
use Rattle.verdict.specs.Table.{fitted, tabled, Built}
use Rattle.verdict.specs.Deadlines.{EarliestMissed, missed_lacks, missing_is, closes_deadline}
use Rattle.promises.specs.Demand2.{FirstLate, AcceptedAs, EndsAt, TableOf, Demand2}

-- ---- accepted exactly if every task passes
module _ (l : TaskList) (supply : ℕ) (K : KeepsBounds l supply) where
  pub not_by_bounds : {A : Type 0} → ByBounds l supply (verdict_of l supply) → A
  not_by_bounds h =
      let other = sym (bounds_kept l supply K) ∙ h.broken in
      let z : ◌≡◌ {A = ℕ} 0 1 = cc in
      absurd (omega arith)

  -- A list that breaks no bound is accepted exactly if the slice rule gives every job of the cycle its run-time before its deadline,
  pub accepted_on_time : ((verdict_answer (verdict_of l supply)).number ≡ 0) ↔ OnTimeUpTo (plan_of l) (plan_of l).runtime (cycle_of l)
  unfolding verdict_answer refusal_answer
  accepted_on_time = (
    λ z.
        ⊎_elim not_by_bounds
        (⊎_elim
        (λ (h : ForLateness l supply (verdict_of l supply)). absurd (omega (arith, ap (λ (v : Verdict). (verdict_answer v).number) h.is)))
        (λ (h : OnTimeAll l supply (verdict_of l supply)). h.on_time))
        (verdict_tells l supply),
    λ on. ap (λ (v : Verdict). (verdict_answer v).number) (on_time_accepted l supply K on).is,
  )

  within_cycle : (i : ℕ) → i < (plan_of l).count → (plan_of l).due i ≤ cycle_of l
  unfolding plan_of
  within_cycle i li = omega (arith, (plan_sound l supply K).due_within i li, period_within_cycle l supply K i li)

  -- and that is exactly if every task passes the test of Lehoczky, Sha and Ding.
  pub accepted_exactly : ((verdict_answer (verdict_of l supply)).number ≡ 0) ↔ AllPass (plan_of l)
  accepted_exactly =
      let exact = test_exact_up_to (plan_of l) (plan_monotonic l supply K) (cycle_of l) within_cycle in
      (λ z. exact.1 (accepted_on_time.0 z), λ pass. accepted_on_time.1 (exact.0 pass))

-- ---- refusal 7
-- what lacks s of its run-time has received less its run-time minus s
short_is : (s r : ℕ) → sub_ℕ 0 s ≡ sub_ℕ r (s + r)
short_is zero r = rw (zero-add r, le-ltb r r (omega arith), sub_self r)
short_is (suc s) r =
    let m : suc s + r - suc r ≡ s = omega arith in
    let k : suc s - 1 ≡ s = omega arith in
    rw (lt-ltb 0 (suc s) (omega arith), lt-ltb r (suc s + r) (omega arith), m, k)

module _ (P : Plan) (monotonic : Monotonic P) (n i short : ℕ) (E : EarliestMissed P n i short) where
  abbrev t : ℕ
  t = E.slice

  abbrev r : ℕ → ℕ → ℕ
  r = P.runtime

  lacks_some : (i < P.count) × (0 < missing P t i)
  lacks_some = missed_lacks P t i E.missed

  at_deadline : (suc (age P i t) ≡ P.due i) × (missing P t i + received P t i ≡ r i (job P i t))
  at_deadline = missing_is P t i lacks_some.1

  received_is : (j : ℕ) → j < P.count → suc (age P j t) ≡ P.due j → received P t j ≡ given P r j (release P j (job P j t)) (P.due j)
  unfolding received table
  received_is j lj e = had_after_lem P monotonic.sound r j lj t ∙ ap (given P r j (release P j (job P j t))) e

  job_late : OnTime P r i (job P i t) → ⊥
  unfolding OnTime HadBy
  job_late on = omega (arith, lacks_some.1, at_deadline.1, received_is i lacks_some.0 at_deadline.0)

  -- the first-ranking task that fails misses its first deadline here
  failing : (x : ℕ) × FirstFailing P x
  failing = late_has_first_failing P monotonic i (job P i t) lacks_some.0 job_late

  abbrev f : ℕ
  f = failing.0

  same_slice : P.due f ≡ suc t
  unfolding OnTimeUpTo OnTime HadBy deadline release
  same_slice =
      let early : P.due f ≤ suc t = omega (arith, (first_failing_earliest P monotonic f i (job P i t) failing.1 lacks_some.0 job_late).0, closes_deadline P monotonic.sound t i lacks_some.0 at_deadline.0) in
      ⊎_elim
      (λ (l : suc t ≤ P.due f). omega arith)
      (λ (l : P.due f < suc t).
      absurd (omega (arith, first_failing_late P monotonic f failing.1, E.on_time_before f 0 failing.1.below (omega (arith, zero-mul (P.period f))), ap (λ (x : ℕ). given P r f x (P.due f)) (zero-mul (P.period f)))))
      (le_or_lt (suc t) (P.due f))

  in_first : t < P.period f
  in_first = omega (arith, same_slice, monotonic.sound.due_within f failing.1.below)

  first_age : age P f t ≡ t
  unfolding age
  first_age = mod-eq_of_lt in_first

  first_job : job P f t ≡ 0
  unfolding job
  first_job = div-eq_of_lt in_first

  f_missing : missing P t f + given P r f 0 (P.due f) ≡ r f 0
  unfolding missing release
  f_missing =
      let here : suc (age P f t) ≡ P.due f = omega (arith, first_age, same_slice) in
      omega (
        arith,
        choose_yes (eqb (suc (age P f t)) (P.due f)) (r f (job P f t) - received P t f) 0 (eq-eqb _ _ here),
        received_is f failing.1.below here,
        ap (r f) first_job,
        ap (λ (k : ℕ). given P r f (k * P.period f) (P.due f)) first_job,
        ap (λ (x : ℕ). given P r f x (P.due f)) (zero-mul (P.period f)),
        first_failing_late P monotonic f failing.1,
      )

  f_lacks : 0 < missing P t f
  f_lacks = omega (arith, f_missing, first_failing_late P monotonic f failing.1)

  -- so it is the task that is named
  not_after : ranks_before (key_in P t) f i ≡ false
  unfolding IsFirst missed_at
  not_after =
      ⊎_elim
      (λ (h : NoneWants (missing P t) P.count (missed_at P t)). absurd (omega (arith, E.missed, h.idle)))
      (λ (h : FirstTask (key_in P t) (missing P t) P.count (missed_at P t)).
      let same : h.task ≡ i = suc_inj (sym h.is ∙ E.missed) in
      ap (ranks_before (key_in P t) f) (sym same) ∙ h.none_before f failing.1.below f_lacks)
      (first_law (key_in P t) (missing P t) P.count)

  key_is : (u j : ℕ) → j < P.count → key_in P u j ≡ P.due j
  unfolding key_in
  key_is u j lj = monotonic.by_deadline j (job P j u) lj

  is_first_failing : f ≡ i
  is_first_failing =
      let li = lacks_some.0 in
      let lf = failing.1.below in
      let b : ranks_before (key_in P 0) i f ≡ false = (first_failing_earliest P monotonic f i (job P i t) failing.1 li job_late).1 in
      let x : P.due i ≡ P.due f = omega (arith, not_before_key (key_in P t) f i not_after, not_before_key (key_in P 0) i f b, key_is t i li, key_is t f lf, key_is 0 i li, key_is 0 f lf) in
      omega (
        arith,
        not_before_place (key_in P t) f i not_after (key_is t f lf ∙ sym x ∙ sym (key_is t i li)),
        not_before_place (key_in P 0) i f b (key_is 0 i li ∙ x ∙ sym (key_is 0 f lf)),
      )

  pub first_late : (task : ℕ) (margin : ℤ) → task ≡ suc i → margin ≡ sub_ℕ 0 short → FirstLate P task margin
  first_late task margin et em = record {
    place = f;
    below = failing.1.below;
    named = et ∙ ap suc (sym is_first_failing);
    none_earlier = λ u e. let same : u ≡ t = omega (arith, same_slice) in subst (OnTimeUpTo P r) (sym same) E.on_time_before;
    none_before = λ j k lj late. (first_failing_earliest P monotonic f j k failing.1 lj late).1;
    lacking = first_failing_late P monotonic f failing.1;
    margin_is = em ∙ short_is short (given P r f 0 (P.due f)) ∙ ap (sub_ℕ (given P r f 0 (P.due f))) (omega (arith, E.lacks, ap (missing P t) is_first_failing, f_missing));
    fails_first = failing.1;
  }

-- ---- the promise on lateness
-- Refusal 7 names the first task that misses, and by how many slices. (That the margin is below zero there and nowhere else is
-- `below-zero` of the verdict's Answers.)
pub late_named : (l : TaskList) (supply : ℕ) → KeepsBounds l supply → (verdict_answer (verdict_of l supply)).number ≡ 7
    → FirstLate (plan_of l) (verdict_answer (verdict_of l supply)).task (verdict_answer (verdict_of l supply)).margin
unfolding verdict_answer refusal_answer
late_named l supply K seven =
    ⊎_elim (not_by_bounds l supply K)
    (⊎_elim
    (λ (h : ForLateness l supply (verdict_of l supply)).
    rw h.is (first_late (plan_of l) (plan_monotonic l supply K) (cycle_of l) h.place (suc h.short) h.earliest (suc h.place) (negsuc h.short) refl (sym (zero_less h.short))))
    (λ (h : OnTimeAll l supply (verdict_of l supply)). absurd (omega (arith, ap (λ (v : Verdict). (verdict_answer v).number) h.is))))
    (verdict_tells l supply)

-- ---- accepted: the tightest task and its margin
pub first_end_lem : (P : Plan) (i : ℕ) → OnTime P P.runtime i 0 → EndsAt P i (first_end P i)
unfolding first_end OnTime HadBy release
first_end_lem P i on =
    let L = least_law (λ t. leb (P.runtime i 0) (given P P.runtime i 0 t)) (P.due i) in
    record {
      within = L.within;
      has =
          ⊎_elim
          (λ (l : P.due i ≤ least (λ t. leb (P.runtime i 0) (given P P.runtime i 0 t)) (P.due i)).
          let e : least (λ t. leb (P.runtime i 0) (given P P.runtime i 0 t)) (P.due i) ≡ P.due i = omega (arith, L.within) in
          omega (arith, ap (given P P.runtime i 0) e, ap (λ (x : ℕ). given P P.runtime i x (P.due i)) (zero-mul (P.period i))))
          (λ (l : least (λ t. leb (P.runtime i 0) (given P P.runtime i 0 t)) (P.due i) < P.due i). leb-true _ _ (L.passes l))
          (le_or_lt (P.due i) (least (λ t. leb (P.runtime i 0) (given P P.runtime i 0 t)) (P.due i)));
      not_before = λ t lt. leb-false _ _ (L.none_before t lt);
    }

module _ (l : TaskList) (supply : ℕ) (K : KeepsBounds l supply) where
  pub accepted_values : (verdict_answer (verdict_of l supply)).number ≡ 0 → AcceptedAs l (verdict_answer (verdict_of l supply))
  unfolding verdict_answer margin plan_of
  accepted_values z =
      rw (accepted_as l supply z).is
      (record {
        place = tightest (plan_of l) l.count;
        below = T.is_below;
        named = refl;
        cycle_is = refl;
        jobs_is = refl;
        margin_is = refl;
        smallest = λ j lj. no_smaller (plan_of l) (tightest (plan_of l) l.count) j (T.none_tighter j lj);
        then_first = λ j lj q. no_better (plan_of l) (tightest (plan_of l) l.count) j (T.none_tighter j lj) q;
      })
    where
      T : Tightest (plan_of l) l.count (tightest (plan_of l) l.count)
      T = tightest_law (plan_of l) l.count K.some (omega arith)

-- ---- the table
-- Building is accepted only if the list is.
pub list_accepted : (l : TaskList) (supply : ℕ) (old new : List ℕ) (v : Verdict) → Built l supply old new v → (verdict_answer v).number ≡ 0 → (verdict_answer (verdict_of l supply)).number ≡ 0
unfolding verdict_answer fitted
list_accepted l supply old new v built z = go (verdict_of l supply) refl
  where
    go : (w : Verdict) → verdict_of l supply ≡ w → (verdict_answer (verdict_of l supply)).number ≡ 0
    go (Ok a) q = ap (λ (x : Verdict). (verdict_answer x).number) q
    go (Err r) q = ap (λ (x : Verdict). (verdict_answer x).number) q ∙ sym (ap (λ (x : Verdict). (verdict_answer x).number) (built.answer ∙ ap (λ (x : Verdict). fitted x (length old)) q)) ∙ z

module _ (l : TaskList) (supply : ℕ) (K : KeepsBounds l supply) (old new : List ℕ) (v : Verdict) (built : Built l supply old new v) where
  built_as : (verdict_answer v).number ≡ 0 → (cycle_of l ≤ length old) × (new ≡ overwrite (table (plan_of l)) (cycle_of l) old)
  unfolding verdict_answer refusal_answer refusal fitted tabled
  built_as z =
      let e = (accepted_as l supply (list_accepted l supply old new v built z)).is in
      let answer = built.answer ∙ ap (λ (x : Verdict). fitted x (length old)) e in
      ⊎_elim
      (λ (r : cycle_of l ≤ length old).
      (r, built.bytes ∙ ap (λ (x : Verdict). tabled l x old) (answer ∙ choose_no _ _ _ (le-ltb (length old) (cycle_of l) r))))
      (λ (r : length old < cycle_of l).
      absurd (omega (arith, ap (λ (x : Verdict). (verdict_answer x).number) (answer ∙ choose_yes _ _ _ (lt-ltb (length old) (cycle_of l) r)))))
      (le_or_lt (cycle_of l) (length old))

  pub table_is : (verdict_answer v).number ≡ 0 → TableOf l old new
  table_is z =
      let b = built_as z in
      let f = table (plan_of l) in
      record {
        long = ap length b.1 ∙ overwrite-length f old (cycle_of l);
        reaches = omega (arith, b.0, ap length b.1, overwrite-length f old (cycle_of l));
        entries = λ t lt. ap (λ (x : List ℕ). get_or x t 0) b.1 ∙ overwrite_at f old 0 (cycle_of l) t lt (omega (arith, b.0));
        beyond = λ t lt. ap (λ (x : List ℕ). get_or x t 0) b.1 ∙ overwrite_kept f old 0 (cycle_of l) t lt;
      }

  -- each task filling exactly run-time times cycle / period entries.
  pub fills : (verdict_answer v).number ≡ 0 → (i : ℕ) → i < l.count → sum (λ t. gets (get_or new t 0) i) (cycle_of l) ≡ (plan_of l).runtime i 0 * (cycle_of l / (plan_of l).period i)
  unfolding plan_of
  fills z i li =
      let T = table_is z in
      let on = (accepted_on_time l supply K).0 (list_accepted l supply old new v built z) in
      sum_ext (λ t. gets (get_or new t 0) i) (λ t. gets (table (plan_of l) t) i) (cycle_of l) (λ t lt. ap (λ (e : ℕ). gets e i) (T.entries t lt))
      ∙ entries_in_cycle (plan_of l) (plan_sound l supply K) i (cycle_of l) li (period_divides_cycle l supply K i li) on
      ∙ sum_same ((plan_of l).runtime i 0) (cycle_of l / (plan_of l).period i)
      ∙ mul_comm (cycle_of l / (plan_of l).period i) ((plan_of l).runtime i 0)

-- ---- so the demand holds
pub demand_2 : Demand2
demand_2 = record {
  accepted_exactly = accepted_exactly;
  accepted_on_time = accepted_on_time;
  late_named = late_named;
  below_zero = below_zero;
  accepted_values = accepted_values;
  first_end_lem = first_end_lem;
  table_is = table_is;
  fills = fills;
}
