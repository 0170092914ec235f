-- Every call goes by its rules: the answers of the definitions are the refusals of the paper's rows, in their order.
use Rattle.std.proofs.Math.Path.{◌≡◌, refl, sym, ap, subst}
use Rattle.std.proofs.Common.{◌∙◌, arith, mod-eq_of_lt}
use Rattle.std.specs.Prelude.{true, ◌||◌, List, ◌⊎◌, ◌↔◌, eqb, length, get_or, Option, Some, None, Ok, Err}
use Rattle.std.proofs.Math.Bool.{false, true≢false, not, or-true}
use Rattle.std.proofs.Math.Logic.{inl, inr, ⊎_elim}
use Prim.Native.Nat.{ℕ, zero, suc, ◌+◌, ◌≤◌, ◌<◌}
use Rattle.std.proofs.Math.Dec.{ltb}
use Rattle.std.proofs.Math.IntN.{sub_ℕ}
use borrow.Author.Tests.{lt-ltb, ltb-true, le-leb, leb-true, eq-eqb, ne_eqb, eqb-true, eqb-false}
use Rattle.basis.specs.Choose.{choose, both_true, choose_yes, choose_no, choose_either, of_choice, bool_cases, le_or_lt, eq_or_ne, within, within_tells, is_within}
use Rattle.basis.specs.Answer.{Answer, alike, refusal, clash, none, ◌or_else◌, first_found, none_number, else_choose, found_none, none_found}
use Rattle.basis.specs.Rules.{naming, rule, saying, Breaks, no_more, ◌then◌, ◌and_then◌, Refused, GoesBy, goes_on, goes_then, goes_as, Refuses, plain_refuses, breaks_saying, breaks_naming, saying_told, goes_by_rule, goes_unless, first_goes}
use Rattle.plan.specs.Plan.{given}
use Rattle.plan.specs.ExactTest.{AllPass}
use Rattle.plan.proofs.ExactTest.{fails_first_alone}
use Rattle.tasks.specs.declared.Task.{Task}
use Rattle.tasks.specs.declared.TaskList.{TaskList}
use Rattle.tasks.specs.List.{task_at, plan_of}
use Rattle.tasks.specs.Refusal.{refusal_answer}
use Rattle.tasks.specs.Bounds.{multiple, memory_sum, cycle_of, jobs_of, of_count, of_numbers, of_task, of_memory, of_cycle, found, bounds_of, bounds_answer}
use Rattle.tasks.specs.Kept.{TaskFits}
use Rattle.tasks.proofs.Kept.{one_test_none, tasks_none, nothing_found, bounds_kept, bounds_found}
use Rattle.verdict.specs.Verdict.{Verdict, verdict_from, verdict_of, verdict_answer}
use Rattle.verdict.specs.Table.{fitted, Built}
use Rattle.verdict.specs.Answers.{ByBounds, ForLateness, OnTimeAll}
use Rattle.verdict.proofs.Told.{verdict_tells, verdict_found, accepted_as}
use Rattle.start.specs.declared.Started.{Started}
use Rattle.start.specs.Start.{begun_of, Begins, begun_answer}
use Rattle.run.specs.declared.Mode.{Mode}
use Rattle.run.specs.declared.Mode.TheVariants.{Table, Filling}
use Rattle.run.specs.declared.State.{State}
use Rattle.run.specs.declared.Next.{Next}
use Rattle.run.specs.State.{sound, job_count}
use Rattle.run.specs.Sound.{sound_tells}
use Rattle.run.specs.Who.{running, of9, of10, of11_by, of11, who_found, unless_refused, of_entry, answered, who_of, runner_answer, IsFound, some_back, who_found_is}
use Rattle.run.specs.Step.{of12, next_clock, of13, of14, step_found, Stepped, closed_answer, step_says}
use Rattle.units.specs.Conversion.{runtime_slices, period_slices, slices_answer, deadline_slices}
use Rattle.units.proofs.Laws.{period_accepted, period_refused}
use Rattle.promises.specs.Demand2.{FirstLate}
use Rattle.promises.specs.Demand2Holds.{not_by_bounds, accepted_exactly, late_named}
use Rattle.promises.specs.Refusals.{no_tasks, more_than_16, FirstWith, PeriodOutside, RuntimeOutside, DeadlineOutside, period_outside, runtime_outside, deadline_outside, FirstAbove, memory_exceeds, cycle_above, deadline_missed, table_short, log_short_for, bounds_rules, list_rules, build_rules, start_rules, Follows, one_more, wraps, not_sound, run_over, no_entry_rule, log_short, clock_wrong, report_wrong, who_rules, step_rules, no_share, not_whole, no_length}

-- ---- refusals 1 to 6 and 20
outside : (low high x : ℕ) → (not (within low high x) ≡ true) ↔ ((x < low) ⊎ (high < x))
outside low high x = (
  λ e.
      ⊎_elim
      (λ (a : low ≤ x). ⊎_elim (λ (b : x ≤ high). absurd (true≢false (sym e ∙ ap not (is_within low high x a b)))) (λ (b : high < x). inr b) (le_or_lt x high))
      (λ (a : x < low). inl a)
      (le_or_lt low x),
  λ h.
      ⊎_elim
      (λ (t : within low high x ≡ true). absurd (⊎_elim (λ (a : x < low). omega (arith, within_tells low high x t)) (λ (a : high < x). omega (arith, within_tells low high x t)) h))
      (λ (f : within low high x ≡ false). ap not f)
      (bool_cases (within low high x)),
)

outside_tells : (high x : ℕ) → (not (within 1 high x) ≡ true) ↔ ((x ≡ 0) ⊎ (high < x))
outside_tells high x = (
  λ e. ⊎_elim (λ (a : x < 1). inl (omega arith)) (λ (a : high < x). inr a) ((outside 1 high x).0 e),
  λ h. (outside 1 high x).1 (⊎_elim (λ (z : x ≡ 0). inl (omega arith)) (λ (a : high < x). inr a) h),
)

module _ (l : TaskList) where
  abbrev task : ℕ → Task
  task i = task_at l.tasks i

  count_goes : GoesBy (no_tasks l then more_than_16 l then no_more) (of_count l.count)
  unfolding of_count ◌and_then◌
  count_goes =
      subst (GoesBy (no_tasks l then more_than_16 l then no_more)) (else_choose (eqb l.count 0) 0 0 _)
      (goes_on (no_tasks l then no_more) (more_than_16 l then no_more) _ _ (goes_by_rule 0 _ (eqb l.count 0) none none_number (eqb-true l.count 0) (eq-eqb l.count 0))
      (λ _. goes_by_rule 1 _ (ltb 16 l.count) none none_number (ltb-true 16 l.count) (lt-ltb 16 l.count)))

  -- what breaks 3, 4 or 20 does not fit
  period_unfit : (t : Task) → PeriodOutside l t → TaskFits t → ⊥
  period_unfit t (inl z) fits = omega (arith, fits.period_from)
  period_unfit t (inr h) fits = omega (arith, fits.period_to)

  runtime_unfit : (t : Task) → RuntimeOutside l t → TaskFits t → ⊥
  runtime_unfit t h fits = ⊎_elim (λ (z : t.runtime ≡ 0). omega (arith, fits.runtime_from)) (λ (a : t.period < t.runtime). omega (arith, fits.runtime_to)) h.1

  deadline_unfit : (t : Task) → DeadlineOutside l t → TaskFits t → ⊥
  deadline_unfit t h fits = ⊎_elim (λ (a : t.deadline < t.runtime). omega (arith, fits.deadline_from)) (λ (a : t.period < t.deadline). omega (arith, fits.deadline_to)) h.2

  -- so there is one first task alone
  first_alone : (Broken Other : Task → Type 0) → ((t : Task) → Broken t → TaskFits t → ⊥) → ((t : Task) → Other t → TaskFits t → ⊥) → (i j : ℕ) → FirstWith l Broken i → FirstWith l Other j → i ≡ j
  first_alone Broken Other b c i j first-i first-j =
      ⊎_elim
      (λ e. e)
      (λ (ne : i ≡ j → ⊥).
      ⊎_elim
      (λ (h : i ≤ j). absurd (b (task i) first-i.broken (first-j.before_fit i (omega arith))))
      (λ (h : j < i). absurd (c (task j) first-j.broken (first-i.before_fit j h)))
      (le_or_lt i j))
      (eq_or_ne i j)

  fit_before : (i : ℕ) → ((first_found (of_task l.tasks) i).number ≡ 0) ↔ ((j : ℕ) → j < i → TaskFits (task j))
  fit_before i = tasks_none (record { tasks = l.tasks; count = i }) 0

  module _ (i : ℕ) where
    three : PeriodOutside l (task i) → of_task l.tasks i ≡ refusal 3 (suc i)
    unfolding of_task of_numbers
    three h = choose_yes _ _ _ ((outside_tells 4096 (task i).period).1 h)

    period_within : (PeriodOutside l (task i) → ⊥) → not (within 1 4096 (task i).period) ≡ false
    period_within not_so = ⊎_elim (λ t. absurd (not_so ((outside_tells 4096 (task i).period).0 t))) (λ f. f) (bool_cases (not (within 1 4096 (task i).period)))

    four : RuntimeOutside l (task i) → of_task l.tasks i ≡ refusal 4 (suc i)
    unfolding of_task of_numbers
    four h = choose_no _ _ _ (period_within h.0) ∙ choose_yes _ _ _ ((outside_tells (task i).period (task i).runtime).1 h.1)

    runtime_within : (PeriodOutside l (task i) → ⊥) → (RuntimeOutside l (task i) → ⊥) → not (within 1 (task i).period (task i).runtime) ≡ false
    runtime_within fits not_so =
        ⊎_elim (λ t. absurd (not_so (fits, (outside_tells (task i).period (task i).runtime).0 t))) (λ f. f) (bool_cases (not (within 1 (task i).period (task i).runtime)))

    twenty : DeadlineOutside l (task i) → of_task l.tasks i ≡ refusal 20 (suc i)
    unfolding of_task of_numbers
    twenty h =
        choose_no _ _ _ (period_within h.0) ∙ choose_no _ _ _ (runtime_within h.0 h.1) ∙ choose_yes _ _ _ ((outside (task i).runtime (task i).period (task i).deadline).1 h.2)

    module _ (li : i < l.count) (before : (first_found (of_task l.tasks) i).number ≡ 0) where
      first : (Broken : Task → Type 0) → Broken (task i) → FirstWith l Broken i
      first Broken b = record { below = li; before_fit = (fit_before i).0 before; broken = b }

      -- nothing else breaks a rule of which another task would be the first
      not_by : (number : ℕ) (Broken Other : Task → Type 0) → ((t : Task) → Broken t → TaskFits t → ⊥) → ((t : Task) → Other t → TaskFits t → ⊥) → Broken (task i) → (Other (task i) → ⊥) → (b : Answer) → Breaks (naming (suc number) (FirstWith l Other)) b → ⊥
      not_by number Broken Other unfit other-unfit h not_so b breaks =
          let other = saying_told number _ _ b breaks in
          let same = first_alone Other Broken other-unfit unfit other.0 i other.1.0 (first Broken h) in
          not_so (subst (λ (x : ℕ). Other (task x)) same other.1.0.broken)

      -- by 3, by 4 or by 20
      by_period : PeriodOutside l (task i) → Refused (period_outside l then runtime_outside l then deadline_outside l then no_more) (of_task l.tasks i)
      unfolding Refused
      by_period h = inl (subst (Breaks (period_outside l)) (sym (three h)) (breaks_naming 2 _ i (first (PeriodOutside l) h)))

      by_runtime : RuntimeOutside l (task i) → Refused (period_outside l then runtime_outside l then deadline_outside l then no_more) (of_task l.tasks i)
      unfolding Refused
      by_runtime h = inr (
        not_by 2 (RuntimeOutside l) (PeriodOutside l) runtime_unfit period_unfit h h.0,
        inl (subst (Breaks (runtime_outside l)) (sym (four h)) (breaks_naming 3 _ i (first (RuntimeOutside l) h))),
      )

      by_deadline : DeadlineOutside l (task i) → Refused (period_outside l then runtime_outside l then deadline_outside l then no_more) (of_task l.tasks i)
      unfolding Refused
      by_deadline h = inr (
        not_by 2 (DeadlineOutside l) (PeriodOutside l) deadline_unfit period_unfit h h.0,
        inr (
          not_by 3 (DeadlineOutside l) (RuntimeOutside l) deadline_unfit runtime_unfit h h.1,
          inl (subst (Breaks (deadline_outside l)) (sym (twenty h)) (breaks_naming 19 _ i (first (DeadlineOutside l) h))),
        ),
      )

      refused_task : ((of_task l.tasks i).number ≡ 0 → ⊥) → Refused (period_outside l then runtime_outside l then deadline_outside l then no_more) (of_task l.tasks i)
      unfolding of_task of_numbers
      refused_task some =
          ⊎_elim
          (λ (t : not (within 1 4096 (task i).period) ≡ true). by_period ((outside_tells 4096 (task i).period).0 t))
          (λ (f : not (within 1 4096 (task i).period) ≡ false).
          let period-fits : PeriodOutside l (task i) → ⊥ = λ p. true≢false (sym ((outside_tells 4096 (task i).period).1 p) ∙ f) in
          ⊎_elim
          (λ (t : not (within 1 (task i).period (task i).runtime) ≡ true). by_runtime (period-fits, (outside_tells (task i).period (task i).runtime).0 t))
          (λ (g : not (within 1 (task i).period (task i).runtime) ≡ false).
          ⊎_elim
          (λ (t : not (within (task i).runtime (task i).period (task i).deadline) ≡ true).
          by_deadline (period-fits, λ r. true≢false (sym ((outside_tells (task i).period (task i).runtime).1 r.1) ∙ g), (outside (task i).runtime (task i).period (task i).deadline).0 t))
          (λ (h : not (within (task i).runtime (task i).period (task i).deadline) ≡ false).
          absurd (some (ap (λ (a : Answer). a.number) (choose_no _ _ _ f ∙ choose_no _ _ _ g ∙ choose_no _ _ _ h) ∙ none_number)))
          (bool_cases (not (within (task i).runtime (task i).period (task i).deadline))))
          (bool_cases (not (within 1 (task i).period (task i).runtime))))
          (bool_cases (not (within 1 4096 (task i).period)))

  -- the task that a rule names is the first that is found
  named_first : (number : ℕ) (Broken : Task → Type 0) → ((i : ℕ) → Broken (task i) → of_task l.tasks i ≡ refusal (suc number) (suc i)) → (b : Answer) → Breaks (naming (suc number) (FirstWith l Broken)) b
      → (i : ℕ) × ((i < l.count) × ((first_found (of_task l.tasks) i).number ≡ 0) × (of_task l.tasks i ≡ b))
  named_first number Broken is b breaks =
      let h = saying_told number _ _ b breaks in
      let first = h.1.0 in
      (h.0, (first.below, (fit_before h.0).1 first.before_fit, is h.0 first.broken ∙ h.1.1))

  tasks_go : GoesBy (period_outside l then runtime_outside l then deadline_outside l then no_more) (first_found (of_task l.tasks) l.count)
  unfolding Refused
  tasks_go =
      first_goes _ (of_task l.tasks) l.count refused_task
      (λ b R.
      ⊎_elim (named_first 2 (PeriodOutside l) three b)
      (λ rest.
      ⊎_elim (named_first 3 (RuntimeOutside l) four b)
      (λ more. ⊎_elim (named_first 19 (DeadlineOutside l) twenty b) (λ x. absurd x.1) more.1)
      rest.1)
      R)

  clash_refuses : (task reached period : ℕ) → Refuses 5 (clash task reached period)
  unfolding clash
  clash_refuses task reached period = record { number_is = refl; cycle_0 = refl; jobs_0 = refl }

  -- 5 and 6: a running number above a bound
  running_goes : (q : ℕ → ℕ) (bound m : ℕ) (says : ℕ → Answer) → ((i : ℕ) → Refuses m (says i))
      → GoesBy (saying (suc m) says (FirstAbove l q bound) then no_more) (first_found (λ i. choose (ltb bound (q (suc i))) (says i) none) l.count)
  unfolding Refused
  running_goes q bound m says refuses =
      first_goes _ find l.count
      (λ i li before some.
      ⊎_elim
      (λ (within : q (suc i) ≤ bound). absurd (some ((test i).1 within)))
      (λ (above : bound < q (suc i)).
      inl (subst (Breaks (saying (suc m) says (FirstAbove l q bound))) (sym (choose_yes _ _ _ (lt-ltb bound (q (suc i)) above)))
      (breaks_saying m says _ i (refuses i) (record { below = li; before_within = λ j lj. (test j).0 (found_none find i before j lj); above = above }))))
      (le_or_lt (q (suc i)) bound))
      (λ b R.
      ⊎_elim
      (λ (breaks : Breaks (saying (suc m) says (FirstAbove l q bound)) b).
      let h = saying_told m _ _ b breaks in
      let first = h.1.0 in
      (h.0, (first.below, none_found find h.0 (λ j lj. (test j).1 (first.before_within j lj)), choose_yes _ _ _ (lt-ltb bound (q (suc h.0)) first.above) ∙ h.1.1)))
      (λ x. absurd x.1)
      R)
    where
      find : ℕ → Answer
      find i = choose (ltb bound (q (suc i))) (says i) none

      test : (i : ℕ) → ((find i).number ≡ 0) ↔ (q (suc i) ≤ bound)
      test i = one_test_none bound (q (suc i)) (says i) (λ z. omega (arith, (refuses i).number_is))

  found_goes : (supply : ℕ) → GoesBy (bounds_rules l supply) (found l supply)
  unfolding bounds_rules ◌and_then◌ found of_memory of_cycle
  found_goes supply =
      goes_on (no_tasks l then more_than_16 l then no_more) _ _ _ count_goes
      (λ _. goes_on (period_outside l then runtime_outside l then deadline_outside l then no_more) _ _ _ tasks_go
      (λ _. goes_on (memory_exceeds l supply then no_more) (cycle_above l then no_more) _ _ (running_goes (memory_sum l.tasks) supply 4 _ (λ i. plain_refuses 4 (suc i)))
      (λ _. running_goes (multiple l.tasks) 4096 5 _ (λ i. clash_refuses (suc i) (multiple l.tasks i) (task i).period))))

  pub bounds_go : (supply : ℕ) → GoesBy (bounds_rules l supply) (bounds_answer (bounds_of l supply))
  unfolding bounds_answer
  bounds_go supply =
      goes_as _ (found l supply) _ (found_goes supply)
      (λ z. rw (bounds_kept l supply ((nothing_found l supply).0 z)))
      (bounds_found l supply)

-- ---- refusals 7, 8 and 12
module _ (l : TaskList) (supply : ℕ) where
  abbrev judged : Answer
  judged = verdict_answer (verdict_of l supply)

  abbrev NotBounds : Type 0
  NotBounds = (found l supply).number ≡ 0

  -- within bounds, a verdict that refuses says 7, with cycle and job count 0
  late_or_not : NotBounds → (judged.number ≡ 0 → ⊥) → (judged.number ≡ 7) × (judged.cycle ≡ 0) × (judged.jobs ≡ 0) × (judged.reached ≡ 0) × (judged.period ≡ 0)
  unfolding verdict_answer refusal_answer
  late_or_not z nz =
      ⊎_elim
      (λ (h : ByBounds l supply (verdict_of l supply)). not_by_bounds l supply ((nothing_found l supply).0 z) h)
      (⊎_elim
      (λ (h : ForLateness l supply (verdict_of l supply)). rw h.is (refl, refl, refl, refl, refl))
      (λ (h : OnTimeAll l supply (verdict_of l supply)). absurd (nz (ap (λ (v : Verdict). (verdict_answer v).number) h.is))))
      (verdict_tells l supply)

  late_goes : NotBounds → GoesBy (deadline_missed l then no_more) judged
  unfolding Refused deadline_missed AllPass
  late_goes z =
      let K = (nothing_found l supply).0 z in
      record {
        only = λ nz.
            let h = late_or_not z nz in
            inl (record { number_is = h.0; not_0 = nz; broken = (late_named l supply K h.0, h.3, h.4); cycle_0 = h.1; jobs_0 = h.2 });
        always = λ b R.
            ⊎_elim
            (λ (breaks : Breaks (deadline_missed l) b).
            let late : FirstLate (plan_of l) b.task b.margin = breaks.broken.0 in
            let refused : judged.number ≡ 0 → ⊥ = λ ok. late.fails_first.fails ((accepted_exactly l supply K).0 ok late.place late.below) in
            let h = late_or_not z refused in
            let named = late_named l supply K h.0 in
            let same = fails_first_alone (plan_of l) named.place late.place named.fails_first late.fails_first in
            alike judged b (h.0 ∙ sym breaks.number_is) (named.named ∙ ap suc same ∙ sym late.named)
            (named.margin_is ∙ ap (λ (i : ℕ). sub_ℕ (given (plan_of l) (plan_of l).runtime i 0 ((plan_of l).due i)) ((plan_of l).runtime i 0)) same ∙ sym late.margin_is) (h.1 ∙ sym breaks.cycle_0) (h.2 ∙ sym breaks.jobs_0) (h.3 ∙ sym breaks.broken.1) (h.4 ∙ sym breaks.broken.2))
            (λ x. absurd x.1)
            R;
      }

  pub list_goes : GoesBy (list_rules l supply) judged
  unfolding list_rules verdict_answer verdict_of verdict_from refusal
  list_goes = goes_then (bounds_rules l supply) (deadline_missed l then no_more) (found l supply) judged (found_goes l supply) (verdict_found l supply) late_goes

  -- Building and starting refuse as the verdict does, and add a rule of their own.
  refused_kept : (room : ℕ) → (judged.number ≡ 0 → ⊥) → (fitted (verdict_of l supply) room ≡ verdict_of l supply) × (begun_answer (begun_of (verdict_of l supply) room) ≡ judged)
  unfolding fitted begun_of begun_answer verdict_answer
  refused_kept room nz = go (verdict_of l supply) nz
    where
      go : (v : Verdict) → ((verdict_answer v).number ≡ 0 → ⊥) → (fitted v room ≡ v) × (begun_answer (begun_of v room) ≡ verdict_answer v)
      go (Ok a) some = absurd (some refl)
      go (Err r) some = (refl, refl)

  pub build_goes : (old new : List ℕ) (v : Verdict) → Built l supply old new v → GoesBy (build_rules l supply (length old)) (verdict_answer v)
  unfolding build_rules fitted verdict_answer refusal_answer refusal
  build_goes old new v built =
      goes_then (list_rules l supply) (table_short l (length old) then no_more) judged _ list_goes (λ nz. ap verdict_answer (built.answer ∙ (refused_kept (length old) nz).0))
      (λ z.
      subst (GoesBy (table_short l (length old) then no_more))
      (sym (ap verdict_answer (built.answer ∙ ap (λ (x : Verdict). fitted x (length old)) (accepted_as l supply z).is) ∙ of_choice verdict_answer _ _ _))
      (goes_by_rule 7 _ _ _ refl (ltb-true (length old) (cycle_of l)) (lt-ltb (length old) (cycle_of l))))

  pub start_goes : (asked : Option Mode) (clock : ℕ) (log log' : List ℕ) (r : Started) → Begins l supply asked clock log log' r → GoesBy (start_rules l supply (length log)) (begun_answer r.answer)
  unfolding start_rules begun_of begun_answer refusal_answer refusal none
  start_goes asked clock log log' r begins =
      goes_then (list_rules l supply) (log_short_for l (length log) then no_more) judged _ list_goes (λ nz. ap begun_answer begins.answer ∙ (refused_kept (length log) nz).1)
      (λ z.
      subst (GoesBy (log_short_for l (length log) then no_more))
      (sym (ap begun_answer (begins.answer ∙ ap (λ (x : Verdict). begun_of x (length log)) (accepted_as l supply z).is) ∙ of_choice begun_answer _ _ _))
      (goes_by_rule 11 _ _ _ refl (ltb-true (length log) (jobs_of l)) (lt-ltb (length log) (jobs_of l))))

-- ---- refusals 9 to 14
-- what names nobody
abbrev Unnamed : Answer → Type 0
Unnamed a = refusal a.number 0 ≡ a

unnamed_none : Unnamed none
unfolding none refusal
unnamed_none = refl

unnamed : (n : ℕ) → Unnamed (refusal n 0)
unfolding refusal
unnamed n = refl

-- two tests of which one holds
either_tells : (a b c d : ℕ) → ((ltb a b || ltb c d) ≡ true) ↔ ((a < b) ⊎ (c < d))
either_tells a b c d = (
  λ e. ⊎_elim (λ (t : ltb a b ≡ true). inl (ltb-true a b t)) (λ (f : ltb a b ≡ false). inr (ltb-true c d (rw f at e))) (bool_cases (ltb a b)),
  λ h. ⊎_elim (λ (t : a < b). rw (lt-ltb a b t)) (λ (t : c < d). rw (lt-ltb c d t, or-true)) h,
)

module _ (s : State) (table : List ℕ) where
  sound_goes : GoesBy (not_sound s table then no_more) (of9 s)
  unfolding of9
  sound_goes =
      goes_unless 8 _ (sound s) (λ f S. true≢false (sym ((sound_tells s).1 S) ∙ f))
      (λ un. ⊎_elim (λ (t : sound s ≡ true). absurd (un ((sound_tells s).0 t))) (λ f. f) (bool_cases (sound s)))

  over_goes : GoesBy (run_over s table then no_more) (of10 s)
  unfolding of10
  over_goes = goes_by_rule 9 _ _ none none_number (eqb-true s.position s.cycle) (eq-eqb s.position s.cycle)

  entry_goes : (m : Mode) → GoesBy (rule 11 ((m ≡ Table) × ((length table < s.cycle) ⊎ (s.count < get_or table s.position 0))) then no_more) (of11_by m s table)
  unfolding of11_by choose
  entry_goes Table = goes_by_rule 10 _ _ none none_number (λ t. (refl, (either_tells _ _ _ _).0 t)) (λ h. (either_tells _ _ _ _).1 h.1)
  entry_goes Filling = goes_by_rule 10 _ false none none_number (λ e. absurd (true≢false (sym e))) (λ h. let other = h.0 in let z : ◌≡◌ {A = ℕ} 0 1 = cc in absurd (omega arith))

  who_found_goes : GoesBy (who_rules s table) (who_found s table)
  unfolding who_rules ◌and_then◌ who_found of11
  who_found_goes = goes_on (not_sound s table then no_more) _ _ _ sound_goes (λ _. goes_on (run_over s table then no_more) (no_entry_rule s table then no_more) _ _ over_goes (λ _. entry_goes s.mode))

  entry_unnamed : (m : Mode) → Unnamed (of11_by m s table)
  unfolding of11_by
  entry_unnamed Table = choose_either Unnamed _ _ _ (unnamed 11) unnamed_none
  entry_unnamed Filling = unnamed_none

  who_unnamed : Unnamed (who_found s table)
  unfolding who_found of9 of10 of11 ◌or_else◌
  who_unnamed =
      choose_either Unnamed _ _ _ (choose_either Unnamed _ _ _ (entry_unnamed s.mode) (choose_either Unnamed _ _ _ (unnamed 10) unnamed_none)) (choose_either Unnamed _ _ _ unnamed_none (unnamed 9))

  pub who_goes : GoesBy (who_rules s table) (runner_answer (who_of s table))
  unfolding who_of answered unless_refused of_entry runner_answer none refusal
  who_goes = goes_as _ (who_found s table) _ who_found_goes (told_none _ _) (λ nz. told_refused _ _ (who_found_is s table) nz ∙ who_unnamed)
    where
      told_none : (n e : ℕ) → n ≡ 0 → (runner_answer (answered n e)).number ≡ 0
      told_none zero zero z = refl
      told_none zero (suc i) z = refl
      told_none (suc n) e z = absurd (omega arith)

      told_refused : (n e : ℕ) → IsFound n → (n ≡ 0 → ⊥) → runner_answer (answered n e) ≡ refusal n 0
      told_refused zero e f nz = absurd (nz refl)
      told_refused (suc n) e f nz = ap (λ (x : ℕ). refusal x 0) (some_back n f)

-- The next reading is the one that follows, in 32 bits.
next_follows : (last clock : ℕ) → last ≤ 4294967295 → clock ≡ next_clock last → Follows last clock
unfolding next_clock
next_follows last clock u32 e =
    ⊎_elim
    (λ (end : 4294967295 ≤ last).
    let full : last ≡ 4294967295 = omega arith in
    subst (λ (x : ℕ). Follows x clock) (sym full) (subst (Follows 4294967295) (sym (e ∙ ap next_clock full)) wraps))
    (λ (l : last < 4294967295). subst (Follows last) (omega (arith, e, mod-eq_of_lt {n = last + 1} {m = 4294967296} (omega arith))) (one_more l))
    (le_or_lt 4294967295 last)

follows_next : (last clock : ℕ) → Follows last clock → clock ≡ next_clock last
unfolding next_clock
follows_next last clock (one_more l) = omega (arith, mod-eq_of_lt {n = last + 1} {m = 4294967296} (omega arith))
follows_next last clock wraps = refl

module _ (s : State) (table : List ℕ) (clock report : ℕ) (log : List ℕ) where
  clock_goes : s.clock ≤ 4294967295 → GoesBy (clock_wrong s table clock then no_more) (of13 s clock)
  unfolding of13
  clock_goes u32 =
      goes_unless 12 _ (eqb clock (next_clock s.clock)) (λ f so. eqb-false clock (next_clock s.clock) f (follows_next s.clock clock so))
      (λ wrong. ne_eqb clock (next_clock s.clock) (λ e. wrong (next_follows s.clock clock u32 e)))

  report_goes : GoesBy (report_wrong s table report then no_more) (of14 (running s table) report)
  unfolding of14
  report_goes =
      goes_by_rule 13 _ _ none none_number
      (λ t.
      ⊎_elim
      (λ (h : ltb 1 report ≡ true). inl (ltb-true 1 report h))
      (λ (f : ltb 1 report ≡ false). let h = (both_true _ _).0 (rw f at t) in inr (eqb-true report 1 h.0, eqb-true (running s table) 0 h.1))
      (bool_cases (ltb 1 report)))
      (λ h.
      ⊎_elim
      (λ (above : 1 < report). rw (lt-ltb 1 report above))
      (λ (idle : (report ≡ 1) × (running s table ≡ 0)). rw (eq-eqb report 1 idle.0, eq-eqb (running s table) 0 idle.1) (or-true (ltb 1 report)))
      h)

  step_found_goes : s.clock ≤ 4294967295 → GoesBy (step_rules s table clock report log) (step_found s table clock report log)
  unfolding step_rules ◌and_then◌ step_found of12
  step_found_goes u32 =
      goes_on (who_rules s table) _ _ _ (who_found_goes s table)
      (λ _. goes_on (log_short s table log then no_more) _ _ _ (goes_by_rule 11 _ _ none none_number (ltb-true (length log) (job_count s)) (lt-ltb (length log) (job_count s)))
      (λ _. goes_on (clock_wrong s table clock then no_more) (report_wrong s table report then no_more) _ _ (clock_goes u32) (λ _. report_goes)))

  step_unnamed : Unnamed (step_found s table clock report log)
  unfolding step_found of12 of13 of14 ◌or_else◌
  step_unnamed =
      choose_either Unnamed _ _ _
      (choose_either Unnamed _ _ _
      (choose_either Unnamed _ _ _ (choose_either Unnamed _ _ _ (unnamed 14) unnamed_none) (choose_either Unnamed _ _ _ unnamed_none (unnamed 13)))
      (choose_either Unnamed _ _ _ (unnamed 12) unnamed_none))
      (who_unnamed s table)

  pub step_goes : (log' : List ℕ) (r : Next) → Stepped s table clock report log log' r → s.clock ≤ 4294967295 → GoesBy (step_rules s table clock report log) (closed_answer r.answer)
  step_goes log' r S u32 = subst (GoesBy (step_rules s table clock report log)) (sym (ap closed_answer S.answer ∙ step_says s table clock report log ∙ step_unnamed)) (step_found_goes u32)

-- ---- refusal 17
pub runtime_goes : (micros slice tick : ℕ) → GoesBy (no_share slice tick then no_more) (slices_answer (runtime_slices micros slice tick))
unfolding runtime_slices slices_answer
runtime_goes micros slice tick =
    subst (GoesBy (no_share slice tick then no_more)) (sym (of_choice slices_answer _ _ _))
    (goes_by_rule 16 _ _ _ none_number
    (λ t. inr (leb-true slice tick t))
    (λ h. le-leb slice tick (⊎_elim (λ (z : slice ≡ 0). omega arith) (λ (no : slice ≤ tick). no) h)))

pub period_goes : (micros slice : ℕ) → GoesBy (not_whole micros slice then no_more) (slices_answer (period_slices micros slice))
unfolding period_slices slices_answer
period_goes micros slice =
    subst (GoesBy (not_whole micros slice then no_more)) (sym (of_choice slices_answer _ _ _))
    (goes_by_rule 16 _ _ _ none_number
    (λ t.
    ⊎_elim
    (λ (z : slice ≡ 0). inl z)
    (λ (nz : slice ≡ 0 → ⊥). inr (λ n e. other (sym (period_accepted n slice (omega arith)) ∙ ap (λ (m : ℕ). period_slices m slice) (sym e) ∙ choose_yes _ _ _ t)))
    (eq_or_ne slice 0))
    (λ h. ⊎_elim (λ t. t) (λ f. other (sym (choose_no _ _ _ f) ∙ period_refused micros slice h)) (bool_cases _)))
  where
    other : {A : Type 0} {n : ℕ} → Some n ≡ None → A
    other e = let z : ◌≡◌ {A = ℕ} 0 1 = cc in absurd (omega arith)

pub deadline_goes : (micros slice : ℕ) → GoesBy (no_length slice then no_more) (slices_answer (deadline_slices micros slice))
unfolding deadline_slices slices_answer
deadline_goes micros slice =
    subst (GoesBy (no_length slice then no_more)) (sym (of_choice slices_answer _ _ _))
    (goes_by_rule 16 _ _ _ none_number (eqb-true slice 0) (eq-eqb slice 0))
