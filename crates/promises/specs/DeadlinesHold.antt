-- Lists and states whose deadlines are the periods are as they were.
use Rattle.std.specs.Prelude.{◌≡◌, true, false, not, ◌||◌, List, ◌↔◌, ℕ, suc, ◌≤◌, ◌<◌, Result, Ok, Err}
use Rattle.std.proofs.Math.Path.{sym, ap, subst}
use Rattle.std.proofs.Common.{◌∙◌, true≢false, eq-eqb, arith}
use Rattle.std.proofs.Math.Bool.{or-false}
use Rattle.std.proofs.Math.Logic.{⊎_elim}
use Rattle.std.proofs.Math.Nat.{mod-lt}
use Rattle.std.proofs.Math.Dec.{eqb}
use Rattle.std.proofs.lemmas.Bool.{not-false}
use Rattle.basis.specs.Choose.{choose, choose_yes, choose_no, of_choice, bool_cases, within, within_tells, is_within}
use Rattle.basis.specs.Bytes.{overwrite}
use Rattle.basis.specs.Answer.{Answer, refusal, ◌or_else◌, first_found}
use Rattle.plan.specs.Plan.{Plan, table}
use Rattle.plan.specs.Points.{first_without}
use Rattle.tasks.specs.declared.TaskList.{TaskList}
use Rattle.tasks.specs.List.{task_at, plan_of}
use Rattle.tasks.specs.Refusal.{bound_refusal, unless_broken}
use Rattle.tasks.specs.Bounds.{of_count, of_numbers, of_task, of_memory, of_cycle, found, answer, bounds_of, cycle_of, jobs_of}
use Rattle.quick.specs.declared.Refused.{Refused}
use Rattle.quick.specs.Quick.{named, tried, quick_from, quick_of}
use Rattle.tasks.proofs.Kept.{Said, found_said}
use Rattle.verdict.specs.declared.Accepted.{Accepted}
use Rattle.verdict.specs.Lateness.{lateness}
use Rattle.verdict.specs.Verdict.{judged, verdict_from, verdict_of}
use Rattle.verdict.specs.Table.{tabled, Built}
use Rattle.run.specs.declared.State.{State}
use Rattle.run.specs.State.{fresh, period_of, age_of, deadline_next, release_next}
use Rattle.run.specs.Sound.{SoundState}
use Rattle.run.specs.Step.{after_slice, closed_at, job_after}
use Rattle.promises.specs.Deadlines.{rate_monotonic, of_pair, found_before, verdict_before, quick_before, SoundBefore, AtPeriods, StateAtPeriods, Deadlines}

-- ---- lists
-- A deadline at the period is refused by none of the bounds that the run-time keeps.
at_the_period : (period runtime task : ℕ) → of_numbers period runtime period task ≡ of_pair period runtime task
unfolding of_numbers of_pair
at_the_period period runtime task =
    ap (choose (not (within 1 4096 period)) (refusal 3 task))
    (⊎_elim
    (λ (t : not (within 1 period runtime) ≡ true). choose_yes _ _ _ t ∙ sym (choose_yes _ _ _ t))
    (λ (f : not (within 1 period runtime) ≡ false).
    let fits = within_tells 1 period runtime (not-false _ f) in
    ap (choose (not (within 1 period runtime)) (refusal 4 task)) (choose_no _ _ _ (ap not (is_within runtime period period fits.1 (omega arith)))))
    (bool_cases (not (within 1 period runtime))))

module _ (l : TaskList) (at : AtPeriods l) where
  plan_as_before : plan_of l ≡ rate_monotonic l
  unfolding plan_of rate_monotonic
  plan_as_before j =
      record {
        count = l.count;
        period = λ i. (task_at l.tasks i).period;
        due = λ i. at i j;
        runtime = λ i k. (task_at l.tasks i).runtime;
        key = λ i k. at i j;
      }

  task_as_before : (i : ℕ) → of_task l.tasks i ≡ of_pair (task_at l.tasks i).period (task_at l.tasks i).runtime (suc i)
  unfolding of_task
  task_as_before i = ap (λ (d : ℕ). of_numbers (task_at l.tasks i).period (task_at l.tasks i).runtime d (suc i)) (at i) ∙ at_the_period _ _ _

  found_as_before : (supply : ℕ) → found l supply ≡ found_before l supply
  unfolding found found_before
  found_as_before supply j =
      of_count l.count
      or_else first_found (λ i. task_as_before i j) l.count
      or_else first_found (of_memory l.tasks supply) l.count
      or_else first_found (of_cycle l.tasks) l.count

  said_as_before : (supply : ℕ) → Said (found_before l supply)
  said_as_before supply = subst Said (found_as_before supply) (found_said l supply)

  -- the bounds' answer by what is found
  bounds_as_before : (supply : ℕ) → bounds_of l supply ≡ answer (found_before l supply) (cycle_of l) (jobs_of l)
  unfolding bounds_of
  bounds_as_before supply = ap (λ (f : Answer). answer f (cycle_of l) (jobs_of l)) (found_as_before supply)

  verdict_as_before : (supply : ℕ) → verdict_of l supply ≡ verdict_before l supply
  unfolding verdict_of verdict_from verdict_before answer unless_broken
  verdict_as_before supply =
      ap (verdict_from l) (bounds_as_before supply) ∙ of_choice (verdict_from l) (eqb (found_before l supply).number 0) _ _
      ∙ ap (λ (P : Plan). choose (eqb (found_before l supply).number 0) (judged P (cycle_of l) (jobs_of l) (lateness P (cycle_of l))) (Err (bound_refusal (found_before l supply)))) plan_as_before

  -- where something is found, its number and task are named
  named_as_before : (f : Answer) → Said f → (passed : Result (Unit {0}) Refused) → choose (eqb f.number 0) passed (Err (named (bound_refusal f))) ≡ choose (eqb f.number 0) passed (Err (record { number = f.number; task = f.task }))
  unfolding named
  named_as_before f said passed =
      ⊎_elim
      (λ (t : eqb f.number 0 ≡ true). choose_yes _ _ _ t ∙ sym (choose_yes _ _ _ t))
      (λ (n : eqb f.number 0 ≡ false). ap (λ (a : Answer). choose (eqb f.number 0) passed (Err (record { number = a.number; task = a.task }))) (said (λ z. true≢false (sym (eq-eqb _ _ z) ∙ n))))
      (bool_cases (eqb f.number 0))

  quick_as_before : (supply : ℕ) → quick_of l supply ≡ quick_before l supply
  unfolding quick_of quick_from quick_before answer unless_broken
  quick_as_before supply =
      ap (quick_from l) (bounds_as_before supply) ∙ of_choice (quick_from l) (eqb (found_before l supply).number 0) _ _
      ∙ ap (λ (P : Plan). choose (eqb (found_before l supply).number 0) (tried (first_without P)) (Err (named (bound_refusal (found_before l supply))))) plan_as_before
      ∙ named_as_before (found_before l supply) (said_as_before supply) (tried (first_without (rate_monotonic l)))

  table_as_before : (supply : ℕ) (old new : List ℕ) (a : Accepted) → Built l supply old new (Ok a) → new ≡ overwrite (table (rate_monotonic l)) a.cycle old
  unfolding tabled
  table_as_before supply old new a B = B.bytes ∙ ap (λ (P : Plan). overwrite (table P) a.cycle old) plan_as_before

-- ---- states
module _ (s : State) (at : StateAtPeriods s) where
  late_as_before : (i : ℕ) → deadline_next s i ≡ release_next s i
  unfolding deadline_next release_next
  late_as_before i = ap (λ (x : ℕ). eqb (suc (age_of s i)) x) (at i)

  job_as_before : (ran report i : ℕ) → job_after s ran report i ≡ choose (release_next s i) fresh (after_slice s ran report i)
  unfolding job_after closed_at
  job_as_before ran report i =
      ⊎_elim
      (λ (t : release_next s i ≡ true). choose_yes _ _ _ t ∙ sym (choose_yes _ _ _ t))
      (λ (f : release_next s i ≡ false).
      ap (choose (release_next s i) fresh) (ap (λ b. record { used = (after_slice s ran report i).used; ended = b }) (ap (λ b. (after_slice s ran report i).ended || b) (late_as_before i ∙ f) ∙ or-false (after_slice s ran report i).ended)))
      (bool_cases (release_next s i))

  sound_as_before : SoundState s ↔ SoundBefore s
  unfolding age_of
  sound_as_before = (
    λ S. record {
      count_from = S.count_from;
      count_within = S.count_within;
      cycle_from = S.cycle_from;
      cycle_to = S.cycle_to;
      position_to = S.position_to;
      period_from = λ i l. (S.tasks_sound i l).period_from;
      period_to = λ i l. (S.tasks_sound i l).period_to;
      period_divides = λ i l. (S.tasks_sound i l).period_divides;
      runtime_from = λ i l. (S.tasks_sound i l).runtime_from;
      runtime_to = λ i l. (S.tasks_sound i l).runtime_to;
      used_to = λ i l. (S.tasks_sound i l).used_to;
      used_below = λ i l. (S.tasks_sound i l).used_below;
    },
    λ B. record {
      count_from = B.count_from;
      count_within = B.count_within;
      cycle_from = B.cycle_from;
      cycle_to = B.cycle_to;
      position_to = B.position_to;
      tasks_sound = λ i l. record {
        period_from = B.period_from i l;
        period_to = B.period_to i l;
        period_divides = B.period_divides i l;
        runtime_from = B.runtime_from i l;
        runtime_to = B.runtime_to i l;
        due_from = omega (arith, at i, B.runtime_to i l);
        due_to = omega (arith, at i);
        used_to = B.used_to i l;
        used_below = B.used_below i l;
        open_before = λ _. omega (arith, at i, young i (B.period_from i l));
      };
    },
  )
    where
      -- no job is older than its period
      young : (i : ℕ) → 1 ≤ period_of s i → age_of s i < period_of s i
      young i p = mod-lt s.position p

-- ---- so it holds
pub deadlines_hold : Deadlines
deadlines_hold = record {
  plan_as_before = plan_as_before;
  verdict_as_before = verdict_as_before;
  quick_as_before = quick_as_before;
  table_as_before = table_as_before;
  said_as_before = said_as_before;
  sound_as_before = sound_as_before;
  rank_as_before = λ s at i k. at i;
  late_as_before = late_as_before;
  job_as_before = job_as_before;
}
