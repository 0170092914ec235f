-- What a step comes to at each way out, as laws over plain values.
use Rattle.std.proofs.Common.{◌≡◌, ℕ, zero, suc, ◌+◌, ◌-◌, ◌<◌, ◌≤◌, Bool, false, ◌==◌, List, length, Option, Some, None, is_none, Ok, Err, ◌≢◌, sym, refl, ap, ◌∙◌, add-one, arith, eq-eqb, ne_eqb}
use Rattle.basis.specs.Bytes.{at}
use Rattle.basis.specs.Answer.{Answer, else_found, else_kept, refusal, none, ◌or_else◌, number_if, number_unless}
use Rattle.basis.specs.Choose.{choose, of_choice}
use Rattle.run.specs.declared.ask.Asked.{Asked}
use Rattle.run.specs.declared.Refusal.{Refusal}
use Rattle.run.specs.declared.State.{State}
use Rattle.run.specs.State.{period_of, job_of, job_count, place}
use Rattle.run.specs.Places.{place_within}
use Rattle.run.specs.Who.{who_found, who_refusal, running, unless_refused, of_entry}
use Rattle.run.specs.Step.{of12, of13, of14, result_of, with_result, step_found, step_refusal, log_after, answer_of, next_state, next_log, SteppedIn}
use Rattle.run.specs.Accepted.{WhoAccepted, StepAccepted, step_accepted, state_is, who_runs, running_to}
use Rattle.run.specs.LogAfter.{result-length}
use Rattle.run.specs.Shapes.{asked_of, twelve_on, Serves, served_one, served, Turns, turned, late_at, renewed, late_up_to, gone_on}
use Rattle.run.proofs.Turns.{entry_of_some}
use Rattle.run.proofs.Asking.{refused_by, refused_too, passed_by}
use Rattle.run.proofs.Served.{place_kept, period_kept, count_kept, position_kept, position_still, period_still, place_still, late_long, late_served, state_served}

-- ---- the task that ran, if any
pub some_task : (e task : ℕ) → Some task ≡ of_entry e → 1 ≤ task
some_task e task q = (entry_of_some e task q).1

pub serves_task : (s : State) (log : List ℕ) (ran : Option ℕ) → Serves s log ran → (task : ℕ) → ran ≡ Some task → (task - 1 < 16) × (at s.used (task - 1) ≤ 4096) × (place s (task - 1) < length log)
serves_task s log ran S task e =
    let h = entry_of_some S.entry task (sym e ∙ S.is) in
    let is : S.entry ≡ suc (task - 1) = omega (arith, h) in
    (omega (arith, S.task_to, h), S.used_to (task - 1) is, S.within (task - 1) is)

module _ (s : State) (report : ℕ) (log : List ℕ) where
  pub serves_one : (e task : ℕ) → Some task ≡ of_entry e → (after : State) (log' : List ℕ) → (after ≡ served_one s (task - 1) report) × (log' ≡ result_of s (task - 1) report log)
      → (after ≡ served s e report) × (log' ≡ with_result s e report log)
  unfolding of_entry served with_result
  serves_one zero task q after log' h = cc
  serves_one (suc i) task q after log' h = let is : task - 1 ≡ i = omega (arith, entry_of_some (suc i) task q) in rw is at h

  pub serves_none : (e : ℕ) → None ≡ of_entry e → (s ≡ served s e report) × (log ≡ with_result s e report log)
  unfolding of_entry served with_result
  serves_none zero q = (refl, refl)
  serves_none (suc i) q = cc

-- ---- refused
log_is : (n : ℕ) (log after : List ℕ) → (n ≢ 0) → log ≡ next_log n log after
unfolding next_log
log_is zero log after nz = absurd (nz refl)
log_is (suc n) log after nz = refl

-- Refusals 12 to 14 in a row, by number.
in_a_row : (a b c : Bool) → choose a 12 (choose b (choose c 14 0) 13) ≡ (choose a (refusal 12 0) none or_else choose b none (refusal 13 0) or_else choose c (refusal 14 0) none).number
unfolding refusal none
in_a_row a b c = sym (number_if a 11 _ ∙ ap (choose a 12) (number_unless b 12 _ ∙ ap (λ (x : ℕ). choose b x 13) (of_choice (λ (x : Answer). x.number) c (refusal 14 0) none)))

idle_is : (e : ℕ) → is_none (of_entry e) ≡ (e == 0)
unfolding of_entry
idle_is zero = sym (eq-eqb 0 0 refl)
idle_is (suc i) = sym (ne_eqb (suc i) 0 (λ z. omega arith))

-- A step that nothing refuses, and who ran in its slice.
pub record Passed (s : State) (table : List ℕ) (clock report : ℕ) (log : List ℕ) (ran : Option ℕ) : Type 0 where
  pub accepted : StepAccepted s table clock report log
  pub ran_is : ran ≡ of_entry (running s table)

module _ (s : State) (table : List ℕ) (clock report : ℕ) (log : List ℕ) where
  refused_step : (n : ℕ) (r : Refusal) → n ≡ step_refusal s table clock report log → (n ≢ 0) → Err r ≡ answer_of n → SteppedIn s table clock report log log s (Err r)
  refused_step n r e nz er = record {
    answer = er ∙ ap answer_of e;
    state = rw (← e) (state_is n s _ nz);
    bytes = rw (← e) (log_is n log _ nz);
  }

  -- Refusals 9 to 11 come first,
  pub step_not_asked : (r : Refusal) → asked_of s table ≡ Err r → SteppedIn s table clock report log log s (Err r)
  unfolding asked_of answer_of step_found
  step_not_asked r e =
      let nz = refused_by (who_refusal s table) _ r e in
      refused_step (who_refusal s table) r (sym (ap (λ (a : Answer). a.number) (else_kept (who_found s table) _ nz))) nz (refused_too (who_refusal s table) _ tt r e)

  -- then those from 12 on,
  module _ (a : Asked) (who : asked_of s table ≡ Ok a) where
    abbrev found : ℕ
    found = twelve_on a.jobs (length log) s.clock clock (is_none a.ran) report

    told : (who_refusal s table ≡ 0) × (record { jobs = job_count s; ran = of_entry (running s table) } ≡ a)
    unfolding asked_of
    told = passed_by (who_refusal s table) _ a who

    found_is : found ≡ step_refusal s table clock report log
    unfolding step_found twelve_on of12 of13 of14
    found_is =
        rw (← told.1, idle_is (running s table)) (in_a_row _ _ _) ∙ sym (ap (λ (a : Answer). a.number) (else_found (who_found s table) _ told.0))

    pub step_refused : (r : Refusal) → answer_of found ≡ Err r → SteppedIn s table clock report log log s (Err r)
    unfolding answer_of
    step_refused r e = refused_step found r found_is (refused_by found _ r e) (sym e)

    -- and what is not refused is done.
    pub passes : (done : Unit {0}) → answer_of found ≡ Ok done → Passed s table clock report log a.ran
    unfolding answer_of
    passes done e = record {
      accepted = (step_accepted s table clock report log).0 (sym found_is ∙ (passed_by found _ done e).0);
      ran_is = sym (ap (λ (x : Asked). x.ran) told.1);
    }

-- ---- closed
-- What the loop over the tasks takes: their jobs have places in the log.
pub record Closes (s : State) (log : List ℕ) : Type 0 where
  pub count_within : s.count ≤ 16
  pub position_to : s.position ≤ 4096
  pub period_from : (i : ℕ) → i < s.count → 1 ≤ period_of s i
  pub within : (i : ℕ) → i < s.count → place s i < length log

pub turns : (t : State) (log : List ℕ) (i : ℕ) → Closes t log → i < t.count → Turns (renewed t i) (late_up_to t log i) i
turns t log i C l = record {
  task_to = omega (arith, C.count_within);
  period_from = omega (arith, C.period_from i l, period_still t i i);
  position_to = omega (arith, C.position_to, position_still t i);
  within = omega (arith, C.within i l, place_still t i i, late_long t log i);
}

module _ (t : State) (i : ℕ) (now : State) (is : now ≡ renewed t i) where
  pub renewed_next : (next : State) → next ≡ turned now i → next ≡ renewed t (i + 1)
  unfolding renewed
  renewed_next next e = rw (add-one, ← is) e

  pub late_next : (old log next : List ℕ) → log ≡ late_up_to t old i → next ≡ late_at now i log → next ≡ late_up_to t old (i + 1)
  unfolding late_up_to
  late_next old log next el e = rw (add-one, ← is, ← el) e

module _ (s : State) (table : List ℕ) (clock report : ℕ) (log : List ℕ) (ran : Option ℕ) (P : Passed s table clock report log ran) where
  abbrev asked : WhoAccepted s table
  asked = P.accepted.asked

  job_open : (k : ℕ) → running s table ≡ suc k → (job_of s k).ended ≡ false
  job_open k e = (who_runs s table asked k e).job_open

  count_within : s.count ≤ 16
  count_within = asked.is_sound.count_within

  within_log : (i : ℕ) → i < s.count → place s i < length log
  within_log i l = omega (arith, place_within s asked.is_sound asked.not_over i l, P.accepted.log_from)

  pub serves : Serves s log ran
  unfolding job_of
  serves = record {
    entry = running s table;
    is = P.ran_is;
    task_to = omega (arith, running_to s table asked, count_within);
    used_to = λ i e.
        let T = asked.is_sound.tasks_sound i (who_runs s table asked i e).below in
        omega (arith, T.used_to, T.runtime_to, T.period_to);
    within = λ i e. within_log i (who_runs s table asked i e).below;
  }

  module _ (begun : State) (marked : List ℕ) (is : (begun ≡ served s (running s table) report) × (marked ≡ with_result s (running s table) report log)) where
    pub closing : Closes begun marked
    closing = rw (is.0, is.1) (record {
      count_within = omega (arith, count_within, count_kept s report (running s table));
      position_to = omega (arith, position_kept s report (running s table), asked.not_over, asked.is_sound.cycle_to);
      period_from = λ i l. omega (arith, period_kept s report (running s table) i, (asked.is_sound.tasks_sound i (omega (arith, count_kept s report (running s table)))).period_from);
      within = λ i l. omega (arith, place_kept s report (running s table) i, within_log i (omega (arith, count_kept s report (running s table))), result-length s report log (running s table));
    })

    pub length_still : (i : ℕ) (late : List ℕ) → late ≡ late_up_to begun marked i → length late ≡ length log
    length_still i late el = ap length el ∙ late_long begun marked i ∙ ap length is.1 ∙ result-length s report log (running s table)

    pub step_done : length s.ended ≡ 16 → (i : ℕ) (after : State) (late : List ℕ) → i ≡ begun.count → after ≡ renewed begun i → late ≡ late_up_to begun marked i
        → SteppedIn s table clock report log late (gone_on after clock) (Ok tt)
    unfolding answer_of unless_refused next_state next_log log_after
    step_done long i after late ei ea el =
        let none : step_refusal s table clock report log ≡ 0 = (step_accepted s table clock report log).1 P.accepted in
        let all : i ≡ s.count = ei ∙ ap (λ (x : State). x.count) is.0 ∙ count_kept s report (running s table) in
        record {
          answer = rw none;
          state = rw (none, ea, all, is.0) (state_served s report (running s table) job_open (running_to s table asked) clock);
          bytes = rw (none, el, all, is.0, is.1) (late_served s report (running s table) job_open _ s.count (omega (arith, count_within)));
        }
