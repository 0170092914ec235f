-- When asking who runs and a step are accepted, said as facts; and what is known of the task that runs.
use Rattle.std.specs.Prelude.{◌≡◌, ℕ, zero, suc, ◌+◌, ◌<◌, ◌≤◌, Bool, true, false, ◌↔◌, List, length, Result, Ok, Err, ◌==◌, ◌≢◌, nat_eq, slice_index, slice_index_or, refl}
use Rattle.std.proofs.Common.{sym, ap, ◌∙◌, ⊎_elim, inl, inr, arith, pos_of_ne-zero, ltb-false, le-ltb, eqb-true, eq-eqb, ne_eqb}
use Rattle.std.proofs.lemmas.Bool.{eqb-false}
use Rattle.basis.specs.Choose.{choose, choose_yes, choose_no, bool_cases, both_false, either_false}
use Rattle.basis.specs.Answer.{Answer, refusal, none, ◌or_else◌, passed_if, passed_unless, none_number, else_none, none_else}
use Rattle.plan.specs.Plan.{IsFirst}
use Rattle.plan.proofs.Rank.{first_law}
use Rattle.run.specs.declared.Mode.{Mode}
use Rattle.run.specs.declared.Mode.TheVariants.{Table, Filling}
use Rattle.run.specs.declared.State.{State}
use Rattle.run.specs.declared.Refusal.{Refusal}
use Rattle.run.specs.declared.Next.{Next}
use Rattle.run.specs.State.{key_of, current_of, job_of, sound, job_count}
use Rattle.run.specs.Who.{unless_ended, first_open, running_by, running, of9, of10, of11_by, of11, who_found, who_refusal, unless_refused}
use Rattle.run.specs.Step.{of12, next_clock, of13, of14, step_found, step_refusal, state_after, log_after, answer_of, next_state, next_log, state_of, SteppedIn, Stepped}
use Rattle.run.specs.Sound.{SoundState, sound_tells}

-- ---- the facts
-- The table reaches the cycle's end, and its entry at the position is idle or a task.
pub record Readable (s : State) (table : List ℕ) : Type 0 where
  pub length_from : s.cycle ≤ length table
  pub entry_to : slice_index_or table s.position 0 ≤ s.count

pub record WhoAccepted (s : State) (table : List ℕ) : Type 0 where
  pub is_sound : SoundState s
  pub not_over : s.position < s.cycle
  pub readable : s.mode ≡ Table → Readable s table

pub record StepAccepted (s : State) (table : List ℕ) (clock report : ℕ) (log : List ℕ) : Type 0 where
  pub asked : WhoAccepted s table
  pub log_from : job_count s ≤ length log
  pub clock_next : clock ≡ next_clock s.clock
  pub report_to : report ≤ 1
  pub finished_by : report ≡ 1 → 0 < running s table

-- ---- nothing found, number by number
neither : (a b : Answer) → ((a or_else b).number ≡ 0) ↔ ((a.number ≡ 0) × (b.number ≡ 0))
neither a b = (else_none a b, λ h. none_else a b h.0 h.1)

passed_alone : (b : Bool) (n : ℕ) → ((choose b (refusal (suc n) 0) none).number ≡ 0) ↔ (b ≡ false)
passed_alone b n = (λ z. ((passed_if b n 0 none).0 z).0, λ h. (passed_if b n 0 none).1 (h, none_number))

-- ---- 9 to 11
of_9_none : (s : State) → ((of9 s).number ≡ 0) ↔ SoundState s
unfolding of9
of_9_none s = (λ e. (sound_tells s).0 ((passed_unless (sound s) 8 0).0 e), λ S. (passed_unless (sound s) 8 0).1 ((sound_tells s).1 S))

of_10_none : (s : State) → ((of10 s).number ≡ 0) ↔ (s.position ≢ s.cycle)
unfolding of10
of_10_none s = (
  λ e. eqb-false s.position s.cycle ((passed_alone (s.position == s.cycle) 9).0 e),
  λ h. (passed_alone (s.position == s.cycle) 9).1 (ne_eqb s.position s.cycle h),
)

of_11_none : (m : Mode) (s : State) (table : List ℕ) → ((of11_by m s table).number ≡ 0) ↔ (m ≡ Table → Readable s table)
unfolding of11_by
of_11_none Table s table = (
  λ e _.
      let h = (either_false _ _).0 ((passed_alone _ 10).0 e) in
      record { length_from = ltb-false (length table) s.cycle h.0; entry_to = ltb-false s.count (slice_index table s.position) h.1 },
  λ R.
      (passed_alone _ 10).1 ((either_false _ _).1 (le-ltb (length table) s.cycle (R refl).length_from, le-ltb s.count (slice_index table s.position) (R refl).entry_to)),
)
of_11_none Filling s table = (λ _ e. let z : ◌≡◌ {A = ℕ} 0 1 = cc in absurd (omega arith), λ _. none_number)

pub who_accepted : (s : State) (table : List ℕ) → (who_refusal s table ≡ 0) ↔ WhoAccepted s table
unfolding who_found of11
who_accepted s table = (
  λ e.
      let a = (neither _ _).0 e in
      let b = (neither _ _).0 a.1 in
      let S = (of_9_none s).0 a.0 in
      let ne = (of_10_none s).0 b.0 in
      record { is_sound = S; not_over = omega (arith, S.position_to); readable = (of_11_none s.mode s table).0 b.1 },
  λ went. (neither _ _).1 ((of_9_none s).1 went.is_sound, (neither _ _).1 ((of_10_none s).1 (λ e. omega (arith, went.not_over)), (of_11_none s.mode s table).1 went.readable)),
)

-- ---- 12 to 14
of_12_none : (s : State) (log : List ℕ) → ((of12 s log).number ≡ 0) ↔ (job_count s ≤ length log)
unfolding of12
of_12_none s log = (λ e. ltb-false (length log) (job_count s) ((passed_alone _ 11).0 e), λ h. (passed_alone _ 11).1 (le-ltb (length log) (job_count s) h))

of_13_none : (s : State) (clock : ℕ) → ((of13 s clock).number ≡ 0) ↔ (clock ≡ next_clock s.clock)
unfolding of13
of_13_none s clock = (λ e. eqb-true clock (next_clock s.clock) ((passed_unless _ 12 0).0 e), λ h. (passed_unless _ 12 0).1 (eq-eqb clock (next_clock s.clock) h))

of_14_none : (ran report : ℕ) → ((of14 ran report).number ≡ 0) ↔ ((report ≤ 1) × (report ≡ 1 → 0 < ran))
unfolding of14
of_14_none ran report = (
  λ e.
      let h = (either_false _ _).0 ((passed_alone _ 13).0 e) in
      (ltb-false 1 report h.0, λ one. pos_of_ne-zero (eqb-false ran 0 ((both_false _ _).0 h.1 (eq-eqb report 1 one)))),
  λ h. (passed_alone _ 13).1 ((either_false _ _).1 (le-ltb 1 report h.0, (both_false (report == 1) (ran == 0)).1 (λ (t : nat_eq report 1 ≡ true). ne_eqb ran 0 (λ (z : ran ≡ 0). omega (arith, h.1 (eqb-true report 1 t)))))),
)

pub step_accepted : (s : State) (table : List ℕ) (clock report : ℕ) (log : List ℕ) → (step_refusal s table clock report log ≡ 0) ↔ StepAccepted s table clock report log
unfolding step_found
step_accepted s table clock report log = (
  λ e.
      let a = (neither _ _).0 e in
      let b = (neither _ _).0 a.1 in
      let c = (neither _ _).0 b.1 in
      let r = (of_14_none (running s table) report).0 c.1 in
      record {
        asked = (who_accepted s table).0 a.0;
        log_from = (of_12_none s log).0 b.0;
        clock_next = (of_13_none s clock).0 c.0;
        report_to = r.0;
        finished_by = r.1;
      },
  λ went.
      (neither _ _).1 (
        (who_accepted s table).1 went.asked,
        (neither _ _).1 (
          (of_12_none s log).1 went.log_from,
          (neither _ _).1 ((of_13_none s clock).1 went.clock_next, (of_14_none (running s table) report).1 (went.report_to, went.finished_by)),
        ),
      ),
)

-- ---- the answers
module _ (s : State) (table : List ℕ) where
  -- An accepted step answers so, with the state and the log as the rules say.
  pub step_answers : (clock report : ℕ) (log log' : List ℕ) (r : Next) → StepAccepted s table clock report log → Stepped s table clock report log log' r
      → (r.answer ≡ Ok tt) × (r.state ≡ state_after s (running s table) clock report) × (log' ≡ log_after s (running s table) report log)
  unfolding answer_of unless_refused next_state next_log
  step_answers clock report log log' r went S =
      let z = (step_accepted s table clock report log).1 went in
      (rw z at S.answer, rw z at S.state, rw z at S.bytes)

-- ---- in place
pub state_is : (n : ℕ) (s after : State) → (n ≢ 0) → s ≡ next_state n s after
unfolding next_state
state_is zero s after nz = absurd (nz refl)
state_is (suc n) s after nz = refl

pub accepted_none : (n : ℕ) → Ok tt ≡ answer_of n → n ≡ 0
unfolding answer_of unless_refused
accepted_none zero e = refl
accepted_none (suc n) e = cc

pub refused_some : (n : ℕ) (r : Refusal) → Err r ≡ answer_of n → n ≢ 0
unfolding answer_of unless_refused
refused_some zero r e z = cc
refused_some (suc n) r e z = omega arith

-- What a caller holds after a step in place: accepted, the position raised by one and the clock reading kept,
unfoldable pub held_after : Result (Unit {0}) Refusal → State → List ℕ → List Bool → ℕ → State
held_after (Ok done) s used ended clock = state_of s.periods s.deadlines s.runtimes used ended s.count s.cycle (s.position + 1) clock s.mode
held_after (Err r) s used ended clock = state_of s.periods s.deadlines s.runtimes used ended s.count s.cycle s.position s.clock s.mode

-- with nothing else changed but the slices used and the ends.
pub in_place : (s : State) (table : List ℕ) (clock report : ℕ) (log log' : List ℕ) (after : State) (r : Result (Unit {0}) Refusal) → SteppedIn s table clock report log log' after r
    → after ≡ held_after r s after.used after.ended clock
unfolding held_after next_state state_after
in_place s table clock report log log' after (Ok done) S =
    let none : step_refusal s table clock report log ≡ 0 = accepted_none _ S.answer in
    let is = rw none at S.state in
    rw is
in_place s table clock report log log' after (Err r) S =
    let is = S.state ∙ sym (state_is _ s (state_after s (running s table) clock report) (refused_some _ r S.answer)) in
    rw is

-- ---- who runs
-- Whoever runs is a task of the state, and its job has not ended.
pub record RunsIn (s : State) (i : ℕ) : Type 0 where
  pub below : i < s.count
  pub job_open : (job_of s i).ended ≡ false

-- 1 where the job has not ended, and what that tells
wants_open : (ended : Bool) → 0 < choose ended 0 1 → ended ≡ false
unfolding choose
wants_open true p = absurd (omega arith)
wants_open false p = refl

first_runs : (s : State) (e i : ℕ) → IsFirst (λ i. key_of s i (current_of s i)) (λ i. choose (job_of s i).ended 0 1) s.count e → e ≡ suc i → RunsIn s i
unfolding IsFirst
first_runs s e i (inl h) q = absurd (omega arith)
first_runs s e i (inr h) q =
    let same : h.task ≡ i = omega arith in
    record { below = omega arith; job_open = ap (λ (x : ℕ). (job_of s x).ended) (sym same) ∙ wants_open (job_of s h.task).ended h.wanting }

entry_runs : (s : State) (e i : ℕ) → e ≤ s.count → unless_ended s e ≡ suc i → RunsIn s i
unfolding unless_ended
entry_runs s zero i l q = absurd (omega arith)
entry_runs s (suc j) i l q =
    ⊎_elim
    (λ (t : (job_of s j).ended ≡ true). absurd (omega (arith, choose_yes (job_of s j).ended 0 (suc j) t)))
    (λ (f : (job_of s j).ended ≡ false).
    let same : j ≡ i = omega (arith, choose_no (job_of s j).ended 0 (suc j) f) in
    record { below = omega arith; job_open = ap (λ (x : ℕ). (job_of s x).ended) (sym same) ∙ f })
    (bool_cases (job_of s j).ended)

mode_runs : (m : Mode) (s : State) (table : List ℕ) → (m ≡ Table → Readable s table) → (i : ℕ) → running_by m s table ≡ suc i → RunsIn s i
unfolding running_by first_open
mode_runs Table s table R i q = entry_runs s (slice_index table s.position) i (R refl).entry_to q
mode_runs Filling s table R i q = first_runs s _ i (first_law (λ i. key_of s i (current_of s i)) (λ i. choose (job_of s i).ended 0 1) s.count) q

module _ (s : State) (table : List ℕ) (went : WhoAccepted s table) where
  pub who_runs : (i : ℕ) → running s table ≡ suc i → RunsIn s i
  unfolding running
  who_runs i q = mode_runs s.mode s table went.readable i q

  pub running_to : running s table ≤ s.count
  running_to = go (running s table) refl
    where
      go : (e : ℕ) → running s table ≡ e → e ≤ s.count
      go zero q = omega arith
      go (suc i) q = (who_runs i q).below
