-- Demand 1 holds: the proof of the statement in Demand1. (That every call goes by its rules is RefusalsHold.)
use Rattle.std.specs.Prelude.{◌≡◌, Bool, ◌||◌, List, ◌↔◌, ltb, eqb, length, replicate, Option, Result, Some, None, Ok, Err}
use Rattle.std.proofs.Math.Path.{refl, ap, subst}
use Rattle.std.proofs.Common.{sym, ap₂, ◌∙◌, true≢false, ⊎_elim, inl, inr, arith, suc-mul, eq-eqb, ne_eqb}
use Rattle.std.proofs.Math.Bool.{true, false, or-true}
use Prim.Native.Nat.{ℕ, zero, suc, ◌+◌, ◌*◌, ◌≤◌, ◌<◌}
use Rattle.basis.specs.Choose.{choose, choose_yes, choose_no, bool_cases, eq_or_ne}
use Rattle.basis.specs.Answer.{Answer, refusal, none}
use Rattle.basis.specs.Bytes.{at, overwrite, overwrite-length, overwrite_at, overwrite_kept}
use Rattle.plan.specs.Plan.{IsFirst}
use Rattle.plan.proofs.Rank.{first_law, not_before_key, not_before_place}
use Rattle.tasks.specs.declared.Task.{Task}
use Rattle.tasks.specs.declared.TaskList.{TaskList}
use Rattle.tasks.specs.declared.refusals.Refusal.{Refusal}
use Rattle.tasks.specs.List.{task_at, plan_of}
use Rattle.tasks.specs.Bounds.{jobs_of}
use Rattle.verdict.specs.Verdict.{Verdict, verdict_of, verdict_answer}
use Rattle.verdict.specs.Table.{tabled, Built}
use Rattle.start.specs.declared.Started.{Started}
use Rattle.start.specs.Start.{mode_of, start_state, no_run, begun_of, begun_state, begun_log, Begins, begun_answer}
use Rattle.run.specs.declared.Mode.{Mode}
use Rattle.run.specs.declared.Mode.TheVariants.{Table, Filling}
use Rattle.run.specs.declared.State.{State}
use Rattle.run.specs.declared.Next.{Next}
use Rattle.run.specs.State.{Job, fresh, period_of, key_of, runtime_of, current_of, job_of, deadline_next, release_next, due_of}
use Rattle.run.specs.Places.{deadline_next_tells, release_next_tells}
use Rattle.run.specs.Who.{unless_ended, first_open, running_by, running, who_refusal, unless_refused, of_entry, answered, who_of, runner_answer, who_says}
use Rattle.run.specs.Step.{after_slice, state_after, log_after, step_refusal, next_state, next_log, Stepped, closed_answer, step_says, closed_at}
use Rattle.run.specs.Accepted.{StepAccepted, who_runs, step_accepted, step_answers}
use Rattle.run.specs.StateAfter.{slice_here, slice_elsewhere, job_anew, job_goes_on, handed_on, job_after_lem, Room, job_closed}
use Rattle.run.specs.LogAfter.{log-length, log_elsewhere, log_done, log_over, log_late, log_open, log_ended}
use Rattle.units.specs.Conversion.{runtime_slices, period_slices, slices_of, slices_answer, deadline_slices}
use Rattle.units.proofs.Laws.{runtime_fewest, larger_tick_no_fewer, without_tick, period_accepted, deadline_latest}
use Rattle.readings.specs.declared.Entry.TheVariants.{NoEntry}
use Rattle.readings.specs.Reading.{entry_of}
use Rattle.readings.proofs.Laws.{reads_no_entry, idle_read, task_read, no_entry_read, entry_byte_lem, refusal_number_lem, logged_byte_lem, reads_results, done_is_one}
use Rattle.bench.specs.Drive.{task_in}
use Rattle.promises.specs.Begun.{all_alike, start_accepted, start_period, start_runtime, start_job, start_due}
use Rattle.promises.proofs.RefusalsHold.{bounds_go, list_goes, build_goes, start_goes, who_goes, step_goes, runtime_goes, period_goes, deadline_goes}
use Rattle.promises.proofs.ProgramHolds.{program}
use Rattle.promises.specs.Demand1.{NoRun, BegunRun, RunsByTable, RunsFilling, Due, Completes, ClosedSlice, Demand1, Released}

-- ---- table building
pub build_refused : (l : TaskList) (supply : ℕ) (old new : List ℕ) (v : Verdict) → Built l supply old new v → ((verdict_answer v).number ≡ 0 → ⊥) → new ≡ old
unfolding verdict_answer tabled
build_refused l supply old new (Ok a) built nz = absurd (nz refl)
build_refused l supply old new (Err r) built nz = built.bytes

-- ---- a start
no_run_lem : NoRun no_run
unfolding no_run period_of due_of runtime_of job_of fresh
no_run_lem = record {
  count_0 = refl;
  cycle_0 = refl;
  position_0 = refl;
  clock_0 = refl;
  is_by_table = refl;
  periods_0 = λ i. all_alike 0 i;
  deadlines_0 = λ i. all_alike 0 i;
  runtimes_0 = λ i k. all_alike 0 i;
  none_ended = λ i. ap₂ (λ u e. record { used = u; ended = e }) (all_alike 0 i) (all_alike false i);
  not_sound = λ S. omega (arith, S.count_from);
}

module _ (l : TaskList) (supply : ℕ) (asked : Option Mode) (clock : ℕ) (log log' : List ℕ) (r : Started) (begins : Begins l supply asked clock log log' r) where
  start_refused : ((begun_answer r.answer).number ≡ 0 → ⊥) → (log' ≡ log) × NoRun r.state
  unfolding begun_answer none refusal begun_of begun_state begun_log
  start_refused nz = go (verdict_of l supply) refl
    where
      -- what holds of the verdict holds of answer, state and log
      kept : (v : Verdict) → verdict_of l supply ≡ v → begun_log v log ≡ log → begun_state l asked clock v (length log) ≡ no_run → (log' ≡ log) × NoRun r.state
      kept v q el es =
          (begins.bytes ∙ ap (λ (x : Verdict). begun_log x log) q ∙ el, subst NoRun (sym (begins.state ∙ ap (λ (x : Verdict). begun_state l asked clock x (length log)) q ∙ es)) no_run_lem)

      go : (v : Verdict) → verdict_of l supply ≡ v → (log' ≡ log) × NoRun r.state
      go (Err r) q = kept _ q refl refl
      go (Ok a) q =
          ⊎_elim
          (λ (e : ltb (length log) a.jobs ≡ true). kept _ q (choose_yes _ _ _ e) (choose_yes _ _ _ e))
          (λ (e : ltb (length log) a.jobs ≡ false). absurd (nz (ap (λ (x : Result (Unit {0}) Refusal). (begun_answer x).number) (begins.answer ∙ ap (λ (x : Verdict). begun_of x (length log)) q ∙ choose_no _ _ _ e))))
          (bool_cases (ltb (length log) a.jobs))

  start_begun : (begun_answer r.answer).number ≡ 0 → BegunRun l asked clock log log' r.state
  unfolding start_state plan_of period_of due_of runtime_of mode_of
  start_begun z =
      let accepted = start_accepted l supply asked clock log log' r begins z in
      rw (accepted.state_is, accepted.log_is)
      (record {
        count_is = refl;
        cycle_is = refl;
        position_0 = refl;
        clock_is = refl;
        filling_asked = λ e. ap mode_of e;
        table_asked = λ e. ap mode_of e;
        none_named = λ e. ap mode_of e;
        periods_are = start_period l supply accepted.keeps (mode_of asked) clock;
        deadlines_are = start_due l supply accepted.keeps (mode_of asked) clock;
        runtimes_are = start_runtime l supply accepted.keeps (mode_of asked) clock;
        beyond_0 = λ i k li. (zeros (λ (t : Task). t.period) i li, zeros (λ (t : Task). t.deadline) i li, zeros (λ (t : Task). t.runtime) i li);
        jobs_fresh = start_job l supply accepted.keeps (mode_of asked) clock;
        log_cleared = λ x lx. overwrite_at (λ _. 0) log 0 (jobs_of l) x lx (omega (arith, accepted.room));
        log_beyond = λ x lx. overwrite_kept (λ _. 0) log 0 (jobs_of l) x lx;
        log-length = overwrite-length (λ _. 0) log (jobs_of l);
      })
    where
      -- what stands beyond the tasks
      zeros : (f : Task → ℕ) (i : ℕ) → l.count ≤ i → at (overwrite (λ i. f (task_at l.tasks i)) l.count (replicate 16 0)) i ≡ 0
      zeros f i li = overwrite_kept (λ i. f (task_at l.tasks i)) (replicate 16 0) 0 l.count i li ∙ all_alike 0 i

-- ---- who runs
module _ (s : State) (table : List ℕ) (z : (runner_answer (who_of s table)).number ≡ 0) where
  -- the task that is told is the one that runs
  told_runs : (runner_answer (who_of s table)).task ≡ running s table
  unfolding who_of answered unless_refused of_entry runner_answer none refusal
  told_runs = go (who_refusal s table) (running s table) (sym (who_says s table) ∙ z)
    where
      go : (n e : ℕ) → n ≡ 0 → (runner_answer (answered n e)).task ≡ e
      go zero zero _ = refl
      go zero (suc i) _ = refl
      go (suc n) e some = absurd (omega arith)

  who_by_table : s.mode ≡ Table → RunsByTable s (entry_of (at table s.position) s.count) (runner_answer (who_of s table)).task
  unfolding running running_by unless_ended
  who_by_table m =
      let is : (runner_answer (who_of s table)).task ≡ unless_ended s (at table s.position) = told_runs ∙ ap (λ (x : Mode). running_by x s table) m in
      record {
        idle = λ e. is ∙ ap (unless_ended s) (idle_read _ _ e);
        ended = λ i e t. is ∙ ap (unless_ended s) (task_read _ _ _ e).0 ∙ choose_yes _ _ _ t;
        unended = λ i e f. is ∙ ap (unless_ended s) (task_read _ _ _ e).0 ∙ choose_no _ _ _ f;
      }

  abbrev wants : ℕ → ℕ
  wants i = choose (job_of s i).ended 0 1

  want_tells : (i : ℕ) → (0 < wants i) ↔ ((job_of s i).ended ≡ false)
  unfolding choose
  want_tells i = go (job_of s i).ended
    where
      go : (b : Bool) → (0 < choose b 0 1) ↔ (b ≡ false)
      go true = (λ h. absurd (omega arith), λ h. absurd (true≢false h))
      go false = (λ _. refl, λ _. omega arith)

  who_filling : s.mode ≡ Filling → RunsFilling s (runner_answer (who_of s table)).task
  unfolding running running_by first_open IsFirst
  who_filling m = go (first_law (λ i. key_of s i (current_of s i)) wants s.count)
    where
      is : (runner_answer (who_of s table)).task ≡ first_open s
      is = told_runs ∙ ap (λ (x : Mode). running_by x s table) m

      go : IsFirst (λ i. key_of s i (current_of s i)) wants s.count (first_open s) → RunsFilling s (runner_answer (who_of s table)).task
      go (inl h) = record {
        idle = λ _ j lj. ⊎_elim (λ t. t) (λ f. absurd (omega (arith, (want_tells j).1 f, h.none j lj))) (bool_cases (job_of s j).ended);
        unended = λ i e. absurd (omega (arith, is, h.idle));
        nearest = λ i j e. absurd (omega (arith, is, h.idle));
        earliest = λ i j e. absurd (omega (arith, is, h.idle));
      }
      go (inr h) = record {
        idle = λ e. absurd (omega (arith, is, h.is));
        unended = λ i e. (omega (arith, that i e, h.below), ap (λ (x : ℕ). (job_of s x).ended) (sym (that i e)) ∙ (want_tells h.task).0 h.wanting);
        nearest = λ i j e lj f. omega (arith, not_before_key (λ i. key_of s i (current_of s i)) j h.task (h.none_before j lj ((want_tells j).1 f)), ap (due_of s) (that i e));
        earliest = λ i j e lj f q.
            omega (arith, that i e, not_before_place (λ i. key_of s i (current_of s i)) j h.task (h.none_before j lj ((want_tells j).1 f)) (q ∙ ap (due_of s) (sym (that i e))));
      }
        where
          that : (i : ℕ) → (runner_answer (who_of s table)).task ≡ suc i → h.task ≡ i
          that i e = omega (arith, is, h.is)

no_entry_above : (byte count : ℕ) → count ≤ 16 → (count < byte) ↔ (entry_of byte count ≡ NoEntry byte)
no_entry_above byte count few = (λ l. reads_no_entry byte count (omega arith) (inr l), no_entry_read byte count byte few)

-- ---- a step
module _ (s : State) (i : ℕ) where
  -- the next release is a period after the last
  release_tells : (release_next s i ≡ true) ↔ Released s i
  release_tells = let e = suc-mul (current_of s i) (period_of s i) in (λ t. (release_next_tells s i).0 t ∙ sym e, λ d. (release_next_tells s i).1 (d ∙ e))

  not_yet : (b : Bool) (A : Type 0) → ((b ≡ true) ↔ A) → (A → ⊥) → b ≡ false
  not_yet b A told never = ⊎_elim (λ t. absurd (never (told.0 t))) (λ f. f) (bool_cases b)

module _ (s : State) (table : List ℕ) (clock report : ℕ) (log : List ℕ) (went : StepAccepted s table clock report log) (R : Room s) where
  abbrev ran : ℕ
  ran = running s table

  below : (i : ℕ) → ran ≡ suc i → i < s.count
  below i e = (who_runs s table went.asked i e).below

  -- a job that neither finishes nor completes its run-time is open after the slice, if it was
  still_open : (i : ℕ) → (job_of s i).ended ≡ false → (ran ≡ suc i → report ≡ 0) → (Completes s table i → ⊥) → (after_slice s ran report i).ended ≡ false
  still_open i unended working ends =
      ⊎_elim
      (λ (e : ran ≡ suc i). rw (slice_here s ran report i e, ne_eqb report 1 (λ o. omega (arith, working e)), ne_eqb ((job_of s i).used + 1) (runtime_of s i (current_of s i)) (λ full. ends (e, full))))
      (λ (ne : ran ≡ suc i → ⊥). ap (λ (j : Job). j.ended) (slice_elsewhere s ran report i ne) ∙ unended)
      (eq_or_ne ran (suc i))

  no_release : (i : ℕ) → (Released s i → ⊥) → release_next s i ≡ false
  no_release i never = not_yet s i _ _ (release_tells s i) never

  no_deadline : (i : ℕ) → (Due s i → ⊥) → deadline_next s i ≡ false
  no_deadline i never = not_yet s i _ _ (deadline_next_tells s i) never

  -- where there is no release, the job is the one after the slice, closed if that is its deadline
  closed : (i : ℕ) → i < s.count → (Released s i → ⊥) → job_of (state_after s ran clock report) i ≡ closed_at (deadline_next s i) (after_slice s ran report i)
  closed i li never = job_after_lem s table clock report log went R i li ∙ job_closed s ran report i (no_release i never)

  its_used : (i : ℕ) → i < s.count → (Released s i → ⊥) → (job_of (state_after s ran clock report) i).used ≡ (after_slice s ran report i).used
  unfolding closed_at
  its_used i li never = ap (λ (j : Job). j.used) (closed i li never)

  its_end : (i : ℕ) → i < s.count → (Released s i → ⊥) → (job_of (state_after s ran clock report) i).ended ≡ ((after_slice s ran report i).ended || deadline_next s i)
  unfolding closed_at
  its_end i li never = ap (λ (j : Job). j.ended) (closed i li never)

  goes_on : (i : ℕ) → i < s.count → (Released s i → ⊥) → (Due s i → ⊥) → job_of (state_after s ran clock report) i ≡ after_slice s ran report i
  goes_on i li never not_due =
      job_after_lem s table clock report log went R i li ∙ job_goes_on s ran report i (no_release i never) (λ t. absurd (true≢false (sym t ∙ no_deadline i not_due)))

  ended_here : (i : ℕ) → i < s.count → (Released s i → ⊥) → (after_slice s ran report i).ended ≡ true → (job_of (state_after s ran clock report) i).ended ≡ true
  ended_here i li never t = its_end i li never ∙ ap (λ b. b || deadline_next s i) t

  closed_slice : ClosedSlice s table clock report log (log_after s ran report log) (state_after s ran clock report)
  closed_slice = record {
    handed = handed_on s ran clock report;
    done = λ i e one. log_done s table clock report log went i (below i e) e one;
    over = λ i c working. log_over s table clock report log went i (below i c.0) c.0 working c.1;
    late = λ i li due unended working ends. log_late s table clock report log went i li (still_open i unended working ends) ((deadline_next_tells s i).1 due);
    still_open = λ i li no_due working ends.
        ⊎_elim (log_ended s table clock report log went i li) (λ f. log_open s table clock report log went i li (still_open i f working ends) (no_deadline i no_due)) (bool_cases (job_of s i).ended);
    had_ended = λ i li. log_ended s table clock report log went i li;
    no_other = log_elsewhere s table clock report log went;
    log-length = log-length s table clock report log went;
    fresh_job = λ i li due. job_after_lem s table clock report log went R i li ∙ job_anew s ran report i ((release_tells s i).1 due);
    closed_job = λ i li due never. its_end i li never ∙ ap (λ b. (after_slice s ran report i).ended || b) ((deadline_next_tells s i).1 due) ∙ or-true (after_slice s ran report i).ended;
    one_used = λ i e never. its_used i (below i e) never ∙ ap (λ (j : Job). j.used) (slice_here s ran report i e);
    none_used = λ i li ne never. its_used i li never ∙ ap (λ (j : Job). j.used) (slice_elsewhere s ran report i ne);
    ended_then = λ i e never one. ended_here i (below i e) never (ap (λ (j : Job). j.ended) (slice_here s ran report i e) ∙ rw (eq-eqb report 1 one));
    ended_complete = λ i c never.
        ended_here i (below i c.0) never
        (ap (λ (j : Job). j.ended) (slice_here s ran report i c.0) ∙ rw (eq-eqb ((job_of s i).used + 1) (runtime_of s i (current_of s i)) c.1) (or-true (eqb report 1)));
    open_still = λ i e never not_due working ends. ap (λ (j : Job). j.ended) (goes_on i (below i e) never not_due) ∙ still_open i (who_runs s table went.asked i e).job_open (λ _. working) ends;
    others_same = λ i li ne never not_due. goes_on i li never not_due ∙ slice_elsewhere s ran report i ne;
  }

module _ (s : State) (table : List ℕ) (clock report : ℕ) (log log' : List ℕ) (r : Next) (S : Stepped s table clock report log log' r) where
  -- the number that the answer says is the one found
  pub step_said : (closed_answer r.answer).number ≡ step_refusal s table clock report log
  unfolding refusal
  step_said = ap (λ (a : Answer). a.number) (ap closed_answer S.answer ∙ step_says s table clock report log)

  pub step_refused : ((closed_answer r.answer).number ≡ 0 → ⊥) → (r.state ≡ s) × (log' ≡ log)
  unfolding next_state next_log
  step_refused nz = go (step_refusal s table clock report log) (λ z. nz (step_said ∙ z)) S.state S.bytes
    where
      go : (n : ℕ) → (n ≡ 0 → ⊥) → r.state ≡ next_state n s (state_after s (running s table) clock report) → log' ≡ next_log n log (log_after s (running s table) report log) → (r.state ≡ s) × (log' ≡ log)
      go zero some e g = absurd (some refl)
      go (suc n) some e g = (e, g)

  step_closed : (closed_answer r.answer).number ≡ 0 → Room s → ClosedSlice s table clock report log log' r.state
  step_closed z R =
      let accepted = (step_accepted s table clock report log).0 (sym step_said ∙ z) in
      let h = step_answers s table clock report log log' r accepted S in
      rw (h.1, h.2) (closed_slice s table clock report log accepted R)

-- ---- conversions
period_exact : (n slice : ℕ) → 0 < slice → slices_of (period_slices (n * slice) slice) ≡ n
unfolding slices_of
period_exact n slice pos = ap slices_of (period_accepted n slice pos)

none_of_refused : (x : Option ℕ) → ((slices_answer x).number ≡ 0 → ⊥) → slices_of x ≡ 0
unfolding slices_answer slices_of none refusal
none_of_refused (Some n) nz = absurd (nz refl)
none_of_refused None nz = refl

-- ---- so the demand holds
pub demand_1 : Demand1
unfolding task_in
demand_1 = record {
  bounds = bounds_go;
  judge = list_goes;
  build = build_goes;
  build_refused = build_refused;
  start = start_goes;
  start_refused = start_refused;
  start_begun = start_begun;
  who = who_goes;
  who_by_table = who_by_table;
  no_entry_above = no_entry_above;
  who_filling = who_filling;
  step = λ s table clock report log log' r S. step_goes s table clock report log log' r S;
  step_refused = step_refused;
  step_closed = step_closed;
  runtime = runtime_goes;
  period = period_goes;
  deadline = deadline_goes;
  runtime_fewest = runtime_fewest;
  larger_tick_no_fewer = larger_tick_no_fewer;
  without_tick = without_tick;
  period_exact = period_exact;
  deadline_latest = deadline_latest;
  task_whole = λ n runtime memory due slice tick pos. period_exact n slice pos;
  task_runtime = λ period micros memory due slice tick less. runtime_fewest micros slice tick less;
  task_deadline = λ period runtime memory micros slice tick pos. deadline_latest micros slice pos;
  task_no_period = λ micros runtime memory due slice tick nz. none_of_refused (period_slices micros slice) nz;
  task_no_runtime = λ period micros memory due slice tick nz. none_of_refused (runtime_slices micros slice tick) nz;
  task_no_deadline = λ period runtime memory micros slice tick nz. none_of_refused (deadline_slices micros slice) nz;
  entry_said = entry_byte_lem;
  refusal_said = refusal_number_lem;
  logged_said = logged_byte_lem;
  zero_is_no_result = reads_results.0;
  done_is_one = done_is_one;
  program = program;
}
