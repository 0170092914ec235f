-- Demand 3 holds: every slice of a full run is where the plan's run has brought it, so the log and the ends are the plan's.
use Rattle.std.specs.Prelude.{◌≡◌, List, Bool, true, ℕ, zero, suc, ◌+◌, ◌*◌, ◌/◌, ◌≤◌, ◌<◌, leb, Result, Ok}
use Rattle.std.proofs.Math.Path.{refl, ap}
use Rattle.std.proofs.Common.{sym, ◌∙◌}
use Rattle.std.proofs.Math.Bool.{not, true≢false}
use Rattle.std.proofs.Math.Logic.{⊎_elim}
use native.Mathlib.Omega.{arith}
use Rattle.std.proofs.Math.Nat.{div-mul_cancel}
use Rattle.std.proofs.Math.ListN.{get_or}
use borrow.Author.Tests.{eq-eqb, ne_eqb, lt-leb}
use Rattle.basis.specs.Choose.{choose, le_or_lt, eq_or_ne}
use Rattle.basis.specs.Least.{least, least_law}
use Rattle.basis.specs.Answer.{refusal, none}
use Rattle.plan.specs.Plan.{Sound, Demand, release, deadline, job, had, entry, takes, filling, by_table, HadBy, OnTime, OnTimeUpTo}
use Rattle.plan.proofs.Counting.{deadline_within}
use Rattle.plan.specs.Progress.{elapsed, had_up_to}
use Rattle.plan.proofs.Progress.{settled, nothing_before_release, grows_in_own, others_stay, on_time_had}
use Rattle.plan.proofs.Domination.{on_time_before, filling_ends_no_later, lower_needs_delay_none}
use Rattle.tasks.specs.declared.TaskList.{TaskList}
use Rattle.tasks.specs.List.{plan_of}
use Rattle.tasks.specs.Bounds.{cycle_of, jobs_of}
use Rattle.tasks.proofs.Kept.{plan_sound, cycle_pos, period_divides_cycle}
use Rattle.run.specs.declared.Mode.TheVariants.{Table, Filling}
use Rattle.run.specs.declared.State.{State}
use Rattle.run.specs.declared.Refusal.{Refusal}
use Rattle.run.specs.State.{current_of, offset, job_count}
use Rattle.run.specs.Who.{running}
use Rattle.run.specs.Step.{closed_answer}
use Rattle.start.specs.Start.{mode_of}
use Rattle.promises.specs.Demand3.{jobs_in, FullRun, place_of, is_logged, end_in, EndsWith, NeedsNoMore, EndsNoLater, Demand3}
use Rattle.promises.specs.Carries.{current_is}
use Rattle.promises.specs.Reached.{unless_open, Reached, result_byte, result_some, byte_up_to, byte_result, byte_none}
use Rattle.promises.specs.Driven.{demand_of, runs_filling, runs_by_table, run_enough, run_on_time, runs_as, leads_on}
use Rattle.promises.specs.Begun.{Accepted, start_accepted, takes_some, offset_listed, start_reached}

-- ---- every slice of a full run
module _ (l : TaskList) (run : FullRun l) where
  begun_as : Accepted l run.supply run.asked run.clock run.log (run.logs 0) run.begun
  begun_as = start_accepted l run.supply run.asked run.clock run.log (run.logs 0) run.begun run.begins run.accepted

  S : Sound (plan_of l)
  S = plan_sound l run.supply begun_as.keeps

  some : (i k : ℕ) → i < l.count → k < cycle_of l / (plan_of l).period i → 1 ≤ takes (plan_of l) run.need i k
  some = takes_some l run.supply begun_as.keeps run.need run.needs_from

  abbrev d : Demand
  d = demand_of (mode_of run.asked) (plan_of l) run.need

  abbrev Held : ℕ → State → List ℕ → Type 0
  Held = Reached (plan_of l) (cycle_of l) run.need d (mode_of run.asked) run.log

  goes_on : (p : ℕ) → p < cycle_of l → Held p (run.states p) (run.logs p) → ((run.answers p).answer ≡ Ok tt) × Held (suc p) (run.answers p).state (run.logs (suc p))
  unfolding plan_of
  goes_on p lp R =
      leads_on (plan_of l) S (cycle_of l) run.need begun_as.on_time run.tab run.own run.log p lp (run.states p) (run.logs p) some (mode_of run.asked) R (run.logs (suc p)) (run.answers p) (run.steps.stepped p lp)

  pub reached : (p : ℕ) → p ≤ cycle_of l → Held p (run.states p) (run.logs p)
  reached zero lp =
      rw (run.from_start ∙ begun_as.state_is, begun_as.log_is)
      (start_reached l run.supply begun_as.keeps (mode_of run.asked) run.clock run.log begun_as.room run.need d run.needs_from)
  reached (suc p) lp = rw (run.steps.handed p lp) (goes_on p lp (reached p (omega arith))).1

  -- No step of it is refused.
  pub no_step_refused : (p : ℕ) → p < cycle_of l → (closed_answer (run.answers p).answer).number ≡ 0
  unfolding closed_answer none refusal
  no_step_refused p lp = ap (λ (x : Result (Unit {0}) Refusal). (closed_answer x).number) (goes_on p lp (reached p (omega arith))).0

  on_time_run : OnTimeUpTo (plan_of l) d (cycle_of l)
  on_time_run = run_on_time (plan_of l) S (cycle_of l) run.need begun_as.on_time (mode_of run.asked)

  -- The one who runs in slice p is the plan's: filling, and by the table.
  pub runs_as_filling : mode_of run.asked ≡ Filling → (p : ℕ) → p < cycle_of l → running (run.states p) run.tab ≡ filling (plan_of l) run.need p
  unfolding demand_of
  runs_as_filling e p lp =
      runs_filling (plan_of l) S (cycle_of l) run.need run.log p lp (run.states p) (run.logs p)
      (on_time_before (plan_of l) (takes (plan_of l) run.need) p (cycle_of l) (omega arith) (rw e at on_time_run)) (rw e at (reached p (omega arith))) run.tab

  pub runs_as_by_table : mode_of run.asked ≡ Table → (p : ℕ) → p < cycle_of l → running (run.states p) run.tab ≡ by_table (plan_of l) run.need p
  unfolding demand_of
  runs_as_by_table e p lp = runs_by_table (plan_of l) S (cycle_of l) run.need run.log p lp (run.states p) (run.logs p) run.tab run.own (rw e at (reached p (omega arith)))

  -- ---- the log after the run
  pub beyond_kept : (x : ℕ) → jobs_of l ≤ x → get_or (run.logs (cycle_of l)) x 0 ≡ get_or run.log x 0
  unfolding jobs_of job_count plan_of
  beyond_kept x lx =
      let R = reached (cycle_of l) (omega arith) in
      R.beyond x (omega (arith, ap (offset (run.states (cycle_of l))) R.carries.count_is, offset_listed l (run.states (cycle_of l)) R.carries l.count (omega arith)))

  -- Every task has a job in the cycle.
  pub has_job : (i : ℕ) → i < l.count → 0 < jobs_in l i
  unfolding plan_of
  has_job i li =
      let T = (plan_of l).period i in
      ⊎_elim
      (λ (z : cycle_of l / T ≡ 0). absurd (omega (arith, ap (λ (x : ℕ). x * T) z, div-mul_cancel T (period_divides_cycle l run.supply begun_as.keeps i li), cycle_pos l run.supply begun_as.keeps)))
      (λ (nz : cycle_of l / T ≡ 0 → ⊥). omega arith)
      (eq_or_ne (cycle_of l / T) 0)

  pub has_task : 0 < l.count
  has_task = begun_as.keeps.some

  -- ---- one job
  -- what it takes, and what it has had by position p
  abbrev enough : ℕ → ℕ → ℕ
  enough i k = takes (plan_of l) run.need i k

  abbrev had_by : ℕ → ℕ → ℕ → ℕ
  had_by i k p = had_up_to (plan_of l) d i k p

  module _ (i k : ℕ) (li : i < l.count) (lk : k < jobs_in l i) where
    -- its byte stands where the list puts it
    byte_at : (p : ℕ) → p ≤ cycle_of l → get_or (run.logs p) (place_of l i k) 0 ≡ byte_up_to (plan_of l) run.need d i k p
    unfolding place_of plan_of
    byte_at p lp = ap (λ (x : ℕ). get_or (run.logs p) (x + k) 0) (sym (offset_listed l (run.states p) (reached p lp).carries i (omega arith))) ∙ (reached p lp).bytes_are i k li lk

    has_ended : enough i k ≤ had_by i k (cycle_of l)
    unfolding plan_of OnTimeUpTo OnTime HadBy
    has_ended =
        let due : deadline (plan_of l) i k ≤ cycle_of l = deadline_within (plan_of l) S i k (cycle_of l) li lk in
        omega (arith, settled (plan_of l) S d i li k (cycle_of l) due, on_time_run i k li due, run_enough (plan_of l) run.need (mode_of run.asked) i k)

    -- Its byte is 1 where the need is at most the run-time, and 2 elsewhere: not 3, not 0.
    pub logged : get_or (run.logs (cycle_of l)) (place_of l i k) 0 ≡ choose (leb (run.need i k) ((plan_of l).runtime i k)) 1 2
    unfolding result_byte
    logged = byte_at (cycle_of l) (omega arith) ∙ byte_result (plan_of l) run.need d i k (cycle_of l) has_ended

    -- It is logged by position p exactly if it has had what it takes by then.
    logged_has : (p : ℕ) → p ≤ cycle_of l → is_logged l run.logs i k p ≡ true → enough i k ≤ had_by i k p
    unfolding is_logged
    logged_has p lp t =
        ⊎_elim
        (λ (h : enough i k ≤ had_by i k p). h)
        (λ (h : had_by i k p < enough i k). absurd (true≢false (sym t ∙ ap not (eq-eqb _ 0 (byte_at p lp ∙ byte_none (plan_of l) run.need d i k p h)))))
        (le_or_lt (enough i k) (had_by i k p))

    has_logged : (p : ℕ) → p ≤ cycle_of l → enough i k ≤ had_by i k p → is_logged l run.logs i k p ≡ true
    unfolding is_logged
    has_logged p lp h =
        ap not (ne_eqb _ 0 (λ z. result_some (plan_of l) run.need i k (sym (byte_at p lp ∙ byte_result (plan_of l) run.need d i k p h) ∙ z)))

    -- ---- its end
    pub end_within : end_in l run.logs i k ≤ cycle_of l
    unfolding end_in
    end_within = (least_law (is_logged l run.logs i k) (cycle_of l)).within

    -- It is logged at its end,
    logged_at_end : is_logged l run.logs i k (end_in l run.logs i k) ≡ true
    unfolding end_in
    logged_at_end =
        let law = least_law (is_logged l run.logs i k) (cycle_of l) in
        ⊎_elim
        (λ (e : end_in l run.logs i k ≡ cycle_of l). ap (is_logged l run.logs i k) e ∙ has_logged (cycle_of l) (omega arith) has_ended)
        (λ (ne : end_in l run.logs i k ≡ cycle_of l → ⊥). law.passes (omega (arith, law.within)))
        (eq_or_ne (end_in l run.logs i k) (cycle_of l))

    -- and not before;
    open_before_end : (p : ℕ) → p < end_in l run.logs i k → had_by i k p < enough i k
    unfolding end_in
    open_before_end p lp =
        ⊎_elim
        (λ (h : enough i k ≤ had_by i k p).
        absurd (true≢false (sym (has_logged p (omega (arith, end_within)) h) ∙ (least_law (is_logged l run.logs i k) (cycle_of l)).none_before p lp)))
        (λ (h : had_by i k p < enough i k). h)
        (le_or_lt (enough i k) (had_by i k p))

    -- so its byte is 0 until then and no longer;
    pub some_at_end : get_or (run.logs (end_in l run.logs i k)) (place_of l i k) 0 ≡ 0 → ⊥
    unfolding is_logged
    some_at_end z = true≢false (sym logged_at_end ∙ ap not (eq-eqb _ 0 z))

    pub none_before_end : (p : ℕ) → p < end_in l run.logs i k → get_or (run.logs p) (place_of l i k) 0 ≡ 0
    none_before_end p lp = byte_at p (omega (arith, end_within)) ∙ byte_none (plan_of l) run.need d i k p (open_before_end p lp)

    -- the slice that brings it what it takes is one in which it runs:
    module _ (p : ℕ) (lp : p < cycle_of l) (short : had_by i k p < enough i k) (full : enough i k ≤ had_by i k (suc p)) where
      own_entry : entry (plan_of l) d p ≡ suc i
      own_entry = grows_in_own (plan_of l) d i k p (omega (arith, short, full))

      current : k ≡ job (plan_of l) i p
      unfolding plan_of
      current =
          ⊎_elim
          (λ (e : k ≡ job (plan_of l) i p). e)
          (λ (ne : k ≡ job (plan_of l) i p → ⊥). absurd (omega (arith, short, full, others_stay (plan_of l) S d i li k p ne)))
          (eq_or_ne k (job (plan_of l) i p))

      ran_in : running (run.states p) run.tab ≡ suc i
      unfolding plan_of takes
      ran_in =
          let R = reached p (omega arith) in
          let had-now = on_time_had (plan_of l) S d i li p (on_time_before (plan_of l) d p (cycle_of l) (omega arith) on_time_run) in
          let still : had_up_to (plan_of l) d i (job (plan_of l) i p) p < takes (plan_of l) run.need i (job (plan_of l) i p) = rw current at short in
          runs_as (plan_of l) S (cycle_of l) run.need begun_as.on_time run.tab run.own run.log p lp (run.states p) (run.logs p) (mode_of run.asked) R
          ∙ unless_open (run.states p) (entry (plan_of l) d p) i own_entry ((R.jobs_are lp i li).ended_is ∙ lt-leb (takes (plan_of l) run.need i (job (plan_of l) i p)) (had (plan_of l) d p i) (omega (arith, still, had-now)))

    pub ends_in_own_slice : (p : ℕ) × EndsWith l run i k p
    unfolding plan_of
    ends_in_own_slice = go (end_in l run.logs i k) refl
      where
        had_at_end : enough i k ≤ had_by i k (end_in l run.logs i k)
        had_at_end = logged_has (end_in l run.logs i k) end_within logged_at_end

        go : (e : ℕ) → end_in l run.logs i k ≡ e → (p : ℕ) × EndsWith l run i k p
        go zero e = absurd (omega (arith, had_at_end, ap (had_by i k) e, nothing_before_release (plan_of l) S d i li k 0 (omega arith), some i k li lk))
        go (suc p) e =
            let in_cycle : p < cycle_of l = omega (arith, end_within) in
            let short = open_before_end p (omega arith) in
            let full : enough i k ≤ had_by i k (suc p) = omega (arith, had_at_end, ap (had_by i k) e) in
            let R = reached p (omega arith) in
            (p, record { within = in_cycle; end_is = e; ran = ran_in p in_cycle short full; that_job = current_is R.carries R.position_is i li ∙ sym (current p in_cycle short full) })

    -- which changes the log.
    pub logging_shows : (p : ℕ) → EndsWith l run i k p → run.logs (suc p) ≡ run.logs p → ⊥
    logging_shows p E same =
        some_at_end (ap (λ (q : ℕ). get_or (run.logs q) (place_of l i k) 0) E.end_is ∙ ap (λ (g : List ℕ). get_or g (place_of l i k) 0) same ∙ none_before_end p (omega (arith, E.end_is)))

  -- No slice ends more than one job.
  pub one_end_a_slice : (i k j m p : ℕ) → EndsWith l run i k p → EndsWith l run j m p → (i ≡ j) × (k ≡ m)
  one_end_a_slice i k j m p E other =
      let same : i ≡ j = omega (arith, E.ran, other.ran) in
      (same, sym E.that_job ∙ ap (current_of (run.states p)) same ∙ other.that_job)

-- ---- two full runs of one list
-- what passes sooner has a smaller least
sooner : (f g : ℕ → Bool) (n : ℕ) → ((p : ℕ) → p ≤ n → f p ≡ true → g p ≡ true) → least g n ≤ least f n
sooner f g n h =
    let least-f = least_law f n in
    let least-g = least_law g n in
    ⊎_elim
    (λ (l : least g n ≤ least f n). l)
    (λ (l : least f n < least g n). absurd (true≢false (sym (h (least f n) least-f.within (least-f.passes (omega (arith, least-g.within)))) ∙ least-g.none_before (least f n) l)))
    (le_or_lt (least g n) (least f n))

module _ (l : TaskList) (run other : FullRun l) where
  -- where what has ended in one has ended in the other, no job of the other ends later
  no_later : ((i k p : ℕ) → i < l.count → k < jobs_in l i → enough l run i k ≤ had_by l run i k p → enough l other i k ≤ had_by l other i k p) → EndsNoLater l run other
  unfolding end_in
  no_later h i k li lk = sooner _ _ (cycle_of l) (λ p lp t. has_logged l other i k li lk p lp (h i k p li lk (logged_has l run i k li lk p lp t)))

  within_due : (i k p : ℕ) → elapsed (plan_of l) i k p ≤ (plan_of l).due i
  unfolding elapsed
  within_due i k p = omega arith

  within_window : (i k p : ℕ) → i < l.count → k < jobs_in l i → release (plan_of l) i k + elapsed (plan_of l) i k p ≤ cycle_of l
  unfolding deadline plan_of
  within_window i k p li lk = omega (arith, within_due i k p, deadline_within (plan_of l) (S l run) i k (cycle_of l) li lk)

  module _ (less : NeedsNoMore l run other) where
    -- lowered needs delay no job of a filling run,
    lower : (i k p : ℕ) → i < l.count → k < jobs_in l i
        → takes (plan_of l) run.need i k ≤ had_up_to (plan_of l) (takes (plan_of l) run.need) i k p → takes (plan_of l) other.need i k ≤ had_up_to (plan_of l) (takes (plan_of l) other.need) i k p
    unfolding had_up_to HadBy plan_of
    lower i k p li lk = lower_needs_delay_none (plan_of l) (S l run) (cycle_of l) (begun_as l run).on_time run.need other.need less i k (elapsed (plan_of l) i k p) li (within_due i k p) (within_window i k p li lk)

    -- nor does filling
    fills : (i k p : ℕ) → i < l.count → k < jobs_in l i
        → takes (plan_of l) run.need i k ≤ had_up_to (plan_of l) (plan_of l).runtime i k p → takes (plan_of l) run.need i k ≤ had_up_to (plan_of l) (takes (plan_of l) run.need) i k p
    unfolding had_up_to HadBy plan_of
    fills i k p li lk = filling_ends_no_later (plan_of l) (S l run) (cycle_of l) (begun_as l run).on_time run.need i k (elapsed (plan_of l) i k p) li (within_due i k p) (within_window i k p li lk)

    filling_no_later : mode_of run.asked ≡ Table → mode_of other.asked ≡ Filling → EndsNoLater l run other
    unfolding demand_of
    filling_no_later e f = no_later (λ i k p li lk h. rw f (lower i k p li lk (fills i k p li lk (rw e at h))))

    lower_no_later : mode_of run.asked ≡ Filling → mode_of other.asked ≡ Filling → EndsNoLater l run other
    unfolding demand_of
    lower_no_later e f = no_later (λ i k p li lk h. rw f (lower i k p li lk (rw e at h)))

pub demand_3 : Demand3
demand_3 = record {
  no_step_refused = no_step_refused;
  logged = logged;
  beyond_kept = beyond_kept;
  length_kept = λ l run. (reached l run (cycle_of l) (omega arith)).long;
  ends_in_own_slice = ends_in_own_slice;
  one_end_a_slice = one_end_a_slice;
  filling_no_later = λ l run other e f less. filling_no_later l run other less e f;
  lower_no_later = λ l run other e f less. lower_no_later l run other less e f;
}
