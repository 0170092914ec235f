-- What the state and the log of a drive are before each slice: the jobs as far as the plan's run has brought them.
use Rattle.std.specs.Prelude.{◌≡◌, refl, List, true, false, ◌||◌, eqb, leb, length}
use Rattle.std.proofs.Math.Path.{sym, ap, subst}
use Rattle.std.proofs.Common.{◌∙◌, true≢false, arith}
use Rattle.std.proofs.Math.Logic.{⊎_elim}
use Prim.Native.Nat.{ℕ, zero, suc, ◌+◌, ◌/◌, ◌≤◌, ◌<◌, min}
use borrow.Author.Tests.{eq-eqb, ne_eqb, le-leb, lt-leb}
use Rattle.std.proofs.Math.ListN.{get_or}
use Rattle.basis.specs.Choose.{choose, choose_yes, choose_no, choose_either, bool_cases, le_or_lt, eq_or_ne}
use Rattle.basis.specs.Answer.{refusal, none}
use Rattle.plan.specs.Plan.{Plan, Sound, Demand, job, age, gets, had, entry, takes, OnTimeUpTo}
use Rattle.plan.proofs.Work.{gets_one, gets_none, gets_cases}
use Rattle.plan.specs.Progress.{had_up_to}
use Rattle.plan.proofs.Progress.{on_time_had, on_time_grows, others_stay}
use Rattle.plan.proofs.Domination.{had_by_deadline, on_time_before}
use Rattle.plan.proofs.Run.{goes_on_or_ends, job_goes_on as job_stays, had_goes_on, had_anew}
use Rattle.run.specs.declared.Mode.{Mode}
use Rattle.run.specs.declared.State.{State}
use Rattle.run.specs.State.{Job, fresh, runtime_of, current_of, job_of, deadline_next, offset, job_count, place}
use Rattle.run.specs.Who.{unless_ended, running, who_refusal, unless_refused, of_entry, answered, who_of, runner_answer}
use Rattle.run.specs.Step.{next_clock, after_slice, job_after, state_after, log_after}
use Rattle.run.specs.Sound.{SoundState}
use Rattle.run.specs.Accepted.{WhoAccepted, StepAccepted, who_accepted}
use Rattle.run.specs.LogAfter.{log-length, log_beyond, log_done, log_over, log_open, log_ended}
use Rattle.run.specs.StateAfter.{slice_here, slice_elsewhere, job_anew, job_goes_on, HandedOn, handed_on, state_after_sound}
use Rattle.bench.specs.Course.{report_of, report_in}
use Rattle.promises.specs.Carries.{Carries, carries_on, in_state, current_is, runtime_now, place_is, job_in, no_deadline_follows, release_follows, no_release_follows, job_then, other_stays}

-- ---- one task in one slice, as numbers
pub unless_is : (s : State) (e i : ℕ) → unless_ended s e ≡ suc i → e ≡ suc i
unfolding unless_ended
unless_is s zero i q = absurd (omega arith)
unless_is s (suc j) i q =
    ⊎_elim
    (λ (t : (job_of s j).ended ≡ true). absurd (omega (arith, choose_yes (job_of s j).ended 0 (suc j) t)))
    (λ (f : (job_of s j).ended ≡ false). sym (choose_no (job_of s j).ended 0 (suc j) f) ∙ q)
    (bool_cases (job_of s j).ended)

unless_ended_lem : (s : State) (e i : ℕ) → e ≡ suc i → (job_of s i).ended ≡ true → unless_ended s e ≡ 0
unfolding unless_ended
unless_ended_lem s e i q t = ap (unless_ended s) q ∙ choose_yes (job_of s i).ended 0 (suc i) t

pub unless_open : (s : State) (e i : ℕ) → e ≡ suc i → (job_of s i).ended ≡ false → unless_ended s e ≡ suc i
unfolding unless_ended
unless_open s e i q f = ap (unless_ended s) q ∙ choose_no (job_of s i).ended 0 (suc i) f

-- Where asking is accepted, the one who is told is the one who runs; so the report is that one's.
pub reported : (s : State) (tab : List ℕ) → WhoAccepted s tab → (need : Demand) → report_in tab need s ≡ report_of need s (running s tab)
unfolding report_in who_of answered unless_refused of_entry runner_answer none refusal
reported s tab went need = ap (report_of need s) (told (who_refusal s tab) (running s tab) ((who_accepted s tab).1 went))
  where
    told : (n e : ℕ) → n ≡ 0 → (runner_answer (answered n e)).task ≡ e
    told zero zero z = refl
    told zero (suc i) z = refl
    told (suc n) e z = absurd (omega arith)

-- The job has had `h` slices, needs `need` and is closed at `runtime`: its count and whether it has ended.
pub record HasHad (j : Job) (h need runtime : ℕ) : Type 0 where
  pub used_is : j.used ≡ min h (min need runtime)
  pub ended_is : j.ended ≡ leb (min need runtime) h

pub fresh_has : (n r : ℕ) → 1 ≤ min n r → HasHad fresh 0 n r
unfolding fresh
fresh_has n r l = record { used_is = omega arith; ended_is = sym (lt-leb (min n r) 0 (omega arith)) }

-- it ends in the slice that brings its count to its need or to its run-time
ends_now : (h need runtime report : ℕ) → h < min need runtime → report ≡ choose (eqb (h + 1) need) 1 0 → (eqb report 1 || eqb (h + 1) runtime) ≡ leb (min need runtime) (h + 1)
unfolding choose
ends_now h need runtime report l er =
    ⊎_elim
    (λ (e : h + 1 ≡ need). rw (er, eq-eqb (h + 1) need e, le-leb (min need runtime) (h + 1) (omega arith)))
    (λ (ne : h + 1 ≡ need → ⊥).
    ⊎_elim
    (λ (f : h + 1 ≡ runtime). rw (er, ne_eqb (h + 1) need ne, eq-eqb (h + 1) runtime f, le-leb (min need runtime) (h + 1) (omega arith)))
    (λ (nf : h + 1 ≡ runtime → ⊥). rw (er, ne_eqb (h + 1) need ne, ne_eqb (h + 1) runtime nf, lt-leb (min need runtime) (h + 1) (omega arith)))
    (eq_or_ne (h + 1) runtime))
    (eq_or_ne (h + 1) need)

module _ (s : State) (e i h need runtime report : ℕ) (J : HasHad (job_of s i) h need runtime) (rt : runtime_of s i (current_of s i) ≡ runtime)
    (reports : unless_ended s e ≡ suc i → report ≡ choose (eqb ((job_of s i).used + 1) need) 1 0) where
  -- The slice with entry e brings the job of task i one further where the entry is its own.
  slice_brings : HasHad (after_slice s (unless_ended s e) report i) (h + gets e i) need runtime
  slice_brings =
      ⊎_elim
      (λ (own : e ≡ suc i).
      ⊎_elim
      (λ (done : min need runtime ≤ h).
      let over : unless_ended s e ≡ suc i → ⊥ = λ q. omega (arith, unless_ended_lem s e i own (J.ended_is ∙ le-leb (min need runtime) h done)) in
      rw (slice_elsewhere s (unless_ended s e) report i over)
      (record {
        used_is = omega (arith, J.used_is, gets_one e i own);
        ended_is = J.ended_is ∙ le-leb (min need runtime) h done ∙ sym (le-leb (min need runtime) (h + gets e i) (omega arith));
      }))
      (λ (open_still : h < min need runtime).
      let runs : unless_ended s e ≡ suc i = unless_open s e i own (J.ended_is ∙ lt-leb (min need runtime) h open_still) in
      let had-it : (job_of s i).used ≡ h = omega (arith, J.used_is) in
      rw (slice_here s (unless_ended s e) report i runs)
      (record {
        used_is = omega (arith, gets_one e i own);
        ended_is = rw (had-it, rt, gets_one e i own) (ends_now h need runtime report open_still (rw had-it at (reports runs)));
      }))
      (le_or_lt (min need runtime) h))
      (λ (other : e ≡ suc i → ⊥).
      rw (slice_elsewhere s (unless_ended s e) report i (λ q. other (unless_is s e i q)))
      (record { used_is = omega (arith, J.used_is, gets_none e i other); ended_is = J.ended_is ∙ ap (leb (min need runtime)) (omega (arith, gets_none e i other)) }))
      (eq_or_ne e (suc i))

-- ---- the state and the log of a drive
-- A job that needs no more than its run-time is logged done, any other over;
unfoldable pub result_byte : Plan → Demand → ℕ → ℕ → ℕ
result_byte P need i k = choose (leb (need i k) (P.runtime i k)) 1 2

pub result_some : (P : Plan) (need : Demand) (i k : ℕ) → result_byte P need i k ≡ 0 → ⊥
unfolding result_byte
result_some P need i k = choose_either (λ (x : ℕ). x ≡ 0 → ⊥) _ 1 2 (λ z. omega arith) (λ z. omega arith)

-- once it has had what it takes in the run under demand d. Before that there is no result.
unfoldable pub byte_up_to : Plan → Demand → Demand → ℕ → ℕ → ℕ → ℕ
byte_up_to P need d i k t = choose (leb (takes P need i k) (had_up_to P d i k t)) (result_byte P need i k) 0

module _ (P : Plan) (need d : Demand) (i k t : ℕ) where
  pub byte_result : takes P need i k ≤ had_up_to P d i k t → byte_up_to P need d i k t ≡ result_byte P need i k
  unfolding byte_up_to
  byte_result l = choose_yes (leb (takes P need i k) (had_up_to P d i k t)) (result_byte P need i k) 0 (le-leb _ _ l)

  pub byte_none : had_up_to P d i k t < takes P need i k → byte_up_to P need d i k t ≡ 0
  unfolding byte_up_to
  byte_none l = choose_no (leb (takes P need i k) (had_up_to P d i k t)) (result_byte P need i k) 0 (lt-leb _ _ l)

pub record Reached (P : Plan) (cycle : ℕ) (need d : Demand) (m : Mode) (first : List ℕ) (p : ℕ) (s : State) (g : List ℕ) : Type 0 where
  pub carries : Carries P cycle s
  pub mode_is : s.mode ≡ m
  pub room : job_count s ≤ length first
  pub is_sound : SoundState s
  pub position_is : s.position ≡ p
  pub jobs_are : p < cycle → (i : ℕ) → i < P.count → HasHad (job_of s i) (had P d p i) (need i (job P i p)) (P.runtime i (job P i p))
  pub bytes_are : (i k : ℕ) → i < P.count → k < cycle / P.period i → get_or g (offset s i + k) 0 ≡ byte_up_to P need d i k p
  pub beyond : (m : ℕ) → job_count s ≤ m → get_or g m 0 ≡ get_or first m 0
  pub long : length g ≡ length first

-- ---- one step
module _ (P : Plan) (S : Sound P) (cycle : ℕ)
    (need d : Demand) (some : (i k : ℕ) → i < P.count → k < cycle / P.period i → 1 ≤ takes P need i k) (enough : (i k : ℕ) → i < P.count → takes P need i k ≤ d i k) (on : OnTimeUpTo P d cycle)
    (m : Mode) (first : List ℕ) (p : ℕ) (lp : p < cycle) (s : State) (g : List ℕ) (R : Reached P cycle need d m first p s g)
    (tab : List ℕ) (ran_is : running s tab ≡ unless_ended s (entry P d p))
    (went : StepAccepted s tab (next_clock s.clock) (report_in tab need s) g) where
  abbrev ran : ℕ
  ran = running s tab

  abbrev report : ℕ
  report = report_in tab need s

  abbrev after : State
  after = state_after s ran (next_clock s.clock) report

  reports : (i : ℕ) → i < P.count → unless_ended s (entry P d p) ≡ suc i → report ≡ choose (eqb ((job_of s i).used + 1) (need i (job P i p))) 1 0
  unfolding report_of
  reports i li q = reported s tab went.asked need ∙ ap (report_of need s) (ran_is ∙ q) ∙ ap (λ (k : ℕ). choose (eqb ((job_of s i).used + 1) (need i k)) 1 0) (current_is R.carries R.position_is i li)

  module _ (i : ℕ) (li : i < P.count) where
    -- the current job, what it needs and what it may have, and what it has had with this slice
    abbrev k : ℕ
    k = job P i p

    abbrev b : ℕ
    b = takes P need i (job P i p)

    abbrev now_had : ℕ
    now_had = had P d p i + gets (entry P d p) i

    after_slice_lem : HasHad (after_slice s ran report i) now_had (need i k) (P.runtime i k)
    after_slice_lem =
        subst (λ (x : ℕ). HasHad (after_slice s x report i) now_had (need i k) (P.runtime i k)) (sym ran_is)
        (slice_brings s (entry P d p) i (had P d p i) (need i k) (P.runtime i k) report (R.jobs_are lp i li) (runtime_now R.carries R.position_is i li) (reports i li))

    -- ---- its byte
    on_time_so_far : OnTimeUpTo P d p
    on_time_so_far = on_time_before P d p cycle (omega arith) on

    had_before : had_up_to P d i k p ≡ had P d p i
    had_before = on_time_had P S d i li p on_time_so_far

    had_then : had_up_to P d i k (suc p) ≡ now_had
    had_then = on_time_grows P S d i li p on_time_so_far

    -- where the job has not had what it takes, its deadline does not follow, since the run is on time
    not_late : now_had < b → deadline_next s i ≡ false
    not_late l =
        no_deadline_follows R.carries R.position_is i li
        (λ e. omega (arith, enough i k li, had_by_deadline P S d i li p (on_time_before P d (suc p) cycle lp on) e))

    -- ---- the next job
    -- by its deadline a job has ended, so that it is not closed open
    ended_by_deadline : deadline_next s i ≡ true → (after_slice s ran report i).ended ≡ true
    unfolding takes
    ended_by_deadline t =
        ⊎_elim
        (λ (full : b ≤ now_had). after_slice_lem.ended_is ∙ le-leb b now_had full)
        (λ (short : now_had < b). absurd (true≢false (sym t ∙ not_late short)))
        (le_or_lt b now_had)

    job_next_is : suc p < cycle → HasHad (job_after s ran report i) (had P d (suc p) i) (need i (job P i (suc p))) (P.runtime i (job P i (suc p)))
    unfolding takes
    job_next_is follows =
        ⊎_elim
        (λ (l : suc (age P i p) < P.period i).
        rw (job_goes_on s ran report i (no_release_follows R.carries R.position_is i li l) ended_by_deadline, had_goes_on P S d i li p l, job_stays P S i li p l) after_slice_lem)
        (λ (e : suc (age P i p) ≡ P.period i).
        rw (job_anew s ran report i (release_follows R.carries R.position_is i li e), had_anew P S d i li p e) (fresh_has (need i (job P i (suc p))) (P.runtime i (job P i (suc p))) (some i (job P i (suc p)) li (job_in R.carries R.is_sound i (suc p) li follows))))
        (goes_on_or_ends P S i li p)

    li_state : i < s.count
    li_state = in_state R.carries i li

    byte_before : get_or g (place s i) 0 ≡ byte_up_to P need d i k p
    byte_before = ap (λ (x : ℕ). get_or g x 0) (place_is R.carries R.position_is i li) ∙ R.bytes_are i k li (job_in R.carries R.is_sound i p li lp)

    -- the slice that brings the job what it takes is its own, and its report tells done from over
    module _ (short : had P d p i < b) (full : b ≤ now_had) where
      own : entry P d p ≡ suc i
      own = ⊎_elim (λ (x : (entry P d p ≡ suc i) × (gets (entry P d p) i ≡ 1)). x.0) (λ (x : (entry P d p ≡ suc i → ⊥) × (gets (entry P d p) i ≡ 0)). absurd (omega arith)) (gets_cases (entry P d p) i)

      runs : unless_ended s (entry P d p) ≡ suc i
      unfolding takes
      runs = unless_open s (entry P d p) i own ((R.jobs_are lp i li).ended_is ∙ lt-leb b (had P d p i) short)

      count_is_takes : (job_of s i).used + 1 ≡ b
      unfolding takes
      count_is_takes = omega (arith, (R.jobs_are lp i li).used_is, gets_one (entry P d p) i own)

      ending_byte : get_or (log_after s ran report g) (place s i) 0 ≡ result_byte P need i k
      unfolding result_byte takes
      ending_byte =
          ⊎_elim
          (λ (l : need i k ≤ P.runtime i k).
          let reached : (job_of s i).used + 1 ≡ need i k = omega (arith, count_is_takes) in
          log_done s tab (next_clock s.clock) report g went i li_state (ran_is ∙ runs) (reports i li runs ∙ choose_yes (eqb ((job_of s i).used + 1) (need i k)) 1 0 (eq-eqb _ _ reached))
          ∙ sym (choose_yes (leb (need i k) (P.runtime i k)) 1 2 (le-leb (need i k) (P.runtime i k) l)))
          (λ (l : P.runtime i k < need i k).
          let not-reached : (job_of s i).used + 1 ≡ need i k → ⊥ = λ e. omega (arith, count_is_takes) in
          log_over s tab (next_clock s.clock) report g went i li_state (ran_is ∙ runs) (reports i li runs ∙ choose_no (eqb ((job_of s i).used + 1) (need i k)) 1 0 (ne_eqb _ _ not-reached)) (omega (arith, count_is_takes, runtime_now R.carries R.position_is i li))
          ∙ sym (choose_no (leb (need i k) (P.runtime i k)) 1 2 (lt-leb (need i k) (P.runtime i k) l)))
          (le_or_lt (need i k) (P.runtime i k))

    byte_then : get_or (log_after s ran report g) (place s i) 0 ≡ byte_up_to P need d i k (suc p)
    unfolding takes
    byte_then =
        ⊎_elim
        (λ (ended : b ≤ had P d p i).
        log_ended s tab (next_clock s.clock) report g went i li_state ((R.jobs_are lp i li).ended_is ∙ le-leb b (had P d p i) ended)
        ∙ byte_before ∙ byte_result P need d i k p (omega (arith, had_before)) ∙ sym (byte_result P need d i k (suc p) (omega (arith, had_then))))
        (λ (short : had P d p i < b).
        ⊎_elim
        (λ (full : b ≤ now_had). ending_byte short full ∙ sym (byte_result P need d i k (suc p) (omega (arith, had_then))))
        (λ (still : now_had < b).
        log_open s tab (next_clock s.clock) report g went i li_state (after_slice_lem.ended_is ∙ lt-leb b now_had still) (not_late still)
        ∙ byte_before ∙ byte_none P need d i k p (omega (arith, had_before)) ∙ sym (byte_none P need d i k (suc p) (omega (arith, had_then))))
        (le_or_lt b now_had))
        (le_or_lt b (had P d p i))

  -- every job's byte
  bytes_then : (i k : ℕ) → i < P.count → k < cycle / P.period i → get_or (log_after s ran report g) (offset s i + k) 0 ≡ byte_up_to P need d i k (suc p)
  unfolding byte_up_to
  bytes_then i k li lk =
      ⊎_elim
      (λ (e : k ≡ job P i p). subst (λ (x : ℕ). get_or (log_after s ran report g) (offset s i + x) 0 ≡ byte_up_to P need d i x (suc p)) (sym e) (sym (ap (λ (x : ℕ). get_or (log_after s ran report g) x 0) (place_is R.carries R.position_is i li)) ∙ byte_then i li))
      (λ (ne : k ≡ job P i p → ⊥).
      other_stays R.carries R.position_is i li tab (next_clock s.clock) report g went k lk ne
      ∙ R.bytes_are i k li lk ∙ ap (λ (x : ℕ). choose (leb (takes P need i k) x) (result_byte P need i k) 0) (sym (others_stay P S d i li k p ne)))
      (eq_or_ne k (job P i p))

  -- The next state and log are those of the next slice.
  pub reached_next : Reached P cycle need d m first (suc p) after (log_after s ran report g)
  reached_next =
      record {
        carries = carries_on R.carries kept;
        mode_is = kept.mode_kept ∙ R.mode_is;
        room = omega (arith, kept.job_count_kept, R.room);
        is_sound = state_after_sound s tab (next_clock s.clock) report g went R.carries.jobs_room;
        position_is = omega (arith, kept.position_next, R.position_is);
        jobs_are = λ follows i li.
            subst (λ (j : Job). HasHad j (had P d (suc p) i) (need i (job P i (suc p))) (P.runtime i (job P i (suc p))))
            (sym (job_then R.carries R.position_is i li tab (next_clock s.clock) report g went)) (job_next_is i li follows);
        bytes_are = λ i k li lk. ap (λ (x : ℕ). get_or (log_after s ran report g) (x + k) 0) (kept.offset_kept i) ∙ bytes_then i k li lk;
        beyond = λ x l. log_beyond s tab (next_clock s.clock) report g went x (omega (arith, kept.job_count_kept)) ∙ R.beyond x (omega (arith, kept.job_count_kept));
        long = log-length s tab (next_clock s.clock) report g went ∙ R.long;
      }
    where
      kept : HandedOn s (state_after s ran (next_clock s.clock) report) (next_clock s.clock)
      kept = handed_on s ran (next_clock s.clock) report
