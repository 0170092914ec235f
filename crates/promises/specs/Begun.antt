-- What an accepted start gives: a sound state at slice 0 that carries the list's plan, and a log without a result.
use Rattle.std.specs.Prelude.{◌≡◌, refl, List, ℕ, ◌+◌, ◌/◌, ◌≤◌, ◌<◌, length, get_or, replicate, Option, Result, Err}
use Rattle.std.proofs.Math.Path.{sym, ap, ap₂, subst}
use Rattle.std.proofs.Common.{◌∙◌, ⊎_elim, arith, lt-ltb, le-ltb}
use Rattle.std.proofs.Math.Bool.{false, true≢false}
use Rattle.std.specs.Int.{◌∣◌}
use Rattle.std.proofs.Math.Nat.{mod-eq_of_lt}
use Rattle.std.proofs.lemmas.List.{length-replicate, get_or-replicate}
use Rattle.std.proofs.Math.ListN.{get_or-eq_default}
use Rattle.basis.specs.Choose.{choose_yes, choose_no, le_or_lt}
use Rattle.basis.specs.Bytes.{at, overwrite, overwrite-length, overwrite_at, overwrite_kept}
use Rattle.basis.specs.Answer.{Answer, refusal, none}
use Rattle.plan.specs.Plan.{Demand, OnTimeUpTo, deadline, job, takes}
use Rattle.plan.proofs.Run.{had_first_lem}
use Rattle.plan.proofs.Progress.{nothing_before_release}
use Rattle.tasks.specs.declared.Task.{Task}
use Rattle.tasks.specs.declared.TaskList.{TaskList}
use Rattle.tasks.specs.declared.refusals.Refusal.{Refusal}
use Rattle.tasks.specs.List.{task_at, plan_of}
use Rattle.tasks.specs.Refusal.{refusal_answer}
use Rattle.tasks.specs.Bounds.{cycle_of, job_sum, jobs_of}
use Rattle.tasks.specs.Kept.{KeepsBounds}
use Rattle.tasks.proofs.Kept.{broken_tells, plan_sound, cycle_pos, period_divides_cycle}
use Rattle.verdict.specs.Verdict.{Verdict, verdict_of, verdict_answer}
use Rattle.run.specs.declared.Mode.{Mode}
use Rattle.run.specs.declared.State.{State}
use Rattle.start.specs.declared.Started.{Started}
use Rattle.run.specs.State.{Job, fresh, period_of, due_of, runtime_of, current_of, age_of, job_of, offset, job_count}
use Rattle.run.specs.Sound.{SoundState}
use Rattle.start.specs.Start.{mode_of, start_state, begun_of, begun_state, begun_log, Begins, begun_answer}
use Rattle.run.specs.Places.{job_within}
use Rattle.verdict.specs.Answers.{ByBounds, ForLateness, OnTimeAll}
use Rattle.verdict.proofs.Told.{verdict_tells, accepted_as}
use Rattle.promises.specs.Demand3.{place_of}
use Rattle.promises.specs.Carries.{Carries, offset_is, job_in}
use Rattle.promises.specs.Reached.{fresh_has, Reached, byte_none}
use Rattle.promises.specs.Earned.{byte_of, Honest}

-- ---- an accepted start
pub record Accepted (l : TaskList) (supply : ℕ) (asked : Option Mode) (clock : ℕ) (log log' : List ℕ) (r : Started) : Type 0 where
  pub keeps : KeepsBounds l supply
  pub on_time : OnTimeUpTo (plan_of l) (plan_of l).runtime (cycle_of l)
  pub room : jobs_of l ≤ length log
  pub state_is : r.state ≡ start_state l (cycle_of l) (mode_of asked) clock
  pub log_is : log' ≡ overwrite (λ _. 0) (jobs_of l) log

pub start_accepted : (l : TaskList) (supply : ℕ) (asked : Option Mode) (clock : ℕ) (log log' : List ℕ) (r : Started)
    → Begins l supply asked clock log log' r → (begun_answer r.answer).number ≡ 0 → Accepted l supply asked clock log log' r
unfolding begun_of begun_state begun_log begun_answer refusal_answer refusal
start_accepted l supply asked clock log log' r begins z =
    ⊎_elim
    (λ (h : ByBounds l supply (verdict_of l supply)). never h.is (λ n. let T = broken_tells l supply h.reason h.broken in T.some (sym (ap (λ (a : Answer). a.number) T.says) ∙ n)))
    (⊎_elim
    (λ (h : ForLateness l supply (verdict_of l supply)). never h.is (λ n. omega arith))
    (λ (h : OnTimeAll l supply (verdict_of l supply)).
    let answer = begins.answer ∙ ap (λ (v : Verdict). begun_of v (length log)) h.is in
    ⊎_elim
    (λ (le : jobs_of l ≤ length log).
    record {
      keeps = h.keeps;
      on_time = h.on_time;
      room = le;
      state_is = begins.state ∙ ap (λ (v : Verdict). begun_state l asked clock v (length log)) h.is ∙ choose_no _ _ _ (le-ltb (length log) (jobs_of l) le);
      log_is = begins.bytes ∙ ap (λ (v : Verdict). begun_log v log) h.is ∙ choose_no _ _ _ (le-ltb (length log) (jobs_of l) le);
    })
    (λ (lt : length log < jobs_of l). absurd (omega (arith, ap (λ (x : Result (Unit {0}) Refusal). (begun_answer x).number) (answer ∙ choose_yes _ _ _ (lt-ltb (length log) (jobs_of l) lt)))))
    (le_or_lt (jobs_of l) (length log))))
    (verdict_tells l supply)
  where
    -- a refused list is refused by the start
    never : {A : Type 0} {reason : Refusal} → verdict_of l supply ≡ Err reason → ((refusal_answer reason).number ≡ 0 → ⊥) → A
    never e some = absurd (some (sym (ap (λ (x : Result (Unit {0}) Refusal). (begun_answer x).number) (begins.answer ∙ ap (λ (v : Verdict). begun_of v (length log)) e)) ∙ z))

-- ---- the jobs of a list
-- Run-times are from one slice up, so that every job takes one at least.
pub takes_some : (l : TaskList) (supply : ℕ) → KeepsBounds l supply → (need : Demand) → ((i k : ℕ) → i < l.count → k < cycle_of l / (plan_of l).period i → 1 ≤ need i k)
    → (i k : ℕ) → i < l.count → k < cycle_of l / (plan_of l).period i → 1 ≤ takes (plan_of l) need i k
unfolding takes plan_of
takes_some l supply K need needs i k li lk = omega (arith, needs i k li lk, (K.fits i li).runtime_from)

-- In a state that carries the list's plan the jobs stand in the log where the list puts them.
pub offset_listed : (l : TaskList) (s : State) → Carries (plan_of l) (cycle_of l) s → (i : ℕ) → i ≤ l.count → offset s i ≡ job_sum l.tasks (cycle_of l) i
unfolding job_sum plan_of
offset_listed l s C i li = offset_is C i li

-- ---- the state of a start
pub all_alike : {A : Type 0} (x : A) (i : ℕ) → get_or (replicate 16 x) i x ≡ x
all_alike x i = ⊎_elim (λ (h : 16 ≤ i). get_or-eq_default (replicate 16 x) x {n = i} (omega (arith, length-replicate 16 x))) (λ (h : i < 16). get_or-replicate 16 i x x h) (le_or_lt 16 i)

module _ (l : TaskList) (supply : ℕ) (K : KeepsBounds l supply) (m : Mode) (clock : ℕ) where
  abbrev s : State
  s = start_state l (cycle_of l) m clock

  -- what is read from each task
  told : (f : Task → ℕ) (i : ℕ) → i < l.count → at (overwrite (λ i. f (task_at l.tasks i)) l.count (replicate 16 0)) i ≡ f (task_at l.tasks i)
  told f i li = overwrite_at (λ i. f (task_at l.tasks i)) (replicate 16 0) 0 l.count i li (omega (arith, K.few))

  pub start_period : (i : ℕ) → i < l.count → period_of s i ≡ (plan_of l).period i
  unfolding period_of plan_of start_state
  start_period = told (λ (t : Task). t.period)

  pub start_due : (i : ℕ) → i < l.count → due_of s i ≡ (plan_of l).due i
  unfolding due_of plan_of start_state
  start_due = told (λ (t : Task). t.deadline)

  pub start_runtime : (i k : ℕ) → i < l.count → runtime_of s i k ≡ (plan_of l).runtime i k
  unfolding runtime_of plan_of start_state
  start_runtime i k = told (λ (t : Task). t.runtime) i

  pub start_job : (i : ℕ) → job_of s i ≡ fresh
  unfolding start_state job_of fresh
  start_job i = ap₂ (λ u e. record { used = u; ended = e }) (all_alike 0 i) (all_alike false i)

  pub start_carries : Carries (plan_of l) (cycle_of l) s
  unfolding plan_of start_state
  start_carries = record {
    count_is = refl;
    cycle_is = refl;
    period_is = start_period;
    due_is = start_due;
    runtime_is = start_runtime;
    key_is = λ i k. start_due i;
    jobs_room = record { used_room = omega (arith, K.few); ended_room = omega (arith, K.few) };
  }

  start_jobs : job_count s ≡ jobs_of l
  unfolding job_count jobs_of start_state
  start_jobs = offset_listed l s start_carries l.count (omega arith)

  -- Every job of the cycle has its place among the jobs.
  pub place_within : (i k : ℕ) → i < l.count → k < cycle_of l / (plan_of l).period i → place_of l i k < jobs_of l
  unfolding place_of start_state
  place_within i k li lk =
      omega (arith, job_within s i k li (subst (λ (x : ℕ). k < cycle_of l / x) (sym (start_period i li)) lk), start_jobs, offset_listed l s start_carries i (omega arith))

  start_age : (i : ℕ) → i < l.count → age_of s i ≡ 0
  unfolding age_of start_state plan_of
  start_age i li = mod-eq_of_lt (omega (arith, start_period i li, (K.fits i li).period_from))

  start_sound : SoundState s
  unfolding start_state fresh plan_of
  start_sound = record {
    count_from = K.some;
    count_within = K.few;
    cycle_from = cycle_pos l supply K;
    cycle_to = K.cycle_within;
    position_to = omega arith;
    tasks_sound = λ i li. record {
      period_from = omega (arith, start_period i li, (K.fits i li).period_from);
      period_to = omega (arith, start_period i li, (K.fits i li).period_to);
      period_divides = subst (λ (x : ℕ). x ∣ cycle_of l) (sym (start_period i li)) (period_divides_cycle l supply K i li);
      runtime_from = omega (arith, start_runtime i (current_of s i) li, (K.fits i li).runtime_from);
      runtime_to = omega (arith, start_runtime i (current_of s i) li, start_period i li, (K.fits i li).runtime_to);
      due_from = omega (arith, start_runtime i (current_of s i) li, start_due i li, (K.fits i li).deadline_from);
      due_to = omega (arith, start_period i li, start_due i li, (K.fits i li).deadline_to);
      used_to = omega (arith, ap (λ (j : Job). j.used) (start_job i));
      used_below = λ _. omega (arith, ap (λ (j : Job). j.used) (start_job i), start_runtime i (current_of s i) li, (K.fits i li).runtime_from);
      open_before = λ _. omega (arith, start_age i li, start_due i li, (K.fits i li).runtime_from, (K.fits i li).deadline_from);
    };
  }

  -- ---- its log
  module _ (log : List ℕ) (room : jobs_of l ≤ length log) where
    abbrev cleared : List ℕ
    cleared = overwrite (λ _. 0) (jobs_of l) log

    pub start_byte : (i k : ℕ) → i < l.count → k < cycle_of l / (plan_of l).period i → get_or cleared (offset s i + k) 0 ≡ 0
    unfolding place_of
    start_byte i k li lk =
        let inside : offset s i + k < jobs_of l = omega (arith, place_within i k li lk, offset_listed l s start_carries i (omega arith)) in
        overwrite_at (λ _. 0) log 0 (jobs_of l) (offset s i + k) inside (omega arith)

    -- The drive begins, in either mode.
    pub start_reached : (need d : Demand) → ((i k : ℕ) → i < l.count → k < cycle_of l / (plan_of l).period i → 1 ≤ need i k) → Reached (plan_of l) (cycle_of l) need d m log 0 s cleared
    unfolding plan_of takes start_state
    start_reached need d needs = record {
      carries = start_carries;
      mode_is = refl;
      room = omega (arith, start_jobs);
      is_sound = start_sound;
      position_is = refl;
      jobs_are = λ begins i li. rw (start_job i, had_first_lem (plan_of l) d i) (fresh_has (need i (job (plan_of l) i 0)) ((plan_of l).runtime i (job (plan_of l) i 0)) (takes_some l supply K need needs i (job (plan_of l) i 0) li (job_in start_carries start_sound i 0 li begins)));
      bytes_are = λ i k li lk.
          start_byte i k li lk
          ∙ sym (byte_none (plan_of l) need d i k 0 (omega (arith, takes_some l supply K need needs i k li lk, nothing_before_release (plan_of l) (plan_sound l supply K) d i li k 0 (omega arith))));
      beyond = λ x lx. overwrite_kept (λ _. 0) log 0 (jobs_of l) x (omega (arith, start_jobs));
      long = overwrite-length (λ _. 0) log (jobs_of l);
    }

    -- Log and jobs agree from the start.
    pub start_honest : Honest (plan_of l) (cycle_of l) s cleared
    unfolding start_state byte_of fresh plan_of deadline
    start_honest = record {
      carries = start_carries;
      is_sound = start_sound;
      tells = λ i k li lk. record {
        to_come = λ _. start_byte i k li lk;
        current_open = λ _ _. start_byte i k li lk;
        current_ended = λ _ t _. true≢false (sym t ∙ ap (λ (j : Job). j.ended) (start_job i));
        passed = λ h _. omega (arith, (plan_sound l supply K).due_pos i li);
      };
    }

-- An accepted list starts, if the log has room for its jobs.
pub accepted_starts : (l : TaskList) (supply : ℕ) (asked : Option Mode) (clock : ℕ) (log log' : List ℕ) (r : Started)
    → Begins l supply asked clock log log' r → (verdict_answer (verdict_of l supply)).number ≡ 0 → jobs_of l ≤ length log → (begun_answer r.answer).number ≡ 0
unfolding begun_of begun_answer none refusal
accepted_starts l supply asked clock log log' r begins z room =
    ap (λ (x : Result (Unit {0}) Refusal). (begun_answer x).number)
    (begins.answer ∙ ap (λ (v : Verdict). begun_of v (length log)) (accepted_as l supply z).is ∙ choose_no _ _ _ (le-ltb (length log) (jobs_of l) room))
