-- Who runs in a slice of a full run is who the plan says, and the step is accepted and leads to the next slice's state and log.
use Rattle.std.specs.Prelude.{◌≡◌, List, true, false, Ok}
use Rattle.std.proofs.Math.Path.{refl, sym, ap}
use Rattle.std.proofs.Common.{◌∙◌}
use Rattle.std.proofs.Math.Logic.{⊎_elim}
use Prim.Native.Nat.{ℕ, zero, suc, ◌/◌, ◌≤◌, ◌<◌}
use native.Mathlib.Omega.{arith}
use borrow.Author.Tests.{le-leb, lt-leb, lt-ltb, le-ltb}
use Rattle.std.proofs.Math.ListN.{get_or}
use Rattle.basis.specs.Choose.{choose, choose_yes, choose_no, choose_either, le_or_lt}
use Rattle.plan.specs.Plan.{Plan, Sound, Demand, job, age, key_in, pick, had, entry, takes, table, filling, by_table, unless_ended as unlessHad, first, OnTimeUpTo}
use Rattle.plan.proofs.Rank.{first_same}
use Rattle.plan.specs.Run.{lacks}
use Rattle.plan.proofs.Run.{lacks_open, lacks_most, had_room}
use Rattle.plan.proofs.Progress.{had_whole}
use Rattle.plan.proofs.Counting.{entry_within}
use Rattle.run.specs.declared.Mode.{Mode}
use Rattle.run.specs.declared.Mode.TheVariants.{Table, Filling}
use Rattle.run.specs.declared.State.{State}
use Rattle.run.specs.declared.Next.{Next}
use Rattle.plan.proofs.Domination.{on_time_before, filling_on_time}
use Rattle.run.specs.State.{key_of, current_of, job_of}
use Rattle.run.specs.Who.{unless_ended, first_open, running_by, running}
use Rattle.run.specs.Step.{next_clock, Stepped}
use Rattle.run.specs.Accepted.{WhoAccepted, StepAccepted, step_answers}
use Rattle.bench.specs.Course.{report_of, report_in}
use Rattle.promises.specs.Demand3.{Own}
use Rattle.promises.specs.Carries.{key_now}
use Rattle.promises.specs.Reached.{reported, Reached, reached_next}

-- ---- who runs
-- The run that the mode follows: the table's, or the filling one's.
unfoldable pub demand_of : Mode → Plan → Demand → Demand
demand_of Table P need = P.runtime
demand_of Filling P need = takes P need

module _ (P : Plan) (S : Sound P) (cycle : ℕ) (need : Demand)
    (start : List ℕ) (p : ℕ) (lp : p < cycle) (s : State) (g : List ℕ) where
  -- Filling, the first-ranking open job is the entry of the filling run, which it has not ended.
  module _ (on : OnTimeUpTo P (takes P need) p) (R : Reached P cycle need (takes P need) Filling start p s g) where
    abbrev b : Demand
    b = takes P need

    ended_if_lem : (i : ℕ) → i < P.count → b i (job P i p) ≤ had P b p i → (job_of s i).ended ≡ true
    unfolding takes
    ended_if_lem i li l = (R.jobs_are lp i li).ended_is ∙ le-leb _ _ l

    open_if : (i : ℕ) → i < P.count → had P b p i < b i (job P i p) → (job_of s i).ended ≡ false
    unfolding takes
    open_if i li l = (R.jobs_are lp i li).ended_is ∙ lt-leb _ _ l

    -- 1 where the job has not ended; a job lacks nothing exactly if it has
    abbrev still_open : ℕ → ℕ
    still_open i = choose (job_of s i).ended 0 1

    none_lacking : (i : ℕ) → i < P.count → still_open i ≡ 0 → lacks P b b p i ≡ 0
    none_lacking i li z =
        ⊎_elim
        (λ (l : b i (job P i p) ≤ had P b p i). omega (arith, lacks_most P b b p i))
        (λ (l : had P b p i < b i (job P i p)). absurd (omega (arith, choose_no {A = ℕ} (job_of s i).ended 0 1 (open_if i li l))))
        (le_or_lt (b i (job P i p)) (had P b p i))

    -- (once its deadline is past it lacks nothing, and has ended since the run is on time)
    lacking_none : (i : ℕ) → i < P.count → lacks P b b p i ≡ 0 → still_open i ≡ 0
    lacking_none i li z =
        choose_yes (job_of s i).ended 0 1
        (ended_if_lem i li
        (⊎_elim
        (λ (past : P.due i ≤ age P i p). omega (arith, had_whole P S b i li p on past))
        (λ (before : age P i p < P.due i). omega (arith, lacks_open P b b p i before))
        (le_or_lt (P.due i) (age P i p))))

    abbrev keys : ℕ → ℕ
    keys i = key_of s i (current_of s i)

    first_open_is : first_open s ≡ entry P b p
    unfolding first_open entry pick lacks key_in
    first_open_is =
        ap (first keys still_open) R.carries.count_is
        ∙ first_same keys (key_in P p) still_open (lacks P b b p) P.count (key_now R.carries R.position_is) none_lacking lacking_none

    entry_open : (e : ℕ) → entry P b p ≡ e → e ≡ unless_ended s e
    unfolding unless_ended
    entry_open zero q = refl
    entry_open (suc i) q =
        let li : i < P.count = omega (arith, entry_within P b p) in
        sym (choose_no (job_of s i).ended 0 (suc i) (open_if i li (had_room P S b i li p q)))

    pub runs_filling : (tab : List ℕ) → running s tab ≡ filling P need p
    unfolding running running_by filling
    runs_filling tab = ap (λ (m : Mode). running_by m s tab) R.mode_is ∙ first_open_is

    filling_runs : (tab : List ℕ) → running s tab ≡ unless_ended s (entry P b p)
    unfolding filling
    filling_runs tab = runs_filling tab ∙ entry_open (entry P b p) refl

  -- By the table, the task of the table's entry runs unless its job has ended.
  module _ (tab : List ℕ) (own : Own P cycle tab) (R : Reached P cycle need P.runtime Table start p s g) where
    table_runs : running s tab ≡ unless_ended s (entry P P.runtime p)
    unfolding running running_by table
    table_runs = ap (λ (m : Mode). running_by m s tab) R.mode_is ∙ ap (unless_ended s) (ap (λ (x : ℕ). get_or tab x 0) R.position_is ∙ own.entries p lp)

    unless_had : (e : ℕ) → e ≤ P.count → unless_ended s e ≡ unlessHad P need p e
    unfolding unless_ended unlessHad takes
    unless_had zero le = refl
    unless_had (suc i) le =
        let ended = (R.jobs_are lp i le).ended_is in
        ⊎_elim
        (λ (l : takes P need i (job P i p) ≤ had P P.runtime p i). choose_yes _ _ _ (ended ∙ le-leb _ _ l) ∙ sym (choose_no _ _ _ (le-ltb _ _ l)))
        (λ (l : had P P.runtime p i < takes P need i (job P i p)). choose_no _ _ _ (ended ∙ lt-leb _ _ l) ∙ sym (choose_yes _ _ _ (lt-ltb _ _ l)))
        (le_or_lt (takes P need i (job P i p)) (had P P.runtime p i))

    pub runs_by_table : running s tab ≡ by_table P need p
    unfolding by_table table
    runs_by_table = table_runs ∙ unless_had (entry P P.runtime p) (entry_within P P.runtime p)

-- ---- every step is accepted
module _ (need : Demand) (s : State) where
  report_most : (e : ℕ) → report_of need s e ≤ 1
  unfolding report_of
  report_most zero = omega arith
  report_most (suc i) = choose_either (λ (x : ℕ). x ≤ 1) _ 1 0 (omega arith) (omega arith)

  report_runs : (e : ℕ) → report_of need s e ≡ 1 → 0 < e
  unfolding report_of
  report_runs zero q = absurd (omega arith)
  report_runs (suc i) q = omega arith

module _ (P : Plan) (cycle : ℕ) (need d : Demand) (m : Mode) (start : List ℕ) (p : ℕ) (lp : p < cycle) (s : State) (g : List ℕ) (R : Reached P cycle need d m start p s g)
    (tab : List ℕ) (own : Own P cycle tab) where
  asking_accepted : WhoAccepted s tab
  unfolding table
  asking_accepted = record {
    is_sound = R.is_sound;
    not_over = omega (arith, R.position_is, R.carries.cycle_is);
    readable = λ _. record {
      length_from = omega (arith, own.reaches, R.carries.cycle_is);
      entry_to = omega (arith, ap (λ (x : ℕ). get_or tab x 0) R.position_is, own.entries p lp, entry_within P P.runtime p, R.carries.count_is);
    };
  }

  drive_accepted : StepAccepted s tab (next_clock s.clock) (report_in tab need s) g
  drive_accepted = rw (reported s tab asking_accepted need) (record {
    asked = asking_accepted;
    log_from = omega (arith, R.room, R.long);
    clock_next = refl;
    report_to = report_most need s (running s tab);
    finished_by = report_runs need s (running s tab);
  })

-- ---- one step
-- The run that a mode follows lets every job have what it takes, and is on time where the plan is.
pub run_enough : (P : Plan) (need : Demand) (m : Mode) (i k : ℕ) → takes P need i k ≤ demand_of m P need i k
unfolding demand_of takes
run_enough P need Table i k = omega arith
run_enough P need Filling i k = omega arith

pub run_on_time : (P : Plan) → Sound P → (cycle : ℕ) (need : Demand) → OnTimeUpTo P P.runtime cycle → (m : Mode) → OnTimeUpTo P (demand_of m P need) cycle
unfolding demand_of
run_on_time P S cycle need on Table = on
run_on_time P S cycle need on Filling = filling_on_time P S cycle on need

module _ (P : Plan) (S : Sound P) (cycle : ℕ) (need : Demand) (on : OnTimeUpTo P P.runtime cycle) (tab : List ℕ) (own : Own P cycle tab)
    (start : List ℕ) (p : ℕ) (lp : p < cycle) (s : State) (g : List ℕ) where
  -- The slice goes to the entry of that run, unless its job has ended;
  pub runs_as : (m : Mode) → Reached P cycle need (demand_of m P need) m start p s g → running s tab ≡ unless_ended s (entry P (demand_of m P need) p)
  unfolding demand_of
  runs_as Table R = table_runs P S cycle need start p lp s g tab own R
  runs_as Filling R = filling_runs P S cycle need start p lp s g (on_time_before P (takes P need) p cycle (omega arith) (filling_on_time P S cycle on need)) R tab

  -- and the step is accepted and leads on.
  pub leads_on : ((i k : ℕ) → i < P.count → k < cycle / P.period i → 1 ≤ takes P need i k) → (m : Mode) → Reached P cycle need (demand_of m P need) m start p s g
      → (g' : List ℕ) (r : Next) → Stepped s tab (next_clock s.clock) (report_in tab need s) g g' r → (r.answer ≡ Ok tt) × Reached P cycle need (demand_of m P need) m start (suc p) r.state g'
  leads_on some m R g' r T =
      let accepted = drive_accepted P cycle need (demand_of m P need) m start p lp s g R tab own in
      let a = step_answers s tab (next_clock s.clock) (report_in tab need s) g g' r accepted T in
      (a.0, rw (a.1, a.2) (reached_next P S cycle need (demand_of m P need) some (λ i k li. run_enough P need m i k) (run_on_time P S cycle need on m) m start p lp s g R tab (runs_as m R) accepted))
