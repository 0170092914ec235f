-- What `bench::drive` leaves is a full run of demand 3, so its theorems hold of every sheet that is printed from it: where the list
-- is accepted, table, log and ends have room and each job's need is from one slice up, the run is whole, every byte is as the need
-- says, and the ends that are noted are the ends of demand 3.
use Rattle.std.specs.Prelude.{◌≡◌, leb, Option}
use Rattle.std.proofs.Math.Path.{sym, ap}
use Rattle.std.proofs.Common.{◌∙◌, ⊎_elim, arith, eq-eqb, ne_eqb, le-leb}
use mathlib.Core.List.{List}
use Prim.Native.Nat.{ℕ, zero, suc, ◌+◌, ◌≤◌, ◌<◌}
use Rattle.std.proofs.Math.ListN.{length, get_or}
use Rattle.std.proofs.lemmas.Bool.{lt-leb}
use Rattle.basis.specs.Choose.{choose, choose_yes, choose_no, le_or_lt, eq_or_ne}
use Rattle.basis.specs.Bytes.{overwrite-length, overwrite_at}
use Rattle.basis.specs.Answer.{Answer, refusal}
use Rattle.verdict.proofs.Told.{accepted_as}
use Rattle.plan.specs.Plan.{Demand}
use Rattle.tasks.specs.declared.TaskList.{TaskList}
use Rattle.tasks.specs.List.{plan_of}
use Rattle.tasks.specs.Bounds.{cycle_of, jobs_of}
use Rattle.tasks.specs.Kept.{KeepsBounds}
use Rattle.verdict.specs.Verdict.{Verdict, verdict_of, verdict_answer}
use Rattle.run.specs.declared.Mode.{Mode}
use Rattle.start.specs.Start.{mode_of, start_state}
use Rattle.run.specs.declared.State.{State}
use Rattle.run.specs.State.{offset}
use Rattle.run.specs.Who.{unless_refused}
use Rattle.run.specs.Step.{next_clock, answer_of, step_says}
use Rattle.bench.specs.declared.Driven.{Driven}
use Rattle.bench.specs.Course.{Course, report_in, need_in, end_of, noted, refusal_in, ends_by, closed, course_at}
use Rattle.bench.specs.Drive.{Drives, begun as first_of}
use Rattle.promises.specs.Demand2Holds.{accepted_values}
use Rattle.promises.specs.Demand3.{jobs_in, Own, FullRun, place_of, end_in}
use Rattle.promises.specs.Demand3Holds.{reached, no_step_refused, logged, end_within, some_at_end, none_before_end, ends_in_own_slice}
use Rattle.promises.specs.Begun.{start_accepted, accepted_starts, offset_listed, start_carries, place_within}
use Rattle.promises.specs.Exists.{fitted_whole, own_table, starts, course_run}

-- ---- one place of the ends
-- A job that is logged from position e on, and not before, is noted at e.
note_next : (p byte end e : ℕ) → 0 < e → end ≡ choose (leb e p) e 0 → (suc p < e → byte ≡ 0) → (suc p ≡ e → byte ≡ 0 → ⊥) → end_of (suc p) byte end ≡ choose (leb e (suc p)) e 0
unfolding end_of choose
note_next p byte end e pos so_far none some =
    ⊎_elim
    (λ (l : e ≤ p). rw (so_far, le-leb e p l, le-leb e (suc p) (omega arith), ne_eqb e 0 (λ z. omega arith)))
    (λ (l : p < e).
    ⊎_elim
    (λ (now : suc p ≡ e). rw (so_far, lt-leb e p l, le-leb e (suc p) (omega arith), ne_eqb byte 0 (some now)) now)
    (λ (ne : suc p ≡ e → ⊥). rw (so_far, lt-leb e p l, lt-leb e (suc p) (omega arith), eq-eqb byte 0 (none (omega arith))))
    (eq_or_ne (suc p) e))
    (le_or_lt e p)

-- ---- the ends of a course
module _ (l : TaskList) (supply : ℕ) (asked : Option Mode) (clock : ℕ) (log : List ℕ) (need : Demand) (tab ends : List ℕ)
    (ok : (verdict_answer (verdict_of l supply)).number ≡ 0) (room : jobs_of l ≤ length log) (needs : (i k : ℕ) → i < l.count → k < jobs_in l i → 1 ≤ need i k) (own : Own (plan_of l) (cycle_of l) tab) where
  abbrev run : FullRun l
  run = course_run l supply asked clock log need tab ends ok room needs own

  abbrev c : ℕ → Course
  c = course_at tab need (first_of l supply asked clock log ends)

  no_refusal : (p : ℕ) → p < cycle_of l → refusal_in tab need (c p) ≡ 0
  unfolding course_run refusal_in refusal
  no_refusal p lp = sym (ap (λ (a : Answer). a.number) (step_says (c p).state tab (next_clock (c p).state.clock) (report_in tab need (c p).state) (c p).log)) ∙ no_step_refused l run p lp

  all_noted : (p : ℕ) → p < cycle_of l → (c (suc p)).ends ≡ noted (c (suc p)).log (c (suc p)).state.position (c p).ends
  unfolding course_at closed ends_by answer_of unless_refused
  all_noted p lp = rw (no_refusal p lp)

  ends_long : (p : ℕ) → p ≤ cycle_of l → length (c p).ends ≡ length ends
  unfolding course_at first_of noted
  ends_long zero lp = overwrite-length (λ _. 0) ends (length ends)
  ends_long (suc p) lp = ap (λ (x : List ℕ). length x) (all_noted p lp) ∙ overwrite-length _ (c p).ends (length (c p).ends) ∙ ends_long p (omega arith)

  module _ (wide : jobs_of l ≤ length ends) (i k : ℕ) (li : i < l.count) (lk : k < jobs_in l i) where
    inside : place_of l i k < jobs_of l
    inside = place_within l supply (accepted_as l supply ok).keeps (mode_of asked) clock i k li lk

    here : (p : ℕ) → p ≤ cycle_of l → place_of l i k < length (c p).ends
    here p lp = omega (arith, inside, ends_long p lp)

    noted_at : (p : ℕ) → p < cycle_of l → get_or (c (suc p)).ends (place_of l i k) 0 ≡ end_of (suc p) (get_or (c (suc p)).log (place_of l i k) 0) (get_or (c p).ends (place_of l i k) 0)
    unfolding noted course_run
    noted_at p lp =
        ap (λ (x : List ℕ). get_or x (place_of l i k) 0) (all_noted p lp)
        ∙ overwrite_at _ (c p).ends 0 (length (c p).ends) (place_of l i k) (here p (omega arith)) (here p (omega arith))
        ∙ ap (λ (x : ℕ). end_of x (get_or (c (suc p)).log (place_of l i k) 0) (get_or (c p).ends (place_of l i k) 0)) (reached l run (suc p) lp).position_is

    end_pos : 0 < end_in l run.logs i k
    end_pos = omega (arith, (ends_in_own_slice l run i k li lk).1.end_is)

    noted_by : (p : ℕ) → p ≤ cycle_of l → get_or (c p).ends (place_of l i k) 0 ≡ choose (leb (end_in l run.logs i k) p) (end_in l run.logs i k) 0
    unfolding course_at first_of course_run
    noted_by zero lp =
        overwrite_at (λ _. 0) ends 0 (length ends) (place_of l i k) (omega (arith, inside)) (omega (arith, inside)) ∙ sym (choose_no _ _ _ (lt-leb (end_in l run.logs i k) 0 end_pos))
    noted_by (suc p) lp =
        noted_at p lp
        ∙ note_next p _ _ (end_in l run.logs i k) end_pos (noted_by p (omega arith)) (none_before_end l run i k li lk (suc p))
        (λ now z. some_at_end l run i k li lk (ap (λ (q : ℕ). get_or (run.logs q) (place_of l i k) 0) (sym now) ∙ z))

    pub ends_are : get_or (c (cycle_of l)).ends (place_of l i k) 0 ≡ end_in l run.logs i k
    ends_are = noted_by (cycle_of l) (omega arith) ∙ choose_yes _ _ _ (le-leb (end_in l run.logs i k) (cycle_of l) (end_within l run i k li lk))

-- ---- the drive
-- What a sheet shows of a full run: the position, the bytes and the ends.
pub record Shows (l : TaskList) (run : FullRun l) (needs log ends : List ℕ) (last : State) : Type 0 where
  pub whole : last.position ≡ cycle_of l
  pub log_is : log ≡ run.logs (cycle_of l)
  pub byte_is : (i k : ℕ) → i < l.count → k < jobs_in l i → get_or log (place_of l i k) 0 ≡ choose (leb (get_or needs (place_of l i k) 0) ((plan_of l).runtime i k)) 1 2
  pub end_is : (i k : ℕ) → i < l.count → k < jobs_in l i → get_or ends (place_of l i k) 0 ≡ end_in l run.logs i k

module _ (l : TaskList) (supply : ℕ) (asked : Option Mode) (clock : ℕ) (needs table table' log log' ends ends' : List ℕ) (r : Driven) (D : Drives l supply asked clock needs table table' log log' ends ends' r)
    (ok : (verdict_answer (verdict_of l supply)).number ≡ 0) (reaches : cycle_of l ≤ length table) (room : jobs_of l ≤ length log) (from_one : (x : ℕ) → x < jobs_of l → 1 ≤ get_or needs x 0) where
  abbrev first : Course
  first = first_of l supply asked clock log ends

  -- the needs are read where the list puts the jobs
  abbrev need : Demand
  need = need_in needs first.state

  keeps : KeepsBounds l supply
  keeps = (accepted_as l supply ok).keeps

  first_is : first.state ≡ start_state l (cycle_of l) (mode_of asked) clock
  unfolding first_of
  first_is = (start_accepted l supply asked clock log _ _ (starts l supply asked clock log) (accepted_starts l supply asked clock log _ _ (starts l supply asked clock log) ok room)).state_is

  need_is : (i k : ℕ) → i < l.count → need i k ≡ get_or needs (place_of l i k) 0
  unfolding need_in place_of
  need_is i k li = ap (λ (x : ℕ). get_or needs (x + k) 0) (ap (λ (s : State). offset s i) first_is ∙ offset_listed l _ (start_carries l supply keeps (mode_of asked) clock) i (omega arith))

  pub needs_from : (i k : ℕ) → i < l.count → k < jobs_in l i → 1 ≤ need i k
  needs_from i k li lk = rw (need_is i k li) (from_one (place_of l i k) (place_within l supply keeps (mode_of asked) clock i k li lk))

  pub own : Own (plan_of l) (cycle_of l) table'
  own =
      own_table l supply table table' r.built D.built
      (ap (λ (v : Verdict). (verdict_answer v).number) (D.built.answer ∙ fitted_whole (verdict_of l supply) (length table) (omega (arith, (accepted_values l supply keeps ok).cycle_is))) ∙ ok)

  -- The drive is a full run,
  unfoldable pub drive_run : FullRun l
  drive_run = course_run l supply asked clock log need table' ends ok room needs_from own

  whole_is : ◌≡◌ {A = Course} (record { state = r.state; log = log'; ends = ends' }) (course_at table' need first (cycle_of l))
  unfolding start_state
  whole_is = D.whole ∙ ap (course_at table' need first) (ap (λ (s : State). s.cycle) first_is)

  -- and its sheet shows it.
  pub drive_shows : jobs_of l ≤ length ends → Shows l drive_run needs log' ends' r.state
  unfolding drive_run course_run
  drive_shows wide = record {
    whole = ap (λ (x : Course). x.state.position) whole_is ∙ (reached l drive_run (cycle_of l) (omega arith)).position_is;
    log_is = ap (λ (x : Course). x.log) whole_is;
    byte_is = λ i k li lk.
        ap (λ (x : Course). get_or x.log (place_of l i k) 0) whole_is
        ∙ logged l drive_run i k li lk
        ∙ ap (λ (x : ℕ). choose (leb x ((plan_of l).runtime i k)) 1 2) (need_is i k li);
    end_is = λ i k li lk. ap (λ (x : Course). get_or x.ends (place_of l i k) 0) whole_is ∙ ends_are l supply asked clock log need table' ends ok room needs_from own wide i k li lk;
  }
