-- What demand 3 speaks of is there: an accepted build gives the list's own table, and the course of an accepted list whose log has
-- room is a full run, for any needs from one slice up. Every full run is such a course.
use Rattle.std.specs.Prelude.{◌≡◌, List, length, Option, Ok, Err}
use Rattle.std.proofs.Math.Path.{refl}
use Rattle.std.proofs.Common.{◌∙◌, arith, le-ltb}
use Prim.Native.Nat.{ℕ, zero, suc, ◌≤◌, ◌<◌}
use Rattle.basis.specs.Choose.{choose_no}
use Rattle.verdict.proofs.Told.{accepted_as}
use Rattle.plan.specs.Plan.{Demand}
use Rattle.tasks.specs.declared.TaskList.{TaskList}
use Rattle.tasks.specs.List.{plan_of}
use Rattle.tasks.specs.Bounds.{cycle_of, jobs_of}
use Rattle.verdict.specs.Verdict.{Verdict, verdict_of, verdict_answer}
use Rattle.verdict.specs.Table.{fitted, Built}
use Rattle.run.specs.declared.Mode.{Mode}
use Rattle.start.specs.declared.Started.{Started}
use Rattle.start.specs.Start.{begun_of, begun_state, begun_log, Begins}
use Rattle.run.specs.declared.State.{State}
use Rattle.run.specs.declared.Next.{Next}
use Rattle.run.specs.Step.{next_clock, answer_of, Stepped}
use Rattle.bench.specs.Course.{Course, report_in, refusal_in, state_in, log_in, closed, course_at}
use Rattle.bench.specs.Drive.{begun as first_of}
use Rattle.promises.specs.Demand2Holds.{list_accepted, table_is}
use Rattle.promises.specs.Demand3.{jobs_in, Own, FullRun}
use Rattle.promises.specs.Begun.{accepted_starts}

-- ---- tables
-- A table that reaches the cycle's end is not refused by 8.
pub fitted_whole : (v : Verdict) (room : ℕ) → (verdict_answer v).cycle ≤ room → fitted v room ≡ v
unfolding fitted verdict_answer
fitted_whole (Ok a) room le = choose_no _ _ _ (le-ltb room a.cycle le)
fitted_whole (Err r) room le = refl

-- What an accepted build leaves in the lent bytes is the list's own table.
pub own_table : (l : TaskList) (supply : ℕ) (old new : List ℕ) (v : Verdict) → Built l supply old new v → (verdict_answer v).number ≡ 0 → Own (plan_of l) (cycle_of l) new
own_table l supply old new v built z =
    let T = table_is l supply (accepted_as l supply (list_accepted l supply old new v built z)).keeps old new v built z in
    record { reaches = T.reaches; entries = T.entries }

-- ---- full runs
module _ (l : TaskList) (supply : ℕ) (asked : Option Mode) (clock : ℕ) (log : List ℕ) where
  -- The start as its contract has it.
  abbrev started : Started
  started = record { answer = begun_of (verdict_of l supply) (length log); state = begun_state l asked clock (verdict_of l supply) (length log) }

  pub starts : Begins l supply asked clock log (begun_log (verdict_of l supply) log) started
  starts = record { answer = refl; state = refl; bytes = refl }

  module _ (need : Demand) (tab ends : List ℕ) where
    abbrev course : ℕ → Course
    course = course_at tab need (first_of l supply asked clock log ends)

    unfoldable pub course_run : (verdict_answer (verdict_of l supply)).number ≡ 0 → jobs_of l ≤ length log → ((i k : ℕ) → i < l.count → k < jobs_in l i → 1 ≤ need i k) → Own (plan_of l) (cycle_of l) tab → FullRun l
    unfolding course_at closed state_in log_in refusal_in first_of
    course_run ok room needs own = record {
      supply = supply;
      asked = asked;
      clock = clock;
      need = need;
      tab = tab;
      log = log;
      needs_from = needs;
      own = own;
      begun = started;
      states = λ p. (course p).state;
      logs = λ p. (course p).log;
      answers = λ p. record { answer = answer_of (refusal_in tab need (course p)); state = (course (suc p)).state };
      begins = starts;
      accepted = accepted_starts l supply asked clock log _ _ starts ok room;
      from_start = refl;
      steps = record { stepped = λ p _. record { answer = refl; state = refl; bytes = refl }; handed = λ p _. refl };
    }

-- There is no other: the states and logs of a full run are those of the course.
same_slice : (tab : List ℕ) (need : Demand) (c : Course) (s : State) (g g' : List ℕ) (r : Next) → s ≡ c.state → g ≡ c.log → Stepped s tab (next_clock s.clock) (report_in tab need s) g g' r
    → (r.state ≡ (closed tab need c).state) × (g' ≡ (closed tab need c).log)
unfolding closed state_in log_in refusal_in
same_slice tab need c s g g' r es eg S = (cc S.state, cc S.bytes)

module _ (l : TaskList) (run : FullRun l) (ends : List ℕ) where
  abbrev held : ℕ → Course
  held = course_at run.tab run.need (first_of l run.supply run.asked run.clock run.log ends)

  pub is_course : (p : ℕ) → p ≤ cycle_of l → (run.states p ≡ (held p).state) × (run.logs p ≡ (held p).log)
  unfolding course_at first_of
  is_course zero lp = (run.from_start ∙ run.begins.state, run.begins.bytes)
  is_course (suc p) lp =
      let so_far = is_course p (omega arith) in
      let step = same_slice run.tab run.need (held p) (run.states p) (run.logs p) (run.logs (suc p)) (run.answers p) so_far.0 so_far.1 (run.steps.stepped p lp) in
      (run.steps.handed p lp ∙ step.0, step.1)
