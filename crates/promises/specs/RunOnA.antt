-- The run on A that the paper works by hand, needs 1 1 1, then 1 5, then 3, in both modes: full runs that are there, so that
-- what demand 3 says of every full run is said of these.
use Rattle.std.specs.Prelude.{◌≡◌, refl, List, [], ◌∷◌, ℕ, zero, suc, ◌≤◌, ◌<◌, length, get_or, replicate, Option, Some}
use Rattle.std.proofs.Common.{sym, ap, ◌∙◌, arith}
use Rattle.std.proofs.lemmas.List.{length-replicate}
use Rattle.basis.specs.Choose.{choose, within}
use Rattle.basis.specs.Least.{least}
use Rattle.basis.specs.Sum.{sum}
use Rattle.basis.specs.Bytes.{overwrite}
use Rattle.basis.specs.Answer.{Answer, refusal, none, ◌or_else◌, first_found}
use Rattle.verdict.proofs.Told.{accepted_as}
use Rattle.plan.specs.Plan.{first_of, first, job, age, key_in, wants, pick, gets, had_after, had_all, had, entry, given, table}
use Rattle.tasks.specs.List.{no_task, task_at, plan_of, list_of}
use Rattle.tasks.specs.Refusal.{unless_broken}
use Rattle.tasks.specs.Euclid.{euclid, gcd_of, lcm_of}
use Rattle.tasks.specs.Bounds.{multiple, memory_sum, job_sum, cycle_of, jobs_of, of_count, of_numbers, of_task, of_memory, of_cycle, found, answer, bounds_of}
use Rattle.verdict.specs.Lateness.{received, missing, missed_at, late_by, earlier, lateness}
use Rattle.verdict.specs.Verdict.{Verdict, judged, verdict_from, verdict_of, verdict_answer}
use Rattle.verdict.specs.Table.{fitted, tabled}
use Rattle.run.specs.declared.Mode.{Mode}
use Rattle.run.specs.declared.Mode.TheVariants.{Table, Filling}
use Rattle.start.specs.Start.{mode_of, start_state, begun_of, begun_state, begun_log}
use Rattle.run.specs.State.{period_of, current_of, age_of, fresh, job_of, every, sound_task, sound, offset, job_count, place, deadline_next, release_next}
use Rattle.run.specs.State.{due_of as dueIn, runtime_of as runtimeIn}
use Rattle.run.specs.Who.{unless_ended, first_open, running_by, running, of9, of10, of11_by, of11, who_found, unless_refused, of_entry, answered, who_of, runner_answer}
use Rattle.run.specs.Step.{of12, next_clock, of13, of14, step_found, after_slice, result_of, with_result, with_late, log_after, closed_at, job_after, state_after, next_state, next_log}
use Rattle.bench.specs.Course.{Course, report_of, report_in, need_in, refusal_in, state_in, log_in, closed, course_at}
use Rattle.bench.specs.declared.Driven.{Driven}
use Rattle.bench.specs.Drive.{begun, Drives}
use Rattle.starred.specs.Lists.{task, verdict, accepted, A}
use Rattle.starred.proofs.Starred.{starred}
use Rattle.promises.specs.Demand2.{AcceptedAs}
use Rattle.promises.specs.Demand2Holds.{accepted_values}
use Rattle.promises.specs.Demand3.{FullRun, place_of, is_logged, end_in}
use Rattle.promises.specs.Exists.{course_run}
use Rattle.promises.specs.Sheet.{drive_run, Shows, drive_shows}

-- ---- what the bench leaves, called as the program `worked` calls it
unfoldable pub needs_on_a : List ℕ
needs_on_a = 1 ∷ 1 ∷ 1 ∷ 1 ∷ 5 ∷ 3 ∷ []

unfoldable pub built_on_a : Verdict
built_on_a = fitted (verdict_of (list_of A) 0) (length (replicate {A = ℕ} 4096 0))

unfoldable pub table_on_a : List ℕ
table_on_a = tabled (list_of A) built_on_a (replicate 4096 0)

unfoldable pub first_on_a : Option Mode → Course
first_on_a asked = begun (list_of A) 0 asked 0 (replicate 6 0) (replicate 6 0)

unfoldable pub last_on_a : Option Mode → Course
last_on_a asked = course_at table_on_a (need_in needs_on_a (first_on_a asked).state) (first_on_a asked) (first_on_a asked).state.cycle

unfoldable pub driven_on_a : Option Mode → Driven
driven_on_a asked = record { built = built_on_a; begun = begun_of (verdict_of (list_of A) 0) (length (replicate {A = ℕ} 6 0)); state = (last_on_a asked).state }

pub drives_on_A : (asked : Option Mode) → Drives (list_of A) 0 asked 0 needs_on_a (replicate 4096 0) table_on_a (replicate 6 0) (last_on_a asked).log (replicate 6 0) (last_on_a asked).ends (driven_on_a asked)
unfolding built_on_a table_on_a first_on_a last_on_a driven_on_a
drives_on_A asked = record { built = record { answer = refl; bytes = refl }; started = refl; whole = refl }

-- ---- it is a full run, and what is left shows it
pub A_accepted : (verdict_answer (verdict_of (list_of A) 0)).number ≡ 0
unfolding verdict accepted
A_accepted = ap (λ (n : Answer). n.number) starred.verdict_A

values : AcceptedAs (list_of A) (verdict_answer (verdict_of (list_of A) 0))
values = accepted_values (list_of A) 0 (accepted_as (list_of A) 0 A_accepted).keeps A_accepted

pub A_reaches : cycle_of (list_of A) ≤ length (replicate {A = ℕ} 4096 0)
unfolding verdict accepted
A_reaches = omega (arith, values.cycle_is, ap (λ (n : Answer). n.cycle) starred.verdict_A, length-replicate {A = ℕ} 4096 0)

A_jobs : jobs_of (list_of A) ≡ 6
unfolding verdict accepted
A_jobs = sym values.jobs_is ∙ ap (λ (n : Answer). n.jobs) starred.verdict_A

pub A_room : jobs_of (list_of A) ≤ length (replicate {A = ℕ} 6 0)
A_room = omega (arith, A_jobs, length-replicate {A = ℕ} 6 0)

pub A_from_one : (x : ℕ) → x < jobs_of (list_of A) → 1 ≤ get_or needs_on_a x 0
unfolding needs_on_a
A_from_one x lx = from_one x (omega (arith, A_jobs))
  where
    from_one : (x : ℕ) → x < 6 → 1 ≤ get_or needs_on_a x 0
    from_one zero lx = omega arith
    from_one (suc zero) lx = omega arith
    from_one (suc (suc zero)) lx = omega arith
    from_one (suc (suc (suc zero))) lx = omega arith
    from_one (suc (suc (suc (suc zero)))) lx = omega arith
    from_one (suc (suc (suc (suc (suc zero))))) lx = omega arith
    from_one (suc (suc (suc (suc (suc (suc x)))))) lx = absurd (omega arith)

unfoldable pub run_on_a : Option Mode → FullRun (list_of A)
run_on_a asked = drive_run (list_of A) 0 asked 0 needs_on_a (replicate 4096 0) table_on_a (replicate 6 0) (last_on_a asked).log (replicate 6 0) (last_on_a asked).ends (driven_on_a asked) (drives_on_A asked) A_accepted A_reaches A_room A_from_one

pub shows_on_A : (asked : Option Mode) → Shows (list_of A) (run_on_a asked) needs_on_a (last_on_a asked).log (last_on_a asked).ends (last_on_a asked).state
unfolding run_on_a driven_on_a
shows_on_A asked = drive_shows (list_of A) 0 asked 0 needs_on_a (replicate 4096 0) table_on_a (replicate 6 0) (last_on_a asked).log (replicate 6 0) (last_on_a asked).ends (driven_on_a asked) (drives_on_A asked) A_accepted A_reaches A_room A_from_one A_room

-- ---- and comes out as the paper has it
unfoldable pub end_on_a : Option Mode → ℕ → ℕ → ℕ
end_on_a asked i k = end_in (list_of A) (run_on_a asked).logs i k

pub record OnA : Type 0 where
  pub log_by_table : (run_on_a (Some Table)).logs 12 ≡ 1 ∷ 1 ∷ 1 ∷ 1 ∷ 2 ∷ 1 ∷ []
  pub log_filling : (run_on_a (Some Filling)).logs 12 ≡ 1 ∷ 1 ∷ 1 ∷ 1 ∷ 2 ∷ 1 ∷ []
  pub third_by_table : end_on_a (Some Table) 2 0 ≡ 10
  pub third_filling : end_on_a (Some Filling) 2 0 ≡ 6
  pub second_by_table : end_on_a (Some Table) 1 1 ≡ 8
  pub second_filling : end_on_a (Some Filling) 1 1 ≡ 8

pub on_A : OnA
unfolding A task needs_on_a built_on_a table_on_a first_on_a run_on_a end_on_a drive_run course_run place_of is_logged end_in list_of plan_of fitted tabled choose sum least overwrite first_of first job age key_in wants pick gets had_after had_all had entry given table no_task task_at euclid gcd_of lcm_of multiple memory_sum job_sum cycle_of jobs_of refusal none ◌or_else◌ first_found of_count of_numbers of_task of_memory of_cycle found unless_broken answer bounds_of received missing missed_at late_by earlier lateness judged verdict_from verdict_of mode_of start_state begun_state begun_log period_of dueIn current_of age_of fresh job_of within every sound_task sound offset job_count place deadline_next release_next runtimeIn unless_ended first_open running_by running of9 of10 of11_by of11 who_found unless_refused of_entry answered who_of runner_answer of12 next_clock of13 of14 step_found after_slice result_of with_result with_late log_after closed_at job_after state_after next_state next_log report_of report_in need_in refusal_in state_in log_in closed course_at begun
on_A = record { log_by_table = refl; log_filling = refl; third_by_table = refl; third_filling = refl; second_by_table = refl; second_filling = refl }
