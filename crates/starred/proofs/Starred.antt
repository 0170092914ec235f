-- The starred lists come out as the paper has them, and our own as they were worked by hand: the definitions compute it.
use Rattle.std.specs.Prelude.{refl}
use Rattle.basis.specs.Choose.{choose, within}
use Rattle.basis.specs.Least.{least}
use Rattle.basis.specs.Sum.{sum}
use Rattle.basis.specs.Bytes.{overwrite}
use Rattle.basis.specs.Answer.{refusal, none, ◌or_else◌, first_found}
use Rattle.plan.specs.Plan.{ranks_before, first_of, first, job, age, key_in, wants, pick, gets, had_after, had_all, had, entry, given, table}
use Rattle.tasks.specs.List.{no_task, task_at, plan_of, list_of}
use Rattle.tasks.specs.Refusal.{refusal_answer, bound_refusal, unless_broken}
use Rattle.tasks.specs.Euclid.{euclid, gcd_of, lcm_of}
use Rattle.tasks.specs.Bounds.{multiple, memory_sum, job_sum, cycle_of, jobs_of, of_count, of_numbers, of_task, of_memory, of_cycle, found, answer, bounds_of}
use Rattle.verdict.specs.Lateness.{received, missing, missed_at, late_by, earlier, lateness}
use Rattle.verdict.specs.Margin.{first_end, margin, tighter, tightest}
use Rattle.verdict.specs.Verdict.{judged, verdict_from, verdict_of, verdict_answer}
use Rattle.verdict.specs.Table.{tabled}
use Rattle.starred.specs.Lists.{task, verdict, entries, accepted, late, A, B, C, D, E, F, G, H, Starred, due, moving, still, crowded, hurried, WithDeadlines}

worked : Starred × WithDeadlines
unfolding A B C D E F G H due moving still crowded hurried task verdict entries accepted late list_of plan_of verdict_answer tabled choose sum least overwrite ranks_before first_of first job age key_in wants pick gets had_after had_all had entry given table no_task task_at euclid gcd_of lcm_of multiple memory_sum job_sum cycle_of jobs_of refusal none ◌or_else◌ first_found within of_count of_numbers of_task of_memory of_cycle found refusal_answer bound_refusal unless_broken answer bounds_of received missing missed_at late_by earlier lateness first_end margin tighter tightest judged verdict_from verdict_of
worked = (
  record {
    verdict_A = refl;
    table_A = refl;
    verdict_B = refl;
    table_B = refl;
    verdict_C = refl;
    verdict_D = refl;
    verdict_E = refl;
    table_E = refl;
    verdict_F = refl;
    table_F = refl;
    verdict_G = refl;
    table_G = refl;
    verdict_H = refl;
  },
  record {
    verdict_moving = refl;
    table_moving = refl;
    verdict_still = refl;
    table_still = refl;
    verdict_crowded = refl;
    verdict_hurried = refl;
    table_hurried = refl;
    below_the_runtime = refl;
    above_the_period = refl;
  },
)

pub starred : Starred
starred = worked.0

pub with_deadlines : WithDeadlines
with_deadlines = worked.1
