-- The verdict: the first refusal that applies, of 1 to 7; or accepted.
use Rattle.std.specs.Prelude.{ℕ, suc, pos, ◌==◌, Result, Ok, Err}
use Rattle.std.proofs.Math.IntN.{sub_ℕ}
use Rattle.basis.specs.Choose.{choose}
use Rattle.basis.specs.Answer.{Answer}
use Rattle.plan.specs.Plan.{Plan}
use Rattle.tasks.specs.declared.TaskList.{TaskList}
use Rattle.tasks.specs.declared.InBounds.{InBounds}
use Rattle.tasks.specs.declared.refusals.Refusal.{Refusal}
use Rattle.tasks.specs.declared.refusals.Refusal.TheVariants as refusal
use Rattle.tasks.specs.Refusal.{refusal_answer}
use Rattle.tasks.specs.List.{plan_of}
use Rattle.tasks.specs.Bounds.{bounds_of}
use Rattle.verdict.specs.declared.Accepted.{Accepted}
use Rattle.verdict.specs.declared.Late.{Late}
use Rattle.verdict.specs.Lateness.{lateness}
use Rattle.verdict.specs.Margin.{margin, tightest}

abbrev pub Verdict : Type 0
Verdict = Result Accepted Refusal

-- Accepted with the tightest task and its margin.
abbrev pub accepted : Plan → ℕ → ℕ → Accepted
accepted P cycle jobs = record { cycle = cycle; jobs = jobs; task = suc (tightest P P.count); margin = pos (margin P (tightest P P.count)) }

-- Refused for lateness, with what the job had received less its run-time; or accepted.
unfoldable pub judged : Plan → ℕ → ℕ → Late → Verdict
judged P cycle jobs late = choose (late.task == 0) (Ok (accepted P cycle jobs)) (Err (refusal.Late late.task (sub_ℕ 0 late.short)))

-- Refusals 1 to 6 come first, with margin 0, and 6 with the clash; then the slice rule over the cycle decides.
unfoldable pub verdict_from : TaskList → Result InBounds Refusal → Verdict
verdict_from l (Err r) = Err r
verdict_from l (Ok k) = judged (plan_of l) k.cycle k.jobs (lateness (plan_of l) k.cycle)

unfoldable pub verdict_of : TaskList → ℕ → Verdict
verdict_of l supply = verdict_from l (bounds_of l supply)

-- The paper's values of each case.
unfoldable pub verdict_answer : Verdict → Answer
verdict_answer (Ok a) = record { number = 0; task = a.task; margin = a.margin; cycle = a.cycle; jobs = a.jobs; reached = 0; period = 0 }
verdict_answer (Err r) = refusal_answer r
