-- What a verdict tells of the list: it is refused by its bounds, refused for lateness, or accepted with every job on time.
use Rattle.std.specs.Prelude.{◌≡◌, ℕ, suc, pos, negsuc, Ok, Err}
use Rattle.plan.specs.Plan.{OnTimeUpTo}
use Rattle.tasks.specs.declared.TaskList.{TaskList}
use Rattle.tasks.specs.declared.refusals.Refusal.{Refusal}
use Rattle.tasks.specs.declared.refusals.Refusal.TheVariants.{Late}
use Rattle.tasks.specs.Refusal.{refusal_answer}
use Rattle.tasks.specs.List.{plan_of}
use Rattle.tasks.specs.Bounds.{bounds_of, cycle_of, jobs_of}
use Rattle.tasks.specs.Kept.{KeepsBounds}
use Rattle.verdict.specs.Verdict.{Verdict, accepted, verdict_answer}
use Rattle.verdict.specs.Deadlines.{EarliestMissed}

-- A bound is broken: refusal 1 to 6 or 20, with margin 0, and 6 with the clash.
pub record ByBounds (l : TaskList) (supply : ℕ) (v : Verdict) : Type 0 where
  pub reason : Refusal
  pub broken : bounds_of l supply ≡ Err reason
  pub not_7 : (refusal_answer reason).number ≡ 7 → ⊥
  pub margin_0 : (refusal_answer reason).margin ≡ pos 0
  pub is : v ≡ Err reason

-- All bounds are kept, and a deadline of the cycle is missed, the earliest by the task named: refusal 7, with what its job lacked
-- as the margin, below zero.
pub record ForLateness (l : TaskList) (supply : ℕ) (v : Verdict) : Type 0 where
  pub keeps : KeepsBounds l supply
  pub place : ℕ
  pub short : ℕ
  pub earliest : EarliestMissed (plan_of l) (cycle_of l) place (suc short)
  pub is : v ≡ Err (Late (suc place) (negsuc short))
  -- The paper's values in full: only 6 names a clash.
  pub says : verdict_answer v ≡ record { number = 7; task = suc place; margin = negsuc short; cycle = 0; jobs = 0; reached = 0; period = 0 }

-- All bounds are kept, and every job of the cycle is on time: accepted, with the tightest task and its margin.
pub record OnTimeAll (l : TaskList) (supply : ℕ) (v : Verdict) : Type 0 where
  pub keeps : KeepsBounds l supply
  pub on_time : OnTimeUpTo (plan_of l) (plan_of l).runtime (cycle_of l)
  pub is : v ≡ Ok (accepted (plan_of l) (cycle_of l) (jobs_of l))
