-- Demand 2, the statement, about the definitions that the contracts of verdict and table building cite; Demand2Holds has the proof.
use Rattle.std.specs.Prelude.{◌≡◌, false, List, ◌↔◌, ℕ, suc, ◌-◌, ◌*◌, ◌/◌, ◌≤◌, ◌<◌, ℤ, pos, negsuc, length, get_or}
use Rattle.std.proofs.Math.IntN.{sub_ℕ}
use Rattle.basis.specs.Answer.{Answer}
use Rattle.basis.specs.Sum.{sum}
use Rattle.plan.specs.Plan.{Plan, key_in, ranks_before, gets, given, table, OnTime, OnTimeUpTo}
use Rattle.plan.specs.ExactTest.{AllPass, FirstFailing}
use Rattle.tasks.specs.declared.TaskList.{TaskList}
use Rattle.tasks.specs.List.{plan_of}
use Rattle.tasks.specs.Bounds.{cycle_of, jobs_of}
use Rattle.tasks.specs.Kept.{KeepsBounds}
use Rattle.verdict.specs.Margin.{first_end}
use Rattle.verdict.specs.Verdict.{Verdict, verdict_of, verdict_answer}
use Rattle.verdict.specs.Table.{Built}

-- The task that a refusal for lateness names, and its first deadline. No deadline before is missed, and no task that misses one
-- there ranks before it. The margin is what its job had received by then less its run-time, which is below zero. It is the
-- first-ranking task that fails the test.
pub record FirstLate (P : Plan) (task : ℕ) (margin : ℤ) : Type 0 where
  pub place : ℕ
  pub below : place < P.count
  pub named : task ≡ suc place
  pub none_earlier : (t : ℕ) → suc t ≡ P.due place → OnTimeUpTo P P.runtime t
  pub none_before : (j k : ℕ) → j < P.count → (OnTime P P.runtime j k → ⊥) → ranks_before (key_in P 0) j place ≡ false
  pub lacking : given P P.runtime place 0 (P.due place) < P.runtime place 0
  pub margin_is : margin ≡ sub_ℕ (given P P.runtime place 0 (P.due place)) (P.runtime place 0)
  pub fails_first : FirstFailing P place

-- What an accepted verdict gives: the cycle and the job count; the tightest task, than which none has a smaller margin, nor the
-- same and a better rank; and its margin, the deadline less the end of its first job.
pub record AcceptedAs (l : TaskList) (a : Answer) : Type 0 where
  pub place : ℕ
  pub below : place < l.count
  pub named : a.task ≡ suc place
  pub cycle_is : a.cycle ≡ cycle_of l
  pub jobs_is : a.jobs ≡ jobs_of l
  pub margin_is : a.margin ≡ pos ((plan_of l).due place - first_end (plan_of l) place)
  pub smallest : (j : ℕ) → j < l.count → (plan_of l).due place - first_end (plan_of l) place ≤ (plan_of l).due j - first_end (plan_of l) j
  pub then_first : (j : ℕ) → j < l.count → (plan_of l).due place - first_end (plan_of l) place ≡ (plan_of l).due j - first_end (plan_of l) j → ranks_before (key_in (plan_of l) 0) j place ≡ false

-- The end of a first job that is on time: before that slice it has had its run-time, and before no earlier one.
pub record EndsAt (P : Plan) (i e : ℕ) : Type 0 where
  pub within : e ≤ P.due i
  pub has : P.runtime i 0 ≤ given P P.runtime i 0 e
  pub not_before : (t : ℕ) → t < e → given P P.runtime i 0 t < P.runtime i 0

-- The table is the slice rule's, entry for entry, up to the cycle's end, and the bytes beyond are as they were.
pub record TableOf (l : TaskList) (old new : List ℕ) : Type 0 where
  pub long : length new ≡ length old
  pub reaches : cycle_of l ≤ length new
  pub entries : (t : ℕ) → t < cycle_of l → get_or new t 0 ≡ table (plan_of l) t
  pub beyond : (t : ℕ) → cycle_of l ≤ t → get_or new t 0 ≡ get_or old t 0

-- The verdict on a list, in the paper's values.
abbrev pub judged_as : TaskList → ℕ → Answer
judged_as l supply = verdict_answer (verdict_of l supply)

pub record Demand2 : Type 0 where
  -- A list that breaks no bound is accepted exactly if every task passes the test of Lehoczky, Sha and Ding;
  pub accepted_exactly : (l : TaskList) (supply : ℕ) → KeepsBounds l supply → ((judged_as l supply).number ≡ 0) ↔ AllPass (plan_of l)
  -- and exactly if the slice rule gives every job of the cycle its run-time before its deadline.
  pub accepted_on_time : (l : TaskList) (supply : ℕ) → KeepsBounds l supply → ((judged_as l supply).number ≡ 0) ↔ OnTimeUpTo (plan_of l) (plan_of l).runtime (cycle_of l)
  -- A refusal for lateness names the first task that misses, and by how many slices.
  pub late_named : (l : TaskList) (supply : ℕ) → KeepsBounds l supply → (judged_as l supply).number ≡ 7 → FirstLate (plan_of l) (judged_as l supply).task (judged_as l supply).margin
  -- The margin is below zero exactly if the list is refused for lateness.
  pub below_zero : (l : TaskList) (supply : ℕ) → ((judged_as l supply).number ≡ 7) ↔ ((n : ℕ) × ((judged_as l supply).margin ≡ negsuc n))
  -- What an accepted verdict gives, and what the end of a first job is.
  pub accepted_values : (l : TaskList) (supply : ℕ) → KeepsBounds l supply → (judged_as l supply).number ≡ 0 → AcceptedAs l (judged_as l supply)
  pub first_end_lem : (P : Plan) (i : ℕ) → OnTime P P.runtime i 0 → EndsAt P i (first_end P i)
  -- The table of an accepted list is that of the slice rule by deadlines, slice for slice: where they are the periods, the
  -- rate-monotonic one,
  pub table_is : (l : TaskList) (supply : ℕ) → KeepsBounds l supply → (old new : List ℕ) (v : Verdict) → Built l supply old new v → (verdict_answer v).number ≡ 0 → TableOf l old new
  -- each task filling exactly run-time times cycle / period entries.
  pub fills : (l : TaskList) (supply : ℕ) → KeepsBounds l supply → (old new : List ℕ) (v : Verdict) → Built l supply old new v → (verdict_answer v).number ≡ 0
      → (i : ℕ) → i < l.count → sum (λ t. gets (get_or new t 0) i) (cycle_of l) ≡ (plan_of l).runtime i 0 * (cycle_of l / (plan_of l).period i)
