-- The quick question: whether a list is accepted, and if not, the refusal's number and the task that it names. Refusals 1 to 6 and
-- 20 come first; then task by task in rank the test is tried at the task's points alone, in rising order.
use Rattle.std.specs.Prelude.{◌≡◌, refl, ℕ, suc, eqb, Result, Ok, Err}
use Rattle.std.proofs.Common.{arith, eq-eqb, ne_eqb}
use Rattle.basis.specs.Choose.{choose, choose_yes, choose_no}
use Rattle.basis.specs.Answer.{Answer, refusal, none}
use Rattle.plan.specs.Points.{first_without}
use Rattle.tasks.specs.declared.TaskList.{TaskList}
use Rattle.tasks.specs.declared.InBounds.{InBounds}
use Rattle.tasks.specs.declared.refusals.Refusal.{Refusal}
use Rattle.tasks.specs.declared.refusals.Refusal.TheVariants.{Fails}
use Rattle.tasks.specs.List.{plan_of}
use Rattle.tasks.specs.Bounds.{bounds_of}
use Rattle.tasks.specs.Refusal.{refusal_answer}
use Rattle.quick.specs.declared.Refused.{Refused}

-- A refusal's number and task, and nothing else.
unfoldable pub named : Refusal → Refused
named r = record { number = (refusal_answer r).number; task = (refusal_answer r).task }

-- 7 names the first-ranking task that passes at none of its points, an entry; 0: there is none.
unfoldable pub tried : ℕ → Result (Unit {0}) Refused
tried entry = choose (eqb entry 0) (Ok tt) (Err (named (Fails entry)))

unfoldable pub quick_from : TaskList → Result InBounds Refusal → Result (Unit {0}) Refused
quick_from l (Err r) = Err (named r)
quick_from l (Ok k) = tried (first_without (plan_of l))

unfoldable pub quick_of : TaskList → ℕ → Result (Unit {0}) Refused
quick_of l supply = quick_from l (bounds_of l supply)

-- The paper's values of each case.
unfoldable pub quick_answer : Result (Unit {0}) Refused → Answer
quick_answer (Ok done) = none
quick_answer (Err r) = refusal r.number r.task

-- Where no task is found, and where one is.
pub tried_none : tried 0 ≡ Ok tt
unfolding tried
tried_none = choose_yes _ (Ok tt) (Err (named (Fails 0))) (eq-eqb 0 0 refl)

pub tried_late : (i : ℕ) → tried (suc i) ≡ Err (named (Fails (suc i)))
unfolding tried
tried_late i = choose_no _ (Ok tt) (Err (named (Fails (suc i)))) (ne_eqb (suc i) 0 (λ z. omega arith))
