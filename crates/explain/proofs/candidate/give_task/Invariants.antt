-- `explain::candidate::give_task` meets its contract: the needs of the first k jobs are laid.
use Rattle.std.proofs.Common.{◌≡◌, ◌+◌, ◌*◌, ℕ, suc, length}
use Rattle.basis.specs.Bytes.{at}
use Rattle.basis.specs.Sum.{sum}
use Rattle.plan.specs.Plan.{gets}
use Rattle.explain.specs.Shapes.{Laid}
use Rattle.explain.proofs.candidate.give_task.Given as goal

abbrev pub invariant-loop-k : goal.invariant-loop-k
invariant-loop-k l = (length l.needs ≡ length l.initial.needs) × ((i : ℕ) → l.entry ≡ suc i → Laid (λ j. sum (λ n. gets (at l.run (j * l.period + n)) i) l.period) l.from l.k l.initial.needs l.needs)
