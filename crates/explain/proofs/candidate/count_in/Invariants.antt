-- `explain::candidate::count_in` meets its contract: the slices so far are counted.
use Rattle.std.proofs.Common.{◌≡◌, ◌≤◌, ℕ, suc}
use Rattle.basis.specs.Bytes.{at}
use Rattle.basis.specs.Sum.{sum}
use Rattle.plan.specs.Plan.{gets}
use Rattle.explain.proofs.candidate.count_in.Given as goal

abbrev pub invariant-loop-other : goal.invariant-loop-other
invariant-loop-other l = (l.count ≤ l.other-index) × ((i : ℕ) → l.entry ≡ suc i → l.count ≡ sum (λ n. gets (at l.run n) i) l.other-index)
