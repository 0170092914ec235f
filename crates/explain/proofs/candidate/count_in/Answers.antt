-- `explain::candidate::count_in` meets its contract: the slices so far are counted.
use Rattle.std.proofs.Common.{◌≡◌, refl, arith, length}
use Rattle.basis.specs.Bytes.{at}
use Rattle.basis.specs.Sum.{sum}
use Rattle.explain.proofs.Giving.{counted_one, counted_none}
use Rattle.explain.proofs.candidate.count_in.Goals as goal
use Rattle.explain.proofs.candidate.count_in.Goals.{then-other-entry, else-other-entry}

pub loop-other-init : goal.loop-other-init
unfolding sum
loop-other-init c = (omega arith, λ i e. refl)

pub loop-other-preserved : goal.loop-other-preserved
loop-other-preserved c = elim c.if-other-entry.branch [ then-other-entry w ↦ (omega arith, λ i e. counted_one (λ x. at c.args.run.now x) i _ _ _ (c.loop-other.invariant.1 i e) (omega arith) (omega arith)) | else-other-entry w ↦ (omega arith, λ i e. counted_none (λ x. at c.args.run.now x) i _ _ _ (c.loop-other.invariant.1 i e) (λ q. omega arith) (omega arith)) ]

pub returns : goal.returns
returns c = λ i e. let end : c.loop-other.other-index ≡ length c.args.run.now = omega arith in rw end at (c.loop-other.invariant.1 i e)
