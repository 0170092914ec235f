-- `explain::candidate::next_entry` meets its contract: nobody before place k waits.
use Rattle.std.proofs.Common.{refl, arith, inl, inr}
use Rattle.plan.specs.Order.{FirstIn}
use Rattle.explain.proofs.candidate.next_entry.Goals as goal

pub returns-then-waits_for-ne0 : goal.returns-then-waits_for-ne0
unfolding FirstIn
returns-then-waits_for-ne0 c = inr (record { place = c.loop-k.k; below = c.loop-k-test.true; is = omega arith; wanting = omega (arith, c.waits_for.ensures); none_before = c.loop-k.invariant })

pub returns : goal.returns
unfolding FirstIn
returns c = inl (record { idle = refl; none = λ k l. c.loop-k.invariant k (omega arith) })
