-- `verdict::walk::simulate` meets its contract: before slice t the arrays are the run of the slice rule, and nothing was late.
use Rattle.std.proofs.Common.{rules, ◌≡◌, refl, arith, Err}
use Rattle.verdict.proofs.Cycle.{few, order_small, at_start, numbers_fit, stops, goes_on, ends_well}
use Rattle.verdict.proofs.walk.simulate.Goals as goal

pub loop-t-init : goal.loop-t-init
loop-t-init c = (omega arith, λ S. at_start _ _ _ S _ _ refl c.requires.1)

pub hand_out-requires : goal.hand_out-requires
hand_out-requires c = (few _ _ _ c.requires.0, (c.loop-t.invariant.1 c.requires.0).ahead, order_small _ _ _ c.requires.0)

pub turn-requires : goal.turn-requires
turn-requires c =
    rw (c.hand_out.ensures.1.0, c.hand_out.ensures.1.1)
    (few _ _ _ c.requires.0, order_small _ _ _ c.requires.0, numbers_fit _ _ _ c.requires.0 _ _ _ _ _ _ _ _ (c.loop-t.invariant.1 c.requires.0) c.loop-t-test.true)

pub returns-in_err-later : goal.returns-in_err-later
returns-in_err-later c =
    let gives : c.from_residual.result ≡ Err c.in_err-later.field-0.0 = search rules in
    let turned = rw (c.hand_out.ensures.1.0, c.hand_out.ensures.1.1, c.in_err-later.was) at c.turn.ensures.0 in
    λ S. rw gives (stops _ _ _ S _ _ _ _ _ _ _ _ (c.loop-t.invariant.1 S) c.loop-t-test.true _ _ _ c.hand_out.ensures.0 _ turned)

pub loop-t-preserved : goal.loop-t-preserved
loop-t-preserved c =
    let turned = rw (c.hand_out.ensures.1.0, c.hand_out.ensures.1.1, c.in_ok-later.was) at c.turn.ensures.0 in
    (omega (arith, c.loop-t.invariant.0), λ S. rw c.turn.ensures.1 (goes_on _ _ _ S _ _ _ _ _ _ _ _ (c.loop-t.invariant.1 S) c.loop-t-test.true _ _ _ c.hand_out.ensures.0 _ _ _ _ turned))

pub returns : goal.returns
returns c = λ S. ends_well _ _ _ S _ _ _ _ _ _ _ _ (c.loop-t.invariant.1 S) c.loop-t-test.false
