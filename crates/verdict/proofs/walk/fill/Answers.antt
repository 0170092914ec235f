-- `verdict::walk::fill` meets its contract: the slices of the turn so far hold the entry.
use Rattle.std.proofs.Common.{arith}
use Rattle.verdict.proofs.Handing.{turn_long, filled_turn}
use Rattle.verdict.proofs.walk.fill.Goals as goal

pub returns : goal.returns
returns c = λ _.
    filled_turn _ _ _ _ _ c.requires.0 c.if-entries-end.false
    (omega (arith, c.loop-held.auto.turn, turn_long c.args.entries.now c.args.from c.args.to c.if-entries-end.false))
    (λ k l. c.loop-held.invariant k (omega (arith, c.loop-held-test.false, turn_long c.args.entries.now c.args.from c.args.to c.if-entries-end.false)))
