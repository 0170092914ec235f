-- `verdict::walk::Jobs::hand_out` meets its contract: the tasks before place k have had their turn.
use Rattle.std.proofs.Common.{◌∙◌, refl, arith}
use Rattle.verdict.proofs.Handing.{handing_none, handing_more, handed_out, handed_all}
use Rattle.verdict.proofs.walk.Jobs.hand_out.Goals as goal

pub loop-k-init : goal.loop-k-init
loop-k-init c = (omega arith, handing_none c.args.ranked.now.order c.args.ranked.now.dues c.args.self.now.lacks c.args.self.now.ends c.args.entries.now c.args.count _ _ c.requires.1, (refl, refl))

pub returns-then-to-next : goal.returns-then-to-next
returns-then-to-next c = (handed_out c.args.ranked.now.order c.args.ranked.now.dues c.args.self.now.lacks c.args.self.now.ends c.args.entries.now c.args.count _ _ c.requires.1 _ _ _ _ _ c.loop-k.invariant.1 c.loop-k-test.true _ _ _ _ c.hand_one-to.ensures.0 c.if-to-next.true, (c.hand_one-to.ensures.1.0 ∙ c.loop-k.invariant.2.0, c.hand_one-to.ensures.1.1 ∙ c.loop-k.invariant.2.1))

pub loop-k-preserved : goal.loop-k-preserved
loop-k-preserved c = (omega arith, handing_more c.args.ranked.now.order c.args.ranked.now.dues c.args.self.now.lacks c.args.self.now.ends c.args.entries.now c.args.count _ _ c.requires.1 _ _ _ _ _ c.loop-k.invariant.1 c.loop-k-test.true _ _ _ _ c.hand_one-to.ensures.0 c.if-to-next.false, (c.hand_one-to.ensures.1.0 ∙ c.loop-k.invariant.2.0, c.hand_one-to.ensures.1.1 ∙ c.loop-k.invariant.2.1))

pub returns : goal.returns
returns c = (handed_all c.args.ranked.now.order c.args.ranked.now.dues c.args.self.now.lacks c.args.self.now.ends c.args.entries.now _ _ _ c.requires.1 _ _ _ _ _ (omega arith) c.loop-k.invariant.1, c.loop-k.invariant.2)
