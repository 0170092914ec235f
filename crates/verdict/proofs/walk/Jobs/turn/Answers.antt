-- `verdict::walk::Jobs::turn` meets its contract: the tasks before place k have turned, and none of them was late.
use Rattle.std.proofs.Common.{◌∙◌, refl, arith}
use Rattle.verdict.proofs.Turning.{turning_none, still_fits, turning_more, late_found, turning_all}
use Rattle.verdict.proofs.walk.Jobs.turn.Goals as goal

pub loop-k-init : goal.loop-k-init
loop-k-init c = (turning_none c.args.ranked.now.order c.args.ranked.now.periods c.args.ranked.now.dues c.args.ranked.now.runtimes c.args.self.now.releases c.args.self.now.events c.args.self.now.lacks _ _, refl)

pub turn_one-requires : goal.turn_one-requires
turn_one-requires c = (omega arith, still_fits c.args.ranked.now.order c.args.ranked.now.periods c.args.ranked.now.dues c.args.ranked.now.runtimes c.args.self.now.releases c.args.self.now.events c.args.self.now.lacks _ _ _ _ _ _ _ c.loop-k.invariant.0 (c.requires.2 c.loop-k.k c.loop-k-test.true))

pub returns-in_default : goal.returns-in_default
returns-in_default c = (late_found c.args.ranked.now.order c.args.ranked.now.periods c.args.ranked.now.dues c.args.ranked.now.runtimes c.args.self.now.releases c.args.self.now.events c.args.self.now.lacks _ _ _ _ _ _ _ c.loop-k.invariant.0 _ c.in_default.ensures.0 c.loop-k-test.true, c.turn_one.ensures.1 ∙ c.loop-k.invariant.1)

pub loop-k-preserved : goal.loop-k-preserved
loop-k-preserved c = (turning_more c.args.ranked.now.order c.args.ranked.now.periods c.args.ranked.now.dues c.args.ranked.now.runtimes c.args.self.now.releases c.args.self.now.events c.args.self.now.lacks _ _ _ _ _ _ _ c.loop-k.invariant.0 _ _ _ _ _ c.min-next.ensures c.in-Some.ensures.0, c.turn_one.ensures.1 ∙ c.loop-k.invariant.1)

pub returns : goal.returns
returns c = (turning_all c.args.ranked.now.order c.args.ranked.now.periods c.args.ranked.now.dues c.args.ranked.now.runtimes c.args.self.now.releases c.args.self.now.events c.args.self.now.lacks _ _ _ _ _ _ _ (omega arith) c.loop-k.invariant.0, c.loop-k.invariant.1)
