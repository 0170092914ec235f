-- `verdict::walk::Jobs::hand_one` meets its contract.
use Rattle.std.proofs.Common.{refl}
use Rattle.verdict.proofs.Handing.{no_turn, turn_of_later_job, turn_of_first_job}
use Rattle.verdict.proofs.walk.Jobs.hand_one.Goals as goal

pub returns-then-lack-eq0 : goal.returns-then-lack-eq0
returns-then-lack-eq0 c = (no_turn c.args.ranked.now.order c.args.ranked.now.dues c.args.self.now.lacks c.args.self.now.ends c.args.entries.now _ _ _ _ c.if-lack-eq0.true, (refl, refl))

pub returns-then-ranked-k : goal.returns-then-ranked-k
returns-then-ranked-k c = (turn_of_later_job c.args.ranked.now.order c.args.ranked.now.dues c.args.self.now.lacks c.args.self.now.ends c.args.entries.now _ _ _ _ _ c.min-take.ensures c.requires.1 _ c.fill.ensures c.if-ranked-k.true, (refl, refl))

pub returns : goal.returns
returns c = (turn_of_first_job c.args.ranked.now.order c.args.ranked.now.dues c.args.self.now.lacks c.args.self.now.ends c.args.entries.now _ _ _ _ _ c.min-take.ensures c.requires.1 _ c.fill.ensures c.if-ranked-k.false c.if-lack-eq0.false, (refl, refl))
