-- `verdict::walk::Jobs::turn_one` meets its contract.
use Rattle.std.proofs.Common.{refl}
use Rattle.verdict.proofs.Turning.{not_yet, missed, shut, released}
use Rattle.verdict.proofs.walk.Jobs.turn_one.Goals as goal

pub returns-then-event-t : goal.returns-then-event-t
returns-then-event-t c = (not_yet c.args.ranked.now.periods c.args.ranked.now.dues c.args.ranked.now.runtimes c.args.self.now.releases c.args.self.now.events c.args.self.now.lacks _ _ c.if-event-t.true, refl)

pub returns-then-self-k-ne0 : goal.returns-then-self-k-ne0
returns-then-self-k-ne0 c = (missed c.args.ranked.now.periods c.args.ranked.now.dues c.args.ranked.now.runtimes c.args.self.now.releases c.args.self.now.events c.args.self.now.lacks _ _ c.if-event-t.false c.if-self-k-ne0.true, refl)

pub returns-then-t-release : goal.returns-then-t-release
returns-then-t-release c = (shut c.args.ranked.now.periods c.args.ranked.now.dues c.args.ranked.now.runtimes c.args.self.now.releases c.args.self.now.events c.args.self.now.lacks _ _ c.if-event-t.false c.if-self-k-ne0.false c.if-t-release.true, refl)

pub returns : goal.returns
returns c = (released c.args.ranked.now.periods c.args.ranked.now.dues c.args.ranked.now.runtimes c.args.self.now.releases c.args.self.now.events c.args.self.now.lacks _ _ c.if-event-t.false c.if-self-k-ne0.false c.if-t-release.false, refl)
