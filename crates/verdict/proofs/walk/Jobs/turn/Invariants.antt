-- `verdict::walk::Jobs::turn` meets its contract: the tasks before place k have turned, and none of them was late.
use Rattle.std.proofs.Common.{◌≡◌}
use Rattle.verdict.proofs.Turning.{Turning}
use Rattle.verdict.proofs.walk.Jobs.turn.Given as goal

abbrev pub invariant-loop-k : goal.invariant-loop-k
invariant-loop-k l = Turning l.ranked.order l.ranked.periods l.ranked.dues l.ranked.runtimes l.initial.self.releases l.initial.self.events l.initial.self.lacks l.count l.t l.k l.next l.self.releases l.self.events l.self.lacks × (l.self.ends ≡ l.initial.self.ends)
