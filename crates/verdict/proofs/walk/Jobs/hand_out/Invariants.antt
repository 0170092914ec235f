-- `verdict::walk::Jobs::hand_out` meets its contract: the tasks before place k have had their turn.
use Rattle.std.proofs.Common.{◌≡◌, length}
use Rattle.verdict.specs.Shapes.{SameEvents}
use Rattle.verdict.proofs.Handing.{Handing}
use Rattle.verdict.proofs.walk.Jobs.hand_out.Given as goal

abbrev pub invariant-loop-k : goal.invariant-loop-k
invariant-loop-k l = (length l.entries ≡ length l.initial.entries) × Handing l.ranked.order l.ranked.dues l.initial.self.lacks l.initial.self.ends l.initial.entries l.count l.t l.next l.k l.from l.self.lacks l.self.ends l.entries × SameEvents l.initial.self l.self
