-- `explain::candidate::next_entry` meets its contract: nobody before place k waits.
use Rattle.std.proofs.Common.{◌≡◌, ◌<◌, ℕ}
use Rattle.explain.specs.Shapes.{waits_at}
use Rattle.explain.proofs.candidate.next_entry.Given as goal

abbrev pub invariant-loop-k : goal.invariant-loop-k
invariant-loop-k l = (j : ℕ) → j < l.k → waits_at l.ranked.dues l.starts l.got l.t j ≡ 0
