-- `verdict::walk::fill` meets its contract: the slices of the turn so far hold the entry.
use Rattle.std.proofs.Common.{◌≡◌, ℕ, ◌<◌}
use Rattle.basis.specs.Bytes.{at}
use Rattle.verdict.proofs.walk.fill.Given as goal

abbrev pub invariant-loop-held : goal.invariant-loop-held
invariant-loop-held l = (k : ℕ) → k < l.held-index → at l.turn k ≡ l.entry
