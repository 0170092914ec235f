-- `explain::entries_to` meets its contract: the entries so far are tested.
use Rattle.std.proofs.Common.{◌≡◌}
use Rattle.explain.specs.Seen.{entries_to}
use Rattle.explain.proofs.entries_to.Given as goal

abbrev pub invariant-loop-entry : goal.invariant-loop-entry
invariant-loop-entry l = l.fine ≡ entries_to l.count l.run l.entry-index
