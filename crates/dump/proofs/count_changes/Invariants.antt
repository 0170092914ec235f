-- `dump::count_changes` meets its contract, slice by slice.
use Rattle.std.proofs.Common.{◌≡◌}
use Rattle.dump.specs.Shapes.{entry_before, count_to}
use Rattle.dump.proofs.count_changes.Given as goal

abbrev pub invariant-loop-entry : goal.invariant-loop-entry
invariant-loop-entry l = (l.before ≡ entry_before l.run l.entry-index) × (l.count ≡ count_to l.run l.entry-index)
