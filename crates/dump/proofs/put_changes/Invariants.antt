-- `dump::put_changes` meets its contract, slice by slice.
use Rattle.std.proofs.Common.{◌≡◌}
use Rattle.printing.specs.Shapes.{Put}
use Rattle.dump.specs.Shapes.{entry_before, changes_to}
use Rattle.dump.proofs.put_changes.Given as goal

abbrev pub invariant-loop-t : goal.invariant-loop-t
invariant-loop-t l = (l.before ≡ entry_before l.run l.t) × Put (changes_to l.run l.t) l.at l.initial.out l.out l.end
