-- `with_tasks` meets its contract: place by place.
use Rattle.checksum.specs.Checksum.{over_tasks}
use mathlib.Core.Path.{◌≡◌}
use Rattle.checksum.proofs.with_tasks.Given as goal

abbrev pub invariant-loop-i : goal.invariant-loop-i
invariant-loop-i l = l.sum ≡ over_tasks l.h l.periods l.deadlines l.runtimes l.i
