-- `with_jobs` meets its contract: place by place.
use Rattle.checksum.specs.Checksum.{over_jobs}
use mathlib.Core.Path.{◌≡◌}
use Rattle.checksum.proofs.with_jobs.Given as goal

abbrev pub invariant-loop-i : goal.invariant-loop-i
invariant-loop-i l = l.sum ≡ over_jobs l.h l.used l.ended l.i
