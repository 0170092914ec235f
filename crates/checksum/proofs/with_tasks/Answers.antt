-- `with_tasks` meets its contract: place by place.
use mathlib.Core.Path.{refl}
use native.Mathlib.Numerals.{add-one}
use Rattle.checksum.specs.Checksum.{over_tasks}
use Rattle.checksum.proofs.with_tasks.Goals as goal

pub loop-i-init : goal.loop-i-init
unfolding over_tasks
loop-i-init c = refl

pub loop-i-preserved : goal.loop-i-preserved
unfolding over_tasks
loop-i-preserved c = rw add-one (cc)
