-- `with_bytes` meets its contract: place by place.
use mathlib.Core.Path.{refl}
use native.Mathlib.Numerals.{add-one}
use Rattle.checksum.specs.Checksum.{over_bytes}
use Rattle.checksum.proofs.with_bytes.Goals as goal

pub loop-byte-init : goal.loop-byte-init
unfolding over_bytes
loop-byte-init c = refl

pub loop-byte-preserved : goal.loop-byte-preserved
unfolding over_bytes
loop-byte-preserved c = rw add-one (cc)
