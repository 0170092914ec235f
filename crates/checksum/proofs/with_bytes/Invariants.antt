-- `with_bytes` meets its contract: place by place.
use Rattle.checksum.specs.Checksum.{over_bytes}
use mathlib.Core.Path.{◌≡◌}
use Rattle.checksum.proofs.with_bytes.Given as goal

abbrev pub invariant-loop-byte : goal.invariant-loop-byte
invariant-loop-byte l = l.sum ≡ over_bytes l.h l.bytes l.byte-index
