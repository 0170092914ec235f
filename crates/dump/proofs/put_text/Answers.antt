-- `dump::put_text` meets its contract, byte by byte.
use Rattle.std.proofs.Common.{refl, arith}
use Rattle.dump.proofs.Places.{byte_room, byte_more}
use Rattle.dump.proofs.put_text.Goals as goal

pub loop-i-init : goal.loop-i-init
loop-i-init c = record { next = omega arith; bytes = refl }

pub bounds-out-at : goal.bounds-out-at
bounds-out-at c = byte_room _ _ c.loop-i.invariant c.loop-i-test.true c.requires

pub loop-i-preserved : goal.loop-i-preserved
loop-i-preserved c = byte_more _ _ c.loop-i.invariant c.loop-i-test.true
