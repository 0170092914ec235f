-- `printing::Writer::slices` meets its contract, slice by slice.
use Rattle.std.proofs.Common.{add-one}
use Rattle.printing.specs.Text.{records_to}
use Rattle.printing.proofs.Chain.{puts_chain, puts_nothing}
use Rattle.printing.proofs.Rooms.{slice_room}
use Rattle.printing.proofs.Writer.slices.Goals as goal

pub loop-t-init : goal.loop-t-init
unfolding records_to
loop-t-init c = puts_nothing _

pub pair-requires : goal.pair-requires
pair-requires c = rw c.from.ensures (slice_room _ _ _ c.requires c.loop-t.invariant.put c.loop-t-test.true)

pub loop-t-preserved : goal.loop-t-preserved
unfolding records_to
loop-t-preserved c = rw add-one (puts_chain c.loop-t.invariant (rw c.from.ensures at c.pair.ensures))
