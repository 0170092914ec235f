-- `printing::Writer::need` meets its contract.
use Rattle.printing.specs.Text.{need_record}
use Rattle.printing.proofs.Chain.{puts_chain, room_first, puts_room}
use Rattle.printing.proofs.Writer.need.Goals as goal

pub field-requires : goal.field-requires
unfolding need_record
field-requires c = search room_first

pub pair-requires : goal.pair-requires
unfolding need_record
pair-requires c = search puts_room

pub returns : goal.returns
unfolding need_record
returns c = search puts_chain
