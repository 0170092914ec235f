-- `printing::Writer::field` meets its contract.
use Rattle.printing.specs.Text.{ascii, field}
use Rattle.printing.proofs.Chain.{puts_chain, room_first, puts_room}
use Rattle.printing.proofs.Writer.field.Goals as goal

pub decimal-requires : goal.decimal-requires
unfolding field
decimal-requires c = search room_first

pub byte-requires : goal.byte-requires
unfolding field ascii
byte-requires c = search puts_room

pub returns : goal.returns
unfolding field ascii
returns c = search puts_chain
