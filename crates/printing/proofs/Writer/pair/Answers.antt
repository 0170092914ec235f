-- `printing::Writer::pair` meets its contract.
use Rattle.printing.specs.Text.{ascii, crlf, pair_record}
use Rattle.printing.proofs.Chain.{puts_chain, room_first, puts_room}
use Rattle.printing.proofs.Writer.pair.Goals as goal

pub field-requires : goal.field-requires
unfolding pair_record
field-requires c = search room_first

pub decimal-requires : goal.decimal-requires
unfolding pair_record
decimal-requires c = search (room_first, puts_room)

pub text-requires : goal.text-requires
unfolding pair_record crlf ascii
text-requires c = puts_room _ _ c.requires (puts_chain c.field.ensures c.decimal.ensures)

pub returns : goal.returns
unfolding pair_record crlf ascii
returns c = search puts_chain
