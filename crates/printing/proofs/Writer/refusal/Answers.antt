-- `printing::Writer::refusal` meets its contract.
use Rattle.printing.specs.Text.{ascii, crlf, refusal_record}
use Rattle.printing.proofs.Chain.{puts_chain, room_first, puts_room}
use Rattle.printing.proofs.Signed.{back32}
use Rattle.printing.proofs.Writer.refusal.Goals as goal

pub field-requires : goal.field-requires
unfolding refusal_record
field-requires c = rw c.from.ensures (room_first _ _ (room_first _ _ (room_first _ _ c.requires)))

pub field-requires-2 : goal.field-requires-2
unfolding refusal_record
field-requires-2 c =
    puts_room _ _ (room_first _ _ (room_first _ _ c.requires)) (rw c.from.ensures at c.field.ensures)

pub signed-requires : goal.signed-requires
unfolding refusal_record
signed-requires c =
    let number = rw c.from.ensures at c.field.ensures in
    rw (back32 _ c.ranges.margin) (puts_room _ _ (room_first _ _ c.requires) (puts_chain number c.field-2.ensures))

pub text-requires : goal.text-requires
unfolding refusal_record crlf ascii
text-requires c =
    let number = rw c.from.ensures at c.field.ensures in
    let margin = rw (back32 _ c.ranges.margin) at c.signed.ensures in
    puts_room _ _ c.requires (puts_chain (puts_chain number c.field-2.ensures) margin)

pub returns : goal.returns
unfolding refusal_record crlf ascii
returns c =
    let number = rw c.from.ensures at c.field.ensures in
    let margin = rw (back32 _ c.ranges.margin) at c.signed.ensures in
    puts_chain (puts_chain (puts_chain number c.field-2.ensures) margin) c.text.ensures
