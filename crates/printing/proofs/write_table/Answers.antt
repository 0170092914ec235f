-- `printing::write_table` meets its contract.
use Rattle.std.proofs.Common.{refl, rules, arith}
use Rattle.printing.specs.Text.{ascii, crlf, table_header, table_text}
use Rattle.printing.proofs.Chain.{puts_chain, puts_whole}
use Rattle.printing.proofs.Rooms.{table_room, table_room_enough, first_slices}
use Rattle.printing.proofs.write_table.Goals as goal

pub slices-requires : goal.slices-requires
unfolding table_header crlf ascii
slices-requires c =
    table_room _ _ (omega arith) (λ i. (c.type_inv.table i).fits) c.text.ensures.put

pub returns : goal.returns
unfolding table_text table_header crlf ascii
returns c =
    let slices = rw (c.min-count.ensures, first_slices) at c.slices.ensures in
    let all = puts_chain c.text.ensures slices in
    let same = all.same_bytes in
    let whole = puts_whole all refl (search rules) in
    record { written = whole; upper_bound = table_room_enough _ _ (λ i. (c.type_inv.table i).fits) whole }
