-- `printing::write_needs` meets its contract.
use Rattle.std.proofs.Common.{refl, rules}
use Rattle.printing.specs.Text.{ascii, crlf, needs_header, needs_text}
use Rattle.printing.proofs.Chain.{puts_chain, puts_whole}
use Rattle.printing.proofs.Rooms.{needs_room, needs_room_enough}
use Rattle.printing.proofs.write_needs.Goals as goal

pub needs-requires : goal.needs-requires
unfolding needs_header crlf ascii
needs-requires c =
    needs_room c.args.needs.now _ (λ i. (c.type_inv.jobs i).fits) (λ i. (c.type_inv.needs i).fits) c.text.ensures.put

pub returns : goal.returns
unfolding needs_text needs_header crlf ascii
returns c =
    let all = puts_chain c.text.ensures c.needs.ensures in
    let same = all.same_bytes in
    let whole = puts_whole all refl (search rules) in
    record { written = whole; upper_bound = needs_room_enough _ _ (λ i. (c.type_inv.needs i).fits) whole }
