-- `printing::write_quick` meets its contract.
use Rattle.std.proofs.Common.{refl, rules, arith}
use Rattle.printing.specs.Text.{ascii, crlf, quick_header, quick_text}
use Rattle.printing.proofs.Chain.{puts_chain, puts_whole}
use Rattle.printing.proofs.Rooms.{pair_room, quick_room_enough}
use Rattle.printing.proofs.write_quick.Goals as goal

pub pair-requires : goal.pair-requires
pair-requires c =
    let fits = c.ranges in
    rw c.from.ensures (pair_room _ _ _ (omega arith) (omega (arith, fits.number)) (omega (arith, fits.task)) c.text.ensures.put)

pub returns : goal.returns
unfolding quick_text quick_header crlf ascii
returns c =
    let fits = c.ranges in
    let all = puts_chain c.text.ensures (rw c.from.ensures at c.pair.ensures) in
    let same = all.same_bytes in
    let whole = puts_whole all refl (search rules) in
    record { written = whole; upper_bound = quick_room_enough _ _ fits.number fits.task whole }
