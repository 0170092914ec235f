-- `printing::write_refusal` meets its contract.
use Rattle.std.proofs.Common.{refl, rules}
use Rattle.printing.specs.Text.{ascii, crlf, refusal_header, refusal_text}
use Rattle.printing.proofs.Chain.{puts_chain, puts_whole}
use Rattle.printing.proofs.Rooms.{refusal_room, refusal_room_enough}
use Rattle.printing.proofs.Signed.{back32}
use Rattle.printing.proofs.write_refusal.Goals as goal

pub refusal-requires : goal.refusal-requires
unfolding refusal_header crlf ascii
refusal-requires c =
    let fits = c.ranges in
    rw (back32 _ fits.margin) (refusal_room _ _ _ fits.number fits.task fits.margin c.text.ensures.put)

pub returns : goal.returns
unfolding refusal_text refusal_header crlf ascii
returns c =
    let fits = c.ranges in
    let all = puts_chain c.text.ensures (rw (back32 _ fits.margin) at c.refusal.ensures) in
    let same = all.same_bytes in
    let whole = puts_whole all refl (search rules) in
    record { written = whole; upper_bound = refusal_room_enough _ _ _ fits.number fits.task fits.margin whole }
