-- `printing::write_clash` meets its contract.
use Rattle.std.proofs.Common.{refl, rules, arith}
use Rattle.printing.specs.Text.{ascii, crlf, clash_header, clash_text}
use Rattle.printing.proofs.Chain.{puts_chain, puts_whole}
use Rattle.printing.proofs.Rooms.{pair_room, clash_room_enough}
use Rattle.printing.proofs.write_clash.Goals as goal

pub pair-requires : goal.pair-requires
pair-requires c =
    let fits = c.ranges in
    rw (c.from.ensures, c.from-2.ensures) (pair_room _ _ _ (omega arith) (omega (arith, fits.reached)) (omega (arith, fits.period)) c.text.ensures.put)

pub returns : goal.returns
unfolding clash_text clash_header crlf ascii
returns c =
    let fits = c.ranges in
    let all = puts_chain c.text.ensures (rw (c.from.ensures, c.from-2.ensures) at c.pair.ensures) in
    let same = all.same_bytes in
    let whole = puts_whole all refl (search rules) in
    record { written = whole; upper_bound = clash_room_enough _ _ fits.reached fits.period whole }
