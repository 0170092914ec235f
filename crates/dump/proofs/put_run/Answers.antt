-- `dump::put_run` meets its contract: the header, the changes, the end mark.
use Rattle.std.proofs.Common.{length, arith}
use Rattle.printing.specs.Text.{ascii}
use Rattle.printing.proofs.Chain.{chain}
use Rattle.vcd.specs.Form.{header}
use Rattle.dump.specs.Shapes.{text_to}
use Rattle.dump.specs.Lengths.{text_to-length}
use Rattle.dump.proofs.Places.{room_first, room_next}
use Rattle.dump.proofs.put_run.Goals as goal

pub put_text-body-requires : goal.put_text-body-requires
put_text-body-requires c =
    let run = c.args.run.now in
    record { room = omega (arith, c.requires.room_in.room, text_to-length run (length run)) }

pub put_changes-end-requires-clause-room_in : goal.put_changes-end-requires-clause-room_in
unfolding text_to header ascii
put_changes-end-requires-clause-room_in c =
    room_next _ _ (room_first _ _ c.requires.room_in) c.put_text-body.ensures

pub put_text-requires : goal.put_text-requires
unfolding text_to header ascii
put_text-requires c =
    rw c.time_line.ensures (room_next _ _ c.requires.room_in (chain c.put_text-body.ensures c.put_changes-end.ensures))

pub returns : goal.returns
unfolding text_to header ascii
returns c =
    chain (chain c.put_text-body.ensures c.put_changes-end.ensures) (rw c.time_line.ensures at c.put_text.ensures)
