-- `readback::lines::whole_value` meets its contract.
use Rattle.readback.proofs.Whole.{value_stands}
use Rattle.readback.proofs.lines.whole_value.Goals as goal

pub returns : goal.returns
returns c =
    value_stands _ _ _ _ _ _ c.if-from-file.false c.if-file-from-ne98.false
    c.word_at.ensures c.in_ok-front.ensures c.word_at-2.ensures c.in_ok-last.ensures
