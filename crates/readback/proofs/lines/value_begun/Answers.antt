-- `readback::lines::value_begun` meets its contract: a mark, five digits, a blank, the name, a line feed.
use Rattle.readback.proofs.TwoLines.{value_read}
use Rattle.readback.proofs.lines.value_begun.Goals as goal

pub returns : goal.returns
returns c =
    value_read _ _ _ _ c.top_other-top.ensures _ _ _ _ _ _ _ _ _ c.with_byte-mark.ensures
    c.with_digit-first.ensures c.with_digit-second.ensures c.with_digit-third.ensures c.with_digit-fourth.ensures c.with_digit-fifth.ensures
    c.with_byte-blank.ensures c.with_byte-name.ensures c.with_byte.ensures
