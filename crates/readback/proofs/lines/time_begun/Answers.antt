-- `readback::lines::time_begun` meets its contract: a mark, four digits, a line feed.
use Rattle.readback.proofs.TwoLines.{time_read}
use Rattle.readback.proofs.lines.time_begun.Goals as goal

pub returns : goal.returns
returns c =
    time_read _ _ _ c.requires.1 _ _ _ _ _ _ c.with_byte-mark.ensures
    c.with_digit-first.ensures c.with_digit-second.ensures c.with_digit-third.ensures c.with_digit-fourth.ensures
    c.with_byte.ensures
