-- `readback::lines::value_at` meets its contract: a whole line, or as much as stands of one.
use Rattle.readback.proofs.Whole.{value_whole}
use Rattle.readback.proofs.lines.value_at.Goals as goal

pub returns-then-entry-before : goal.returns-then-entry-before
returns-then-entry-before c = value_whole _ _ _ _ c.if-entry-le16.true c.if-entry-before.true c.in-Some.ensures
