-- `readback::lines::time_at` meets its contract: a whole line, or as much as stands of one.
use Rattle.readback.proofs.Whole.{time_whole}
use Rattle.readback.proofs.lines.time_at.Goals as goal

pub returns-then-time-le4096 : goal.returns-then-time-le4096
returns-then-time-le4096 c = time_whole _ _ _ _ c.if-time-low.true c.if-time-le4096.true c.in-Some.ensures
