-- `readback::lines::with_digit` meets its contract.
use Rattle.std.proofs.Common.{arith}
use Rattle.readback.proofs.Steps.{digit_from}
use Rattle.readback.proofs.lines.with_digit.Goals as goal

pub returns : goal.returns
returns c =
    digit_from _ _ _ _ _ c.longer.result c.in_ok-front.was c.ok_or.ensures.value (c.in-Some.ensures.lookup.4 (omega arith) 256) c.longer.ensures
