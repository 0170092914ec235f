-- `readback::lines::four_bits` meets its contract.
use Rattle.std.proofs.Common.{arith}
use Rattle.readback.proofs.Words.{bits_read}
use Rattle.readback.proofs.lines.four_bits.Goals as goal

pub returns : goal.returns
returns c = rw c.from.ensures (bits_read _ _ (omega arith) c.wrapping_sub_u32-bits.ensures.value c.if-others-ne0.false)
