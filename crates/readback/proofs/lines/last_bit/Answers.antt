-- `readback::lines::last_bit` meets its contract.
use Rattle.readback.proofs.Words.{last_read}
use Rattle.readback.proofs.lines.last_bit.Goals as goal

pub returns-else-bit-gt1 : goal.returns-else-bit-gt1
returns-else-bit-gt1 c = last_read _ _ c.if-bit-gt1.false c.wrapping_sub_u32-bit.ensures.value
