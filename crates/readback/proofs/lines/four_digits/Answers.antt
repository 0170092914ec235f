-- `readback::lines::four_digits` meets its contract.
use Rattle.std.proofs.Common.{arith}
use Rattle.readback.proofs.Words.{digits_few, digits_fewer, digits_read}
use Rattle.readback.proofs.lines.four_digits.Goals as goal

pub overflow_add-above : goal.overflow_add-above
overflow_add-above c = omega (arith, digits_few _ _ (omega arith) c.wrapping_sub_u32-digits.ensures.value c.if-others-ne0.false)

pub overflow_mul-pairs : goal.overflow_mul-pairs
overflow_mul-pairs c = omega (arith, digits_fewer _ _ (omega arith) c.wrapping_sub_u32-digits.ensures.value c.if-others-ne0.false c.if-above-ne0.false)

pub overflow_add-pairs : goal.overflow_add-pairs
overflow_add-pairs c = omega (arith, digits_fewer _ _ (omega arith) c.wrapping_sub_u32-digits.ensures.value c.if-others-ne0.false c.if-above-ne0.false)

pub returns : goal.returns
returns c = digits_read _ _ (omega arith) c.wrapping_sub_u32-digits.ensures.value c.if-others-ne0.false c.if-above-ne0.false
