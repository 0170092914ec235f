-- `verdict::asks` is safe: the product of two numbers of 32 bits fits.
use Rattle.std.proofs.Common.{◌/◌, ◌≤◌, mul-le-mul, div-le_self, arith}
use Rattle.verdict.proofs.asks.Goals as goal

pub overflow_mul-result : goal.overflow_mul-result
overflow_mul-result c =
    let jobs : c.args.cycle / c.args.period ≤ 4294967295 = omega (arith, div-le_self c.args.cycle c.args.period) in
    let runtime : c.args.runtime ≤ 4294967295 = omega arith in
    rw (c.from.ensures, c.from-2.ensures) (omega (arith, mul-le-mul runtime jobs))
