-- `printing::Writer::decimal` meets its contract.
use Rattle.std.proofs.Common.{arith}
use Rattle.printing.specs.Text.{digit}
use Rattle.printing.specs.Decimal.{decimal_one, decimal_more}
use Rattle.printing.proofs.Chain.{puts_chain, room_first, puts_room}
use Rattle.printing.proofs.Writer.+decimal.Goals as goal

pub byte-requires : goal.byte-requires
unfolding digit
byte-requires t c = rw (decimal_one c.args.n c.if-n-lt10.true) at c.requires

pub decimal-requires : goal.decimal-requires
decimal-requires t c = (omega arith, room_first _ _ (rw (decimal_more c.args.n c.if-n-lt10.false) at c.requires))

pub byte-requires-else-n-lt10 : goal.byte-requires-else-n-lt10
unfolding digit
byte-requires-else-n-lt10 t c = puts_room _ _ (rw (decimal_more c.args.n c.if-n-lt10.false) at c.requires) c.decimal.ensures

pub returns-then-n-lt10 : goal.returns-then-n-lt10
unfolding digit
returns-then-n-lt10 t c = rw (decimal_one c.args.n c.if-n-lt10.true) c.byte.ensures

pub returns-else-n-lt10 : goal.returns-else-n-lt10
unfolding digit
returns-else-n-lt10 t c = rw (decimal_more c.args.n c.if-n-lt10.false) (puts_chain c.decimal.ensures c.byte-else-n-lt10.ensures)
