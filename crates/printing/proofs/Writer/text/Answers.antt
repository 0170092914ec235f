-- `printing::Writer::text` meets its contract, byte by byte.
use Rattle.printing.proofs.Chain.{puts_more}
use Rattle.printing.proofs.Writer.text.Goals as goal

pub loop-byte-preserved : goal.loop-byte-preserved
loop-byte-preserved c = puts_more _ _ c.loop-byte.invariant c.byte.ensures c.loop-byte-test.true
