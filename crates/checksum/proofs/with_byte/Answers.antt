-- `with_byte` meets its contract: the product wraps at 32 bits.
use Rattle.checksum.specs.Checksum.{mix}
use Rattle.checksum.proofs.with_byte.Goals as goal

pub returns : goal.returns
unfolding mix
returns c = cc
