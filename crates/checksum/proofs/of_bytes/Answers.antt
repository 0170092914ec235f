-- `of_bytes` meets its contract.
use Rattle.checksum.specs.Checksum.{of_bytes}
use Rattle.checksum.proofs.of_bytes.Goals as goal

pub returns : goal.returns
unfolding of_bytes
returns c = cc
