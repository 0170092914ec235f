-- `of_state` meets its contract: field by field.
use native.Mathlib.Omega.{arith}
use Rattle.checksum.specs.Checksum.{of_numbers, of_state}
use Rattle.checksum.proofs.Words.{count_bytes}
use Rattle.checksum.proofs.of_state.Goals as goal

pub returns : goal.returns
unfolding of_numbers of_state
returns c = cc (count_bytes 2166136261 c.args.state.count (omega arith))
