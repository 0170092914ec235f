-- `dump::text_length` meets its contract.
use Rattle.std.proofs.Common.{length, arith}
use Rattle.dump.specs.Lengths.{text_to-length}
use Rattle.dump.proofs.text_length.Goals as goal

pub returns : goal.returns
returns c =
    let run = c.args.run.now in
    omega (arith, c.count_changes.ensures.value, text_to-length run (length run))
