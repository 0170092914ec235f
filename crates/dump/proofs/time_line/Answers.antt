-- `dump::time_line` meets its contract.
use Rattle.std.proofs.Common.{refl}
use Rattle.printing.specs.Text.{digit}
use Rattle.vcd.specs.Form.{time_line}
use Rattle.dump.proofs.time_line.Goals as goal

pub returns : goal.returns
unfolding time_line digit
returns c = refl
