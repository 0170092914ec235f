-- `dump::value_line` meets its contract.
use Rattle.std.proofs.Common.{refl}
use Rattle.printing.specs.Text.{digit}
use Rattle.vcd.specs.Form.{value_line}
use Rattle.dump.proofs.value_line.Goals as goal

pub returns : goal.returns
unfolding value_line digit
returns c = refl
