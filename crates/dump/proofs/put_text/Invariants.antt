-- `dump::put_text` meets its contract, byte by byte.
use Rattle.std.proofs.Common.{◌+◌, take}
use Rattle.printing.specs.Shapes.{Put}
use Rattle.dump.proofs.put_text.Given as goal

abbrev pub invariant-loop-i : goal.invariant-loop-i
invariant-loop-i l = Put (take l.i l.text) l.at l.initial.out l.out (l.at + l.i)
