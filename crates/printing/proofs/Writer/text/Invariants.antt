-- `printing::Writer::text` meets its contract, byte by byte.
use Rattle.std.proofs.Common.{take}
use Rattle.printing.specs.Shapes.{Puts}
use Rattle.printing.proofs.Writer.text.Given as goal

abbrev pub invariant-loop-byte : goal.invariant-loop-byte
invariant-loop-byte l = Puts (take l.byte-index l.text) l.initial.self l.self
