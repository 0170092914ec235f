-- `printing::Writer::slices` meets its contract, slice by slice.
use Rattle.printing.specs.Text.{records_to}
use Rattle.printing.specs.Shapes.{Puts}
use Rattle.printing.proofs.Writer.slices.Given as goal

abbrev pub invariant-loop-t : goal.invariant-loop-t
invariant-loop-t l = Puts (records_to l.table l.t) l.initial.self l.self
