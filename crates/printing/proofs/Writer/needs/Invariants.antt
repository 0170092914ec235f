-- `printing::Writer::needs` meets its contract, task by task.
use Rattle.std.proofs.Common.{◌≡◌, get_or}
use Rattle.basis.specs.Sum.{sum}
use Rattle.printing.specs.Text.{need_records}
use Rattle.printing.specs.Shapes.{Puts}
use Rattle.printing.proofs.Writer.needs.Given as goal

abbrev pub invariant-loop-i : goal.invariant-loop-i
invariant-loop-i l = (l.from ≡ sum (λ t. get_or l.jobs t 0) l.i) × Puts (need_records l.needs (λ t. get_or l.jobs t 0) l.i) l.initial.self l.self
