-- `printing::Writer::jobs` meets its contract, job by job.
use Rattle.printing.specs.Text.{job_records}
use Rattle.printing.specs.Shapes.{Puts}
use Rattle.printing.proofs.Writer.jobs.Given as goal

abbrev pub invariant-loop-k : goal.invariant-loop-k
invariant-loop-k l = Puts (job_records l.needs l.task l.from l.k) l.initial.self l.self
