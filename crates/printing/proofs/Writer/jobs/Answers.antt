-- `printing::Writer::jobs` meets its contract, job by job.
use Rattle.std.proofs.Common.{add-one}
use Rattle.printing.specs.Text.{job_records}
use Rattle.printing.proofs.Chain.{puts_chain, puts_nothing}
use Rattle.printing.proofs.Rooms.{job_room}
use Rattle.printing.proofs.Writer.jobs.Goals as goal

pub loop-k-init : goal.loop-k-init
unfolding job_records
loop-k-init c = puts_nothing _

pub need-requires : goal.need-requires
need-requires c =
    rw (c.from.ensures, c.from-in-loop-k.ensures, c.number_at-need.ensures)
    (job_room _ _ _ _ _ c.requires.room c.loop-k.invariant.put c.loop-k-test.true)

pub loop-k-preserved : goal.loop-k-preserved
unfolding job_records
loop-k-preserved c =
    rw add-one
    (puts_chain c.loop-k.invariant
    (rw (c.from.ensures, c.from-in-loop-k.ensures, c.number_at-need.ensures) at c.need.ensures))
