-- `printing::Writer::needs` meets its contract, task by task.
use Rattle.std.proofs.Common.{get_or, add-one, arith}
use Rattle.basis.specs.Sum.{sum}
use Rattle.printing.specs.Text.{need_records}
use Rattle.printing.proofs.Chain.{puts_chain, puts_nothing}
use Rattle.printing.proofs.Rooms.{task_room, place_fits}
use Rattle.printing.proofs.Writer.needs.Goals as goal

pub loop-i-init : goal.loop-i-init
unfolding need_records sum
loop-i-init c = (omega arith, puts_nothing _)

pub jobs-requires : goal.jobs-requires
jobs-requires c =
    record {
      room = rw (add-one, c.number_at-count.ensures, c.loop-i.invariant.0) (task_room _ _ 16 _ c.requires c.loop-i.invariant.1.put c.loop-i-test.true);
      count_bound = omega (arith, c.loop-i.invariant.0, c.number_at-count.ensures, place_fits (λ t. get_or c.args.jobs.now t 0) (λ i. (c.type_inv.jobs i).fits) c.loop-i.i c.loop-i-test.true);
    }

pub overflow_add-from : goal.overflow_add-from
overflow_add-from c =
    omega (arith, c.loop-i.invariant.0, c.number_at-count.ensures, place_fits (λ t. get_or c.args.jobs.now t 0) (λ i. (c.type_inv.jobs i).fits) c.loop-i.i c.loop-i-test.true)

pub loop-i-preserved : goal.loop-i-preserved
unfolding need_records sum
loop-i-preserved c = (
  rw add-one (omega (arith, c.loop-i.invariant.0, c.number_at-count.ensures)),
  rw add-one (puts_chain c.loop-i.invariant.1 (rw (add-one, c.number_at-count.ensures, c.loop-i.invariant.0) at c.jobs.ensures)),
)
