-- `dump::count_changes` meets its contract, slice by slice.
use Rattle.std.proofs.Common.{◌+◌, refl, arith}
use Rattle.dump.specs.Shapes.{entry_before, count_to}
use Rattle.dump.specs.Lengths.{count_few}
use Rattle.dump.proofs.Turns.{before_next, one_change, count_more}
use Rattle.dump.proofs.count_changes.Goals as goal

pub loop-entry-init : goal.loop-entry-init
unfolding entry_before count_to
loop-entry-init c = (refl, refl)

pub overflow_add-count : goal.overflow_add-count
overflow_add-count c =
    let turn = c.loop-entry in
    let run = c.args.run.now in
    let change = one_change _ _ c.from-count.ensures in
    record {
      fits = omega (
        arith,
        count_more run turn.entry-index turn.invariant.0 turn.invariant.1 change,
        count_few run (turn.entry-index + 1),
      );
    }

pub loop-entry-preserved : goal.loop-entry-preserved
loop-entry-preserved c =
    let turn = c.loop-entry in
    (before_next _ _, count_more _ _ turn.invariant.0 turn.invariant.1 (one_change _ _ c.from-count.ensures))

pub returns-clause-upper_bound : goal.returns-clause-upper_bound
returns-clause-upper_bound c = omega (arith, c.loop-entry.invariant.1, count_few c.args.run.now c.loop-entry.entry-index)
