-- `dump::put_changes` meets its contract, slice by slice.
use Rattle.std.proofs.Common.{refl, sym, ◌∙◌}
use Rattle.printing.proofs.Chain.{chain, put_nothing}
use Rattle.dump.specs.Shapes.{entry_before, changes_to}
use Rattle.dump.proofs.Places.{room_first, room_next}
use Rattle.dump.proofs.Turns.{before_next, change_room, change_more, a_change, no_change}
use Rattle.dump.proofs.put_changes.Goals as goal
use Rattle.dump.proofs.put_changes.Goals.{then-entry-before, else-entry-before}

pub loop-t-init : goal.loop-t-init
unfolding entry_before changes_to
loop-t-init c = (refl, put_nothing _ _)

pub put_text-next-requires : goal.put_text-next-requires
put_text-next-requires c =
    let turn = c.loop-t in
    let lines = rw (a_change _ _ _ c.if-entry-before.true) at (change_room _ _ turn.invariant.0 _ c.requires.room_in turn.invariant.1 c.loop-t-test.true) in
    rw c.time_line.ensures (room_first _ _ lines)

pub put_text-end-requires : goal.put_text-end-requires
put_text-end-requires c =
    let turn = c.loop-t in
    let lines = rw (a_change _ _ _ c.if-entry-before.true) at (change_room _ _ turn.invariant.0 _ c.requires.room_in turn.invariant.1 c.loop-t-test.true) in
    rw c.value_line.ensures (room_next _ _ lines (rw c.time_line.ensures at c.put_text-next.ensures))

pub loop-t-preserved : goal.loop-t-preserved
loop-t-preserved c =
    let turn = c.loop-t in
    elim c.if-entry-before.branch [
      | then-entry-before w ↦
          let lines = chain (rw w.time_line.ensures at w.put_text-next.ensures) (rw w.value_line.ensures at w.put_text-end.ensures) in
          rw (w.before-is, w.out-is, w.end-is)
          (before_next _ _, change_more _ _ turn.invariant.0 turn.invariant.1 (rw (a_change _ _ _ w.if-entry-before.true) lines))
      | else-entry-before w ↦
          rw (w.before-is, w.out-is, w.end-is)
          (sym w.if-entry-before.false ∙ before_next _ _, change_more _ _ turn.invariant.0 turn.invariant.1 (rw (no_change _ _ _ w.if-entry-before.false) (put_nothing _ _)))
    ]
