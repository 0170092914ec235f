-- `readings::read_entry` meets its contract.
use mathlib.Core.Path.{sym}
use mathlib.Core.Logic.{inl, inr}
use native.Mathlib.Omega.{arith}
use Rattle.basis.specs.Choose.{choose}
use Rattle.readings.specs.Reading.{entry_of}
use Rattle.readings.proofs.Laws.{reads_task, reads_no_entry}
use Rattle.readings.proofs.read_entry.Goals as goal

pub returns-in-0 : goal.returns-in-0
unfolding entry_of choose
returns-in-0 c = rw c.in-0.is

pub returns-then-task-count : goal.returns-then-task-count
returns-then-task-count c =
    let a = c.args in
    sym (reads_task a.byte a.count (omega arith) (omega arith) (omega arith))

pub returns-else-task-count : goal.returns-else-task-count
returns-else-task-count c =
    let a = c.args in
    sym (reads_no_entry a.byte a.count (omega arith) (inr (omega arith)))

pub returns-in-17-to-255 : goal.returns-in-17-to-255
returns-in-17-to-255 c =
    let a = c.args in
    sym (reads_no_entry a.byte a.count (omega arith) (inl (omega arith)))
