-- `readings::read_logged` meets its contract.
use mathlib.Core.Path.{sym}
use native.Mathlib.Omega.{arith}
use Rattle.basis.specs.Choose.{choose}
use Rattle.readings.specs.Reading.{logged_of}
use Rattle.readings.proofs.Laws.{reads_damaged}
use Rattle.readings.proofs.read_logged.Goals as goal

pub returns-in-0 : goal.returns-in-0
unfolding logged_of choose
returns-in-0 c = rw c.in-0.is

pub returns-in-1 : goal.returns-in-1
unfolding logged_of choose
returns-in-1 c = rw c.in-1.is

pub returns-in-2 : goal.returns-in-2
unfolding logged_of choose
returns-in-2 c = rw c.in-2.is

pub returns-in-3 : goal.returns-in-3
unfolding logged_of choose
returns-in-3 c = rw c.in-3.is

pub returns-in-4-to-255 : goal.returns-in-4-to-255
returns-in-4-to-255 c = sym (reads_damaged c.args.byte (omega arith))
