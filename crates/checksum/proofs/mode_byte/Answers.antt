-- `mode_byte` meets its contract, case by case.
use Rattle.checksum.specs.Checksum.{mode_byte}
use Rattle.checksum.proofs.mode_byte.Goals as goal

pub returns-in-Table : goal.returns-in-Table
unfolding mode_byte
returns-in-Table c = cc

pub returns-in-Filling : goal.returns-in-Filling
unfolding mode_byte
returns-in-Filling c = cc
