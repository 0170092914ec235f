-- `note_refusal` meets its contract.
use Rattle.std.proofs.Common.{arith}
use Rattle.ozhmandil.proofs.Ways.{notes_clash, notes_other}
use Rattle.ozhmandil.proofs.note_refusal.Goals as goal

pub returns-in-CycleTooLong-clause-written : goal.returns-in-CycleTooLong-clause-written
returns-in-CycleTooLong-clause-written c = notes_clash _ c.in-CycleTooLong.is c.write_clash.ensures.written

pub returns-in_default : goal.returns-in_default
returns-in_default c = record { written = notes_other _ c.in_default.not-CycleTooLong; upper_bound = omega arith }
