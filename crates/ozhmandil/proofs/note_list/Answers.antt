-- `note_list` meets its contract.
use Rattle.std.proofs.Common.{arith}
use Rattle.verdict.specs.Verdict.{verdict_answer}
use Rattle.ozhmandil.proofs.Ways.{notes_accepted}
use Rattle.ozhmandil.proofs.note_list.Goals as goal

pub returns-in-Err-clause-written : goal.returns-in-Err-clause-written
unfolding verdict_answer
returns-in-Err-clause-written c = rw c.in-Err.is c.note_refusal.ensures.written

pub returns-in-Ok : goal.returns-in-Ok
returns-in-Ok c = record { written = notes_accepted _ _ c.in-Ok.is; upper_bound = omega arith }
