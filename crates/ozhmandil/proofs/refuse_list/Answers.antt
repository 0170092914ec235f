-- `refuse_list` meets its contract.
use Rattle.std.proofs.Common.{rules}
use Rattle.verdict.specs.Verdict.{verdict_answer}
use Rattle.output.specs.Output.{writes_refusal}
use Rattle.ozhmandil.proofs.Ways.{writes_accepted}
use Rattle.ozhmandil.proofs.refuse_list.Goals as goal

pub returns-in-Err-clause-written : goal.returns-in-Err-clause-written
unfolding verdict_answer
returns-in-Err-clause-written c = rw c.in-Err.is (writes_refusal _ c.number.ensures c.task.ensures (search rules) c.write_refusal.ensures.written)

pub returns-in-Ok-clause-written : goal.returns-in-Ok-clause-written
returns-in-Ok-clause-written c = writes_accepted _ _ c.in-Ok.is (search rules) c.write_refusal-in-Ok.ensures.written
