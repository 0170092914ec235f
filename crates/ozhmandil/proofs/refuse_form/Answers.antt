-- `refuse_form` meets its contract.
use Rattle.basis.specs.Answer.{refusal, none}
use Rattle.records.specs.Grammar.{form_answer}
use Rattle.output.specs.Output.{record_of}
use Rattle.ozhmandil.proofs.refuse_form.Goals as goal

pub returns-in-Err-clause-written : goal.returns-in-Err-clause-written
unfolding record_of form_answer refusal
returns-in-Err-clause-written c = rw c.in-Err.is c.write_refusal.ensures.written

pub returns-in-Ok-clause-written : goal.returns-in-Ok-clause-written
unfolding record_of form_answer refusal none
returns-in-Ok-clause-written c = rw c.in-Ok.is c.write_refusal-in-Ok.ensures.written
