-- `answer` meets its contract: each way out prints as the laws of Ways say.
use Rattle.quick_program.proofs.Ways.{answers_too_long, answers_bad_line, answers_accepted, answers_refused}
use Rattle.quick_program.proofs.answer.Goals as goal

pub returns-then-input-gt4096-clause-quick_answers : goal.returns-then-input-gt4096-clause-quick_answers
returns-then-input-gt4096-clause-quick_answers c = answers_too_long c.if-input-gt4096.true c.write_quick.ensures.written

pub returns-in-Err-clause-quick_answers : goal.returns-in-Err-clause-quick_answers
returns-in-Err-clause-quick_answers c = answers_bad_line _ c.if-input-gt4096.false c.read_list.ensures _ c.in-Err.is c.write_quick-in-Err.ensures.written

pub returns-in-Ok-ask_list-clause-quick_answers : goal.returns-in-Ok-ask_list-clause-quick_answers
returns-in-Ok-ask_list-clause-quick_answers c =
    answers_accepted _ c.if-input-gt4096.false c.read_list.ensures _ c.in-Ok.is _ c.ask_list.ensures _ c.in-Ok-ask_list.is c.write_quick-in-Ok-ask_list.ensures.written

pub returns-in-Err-ask_list-clause-quick_answers : goal.returns-in-Err-ask_list-clause-quick_answers
returns-in-Err-ask_list-clause-quick_answers c =
    answers_refused _ c.if-input-gt4096.false c.read_list.ensures _ c.in-Ok.is _ c.ask_list.ensures _ c.in-Err-ask_list.is c.write_quick-in-Err-ask_list.ensures.written
