-- `answer` meets its contract: each way out prints as the laws of Ways say.
use Rattle.std.proofs.Common.{rules, ◌∙◌, Ok, ap, arith}
use Rattle.printing.specs.Text.{ascii, crlf, no_text}
use Rattle.output.specs.Output.{writes_refusal}
use Rattle.output.specs.Listed.{answers_too_long, answers_bad_line}
use Rattle.explain_program.proofs.Ways.{given_tells, answers_refused, answers_no, answers_needs}
use Rattle.explain_program.proofs.answer.Goals as goal

pub returns-then-input-gt4096-clause-explain_answers : goal.returns-then-input-gt4096-clause-explain_answers
returns-then-input-gt4096-clause-explain_answers c = answers_too_long c.if-input-gt4096.true c.write_refusal.ensures.written

pub returns-in-Err-clause-explain_answers : goal.returns-in-Err-clause-explain_answers
returns-in-Err-clause-explain_answers c = answers_bad_line _ c.if-input-gt4096.false c.read_list.ensures _ c.in-Err.is c.write_refusal-in-Err.ensures.written

pub write_jobs-requires : goal.write_jobs-requires
write_jobs-requires c = (given_tells _ _ _ _ _ _ (c.in-Ok-Some.is ∙ ap Ok c.in-Ok-Some.field-0-is) c.explain_list.ensures).0

pub returns-in-Ok-Some : goal.returns-in-Ok-Some
returns-in-Ok-Some c =
    let given = c.in-Ok-Some.is ∙ ap Ok c.in-Ok-Some.field-0-is in
    let printed = c.write_jobs.ensures in
    let told = given_tells _ _ _ _ _ _ given c.explain_list.ensures in
    record {
      explain_answers = answers_needs _ c.if-input-gt4096.false c.read_list.ensures _ c.in-Ok.is _ _ c.explain_list.ensures _ given printed.written;
      upper_bound = printed.upper_bound (omega (arith, told.1));
    }

pub returns-in-Ok-None : goal.returns-in-Ok-None
unfolding no_text crlf ascii
returns-in-Ok-None c =
    let none = c.in-Ok-None.is ∙ ap Ok c.in-Ok-None.field-0-is in
    record {
      explain_answers = answers_no _ c.if-input-gt4096.false c.read_list.ensures _ c.in-Ok.is _ _ c.explain_list.ensures none c.write_no.ensures;
      upper_bound = omega (arith, c.write_no.ensures.whole);
    }

pub returns-in-Err-explain_list-clause-explain_answers : goal.returns-in-Err-explain_list-clause-explain_answers
returns-in-Err-explain_list-clause-explain_answers c =
    answers_refused _ c.if-input-gt4096.false c.read_list.ensures _ c.in-Ok.is _ _ c.explain_list.ensures _ c.in-Err-explain_list.is
    (writes_refusal _ c.number.ensures c.task.ensures (search rules) c.write_refusal-in-Err-explain_list.ensures.written)
