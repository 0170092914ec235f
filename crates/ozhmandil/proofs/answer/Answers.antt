-- `answer` meets its contract: each way out prints and says as the laws of Ways say.
use Rattle.std.proofs.Common.{arith}
use Rattle.output.specs.Building.{built_within}
use Rattle.ozhmandil.proofs.Ways.{answers_too_long, answers_bad_line, answers_refused, answers_table, built_accepted, never_short, notes_too_long, notes_bad_line, notes_list, notes_accepted}
use Rattle.ozhmandil.proofs.answer.Goals as goal

pub returns-then-input-gt4096-clause-answers : goal.returns-then-input-gt4096-clause-answers
returns-then-input-gt4096-clause-answers c = answers_too_long c.if-input-gt4096.true c.write_refusal-answer.ensures.written

pub returns-then-input-gt4096-clause-noted : goal.returns-then-input-gt4096-clause-noted
returns-then-input-gt4096-clause-noted c = notes_too_long c.if-input-gt4096.true

pub returns-in_default-clause-answers : goal.returns-in_default-clause-answers
returns-in_default-clause-answers c = answers_bad_line _ c.if-input-gt4096.false c.read_list-read.ensures _ c.in_default.is c.refuse_form-answer.ensures.written

pub returns-in_default-clause-noted : goal.returns-in_default-clause-noted
returns-in_default-clause-noted c = notes_bad_line _ c.if-input-gt4096.false c.read_list-read.ensures _ c.in_default.is

pub returns-in_default-verdict-clause-answers : goal.returns-in_default-verdict-clause-answers
returns-in_default-verdict-clause-answers c =
    answers_refused _ c.if-input-gt4096.false c.read_list-read.ensures _ c.in-Ok.is _ c.judge_list-verdict.ensures _ c.in_default-verdict.is c.refuse_list-answer.ensures.written

pub returns-in_default-verdict-clause-noted : goal.returns-in_default-verdict-clause-noted
returns-in_default-verdict-clause-noted c =
    notes_list _ c.if-input-gt4096.false c.read_list-read.ensures _ c.in-Ok.is _ c.judge_list-verdict.ensures c.note_list-note.ensures.written

pub returns-in_default-built : goal.returns-in_default-built
returns-in_default-built c =
    never_short _ c.if-input-gt4096.false c.read_list-read.ensures _ c.in-Ok.is _ c.judge_list-verdict.ensures _ c.in-Ok-verdict.is c.requires c.build_list-built.ensures _ c.in_default-built.is

pub returns : goal.returns
returns c =
    let short = c.if-input-gt4096.false in
    let read = c.read_list-read.ensures in
    let good = c.in-Ok.is in
    let judged = c.judge_list-verdict.ensures in
    let yes = c.in-Ok-verdict.is in
    let built = c.build_list-built.ensures in
    let printed = c.write_table-answer.ensures in
    record {
      answers = answers_table _ short read _ good _ judged _ yes c.requires built printed.written;
      noted = notes_list _ short read _ good _ judged (notes_accepted _ _ yes);
      answer_bound = (printed.upper_bound (built_within _ _ c.requires built _ (built_accepted _ short read _ good _ judged _ yes c.requires built)), omega arith);
    }
