-- `answer` meets its contract: each way out prints as the laws of Ways say.
use Rattle.std.proofs.Common.{rules, arith, sym, length-take-le}
use Rattle.output.specs.Output.{writes_refusal}
use Rattle.output.specs.Listed.{answers_too_long, answers_bad_line}
use Rattle.output.specs.Building.{cycle_built}
use Rattle.vcd_program.proofs.Ways.{answers_refused, answers_dump}
use Rattle.vcd_program.proofs.answer.Goals as goal

pub returns-then-input-gt4096-clause-vcd_answers : goal.returns-then-input-gt4096-clause-vcd_answers
returns-then-input-gt4096-clause-vcd_answers c = answers_too_long c.if-input-gt4096.true c.write_refusal.ensures.written

pub returns-in-Err-clause-vcd_answers : goal.returns-in-Err-clause-vcd_answers
returns-in-Err-clause-vcd_answers c = answers_bad_line _ c.if-input-gt4096.false c.read_list.ensures _ c.in-Err.is c.write_refusal-in-Err.ensures.written

pub slice_bounds-table-end : goal.slice_bounds-table-end
slice_bounds-table-end c = cycle_built _ _ (omega arith) c.build_list.ensures _ c.in-Ok-build_list.is

pub slice_bounds-write-end : goal.slice_bounds-write-end
slice_bounds-write-end c = sym (length-take-le _ _ (cycle_built _ _ (omega arith) c.build_list.ensures _ c.in-Ok-build_list.is))

pub returns-in-Ok-build_list : goal.returns-in-Ok-build_list
returns-in-Ok-build_list c =
    let said = answers_dump _ c.if-input-gt4096.false c.read_list.ensures _ c.in-Ok.is (omega arith) c.build_list.ensures _ c.in-Ok-build_list.is c.requires c.write.ensures in
    record { vcd_answers = said.0; upper_bound = said.1 }

pub returns-in-Err-build_list-clause-vcd_answers : goal.returns-in-Err-build_list-clause-vcd_answers
returns-in-Err-build_list-clause-vcd_answers c =
    answers_refused _ c.if-input-gt4096.false c.read_list.ensures _ c.in-Ok.is (omega arith) c.build_list.ensures _ c.in-Err-build_list.is
    (writes_refusal _ c.number.ensures c.task.ensures (search rules) c.write_refusal-in-Err-build_list.ensures.written)
