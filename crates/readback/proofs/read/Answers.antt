-- `readback::read` meets its contract.
use Rattle.std.proofs.Common.{refl}
use Rattle.std.proofs.lemmas.Result.{err_from_is_err_and}
use Rattle.printing.specs.Text.{ascii, digit}
use Rattle.vcd.specs.Form.{header, time_line}
use Rattle.vcd.specs.Follows.{beginning}
use Rattle.readback.proofs.Changes.{beginning_stuck, whole_beginning}
use Rattle.readback.proofs.Told.{told_stuck, told_none, told_few, told_run}
use Rattle.readback.proofs.read.Goals as goal

pub returns-then-begun-lt115 : goal.returns-then-begun-lt115
unfolding beginning header time_line ascii digit
returns-then-begun-lt115 c = told_stuck _ _ _ (beginning_stuck _ _ c.shared-begun.ensures c.if-begun-lt115.true)

pub read_changes-requires : goal.read_changes-requires
unfolding beginning header time_line ascii digit
read_changes-requires c = (whole_beginning _ _ c.shared-begun.ensures c.if-begun-lt115.false, refl)

pub returns-in_err-count : goal.returns-in_err-count
returns-in_err-count c =
    let same = err_from_is_err_and c.from_residual.result c.from_residual.ensures.1 in
    rw (same.1, same.2) (told_none _ _ _ _ c.in_err-count.ensures)

pub copy-requires : goal.copy-requires
copy-requires c = told_few _ _ _ c.in_ok-count.ensures

pub returns : goal.returns
returns c = told_run _ _ _ c.in_ok-count.ensures _ _ c.copy.ensures
