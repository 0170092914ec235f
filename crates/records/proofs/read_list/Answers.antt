-- `records::read_list` meets its contract: what is left to read comes to the same answer as the whole input.
use mathlib.Core.Path.{refl, sym, ◌∙◌}
use native.Mathlib.Omega.{arith}
use borrow.Author.Tests.{ltb-true}
use Rattle.std.proofs.lemmas.Result.{err_from_is_err_and}
use Rattle.records.proofs.Turns.{no_byte_yet, line_ends, line_named, line_goes_on, no_byte_more}
use Rattle.records.proofs.read_list.Goals.{in_default-rest-via-then-rest-lt2, in_default-rest-via-else-rest-lt2+in-13+in_default-1, in_default-rest-via-else-rest-lt2+in_default-1}
use Rattle.records.proofs.read_list.Goals as goal

pub loop-rest-init : goal.loop-rest-init
loop-rest-init c = no_byte_yet _ _ _ c.no_tasks-list.ensures c.fresh_line.ensures

pub returns-in_err-list : goal.returns-in_err-list
returns-in_err-list c =
    let p = err_from_is_err_and c.from_residual.result c.from_residual.ensures.1 in
    rw (p.1, p.2)
    (line_named _ _ (record { two = omega arith; cr = omega arith; lf = omega arith }) c.loop-rest.invariant (sym c.close_line.ensures ∙ c.in_err-list.was))

pub loop-rest-preserved-in-10-1 : goal.loop-rest-preserved-in-10-1
loop-rest-preserved-in-10-1 c =
    line_ends _ _ _ _ (record { two = omega arith; cr = omega arith; lf = omega arith }) refl c.loop-rest.invariant (sym c.close_line.ensures ∙ c.in_ok-list.was) c.fresh_line-in-13.ensures

pub loop-rest-preserved : goal.loop-rest-preserved
loop-rest-preserved c = elim c.in_default-rest.branch [
  | in_default-rest-via-then-rest-lt2 w ↦ line_goes_on _ _ (omega arith) (λ h. omega (arith, h.two, ltb-true)) c.loop-rest.invariant c.with_byte-line.ensures
  | in_default-rest-via-else-rest-lt2+in-13+in_default-1 w ↦ line_goes_on _ _ (omega arith) (λ h. omega (arith, h.lf)) c.loop-rest.invariant c.with_byte-line.ensures
  | in_default-rest-via-else-rest-lt2+in_default-1 w ↦ line_goes_on _ _ (omega arith) (λ h. omega (arith, h.cr)) c.loop-rest.invariant c.with_byte-line.ensures
]

pub returns : goal.returns
returns c = no_byte_more _ _ (omega arith) c.loop-rest.invariant c.at_end.ensures
