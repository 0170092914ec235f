-- `readback::read_changes` meets its contract: the file up to a place is the text of the entries before slice t.
use Rattle.std.proofs.Common.{◌≡◌, refl, arith}
use Rattle.std.proofs.lemmas.Result.{err_from_is_err_and}
use Rattle.readback.specs.Shapes.{ReadAside}
use Rattle.readback.proofs.Steps.{whole_is}
use Rattle.readback.proofs.Changes.{begins, value_stuck, stuck_behind_value, one_more, whole_run, last_stuck}
use Rattle.readback.proofs.read_changes.Goals as goal

pub loop-t-init : goal.loop-t-init
loop-t-init c = (begins _ c.requires.0, λ _. refl, c.requires.1)

pub returns-in_err-entry : goal.returns-in_err-entry
unfolding ReadAside
returns-in_err-entry c =
    let same = err_from_is_err_and c.from_residual.result c.from_residual.ensures.1 in
    rw (same.1, same.2) (value_stuck c.loop-t.invariant.0 _ c.loop-t-test.true c.loop-t.invariant.1 c.in_err-entry.ensures)

pub returns-in_err-next : goal.returns-in_err-next
unfolding ReadAside
returns-in_err-next c =
    let same = err_from_is_err_and c.from_residual-in_err-next.result c.from_residual-in_err-next.ensures.1 in
    rw (same.1, same.2) (stuck_behind_value c.loop-t.invariant.0 _ c.in_ok-entry.ensures _ c.in_err-next.ensures)

pub fill-requires : goal.fill-requires
fill-requires c =
    let later = whole_is _ _ _ _ _ _ c.in_ok-next.ensures in (
      omega (arith, later.from),
      later.to,
      (whole_is _ _ _ _ _ _ c.in_ok-entry.ensures).entry,
      c.loop-t.invariant.2,
    )

pub returns-then-at-file : goal.returns-then-at-file
unfolding ReadAside
returns-then-at-file c =
    let now = one_more c.loop-t.invariant.0 _ c.in_ok-entry.ensures _ c.in_ok-next.ensures refl c.fill.ensures in
    (now.so_far.length_is, whole_run now c.if-at-file.true (omega (arith, (whole_is _ _ _ _ _ _ c.in_ok-next.ensures).from)))

pub loop-t-smaller : goal.loop-t-smaller
loop-t-smaller c =
    let later = whole_is _ _ _ _ _ _ c.in_ok-next.ensures in
    omega (arith, c.loop-t.invariant.0.few, later.from, later.to)

pub loop-t-preserved : goal.loop-t-preserved
loop-t-preserved c = (
  one_more c.loop-t.invariant.0 _ c.in_ok-entry.ensures _ c.in_ok-next.ensures refl c.fill.ensures,
  λ e. absurd (c.if-at-file.false e),
  c.fill.ensures.long,
)

pub returns : goal.returns
unfolding ReadAside
returns c = last_stuck c.loop-t.invariant.0 c.loop-t-test.false (λ e. let z : c.loop-t.t ≡ 0 = c.loop-t.invariant.1 e in omega arith)
