-- `readback::copy` meets its contract.
use Rattle.std.proofs.Common.{refl, arith, le-leb}
use borrow.Author.Tests.{lt-leb}
use Rattle.basis.specs.Choose.{yes_so, no_so}
use Rattle.basis.proofs.Overwritten.{copied_front}
use Rattle.readback.proofs.copy.Goals as goal

pub returns-then-count-out : goal.returns-then-count-out
returns-then-count-out c =
    yes_so _ _ _ _ (le-leb _ _ c.if-count-out.true)
    (copied_front 0 c.args.aside.now c.args.out.now c.copy_from_slice.new.self c.args.count c.copy_from_slice.ensures.after (omega arith) c.if-count-out.true)

pub returns-else-count-out : goal.returns-else-count-out
returns-else-count-out c = no_so _ _ _ _ (lt-leb _ _ c.if-count-out.false) refl
