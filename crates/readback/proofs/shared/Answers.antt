-- `readback::shared` meets its contract: the first i bytes agree.
use Rattle.readback.proofs.Bytes.{agree_none, agree_end, agree_other}
use Rattle.readback.proofs.shared.Goals as goal
use Rattle.readback.proofs.shared.Goals.{then-i-file-via-then-i-file, then-i-file-via-else-i-file+then-file-i}

pub loop-i-init : goal.loop-i-init
loop-i-init c = agree_none _ _

pub returns-then-i-file : goal.returns-then-i-file
returns-then-i-file c =
    let turn = c.loop-i in
    elim c.then-i-file.branch [
      | then-i-file-via-then-i-file w ↦ agree_end _ _ _ turn.invariant w.if-i-file.true c.loop-i-test.true (c.type_inv.text turn.i).fits
      | then-i-file-via-else-i-file+then-file-i w ↦ agree_other _ _ _ turn.invariant w.if-i-file.false c.loop-i-test.true w.if-file-i.true
    ]
