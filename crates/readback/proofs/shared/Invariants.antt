-- `readback::shared` meets its contract: the first i bytes agree.
use Rattle.readback.proofs.Bytes.{Agree}
use Rattle.readback.proofs.shared.Given as goal

abbrev pub invariant-loop-i : goal.invariant-loop-i
invariant-loop-i l = Agree l.text l.file l.i
