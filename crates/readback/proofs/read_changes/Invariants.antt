-- `readback::read_changes` meets its contract: the file up to a place is the text of the entries before slice t.
use Rattle.std.proofs.Common.{◌≡◌, ◌-◌, length, take}
use Rattle.readback.proofs.Changes.{Stands}
use Rattle.readback.proofs.read_changes.Given as goal

abbrev pub invariant-loop-t : goal.invariant-loop-t
invariant-loop-t l = Stands l.file l.at l.t l.before (take l.t l.aside) × (l.at ≡ length l.file → l.t ≡ 0) × (length l.aside ≡ 4096)

abbrev pub decreases-loop-t : goal.decreases-loop-t
decreases-loop-t l = 4096 - l.t
