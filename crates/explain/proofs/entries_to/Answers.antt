-- `explain::entries_to` meets its contract: the entries so far are tested.
use Rattle.std.proofs.Common.{refl, ◌≡◌, arith, length}
use Rattle.std.proofs.Math.Numerals.{add-one}
use Rattle.explain.specs.Seen.{entries_to}
use Rattle.explain.proofs.entries_to.Goals as goal

pub loop-entry-init : goal.loop-entry-init
unfolding entries_to
loop-entry-init c = refl

pub loop-entry-preserved : goal.loop-entry-preserved
unfolding entries_to
loop-entry-preserved c = rw (add-one c.loop-entry.entry-index, c.loop-entry.invariant, c.from.ensures) refl

pub returns : goal.returns
returns c = let end : c.loop-entry.entry-index ≡ length c.args.run.now = omega arith in rw end at c.loop-entry.invariant
