-- `quick::walk::inverse_of` meets its contract.
use Rattle.std.proofs.Common.{◌∙◌, sym, ◌/◌}
use Rattle.std.proofs.Math.Numerals.{add-one}
use Rattle.basis.proofs.Slices.{ceil_suc}
use Rattle.quick.specs.Shapes.{inverse_of}
use Rattle.quick.proofs.walk.inverse_of.Goals as goal

pub returns : goal.returns
unfolding inverse_of
returns c = rw c.from.ensures (add-one (4294967295 / c.args.period) ∙ sym (ceil_suc c.args.period c.requires 4294967295))
