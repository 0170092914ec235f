-- `quick::walk::walk_on` meets its contract: no slice before the one where the walk stands passes.
use Prim.Native.Nat.{◌-◌}
use Rattle.quick.specs.Shapes.{Walks}
use Rattle.quick.proofs.walk.walk_on.Given as goal

abbrev pub invariant-loop-walk : goal.invariant-loop-walk
invariant-loop-walk l = Walks l.ranked.periods l.ranked.runtimes l.n l.due l.walk

abbrev pub decreases-loop-walk : goal.decreases-loop-walk
decreases-loop-walk l = l.due - l.walk.point
