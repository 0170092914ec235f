-- `quick::walk::point_from` meets its contract: it stands at the first point of the first k tasks.
use Rattle.quick.specs.Shapes.{Stands}
use Rattle.quick.proofs.walk.point_from.Given as goal

abbrev pub invariant-loop-k : goal.invariant-loop-k
invariant-loop-k l = Stands l.ranked.periods l.ranked.runtimes l.k l.t l.walk
