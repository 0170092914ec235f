-- `quick::walk::walk_on` meets its contract: no slice before the one where the walk stands passes.
use Rattle.std.proofs.Common.{arith}
use Rattle.quick.proofs.Walking.{goes_on, walks_on, point_rises}
use Rattle.quick.proofs.walk.walk_on.Goals as goal

pub loop-walk-smaller : goal.loop-walk-smaller
loop-walk-smaller c =
    let on = goes_on c.loop-walk.walk.point c.loop-walk.walk.asked c.args.due c.loop-walk-test.true in
    omega (arith, on.0, on.1, point_rises c.args.ranked.now.periods c.requires.dues c.args.ranked.now.runtimes c.args.n c.requires.level c.args.due c.requires.due_small c.loop-walk.walk c.loop-walk.invariant on c.point_from-walk.result c.point_from-walk.ensures)

pub loop-walk-preserved : goal.loop-walk-preserved
loop-walk-preserved c = walks_on _ _ _ _ c.requires.level _ c.requires.due_small _ c.loop-walk.invariant (goes_on _ _ _ c.loop-walk-test.true) _ c.point_from-walk.ensures
