-- `verdict::walk::tightest` meets its contract: `best` is the tightest of the first k.
use Rattle.verdict.specs.Shapes.{margin_at}
use Rattle.verdict.proofs.Tightest.{tightest_first, tightest_more}
use Rattle.verdict.proofs.walk.tightest.Goals as goal

pub loop-k-init : goal.loop-k-init
loop-k-init c = tightest_first (margin_at c.args.dues.now c.args.ends.now)

pub loop-k-preserved : goal.loop-k-preserved
loop-k-preserved c = tightest_more (margin_at c.args.dues.now c.args.ends.now) _ _ _ c.loop-k.invariant c.tighter-best.ensures
