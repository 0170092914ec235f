-- `verdict::walk::tightest` meets its contract: `best` is the tightest of the first k.
use Rattle.verdict.specs.Shapes.{margin_at, TightestAt}
use Rattle.verdict.proofs.walk.tightest.Given as goal

abbrev pub invariant-loop-k : goal.invariant-loop-k
invariant-loop-k l = TightestAt (margin_at l.dues l.ends) l.k l.best
