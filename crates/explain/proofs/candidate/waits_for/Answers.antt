-- `explain::candidate::waits_for` meets its contract.
use Rattle.basis.specs.Choose.{cases}
use Rattle.explain.specs.Shapes.{waits_for}
use Rattle.explain.proofs.candidate.waits_for.Goals as goal

pub returns-then-t-start : goal.returns-then-t-start
unfolding waits_for
returns-then-t-start c = search cases depth 12

pub returns : goal.returns
unfolding waits_for
returns c = search cases depth 12
