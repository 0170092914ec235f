-- `explain::candidate::got_before` meets its contract.
use Rattle.basis.specs.Choose.{cases}
use Rattle.explain.proofs.candidate.got_before.Goals as goal

pub returns-then-t-start : goal.returns-then-t-start
returns-then-t-start c = search cases depth 12

pub returns : goal.returns
returns c = search cases depth 12
