-- `explain::candidate::start_then` meets its contract.
use Rattle.basis.specs.Choose.{cases}
use Rattle.explain.specs.Shapes.{start_then}
use native.Mathlib.Omega.{arith}
use Rattle.explain.proofs.candidate.start_then.Goals as goal

pub overflow_sub-result : goal.overflow_sub-result
overflow_sub-result c = omega (arith, c.requires.1 c.if-t-start.true)

pub returns-then-t-start : goal.returns-then-t-start
unfolding start_then
returns-then-t-start c = search cases depth 12

pub returns : goal.returns
unfolding start_then
returns c = search cases depth 12
