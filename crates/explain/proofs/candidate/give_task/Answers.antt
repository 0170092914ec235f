-- `explain::candidate::give_task` meets its contract: the needs of the first k jobs are laid.
use Rattle.std.proofs.Common.{◌≡◌, ◌∙◌, arith, ◌+◌}
use Rattle.std.proofs.Math.ListN.{length-set}
use Rattle.explain.proofs.Giving.{laid_more, window_in, window_is}
use Rattle.explain.proofs.candidate.give_task.Goals as goal

pub loop-k-preserved : goal.loop-k-preserved
loop-k-preserved c = (
  length-set c.loop-k.needs (c.args.from + c.loop-k.k) c.count_in.result ∙ c.loop-k.invariant.0,
  λ i e. laid_more _ _ _ _ _ _ (c.loop-k.invariant.1 i e) (omega arith) (c.count_in.ensures i e ∙ window_is c.args.run.now _ _ i (window_in _ _ _ _ c.requires.1 c.loop-k-test.true)),
)

pub returns : goal.returns
returns c = λ i e. let end : c.loop-k.k ≡ c.args.jobs = omega arith in rw end at (c.loop-k.invariant.1 i e)
