-- `start::read` meets its contract: the first i tasks are read.
use Rattle.std.proofs.Common.{◌≡◌, refl, arith}
use Rattle.basis.specs.Bytes.{overwrite, overwrite_next}
use Rattle.tasks.specs.List.{task_at, no_task}
use Rattle.start.proofs.read.Goals as goal

pub loop-i-init : goal.loop-i-init
unfolding overwrite
loop-i-init c = (refl, refl, refl)

pub loop-i-preserved : goal.loop-i-preserved
unfolding task_at no_task
loop-i-preserved c = (
  overwrite_next _ _ _ _ _ c.loop-i.invariant.0 refl,
  overwrite_next _ _ _ _ _ c.loop-i.invariant.1 c.due_of.ensures,
  overwrite_next _ _ _ _ _ c.loop-i.invariant.2 (c.runtime_of.ensures 0),
)

pub returns : goal.returns
returns c =
    let end : c.loop-i.i ≡ c.args.list.now.count = omega arith in
    (rw end at c.loop-i.invariant.0, rw end at c.loop-i.invariant.1, rw end at c.loop-i.invariant.2)
