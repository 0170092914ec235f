-- `quick::walk::try_task` meets its contract: what is asked for where the walk stands, by the deadline or by the cycle's end decides,
-- or else the walk does.
use Rattle.quick.proofs.Walking.{too_much, in_time, walked_in_time, deadline_passes, cycle_overfull}
use Rattle.quick.proofs.walk.try_task.Goals as goal

pub returns-then-due-first : goal.returns-then-due-first
returns-then-due-first c = too_much _ _ _ _ _ _ c.requires.0 _ c.requires.0.walks c.if-due-first.true

pub returns-then-first : goal.returns-then-first
returns-then-first c = in_time _ _ _ _ _ _ c.requires.0 _ c.requires.0.walks c.if-due-first.false c.if-first.true

pub returns-then-by_deadline-due : goal.returns-then-by_deadline-due
returns-then-by_deadline-due c = deadline_passes _ _ _ _ _ _ c.requires.0 _ c.point_from-by_deadline.ensures c.if-by_deadline-due.true

pub returns-then-cycle-by_cycle : goal.returns-then-cycle-by_cycle
returns-then-cycle-by_cycle c = cycle_overfull _ _ _ _ _ _ c.requires.0 _ c.requires.1 _ c.point_from-by_cycle.ensures c.if-cycle-by_cycle.true

pub returns-then-due-last : goal.returns-then-due-last
returns-then-due-last c = too_much _ _ _ _ _ _ c.requires.0 _ c.walk_on-last.ensures.walks c.if-due-last.true

pub returns : goal.returns
returns c = walked_in_time _ _ _ _ _ _ c.requires.0 _ c.walk_on-last.ensures c.if-due-last.false
