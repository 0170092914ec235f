-- `explain::candidate::give` meets its contract: the needs of the first i tasks are given.
use Rattle.std.proofs.Common.{◌≡◌, refl, ◌∙◌, arith}
use Rattle.std.proofs.Math.Numerals.{add-one}
use Rattle.basis.specs.Sum.{sum}
use Rattle.tasks.specs.List.{task_at, no_task, plan_of}
use Rattle.tasks.specs.Bounds.{job_sum}
use Rattle.explain.proofs.Giving.{given_none, given_all, given_more, from_next, given_is, period_some, period_most, windows_in, jobs_are, room_for}
use Rattle.explain.proofs.candidate.give.Goals as goal

pub loop-i-init : goal.loop-i-init
unfolding job_sum sum
loop-i-init c = (refl, refl, given_none _ _ _)

pub nonzero_div-jobs : goal.nonzero_div-jobs
unfolding task_at no_task plan_of
nonzero_div-jobs c = omega (arith, period_some _ _ _ c.requires.0 c.loop-i.i c.loop-i-test.true)

pub give_task-requires : goal.give_task-requires
unfolding task_at no_task plan_of
give_task-requires c = (period_most _ _ _ c.requires.0 c.loop-i.i c.loop-i-test.true, windows_in _ _ _ c.requires.0 c.loop-i.i c.loop-i-test.true, room_for _ _ _ c.requires.0 c.loop-i.i c.loop-i-test.true _ _ c.loop-i.invariant.0 (omega (arith, c.requires.1, c.loop-i.invariant.1)))

pub overflow_add-from : goal.overflow_add-from
unfolding task_at no_task plan_of
overflow_add-from c = omega (arith, room_for _ _ _ c.requires.0 c.loop-i.i c.loop-i-test.true _ _ c.loop-i.invariant.0 c.requires.1)

pub loop-i-preserved : goal.loop-i-preserved
unfolding task_at no_task plan_of
loop-i-preserved c =
    let laid = given_is c.args.list c.args.run.now c.loop-i.i _ _ _ _ _ refl (c.give_task.ensures c.loop-i.i (add-one _)) in
    let jobs = jobs_are _ _ _ c.requires.0 c.loop-i.i c.loop-i-test.true in
    (from_next _ _ _ _ c.loop-i.invariant.0 jobs, laid.long ∙ c.loop-i.invariant.1, given_more _ _ _ _ c.loop-i.invariant.0 jobs _ _ _ _ c.loop-i.invariant.2 laid)

pub returns : goal.returns
returns c = let end : c.loop-i.i ≡ c.args.list.count = omega arith in given_all _ _ _ _ (rw end at c.loop-i.invariant.2)
