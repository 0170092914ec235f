-- `tasks::check_tasks` meets its contract: up to task i nothing is found.
use Rattle.std.proofs.Common.{rules, ◌≡◌, ◌∙◌, ap, arith, Err}
use Rattle.basis.specs.Answer.{Answer, first_found, none_number}
use Rattle.tasks.specs.List.{no_task}
use Rattle.tasks.specs.Refusal.{unless_broken}
use Rattle.tasks.proofs.Steps.{before_end, at_end, passes, passed, nothing_here, refused_here, of_task_among}
use Rattle.tasks.proofs.check_tasks.Goals as goal

pub loop-i-init : goal.loop-i-init
unfolding first_found
loop-i-init c = none_number

pub returns-in_err-check_task : goal.returns-in_err-check_task
unfolding no_task
returns-in_err-check_task c =
    let gives : c.from_residual.result ≡ Err c.in_err-check_task.field-0.0 = search rules in
    gives
    ∙ refused_here _ _ _ _ _ _ (before_end c.args.list.now.tasks _ _ c.loop-i-test.true) c.loop-i.invariant
    (c.check_task.ensures ∙ ap (λ (f : Answer). unless_broken f tt) (of_task_among _ _ _ c.loop-i-test.true)) c.in_err-check_task.was

pub loop-i-preserved : goal.loop-i-preserved
unfolding no_task
loop-i-preserved c =
    nothing_here _ _ c.loop-i.invariant
    (passed tt _ _ _ (c.check_task.ensures ∙ ap (λ (f : Answer). unless_broken f tt) (of_task_among _ _ _ c.loop-i-test.true)) c.in_ok-check_task.was)

pub returns : goal.returns
returns c =
    let end : c.loop-i.i ≡ c.args.list.now.count = at_end c.args.list.now.tasks _ _ (search rules) (omega arith) (omega arith) in
    passes tt _ (rw end at c.loop-i.invariant)
