-- `tasks::check_bounds` meets its contract: each way out is a law of Answers.
use Rattle.std.proofs.Common.{rules, ◌≡◌, ◌∙◌, Err}
use Rattle.tasks.proofs.Answers.{no_tasks, too_many, task_refused, all_fit, memory_refused, cycle_refused, cycle_small, all_kept}
use Rattle.tasks.proofs.check_bounds.Goals as goal

pub returns-then-list-eq0 : goal.returns-then-list-eq0
returns-then-list-eq0 c = no_tasks _ _ c.if-list-eq0.true

pub returns-then-list-gt16 : goal.returns-then-list-gt16
returns-then-list-gt16 c = too_many _ _ c.if-list-eq0.false c.if-list-gt16.true

pub returns-in_err-check_tasks : goal.returns-in_err-check_tasks
returns-in_err-check_tasks c =
    let gives : c.from_residual.result ≡ Err c.in_err-check_tasks.field-0.0 = search rules in
    gives ∙ task_refused _ _ c.if-list-eq0.false c.if-list-gt16.false _ c.check_tasks.ensures _ c.in_err-check_tasks.was

pub returns-in_err-check_memory : goal.returns-in_err-check_memory
returns-in_err-check_memory c =
    let gives : c.from_residual-in_err-check_memory.result ≡ Err c.in_err-check_memory.field-0.0 = search rules in
    gives ∙ memory_refused _ _ c.if-list-eq0.false c.if-list-gt16.false _ c.check_tasks.ensures c.in_ok-check_tasks.was _ c.check_memory.ensures _ c.in_err-check_memory.was

pub cycle_of-requires : goal.cycle_of-requires
cycle_of-requires c = all_fit _ c.args.supply c.if-list-eq0.false c.if-list-gt16.false _ c.check_tasks.ensures c.in_ok-check_tasks.was _ c.check_memory.ensures

pub returns-in_err-cycle : goal.returns-in_err-cycle
returns-in_err-cycle c =
    let gives : c.from_residual-in_err-cycle.result ≡ Err c.in_err-cycle.field-0.0 = search rules in
    gives ∙ cycle_refused _ _ c.if-list-eq0.false c.if-list-gt16.false _ c.check_tasks.ensures c.in_ok-check_tasks.was _ c.check_memory.ensures c.in_ok-check_memory.was _ c.cycle_of.ensures _ c.in_err-cycle.was

pub count_jobs-jobs-requires : goal.count_jobs-jobs-requires
count_jobs-jobs-requires c = (
  all_fit _ c.args.supply c.if-list-eq0.false c.if-list-gt16.false _ c.check_tasks.ensures c.in_ok-check_tasks.was _ c.check_memory.ensures,
  cycle_small _ c.args.supply c.if-list-eq0.false c.if-list-gt16.false _ c.check_tasks.ensures c.in_ok-check_tasks.was _ c.check_memory.ensures c.in_ok-check_memory.was _ c.cycle_of.ensures _ c.in_ok-cycle.was,
)

pub returns : goal.returns
returns c = all_kept _ _ c.if-list-eq0.false c.if-list-gt16.false _ c.check_tasks.ensures c.in_ok-check_tasks.was _ c.check_memory.ensures c.in_ok-check_memory.was _ c.cycle_of.ensures _ c.in_ok-cycle.was _ c.count_jobs-jobs.ensures
