-- `run::close::serve` meets its contract.
use Rattle.std.proofs.Common.{sym, ◌∙◌}
use Rattle.run.proofs.Answers.{some_task, serves_task, serves_one, serves_none}
use Rattle.run.proofs.close.serve.Goals as goal

pub overflow_sub-task : goal.overflow_sub-task
overflow_sub-task c = some_task _ _ (sym c.in-Some.is ∙ c.requires.is)

pub serve_task-requires : goal.serve_task-requires
serve_task-requires c = serves_task _ _ _ c.requires _ c.in-Some.is

pub returns-in-Some : goal.returns-in-Some
returns-in-Some c = λ e is. serves_one _ _ _ e _ (sym c.in-Some.is ∙ is) _ _ c.serve_task.ensures

pub returns-in_default : goal.returns-in_default
returns-in_default c = λ e is. serves_none _ _ _ e (sym c.in_default.is ∙ is)
