-- `records::no_tasks` meets its contract.
use mathlib.Core.Path.{refl}
use Rattle.basis.specs.Bytes.{overwrite}
use Rattle.tasks.specs.List.{list_of, task_at, no_task}
use Rattle.records.proofs.no_tasks.Goals as goal

pub returns : goal.returns
unfolding list_of overwrite task_at no_task
returns c = refl
