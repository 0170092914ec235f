-- `run::ask::by_table` meets its contract: each way out by what the entry reads as.
use Rattle.std.proofs.Common.{sym, ◌∙◌, arith}
use Rattle.run.proofs.Asking.{reads_short, reads_idle_as, reads_one, reads_ended_as, reads_open_as, reads_none_as}
use Rattle.run.proofs.ask.by_table.Goals as goal

pub returns-then-table-state : goal.returns-then-table-state
returns-then-table-state c = reads_short _ _ c.requires.0 c.if-table-state.true

pub overflow_sub-task : goal.overflow_sub-task
overflow_sub-task c = (reads_one _ _ _ c.requires.0 (sym c.read_entry.ensures ∙ c.in-Task.is)).0

pub bounds-state-task : goal.bounds-state-task
bounds-state-task c = omega (arith, reads_one _ _ _ c.requires.0 (sym c.read_entry.ensures ∙ c.in-Task.is))

pub returns-in-Idle : goal.returns-in-Idle
returns-in-Idle c = reads_idle_as _ _ c.requires.0 c.if-table-state.false (sym c.read_entry.ensures ∙ c.in-Idle.is)

pub returns-then-state-task : goal.returns-then-state-task
returns-then-state-task c = reads_ended_as _ _ c.requires.0 c.if-table-state.false _ (sym c.read_entry.ensures ∙ c.in-Task.is) c.if-state-task.true

pub returns-else-state-task : goal.returns-else-state-task
returns-else-state-task c = reads_open_as _ _ c.requires.0 c.if-table-state.false _ (sym c.read_entry.ensures ∙ c.in-Task.is) c.if-state-task.false

pub returns-in-NoEntry : goal.returns-in-NoEntry
returns-in-NoEntry c = reads_none_as _ _ c.requires.0 c.if-table-state.false _ (sym c.read_entry.ensures ∙ c.in-NoEntry.is)
