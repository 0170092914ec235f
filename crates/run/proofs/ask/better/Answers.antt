-- `run::ask::better` meets its contract.
use Rattle.std.proofs.Common.{sym, ◌∙◌, arith}
use Rattle.run.proofs.Turns.{ended_keeps, none_gives, smaller_gives, earlier_keeps, entry_of_some}
use Rattle.run.proofs.ask.better.Goals as goal

pub returns-then-state-i : goal.returns-then-state-i
returns-then-state-i c = λ e is. ended_keeps _ _ _ _ _ is c.if-state-i.true

pub overflow_sub-task : goal.overflow_sub-task
overflow_sub-task c = (entry_of_some _ _ (sym c.in-Some.is ∙ c.requires.1.is)).1

pub offset_bounds-state-task : goal.offset_bounds-state-task
offset_bounds-state-task c = omega (arith, c.requires.1.to, entry_of_some _ _ (sym c.in-Some.is ∙ c.requires.1.is))

pub bounds-state-task : goal.bounds-state-task
bounds-state-task c = omega (arith, c.requires.1.to, entry_of_some _ _ (sym c.in-Some.is ∙ c.requires.1.is))

pub returns-then-key_of : goal.returns-then-key_of
returns-then-key_of c = λ e is. smaller_gives _ _ _ _ _ is _ c.in-Some.is c.if-state-i.false (omega (arith, c.if-key_of.true, c.key_of-in-Some.ensures, c.key_of.ensures))

pub returns-else-key_of : goal.returns-else-key_of
returns-else-key_of c = λ e is. earlier_keeps _ _ _ _ _ is _ c.in-Some.is c.if-state-i.false (omega (arith, c.if-key_of.false, c.key_of-in-Some.ensures, c.key_of.ensures))

pub returns-in-None : goal.returns-in-None
returns-in-None c = λ e is. none_gives _ _ _ _ _ is c.if-state-i.false c.in-None.is
