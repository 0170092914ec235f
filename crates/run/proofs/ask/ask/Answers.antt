-- `run::ask::ask` meets its contract.
use Rattle.std.proofs.Common.{sym, ◌∙◌}
use Rattle.std.proofs.lemmas.Result.{err_from_is_err_and}
use Rattle.run.proofs.Asking.{counted, asked_unsound, asked_over, asked_filling, asked_read, asked_unread, facts_by, before_end}
use Rattle.run.proofs.ask.ask.Goals as goal

pub returns-in_err-jobs : goal.returns-in_err-jobs
returns-in_err-jobs c = let p = err_from_is_err_and c.from_residual.result c.from_residual.ensures.1 in
    rw (p.1, p.2) (asked_unsound _ _ _ _ c.jobs_if_sound.ensures (sym c.ok_or.ensures.value ∙ c.in_err-jobs.was))

pub returns-then-state : goal.returns-then-state
returns-then-state c = asked_over _ _ _ (counted _ _ _ c.jobs_if_sound.ensures (sym c.ok_or.ensures.value ∙ c.in_ok-jobs.was)) c.if-state.true

pub by_table-requires : goal.by_table-requires
by_table-requires c = let e = counted _ _ _ c.jobs_if_sound.ensures (sym c.ok_or.ensures.value ∙ c.in_ok-jobs.was) in ((facts_by _ _ e).count_within, before_end _ _ e c.if-state.false)

pub returns-in_err-ran-in-Table : goal.returns-in_err-ran-in-Table
returns-in_err-ran-in-Table c = let p = err_from_is_err_and c.from_residual-in_err-ran-in-Table.result c.from_residual-in_err-ran-in-Table.ensures.1 in
    rw (p.1, p.2) (asked_unread _ _ _ (counted _ _ _ c.jobs_if_sound.ensures (sym c.ok_or.ensures.value ∙ c.in_ok-jobs.was)) c.if-state.false c.in-Table.is _ (sym c.in_err-ran-in-Table.was ∙ c.by_table.ensures))

pub first_open-ran-requires : goal.first_open-ran-requires
first_open-ran-requires c = (facts_by _ _ (counted _ _ _ c.jobs_if_sound.ensures (sym c.ok_or.ensures.value ∙ c.in_ok-jobs.was))).count_within

pub returns-in_ok-ran-in-Table : goal.returns-in_ok-ran-in-Table
returns-in_ok-ran-in-Table c = asked_read _ _ _ (counted _ _ _ c.jobs_if_sound.ensures (sym c.ok_or.ensures.value ∙ c.in_ok-jobs.was)) c.if-state.false c.in-Table.is _ (sym c.in_ok-ran-in-Table.was ∙ c.by_table.ensures)

pub returns-in-Filling : goal.returns-in-Filling
returns-in-Filling c = asked_filling _ _ _ (counted _ _ _ c.jobs_if_sound.ensures (sym c.ok_or.ensures.value ∙ c.in_ok-jobs.was)) c.if-state.false _ c.in-Filling.is c.first_open-ran.ensures
