-- `run::who` meets its contract.
use Rattle.std.proofs.Common.{sym, ◌∙◌}
use Rattle.std.proofs.lemmas.Result.{err_from_is_err_and}
use Rattle.run.proofs.Asking.{who_refused, who_told}
use Rattle.run.proofs.who.Goals as goal

pub returns-in_err-asked : goal.returns-in_err-asked
returns-in_err-asked c = let p = err_from_is_err_and c.from_residual.result c.from_residual.ensures.1 in
    rw (p.1, p.2) (who_refused _ _ _ (sym c.ask.ensures ∙ c.in_err-asked.was))

pub returns : goal.returns
returns c = who_told _ _ _ (sym c.ask.ensures ∙ c.in_ok-asked.was)
