-- `run::step_in_place` meets its contract: each way out answers as the laws of Answers say.
use Rattle.std.proofs.Common.{sym, ◌∙◌, refl, ap, arith, rules}
use Rattle.std.proofs.lemmas.Result.{err_from_is_err_and}
use Rattle.run.specs.declared.State.{State}
use Rattle.run.specs.Shapes.{renewed, late_up_to, gone_on}
use Rattle.run.proofs.Served.{position_still}
use Rattle.run.proofs.Answers.{step_not_asked, step_refused, passes, serves, closing, turns, renewed_next, late_next, step_done}
use Rattle.run.proofs.step_in_place.Goals as goal

pub returns-in_err-asked : goal.returns-in_err-asked
returns-in_err-asked c = let p = err_from_is_err_and c.from_residual.result c.from_residual.ensures.1 in
    rw (p.1, p.2) (step_not_asked _ _ _ _ _ _ (sym c.ask.ensures ∙ c.in_err-asked.was))

pub returns-in_err-check : goal.returns-in_err-check
returns-in_err-check c = let p = err_from_is_err_and c.from_residual-in_err-check.result c.from_residual-in_err-check.ensures.1 in
    rw (p.1, p.2) (step_refused _ _ _ _ _ _ (sym c.ask.ensures ∙ c.in_ok-asked.was) _ (sym c.check.ensures ∙ c.in_err-check.was))

pub serve-requires : goal.serve-requires
serve-requires c = serves _ _ _ _ _ _ (passes _ _ _ _ _ _ (sym c.ask.ensures ∙ c.in_ok-asked.was) _ (sym c.check.ensures ∙ c.in_ok-check.was))

pub loop-i-init : goal.loop-i-init
unfolding renewed late_up_to
loop-i-init c = let P = passes _ _ _ _ _ _ (sym c.ask.ensures ∙ c.in_ok-asked.was) _ (sym c.check.ensures ∙ c.in_ok-check.was) in (closing _ _ _ _ _ _ P _ _ (c.serve.ensures _ P.ran_is), refl, refl)

pub turn-requires : goal.turn-requires
turn-requires c = rw (c.loop-i.invariant.1, c.loop-i.invariant.2) (turns _ _ _ c.loop-i.invariant.0 c.loop-i-test.true)

pub loop-i-preserved : goal.loop-i-preserved
loop-i-preserved c = (c.loop-i.invariant.0, renewed_next _ _ _ c.loop-i.invariant.1 _ c.turn.ensures.0, late_next _ _ _ c.loop-i.invariant.1 _ _ _ c.loop-i.invariant.2 c.turn.ensures.1)

pub overflow_add-state : goal.overflow_add-state
overflow_add-state c = omega (arith, c.loop-i.invariant.0.position_to, position_still c.serve.new.state c.loop-i.i, ap (λ (x : State). x.position) c.loop-i.invariant.1)

pub returns : goal.returns
unfolding gone_on
returns c = let P = passes _ _ _ _ _ _ (sym c.ask.ensures ∙ c.in_ok-asked.was) _ (sym c.check.ensures ∙ c.in_ok-check.was) in
    step_done _ _ _ _ _ _ P _ _ (c.serve.ensures _ P.ran_is) (search rules) _ _ _ (omega arith) c.loop-i.invariant.1 c.loop-i.invariant.2
