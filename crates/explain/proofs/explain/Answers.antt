-- `explain::explain` meets its contract.
use Rattle.std.proofs.Common.{rules, ◌≡◌, Err}
use borrow.Author.Tests.{not-true, not-false}
use Rattle.explain.proofs.Answers.{run_refused, run_seen, needs_room, run_not_led, run_led}
use Rattle.explain.proofs.explain.Goals as goal

pub returns-in_err-check : goal.returns-in_err-check
returns-in_err-check c =
    let gives : c.from_residual.result ≡ Err c.in_err-check.field-0.0 = search rules in
    rw gives (run_refused _ _ _ c.requires _ c.args.needs.now _ c.check.ensures _ c.in_err-check.was)

pub leads-requires : goal.leads-requires
leads-requires c = run_seen _ _ _ c.requires _ c.args.needs.now _ c.check.ensures c.in_ok-check.was

pub returns-then-not-leads : goal.returns-then-not-leads
returns-then-not-leads c = run_not_led _ _ _ c.requires _ c.args.needs.now _ c.check.ensures c.in_ok-check.was (rw (not-true c.leads.result c.if-not-leads.true-raw) at c.leads.ensures)

pub give-requires : goal.give-requires
give-requires c = (run_seen _ _ _ c.requires _ c.args.needs.now _ c.check.ensures c.in_ok-check.was, needs_room _ _ _ c.requires _ c.args.needs.now _ c.check.ensures c.in_ok-check.was)

pub shape_of-needs : goal.shape_of-needs
shape_of-needs c = c.give.ensures.long

pub returns : goal.returns
returns c = run_led _ _ _ c.requires _ c.args.needs.now _ c.check.ensures c.in_ok-check.was (rw (not-false c.leads.result c.if-not-leads.false-raw) at c.leads.ensures) _ c.give.ensures
