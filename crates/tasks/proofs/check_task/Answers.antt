-- `tasks::check_task` meets its contract: each test is the definition's.
use Rattle.std.proofs.Common.{rules, ◌≡◌, ◌∙◌, sym, ap, not, true, false}
use Rattle.basis.specs.Choose.{choose, within, choose_yes, choose_no}
use Rattle.basis.specs.Answer.{Answer, refusal, none}
use Rattle.tasks.specs.Bounds.{of_numbers}
use Rattle.tasks.specs.Refusal.{unless_broken, bound_refusal}
use Rattle.tasks.proofs.check_task.Goals as goal

pub returns-then-not-contains : goal.returns-then-not-contains
unfolding of_numbers unless_broken bound_refusal refusal choose within
returns-then-not-contains c = search rules

pub returns-then-not-contains-2 : goal.returns-then-not-contains-2
unfolding of_numbers unless_broken bound_refusal refusal choose within
returns-then-not-contains-2 c = search rules

pub returns-then-not-contains-3 : goal.returns-then-not-contains-3
unfolding of_numbers unless_broken bound_refusal refusal choose within
returns-then-not-contains-3 c =
    let t = c.args.task.now in
    let first : not (within 1 4096 t.period) ≡ false = search rules in
    let second : not (within 1 t.period t.runtime) ≡ false = search rules in
    let third : not (within t.runtime t.period t.deadline) ≡ true = search rules in
    sym (ap (λ (f : Answer). unless_broken f tt) (choose_no _ _ _ first ∙ choose_no _ _ _ second ∙ choose_yes _ _ _ third))

pub returns : goal.returns
unfolding of_numbers unless_broken bound_refusal refusal none choose within
returns c =
    let t = c.args.task.now in
    let first : not (within 1 4096 t.period) ≡ false = search rules in
    let second : not (within 1 t.period t.runtime) ≡ false = search rules in
    let third : not (within t.runtime t.period t.deadline) ≡ false = search rules in
    sym (ap (λ (f : Answer). unless_broken f tt) (choose_no _ _ _ first ∙ choose_no _ _ _ second ∙ choose_no _ _ _ third))
