-- `lent::ask_list` meets its contract: lists alike have one quick answer.
use Rattle.std.proofs.Common.{rules, ◌∙◌}
use Rattle.lent.specs.Lent.{lent_alike, quick_alike}
use Rattle.lent.proofs.ask_list.Goals as goal

pub returns-in-Some : goal.returns-in-Some
returns-in-Some c =
    let found = c.in-Some.ensures.lookup.0 in
    c.ask_lent.ensures ∙ quick_alike _ _ (lent_alike c.args.list _ (search rules) found.1 found.2) _
