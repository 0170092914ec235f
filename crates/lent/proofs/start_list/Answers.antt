-- `lent::start_list` meets its contract: a start with a list alike is a start with the list.
use Rattle.std.proofs.Common.{rules}
use Rattle.lent.specs.Lent.{lent_alike, begins_alike}
use Rattle.lent.proofs.start_list.Goals as goal

pub returns-in-Some : goal.returns-in-Some
returns-in-Some c =
    let found = c.in-Some.ensures.lookup.0 in
    begins_alike _ _ (lent_alike c.args.list _ (search rules) found.1 found.2) _ _ _ _ _ _ c.start_lent.ensures
