-- `lent::build_list` meets its contract: what is built of a list alike is built of the list.
use Rattle.std.proofs.Common.{rules}
use Rattle.lent.specs.Lent.{lent_alike, built_alike}
use Rattle.lent.proofs.build_list.Goals as goal

pub returns-in-Some : goal.returns-in-Some
returns-in-Some c =
    let found = c.in-Some.ensures.lookup.0 in
    built_alike _ _ (lent_alike c.args.list _ (search rules) found.1 found.2) _ _ _ _ c.build_lent.ensures
