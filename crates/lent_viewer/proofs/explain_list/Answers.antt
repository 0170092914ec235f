-- `lent_viewer::explain_list` meets its contract: what explains a file by a list alike explains it by the list.
use Rattle.std.proofs.Common.{rules}
use Rattle.lent.specs.Lent.{lent_alike}
use Rattle.lent_viewer.specs.Alike.{explains_alike}
use Rattle.lent_viewer.proofs.explain_list.Goals as goal

pub returns-in-Some : goal.returns-in-Some
returns-in-Some c =
    let found = c.in-Some.ensures.lookup.0 in
    explains_alike _ _ (lent_alike c.args.list _ (search rules) found.1 found.2) _ _ _ _ _ c.explain_lent.ensures
