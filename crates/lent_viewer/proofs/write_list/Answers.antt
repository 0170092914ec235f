-- `lent_viewer::write_list` meets its contract: what is written of a list alike is written of the list.
use Rattle.std.proofs.Common.{rules}
use Rattle.lent.specs.Lent.{lent_alike}
use Rattle.lent_viewer.specs.Alike.{writes_alike}
use Rattle.lent_viewer.proofs.write_list.Goals as goal

pub returns-in-Some : goal.returns-in-Some
returns-in-Some c =
    let found = c.in-Some.ensures.lookup.0 in
    writes_alike _ _ (lent_alike c.args.list _ (search rules) found.1 found.2) _ _ _ _ _ c.write_lent.ensures
