-- `lent_viewer::read_list` meets its contract: what is read back of a list alike is read back of the list.
use Rattle.std.proofs.Common.{rules}
use Rattle.lent.specs.Lent.{lent_alike}
use Rattle.lent_viewer.specs.Alike.{reads_alike}
use Rattle.lent_viewer.proofs.read_list.Goals as goal

pub returns-in-Some : goal.returns-in-Some
returns-in-Some c =
    let found = c.in-Some.ensures.lookup.0 in
    reads_alike _ _ (lent_alike c.args.list _ (search rules) found.1 found.2) _ _ _ _ _ c.read_lent.ensures
