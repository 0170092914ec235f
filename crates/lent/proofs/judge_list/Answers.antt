-- `lent::judge_list` meets its contract: lists alike have one verdict.
use Rattle.std.proofs.Common.{rules, ◌∙◌}
use Rattle.lent.specs.Lent.{lent_alike, verdict_alike}
use Rattle.lent.proofs.judge_list.Goals as goal

pub returns-in-Some : goal.returns-in-Some
returns-in-Some c =
    let found = c.in-Some.ensures.lookup.0 in
    c.judge_lent.ensures ∙ verdict_alike _ _ (lent_alike c.args.list _ (search rules) found.1 found.2) _
