-- `verdict::decide` meets its contract.
use Rattle.std.proofs.Common.{rules, ◌≡◌, arith, Err}
use Rattle.basis.specs.Bytes.{zeros}
use Rattle.verdict.proofs.Answers.{shown, settled_short, settled_refused}
use Rattle.verdict.proofs.decide.Goals as goal

pub conclude-requires : goal.conclude-requires
conclude-requires c = (shown _ _ c.requires.0 c.requires.1 _ _ c.unranked-ranked.ensures c.by_rank.ensures, zeros 0)

pub returns-then-table-slices : goal.returns-then-table-slices
returns-then-table-slices c = settled_short _ _ _ _ (c.conclude.ensures (shown _ _ c.requires.0 c.requires.1 _ _ c.unranked-ranked.ensures c.by_rank.ensures)).answer _ c.if-table-slices.true

pub with_table-requires : goal.with_table-requires
with_table-requires c = (shown _ _ c.requires.0 c.requires.1 _ _ c.unranked-ranked.ensures c.by_rank.ensures, zeros 256, c.if-kept-le256.true, c.if-table-slices.false)

pub returns-then-kept-le256 : goal.returns-then-kept-le256
returns-then-kept-le256 c = c.with_table.ensures (shown _ _ c.requires.0 c.requires.1 _ _ c.unranked-ranked.ensures c.by_rank.ensures)

pub conclude-requires-then-asks_too_much : goal.conclude-requires-then-asks_too_much
conclude-requires-then-asks_too_much c = (shown _ _ c.requires.0 c.requires.1 _ _ c.unranked-ranked.ensures c.by_rank.ensures, zeros 0)

pub returns-in_err-conclude : goal.returns-in_err-conclude
returns-in_err-conclude c =
    let gives : c.from_residual.result ≡ Err c.in_err-conclude.field-0.0 = search rules in
    rw gives (settled_refused _ _ _ _ (c.conclude-then-asks_too_much.ensures (shown _ _ c.requires.0 c.requires.1 _ _ c.unranked-ranked.ensures c.by_rank.ensures)).answer _ _ c.in_err-conclude.was)

pub with_table-requires-2 : goal.with_table-requires-2
with_table-requires-2 c = (shown _ _ c.requires.0 c.requires.1 _ _ c.unranked-ranked.ensures c.by_rank.ensures, zeros 4096, omega (arith, c.requires.0.keeps.cycle_within, c.requires.1), c.if-table-slices.false)

pub returns : goal.returns
returns c = c.with_table-2.ensures (shown _ _ c.requires.0 c.requires.1 _ _ c.unranked-ranked.ensures c.by_rank.ensures)
