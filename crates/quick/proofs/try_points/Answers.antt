-- `quick::try_points` meets its contract.
use Rattle.std.proofs.Common.{arith, ◌∙◌, ap, Err}
use Rattle.quick.proofs.Answers.{level, round, place_within, answer_accepted, answer_refused}
use Rattle.quick.proofs.try_points.Goals as goal

pub first_failing-requires : goal.first_failing-requires
first_failing-requires c = (
  level _ c.requires.0 _ _ c.unranked-ranked.ensures c.by_rank.ensures,
  round _ c.requires.0 _ _ c.unranked-ranked.ensures c.by_rank.ensures _ c.requires.1,
)

pub offset_bounds-ranked-place : goal.offset_bounds-ranked-place
offset_bounds-ranked-place c = omega (arith, place_within _ c.requires.0 _ _ c.unranked-ranked.ensures c.by_rank.ensures _ (rw c.in-Some.is at c.first_failing.ensures))

pub bounds-ranked-place : goal.bounds-ranked-place
bounds-ranked-place c = (place_within _ c.requires.0 _ _ c.unranked-ranked.ensures c.by_rank.ensures _ (rw c.in-Some.is at c.first_failing.ensures)).0

pub overflow_add-ranked : goal.overflow_add-ranked
overflow_add-ranked c = omega (arith, c.requires.0.keeps.few, place_within _ c.requires.0 _ _ c.unranked-ranked.ensures c.by_rank.ensures _ (rw c.in-Some.is at c.first_failing.ensures))

pub returns-in-Some : goal.returns-in-Some
returns-in-Some c = ap Err c.named.ensures ∙ answer_refused _ c.requires.0 _ _ c.unranked-ranked.ensures c.by_rank.ensures _ (rw c.in-Some.is at c.first_failing.ensures)

pub returns-in-None : goal.returns-in-None
returns-in-None c = answer_accepted _ c.requires.0 _ _ c.unranked-ranked.ensures c.by_rank.ensures (rw c.in-None.is at c.first_failing.ensures)
