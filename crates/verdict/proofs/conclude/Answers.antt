-- `verdict::conclude` meets its contract: a miss is refused, and otherwise the walk has left the ends of the first jobs.
use Rattle.std.proofs.Common.{pos, ap, ◌∙◌, arith}
use Rattle.verdict.proofs.Signed.{fits_signed, as_signed, fits_negative, as_negative}
use Rattle.verdict.proofs.Cycle.{few, order_small, short_within, concluded_late, ends_by_dues, margin_within, concluded_accepted}
use Rattle.verdict.proofs.conclude.Goals as goal

pub overflow_cast-margin : goal.overflow_cast-margin
overflow_cast-margin c = fits_signed _ (short_within _ _ _ c.requires.0 _ (rw c.in-Err.is at (c.simulate.ensures c.requires.0)))

pub overflow_sub-margin : goal.overflow_sub-margin
overflow_sub-margin c = fits_negative _ (short_within _ _ _ c.requires.0 _ (rw c.in-Err.is at (c.simulate.ensures c.requires.0)))

pub returns-in-Err : goal.returns-in-Err
returns-in-Err c = λ S. concluded_late _ _ _ S _ (rw c.in-Err.is at (c.simulate.ensures S)) _ _ _ _ (as_negative _ (short_within _ _ _ c.requires.0 _ (rw c.in-Err.is at (c.simulate.ensures c.requires.0))))

pub tightest-best-requires : goal.tightest-best-requires
tightest-best-requires c = (omega (arith, c.requires.0.count_is, c.requires.0.bounded.keeps.some), few _ _ _ c.requires.0, ends_by_dues _ _ _ c.requires.0 _ _ _ (rw c.in-Ok.is at (c.simulate.ensures c.requires.0)))

pub margin_at-margin-requires : goal.margin_at-margin-requires
margin_at-margin-requires c = (omega (arith, few _ _ _ c.requires.0, c.tightest-best.ensures.below), ends_by_dues _ _ _ c.requires.0 _ _ _ (rw c.in-Ok.is at (c.simulate.ensures c.requires.0)) _ c.tightest-best.ensures.below)

pub overflow_add-result : goal.overflow_add-result
overflow_add-result c = omega (arith, order_small _ _ _ c.requires.0 c.tightest-best.result c.tightest-best.ensures.below)

pub overflow_cast-result : goal.overflow_cast-result
overflow_cast-result c = fits_signed _ (omega (arith, c.margin_at-margin.ensures, margin_within _ _ _ c.requires.0 _ _ _ (rw c.in-Ok.is at (c.simulate.ensures c.requires.0)) _ c.tightest-best.ensures))

pub returns : goal.returns
returns c = λ S.
    let out = rw c.in-Ok.is at (c.simulate.ensures S) in
    concluded_accepted _ _ _ S _ _ _ out _ c.tightest-best.ensures _ _ (as_signed _ (omega (arith, c.margin_at-margin.ensures, margin_within _ _ _ S _ _ _ out _ c.tightest-best.ensures)) ∙ ap pos c.margin_at-margin.ensures)
