-- `explain::candidate::go_back` meets its contract: the places before k have gone back.
use Rattle.std.proofs.Common.{◌∙◌, arith}
use Rattle.explain.proofs.Walking.{back_none, start_waits, back_more, own_small}
use Rattle.explain.proofs.candidate.go_back.Goals as goal

pub loop-k-init : goal.loop-k-init
loop-k-init c = back_none c.args.ranked.now.order c.args.ranked.now.periods c.args.ranked.now.runtimes _ _ _ _

pub start_then-start-requires : goal.start_then-start-requires
start_then-start-requires c =
    let waits = start_waits _ _ _ _ _ _ _ _ _ _ _ c.loop-k.invariant in
    (c.requires.short, λ e. rw waits (c.requires.start_large c.loop-k.k c.loop-k-test.true (e ∙ waits)))

pub overflow_add-gets : goal.overflow_add-gets
overflow_add-gets c = omega (arith, own_small _ _ _ _ _ _ _ _ _ _ _ c.loop-k.invariant (c.requires.got_small c.loop-k.k c.loop-k-test.true) c.got_before.ensures c.gets_one.ensures)

pub loop-k-preserved : goal.loop-k-preserved
loop-k-preserved c = back_more _ _ _ _ _ _ _ _ _ _ _ c.loop-k.invariant _ _ _ _ c.start_then-start.ensures c.got_before.ensures c.gets_one.ensures c.fits_at-fit.ensures
