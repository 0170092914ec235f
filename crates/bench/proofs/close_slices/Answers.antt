-- `bench::close_slices` meets its contract: what is held before each slice is the course at as many slices as were closed.
use Rattle.std.proofs.Common.{◌≡◌, refl, arith}
use Rattle.bench.specs.Course.{course_at}
use Rattle.bench.proofs.Turns.{one_more_slice}
use Rattle.bench.proofs.close_slices.Goals as goal

pub loop-init : goal.loop-init
unfolding course_at
loop-init c = refl

pub loop-preserved : goal.loop-preserved
loop-preserved c = one_more_slice _ _ _ _ _ _ c.loop.invariant c.close_slice.ensures.after

pub returns : goal.returns
returns c =
    let end : c.loop.counter ≡ c.args.state.cycle = omega arith in
    rw end at c.loop.invariant
