-- `quick::walk::point_from` meets its contract: it stands at the first point of the first k tasks.
use Rattle.std.proofs.Common.{rules, ◌≡◌, refl, ◌*◌, min, arith}
use Rattle.std.proofs.Math.Numerals.{add-one}
use Rattle.basis.specs.Bytes.{at}
use Rattle.quick.proofs.Walking.{inverse_small, counted, more_small, asked_small, stands_none, stands_more}
use Rattle.quick.proofs.walk.point_from.Goals as goal

pub loop-k-init : goal.loop-k-init
loop-k-init c = stands_none _ _ _ 0 _ refl refl

pub jobs_in-jobs-requires : goal.jobs_in-jobs-requires
jobs_in-jobs-requires c = (c.requires.from_1, c.requires.to_4096, inverse_small _ _ _ _ _ c.requires _ c.loop-k-test.true)

pub overflow_mul-jobs : goal.overflow_mul-jobs
overflow_mul-jobs c = omega (arith, more_small _ _ _ _ _ c.requires c.loop-k.k c.jobs_in-jobs.result c.loop-k-test.true (counted _ _ _ _ _ c.requires _ _ c.loop-k-test.true c.jobs_in-jobs.ensures))

pub overflow_mul-walk : goal.overflow_mul-walk
overflow_mul-walk c = omega (arith, more_small _ _ _ _ _ c.requires c.loop-k.k c.jobs_in-jobs.result c.loop-k-test.true (counted _ _ _ _ _ c.requires _ _ c.loop-k-test.true c.jobs_in-jobs.ensures))

pub overflow_add-walk : goal.overflow_add-walk
overflow_add-walk c = omega (arith, c.requires.few, c.loop-k-test.true, c.loop-k.invariant.asked_is, asked_small _ _ _ _ _ c.requires c.loop-k.k c.loop-k.auto.k-end, more_small _ _ _ _ _ c.requires c.loop-k.k c.jobs_in-jobs.result c.loop-k-test.true (counted _ _ _ _ _ c.requires _ _ c.loop-k-test.true c.jobs_in-jobs.ensures))

pub loop-k-preserved : goal.loop-k-preserved
loop-k-preserved c =
    let least : c.min.result ≡ min c.loop-k.walk.point (c.jobs_in-jobs.result * at c.args.ranked.now.periods c.loop-k.k) = search rules in
    rw (add-one c.loop-k.k) (stands_more _ _ _ _ _ _ _ (counted _ _ _ _ _ c.requires _ _ c.loop-k-test.true c.jobs_in-jobs.ensures) c.loop-k.invariant least refl)
