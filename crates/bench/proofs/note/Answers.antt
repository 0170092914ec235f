-- `bench::note` meets its contract, place by place.
use Rattle.std.proofs.Common.{◌≡◌, length, get_or, refl, arith, rules}
use Rattle.basis.specs.Bytes.{overwrite}
use Rattle.bench.specs.Course.{noted}
use Rattle.bench.proofs.Turns.{one_more_noted}
use Rattle.bench.proofs.note.Goals as goal

pub loop-i-init : goal.loop-i-init
unfolding overwrite
loop-i-init c = refl

pub loop-i-preserved : goal.loop-i-preserved
loop-i-preserved c =
    let read : c.unwrap_or-byte.result ≡ get_or c.args.log.now c.loop-i.i 0 = search rules in
    one_more_noted c.args.log.now c.args.ends.now _ _ _ _ _ c.loop-i.invariant read c.end_of.ensures

pub returns : goal.returns
unfolding noted
returns c =
    let end : c.loop-i.i ≡ length c.args.ends.now = omega arith in
    rw end at c.loop-i.invariant
