-- `with_jobs` meets its contract: place by place.
use mathlib.Core.Bool.{Bool, true, false}
use mathlib.Core.Path.{◌≡◌, refl}
use native.Mathlib.Numerals.{add-one}
use Rattle.std.specs.Int.{from_bool}
use Rattle.checksum.specs.Checksum.{over_jobs, ended_byte}
use Rattle.checksum.proofs.with_jobs.Goals as goal

as_byte : (ended : Bool) → from_bool ended ≡ ended_byte ended
unfolding ended_byte
as_byte true = refl
as_byte false = refl

pub loop-i-init : goal.loop-i-init
unfolding over_jobs
loop-i-init c = refl

pub loop-i-preserved : goal.loop-i-preserved
unfolding over_jobs
loop-i-preserved c = rw add-one (cc (as_byte _))
