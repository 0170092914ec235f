-- `quick::walk::jobs_in` meets its contract: dividing by the inverse is exact.
use Rattle.quick.proofs.Inverse.{jobs_are}
use Rattle.quick.proofs.walk.jobs_in.Goals as goal

pub returns : goal.returns
returns c = rw c.from.ensures (λ T pos small e. jobs_are T pos small _ _ c.requires.0 c.requires.1 e)
