-- `explain::candidate::fits_at` meets its contract.
use native.Mathlib.Omega.{arith}
use Rattle.explain.proofs.Walking.{fits_elsewhere, fits_there}
use Rattle.explain.proofs.candidate.fits_at.Goals as goal

pub returns-then-start-t : goal.returns-then-start-t
returns-then-start-t c = fits_elsewhere _ _ _ _ c.if-start-t.true

pub returns : goal.returns
returns c = fits_there _ _ _ _ (omega arith)
