-- Which needs lead the filling run of a plan to a run that was seen, a list of entries, one a slice. Definitions only.
use Rattle.std.specs.Prelude.{◌≡◌, List, ℕ, ◌+◌, ◌/◌, ◌≤◌, ◌<◌}
use Rattle.basis.specs.Bytes.{at}
use Rattle.basis.specs.Sum.{sum}
use Rattle.plan.specs.Plan.{Plan, Demand, release, gets, filling}

-- Needs, each at least 1, with which the filling run up to the cycle's end is this run.
pub record Explains (P : Plan) (cycle : ℕ) (run : List ℕ) (need : Demand) : Type 0 where
  pub needs_from : (i k : ℕ) → i < P.count → k < cycle / P.period i → 1 ≤ need i k
  pub leads : (t : ℕ) → t < cycle → filling P need t ≡ at run t

-- What the run gives to job k of task i between its release and the next.
unfoldable pub given_in : Plan → List ℕ → Demand
given_in P run i k = sum (λ n. gets (at run (release P i k + n)) i) (P.period i)
