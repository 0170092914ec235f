-- Progress: what a job has had up to a slice, whether that slice lies before, in or after its window. It grows only in the
-- slices that go to its task while it is current.
use Rattle.std.specs.Prelude.{ℕ, ◌-◌, min}
use Rattle.plan.specs.Plan.{Plan, Demand, release, given}

-- How many slices of its window, from release to deadline, lie before slice t.
unfoldable pub elapsed : Plan → ℕ → ℕ → ℕ → ℕ
elapsed P i k t = min (t - release P i k) (P.due i)

-- What job k of task i has had before slice t.
unfoldable pub had_up_to : Plan → Demand → ℕ → ℕ → ℕ → ℕ
had_up_to P d i k t = given P d i (release P i k) (elapsed P i k t)
