-- Laws of a run under a demand: how what a job has had goes on from slice to slice, and that it never has more than its demand.
use Rattle.std.specs.Prelude.{ℕ}
use Rattle.plan.specs.Plan.{Plan, Demand, wants, had}

-- ---- what is wanted
-- What the current job of task i lacks of demand d before slice t, in the run under demand c.
unfoldable pub lacks : Plan → Demand → Demand → ℕ → ℕ → ℕ
lacks P d c t i = wants P d t (had P c t) i
