-- The test of Lehoczky, Sha and Ding is exact: a task that passes has every job on time, and where every first job is on
-- time every task passes. The first job of a task takes longest, and the earliest missed deadline is a first job's.
use Rattle.std.specs.Prelude.{◌≡◌, true}
use Prim.Native.Nat.{ℕ, ◌<◌}
use Rattle.plan.specs.Plan.{Plan, key_in, ranks_before, OnTime, Passes}
use Rattle.plan.specs.Rank.{rank}

-- the rank of task i, which goes by its deadline
unfoldable pub rank_of : Plan → ℕ → ℕ
rank_of P i = rank P.count P.due i

-- Every task ranking before task i passes.
unfoldable pub AllBeforePass : Plan → ℕ → Type 0
AllBeforePass P i = (j : ℕ) → j < P.count → ranks_before (key_in P 0) j i ≡ true → Passes P j

-- ---- the test is exact
unfoldable pub AllPass : Plan → Type 0
AllPass P = (i : ℕ) → i < P.count → Passes P i

unfoldable pub AllOnTime : Plan → Type 0
AllOnTime P = (i k : ℕ) → i < P.count → OnTime P P.runtime i k

unfoldable pub FirstsOnTime : Plan → Type 0
FirstsOnTime P = (i : ℕ) → i < P.count → OnTime P P.runtime i 0

-- ---- the earliest missed deadline
-- Task i is the first-ranking one that fails the test.
pub record FirstFailing (P : Plan) (i : ℕ) : Type 0 where
  pub below : i < P.count
  pub fails : Passes P i → ⊥
  pub before_pass : AllBeforePass P i
