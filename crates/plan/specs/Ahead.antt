-- Of two runs over one plan, one is ahead of the other: what that means at a slice, and that a slice and a turn of jobs keep it so.
use Rattle.std.specs.Prelude.{◌≡◌}
use Prim.Native.Nat.{ℕ, ◌+◌, ◌≤◌, ◌<◌}
use Rattle.plan.specs.Rank.{rank}
use Rattle.plan.specs.Work.{before}

-- The run whose jobs want `fast` more slices is ahead of the one whose jobs want `slow` more, of which `rest` would do:
-- before every rank it has no more work left; nor before any task with that task's own part added; and where the rest is
-- had in the slow run, the job has ended in the fast one.
pub record Ahead (n : ℕ) (key fast slow rest : ℕ → ℕ) : Type 0 where
  pub work : (ρ : ℕ) → before n key ρ fast ≤ before n key ρ slow
  pub level : (j : ℕ) → j < n → before n key (rank n key j) fast + fast j ≤ before n key (rank n key j) slow + rest j
  pub ended : (j : ℕ) → j < n → rest j ≡ 0 → fast j ≡ 0

-- ---- from one slice to the next
-- The job of task i goes on, in both runs;
pub record Stays (key fast slow rest key' fast' slow' rest' : ℕ → ℕ) (i : ℕ) : Type 0 where
  pub key_same : key' i ≡ key i
  pub fast_same : fast' i ≡ fast i
  pub slow_same : slow' i ≡ slow i
  pub rest_same : rest' i ≡ rest i

-- or it had ended in both, and what follows wants no more in the fast one.
pub record Turns (fast slow fast' slow' rest' : ℕ → ℕ) (i : ℕ) : Type 0 where
  pub fast_ended : fast i ≡ 0
  pub slow_ended : slow i ≡ 0
  pub fast_less : fast' i ≤ rest' i
  pub rest_less : rest' i ≤ slow' i
