-- What log and jobs always tell of each other, and that an accepted step keeps it: a byte is not 0 once the job's deadline has
-- passed, it is not written again, and it becomes 1 by the report finished of that very job alone.
use Rattle.std.specs.Prelude.{◌≡◌, List}
use Rattle.std.proofs.Math.Bool.{true, false}
use Prim.Native.Nat.{ℕ, ◌+◌, ◌/◌, ◌≤◌, ◌<◌}
use Rattle.std.proofs.Math.ListN.{get_or}
use Rattle.plan.specs.Plan.{Plan, release, deadline, job}
use Rattle.run.specs.declared.State.{State}
use Rattle.run.specs.State.{job_of, offset}
use Rattle.run.specs.Sound.{SoundState}
use Rattle.promises.specs.Carries.{Carries}

-- the byte of job k of task i
unfoldable pub byte_of : State → List ℕ → ℕ → ℕ → ℕ
byte_of s g i k = get_or g (offset s i + k) 0

-- ---- what the log always tells of the state
-- A job of the cycle: before its release its byte is 0; while it is current the byte is 0 exactly if it has not ended; from
-- its deadline on it is not 0.
pub record Tells (P : Plan) (s : State) (g : List ℕ) (i k : ℕ) : Type 0 where
  pub to_come : s.position < release P i k → byte_of s g i k ≡ 0
  pub current_open : job P i s.position ≡ k → (job_of s i).ended ≡ false → byte_of s g i k ≡ 0
  pub current_ended : job P i s.position ≡ k → (job_of s i).ended ≡ true → byte_of s g i k ≡ 0 → ⊥
  pub passed : deadline P i k ≤ s.position → byte_of s g i k ≡ 0 → ⊥

-- The state is sound and carries the plan, and the log tells so of every job of the cycle.
pub record Honest (P : Plan) (cycle : ℕ) (s : State) (g : List ℕ) : Type 0 where
  pub carries : Carries P cycle s
  pub is_sound : SoundState s
  pub tells : (i k : ℕ) → i < P.count → k < cycle / P.period i → Tells P s g i k
