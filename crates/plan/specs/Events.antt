-- Events are releases and deadlines. From one to the next the open jobs run in the order of their ranks, one after the other, each
-- until it has had its demand.
use Rattle.std.specs.Prelude.{◌≡◌, List, ◌⊎◌, ltb}
use Prim.Native.Nat.{ℕ, suc, ◌+◌, ◌-◌, ◌≤◌, ◌<◌}
use Rattle.basis.specs.Bytes.{at}
use Rattle.basis.specs.Choose.{choose}
use Rattle.basis.specs.Sum.{sum}
use Rattle.plan.specs.Plan.{Plan, release, job, age}

-- The next event of task i after slice t has begun: the deadline of its current job or, where that is past, its next release.
unfoldable pub next_event : Plan → ℕ → ℕ → ℕ
next_event P i t = release P i (job P i t) + choose (ltb (age P i t) (P.due i)) (P.due i) (P.period i)

-- ---- handing out slices
-- lack k is what the task at place k lacks. In the order of the places each takes what it lacks; after s slices this is left:
unfoldable pub left : (ℕ → ℕ) → ℕ → ℕ → ℕ
left lack k s = lack k - (s - sum lack k)

-- Slice s of them goes to nobody, since all have had what they lacked; or to the task whose turn it is.
pub record Spare (lack : ℕ → ℕ) (n s e : ℕ) : Type 0 where
  pub idle : e ≡ 0
  pub all_had : sum lack n ≤ s

pub record TurnOf (order : List ℕ) (lack : ℕ → ℕ) (n s e : ℕ) : Type 0 where
  pub place : ℕ
  pub below : place < n
  pub is : e ≡ suc (at order place)
  pub begun : sum lack place ≤ s
  pub not_over : s < sum lack (suc place)

unfoldable pub GoesTo : List ℕ → (ℕ → ℕ) → ℕ → ℕ → ℕ → Type 0
GoesTo order lack n s e = Spare lack n s e ⊎ TurnOf order lack n s e
