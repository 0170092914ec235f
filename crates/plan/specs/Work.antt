-- The work that tasks ranking before a given rank still want: in every slice it falls by exactly one, unless it is 0.
use Rattle.std.specs.Prelude.{ℕ, ◌-◌, ltb}
use Rattle.basis.specs.Choose.{choose}
use Rattle.basis.specs.Sum.{sum}
use Rattle.plan.specs.Plan.{gets}
use Rattle.plan.specs.Rank.{rank}

-- the part f j where task j ranks before ρ, else 0
unfoldable pub part : ℕ → (ℕ → ℕ) → ℕ → (ℕ → ℕ) → ℕ → ℕ
part n key ρ f j = choose (ltb (rank n key j) ρ) (f j) 0

-- the sum of f over the tasks that rank before ρ
unfoldable pub before : ℕ → (ℕ → ℕ) → ℕ → (ℕ → ℕ) → ℕ
before n key ρ f = sum (part n key ρ f) n

-- f after a slice with entry e
unfoldable pub after : ℕ → (ℕ → ℕ) → ℕ → ℕ
after e f j = f j - gets e j
