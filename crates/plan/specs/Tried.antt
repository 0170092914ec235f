-- How many points the quick question tries: counted slice by slice, rank by rank, and how many they can be.
use Rattle.std.specs.Prelude.{Bool, ◌||◌, eqb}
use Prim.Native.Nat.{ℕ, suc, ◌/◌, min}
use Rattle.basis.specs.Choose.{choose}
use Rattle.basis.specs.Sum.{sum}
use Rattle.plan.specs.Plan.{Plan}
use Rattle.plan.specs.Points.{in_level, is_multiple}

-- ---- slice by slice
-- How many slices before t are so.
unfoldable pub hits : (ℕ → Bool) → ℕ → ℕ
hits f t = sum (λ x. choose (f x) 1 0) t

-- Slice 0, which stands for the point that is looked at, and the multiples of a level.
unfoldable pub counts : Plan → ℕ → ℕ → Bool
counts P i x = eqb x 0 || is_multiple P i x P.count

-- ---- how many they can be
-- The multiples of the periods of a level up to slice t, each period's by itself.
unfoldable pub multiples_up_to : Plan → ℕ → ℕ → ℕ
multiples_up_to P i t = sum (λ j. choose (in_level P i j) (t / P.period j) 0) P.count

-- The smaller of the deadline, and one more than these up to there.
unfoldable pub points_most : Plan → ℕ → ℕ
points_most P i = min (P.due i) (suc (multiples_up_to P i (P.due i)))
