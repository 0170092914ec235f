-- The test at its points alone: which slices these are, in which order they are tried, and that no other slice would tell more,
-- since between two points nothing changes in what the tasks ask for.
use Rattle.std.specs.Prelude.{◌≡◌, Bool, false, ◌&&◌, ◌||◌, List, [], ◌∷◌, ◌⊎◌}
use Rattle.std.proofs.Math.Bool.{true}
use Prim.Native.Nat.{ℕ, zero, suc, ◌%◌, ◌≤◌, ◌<◌}
use Rattle.std.proofs.Math.Dec.{leb, eqb}
use Rattle.basis.specs.Choose.{choose}
use Rattle.basis.specs.Sum.{sum}
use Rattle.plan.specs.Plan.{Plan, key_in, ranks_before, first, bound}

-- ---- the points of a task
-- Task j is task i, or ranks before it.
unfoldable pub in_level : Plan → ℕ → ℕ → Bool
in_level P i j = eqb j i || ranks_before (key_in P 0) j i

-- t is a multiple of the period of task i, or of one ranking before it.
pub record Multiple (P : Plan) (i t : ℕ) : Type 0 where
  pub task : ℕ
  pub below : task < P.count
  pub level : in_level P i task ≡ true
  pub divides : t % P.period task ≡ 0

-- The points of task i: these multiples, up to its deadline, and the deadline itself. (Where that is the period's end, it is a
-- multiple too.)
pub record Point (P : Plan) (i t : ℕ) : Type 0 where
  pub from_1 : 1 ≤ t
  pub to_deadline : t ≤ P.due i
  pub is : (t ≡ P.due i) ⊎ Multiple P i t

-- ---- in rising order
-- whether t is a multiple of the period of one of the first n tasks, as far as they are task i or rank before it
unfoldable pub is_multiple : Plan → ℕ → ℕ → ℕ → Bool
is_multiple P i t zero = false
is_multiple P i t (suc n) = is_multiple P i t n || (in_level P i n && eqb (t % P.period n) 0)

unfoldable pub is_point : Plan → ℕ → ℕ → Bool
is_point P i t = eqb t (P.due i) || is_multiple P i t P.count

-- The points among the m slices from slice t on.
unfoldable pub points_from : Plan → ℕ → ℕ → ℕ → List ℕ
points_from P i t zero = []
points_from P i t (suc m) = choose (is_point P i t) (t ∷ points_from P i (suc t) m) (points_from P i (suc t) m)

-- All points of task i, from slice 1 to its deadline.
unfoldable pub points : Plan → ℕ → List ℕ
points P i = points_from P i 1 (P.due i)

-- ---- the test at each
-- The first that passes ends it.
unfoldable pub passes_among : Plan → ℕ → List ℕ → Bool
passes_among P i [] = false
passes_among P i (t ∷ ts) = leb (bound P i t) t || passes_among P i ts

-- 1 if task i passes at none of its points, else 0
unfoldable pub fails_at_points : Plan → ℕ → ℕ
fails_at_points P i = choose (passes_among P i (points P i)) 0 1

-- The first-ranking task that passes at none of its points: an entry, 0 if there is no such task.
unfoldable pub first_without : Plan → ℕ
first_without P = first (key_in P 0) (fails_at_points P) P.count

-- ---- how many are tried
-- Of a list of points: up to and with the first that passes, or all.
unfoldable pub tried_among : Plan → ℕ → List ℕ → ℕ
tried_among P i [] = 0
tried_among P i (t ∷ ts) = suc (choose (leb (bound P i t) t) 0 (tried_among P i ts))

unfoldable pub points_tried : Plan → ℕ → ℕ
points_tried P i = tried_among P i (points P i)

-- Whether task i is tried at all: it is not, if it ranks after the first that passes at none of its points, whose entry is given.
unfoldable pub is_tried : Plan → ℕ → ℕ → Bool
is_tried P zero i = true
is_tried P (suc failing) i = in_level P failing i

-- The points of all tasks that are tried.
unfoldable pub all_tried : Plan → ℕ
all_tried P = sum (λ i. choose (is_tried P (first_without P) i) (points_tried P i) 0) P.count

-- ---- which they are
-- t is one of a list; the numbers of a list rise, from above s on
unfoldable pub Among : ℕ → List ℕ → Type 0
Among t [] = ⊥
Among t (s ∷ ts) = (t ≡ s) ⊎ Among t ts

unfoldable pub Rising : ℕ → List ℕ → Type 0
Rising s [] = Unit {0}
Rising s (t ∷ ts) = (s < t) × Rising t ts
