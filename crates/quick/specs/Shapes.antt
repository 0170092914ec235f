-- Shaped like the code, for private contracts alone: the walk from point to point over arrays of numbers. Place k of an array
-- belongs to the k-th task by rank; the first n tasks are those of a level.
use Rattle.std.specs.Prelude.{◌≡◌, List, ◌⊎◌, ℕ, zero, suc, ◌*◌, ◌≤◌, ◌<◌, min, Option, Some, None}
use Rattle.std.specs.Int.{◌∣◌}
use Rattle.basis.specs.Bytes.{at}
use Rattle.basis.specs.Slices.{ceil}
use Rattle.basis.specs.Sum.{sum}
use Rattle.quick.specs.declared.walk.Walk.{Walk}

-- ---- numbers that the walk is about
-- 2^32 divided by a period, rounded up: the inverse of the period in parts of 2^32.
unfoldable pub inverse_of : ℕ → ℕ
inverse_of T = ceil 4294967296 T

-- The first multiple from slice t on of the period at place k.
unfoldable pub multiple_from : List ℕ → ℕ → ℕ → ℕ
multiple_from periods t k = ceil t (at periods k) * at periods k

-- The smallest of the first n numbers, and 8,192 at most.
unfoldable pub smallest : (ℕ → ℕ) → ℕ → ℕ
smallest f zero = 8192
smallest f (suc n) = min (smallest f n) (f n)

-- What the first n tasks ask for in t slices from a common release.
unfoldable pub level_asks : List ℕ → List ℕ → ℕ → ℕ → ℕ
level_asks periods runtimes n t = sum (λ k. at runtimes k * ceil t (at periods k)) n

-- The arrays hold n tasks within bounds, deadlines in rising order.
pub record Level (periods dues runtimes : List ℕ) (n : ℕ) : Type 0 where
  pub few : n ≤ 16
  pub due_pos : (k : ℕ) → k < n → 1 ≤ at dues k
  pub due_within : (k : ℕ) → k < n → at dues k ≤ at periods k
  pub period_small : (k : ℕ) → k < n → at periods k ≤ 4096
  pub runtime_within : (k : ℕ) → k < n → at runtimes k ≤ at periods k
  pub dues_rise : (j k : ℕ) → j ≤ k → k < n → at dues j ≤ at dues k

-- After the cycle the first n tasks come round together: each period divides it.
pub record ComesRound (periods : List ℕ) (n cycle : ℕ) : Type 0 where
  pub from_1 : 1 ≤ cycle
  pub to_4096 : cycle ≤ 4096
  pub divided : (k : ℕ) → k < n → at periods k ∣ cycle

-- ---- the walk
-- It stands at the first point from slice t on, with what is asked for by then.
pub record Stands (periods runtimes : List ℕ) (n t : ℕ) (w : Walk) : Type 0 where
  pub point_is : w.point ≡ smallest (multiple_from periods t) n
  pub asked_is : w.asked ≡ level_asks periods runtimes n t

-- The numbers are small, so that nothing wraps, and each inverse is its period's.
pub record Fits (periods inverses runtimes : List ℕ) (n t : ℕ) : Type 0 where
  pub few : n ≤ 16
  pub from_1 : 1 ≤ t
  pub to_4096 : t ≤ 4096
  pub period_pos : (k : ℕ) → k < n → 0 < at periods k
  pub period_small : (k : ℕ) → k < n → at periods k ≤ 4096
  pub runtime_within : (k : ℕ) → k < n → at runtimes k ≤ at periods k
  pub inverse_is : (k : ℕ) → k < n → at inverses k ≡ inverse_of (at periods k)

-- No slice before t passes.
unfoldable pub NonePasses : List ℕ → List ℕ → ℕ → ℕ → Type 0
NonePasses periods runtimes n t = (x : ℕ) → 1 ≤ x → x < t → x < level_asks periods runtimes n x

-- ---- trying a task
-- The walk stands no later than at the deadline of the level's last task, and no slice before passes.
pub record Walks (periods runtimes : List ℕ) (n due : ℕ) (w : Walk) : Type 0 where
  pub slice : ℕ
  pub from_1 : 1 ≤ slice
  pub to_due : slice ≤ due
  pub stands : Stands periods runtimes n slice w
  pub none_passes : NonePasses periods runtimes n slice

-- So it does when the task's turn comes;
pub record Begins (periods inverses runtimes : List ℕ) (n due : ℕ) (w : Walk) : Type 0 where
  pub dues : List ℕ
  pub level : Level periods dues runtimes n
  pub inverse_is : (k : ℕ) → k < n → at inverses k ≡ inverse_of (at periods k)
  pub due_small : due ≤ 4096
  pub walks : Walks periods runtimes n due w

-- and it has gone on from there, to a point that passes or to where more is asked for than there are slices.
pub record Walked (periods runtimes : List ℕ) (n due : ℕ) (w : Walk) : Type 0 where
  pub walks : Walks periods runtimes n due w
  pub ends : (w.asked ≤ w.point) ⊎ (due < w.asked)

-- The level's last task passes at a slice up to its deadline.
unfoldable pub SomePasses : List ℕ → List ℕ → ℕ → ℕ → Type 0
SomePasses periods runtimes n due = (t : ℕ) × (1 ≤ t) × (t ≤ due) × (level_asks periods runtimes n t ≤ t)

-- What the trial of that task tells: no slice up to the deadline passes; or one does, and the walk still stands where none before it does.
unfoldable pub Tried : List ℕ → List ℕ → ℕ → ℕ → Option Walk → Type 0
Tried periods runtimes n due None = NonePasses periods runtimes n (suc due)
Tried periods runtimes n due (Some w) = Walks periods runtimes n due w × SomePasses periods runtimes n due

-- ---- all tasks
-- The first places, up to k, whose tasks pass somewhere.
unfoldable pub AllPass : List ℕ → List ℕ → List ℕ → ℕ → Type 0
AllPass periods dues runtimes k = (j : ℕ) → j < k → SomePasses periods runtimes (suc j) (at dues j)

-- The first place whose task passes nowhere; or there is none.
pub record FailsFirst (periods dues runtimes : List ℕ) (n k : ℕ) : Type 0 where
  pub within : k < n
  pub before_pass : AllPass periods dues runtimes k
  pub fails : NonePasses periods runtimes (suc k) (suc (at dues k))

unfoldable pub FirstFails : List ℕ → List ℕ → List ℕ → ℕ → Option ℕ → Type 0
FirstFails periods dues runtimes n None = AllPass periods dues runtimes n
FirstFails periods dues runtimes n (Some k) = FailsFirst periods dues runtimes n k
