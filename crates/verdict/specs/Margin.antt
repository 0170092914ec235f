-- Margins: the period less the end of the first job, and the tightest task.
use Rattle.std.specs.Prelude.{ℕ, zero, suc, ◌-◌, Bool, ◌&&◌, ◌||◌, ◌==◌, nat_le, nat_lt}
use Rattle.basis.specs.Choose.{choose}
use Rattle.basis.specs.Least.{least}
use Rattle.plan.specs.Plan.{Plan, key_in, ranks_before, given}

-- The end of the first job of task i: the first slice before which it has had its run-time.
unfoldable pub first_end : Plan → ℕ → ℕ
first_end P i = least (λ t. nat_le (P.runtime i 0) (given P P.runtime i 0 t)) (P.due i)

-- Its deadline less that end.
unfoldable pub margin : Plan → ℕ → ℕ
margin P i = P.due i - first_end P i

-- The smaller margin is tighter, then the first-ranking task.
unfoldable pub tighter : Plan → ℕ → ℕ → Bool
tighter P i j = nat_lt (margin P i) (margin P j) || (margin P i == margin P j && ranks_before (key_in P 0) i j)

-- The tightest of the first n tasks.
unfoldable pub tightest : Plan → ℕ → ℕ
tightest P zero = 0
tightest P (suc n) = choose (n == 0 || tighter P n (tightest P n)) n (tightest P n)
