-- A slice number divided by a period: which job it falls to and how old that job is, one slice further on; and division rounded up.
use Prim.Native.Nat.{ℕ, ◌+◌, ◌-◌, ◌/◌}

-- t divided by T, rounded up
unfoldable pub ceil : ℕ → ℕ → ℕ
ceil t T = (t + (T - 1)) / T
