-- What the conversions come to: when they refuse, and which count they give.
use Rattle.std.specs.Prelude.{ℕ, ◌+◌, ◌*◌, ◌≤◌}

-- n slices hold a run-time if it has room in them beside a tick in each,
unfoldable pub Holds : ℕ → ℕ → ℕ → ℕ → Type 0
Holds micros slice tick n = micros + n * tick ≤ n * slice

-- A run-time takes the fewest slices that hold it,
pub record Fewest (micros slice tick n : ℕ) : Type 0 where
  pub holds : Holds micros slice tick n
  pub fewest : (k : ℕ) → Holds micros slice tick k → n ≤ k

-- A deadline comes at the end of the last slice that ends no later than asked.
pub record Latest (micros slice n : ℕ) : Type 0 where
  pub in_time : n * slice ≤ micros
  pub latest : (k : ℕ) → k * slice ≤ micros → k ≤ n
