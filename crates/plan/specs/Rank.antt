-- The scan's law: which entry `first` gives, that no other entry is so, and rank as one number.
use Prim.Native.Nat.{ℕ, ◌+◌, ◌*◌}

-- ---- rank as one number: the key, then the place
unfoldable pub rank : ℕ → (ℕ → ℕ) → ℕ → ℕ
rank n key i = key i * n + i
