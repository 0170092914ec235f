-- The lines of an input as a function, and that the grammar's lines are exactly these.
use Rattle.std.specs.Prelude.{Bool, true, false, ◌&&◌, List, [], ◌∷◌, ℕ, eqb}
use Rattle.records.specs.Grammar.{CR, LF}

-- a CR, and an LF right behind it
unfoldable pub is_pair : ℕ → ℕ → Bool
is_pair b c = eqb c LF && eqb b CR

-- a byte before the first of the lines
unfoldable pub push : ℕ → List (List ℕ) → List (List ℕ)
push b [] = (b ∷ []) ∷ []
push b (l ∷ ls) = (b ∷ l) ∷ ls

-- By `elim`, so that of the two ways on only the one that is taken is computed.
unfoldable pub lines_of : List ℕ → List (List ℕ)
lines_of [] = []
lines_of (b ∷ []) = push b []
lines_of (b ∷ c ∷ rest) = elim (is_pair b c) [ true ↦ [] ∷ lines_of rest | false ↦ push b (lines_of (c ∷ rest)) ]
