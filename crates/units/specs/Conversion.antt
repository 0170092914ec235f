-- What the conversions from microseconds to slices answer, and when they refuse.
use Rattle.std.specs.Prelude.{◌||◌, not, Option, Some, None, ℕ, ◌-◌, ◌/◌, ◌%◌, eqb, leb}
use Rattle.basis.specs.Choose.{choose}
use Rattle.basis.specs.Slices.{ceil}
use Rattle.basis.specs.Answer.{Answer, refusal, none}

-- A run-time becomes slices by division by the slice length less the tick cost, rounded up. Refused: a tick cost that is not
-- below the slice length, so slice length 0 too.
unfoldable pub runtime_slices : ℕ → ℕ → ℕ → Option ℕ
runtime_slices micros slice tick = choose (leb slice tick) None (Some (ceil micros (slice - tick)))

-- A period by exact division, whatever the tick costs. Refused: slice length 0, or a period that is not a whole number of slices.
unfoldable pub period_slices : ℕ → ℕ → Option ℕ
period_slices micros slice = choose (eqb slice 0 || not (eqb (micros % slice) 0)) None (Some (micros / slice))

-- A deadline by division by the slice length, rounded down: it is kept, so it does not come later than asked. Refused: slice length 0.
unfoldable pub deadline_slices : ℕ → ℕ → Option ℕ
deadline_slices micros slice = choose (eqb slice 0) None (Some (micros / slice))

-- The slices. A refused conversion answers 0.
unfoldable pub slices_of : Option ℕ → ℕ
slices_of (Some n) = n
slices_of None = 0

-- The paper's values of each case.
unfoldable pub slices_answer : Option ℕ → Answer
slices_answer (Some n) = none
slices_answer None = refusal 17 0
