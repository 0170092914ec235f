-- What writing a run as text comes to.
use Rattle.std.specs.Prelude.{◌≡◌, List, ℕ, leb, length}
use Rattle.basis.specs.Bytes.{at, overwrite}
use Rattle.basis.specs.Choose.{choose}

-- The text stands in the lent bytes from the first one on if there is room for all of it, and else nothing is written. The bytes
-- after it are as they were; the answer is the length of the text either way.
pub record Wrote (text old new : List ℕ) (r : ℕ) : Type 0 where
  pub whole : r ≡ length text
  pub bytes : new ≡ choose (leb (length text) (length old)) (overwrite (at text) (length text) old) old
