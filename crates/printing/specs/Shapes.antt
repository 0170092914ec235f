-- A text that is put at some place of lent bytes, as the functions put it piece by piece.
use Rattle.std.specs.Prelude.{◌≡◌, List, ℕ, ◌+◌, ◌^◌, ◌<◌, length}
use Rattle.std.proofs.lemmas.List.Edits.{sets}
use Rattle.printing.specs.declared.Writer.{Writer}

-- The place after the text is a number of 64 bits.
pub record Room (text : List ℕ) (at : ℕ) : Type 0 where
  pub room : at + length text < 2 ^ 64

-- The bytes of the text stand from the place on, and the answer is the place after them. Bytes past the end are dropped.
pub record Put (text : List ℕ) (at : ℕ) (old new : List ℕ) (r : ℕ) : Type 0 where
  pub next : r ≡ at + length text
  pub bytes : new ≡ sets old at text

-- The writer puts the text at its place, into the same lent bytes.
pub record Puts (text : List ℕ) (old new : Writer) : Type 0 where
  pub same_bytes : new.out.ghost_name ≡ old.out.ghost_name
  pub put : Put text old.at old.out.now new.out.now new.at
