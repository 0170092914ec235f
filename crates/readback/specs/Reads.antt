-- What reading a file back into a run comes to.
use Rattle.std.specs.Prelude.{◌≡◌, ℕ, List, length, nat_le, Result, Ok, Err}
use Rattle.basis.specs.Bytes.{at, overwrite}
use Rattle.basis.specs.Choose.{choose}
use Rattle.vcd.specs.Form.{OfRun, Longest}
use Rattle.readback.specs.declared.Deviation.{Deviation}

-- Read back: the run that the file is the form of, into the lent bytes if there is room for all of it; else nothing is written.
-- The answer is how long it is.
pub record ReadBack (file old new : List ℕ) (n : ℕ) : Type 0 where
  pub run : List ℕ
  pub of_run : OfRun file run
  pub length_is : n ≡ length run
  pub bytes : new ≡ choose (nat_le n (length old)) (overwrite (at run) n old) old

-- The form of no run: the answer is the length of the longest beginning that it shares with one that is, and nothing is written.
pub record NoForm (file old new : List ℕ) (n : ℕ) : Type 0 where
  pub none : (run : List ℕ) → OfRun file run → ⊥
  pub longest : Longest file n
  pub bytes : new ≡ old

unfoldable pub Reads : List ℕ → List ℕ → List ℕ → Result ℕ Deviation → Type 0
Reads file old new (Ok n) = ReadBack file old new n
Reads file old new (Err d) = NoForm file old new d.place
