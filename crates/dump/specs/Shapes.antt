-- The text of a run from the front, slice by slice, as the functions count and put it.
use Rattle.std.specs.Prelude.{List, [], ◌++◌, ℕ, zero, suc, ◌+◌, ◌≤◌, eqb, length}
use Rattle.basis.specs.Bytes.{at}
use Rattle.basis.specs.Choose.{choose}
use Rattle.vcd.specs.Form.{no_entry, header, time_line, value_line}

-- The lent bytes have room for the text from the place on.
pub record RoomIn (text : List ℕ) (place : ℕ) (out : List ℕ) : Type 0 where
  pub room : place + length text ≤ length out

-- the entry of the slice before slice t
unfoldable pub entry_before : List ℕ → ℕ → ℕ
entry_before run zero = no_entry
entry_before run (suc t) = at run t

-- ---- one slice
unfoldable pub change_of : ℕ → ℕ → ℕ → List ℕ
change_of t before entry = choose (eqb entry before) [] (time_line t ++ value_line entry)

unfoldable pub change_count : ℕ → ℕ → ℕ
change_count before entry = choose (eqb entry before) 0 1

-- ---- the slices before slice t
unfoldable pub changes_to : List ℕ → ℕ → List ℕ
changes_to run zero = []
changes_to run (suc t) = changes_to run t ++ change_of t (entry_before run t) (at run t)

unfoldable pub count_to : List ℕ → ℕ → ℕ
count_to run zero = 0
count_to run (suc t) = count_to run t + change_count (entry_before run t) (at run t)

-- the run that ends there
unfoldable pub text_to : List ℕ → ℕ → List ℕ
text_to run t = header ++ changes_to run t ++ time_line t
