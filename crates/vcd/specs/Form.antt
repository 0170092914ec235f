-- A run as a Value Change Dump (IEEE 1364), as lists of bytes: who ran in each slice, one time unit a slice. docs/VCD.md has an example.
use Rattle.std.specs.Prelude.{◌≡◌, List, [], ◌∷◌, ◌++◌, ℕ, suc, ◌/◌, ◌%◌, ◌≤◌, ◌<◌, eqb, length, take}
use Rattle.basis.specs.Bytes.{at}
use Rattle.basis.specs.Choose.{choose}
use Rattle.printing.specs.Text.{ascii, digit}

-- A run: 1 to 4,096 entries, each from 0 to 16.
pub record IsRun (run : List ℕ) : Type 0 where
  pub some : 1 ≤ length run
  pub within : length run ≤ 4096
  pub entries : (t : ℕ) → t < length run → at run t ≤ 16

-- ---- the lines
-- One variable of five bits, the task; its short name is "!".
unfoldable pub header : List ℕ
header = ascii "$timescale 1 us $end\n$scope module ozhmandil $end\n$var wire 5 ! task $end\n$upscope $end\n$enddefinitions $end\n"

-- "#", a slice's number in four digits, line feed
unfoldable pub time_line : ℕ → List ℕ
time_line t = 35 ∷ digit (t / 1000 % 10) ∷ digit (t / 100 % 10) ∷ digit (t / 10 % 10) ∷ digit (t % 10) ∷ 10 ∷ []

-- "b", an entry in five binary digits, " !", line feed
unfoldable pub value_line : ℕ → List ℕ
value_line e = 98 ∷ digit (e / 16 % 2) ∷ digit (e / 8 % 2) ∷ digit (e / 4 % 2) ∷ digit (e / 2 % 2) ∷ digit (e % 2) ∷ 32 ∷ 33 ∷ 10 ∷ []

-- ---- the text
-- From slice t on, where the entry before it was `before`: a change only where the task changes, and an end mark.
unfoldable pub changes_from : ℕ → ℕ → List ℕ → List ℕ
changes_from t before [] = time_line t
changes_from t before (e ∷ run) = choose (eqb e before) [] (time_line t ++ value_line e) ++ changes_from (suc t) e run

-- Before the first slice there was no entry, so that slice 0 always has a change. No entry is 17.
abbrev pub no_entry : ℕ
no_entry = 17

unfoldable pub vcd_text : List ℕ → List ℕ
vcd_text run = header ++ changes_from 0 no_entry run

-- ---- files
-- The file is the form of some run.
pub record OfRun (file run : List ℕ) : Type 0 where
  pub is_run : IsRun run
  pub is_text : file ≡ vcd_text run

-- Its first n bytes are also those of some file that is the form of a run.
pub record Shares (file : List ℕ) (n : ℕ) : Type 0 where
  pub run : List ℕ
  pub is_run : IsRun run
  pub in_file : n ≤ length file
  pub in_text : n ≤ length (vcd_text run)
  pub same : take n file ≡ take n (vcd_text run)

-- The length of the longest beginning that it shares with one.
pub record Longest (file : List ℕ) (n : ℕ) : Type 0 where
  pub shared : Shares file n
  pub none_longer : (m : ℕ) → Shares file m → m ≤ n
