-- Shaped like the code, for private contracts alone: the line after one byte more and the answer after one line more, tied to the
-- grammar in Reading.
use Rattle.std.specs.Prelude.{◌≡◌, Bool, true, false, ◌&&◌, ◌||◌, Option, Some, None, Result, Ok, Err, List, [], ◌∷◌, ℕ, ◌+◌, ◌-◌, ◌*◌, ◌≤◌, eqb, leb, ltb, if◌then◌else◌, set, unwrap_or}
use Rattle.std.proofs.Common.{leb-true}
use Rattle.basis.specs.Choose.{both_true}
use Rattle.tasks.specs.declared.Task.{Task}
use Rattle.tasks.specs.declared.TaskList.{TaskList}
use Rattle.tasks.specs.List.{list_of}
use Rattle.records.specs.declared.BadLine.{BadLine}
use Rattle.records.specs.declared.Place.{Place}
use Rattle.records.specs.declared.Place.TheVariants.{Period, Runtime, Memory, Deadline}
use Rattle.records.specs.declared.Line.{Line}
use Rattle.records.specs.LineEnds.{lines_of}

abbrev pub fresh : Line
fresh = record { place = Period; value = None }

-- ---- a byte within a line
-- No digit may follow: the field is "0", or has nine digits.
abbrev pub full : Option ℕ → Bool
full None = false
full (Some v) = eqb v 0 || leb 100000000 v

abbrev pub with_digit : Line → ℕ → Option Line
with_digit s d = if full s.value then None else Some (record { place = s.place; value = Some (unwrap_or s.value 0 * 10 + d) })

-- the place after a comma
abbrev pub next_place : Place → ℕ → Option Place
next_place Period v = Some (Runtime v)
next_place (Runtime p) v = Some (Memory p v)
next_place (Memory p r) v = Some (Deadline p r v)
next_place (Deadline p r m) v = None

abbrev pub opened : Option Place → Option Line
opened None = None
opened (Some p) = Some (record { place = p; value = None })

abbrev pub closed_by : Place → Option ℕ → Option Line
closed_by p None = None
closed_by p (Some v) = opened (next_place p v)

abbrev pub with_comma : Line → Option Line
with_comma s = closed_by s.place s.value

abbrev pub is_digit : ℕ → Bool
is_digit b = leb 48 b && leb b 57

pub digit_tells : (b : ℕ) → is_digit b ≡ true → (48 ≤ b) × (b ≤ 57)
digit_tells b t = let e = (both_true (leb 48 b) (leb b 57)).0 t in (leb-true 48 b e.0, leb-true b 57 e.1)

abbrev pub with_byte : Option Line → ℕ → Option Line
with_byte None b = None
with_byte (Some s) b = if eqb b 44 then with_comma s else (if is_digit b then with_digit s (b - 48) else None)

-- the line after its bytes
unfoldable pub line_from : Option Line → List ℕ → Option Line
line_from s [] = s
line_from s (b ∷ bs) = line_from (with_byte s b) bs

-- ---- a line that ends
abbrev pub made_of : Place → Option ℕ → Option Task
made_of (Memory p r) (Some v) = Some (record { period = p; runtime = r; memory = v; deadline = p })
made_of (Deadline p r m) (Some v) = Some (record { period = p; runtime = r; memory = m; deadline = v })
made_of Period v = None
made_of (Runtime p) v = None
made_of (Memory p r) None = None
made_of (Deadline p r m) None = None

abbrev pub task_of : Line → Option Task
task_of s = made_of s.place s.value

abbrev pub row_of : Option Line → Option Task
row_of None = None
row_of (Some s) = task_of s

abbrev pub kept : TaskList → Task → TaskList
kept l t = record { tasks = (if ltb l.count 16 then set l.tasks l.count t else l.tasks); count = l.count + 1 }

abbrev pub close_as : TaskList → Option Task → Result TaskList BadLine
close_as l (Some t) = Ok (kept l t)
close_as l None = Err (record { line = l.count + 1 })

abbrev pub close_line : TaskList → Option Line → Result TaskList BadLine
close_line l s = close_as l (row_of s)

-- What follows the last pair is one line more, unless it is nothing.
abbrev pub begun_at : Place → Option ℕ → Bool
begun_at Period None = false
begun_at Period (Some v) = true
begun_at (Runtime p) v = true
begun_at (Memory p r) v = true
begun_at (Deadline p r m) v = true

abbrev pub begun : Option Line → Bool
begun None = true
begun (Some s) = begun_at s.place s.value

abbrev pub at_end : TaskList → Option Line → Result TaskList BadLine
at_end l s = if begun s then close_line l s else Ok l

-- ---- the answer after whole lines, and after lines of which the first is open
-- The first bad line stays named whatever the later ones are.
abbrev pub close_after : Result TaskList BadLine → Option Line → Result TaskList BadLine
close_after (Ok l) s = close_line l s
close_after (Err bad) s = Err bad

unfoldable pub read_lines : Result TaskList BadLine → List (List ℕ) → Result TaskList BadLine
read_lines r [] = r
read_lines r (l ∷ ls) = read_lines (close_after r (line_from (Some fresh) l)) ls

unfoldable pub read_from : TaskList → Option Line → List (List ℕ) → Result TaskList BadLine
read_from l s [] = at_end l s
read_from l s (x ∷ xs) = read_lines (close_line l (line_from s x)) xs

unfoldable pub parsed_of : List ℕ → Result TaskList BadLine
parsed_of input = read_lines (Ok (list_of [])) (lines_of input)
