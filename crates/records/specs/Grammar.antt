-- The form of the program's input, in the scope paper's words: field, line, the lines of an input, and what reading one answers.
use Rattle.std.specs.Prelude.{◌≡◌, Result, Ok, Err, List, [], ◌∷◌, ◌++◌, ◌⊎◌, ℕ, suc, ◌+◌, ◌-◌, ◌*◌, ◌≤◌, ◌<◌, length, get_or}
use Rattle.basis.specs.Answer.{Answer, refusal, none}
use Rattle.tasks.specs.declared.Task.{Task}
use Rattle.tasks.specs.declared.TaskList.{TaskList}
use Rattle.tasks.specs.List.{list_of}
use Rattle.records.specs.declared.BadLine.{BadLine}

-- the bytes that part fields and lines
abbrev pub comma : ℕ
comma = 44

abbrev pub CR : ℕ
CR = 13

abbrev pub LF : ℕ
LF = 10

-- "0" is byte 48, "9" is byte 57
abbrev pub '0' : ℕ
'0' = 48

abbrev pub '9' : ℕ
'9' = 57

-- The number that digits write, after a number that stands before them.
unfoldable pub value_after : ℕ → List ℕ → ℕ
value_after v [] = v
value_after v (b ∷ bs) = value_after (v * 10 + (b - '0')) bs

-- A decimal field: 1 to 9 digits, no leading zero but "0" itself.
pub record Field (bytes : List ℕ) (value : ℕ) : Type 0 where
  pub digits : (i : ℕ) → i < length bytes → ('0' ≤ get_or bytes i 0) × (get_or bytes i 0 ≤ '9')
  pub one_or_more : 1 ≤ length bytes
  pub nine_or_fewer : length bytes ≤ 9
  pub no_leading_zero : get_or bytes 0 0 ≡ '0' → length bytes ≡ 1
  pub worth : value ≡ value_after 0 bytes

-- Fields parted by commas, with their values.
pub data Fields : List ℕ → List ℕ → Type 0 where
  one : {bytes : List ℕ} {v : ℕ} → Field bytes v → Fields bytes (v ∷ [])
  more : {bytes rest : List ℕ} {v : ℕ} {vs : List ℕ} → Field bytes v → Fields rest vs → Fields (bytes ++ comma ∷ rest) (v ∷ vs)

-- A line in form: three fields, which are the period, the run-time and the memory of its task, whose deadline is then the period; or four,
-- the fourth being the deadline.
unfoldable pub Row : List ℕ → Task → Type 0
Row line t =
    (Fields line (t.period ∷ t.runtime ∷ t.memory ∷ []) × (t.deadline ≡ t.period))
    ⊎ Fields line (t.period ∷ t.runtime ∷ t.memory ∷ t.deadline ∷ [])

-- Nowhere in a line stands the pair CRLF; a lone CR or LF may, and then the line is not in form.
unfoldable pub NoPair : List ℕ → Type 0
NoPair line = (i : ℕ) → get_or line i 0 ≡ CR → get_or line (suc i) 0 ≡ LF → ⊥

-- The lines of an input: CRLF after each line, optional after the last.
pub data Lines : List ℕ → List (List ℕ) → Type 0 where
  no_more : Lines [] []
  unclosed : {line : List ℕ} → NoPair line → 1 ≤ length line → Lines line (line ∷ [])
  closed : {line rest : List ℕ} {lines : List (List ℕ)} → NoPair line → Lines rest lines → Lines (line ++ CR ∷ LF ∷ rest) (line ∷ lines)

-- Lines that are all in form, with their tasks.
pub data Rows : List (List ℕ) → List Task → Type 0 where
  no_rows : Rows [] []
  row : {line : List ℕ} {t : Task} {lines : List (List ℕ)} {ts : List Task} → Row line t → Rows lines ts → Rows (line ∷ lines) (t ∷ ts)

-- What is read: the answer, in which the line stands for the task, and the list.
pub record Read : Type 0 where
  pub answer : Answer
  pub list : TaskList

unfoldable pub accepted : List Task → Read
accepted ts = record { answer = none; list = list_of ts }

-- Refused, the list is that of no tasks.
unfoldable pub refused : ℕ → Read
refused n = record { answer = refusal 15 n; list = list_of [] }

-- The paper's values of each case.
unfoldable pub form_answer : Result TaskList BadLine → Answer
form_answer (Ok l) = none
form_answer (Err bad) = refusal 15 bad.line

-- the list, of an input with a bad line that of no tasks
unfoldable pub list_read : Result TaskList BadLine → TaskList
list_read (Ok l) = l
list_read (Err bad) = list_of []

unfoldable pub read_of : Result TaskList BadLine → Read
read_of r = record { answer = form_answer r; list = list_read r }

-- What reading an input answers: the list of the tasks if every line is in form; else refusal 15 for the first line that is not,
-- counted from 1.
pub data Reads (input : List ℕ) : Read → Type 0 where
  good : {lines : List (List ℕ)} {ts : List Task} → Lines input lines → Rows lines ts → Reads input (accepted ts)
  bad : {ts : List Task} (before : List (List ℕ)) (line : List ℕ) (after : List (List ℕ)) → Lines input (before ++ line ∷ after) → Rows before ts → ((t : Task) → Row line t → ⊥) → Reads input (refused (suc (length before)))
