-- Inputs worked by hand: what the grammar answers to each.
use Rattle.std.specs.Prelude.{◌≡◌, List, [], ◌∷◌, ◌++◌, ℕ, zero, suc}
use Rattle.std.proofs.Common.{subst}
use Prim.Native.Char.{code}
use Prim.Native.String.{String, [] as none, ◌∷◌ as ◌then◌}
use Rattle.basis.specs.Bytes.{overwrite}
use Rattle.basis.specs.Answer.{refusal, none as nothing-refused}
use Rattle.tasks.specs.declared.Task.{Task}
use Rattle.tasks.specs.List.{list_of, task_at, no_task}
use Rattle.records.specs.Grammar.{Read, accepted, refused, form_answer, list_read, read_of, Reads}
use Rattle.records.specs.Shapes.{line_from, read_lines, parsed_of}
use Rattle.records.specs.LineEnds.{is_pair, push, lines_of}
use Rattle.records.proofs.Reading.{parsed_reads}

abbrev bytes : String → List ℕ
bytes none = []
bytes (c then s) = code c ∷ bytes s

abbrev times : ℕ → List ℕ → List ℕ
times zero l = []
times (suc n) l = l ++ times n l

abbrev due : ℕ → ℕ → ℕ → ℕ → Task
due period runtime memory deadline = record { period = period; runtime = runtime; memory = memory; deadline = deadline }

abbrev task : ℕ → ℕ → ℕ → Task
task period runtime memory = due period runtime memory period

read_so : (input : List ℕ) (a : Read) → read_of (parsed_of input) ≡ a → Reads input a
read_so input a e = subst (Reads input) e (parsed_reads input)

pub worked :
    Reads (bytes "2,1,0\r\n3,1,0\r\n6,1,0") (accepted (task 2 1 0 ∷ task 3 1 0 ∷ task 6 1 0 ∷ []))
    × Reads (bytes "2,1,0\r\n3,1,0\r\n6,1,0\r\n") (accepted (task 2 1 0 ∷ task 3 1 0 ∷ task 6 1 0 ∷ []))
    × Reads (bytes "") (accepted [])
    × Reads (bytes "\r\n") (refused 1)
    × Reads (bytes "2,1,0\r\n\r\n") (refused 2)
    × Reads (bytes "2,1,0\n3,1,0") (refused 1)
    × Reads (bytes "2,1,0\r3,1,0") (refused 1)
    × Reads (bytes "2,1,0\r\n3,1,0\r") (refused 2)
    × Reads (bytes "0,999999999,10") (accepted (task 0 999999999 10 ∷ []))
    × Reads (bytes "1000000000,1,0") (refused 1)
    × Reads (bytes "02,1,0") (refused 1)
    × Reads (bytes "2,00,0") (refused 1)
    × Reads (bytes "2,1") (refused 1)
    × Reads (bytes "2,1,") (refused 1)
    × Reads (bytes "4,1,0,3") (accepted (due 4 1 0 3 ∷ []))
    × Reads (bytes "4,1,0\r\n6,2,0,3\r\n12,3,0") (accepted (task 4 1 0 ∷ due 6 2 0 3 ∷ task 12 3 0 ∷ []))
    × Reads (bytes "2,1,0,0") (accepted (due 2 1 0 0 ∷ []))
    × Reads (bytes "4,1,0,") (refused 1)
    × Reads (bytes "4,1,0,3,0") (refused 1)
    × Reads (bytes "2, 1,0") (refused 1)
    × Reads (bytes "-2,1,0") (refused 1)
    × Reads (bytes "\"2\",1,0") (refused 1)
    × Reads (bytes "2,1,0\r\nx\r\n3,1,0\r\ny") (refused 2)
    × Reads (times 299 (bytes "2,1,0\r\n") ++ bytes "x\r\n2,1,0") (refused 300)
unfolding read_of form_answer list_read accepted refused refusal nothing-refused line_from read_lines parsed_of is_pair push lines_of list_of task_at no_task overwrite
worked = search read_so
