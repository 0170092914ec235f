-- The starred lists, and what the verdict and table building say of each, together in one statement; and lists of our own with
-- deadlines, in another.
use Rattle.std.specs.Prelude.{◌≡◌, List, [], ◌∷◌, ℕ, ℤ, pos, replicate}
use Rattle.std.proofs.Math.IntN.{sub_ℕ}
use Rattle.basis.specs.Answer.{Answer, refusal}
use Rattle.tasks.specs.declared.Task.{Task}
use Rattle.tasks.specs.List.{list_of}
use Rattle.verdict.specs.Verdict.{verdict_of, verdict_answer}
use Rattle.verdict.specs.Table.{tabled}

-- Written (period, run-time), memory 0, and the deadline at the period's end.
unfoldable pub task : ℕ → ℕ → Task
task period runtime = record { period = period; runtime = runtime; memory = 0; deadline = period }

-- Refusal number (0: accepted), task, margin, cycle and job count of a list, with a supply of 0.
unfoldable pub verdict : List Task → Answer
verdict ts = verdict_answer (verdict_of (list_of ts) 0)

-- What table building leaves in n bytes that all held 255.
unfoldable pub entries : List Task → ℕ → List ℕ
entries ts n = tabled (list_of ts) (verdict_of (list_of ts) 0) (replicate n 255)

unfoldable pub accepted : ℕ → ℤ → ℕ → ℕ → Answer
accepted task margin cycle jobs = record { number = 0; task = task; margin = margin; cycle = cycle; jobs = jobs; reached = 0; period = 0 }

unfoldable pub late : ℕ → ℤ → Answer
late task margin = record { number = 7; task = task; margin = margin; cycle = 0; jobs = 0; reached = 0; period = 0 }

unfoldable pub A : List Task
A = task 4 1 ∷ task 6 2 ∷ task 12 3 ∷ []

unfoldable pub B : List Task
B = task 2 1 ∷ task 3 1 ∷ task 6 1 ∷ []

unfoldable pub C : List Task
C = task 4 2 ∷ task 6 3 ∷ []

unfoldable pub D : List Task
D = task 5 2 ∷ task 7 4 ∷ []

unfoldable pub E : List Task
E = task 1 1 ∷ []

unfoldable pub F : List Task
F = task 3 1 ∷ task 3 2 ∷ []

unfoldable pub G : List Task
G = task 6 2 ∷ task 4 1 ∷ []

unfoldable pub H : List Task
H = task 4 2 ∷ task 5 3 ∷ []

-- The starred lists: the verdict on each, and the table of those for which the paper gives one.
pub record Starred : Type 0 where
  pub verdict_A : verdict A ≡ accepted 3 (pos 2) 12 6
  pub table_A : entries A 12 ≡ 1 ∷ 2 ∷ 2 ∷ 3 ∷ 1 ∷ 3 ∷ 2 ∷ 2 ∷ 1 ∷ 3 ∷ 0 ∷ 0 ∷ []
  pub verdict_B : verdict B ≡ accepted 3 (pos 0) 6 6
  pub table_B : entries B 6 ≡ 1 ∷ 2 ∷ 1 ∷ 2 ∷ 1 ∷ 3 ∷ []
  pub verdict_C : verdict C ≡ late 2 (sub_ℕ 0 1)
  pub verdict_D : verdict D ≡ late 2 (sub_ℕ 0 1)
  pub verdict_E : verdict E ≡ accepted 1 (pos 0) 1 1
  pub table_E : entries E 1 ≡ 1 ∷ []
  pub verdict_F : verdict F ≡ accepted 2 (pos 0) 3 2
  pub table_F : entries F 3 ≡ 1 ∷ 2 ∷ 2 ∷ []
  pub verdict_G : verdict G ≡ accepted 2 (pos 3) 12 5
  pub table_G : entries G 12 ≡ 2 ∷ 1 ∷ 1 ∷ 0 ∷ 2 ∷ 0 ∷ 1 ∷ 1 ∷ 2 ∷ 0 ∷ 0 ∷ 0 ∷ []
  pub verdict_H : verdict H ≡ late 2 (sub_ℕ 0 1)

-- ---- with deadlines
-- Written (period, run-time, deadline).
unfoldable pub due : ℕ → ℕ → ℕ → Task
due period runtime deadline = record { period = period; runtime = runtime; memory = 0; deadline = deadline }

-- Sweep, positioner and link watch. The sweep is first in the list, and without a deadline the positioner, of the same period, would
-- move after it; with one it stands still before the sweep begins.
unfoldable pub moving : List Task
moving = task 8 4 ∷ task 8 2 ∷ task 4 1 ∷ []

unfoldable pub still : List Task
still = task 8 4 ∷ due 8 2 3 ∷ task 4 1 ∷ []

-- Two deadlines at slice 2 are one too many: the link watch misses its own, long before its period ends.
unfoldable pub crowded : List Task
crowded = task 8 4 ∷ due 8 2 2 ∷ due 4 1 2 ∷ []

-- List A, its second task with a deadline that puts it first.
unfoldable pub hurried : List Task
hurried = task 4 1 ∷ due 6 2 3 ∷ task 12 3 ∷ []

pub record WithDeadlines : Type 0 where
  pub verdict_moving : verdict moving ≡ accepted 2 (pos 0) 8 4
  pub table_moving : entries moving 8 ≡ 3 ∷ 1 ∷ 1 ∷ 1 ∷ 3 ∷ 1 ∷ 2 ∷ 2 ∷ []
  pub verdict_still : verdict still ≡ accepted 1 (pos 0) 8 4
  pub table_still : entries still 8 ≡ 2 ∷ 2 ∷ 3 ∷ 1 ∷ 3 ∷ 1 ∷ 1 ∷ 1 ∷ []
  pub verdict_crowded : verdict crowded ≡ late 3 (sub_ℕ 0 1)
  pub verdict_hurried : verdict hurried ≡ accepted 2 (pos 1) 12 6
  pub table_hurried : entries hurried 12 ≡ 2 ∷ 2 ∷ 1 ∷ 3 ∷ 1 ∷ 3 ∷ 2 ∷ 2 ∷ 1 ∷ 3 ∷ 0 ∷ 0 ∷ []
  pub below_the_runtime : verdict (due 4 2 1 ∷ []) ≡ refusal 20 1
  pub above_the_period : verdict (task 4 1 ∷ due 4 1 5 ∷ []) ≡ refusal 20 2
