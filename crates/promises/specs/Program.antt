-- The program's rules, and that what it prints goes by them: 16 comes first, then 15 for the first bad line, then the list's checks.
-- ProgramHolds has the proof.
use Rattle.std.specs.Prelude.{◌≡◌, List, ◌∷◌, ◌++◌, ◌⊎◌, ℕ, ◌≤◌, ◌<◌, length}
use Rattle.basis.specs.Answer.{Answer}
use Rattle.basis.specs.Rules.{Rule, rule, naming, Rules, no_more, ◌then◌, Refused}
use Rattle.tasks.specs.declared.Task.{Task}
use Rattle.tasks.specs.declared.TaskList.{TaskList}
use Rattle.tasks.specs.List.{list_of}
use Rattle.tasks.specs.Bounds.{cycle_of}
use Rattle.records.specs.Grammar.{Row, Rows, Lines}
use Rattle.printing.specs.Text.{table_text}
use Rattle.promises.specs.Refusals.{list_rules}
use Rattle.output.specs.Output.{record_of, entries, Prints}

-- 16: input above 4,096 bytes.
abbrev pub input_long : List ℕ → Rule
input_long input = rule 16 (4096 < length input)

-- 15: a line not in form; names the first, counted from 1 as tasks are.
pub record FirstBad (input : List ℕ) (i : ℕ) : Type 0 where
  pub before : List (List ℕ)
  pub line : List ℕ
  pub after : List (List ℕ)
  pub tasks : List Task
  pub lines : Lines input (before ++ line ∷ after)
  pub before_in_form : Rows before tasks
  pub not_in_form : (t : Task) → Row line t → ⊥
  pub place : length before ≡ i

abbrev pub line_bad : List ℕ → Rule
line_bad input = naming 15 (FirstBad input)

unfoldable pub input_rules : List ℕ → Rules
input_rules input = input_long input then line_bad input then no_more

-- An input that is not too long and all of whose lines are in form, and its list.
pub record InForm (input : List ℕ) (l : TaskList) : Type 0 where
  pub short : length input ≤ 4096
  pub each : List (List ℕ)
  pub tasks : List Task
  pub lines : Lines input each
  pub in_form : Rows each tasks
  pub list_is : l ≡ list_of tasks

pub record Program : Type 0 where
  -- An input is refused by its own rules, or it has a list.
  pub every_input : (input : List ℕ) → ((a : Answer) × Refused (input_rules input) a) ⊎ ((l : TaskList) × InForm input l)
  -- An input that is too long, or else one with a line out of form, is refused so;
  pub input_refused : (input text : List ℕ) → Prints input text → (a : Answer) → Refused (input_rules input) a → text ≡ record_of a
  -- the list of any other is refused as its verdict with a supply of 65,536;
  pub list_refused : (input text : List ℕ) → Prints input text → (l : TaskList) → InForm input l → (a : Answer) → Refused (list_rules l 65536) a → text ≡ record_of a
  -- and if nothing is refused, the table is printed.
  pub table_printed : (input text : List ℕ) → Prints input text → (l : TaskList) → InForm input l → ((a : Answer) → Refused (list_rules l 65536) a → ⊥) → text ≡ table_text (entries l (cycle_of l))
