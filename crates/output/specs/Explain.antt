-- What the explaining program prints for a list and a file: 16 comes first, then 15 for the first bad line, then the refusal of the list or of the file; else no, or the need of each job.
use Rattle.std.specs.Prelude.{◌≡◌, List, ℕ, ◌/◌, replicate, Some, None, Ok, Err}
use Rattle.tasks.specs.declared.TaskList.{TaskList}
use Rattle.tasks.specs.List.{task_at}
use Rattle.tasks.specs.Bounds.{cycle_of}
use Rattle.records.specs.Grammar.{Read}
use Rattle.printing.specs.Text.{needs_text, no_text}
use Rattle.tasks.specs.Refusal.{refusal_answer}
use Rattle.explain.specs.Seen.{Viewed}
use Rattle.viewer.specs.Viewer.{ExplainsFile}
use Rattle.output.specs.Output.{record_of}
use Rattle.output.specs.Listed.{ListPrints, ListAnswers}

-- How many jobs a task has in the cycle.
unfoldable pub jobs_in : TaskList → ℕ → ℕ
jobs_in l i = cycle_of l / (task_at l.tasks i).period

-- The needs in the log's order; or no; or the refusal record, where 18 has its place in the task's column.
unfoldable pub viewed_text : TaskList → List ℕ → Viewed → List ℕ
viewed_text l needs (Ok (Some count)) = needs_text needs (jobs_in l) l.count
viewed_text l needs (Ok None) = no_text
viewed_text l needs (Err r) = record_of (refusal_answer r)

-- Of the list that is read and the file. The supply is 65,536, and the program keeps room for 4,096 needs.
pub record ExplainOf (file : List ℕ) (r : Read) (text : List ℕ) : Type 0 where
  pub needs : List ℕ
  pub viewed : Viewed
  pub explained : ExplainsFile r.list 65536 file (replicate 4096 0) needs viewed
  pub is_text : text ≡ viewed_text r.list needs viewed

abbrev pub ExplainPrints : List ℕ → List ℕ → List ℕ → Type 0
ExplainPrints input file text = ListPrints (ExplainOf file) input text

abbrev pub ExplainAnswers : List ℕ → List ℕ → List ℕ → List ℕ → ℕ → Type 0
ExplainAnswers input file old new r = ListAnswers (ExplainOf file) input old new r
