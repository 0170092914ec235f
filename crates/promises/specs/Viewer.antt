-- The logic viewer, the statement: what writing, reading back and explaining a run refuse and in which order, that a file has one
-- reading, and that a run is explained exactly if some needs lead to it. ViewerHolds has the proof.
use Rattle.std.specs.Prelude.{◌≡◌, List, ◌↔◌, ℕ, ◌+◌, ◌≤◌, ◌<◌, min, length, take, Some, None, Ok}
use Rattle.basis.specs.Answer.{refusal}
use Rattle.basis.specs.Bytes.{at}
use Rattle.basis.specs.Rules.{Rule, rule, saying, Rules, no_more, ◌then◌, ◌and_then◌, GoesBy}
use Rattle.plan.specs.Plan.{Demand}
use Rattle.needs.specs.Explained.{Explains}
use Rattle.tasks.specs.declared.TaskList.{TaskList}
use Rattle.tasks.specs.List.{plan_of}
use Rattle.tasks.specs.Bounds.{cycle_of, job_sum, jobs_of}
use Rattle.start.specs.Start.{mode_of}
use Rattle.run.specs.declared.Mode.TheVariants.{Filling}
use Rattle.run.specs.Who.{running}
use Rattle.vcd.specs.Form.{vcd_text, IsRun, OfRun, Longest}
use Rattle.explain.specs.Seen.{Viewed, viewed_answer}
use Rattle.viewer.specs.Viewer.{Writes, ReadsBack, ExplainsFile}
use Rattle.output.specs.Output.{entries}
use Rattle.promises.specs.Demand2.{judged_as}
use Rattle.promises.specs.Demand3.{jobs_in, FullRun}
use Rattle.promises.specs.Refusals.{list_rules}

-- ---- the numbers of refusal
-- 18: the file is the form of no 1 to 4,096 entries from 0 to 16; placed at the length of the longest beginning that it shares
-- with one that is.
abbrev pub no_form : List ℕ → Rule
no_form file = saying 18 (refusal 18) (λ n. ((run : List ℕ) → OfRun file run → ⊥) × Longest file n)

module _ (l : TaskList) (IsIt : List ℕ → Type 0) where
  -- 19: a length, written or read, that is not the cycle. 30: an entry above the task count.
  abbrev pub not_the_cycle : Rule
  not_the_cycle = rule 19 ((run : List ℕ) × (IsIt run × (length run ≡ cycle_of l → ⊥)))

  abbrev pub entry_above : Rule
  entry_above = rule 30 ((run : List ℕ) × (IsIt run × ((t : ℕ) × ((t < length run) × (l.count < at run t)))))

-- 31: an output too short.
abbrev pub output_short : ℕ → ℕ → Rule
output_short needed room = rule 31 (room < needed)

-- After the list's own checks: of a run that is to be written, 19, 30, 31; of a file, 18 before them.
unfoldable pub write_rules : TaskList → ℕ → List ℕ → ℕ → Rules
write_rules l supply run room =
    list_rules l supply and_then (not_the_cycle l (λ r. r ≡ run) then entry_above l (λ r. r ≡ run) then output_short (length (vcd_text run)) room then no_more)

unfoldable pub file_rules : TaskList → ℕ → List ℕ → ℕ → ℕ → Rules
file_rules l supply file needed room =
    list_rules l supply and_then (no_form file then not_the_cycle l (OfRun file) then entry_above l (OfRun file) then output_short needed room then no_more)

-- ---- a run as a list
-- The entries of a full run: who ran in each slice of the cycle.
pub record WhoRan (l : TaskList) (full : FullRun l) (run : List ℕ) : Type 0 where
  pub whole : length run ≡ cycle_of l
  pub each : (p : ℕ) → p < cycle_of l → at run p ≡ running (full.states p) full.tab

-- Needs of every job, in the log's order.
pub record Stand (l : TaskList) (need : Demand) (needs : List ℕ) : Type 0 where
  pub each : (i k : ℕ) → i < l.count → k < jobs_in l i → at needs (job_sum l.tasks (cycle_of l) i + k) ≡ need i k

pub record Viewer : Type 0 where
  -- Refused by number, in order; and refused, nothing is written.
  pub write_goes : (l : TaskList) (supply : ℕ) (run old new : List ℕ) (r : Viewed) → Writes l supply run old new r → GoesBy (write_rules l supply run (length old)) (viewed_answer r)
  pub read_goes : (l : TaskList) (supply : ℕ) (file old new : List ℕ) (r : Viewed) → ReadsBack l supply file old new r → GoesBy (file_rules l supply file (cycle_of l) (length old)) (viewed_answer r)
  pub explain_goes : (l : TaskList) (supply : ℕ) (file old new : List ℕ) (r : Viewed) → ExplainsFile l supply file old new r → GoesBy (file_rules l supply file (jobs_of l) (length old)) (viewed_answer r)
  pub write_refused : (l : TaskList) (supply : ℕ) (run old new : List ℕ) (r : Viewed) → Writes l supply run old new r → ((viewed_answer r).number ≡ 0 → ⊥) → new ≡ old
  pub read_refused : (l : TaskList) (supply : ℕ) (file old new : List ℕ) (r : Viewed) → ReadsBack l supply file old new r → ((viewed_answer r).number ≡ 0 → ⊥) → new ≡ old
  pub explain_refused : (l : TaskList) (supply : ℕ) (file old new : List ℕ) (r : Viewed) → ExplainsFile l supply file old new r → ((viewed_answer r).number ≡ 0 → ⊥) → new ≡ old
  -- Every file has one reading, and 18 one place.
  pub one_run : (run other : List ℕ) → IsRun run → IsRun other → vcd_text run ≡ vcd_text other → run ≡ other
  pub one_place : (file : List ℕ) (m n : ℕ) → Longest file m → Longest file n → m ≡ n
  -- What is written is the run's text; and reading it back gives the run it came from, whatever the run. (`Ok (Some n)`: n numbers
  -- are given; `Ok None`: no.)
  pub written : (l : TaskList) (supply : ℕ) (run old new : List ℕ) (n : ℕ) → Writes l supply run old new (Ok (Some n)) → OfRun (take n new) run
  pub read_back : (l : TaskList) (supply : ℕ) (run old new : List ℕ) (n : ℕ) → Writes l supply run old new (Ok (Some n))
      → (old' new' : List ℕ) (r : Viewed) → ReadsBack l supply (take n new) old' new' r → cycle_of l ≤ length old' → (r ≡ Ok (Some (cycle_of l))) × (take (cycle_of l) new' ≡ run)
  -- Explained: yes exactly if such needs exist, for whatever is not refused;
  pub yes_exactly : (l : TaskList) (supply : ℕ) (file old new run : List ℕ) (r : Viewed) → ExplainsFile l supply file old new r → (viewed_answer r).number ≡ 0 → OfRun file run
      → (r ≡ Ok (Some (jobs_of l))) ↔ ((need : Demand) × Explains (plan_of l) (cycle_of l) run need)
  pub no_else : (l : TaskList) (supply : ℕ) (file old new : List ℕ) (r : Viewed) → ExplainsFile l supply file old new r → (viewed_answer r).number ≡ 0 → (r ≡ Ok (Some (jobs_of l)) → ⊥) → (r ≡ Ok None) × (new ≡ old)
  -- the needs given lead to the run;
  pub given_lead : (l : TaskList) (supply : ℕ) (file old new run : List ℕ) (n : ℕ) → ExplainsFile l supply file old new (Ok (Some n)) → OfRun file run
      → (need : Demand) → Stand l need new → Explains (plan_of l) (cycle_of l) run need
  -- and whichever needs lead there, each job is given its own, or its run-time where it took all of that.
  pub given_are : (l : TaskList) (supply : ℕ) (file old new run : List ℕ) (n : ℕ) → ExplainsFile l supply file old new (Ok (Some n)) → OfRun file run
      → (need : Demand) → Explains (plan_of l) (cycle_of l) run need → Stand l (λ i k. min (need i k) ((plan_of l).runtime i k)) new
  -- The filling run is that of demand 3: who ran in a full run that fills freed slices is explained by its needs.
  pub full_run_explained : (l : TaskList) (full : FullRun l) (run : List ℕ) → mode_of full.asked ≡ Filling → WhoRan l full run → Explains (plan_of l) (cycle_of l) run full.need
  -- What the dump program writes of an accepted list, its table, is the filling run in which every job takes its whole run-time.
  pub table_explained : (l : TaskList) (supply : ℕ) → (judged_as l supply).number ≡ 0 → Explains (plan_of l) (cycle_of l) (entries l (cycle_of l)) (plan_of l).runtime
  -- An accepted list has no more jobs than slices, so that 4,096 places are room for all needs.
  pub jobs_within : (l : TaskList) (supply : ℕ) → (judged_as l supply).number ≡ 0 → (jobs_of l ≤ cycle_of l) × (cycle_of l ≤ 4096)
