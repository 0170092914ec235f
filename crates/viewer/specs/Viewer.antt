-- Writing a run of a list for the viewer, reading one back, and explaining one by needs: what each call answers and writes.
use Rattle.std.specs.Prelude.{◌≡◌, List, ◌⊎◌, ℕ, length, Some, None, Ok, Err}
use Rattle.basis.specs.Bytes.{at, overwrite}
use Rattle.tasks.specs.declared.TaskList.{TaskList}
use Rattle.verdict.specs.Verdict.{verdict_of}
use Rattle.vcd.specs.Form.{vcd_text, OfRun, Longest}
use Rattle.explain.specs.Seen.{Viewed, refused_by, AfterList, run_number, unless_refused, Explained}

-- Given, the numbers stand from the first place on, and what lies behind them stays; else nothing is written.
unfoldable pub shown : Viewed → (ℕ → ℕ) → List ℕ → List ℕ
shown (Ok (Some count)) f old = overwrite f count old
shown (Ok None) f old = old
shown (Err r) f old = old

-- ---- writing
pub record WritesRun (l : TaskList) (run old new : List ℕ) (r : Viewed) (cycle : ℕ) : Type 0 where
  pub answer : r ≡ unless_refused (run_number cycle l.count run (length (vcd_text run)) (length old)) (length (vcd_text run))
  pub bytes : new ≡ shown r (at (vcd_text run)) old

unfoldable pub Writes : TaskList → ℕ → List ℕ → List ℕ → List ℕ → Viewed → Type 0
Writes l supply run old new r = AfterList (verdict_of l supply) (λ cycle jobs. WritesRun l run old new r cycle) old new r

-- ---- reading
-- 18: the file is the form of no run; the place is the length of the longest beginning that it shares with one that is.
pub record NoForm (file old new : List ℕ) (r : Viewed) : Type 0 where
  pub none_is : (run : List ℕ) → OfRun file run → ⊥
  pub place : ℕ
  pub longest : Longest file place
  pub answer : r ≡ refused_by 18 place
  pub bytes : new ≡ old

-- The file is the form of a run, of which more is said.
pub record Of (file : List ℕ) (Said : List ℕ → Type 0) : Type 0 where
  pub run : List ℕ
  pub of_run : OfRun file run
  pub said : Said run

pub record ReadsRun (l : TaskList) (old new : List ℕ) (r : Viewed) (cycle : ℕ) (run : List ℕ) : Type 0 where
  pub answer : r ≡ unless_refused (run_number cycle l.count run cycle (length old)) cycle
  pub bytes : new ≡ shown r (at run) old

unfoldable pub ReadsBack : TaskList → ℕ → List ℕ → List ℕ → List ℕ → Viewed → Type 0
ReadsBack l supply file old new r = AfterList (verdict_of l supply) (λ cycle jobs. NoForm file old new r ⊎ Of file (ReadsRun l old new r cycle)) old new r

-- ---- explaining
unfoldable pub ExplainsFile : TaskList → ℕ → List ℕ → List ℕ → List ℕ → Viewed → Type 0
ExplainsFile l supply file old new r =
    AfterList (verdict_of l supply) (λ cycle jobs. NoForm file old new r ⊎ Of file (λ run. Explained l run old new r cycle jobs)) old new r
