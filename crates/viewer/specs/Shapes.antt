-- What the private functions come to.
use Rattle.std.specs.Prelude.{List, ℕ, leb, Some, Ok, Err}
use Rattle.basis.specs.Choose.{choose}
use Rattle.tasks.specs.declared.TaskList.{TaskList}
use Rattle.verdict.specs.Verdict.{Verdict, verdict_of}
use Rattle.explain.specs.Seen.{Viewed, refused_by, AfterList}
use Rattle.viewer.specs.Viewer.{ReadsRun}

-- So much is given, or there is no room for it.
unfoldable pub fitting : ℕ → ℕ → Viewed
fitting needed room = choose (leb needed room) (Ok (Some needed)) (refused_by 31 0)

-- The list's refusal, or 18.
unfoldable pub without_form_by : Verdict → ℕ → Viewed
without_form_by (Ok a) place = refused_by 18 place
without_form_by (Err r) place = Err r

unfoldable pub without_form : TaskList → ℕ → ℕ → Viewed
without_form l supply place = without_form_by (verdict_of l supply) place

-- A run that was read, given back.
unfoldable pub Gives : TaskList → ℕ → List ℕ → List ℕ → List ℕ → Viewed → Type 0
Gives l supply run old new r = AfterList (verdict_of l supply) (λ cycle jobs. ReadsRun l old new r cycle run) old new r
