-- Shaped like the code, for private contracts alone: what the walk's end comes to, with entries aside, and with a table.
use Rattle.std.specs.Prelude.{◌≡◌, ℕ, ◌<◌, ◌≤◌, List, length}
use Rattle.basis.specs.Bytes.{at}
use Rattle.plan.specs.Plan.{table}
use Rattle.tasks.specs.declared.TaskList.{TaskList}
use Rattle.tasks.specs.List.{plan_of}
use Rattle.verdict.specs.Lateness.{lateness}
use Rattle.verdict.specs.Verdict.{Verdict, judged}
use Rattle.verdict.specs.Table.{fitted, tabled}

-- The verdict of a list that keeps its bounds. Where nothing is late, the entries are the table's, if there are enough of them.
pub record Concluded (l : TaskList) (cycle jobs room : ℕ) (new : List ℕ) (r : Verdict) : Type 0 where
  pub answer : r ≡ judged (plan_of l) cycle jobs (lateness (plan_of l) cycle)
  pub entries : (lateness (plan_of l) cycle).task ≡ 0 → cycle ≤ room → (x : ℕ) → x < cycle → at new x ≡ table (plan_of l) x

-- The same with a table that is written only if it is long enough.
pub record Settled (l : TaskList) (cycle jobs : ℕ) (old new : List ℕ) (r : Verdict) : Type 0 where
  pub answer : r ≡ judged (plan_of l) cycle jobs (lateness (plan_of l) cycle)
  pub bytes : new ≡ tabled l (fitted r (length old)) old
