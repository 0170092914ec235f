-- The table of an accepted list, and what building it answers and writes.
use Rattle.std.specs.Prelude.{◌≡◌, ℕ, List, length, nat_lt, Ok, Err}
use Rattle.basis.specs.Choose.{choose}
use Rattle.basis.specs.Bytes.{overwrite}
use Rattle.plan.specs.Plan.{table}
use Rattle.tasks.specs.declared.TaskList.{TaskList}
use Rattle.tasks.specs.List.{plan_of}
use Rattle.tasks.specs.declared.refusals.Refusal.TheVariants.{ShortTable}
use Rattle.verdict.specs.Verdict.{Verdict, verdict_of}

-- Table building adds refusal 8 last: the table lent is shorter than the cycle.
unfoldable pub fitted : Verdict → ℕ → Verdict
fitted (Ok a) room = choose (nat_lt room a.cycle) (Err ShortTable) (Ok a)
fitted (Err r) room = Err r

-- The entries of the slice rule from slice 0 to the cycle's end; the bytes beyond keep their values. Nothing is written on refusal.
unfoldable pub tabled : TaskList → Verdict → List ℕ → List ℕ
tabled l (Ok a) old = overwrite (table (plan_of l)) a.cycle old
tabled l (Err r) old = old

pub record Built (l : TaskList) (supply : ℕ) (old new : List ℕ) (r : Verdict) : Type 0 where
  pub answer : r ≡ fitted (verdict_of l supply) (length old)
  pub bytes : new ≡ tabled l r old
