-- A list whose first places are filled from a run of records, and when it is the list that the records make.
use Rattle.std.specs.Prelude.{◌≡◌, refl, List, [], ℕ, suc, ◌≤◌, length, replicate, set, take, min}
use Rattle.std.proofs.Common.{sym, ◌∙◌, arith, get_or-take, length-take-le}
use Rattle.std.proofs.lemmas.List.{get_or-replicate}
use Rattle.std.proofs.Math.ListN.{get_or-eq_default}
use Rattle.basis.specs.Bytes.{overwrite, overwrite_same, overwrite_rest}
use Rattle.tasks.specs.declared.Task.{Task}
use Rattle.tasks.specs.declared.TaskList.{TaskList}
use Rattle.tasks.specs.List.{no_task, task_at, list_of}

-- the first n places filled from a run of records, the others with no task
unfoldable pub filled : List Task → ℕ → ℕ → TaskList
filled ts n count = record { tasks = overwrite (task_at ts) n (replicate 16 no_task); count = count }

unfoldable pub with_task : TaskList → ℕ → Task → TaskList
with_task l i t = record { tasks = set l.tasks i t; count = l.count }

-- No place filled, the records do not matter.
pub filled_none : (ts : List Task) (count : ℕ) → filled [] 0 count ≡ filled ts 0 count
unfolding filled overwrite
filled_none ts count = refl

-- One more place filled.
pub filled_next : (ts : List Task) (n count : ℕ) → with_task (filled ts n count) n (task_at ts n) ≡ filled ts (suc n) count
unfolding with_task filled overwrite
filled_next ts n count = refl

-- All filled that have a record, it is the list that the records make.
pub filled_all : (ts : List Task) (n : ℕ) → n ≡ min (length ts) 16 → filled ts n (length ts) ≡ list_of ts
unfolding filled list_of task_at
filled_all ts n held =
    let places = overwrite_rest (task_at ts) (replicate 16 no_task) no_task n 16 (omega arith) (λ i a b. get_or-eq_default ts no_task (omega arith) ∙ sym (get_or-replicate 16 i no_task no_task b)) in
    λ j. record { tasks = sym places j; count = length ts }

pub taken-length : (n : ℕ) (ts : List Task) → length ts ≡ 16 → n ≤ 16 → length (take n ts) ≡ n
taken-length n ts all few = length-take-le n ts (omega (arith, all))

-- The list that the first n of sixteen records make.
pub filled_first : (ts : List Task) (n : ℕ) → length ts ≡ 16 → n ≤ 16 → list_of (take n ts) ≡ filled ts n n
unfolding filled task_at
filled_first ts n all few =
    let e = taken-length n ts all few in
    sym (filled_all (take n ts) n (omega (arith, e)))
    ∙ (λ j. record { tasks = overwrite_same (task_at (take n ts)) (task_at ts) (replicate 16 no_task) n (λ i h. get_or-take n ts i no_task h) j; count = e j })
