-- Shaped like the code, for private contracts alone: what the checks pass on, and what the walk over a run comes to. Place k of an
-- array belongs to the k-th task by rank.
use Rattle.std.specs.Prelude.{◌≡◌, Bool, true, false, ◌&&◌, List, ◌⊎◌, ℕ, zero, suc, ◌+◌, ◌-◌, ◌/◌, ◌≤◌, ◌<◌, ltb, eqb, length}
use Rattle.basis.specs.Bytes.{at, overwrite}
use Rattle.basis.specs.Choose.{choose, within}
use Rattle.plan.specs.Plan.{Demand, gets, OnTimeUpTo}
use Rattle.needs.specs.Explained.{Explains, given_in}
use Rattle.tasks.specs.declared.TaskList.{TaskList}
use Rattle.tasks.specs.List.{plan_of}
use Rattle.tasks.specs.Bounds.{cycle_of, jobs_of}
use Rattle.tasks.specs.Kept.{Bounded}

-- ---- what is known of an accepted list
pub record Judged (l : TaskList) (cycle jobs : ℕ) : Type 0 where
  pub bounded : Bounded l
  pub cycle_is : cycle ≡ cycle_of l
  pub jobs_is : jobs ≡ jobs_of l
  pub on_time : OnTimeUpTo (plan_of l) (plan_of l).runtime (cycle_of l)

-- a run of its cycle's length
pub record SeenRun (l : TaskList) (cycle : ℕ) (run : List ℕ) : Type 0 where
  pub bounded : Bounded l
  pub cycle_is : cycle ≡ cycle_of l
  pub whole : length run ≡ cycle
  pub on_time : OnTimeUpTo (plan_of l) (plan_of l).runtime (cycle_of l)

-- Whether any needs lead to it; if so, what the run gives each job does.
pub record Leads (l : TaskList) (run : List ℕ) (r : Bool) : Type 0 where
  pub yes : r ≡ true → Explains (plan_of l) (cycle_of l) run (given_in (plan_of l) run)
  pub within : r ≡ true → (i k : ℕ) → i < l.count → k < cycle_of l / (plan_of l).period i → given_in (plan_of l) run i k ≤ (plan_of l).runtime i k
  pub no : r ≡ false → (need : Demand) → Explains (plan_of l) (cycle_of l) run need → ⊥

-- ---- the walk back, one slice further: to slice t, which has this entry
-- At the end of its job a task's release is that of the job before, which has got nothing yet.
unfoldable pub start_then : ℕ → ℕ → ℕ → ℕ
start_then start period t = choose (eqb (t + 1) start) (start - period) start

unfoldable pub got_then : ℕ → ℕ → ℕ → ℕ → ℕ → ℕ
got_then got start t entry task = choose (eqb (t + 1) start) 0 got + gets entry task

-- A job that is released at slice t gets from 1 slice to its run-time.
unfoldable pub fits_at : ℕ → ℕ → ℕ → ℕ → Bool
fits_at start got runtime t = choose (eqb start t) (within 1 runtime got) true

-- a test holds at each of the first n places
unfoldable pub all_to : (ℕ → Bool) → ℕ → Bool
all_to test zero = true
all_to test (suc n) = all_to test n && test n

-- what place k becomes
abbrev pub start_at : (periods starts : List ℕ) (t k : ℕ) → ℕ
start_at periods starts t k = start_then (at starts k) (at periods k) t

abbrev pub got_at : (order starts got : List ℕ) (t entry k : ℕ) → ℕ
got_at order starts got t entry k = got_then (at got k) (at starts k) t entry (at order k)

abbrev pub fit_at : (order periods runtimes starts got : List ℕ) (t entry k : ℕ) → Bool
fit_at order periods runtimes starts got t entry k = fits_at (start_at periods starts t k) (got_at order starts got t entry k) (at runtimes k) t

-- The numbers are small.
pub record CanGoBack (order periods starts got : List ℕ) (n t : ℕ) : Type 0 where
  pub few : n ≤ 16
  pub short : t < 4096
  pub tasks : (k : ℕ) → k < n → at order k < 16
  pub got_small : (k : ℕ) → k < n → at got k ≤ 4096
  pub start_large : (k : ℕ) → k < n → t + 1 ≡ at starts k → at periods k ≤ at starts k

-- All places have gone back, and it is said whether all jobs fit.
pub record Back (order periods runtimes starts got : List ℕ) (n t entry : ℕ) (starts' got' : List ℕ) (r : Bool) : Type 0 where
  pub starts_are : starts' ≡ overwrite (start_at periods starts t) n starts
  pub got_is : got' ≡ overwrite (got_at order starts got t entry) n got
  pub fit_is : r ≡ all_to (fit_at order periods runtimes starts got t entry) n

-- ---- who waits
unfoldable pub waits_for : ℕ → ℕ → ℕ → ℕ → ℕ
waits_for start due got t = choose (ltb t (start + due)) got 0

abbrev pub waits_at : List ℕ → List ℕ → List ℕ → ℕ → ℕ → ℕ
waits_at dues starts got t k = waits_for (at starts k) (at dues k) (at got k) t

-- These numbers too.
pub record CanWait (order dues starts : List ℕ) (n : ℕ) : Type 0 where
  pub few : n ≤ 16
  pub tasks : (k : ℕ) → k < n → at order k < 16
  pub due_small : (k : ℕ) → k < n → at starts k + at dues k ≤ 8192

-- ---- numbers laid into lent memory
-- From one place on stand the first n values of f, and the others are as they were.
pub record Laid (f : ℕ → ℕ) (from n : ℕ) (old new : List ℕ) : Type 0 where
  pub long : length new ≡ length old
  pub each : (k : ℕ) → k < n → at new (from + k) ≡ f k
  pub elsewhere : (x : ℕ) → (x < from) ⊎ (from + n ≤ x) → at new x ≡ at old x
