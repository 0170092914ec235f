-- What a plan of tasks is, which task each slice goes to, when a job is on time, and the test of a task. Definitions only.
-- Slices, tasks and jobs are counted from 0. An entry is 0 for an idle slice and i + 1 for task i.
use Rattle.std.specs.Prelude.{◌≡◌, Bool, false, ◌&&◌, ◌||◌, List, ◌⊎◌, ℕ, zero, suc, ◌+◌, ◌-◌, ◌*◌, ◌/◌, ◌%◌, ◌≤◌, ◌<◌, min, ltb, eqb, replicate}
use Rattle.basis.specs.Bytes.{at, overwrite}
use Rattle.basis.specs.Choose.{choose}
use Rattle.basis.specs.Sum.{sum}
use Rattle.basis.specs.Slices.{ceil}

-- ---- tasks and jobs
-- Job k of task i is released at slice k * period i, and its deadline is due i slices later.
-- It may have runtime i k slices, and it is ranked by key i k.
pub record Plan : Type 0 where
  pub count : ℕ
  pub period : ℕ → ℕ
  pub due : ℕ → ℕ
  pub runtime : ℕ → ℕ → ℕ
  pub key : ℕ → ℕ → ℕ

-- Every task has a period, and a deadline that comes after the release and no later than the next release.
pub record Sound (P : Plan) : Type 0 where
  pub period_pos : (i : ℕ) → i < P.count → 0 < P.period i
  pub due_pos : (i : ℕ) → i < P.count → 0 < P.due i
  pub due_within : (i : ℕ) → i < P.count → P.due i ≤ P.period i

unfoldable pub release : Plan → ℕ → ℕ → ℕ
release P i k = k * P.period i

unfoldable pub deadline : Plan → ℕ → ℕ → ℕ
deadline P i k = release P i k + P.due i

-- the job of task i that is current in slice t, and how many slices it is old
unfoldable pub job : Plan → ℕ → ℕ → ℕ
job P i t = t / P.period i

unfoldable pub age : Plan → ℕ → ℕ → ℕ
age P i t = t % P.period i

-- ---- rank
-- Smaller key first; of equal keys, the earlier task.
unfoldable pub ranks_before : (ℕ → ℕ) → ℕ → ℕ → Bool
ranks_before key i j = ltb (key i) (key j) || (eqb (key i) (key j) && ltb i j)

-- Entry e is that of the first-ranking task below n that wants a slice: it is idle and none wants one; or its task wants
-- one, and none that wants one ranks before it.
pub record NoneWants (wants : ℕ → ℕ) (n e : ℕ) : Type 0 where
  pub idle : e ≡ 0
  pub none : (j : ℕ) → j < n → wants j ≡ 0

pub record FirstTask (key wants : ℕ → ℕ) (n e : ℕ) : Type 0 where
  pub task : ℕ
  pub is : e ≡ suc task
  pub below : task < n
  pub wanting : 0 < wants task
  pub none_before : (j : ℕ) → j < n → 0 < wants j → ranks_before key j task ≡ false

unfoldable pub IsFirst : (ℕ → ℕ) → (ℕ → ℕ) → ℕ → ℕ → Type 0
IsFirst key wants n e = NoneWants wants n e ⊎ FirstTask key wants n e

-- There is exactly one such entry (Rank), and this finds it. Task n, which wants w slices, against the entry found so far:
unfoldable pub first_of : (ℕ → ℕ) → ℕ → ℕ → ℕ → ℕ
first_of key zero n e = e
first_of key (suc w) n zero = suc n
first_of key (suc w) n (suc i) = choose (ltb (key n) (key i)) (suc n) (suc i)

-- and so for all tasks below n.
unfoldable pub first : (ℕ → ℕ) → (ℕ → ℕ) → ℕ → ℕ
first key wants zero = 0
first key wants (suc n) = first_of key (wants n) n (first key wants n)

-- ---- a run under a demand
-- How many slices job k of task i takes.
abbrev pub Demand : Type 0
Demand = ℕ → ℕ → ℕ

-- what task i is ranked by in slice t
unfoldable pub key_in : Plan → ℕ → ℕ → ℕ
key_in P t i = P.key i (job P i t)

-- The slices that the current job of task i wants in slice t, having had h i of them; none once its deadline is past.
unfoldable pub wants : Plan → Demand → ℕ → (ℕ → ℕ) → ℕ → ℕ
wants P d t h i = choose (ltb (age P i t) (P.due i)) (d i (job P i t) - h i) 0

-- Slice t goes to the first-ranking task whose current job has had fewer slices than its demand; to none if there is none.
unfoldable pub pick : Plan → Demand → ℕ → (ℕ → ℕ) → ℕ
pick P d t h = first (key_in P t) (wants P d t h) P.count

-- 1 if the entry is task i's, else 0
unfoldable pub gets : ℕ → ℕ → ℕ
gets e i = choose (eqb e (suc i)) 1 0

-- 1 if the entry is idle, else 0
unfoldable pub idles : ℕ → ℕ
idles e = choose (eqb e 0) 1 0

-- What the current job of each task has had before slice t, task by task. At its release a fresh job has had nothing.
unfoldable pub had_after : Plan → Demand → ℕ → List ℕ → List ℕ
had_after P d t h = overwrite (λ i. choose (eqb (age P i (suc t)) 0) 0 (at h i + gets (pick P d t (at h)) i)) P.count h

unfoldable pub had_all : Plan → Demand → ℕ → List ℕ
had_all P d zero = replicate P.count 0
had_all P d (suc t) = had_after P d t (had_all P d t)

unfoldable pub had : Plan → Demand → ℕ → ℕ → ℕ
had P d t = at (had_all P d t)

-- The entry of slice t.
unfoldable pub entry : Plan → Demand → ℕ → ℕ
entry P d t = pick P d t (had P d t)

-- The slices that task i gets in the m slices from slice s on, and how many of these are idle.
unfoldable pub given : Plan → Demand → ℕ → ℕ → ℕ → ℕ
given P d i s m = sum (λ n. gets (entry P d (s + n)) i) m

unfoldable pub idle : Plan → Demand → ℕ → ℕ → ℕ
idle P d s m = sum (λ n. idles (entry P d (s + n))) m

-- ---- the slice rule and the two kinds of run
-- The slice rule lets every job take its run-time. Its entries up to the cycle's end are the table.
unfoldable pub table : Plan → ℕ → ℕ
table P = entry P P.runtime

-- A job that needs more than its run-time is closed there.
unfoldable pub takes : Plan → Demand → Demand
takes P need i k = min (need i k) (P.runtime i k)

-- Filling freed slices, a slice goes to the first-ranking task whose current job has not ended.
unfoldable pub filling : Plan → Demand → ℕ → ℕ
filling P need = entry P (takes P need)

-- By the table, it goes to the task of its entry while the current job has not had what it takes among the entries.
unfoldable pub unless_ended : Plan → Demand → ℕ → ℕ → ℕ
unless_ended P need t zero = 0
unless_ended P need t (suc i) = choose (ltb (had P P.runtime t i) (takes P need i (job P i t))) (suc i) 0

unfoldable pub by_table : Plan → Demand → ℕ → ℕ
by_table P need t = unless_ended P need t (table P t)

-- ---- ends and deadlines
-- Job k of task i has had x slices by m slices after its release.
unfoldable pub HadBy : Plan → Demand → ℕ → ℕ → ℕ → ℕ → Type 0
HadBy P d i k x m = x ≤ given P d i (release P i k) m

-- It has ended by then: in the run under demand d; and in the run by the table with such needs.
abbrev pub EndsBy : Plan → Demand → ℕ → ℕ → ℕ → Type 0
EndsBy P d i k m = HadBy P d i k (d i k) m

abbrev pub EndsByTable : Plan → Demand → ℕ → ℕ → ℕ → Type 0
EndsByTable P need i k m = HadBy P P.runtime i k (takes P need i k) m

-- Job k of task i has had its whole demand by its deadline.
unfoldable pub OnTime : Plan → Demand → ℕ → ℕ → Type 0
OnTime P d i k = EndsBy P d i k (P.due i)

-- Every job with its deadline at slice t or before is on time.
unfoldable pub OnTimeUpTo : Plan → Demand → ℕ → Type 0
OnTimeUpTo P d t = (i k : ℕ) → i < P.count → deadline P i k ≤ t → OnTime P d i k

-- ---- the test of Lehoczky, Sha and Ding
-- One run-time a task, and rank by deadline, then place. (Where deadlines are the periods, that is rate-monotonic.)
pub record Monotonic (P : Plan) : Type 0 where
  pub sound : Sound P
  pub one_runtime : (i k : ℕ) → i < P.count → P.runtime i k ≡ P.runtime i 0
  pub runtime_pos : (i : ℕ) → i < P.count → 0 < P.runtime i 0
  pub by_deadline : (i k : ℕ) → i < P.count → P.key i k ≡ P.due i

-- What task j asks for in t slices from a common release: its run-time times (t / period, rounded up).
unfoldable pub asks : Plan → ℕ → ℕ → ℕ
asks P t j = P.runtime j 0 * ceil t (P.period j)

-- The sum of that over task i and all tasks ranking before it.
unfoldable pub bound : Plan → ℕ → ℕ → ℕ
bound P i t = asks P t i + sum (λ j. choose (ranks_before (key_in P 0) j i) (asks P t j) 0) P.count

-- Task i passes if for some t from 1 to its deadline that sum is at most t.
unfoldable pub Passes : Plan → ℕ → Type 0
Passes P i = (t : ℕ) × (1 ≤ t) × (t ≤ P.due i) × (bound P i t ≤ t)
