-- What the run gives each job, counted and laid down job by job, task by task.
use Rattle.std.specs.Prelude.{drop, slice_range}
use Rattle.std.proofs.lemmas.List.{length-take, length-drop, get_or-take, get_or-drop}
use mathlib.Core.Path.{◌≡◌, refl, sym, ap, ◌∙◌}
use mathlib.Core.List.{List}
use mathlib.Core.Logic.{inl, inr, ⊎_elim}
use Prim.Native.Nat.{ℕ, suc, ◌+◌, ◌-◌, ◌*◌, ◌/◌, ◌≤◌, ◌<◌}
use native.Mathlib.Omega.{arith}
use native.Mathlib.Numerals.{add-one}
use native.Mathlib.Nat.{mul-le-mul_right, div-mul-le_self}
use lib.ListN.{length, set, length-set}
use lib.Seq.{get_or-set_same, get_or-set_other}
use Rattle.basis.specs.Bytes.{at}
use Rattle.basis.specs.Choose.{below_suc}
use Rattle.basis.specs.Sum.{sum, sum_ext, sum_grows}
use Rattle.plan.specs.Plan.{Demand, release, gets}
use Rattle.plan.proofs.Work.{gets_one, gets_none}
use Rattle.needs.specs.Explained.{given_in}
use Rattle.tasks.specs.declared.TaskList.{TaskList}
use Rattle.tasks.specs.List.{task_at, plan_of}
use Rattle.tasks.specs.Bounds.{cycle_of, job_sum, jobs_of}
use Rattle.explain.specs.Seen.{NeedsIn}
use Rattle.explain.specs.Shapes.{SeenRun, Laid}

-- ---- counting, slice by slice
module _ (f : ℕ → ℕ) (i n count count' : ℕ) (so_far : count ≡ sum (λ x. gets (f x) i) n) where
  pub counted_one : f n ≡ suc i → count' ≡ count + 1 → count' ≡ sum (λ x. gets (f x) i) (n + 1)
  unfolding sum
  counted_one e more = rw add-one (omega (arith, gets_one (f n) i e))

  pub counted_none : (f n ≡ suc i → ⊥) → count' ≡ count → count' ≡ sum (λ x. gets (f x) i) (n + 1)
  unfolding sum
  counted_none ne same = rw add-one (omega (arith, gets_none (f n) i ne))

-- So many slices, from one place on, are the run's.
pub window_is : (run : List ℕ) (start period i : ℕ) → start + period ≤ length run
    → sum (λ n. gets (at (slice_range run start (start + period)) n) i) (length (slice_range run start (start + period))) ≡ sum (λ n. gets (at run (start + n)) i) period
window_is run start period i fits =
    let some : start + period - start ≡ period = omega arith in
    let long : length (slice_range run start (start + period)) ≡ period = omega (arith, length-take (start + period - start) (drop start run), length-drop start run) in
    rw long
    (sum_ext _ _ period
    (λ n l. ap (λ (x : ℕ). gets x i) (get_or-take (start + period - start) (drop start run) n 0 (omega (arith, some)) ∙ get_or-drop start run n 0)))

-- ---- job by job
module _ (f : ℕ → ℕ) (from : ℕ) (old : List ℕ) where
  pub laid_more : (n : ℕ) (new : List ℕ) (v : ℕ) → Laid f from n old new → from + n < length old → v ≡ f n → Laid f from (n + 1) old (set new (from + n) v)
  laid_more n new v L room e = record {
    long = length-set new (from + n) v ∙ L.long;
    each = λ k l.
        ⊎_elim
        (λ (b : k < n). get_or-set_other new (from + n) (from + k) v 0 (λ q. omega arith) ∙ L.each k b)
        (λ (q : k ≡ n). ap (λ (x : ℕ). at (set new (from + n) v) (from + x)) q ∙ get_or-set_same new (from + n) v 0 (omega (arith, L.long)) ∙ e ∙ ap f (sym q))
        (below_suc k n (omega arith));
    elsewhere = λ x w.
        get_or-set_other new (from + n) x v 0 (λ q. ⊎_elim (λ (b : x < from). omega arith) (λ (b : from + (n + 1) ≤ x). omega arith) w)
        ∙ L.elsewhere x (⊎_elim (λ (b : x < from). inl b) (λ (b : from + (n + 1) ≤ x). inr (omega arith)) w);
  }

-- The slices of a job lie within those of all its task's jobs.
pub window_in : (period jobs k room : ℕ) → jobs * period ≤ room → k < jobs → k * period + period ≤ room
window_in period jobs k room fits l = omega (arith, mul-le-mul_right period l)

-- ---- task by task
-- The needs of the first i tasks are given, and nothing else is written.
pub record GivenTo (l : TaskList) (need : Demand) (i : ℕ) (old new : List ℕ) : Type 0 where
  pub long : length new ≡ length old
  pub each : (j k : ℕ) → j < i → k < cycle_of l / (plan_of l).period j → at new (job_sum l.tasks (cycle_of l) j + k) ≡ need j k
  pub beyond : (x : ℕ) → job_sum l.tasks (cycle_of l) i ≤ x → at new x ≡ at old x

module _ (l : TaskList) (i from jobs : ℕ) (from_is : from ≡ job_sum l.tasks (cycle_of l) i) (jobs_is : jobs ≡ cycle_of l / (plan_of l).period i) where
  pub from_next : from + jobs ≡ job_sum l.tasks (cycle_of l) (i + 1)
  unfolding job_sum sum plan_of
  from_next = rw add-one (omega arith)

  jobs_before : (j k : ℕ) → j < i → k < cycle_of l / (plan_of l).period j → job_sum l.tasks (cycle_of l) j + k < from
  unfolding job_sum sum plan_of
  jobs_before j k lj lk = omega (arith, sum_grows (λ x. cycle_of l / (task_at l.tasks x).period) (suc j) i lj)

  -- The needs of one task more are laid behind those given.
  pub given_more : (need : Demand) (old new new' : List ℕ) → GivenTo l need i old new → Laid (need i) from jobs new new' → GivenTo l need (i + 1) old new'
  given_more need old new new' G L = record {
    long = L.long ∙ G.long;
    each = λ j k lj lk.
        ⊎_elim
        (λ (b : j < i). L.elsewhere (job_sum l.tasks (cycle_of l) j + k) (inl (jobs_before j k b lk)) ∙ G.each j k b lk)
        (λ (q : j ≡ i).
        let here : k < jobs = omega (arith, ap (λ (x : ℕ). cycle_of l / (plan_of l).period x) q) in
        ap (at new') (omega (arith, ap (job_sum l.tasks (cycle_of l)) q)) ∙ L.each k here ∙ ap (λ (x : ℕ). need x k) (sym q))
        (below_suc j i (omega arith));
    beyond = λ x a. let b : from + jobs ≤ x = omega (arith, from_next) in L.elsewhere x (inr b) ∙ G.beyond x (omega arith);
  }

module _ (l : TaskList) (need : Demand) (old : List ℕ) where
  pub given_none : GivenTo l need 0 old old
  given_none = record { long = refl; each = λ j k a b. absurd (omega arith); beyond = λ x a. refl }

  pub given_all : (new : List ℕ) → GivenTo l need l.count old new → NeedsIn l need old new
  unfolding jobs_of
  given_all new G = record { long = G.long; each = G.each; beyond = G.beyond }

-- What the run gives each job is counted in its own slices.
pub given_is : (l : TaskList) (run : List ℕ) (i period from n : ℕ) (old new : List ℕ) → period ≡ (plan_of l).period i
    → Laid (λ k. sum (λ x. gets (at run (k * period + x)) i) period) from n old new → Laid (given_in (plan_of l) run i) from n old new
unfolding given_in release
given_is l run i period from n old new e L = record { long = L.long; each = λ k lk. L.each k lk ∙ rw e; elsewhere = L.elsewhere }

-- ---- what an accepted list has room for
module _ (l : TaskList) (cycle : ℕ) (run : List ℕ) (seen : SeenRun l cycle run) (i : ℕ) (li : i < l.count) where
  pub period_some : 1 ≤ (plan_of l).period i
  unfolding plan_of
  period_some = (seen.bounded.keeps.fits i li).period_from

  pub period_most : (plan_of l).period i ≤ 4096
  unfolding plan_of
  period_most = (seen.bounded.keeps.fits i li).period_to

  pub windows_in : cycle / (plan_of l).period i * (plan_of l).period i ≤ length run
  windows_in = omega (arith, seen.whole, div-mul-le_self cycle ((plan_of l).period i))

  pub jobs_are : cycle / (plan_of l).period i ≡ cycle_of l / (plan_of l).period i
  jobs_are = ap (λ (c : ℕ). c / (plan_of l).period i) seen.cycle_is

  pub room_for : (from room : ℕ) → from ≡ job_sum l.tasks (cycle_of l) i → jobs_of l ≤ room → from + cycle / (plan_of l).period i ≤ room
  unfolding jobs_of job_sum sum plan_of
  room_for from room e fits = omega (arith, jobs_are, sum_grows (λ x. cycle_of l / (task_at l.tasks x).period) (suc i) l.count li)
