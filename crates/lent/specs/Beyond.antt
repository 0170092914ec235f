-- Places beyond the task count do not matter: two lists of one count whose tasks are the same give the same bounds, verdict, quick answer, table, filling runs and state of a start.
use Rattle.std.specs.Prelude.{◌≡◌, false, ◌&&◌, ◌||◌, pos, Result, Ok, Err}
use Rattle.std.proofs.Math.Path.{refl, sym, ap}
use Rattle.std.proofs.Common.{◌∙◌, arith}
use mathlib.Core.List.{List, [], ◌∷◌}
use Prim.Native.Nat.{ℕ, zero, suc, ◌+◌, ◌-◌, ◌*◌, ◌/◌, ◌%◌, ◌≤◌, ◌<◌, min}
use Rattle.std.proofs.Math.Dec.{leb, ltb, eqb}
use Rattle.std.proofs.Math.IntN.{sub_ℕ}
use Rattle.std.proofs.Math.ListN.{replicate}
use Rattle.basis.specs.Bytes.{overwrite, overwrite_same}
use Rattle.basis.specs.Choose.{choose}
use Rattle.basis.specs.Least.{least}
use Rattle.basis.specs.Slices.{ceil}
use Rattle.basis.specs.Sum.{sum_ext}
use Rattle.basis.specs.Answer.{Answer, refusal, clash, none, ◌or_else◌, first_found}
use Rattle.plan.specs.Plan.{Plan, Demand, job, age, key_in, wants, pick, gets, had, entry, table, takes, filling, given, ranks_before, asks, bound}
use Rattle.plan.proofs.Rank.{first_ext}
use Rattle.plan.proofs.Run.{had_first_lem, had_next}
use Rattle.plan.specs.Points.{in_level, is_multiple, is_point, points_from, points, passes_among, fails_at_points, first_without}
use Rattle.tasks.specs.declared.Task.{Task}
use Rattle.tasks.specs.declared.TaskList.{TaskList}
use Rattle.tasks.specs.declared.InBounds.{InBounds}
use Rattle.tasks.specs.declared.refusals.Refusal.{Refusal}
use Rattle.tasks.specs.declared.refusals.Refusal.TheVariants as refusal
use Rattle.tasks.specs.List.{task_at, plan_of}
use Rattle.tasks.specs.Euclid.{lcm_of}
use Rattle.tasks.specs.Bounds.{multiple, memory_sum, job_sum, cycle_of, jobs_of, of_count, of_numbers, of_task, of_memory, of_cycle, found, answer, bounds_of}
use Rattle.tasks.proofs.Kept.{kept_tells}
use Rattle.quick.specs.Quick.{tried, quick_from, quick_of}
use Rattle.verdict.specs.declared.Late.{Late}
use Rattle.verdict.specs.Lateness.{received, missing, missed_at, late_by, earlier, lateness}
use Rattle.verdict.specs.Deadlines.{missed_lacks}
use Rattle.verdict.specs.Tightest.{tightest_law, tightest_only}
use Rattle.verdict.specs.Margin.{first_end, margin, tighter, tightest}
use Rattle.verdict.specs.Verdict.{judged, verdict_from, verdict_of}
use Rattle.start.specs.Start.{start_state}
use Rattle.run.specs.declared.Mode.{Mode}

first_found_same : (f g : ℕ → Answer) (n : ℕ) → ((i : ℕ) → i < n → f i ≡ g i) → first_found f n ≡ first_found g n
unfolding first_found
first_found_same f g zero h = refl
first_found_same f g (suc n) h = λ j. first_found_same f g n (λ i l. h i (omega arith)) j or_else h n (omega arith) j

module _ (ts us : List Task) (n : ℕ) (same : (i : ℕ) → i < n → task_at ts i ≡ task_at us i) where
  abbrev l : TaskList
  l = record { tasks = ts; count = n }

  abbrev m : TaskList
  m = record { tasks = us; count = n }

  abbrev P : Plan
  P = plan_of l

  abbrev Q : Plan
  Q = plan_of m

  -- ---- the slice rule
  key_same : (t i : ℕ) → i < n → key_in P t i ≡ key_in Q t i
  unfolding key_in plan_of
  key_same t i li = λ j. (same i li j).deadline

  ranks_same : (i k : ℕ) → i < n → k < n → ranks_before (key_in P 0) i k ≡ ranks_before (key_in Q 0) i k
  unfolding ranks_before
  ranks_same i k li lk = λ j. ltb (key_same 0 i li j) (key_same 0 k lk j) || (eqb (key_same 0 i li j) (key_same 0 k lk j) && ltb i k)

  -- under demands that agree
  module _ (d c : Demand) (agree : (i x : ℕ) → i < n → d i x ≡ c i x) where
    wants_same : (t : ℕ) (h k : ℕ → ℕ) (i : ℕ) → i < n → h i ≡ k i → wants P d t h i ≡ wants Q c t k i
    unfolding wants age job plan_of
    wants_same t h k i li e = λ j. choose (ltb (t % (same i li j).period) (same i li j).deadline) ((agree i (t / (task_at ts i).period) li ∙ (λ x. c i (t / (same i li x).period))) j - e j) 0

    pick_same : (t : ℕ) (h k : ℕ → ℕ) → ((i : ℕ) → i < n → h i ≡ k i) → pick P d t h ≡ pick Q c t k
    unfolding pick plan_of
    pick_same t h k e = first_ext (key_in P t) (key_in Q t) (wants P d t h) (wants Q c t k) n (key_same t) (λ i li. wants_same t h k i li (e i li))

    had_same : (t i : ℕ) → i < n → had P d t i ≡ had Q c t i
    unfolding entry age plan_of
    had_same zero i li = had_first_lem P d i ∙ sym (had_first_lem Q c i)
    had_same (suc t) i li =
        had_next P d i li t
        ∙ (λ j. choose (eqb (suc t % (same i li j).period) 0) 0 (had_same t i li j + gets (pick_same t (had P d t) (had Q c t) (had_same t) j) i))
        ∙ sym (had_next Q c i li t)

    entry_same : (t : ℕ) → entry P d t ≡ entry Q c t
    unfolding entry
    entry_same t = pick_same t (had P d t) (had Q c t) (had_same t)

  runtime_same : (i k : ℕ) → i < n → P.runtime i k ≡ Q.runtime i k
  unfolding plan_of
  runtime_same i k li = λ j. (same i li j).runtime

  table_same : (t : ℕ) → table P t ≡ table Q t
  unfolding table
  table_same = entry_same P.runtime Q.runtime runtime_same

  pub filling_same : (need : Demand) (t : ℕ) → filling P need t ≡ filling Q need t
  unfolding filling takes
  filling_same need = entry_same (takes P need) (takes Q need) (λ i k li j. min (need i k) (runtime_same i k li j))

  -- ---- lateness
  missing_same : (t i : ℕ) → i < n → missing P t i ≡ missing Q t i
  unfolding missing received table age job plan_of
  missing_same t i li = λ j. choose (eqb (suc (t % (same i li j).period)) (same i li j).deadline) ((same i li j).runtime - (had_same P.runtime Q.runtime runtime_same t i li j + gets (table_same t j) i)) 0

  missed_same : (t : ℕ) → missed_at P t ≡ missed_at Q t
  unfolding missed_at plan_of
  missed_same t = first_ext (key_in P t) (key_in Q t) (missing P t) (missing Q t) n (key_same t) (missing_same t)

  late_same : (t e : ℕ) → ((i : ℕ) → e ≡ suc i → i < n) → late_by (missing P t) e ≡ late_by (missing Q t) e
  unfolding late_by
  late_same t zero h = refl
  late_same t (suc i) h = λ j. record { task = suc i; short = missing_same t i (h i refl) j }

  lateness_same : (t : ℕ) → lateness P t ≡ lateness Q t
  unfolding lateness plan_of
  lateness_same zero = refl
  lateness_same (suc t) = λ j. earlier (lateness_same t j) ((late_same t (missed_at P t) (λ i e. (missed_lacks P t i e).0) ∙ ap (late_by (missing Q t)) (missed_same t)) j)

  -- ---- margins
  given_same : (i s k : ℕ) → given P P.runtime i s k ≡ given Q Q.runtime i s k
  unfolding given table
  given_same i s k = sum_ext _ _ k (λ x _. ap (λ (e : ℕ). gets e i) (table_same (s + x)))

  margin_same : (i : ℕ) → i < n → margin P i ≡ margin Q i
  unfolding margin first_end plan_of
  margin_same i li = λ j. (same i li j).deadline - least (λ t. leb (same i li j).runtime (given_same i 0 t j)) (same i li j).deadline

  tighter_same : (i k : ℕ) → i < n → k < n → tighter P i k ≡ tighter Q i k
  unfolding tighter
  tighter_same i k li lk = λ j. ltb (margin_same i li j) (margin_same k lk j) || (eqb (margin_same i li j) (margin_same k lk j) && ranks_same i k li lk j)

  tightest_same : 0 < n → tightest P n ≡ tightest Q n
  unfolding plan_of
  tightest_same p =
      let best = tightest_law P n p (omega arith) in
      tightest_only Q _ _ (record { is_below = best.is_below; none_tighter = λ k h. sym (tighter_same k (tightest P n) h best.is_below) ∙ best.none_tighter k h }) (tightest_law Q n p (omega arith))

  -- ---- the points, and the test there
  asks_same : (t i : ℕ) → i < n → asks P t i ≡ asks Q t i
  unfolding asks plan_of
  asks_same t i li = λ j. (same i li j).runtime * ceil t (same i li j).period

  bound_same : (i t : ℕ) → i < n → bound P i t ≡ bound Q i t
  unfolding bound plan_of
  bound_same i t li = λ j. asks_same t i li j + sum_ext _ _ n (λ k lk x. choose (ranks_same k i lk li x) (asks_same t k lk x) 0) j

  multiples_same : (i t k : ℕ) → i < n → k ≤ n → is_multiple P i t k ≡ is_multiple Q i t k
  unfolding is_multiple in_level plan_of
  multiples_same i t zero li h = refl
  multiples_same i t (suc k) li h = λ j. multiples_same i t k li (omega arith) j || ((eqb k i || ranks_same k i h li j) && eqb (t % (same k h j).period) 0)

  points_from_same : (i t k : ℕ) → i < n → points_from P i t k ≡ points_from Q i t k
  unfolding points_from is_point plan_of
  points_from_same i t zero li = refl
  points_from_same i t (suc k) li = λ j.
      choose (eqb t (same i li j).deadline || multiples_same i t n li (omega arith) j) (t ∷ points_from_same i (suc t) k li j) (points_from_same i (suc t) k li j)

  points_same : (i : ℕ) → i < n → points P i ≡ points Q i
  unfolding points plan_of
  points_same i li = points_from_same i 1 (task_at ts i).deadline li ∙ (λ j. points_from Q i 1 (same i li j).deadline)

  passes_same : (i : ℕ) → i < n → (at : List ℕ) → passes_among P i at ≡ passes_among Q i at
  unfolding passes_among
  passes_same i li [] = refl
  passes_same i li (t ∷ at) = λ j. leb (bound_same i t li j) t || passes_same i li at j

  fails_same : (i : ℕ) → i < n → fails_at_points P i ≡ fails_at_points Q i
  unfolding fails_at_points
  fails_same i li = λ j. choose ((passes_same i li (points P i) ∙ ap (passes_among Q i) (points_same i li)) j) 0 1

  without_same : first_without P ≡ first_without Q
  unfolding first_without plan_of
  without_same = first_ext (key_in P 0) (key_in Q 0) (fails_at_points P) (fails_at_points Q) n (key_same 0) fails_same

  -- ---- bounds
  memory_same : (k : ℕ) → k ≤ n → memory_sum ts k ≡ memory_sum us k
  unfolding memory_sum
  memory_same k h = sum_ext _ _ k (λ i li. ap (λ (t : Task). t.memory) (same i (omega arith)))

  multiple_same : (k : ℕ) → k ≤ n → multiple ts k ≡ multiple us k
  unfolding multiple
  multiple_same zero h = refl
  multiple_same (suc k) h = λ j. lcm_of (multiple_same k (omega arith) j) (same k h j).period

  pub cycle_same : cycle_of l ≡ cycle_of m
  unfolding cycle_of
  cycle_same = multiple_same n (omega arith)

  -- the jobs of the first k tasks
  pub jobs_same : (k : ℕ) → k ≤ n → job_sum ts (cycle_of l) k ≡ job_sum us (cycle_of m) k
  unfolding job_sum
  jobs_same k h = sum_ext _ _ k (λ i li j. cycle_same j / (same i (omega arith) j).period)

  found_same : (supply : ℕ) → found l supply ≡ found m supply
  unfolding found of_task of_memory of_cycle
  found_same supply = λ j.
      of_count n
      or_else first_found_same (of_task ts) (of_task us) n (λ i li k. of_numbers (same i li k).period (same i li k).runtime (same i li k).deadline (suc i)) j
      or_else first_found_same (of_memory ts supply) (of_memory us supply) n (λ i li k. choose (ltb supply (memory_same (suc i) li k)) (refusal 5 (suc i)) none) j
      or_else first_found_same (of_cycle ts) (of_cycle us) n (λ i li k. choose (ltb 4096 (multiple_same (suc i) li k)) (clash (suc i) (multiple_same i (omega arith) k) (same i li k).period) none) j

  bounds_same : (supply : ℕ) → bounds_of l supply ≡ bounds_of m supply
  unfolding bounds_of jobs_of
  bounds_same supply = λ j. answer (found_same supply j) (cycle_same j) (jobs_same n (omega arith) j)

  -- ---- the answers
  judged_same : 0 < n → (cycle jobs : ℕ) (late : Late) → judged P cycle jobs late ≡ judged Q cycle jobs late
  unfolding judged plan_of
  judged_same p cycle jobs late =
      let best : tightest P n ≡ tightest Q n = tightest_same p in
      let least-margin : margin P (tightest P n) ≡ margin Q (tightest Q n) = margin_same (tightest P n) (tightest_law P n p (omega arith)).is_below ∙ ap (margin Q) best in
      λ j. choose (eqb late.task 0) (Ok (record { cycle = cycle; jobs = jobs; task = suc (best j); margin = pos (least-margin j) })) (Err (refusal.Late late.task (sub_ℕ 0 late.short)))

  from_same : (supply : ℕ) (b : Result InBounds Refusal) → bounds_of l supply ≡ b → verdict_from l b ≡ verdict_from m b
  unfolding verdict_from
  from_same supply (Err r) e = refl
  from_same supply (Ok k) e =
      judged_same (kept_tells l supply k e).keeps.some k.cycle k.jobs (lateness P k.cycle) ∙ ap (judged Q k.cycle k.jobs) (lateness_same k.cycle)

  pub verdict_same : (supply : ℕ) → verdict_of l supply ≡ verdict_of m supply
  unfolding verdict_of
  verdict_same supply = from_same supply (bounds_of l supply) refl ∙ ap (verdict_from m) (bounds_same supply)

  quick_from_same : (b : Result InBounds Refusal) → quick_from l b ≡ quick_from m b
  unfolding quick_from
  quick_from_same (Err r) = refl
  quick_from_same (Ok k) = ap tried without_same

  pub quick_same : (supply : ℕ) → quick_of l supply ≡ quick_of m supply
  unfolding quick_of
  quick_same supply = quick_from_same (bounds_of l supply) ∙ ap (quick_from m) (bounds_same supply)

  pub entries_same : (cycle : ℕ) (old : List ℕ) → overwrite (table P) cycle old ≡ overwrite (table Q) cycle old
  entries_same cycle old = overwrite_same (table P) (table Q) old cycle (λ t _. table_same t)

  pub state_same : (cycle : ℕ) (mode : Mode) (clock : ℕ) → start_state l cycle mode clock ≡ start_state m cycle mode clock
  unfolding start_state
  state_same cycle mode clock =
      let periods = overwrite_same (λ i. (task_at ts i).period) (λ i. (task_at us i).period) (replicate 16 0) n (λ i li j. (same i li j).period) in
      let deadlines = overwrite_same (λ i. (task_at ts i).deadline) (λ i. (task_at us i).deadline) (replicate 16 0) n (λ i li j. (same i li j).deadline) in
      let runtimes = overwrite_same (λ i. (task_at ts i).runtime) (λ i. (task_at us i).runtime) (replicate 16 0) n (λ i li j. (same i li j).runtime) in
      λ j. record { periods = periods j; deadlines = deadlines j; runtimes = runtimes j; used = replicate 16 0; ended = replicate 16 false; count = n; cycle = cycle; position = 0; clock = clock; mode = mode }
