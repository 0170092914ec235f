-- The test of Lehoczky, Sha and Ding is exact: a task that passes has every job on time, and where every first job is on
-- time every task passes. The first job of a task takes longest, and the earliest missed deadline is a first job's.
use Rattle.std.specs.Prelude.{◌≡◌, refl, Bool, true, false, ◌↔◌, ltb}
use Rattle.std.proofs.Common.{sym, ◌∙◌, true≢false, zero-add}
use Rattle.std.proofs.Math.Path.{ap}
use Rattle.std.proofs.Math.Logic.{⊎_elim}
use Prim.Native.Nat.{ℕ, zero, suc, ◌+◌, ◌-◌, ◌*◌, ◌≤◌, ◌<◌}
use native.Mathlib.Omega.{arith}
use Rattle.std.proofs.Math.Nat.{zero-mul, mul-one, div-eq_of_lt}
use borrow.Author.Tests.{lt-ltb, ltb-true}
use Rattle.basis.specs.Choose.{choose, bool_cases, le_or_lt, eq_or_ne}
use Rattle.basis.specs.Sum.{sum_ext, sum_same}
use Rattle.plan.specs.Plan.{Plan, Monotonic, Demand, release, deadline, job, age, key_in, ranks_before, first, gets, entry, given, HadBy, OnTime, OnTimeUpTo, asks, bound, Passes, IsFirst, NoneWants, FirstTask}
use Rattle.plan.specs.Rank.{rank}
use Rattle.plan.proofs.Rank.{rank_tells, not_before_key, not_before_place, first_law}
use Rattle.plan.specs.Work.{part, before, after}
use Rattle.plan.proofs.Work.{before_le, before_all, before_own, rank_only, gets_cases, got_first}
use Rattle.plan.specs.Run.{lacks}
use Rattle.plan.proofs.Run.{job_at, age_at, release_age, lacks_open, had_after_lem, given_in_none, given_more, given_at}
use Rattle.plan.proofs.Counting.{given_split, given_grows, had_by_later, entries_of_jobs, entries_add_up}
use Rattle.plan.proofs.Busy.{asked, leftover, LastRest, last_rest, by_due, asks_by}
use Rattle.plan.specs.ExactTest.{AllBeforePass, AllOnTime, AllPass, FirstFailing, FirstsOnTime, rank_of}

module _ (P : Plan) (monotonic : Monotonic P) where
  abbrev r : Demand
  r = P.runtime

  rank_before : (i j : ℕ) → i < P.count → j < P.count → ranks_before (key_in P 0) i j ≡ ltb (rank_of P i) (rank_of P j)
  unfolding rank_of key_in rank
  rank_before i j li lj = rank_tells (key_in P 0) P.count i j li lj ∙ rw (monotonic.by_deadline i (job P i 0) li, monotonic.by_deadline j (job P j 0) lj)

  -- The test's sum is what the tasks of the level ask for, those up to the task's own rank.
  bound_is_asked : (i t : ℕ) → i < P.count → bound P i t ≡ asked P monotonic (suc (rank_of P i)) t
  unfolding bound asked before rank_of part
  bound_is_asked i t li =
      omega (
        arith,
        sum_ext (λ j. choose (ranks_before (key_in P 0) j i) (asks P t j) 0) (part P.count P.due (rank_of P i) (asks P t)) P.count
            (λ j lj. ap (λ (b : Bool). choose b (asks P t j) 0) (rank_before j i lj li)),
        before_own P.count P.due (asks P t) i li,
      )

  -- ---- passing is enough
  -- where nothing of a task's level is left after slice s, its current job has had its run-time
  nothing_left : (i s : ℕ) → i < P.count → leftover P monotonic (suc (rank_of P i)) (suc s) ≡ 0 → lacks P r r s i - gets (entry P r s) i ≡ 0
  unfolding leftover after rank_of
  nothing_left i s li z = omega (arith, before_own P.count P.due (after (entry P r s) (lacks P r r s)) i li)

  had_its_runtime : (i k m : ℕ) → i < P.count → m < P.due i → leftover P monotonic (suc (rank_of P i)) (suc (release P i k + m)) ≡ 0
      → r i k ≤ given P r i (release P i k) (suc m)
  had_its_runtime i k m li l z =
      let m_in : m < P.period i = omega (arith, monotonic.sound.due_within i li) in
      omega (
        arith,
        nothing_left i (release P i k + m) li z,
        lacks_open P r r (release P i k + m) i (omega (arith, age_at P monotonic.sound i li k m m_in)),
        ap (r i) (job_at P monotonic.sound i li k m m_in),
        given_at P monotonic.sound r i li k m m_in,
      )

  -- A task whose level asks for no more than t in t slices has had its run-time in every job t slices after the release.
  pub passes_had_by : (i t : ℕ) → i < P.count → 1 ≤ t → t ≤ P.due i → bound P i t ≤ t → (k : ℕ) → HadBy P r i k (r i k) t
  unfolding HadBy
  passes_had_by i t li p l b k =
      omega (
        arith,
        had_its_runtime i k m li (omega (arith, L.past, L.within)) (ap (leftover P monotonic ρ) (sym s_is) ∙ L.nothing),
        given_grows P r i (release P i k) (suc m) t (omega (arith, L.past, L.within)),
      )
    where
      ρ : ℕ
      ρ = suc (rank_of P i)

      L : LastRest P monotonic ρ t (release P i k + t)
      L = last_rest P monotonic ρ t p (omega (arith, bound_is_asked i t li)) (release P i k + t)

      m : ℕ
      m = L.slice - suc (release P i k)

      s_is : L.slice ≡ suc (release P i k + m)
      s_is = omega (arith, L.within)

  -- A task that passes has every job on time.
  pub passes_on_time : (i : ℕ) → i < P.count → Passes P i → (k : ℕ) → OnTime P r i k
  unfolding Passes OnTime HadBy
  passes_on_time i li p k =
      omega (arith, passes_had_by i p.0 li p.1 p.2 p.3 k, given_grows P r i (release P i k) p.0 (P.due i) p.2)

  -- ---- the first job's end passes
  -- where task i is given x slices in the first m, one of these brings the x-th
  brings : (i x m : ℕ) → 0 < x → x ≤ given P r i 0 m → (s : ℕ) × (s < m) × (entry P r s ≡ suc i) × (x ≤ given P r i 0 (suc s))
  brings i x zero p h = absurd (omega (arith, given_in_none P r i 0 0 refl))
  brings i x (suc m) p h =
      ⊎_elim
      (λ (h' : x ≤ given P r i 0 m). let b = brings i x m p h' in (b.0, omega arith, b.2, b.3))
      (λ (l : given P r i 0 m < x). (
        m,
        omega arith,
        ⊎_elim
            (λ (g : (entry P r (0 + m) ≡ suc i) × (gets (entry P r (0 + m)) i ≡ 1)). ap (entry P r) (sym (zero-add m)) ∙ g.0)
            (λ (g : (entry P r (0 + m) ≡ suc i → ⊥) × (gets (entry P r (0 + m)) i ≡ 0)). absurd (omega (arith, given_more P r i 0 m)))
            (gets_cases (entry P r (0 + m)) i),
        h,
      ))
      (le_or_lt x (given P r i 0 m))

  -- a job that lacks nothing in slice s, of a task with every job on time, has had its run-time
  current_given : (j s : ℕ) → j < P.count → ((k : ℕ) → OnTime P r j k) → lacks P r r s j ≡ 0
      → r j (job P j s) ≤ given P r j (release P j (job P j s)) (suc (age P j s))
  unfolding OnTime HadBy
  current_given j s lj on z =
      ⊎_elim
      (λ (l : P.due j ≤ age P j s).
      omega (arith, on (job P j s), given_grows P r j (release P j (job P j s)) (P.due j) (suc (age P j s)) (omega arith)))
      (λ (l : age P j s < P.due j). omega (arith, lacks_open P r r s j l, had_after_lem P monotonic.sound r j lj s))
      (le_or_lt (P.due j) (age P j s))

  -- so such a task has been given all that it asked for
  given_all : (j s : ℕ) → j < P.count → ((k : ℕ) → OnTime P r j k) → lacks P r r s j ≡ 0 → asks P (suc s) j ≤ given P r j 0 (suc s)
  given_all j s lj on z =
      omega (
        arith,
        asks_by P monotonic j lj s,
        ap (given P r j 0) s_is,
        given_split P r j 0 (release P j q) (suc (age P j s)),
        ap (λ (x : ℕ). given P r j x (suc (age P j s))) (zero-add (release P j q)),
        entries_of_jobs P monotonic.sound r j lj q (λ k lk. on k),
        sum_ext (r j) (λ _. r j 0) q (λ k lk. monotonic.one_runtime j k lj),
        sum_same (r j 0) q,
        monotonic.one_runtime j q lj,
        current_given j s lj on z,
      )
    where
      q : ℕ
      q = job P j s

      s_is : suc s ≡ release P j q + suc (age P j s)
      s_is = omega (arith, release_age P monotonic.sound j lj s)

  -- In a slice that goes to task i none ranking before it lacks anything.
  lacks_nothing : (i j s : ℕ) → i < P.count → j < P.count → rank_of P j < rank_of P i → entry P r s ≡ suc i → lacks P r r s j ≡ 0
  unfolding rank_of
  lacks_nothing i j s li lj l e =
      ⊎_elim
      (λ (z : lacks P r r s j ≡ 0). z)
      (λ (nz : lacks P r r s j ≡ 0 → ⊥). absurd (omega (arith, got_first P.count P.due (lacks P r r s) (entry P r s) (by_due P monotonic 0 s) i j e lj (omega arith))))
      (eq_or_ne (lacks P r r s j) 0)

  -- If all tasks ranking before task i pass, the slice that ends its first job is a point that passes.
  -- while task i runs its first job it has asked for one run-time
  asks_once : (i s : ℕ) → i < P.count → s < P.due i → asks P (suc s) i ≡ r i 0
  unfolding job
  asks_once i s li l =
      asks_by P monotonic i li s ∙ ap (λ (k : ℕ). r i 0 * suc k) (div-eq_of_lt (omega (arith, monotonic.sound.due_within i li))) ∙ mul-one (r i 0)

  module _ (i s : ℕ) (li : i < P.count) (pass : AllBeforePass P i) (l : s < P.due i) (e : entry P r s ≡ suc i) (h : r i 0 ≤ given P r i 0 (suc s)) where
    given_in_level : (j : ℕ) → j < P.count → rank_of P j < suc (rank_of P i) → asks P (suc s) j ≤ given P r j 0 (suc s)
    unfolding AllBeforePass rank_of
    given_in_level j lj in-level =
        ⊎_elim
        (λ (q : rank_of P j ≡ rank_of P i).
        let same : j ≡ i = rank_only P.count P.due j i lj li q in
        rw same (omega (arith, asks_once i s li l)))
        (λ (ne : rank_of P j ≡ rank_of P i → ⊥).
        let first : rank_of P j < rank_of P i = omega arith in
        given_all j s lj (passes_on_time j lj (pass j lj (rank_before j i lj li ∙ lt-ltb (rank_of P j) (rank_of P i) first))) (lacks_nothing i j s li lj first e))
        (eq_or_ne (rank_of P j) (rank_of P i))

    end_passes : bound P i (suc s) ≤ suc s
    unfolding asked rank_of
    end_passes =
        omega (
          arith,
          bound_is_asked i (suc s) li,
          before_le P.count P.due (suc (rank_of P i)) (asks P (suc s)) (λ j. given P r j 0 (suc s)) given_in_level,
          before_all P.count P.due (suc (rank_of P i)) (λ j. given P r j 0 (suc s)),
          entries_add_up P r 0 (suc s),
        )

  -- If all tasks ranking before task i pass, and its first job has had its run-time by m slices, some t up to m passes.
  pub first_end_passes : (i m : ℕ) → i < P.count → AllBeforePass P i → m ≤ P.due i → HadBy P r i 0 (r i 0) m
      → (t : ℕ) × (1 ≤ t) × (t ≤ m) × (bound P i t ≤ t)
  unfolding HadBy release
  first_end_passes i m li pass l h =
      let b = brings i (r i 0) m (monotonic.runtime_pos i li) (omega (arith, ap (λ (s : ℕ). given P r i s m) (zero-mul (P.period i)))) in
      (suc b.0, omega arith, b.1, end_passes i b.0 li pass (omega arith) b.2 b.3)

  -- If all tasks ranking before a task pass and its first job is on time, it passes.
  pub first_on_time_passes : (i : ℕ) → i < P.count → AllBeforePass P i → OnTime P r i 0 → Passes P i
  unfolding OnTime Passes
  first_on_time_passes i li pass on = first_end_passes i (P.due i) li pass (omega arith) on

  -- So where the first jobs of all tasks below some rank are on time, these tasks pass: one rank after another.
  pass_below : (m : ℕ) → ((i : ℕ) → i < P.count → rank_of P i < m → OnTime P r i 0) → (i : ℕ) → i < P.count → rank_of P i < m → Passes P i
  unfolding AllBeforePass
  pass_below zero on i li l = absurd (omega arith)
  pass_below (suc m) on i li l =
      first_on_time_passes i li
      (λ j lj b. pass_below m (λ h lh lm. on h lh (omega arith)) j lj (omega (arith, ltb-true (rank_of P j) (rank_of P i) (sym (rank_before j i lj li) ∙ b))))
      (on i li l)

  -- Where all tasks ranking before task i pass, no job of it takes longer from its release than the first.
  pub first_takes_longest : (i m : ℕ) → i < P.count → AllBeforePass P i → m ≤ P.due i → HadBy P r i 0 (r i 0) m → (k : ℕ) → HadBy P r i k (r i k) m
  first_takes_longest i m li pass l h k =
      let t = first_end_passes i m li pass l h in
      had_by_later P r i k (r i k) t.0 m t.2 (passes_had_by i t.0 li t.1 (omega arith) t.3 k)

module _ (P : Plan) (monotonic : Monotonic P) where
  pub all_pass_on_time : AllPass P → AllOnTime P
  unfolding AllPass AllOnTime
  all_pass_on_time pass i k li = passes_on_time P monotonic i li (pass i li) k

  pub firsts_on_time_pass : FirstsOnTime P → AllPass P
  unfolding FirstsOnTime AllPass
  firsts_on_time_pass on i li = pass_below P monotonic (suc (rank_of P i)) (λ j lj _. on j lj) i li (omega arith)

  -- Every task passes exactly if every job is on time, and exactly if every first job is;
  pub test_exact : (AllPass P ↔ AllOnTime P) × (AllPass P ↔ FirstsOnTime P)
  unfolding AllOnTime FirstsOnTime
  test_exact = (
    (all_pass_on_time, λ on. firsts_on_time_pass (λ i li. on i 0 li)),
    (λ pass i li. all_pass_on_time pass i 0 li, firsts_on_time_pass),
  )

  -- and exactly if every job is on time up to a slice that no task's first deadline lies beyond, as a cycle's end is.
  pub test_exact_up_to : (t : ℕ) → ((i : ℕ) → i < P.count → P.due i ≤ t) → AllPass P ↔ OnTimeUpTo P P.runtime t
  unfolding OnTimeUpTo AllOnTime FirstsOnTime deadline release
  test_exact_up_to t within = (
    λ pass i k li _. all_pass_on_time pass i k li,
    λ on. firsts_on_time_pass (λ i li. on i 0 li (omega (arith, within i li, zero-mul (P.period i)))),
  )

-- Nobody else fails first.
pub fails_first_alone : (P : Plan) (i j : ℕ) → FirstFailing P i → FirstFailing P j → i ≡ j
unfolding AllBeforePass
fails_first_alone P i j first-i first-j =
    let a : ranks_before (key_in P 0) i j ≡ false = ⊎_elim (λ t. absurd (first-i.fails (first-j.before_pass i first-i.below t))) (λ f. f) (bool_cases (ranks_before (key_in P 0) i j)) in
    let b : ranks_before (key_in P 0) j i ≡ false = ⊎_elim (λ t. absurd (first-j.fails (first-i.before_pass j first-j.below t))) (λ f. f) (bool_cases (ranks_before (key_in P 0) j i)) in
    let same : key_in P 0 i ≡ key_in P 0 j = omega (arith, not_before_key (key_in P 0) i j a, not_before_key (key_in P 0) j i b) in
    omega (arith, not_before_place (key_in P 0) i j a same, not_before_place (key_in P 0) j i b (sym same))

module _ (P : Plan) (monotonic : Monotonic P) where
  first_on_time : (i : ℕ) → OnTime P P.runtime i 0 ↔ (P.runtime i 0 ≤ given P P.runtime i 0 (P.due i))
  unfolding OnTime HadBy release
  first_on_time i = (λ h. omega (arith, from_0), λ h. omega (arith, from_0))
    where
      from_0 : given P P.runtime i (0 * P.period i) (P.due i) ≡ given P P.runtime i 0 (P.due i)
      from_0 = ap (λ (s : ℕ). given P P.runtime i s (P.due i)) (zero-mul (P.period i))

  -- Its first job misses its deadline: what it had received by then is less than its run-time.
  pub first_failing_late : (i : ℕ) → FirstFailing P i → given P P.runtime i 0 (P.due i) < P.runtime i 0
  first_failing_late i first =
      ⊎_elim
      (λ (h : P.runtime i 0 ≤ given P P.runtime i 0 (P.due i)). absurd (first.fails (first_on_time_passes P monotonic i first.below first.before_pass ((first_on_time i).1 h))))
      (λ (l : given P P.runtime i 0 (P.due i) < P.runtime i 0). l)
      (le_or_lt (P.runtime i 0) (given P P.runtime i 0 (P.due i)))

  -- No job misses an earlier deadline, and none that misses one ranks before it.
  pub first_failing_earliest : (i j k : ℕ) → FirstFailing P i → j < P.count → (OnTime P P.runtime j k → ⊥)
      → (P.due i ≤ deadline P j k) × (ranks_before (key_in P 0) j i ≡ false)
  unfolding deadline key_in AllBeforePass
  first_failing_earliest i j k first lj late =
      ⊎_elim
      (λ (b : ranks_before (key_in P 0) j i ≡ true). absurd (late (passes_on_time P monotonic j lj (first.before_pass j lj b) k)))
      (λ (b : ranks_before (key_in P 0) j i ≡ false).
      (omega (arith, not_before_key (key_in P 0) j i b, monotonic.by_deadline i (job P i 0) first.below, monotonic.by_deadline j (job P j 0) lj), b))
      (bool_cases (ranks_before (key_in P 0) j i))

  -- what the first job of task i lacks at its deadline
  short : ℕ → ℕ
  short i = P.runtime i 0 - given P P.runtime i 0 (P.due i)

  -- A plan with a late job has such a task.
  pub late_has_first_failing : (j k : ℕ) → j < P.count → (OnTime P P.runtime j k → ⊥) → (i : ℕ) × FirstFailing P i
  unfolding IsFirst short FirstsOnTime AllOnTime AllBeforePass
  late_has_first_failing j k lj late =
      ⊎_elim
      (λ (none : NoneWants short P.count e).
      absurd (late (all_pass_on_time P monotonic (firsts_on_time_pass P monotonic (λ i li. (first_on_time i).1 (omega (arith, none.none i li)))) j k lj)))
      (λ (f : FirstTask (key_in P 0) short P.count e). (
        f.task,
        record {
          below = f.below;
          fails = λ p. omega (arith, f.wanting, (first_on_time f.task).0 (passes_on_time P monotonic f.task f.below p 0));
          before_pass = λ h lh b.
              pass_below P monotonic (rank_of P f.task) (before_on_time f) h lh (ltb-true (rank_of P h) (rank_of P f.task) (sym (rank_before P monotonic h f.task lh f.below) ∙ b));
        },
      ))
      (first_law (key_in P 0) short P.count)
    where
      e : ℕ
      e = first (key_in P 0) short P.count

      before_on_time : (f : FirstTask (key_in P 0) short P.count e) (g : ℕ) → g < P.count → rank_of P g < rank_of P f.task → OnTime P P.runtime g 0
      before_on_time f g lg l =
          ⊎_elim
          (λ (z : short g ≡ 0). (first_on_time g).1 (omega arith))
          (λ (nz : short g ≡ 0 → ⊥).
          absurd (true≢false (sym (rank_before P monotonic g f.task lg f.below ∙ lt-ltb (rank_of P g) (rank_of P f.task) l) ∙ f.none_before g lg (omega arith))))
          (eq_or_ne (short g) 0)
