-- What a list that keeps all bounds is like, said without numbers of refusal; and that its cycle is the least common multiple of its periods.
use Rattle.std.specs.Prelude.{◌≡◌, refl, List, not, ◌↔◌, ltb, eqb, Ok, Err}
use Rattle.std.proofs.Common.{sym, ap, subst, ◌∙◌, inl, inr, ⊎_elim, pos_of_ne-zero, le-ltb, ltb-false, eq-eqb, ne_eqb}
use Prim.Native.Nat.{ℕ, zero, suc, ◌≤◌, ◌<◌, ◌∣◌}
use native.Mathlib.Omega.{arith}
use Rattle.std.proofs.Math.Nat.{one-dvd, dvd_trans, le_of_dvd}
use Rattle.std.proofs.lemmas.Bool.{eqb-false, not-false}
use Rattle.basis.specs.Choose.{choose, choose_yes, choose_no, choose_either, eq_or_ne, below_suc, within, within_tells, is_within}
use Rattle.basis.specs.Sum.{sum_grows}
use Rattle.basis.specs.Answer.{Answer, refusal, none, ◌or_else◌, first_found, else_none, none_else, found_none, none_found, passed_if, passed_by, first_all, clash, none_number}
use Rattle.tasks.specs.declared.Task.{Task}
use Rattle.tasks.specs.declared.TaskList.{TaskList}
use Rattle.plan.specs.Plan.{Sound, Monotonic}
use Rattle.tasks.specs.declared.InBounds.{InBounds}
use Rattle.tasks.specs.declared.refusals.Refusal.{Refusal}
use Rattle.tasks.specs.Refusal.{refusal_answer, bound_refusal, unless_broken}
use Rattle.tasks.specs.List.{task_at, plan_of}
use Rattle.tasks.specs.Euclid.{LeastCommonMultiple}
use Rattle.tasks.proofs.Euclid.{lcm_is_least, lcm_pos}
use Rattle.tasks.specs.Bounds.{bounds_answer, multiple, memory_sum, cycle_of, jobs_of, answer, bounds_of, of_count, of_numbers, of_task, of_memory, of_cycle, found}
use Rattle.tasks.specs.Kept.{BrokenAs, KeepsBounds, KeptAs, TaskFits, UpTo}

pub of_count_none : (n : ℕ) → ((of_count n).number ≡ 0) ↔ ((1 ≤ n) × (n ≤ 16))
unfolding of_count
of_count_none n = (
  λ z.
      let a = (passed_if (eqb n 0) 0 0 _).0 z in
      let b = (passed_if (ltb 16 n) 1 0 none).0 a.1 in
      (pos_of_ne-zero (eqb-false n 0 a.0), ltb-false 16 n b.0),
  λ h. (passed_if (eqb n 0) 0 0 _).1 (ne_eqb n 0 (λ e. omega arith), (passed_if (ltb 16 n) 1 0 none).1 (le-ltb 16 n h.1, none_number)),
)

of_task_none : (ts : List Task) (i : ℕ) → ((of_task ts i).number ≡ 0) ↔ TaskFits (task_at ts i)
unfolding of_task of_numbers
of_task_none ts i = (
  λ z.
      let a = (passed_if (not (within 1 4096 p)) 2 (suc i) _).0 z in
      let b = (passed_if (not (within 1 p r)) 3 (suc i) _).0 a.1 in
      let c = (passed_if (not (within r p d)) 19 (suc i) none).0 b.1 in
      let period = within_tells 1 4096 p (not-false _ a.0) in
      let runtime = within_tells 1 p r (not-false _ b.0) in
      let deadline = within_tells r p d (not-false _ c.0) in
      record { period_from = period.0; period_to = period.1; runtime_from = runtime.0; runtime_to = runtime.1; deadline_from = deadline.0; deadline_to = deadline.1 },
  λ f.
      (passed_if (not (within 1 4096 p)) 2 (suc i) _).1 (
        ap not (is_within 1 4096 p f.period_from f.period_to),
        (passed_if (not (within 1 p r)) 3 (suc i) _).1 (
          ap not (is_within 1 p r f.runtime_from f.runtime_to),
          (passed_if (not (within r p d)) 19 (suc i) none).1 (ap not (is_within r p d f.deadline_from f.deadline_to), none_number),
        ),
      ),
)
  where
    p : ℕ
    p = (task_at ts i).period

    r : ℕ
    r = (task_at ts i).runtime

    d : ℕ
    d = (task_at ts i).deadline

-- Refusals 5 and 6 come from one test each.
pub one_test_none : (a b : ℕ) (x : Answer) → (x.number ≡ 0 → ⊥) → ((choose (ltb a b) x none).number ≡ 0) ↔ (b ≤ a)
one_test_none a b x some = (λ z. ltb-false a b ((passed_by (ltb a b) x none some).0 z).0, λ h. (passed_by (ltb a b) x none some).1 (le-ltb a b h, none_number))

-- ---- the running multiple
module _ (ts : List Task) where
  -- Every period of the first n tasks is at least 1.
  abbrev pub PeriodsPos : ℕ → Type 0
  PeriodsPos n = (i : ℕ) → i < n → 1 ≤ (task_at ts i).period

  fewer : (n : ℕ) → PeriodsPos (suc n) → PeriodsPos n
  fewer n h i l = h i (omega arith)

  pub multiple_pos : (n : ℕ) → PeriodsPos n → 0 < multiple ts n
  unfolding multiple
  multiple_pos zero h = omega arith
  multiple_pos (suc n) h = lcm_pos (multiple ts n) (task_at ts n).period (multiple_pos n (fewer n h)) (h n (omega arith))

  least : (n : ℕ) → PeriodsPos (suc n) → LeastCommonMultiple (multiple ts n) (task_at ts n).period (multiple ts (suc n))
  unfolding multiple
  least n h = lcm_is_least (multiple ts n) (task_at ts n).period (multiple_pos n (fewer n h))

  -- Every period divides the multiple of the first n,
  pub period_divides : (n : ℕ) → PeriodsPos n → (i : ℕ) → i < n → (task_at ts i).period ∣ multiple ts n
  period_divides zero h i l = absurd (omega arith)
  period_divides (suc n) h i l =
      ⊎_elim
      (λ (b : i < n). dvd_trans (task_at ts i).period (period_divides n (fewer n h) i b) (least n h).first)
      (λ (e : i ≡ n). subst (λ (x : ℕ). (task_at ts x).period ∣ multiple ts (suc n)) (sym e) (least n h).second)
      (below_suc i n l)

  -- and it divides whatever every period divides.
  pub multiple_least : (n : ℕ) → PeriodsPos n → (x : ℕ) → ((i : ℕ) → i < n → (task_at ts i).period ∣ x) → multiple ts n ∣ x
  unfolding multiple
  multiple_least zero h x d = one-dvd x
  multiple_least (suc n) h x d = (least n h).least x (multiple_least n (fewer n h) x (λ i l. d i (omega arith))) (d n (omega arith))

  multiple_grows : (i n : ℕ) → PeriodsPos n → i ≤ n → multiple ts i ≤ multiple ts n
  multiple_grows i n h l =
      le_of_dvd (multiple_pos n h) (multiple_least i (λ j lj. h j (omega arith)) (multiple ts n) (λ j lj. period_divides n h j (omega arith)))

-- ---- nothing is found exactly in a list that keeps all bounds
-- A running sum or multiple that only grows is nowhere above a bound exactly if its last value is not.
running_none : (q : ℕ → ℕ) (a : ℕ) (says : ℕ → Answer) → ((i : ℕ) → (says i).number ≡ 0 → ⊥) → (n : ℕ) → 1 ≤ n → ((i : ℕ) → i ≤ n → q i ≤ q n)
    → ((first_found (λ i. choose (ltb a (q (suc i))) (says i) none) n).number ≡ 0) ↔ (q n ≤ a)
running_none q a says some zero p grows = absurd (omega arith)
running_none q a says some (suc n) p grows = (
  λ z. (one_test_none a (q (suc n)) (says n) (some n)).0 (found_none (λ i. choose (ltb a (q (suc i))) (says i) none) (suc n) z n (omega arith)),
  λ h. none_found (λ i. choose (ltb a (q (suc i))) (says i) none) (suc n) (λ i li. (one_test_none a (q (suc i)) (says i) (some i)).1 (omega (arith, grows (suc i) li))),
)

module _ (l : TaskList) (supply : ℕ) where
  pub tasks_none : ((first_found (of_task l.tasks) l.count).number ≡ 0) ↔ ((i : ℕ) → i < l.count → TaskFits (task_at l.tasks i))
  tasks_none = (
    λ z i li. (of_task_none l.tasks i).0 (found_none (of_task l.tasks) l.count z i li),
    λ f. none_found (of_task l.tasks) l.count (λ i li. (of_task_none l.tasks i).1 (f i li)),
  )

  memory_none : 1 ≤ l.count → ((first_found (of_memory l.tasks supply) l.count).number ≡ 0) ↔ (memory_sum l.tasks l.count ≤ supply)
  unfolding of_memory memory_sum refusal
  memory_none p = running_none (memory_sum l.tasks) supply _ (λ i z. omega arith) l.count p (λ i li. sum_grows (λ j. (task_at l.tasks j).memory) i l.count li)

  pub cycle_none : 1 ≤ l.count → PeriodsPos l.tasks l.count → ((first_found (of_cycle l.tasks) l.count).number ≡ 0) ↔ (cycle_of l ≤ 4096)
  unfolding of_cycle cycle_of clash
  cycle_none p h = running_none (multiple l.tasks) 4096 _ (λ i z. omega arith) l.count p (λ i li. multiple_grows l.tasks i l.count h li)

  pub nothing_found : ((found l supply).number ≡ 0) ↔ KeepsBounds l supply
  unfolding found
  nothing_found = (
    λ z.
        let a = else_none _ _ z in
        let b = else_none _ _ a.1 in
        let c = else_none _ _ b.1 in
        let k = (of_count_none l.count).0 a.0 in
        let f = tasks_none.0 b.0 in
        record {
          some = k.0;
          few = k.1;
          fits = f;
          memory_within = (memory_none k.0).0 c.0;
          cycle_within = (cycle_none k.0 (λ i li. (f i li).period_from)).0 c.1;
        },
    λ k.
        none_else _ _ ((of_count_none l.count).1 (k.some, k.few))
        (none_else _ _ (tasks_none.1 k.fits)
        (none_else _ _ ((memory_none k.some).1 k.memory_within) ((cycle_none k.some (λ i li. (k.fits i li).period_from)).1 k.cycle_within))),
  )

-- Of such a list the cycle is the least common multiple of the periods.
module _ (l : TaskList) (supply : ℕ) (K : KeepsBounds l supply) where
  pub cycle_pos : 0 < cycle_of l
  unfolding cycle_of
  cycle_pos = multiple_pos l.tasks l.count (λ i li. (K.fits i li).period_from)

  pub period_divides_cycle : (i : ℕ) → i < l.count → (task_at l.tasks i).period ∣ cycle_of l
  unfolding cycle_of
  period_divides_cycle = period_divides l.tasks l.count (λ i li. (K.fits i li).period_from)

  pub cycle_least : (x : ℕ) → ((i : ℕ) → i < l.count → (task_at l.tasks i).period ∣ x) → cycle_of l ∣ x
  unfolding cycle_of
  cycle_least = multiple_least l.tasks l.count (λ i li. (K.fits i li).period_from)

  -- The plan of such a list is sound and goes by deadlines, and no period is longer than the cycle.
  pub plan_sound : Sound (plan_of l)
  unfolding plan_of
  plan_sound = record {
    period_pos = λ i li. (K.fits i li).period_from;
    due_pos = λ i li. omega (arith, (K.fits i li).runtime_from, (K.fits i li).deadline_from);
    due_within = λ i li. (K.fits i li).deadline_to;
  }

  pub plan_monotonic : Monotonic (plan_of l)
  unfolding plan_of
  plan_monotonic = record {
    sound = plan_sound;
    one_runtime = λ i k li. refl;
    runtime_pos = λ i li. (K.fits i li).runtime_from;
    by_deadline = λ i k li. refl;
  }

  pub period_within_cycle : (i : ℕ) → i < l.count → (task_at l.tasks i).period ≤ cycle_of l
  period_within_cycle i li = le_of_dvd cycle_pos (period_divides_cycle i li)

-- ---- the answer
-- What the list comes to where it keeps all bounds.
abbrev in_bounds : TaskList → InBounds
in_bounds l = record { cycle = cycle_of l; jobs = jobs_of l }

-- That is answered exactly for a list that keeps all bounds, with its cycle and job count.
pub bounds_kept : (l : TaskList) (supply : ℕ) → KeepsBounds l supply → bounds_of l supply ≡ Ok (in_bounds l)
unfolding bounds_of answer unless_broken
bounds_kept l supply K = choose_yes (eqb (found l supply).number 0) _ _ (eq-eqb (found l supply).number 0 ((nothing_found l supply).1 K))

pub bounds_broken : (l : TaskList) (supply : ℕ) → ((found l supply).number ≡ 0 → ⊥) → bounds_of l supply ≡ Err (bound_refusal (found l supply))
unfolding bounds_of answer unless_broken
bounds_broken l supply nz = choose_no (eqb (found l supply).number 0) _ _ (ne_eqb (found l supply).number 0 nz)

pub kept_tells : (l : TaskList) (supply : ℕ) (k : InBounds) → bounds_of l supply ≡ Ok k → KeptAs l supply k.cycle k.jobs
kept_tells l supply k e =
    ⊎_elim
    (λ (z : (found l supply).number ≡ 0).
    let K = (nothing_found l supply).0 z in
    let both : Ok k ≡ Ok (in_bounds l) = sym e ∙ bounds_kept l supply K in
    let same : k ≡ in_bounds l = cc in
    record { keeps = K; cycle_is = ap (λ (x : InBounds). x.cycle) same; jobs_is = ap (λ (x : InBounds). x.jobs) same })
    (λ (nz : (found l supply).number ≡ 0 → ⊥).
    let never : Ok k ≡ Err (bound_refusal (found l supply)) = sym e ∙ bounds_broken l supply nz in
    let z : ◌≡◌ {A = ℕ} 0 1 = cc in
    absurd (omega arith))
    (eq_or_ne (found l supply).number 0)

plain_to : (most n t : ℕ) → n ≤ most → UpTo most (refusal n t)
unfolding refusal
plain_to most n t l = record { to_most = inl l; margin_0 = refl; cycle_0 = refl; jobs_0 = refl; no_clash = λ _. (refl, refl) }

twenty_to : (most t : ℕ) → UpTo most (refusal 20 t)
unfolding refusal
twenty_to most t = record { to_most = inr refl; margin_0 = refl; cycle_0 = refl; jobs_0 = refl; no_clash = λ _. (refl, refl) }

none_to : (most : ℕ) → UpTo most none
unfolding none
none_to most = plain_to most 0 0 (omega arith)

clash_to : (t r p : ℕ) → UpTo 6 (clash t r p)
unfolding clash
clash_to t r p = record { to_most = inl (omega arith); margin_0 = refl; cycle_0 = refl; jobs_0 = refl; no_clash = λ not_so. absurd (not_so refl) }

up_to_6 : (most : ℕ) (f : Answer) → UpTo most f → most ≤ 6 → UpTo 6 f
up_to_6 most f h l = record { to_most = ⊎_elim (λ (a : f.number ≤ most). inl (omega arith)) (λ (b : f.number ≡ 20). inr b) h.to_most; margin_0 = h.margin_0; cycle_0 = h.cycle_0; jobs_0 = h.jobs_0; no_clash = h.no_clash }

pub count_most : (n : ℕ) → UpTo 2 (of_count n)
unfolding of_count
count_most n = choose_either (UpTo 2) _ _ _ (plain_to 2 1 0 (omega arith)) (choose_either (UpTo 2) _ _ _ (plain_to 2 2 0 (omega arith)) (none_to 2))

module _ (ts : List Task) (n : ℕ) where
  pub tasks_most : UpTo 4 (first_found (of_task ts) n)
  unfolding of_task of_numbers
  tasks_most =
      first_all (UpTo 4) (none_to 4) _
      (λ i.
      choose_either (UpTo 4) _ _ _ (plain_to 4 3 (suc i) (omega arith))
      (choose_either (UpTo 4) _ _ _ (plain_to 4 4 (suc i) (omega arith)) (choose_either (UpTo 4) _ _ _ (twenty_to 4 (suc i)) (none_to 4))))
      n

  pub memory_most : (supply : ℕ) → UpTo 5 (first_found (of_memory ts supply) n)
  unfolding of_memory
  memory_most supply = first_all (UpTo 5) (none_to 5) _ (λ i. choose_either (UpTo 5) _ _ _ (plain_to 5 5 (suc i) (omega arith)) (none_to 5)) n

  cycle_most : UpTo 6 (first_found (of_cycle ts) n)
  unfolding of_cycle
  cycle_most = first_all (UpTo 6) (none_to 6) _ (λ i. choose_either (UpTo 6) _ _ _ (clash_to _ _ _) (none_to 6)) n

pub found_most : (l : TaskList) (supply : ℕ) → UpTo 6 (found l supply)
unfolding found ◌or_else◌
found_most l supply =
    choose_either (UpTo 6) _ _ _
    (choose_either (UpTo 6) _ _ _
    (choose_either (UpTo 6) _ _ _ (cycle_most l.tasks l.count) (up_to_6 5 _ (memory_most l.tasks l.count supply) (omega arith)))
    (up_to_6 4 _ (tasks_most l.tasks l.count) (omega arith)))
    (up_to_6 2 _ (count_most l.count) (omega arith))

-- ---- the refusal of a bound says what is found
abbrev pub Said : Answer → Type 0
Said f = (f.number ≡ 0 → ⊥) → refusal_answer (bound_refusal f) ≡ f

none_said : Said none
unfolding none refusal
none_said some = absurd (some refl)

count_said : (n : ℕ) → Said (of_count n)
unfolding of_count refusal_answer bound_refusal refusal choose
count_said n = choose_either Said (eqb n 0) (refusal 1 0) _ (λ _. refl) (choose_either Said (ltb 16 n) (refusal 2 0) none (λ _. refl) none_said)

numbers_said : (p r d task : ℕ) → Said (of_numbers p r d task)
unfolding of_numbers refusal_answer bound_refusal refusal choose
numbers_said p r d task =
    choose_either Said (not (within 1 4096 p)) (refusal 3 task) _ (λ _. refl)
    (choose_either Said (not (within 1 p r)) (refusal 4 task) _ (λ _. refl)
    (choose_either Said (not (within r p d)) (refusal 20 task) none (λ _. refl) none_said))

memory_said : (ts : List Task) (supply i : ℕ) → Said (of_memory ts supply i)
unfolding of_memory refusal_answer bound_refusal refusal choose
memory_said ts supply i = choose_either Said _ (refusal 5 (suc i)) none (λ _. refl) none_said

cycle_said : (ts : List Task) (i : ℕ) → Said (of_cycle ts i)
unfolding of_cycle refusal_answer bound_refusal clash choose
cycle_said ts i = choose_either Said _ (clash (suc i) _ _) none (λ _. refl) none_said

pub found_said : (l : TaskList) (supply : ℕ) → Said (found l supply)
unfolding found ◌or_else◌ of_task
found_said l supply =
    choose_either Said _ _ _
    (choose_either Said _ _ _
    (choose_either Said _ _ _ (first_all Said none_said (of_cycle l.tasks) (cycle_said l.tasks) l.count) (first_all Said none_said (of_memory l.tasks supply) (memory_said l.tasks supply) l.count))
    (first_all Said none_said (of_task l.tasks) (λ i. numbers_said _ _ _ _) l.count))
    (count_said l.count)

-- A broken bound is answered by what is found.
pub bounds_found : (l : TaskList) (supply : ℕ) → ((found l supply).number ≡ 0 → ⊥) → bounds_answer (bounds_of l supply) ≡ found l supply
unfolding bounds_answer
bounds_found l supply nz = ap bounds_answer (bounds_broken l supply nz) ∙ found_said l supply nz

pub broken_tells : (l : TaskList) (supply : ℕ) (r : Refusal) → bounds_of l supply ≡ Err r → BrokenAs l supply r
broken_tells l supply r e =
    ⊎_elim
    (λ (z : (found l supply).number ≡ 0).
    let never : Err r ≡ Ok (in_bounds l) = sym e ∙ bounds_kept l supply ((nothing_found l supply).0 z) in
    let zero_one : ◌≡◌ {A = ℕ} 0 1 = cc in
    absurd (omega arith))
    (λ (nz : (found l supply).number ≡ 0 → ⊥).
    let both : Err r ≡ Err (bound_refusal (found l supply)) = sym e ∙ bounds_broken l supply nz in
    let same : r ≡ bound_refusal (found l supply) = cc in
    record { some = nz; says = ap refusal_answer same ∙ found_said l supply nz })
    (eq_or_ne (found l supply).number 0)

-- 7 is no bound's.
pub broken_not_7 : (l : TaskList) (supply : ℕ) (r : Refusal) → bounds_of l supply ≡ Err r → (refusal_answer r).number ≡ 7 → ⊥
broken_not_7 l supply r e seven =
    let is = ap (λ (a : Answer). a.number) (broken_tells l supply r e).says in
    ⊎_elim (λ (low : (found l supply).number ≤ 6). absurd (omega (arith, is))) (λ (high : (found l supply).number ≡ 20). absurd (omega (arith, is))) (found_most l supply).to_most
