-- Laws of lateness: none is found exactly if every job is on time, and what is told by one that is found.
use Rattle.std.specs.Prelude.{◌≡◌, ℕ, zero, suc, ◌+◌, ◌-◌, ◌<◌, ◌↔◌, ◌≢◌, refl}
use Rattle.std.proofs.Math.Path.{sym, ap}
use Rattle.std.proofs.Common.{◌∙◌, inl, add-suc, eq-eqb, ne_eqb}
use Rattle.std.proofs.Math.Logic.{⊎_elim}
use native.Mathlib.Omega.{arith}
use Rattle.std.proofs.Math.Nat.{suc_inj}
use Rattle.basis.specs.Choose.{choose_yes, choose_no, eq_or_ne}
use Rattle.plan.specs.Plan.{Plan, Sound, release, deadline, job, age, key_in, IsFirst, NoneWants, FirstTask, given, table, HadBy, OnTime, OnTimeUpTo}
use Rattle.plan.proofs.Rank.{first_law, first_is}
use Rattle.plan.proofs.Run.{release_age, job_at, age_at, had_after_lem}
use Rattle.verdict.specs.declared.Late.{Late}
use Rattle.verdict.specs.Lateness.{received, missing, missed_at, late_by, earlier, lateness}

-- ---- which is found
pub late_task : (f : ℕ → ℕ) (e : ℕ) → (late_by f e).task ≡ e
unfolding late_by
late_task f zero = refl
late_task f (suc i) = refl

pub late_short : (f : ℕ → ℕ) (e i : ℕ) → e ≡ suc i → (late_by f e).short ≡ f i
unfolding late_by
late_short f e i q = rw q

pub earlier_first : (a b : Late) → (a.task ≢ 0) → earlier a b ≡ a
unfolding earlier
earlier_first a b nz = choose_no _ _ _ (ne_eqb a.task 0 nz)

pub earlier_second : (a b : Late) → a.task ≡ 0 → earlier a b ≡ b
unfolding earlier
earlier_second a b z = choose_yes _ _ _ (eq-eqb a.task 0 z)

-- ---- a deadline at the end of a slice
module _ (P : Plan) (t : ℕ) where
  -- no task misses one exactly if no task lacks anything there
  missed_none : (missed_at P t ≡ 0) ↔ ((i : ℕ) → i < P.count → missing P t i ≡ 0)
  unfolding missed_at IsFirst
  missed_none = (
    λ z. ⊎_elim (λ (h : NoneWants _ _ _). h.none) (λ (h : FirstTask _ _ _ _). absurd (omega arith)) (first_law (key_in P t) (missing P t) P.count),
    λ all. sym (first_is (key_in P t) (missing P t) P.count 0 (inl (record { idle = refl; none = all }))),
  )

  -- The task that misses one is a task, and lacks something.
  pub missed_lacks : (i : ℕ) → missed_at P t ≡ suc i → (i < P.count) × (0 < missing P t i)
  unfolding missed_at IsFirst
  missed_lacks i e =
      ⊎_elim
      (λ (h : NoneWants _ _ _). absurd (omega arith))
      (λ (h : FirstTask _ _ _ _).
      let q : h.task ≡ i = suc_inj (sym h.is ∙ e) in
      (omega arith, omega (arith, ap (missing P t) q)))
      (first_law (key_in P t) (missing P t) P.count)

  not_closing : (i : ℕ) → (suc (age P i t) ≢ P.due i) → missing P t i ≡ 0
  unfolding missing
  not_closing i ne = choose_no _ _ _ (ne_eqb (suc (age P i t)) (P.due i) ne)

  closing : (i : ℕ) → suc (age P i t) ≡ P.due i → missing P t i ≡ P.runtime i (job P i t) - received P t i
  unfolding missing
  closing i e = choose_yes _ _ _ (eq-eqb (suc (age P i t)) (P.due i) e)

  -- So its deadline is there, and what it lacks is its run-time less what it has received.
  pub missing_is : (i : ℕ) → 0 < missing P t i → (suc (age P i t) ≡ P.due i) × (missing P t i + received P t i ≡ P.runtime i (job P i t))
  missing_is i p =
      ⊎_elim
      (λ (e : suc (age P i t) ≡ P.due i). (e, omega (arith, closing i e)))
      (λ (ne : suc (age P i t) ≡ P.due i → ⊥). absurd (omega (arith, not_closing i ne)))
      (eq_or_ne (suc (age P i t)) (P.due i))

module _ (P : Plan) (S : Sound P) (t : ℕ) where
  module _ (i : ℕ) (li : i < P.count) where
    received_given : suc (age P i t) ≡ P.due i → received P t i ≡ given P P.runtime i (release P i (job P i t)) (P.due i)
    unfolding received table
    received_given e = had_after_lem P S P.runtime i li t ∙ ap (given P P.runtime i (release P i (job P i t))) e

    -- the current job's deadline is there exactly if it is in the last slice before it
    pub closes_deadline : suc (age P i t) ≡ P.due i → deadline P i (job P i t) ≡ suc t
    unfolding deadline
    closes_deadline e = omega (arith, release_age P S i li t)

    deadline_closes : (k : ℕ) → deadline P i k ≡ suc t → (job P i t ≡ k) × (suc (age P i t) ≡ P.due i)
    unfolding deadline
    deadline_closes k d =
        let m : P.due i - 1 < P.period i = omega (arith, S.due_pos i li, S.due_within i li) in
        let at : release P i k + (P.due i - 1) ≡ t = omega (arith, S.due_pos i li) in
        (rw at at (job_at P S i li k (P.due i - 1) m), omega (arith, S.due_pos i li, rw at at (age_at P S i li k (P.due i - 1) m)))

  -- No task lacks anything there exactly if every job with its deadline there is on time.
  all_on_time : ((i : ℕ) → i < P.count → missing P t i ≡ 0) ↔ ((i k : ℕ) → i < P.count → deadline P i k ≡ suc t → OnTime P P.runtime i k)
  unfolding OnTime HadBy
  all_on_time = (
    λ all i k li d.
        let c = deadline_closes i li k d in
        rw (← c.0) (omega (arith, all i li, closing P t i c.1, received_given i li c.1)),
    λ on i li.
        ⊎_elim
        (λ (e : suc (age P i t) ≡ P.due i). omega (arith, on i (job P i t) li (closes_deadline i li e), closing P t i e, received_given i li e))
        (λ (ne : suc (age P i t) ≡ P.due i → ⊥). not_closing P t i ne)
        (eq_or_ne (suc (age P i t)) (P.due i)),
  )

  one_slice_more : OnTimeUpTo P P.runtime (suc t) ↔ (OnTimeUpTo P P.runtime t × (missed_at P t ≡ 0))
  unfolding OnTimeUpTo
  one_slice_more = (
    λ on. (λ i k li d. on i k li (omega arith), (missed_none P t).1 (all_on_time.1 (λ i k li d. on i k li (omega arith)))),
    λ h i k li d.
        ⊎_elim
        (λ (e : deadline P i k ≡ suc t). all_on_time.0 ((missed_none P t).0 h.1) i k li e)
        (λ (ne : deadline P i k ≡ suc t → ⊥). h.0 i k li (omega arith))
        (eq_or_ne (deadline P i k) (suc t)),
  )

-- ---- the earliest
-- Task i misses its deadline at the end of a slice, short of so many slices; no deadline before is missed, and none there by
-- a task that ranks before it.
pub record EarliestMissed (P : Plan) (n i short : ℕ) : Type 0 where
  pub slice : ℕ
  pub within : slice < n
  pub on_time_before : OnTimeUpTo P P.runtime slice
  pub missed : missed_at P slice ≡ suc i
  pub lacks : short ≡ missing P slice i
  pub lacking : 0 < short

module _ (P : Plan) (S : Sound P) where
  more : (t : ℕ) → (lateness P t).task ≡ 0 → (lateness P (suc t)).task ≡ missed_at P t
  unfolding lateness
  more t z = ap (λ (x : Late). x.task) (earlier_second (lateness P t) _ z) ∙ late_task (missing P t) (missed_at P t)

  none_due : OnTimeUpTo P P.runtime 0
  unfolding OnTimeUpTo deadline
  none_due i k li d = absurd (omega (arith, S.due_pos i li))

  -- Nothing is late exactly if every job with its deadline among the first n slices is on time.
  pub nothing_late : (n : ℕ) → ((lateness P n).task ≡ 0) ↔ OnTimeUpTo P P.runtime n
  unfolding lateness
  nothing_late zero = (λ z. none_due, λ on. refl)
  nothing_late (suc t) = (
    λ z.
        ⊎_elim
        (λ (h : (lateness P t).task ≡ 0). (one_slice_more P S t).1 ((nothing_late t).0 h, sym (more t h) ∙ z))
        (λ (h : (lateness P t).task ≡ 0 → ⊥). absurd (h (sym (ap (λ (x : Late). x.task) (earlier_first (lateness P t) _ h)) ∙ z)))
        (eq_or_ne (lateness P t).task 0),
    λ on. let h = (one_slice_more P S t).0 on in more t ((nothing_late t).1 h.0) ∙ h.1,
  )

  -- Otherwise it is the earliest missed deadline, and of several there the first-ranking task's.
  pub late_tells : (n i : ℕ) → (lateness P n).task ≡ suc i → EarliestMissed P n i (lateness P n).short
  unfolding lateness
  late_tells zero i e = absurd (omega arith)
  late_tells (suc t) i e =
      ⊎_elim
      (λ (h : (lateness P t).task ≡ 0).
      let m : missed_at P t ≡ suc i = sym (more t h) ∙ e in
      let s : (earlier (lateness P t) (late_by (missing P t) (missed_at P t))).short ≡ missing P t i = ap (λ (x : Late). x.short) (earlier_second (lateness P t) _ h) ∙ late_short (missing P t) (missed_at P t) i m in
      record {
        slice = t;
        within = omega arith;
        on_time_before = (nothing_late t).0 h;
        missed = m;
        lacks = s;
        lacking = omega (arith, missed_lacks P t i m);
      })
      (λ (h : (lateness P t).task ≡ 0 → ⊥).
      let same = earlier_first (lateness P t) (late_by (missing P t) (missed_at P t)) h in
      let k = late_tells t i (sym (ap (λ (x : Late). x.task) same) ∙ e) in
      record {
        slice = k.slice;
        within = omega arith;
        on_time_before = k.on_time_before;
        missed = k.missed;
        lacks = ap (λ (x : Late). x.short) same ∙ k.lacks;
        lacking = omega (arith, ap (λ (x : Late). x.short) same, k.lacking);
      })
      (eq_or_ne (lateness P t).task 0)

-- ---- once something is late, it stays so
module _ (P : Plan) where
  late_next : (n : ℕ) (x : Late) → (x.task ≢ 0) → lateness P n ≡ x → lateness P (suc n) ≡ x
  unfolding lateness
  late_next n x nz e = ap (λ (y : Late). earlier y (late_by (missing P n) (missed_at P n))) e ∙ earlier_first _ _ nz

  pub late_stays : (t n : ℕ) → ((lateness P t).task ≢ 0) → lateness P (t + n) ≡ lateness P t
  late_stays t zero nz = ap (lateness P) (omega arith)
  late_stays t (suc n) nz = ap (lateness P) (add-suc t n) ∙ late_next (t + n) (lateness P t) nz (late_stays t n nz)
