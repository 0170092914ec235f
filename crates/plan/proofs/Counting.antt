-- Counting: entries and idle slices add up; a job that is on time is given exactly its demand in its window; so a task's
-- entries in a cycle are the sum of its jobs' demands.
use Rattle.std.specs.Prelude.{◌≡◌, refl, eqb}
use Rattle.std.proofs.Common.{sym, ◌∙◌, add_assoc, add-zero, zero-add, add-suc, mul-le-mul_right, div-mul-le_self, eq-eqb, ne_eqb}
use Rattle.std.proofs.Math.Path.{ap}
use Rattle.std.proofs.Math.Logic.{⊎_elim}
use Prim.Native.Nat.{ℕ, zero, suc, ◌+◌, ◌-◌, ◌*◌, ◌/◌, ◌≤◌, ◌<◌, ◌∣◌}
use native.Mathlib.Omega.{arith}
use Rattle.std.proofs.Math.Nat.{div-mul_cancel}
use Rattle.basis.specs.Choose.{choose_yes, choose_no, eq_or_ne}
use Rattle.basis.specs.Sum.{sum, sum_zero, sum_add, sum_ext, sum_more_at}
use Rattle.plan.specs.Plan.{Plan, Sound, Demand, release, deadline, OnTime, OnTimeUpTo, HadBy, key_in, gets, entry, table, given, idles, idle, NoneWants, FirstTask, IsFirst}
use Rattle.plan.proofs.Work.{gets_one, gets_none}
use Rattle.plan.specs.Run.{lacks}
use Rattle.plan.proofs.Run.{entry_law, given_in_none, given_more, never_more}

module _ (P : Plan) (d : Demand) (i : ℕ) where
  -- What is given in two stretches, one after the other.
  pub given_split : (s m l : ℕ) → given P d i s (m + l) ≡ given P d i s m + given P d i (s + m) l
  given_split s m zero = rw (add-zero m) (omega (arith, given_in_none P d i (s + m) 0 refl))
  given_split s m (suc l) =
      rw (add-suc m l, given_more P d i s (m + l), given_more P d i (s + m) l, add_assoc s m l) (omega (arith, given_split s m l))

  pub given_grows : (s m l : ℕ) → m ≤ l → given P d i s m ≤ given P d i s l
  given_grows s m l h =
      let e : l ≡ m + (l - m) = omega arith in
      omega (arith, ap (given P d i s) e, given_split s m (l - m))

  pub had_by_later : (k x m l : ℕ) → m ≤ l → HadBy P d i k x m → HadBy P d i k x l
  unfolding HadBy
  had_by_later k x m l h had = omega (arith, given_grows (release P i k) m l h)

-- ---- every slice goes to one task or is idle
idles_one : (e : ℕ) → e ≡ 0 → idles e ≡ 1
unfolding idles
idles_one e z = choose_yes (eqb e 0) 1 0 (eq-eqb e 0 z)

idles_none : (e : ℕ) → (e ≡ 0 → ⊥) → idles e ≡ 0
unfolding idles
idles_none e nz = choose_no (eqb e 0) 1 0 (ne_eqb e 0 nz)

one_entry : (e n : ℕ) → e ≤ n → sum (gets e) n + idles e ≡ 1
one_entry e n l =
    ⊎_elim
    (λ (z : e ≡ 0). omega (arith, sum_zero (gets e) n (λ i li. gets_none e i (λ q. omega arith)), idles_one e z))
    (λ (nz : e ≡ 0 → ⊥).
    omega (
      arith,
      idles_none e nz,
      sum_zero (λ _. 0) n (λ j lj. refl),
      sum_more_at (gets e) (λ _. 0) n (e - 1) 1 (omega arith) (omega (arith, gets_one e (e - 1) (omega arith)))
          (λ j lj ne. sym (gets_none e j (λ q. ne (omega arith)))),
    ))
    (eq_or_ne e 0)

module _ (P : Plan) (d : Demand) where
  pub entry_within : (t : ℕ) → entry P d t ≤ P.count
  unfolding IsFirst
  entry_within t =
      ⊎_elim
      (λ (h : NoneWants (lacks P d d t) P.count (entry P d t)). omega (arith, h.idle))
      (λ (h : FirstTask (key_in P t) (lacks P d d t) P.count (entry P d t)). omega (arith, h.is, h.below))
      (entry_law P d t)

  -- What all tasks get in some slices and the idle ones among these are as many as the slices.
  pub entries_add_up : (s m : ℕ) → sum (λ i. given P d i s m) P.count + idle P d s m ≡ m
  unfolding idle sum
  entries_add_up s zero = omega (arith, sum_zero (λ i. given P d i s 0) P.count (λ i li. given_in_none P d i s 0 refl))
  entries_add_up s (suc m) =
      omega (
        arith,
        entries_add_up s m,
        sum_ext (λ i. given P d i s (suc m)) (λ i. given P d i s m + gets (entry P d (s + m)) i) P.count (λ i li. given_more P d i s m),
        sum_add (λ i. given P d i s m) (gets (entry P d (s + m))) P.count,
        one_entry (entry P d (s + m)) P.count (entry_within (s + m)),
      )

-- ---- a task's entries
module _ (P : Plan) (S : Sound P) (d : Demand) (i : ℕ) (li : i < P.count) where
  -- A job that is on time is given exactly its demand by its deadline, and no more until the next release.
  pub on_time_exact : (k m : ℕ) → OnTime P d i k → P.due i ≤ m → m ≤ P.period i → given P d i (release P i k) m ≡ d i k
  unfolding OnTime HadBy
  on_time_exact k m on l h = omega (arith, never_more P S d i li k m h, given_grows P d i (release P i k) (P.due i) m l)

  -- If the first q jobs of a task are on time, its entries up to the next release are the sum of their demands.
  pub entries_of_jobs : (q : ℕ) → ((k : ℕ) → k < q → OnTime P d i k) → given P d i 0 (release P i q) ≡ sum (d i) q
  unfolding release sum
  entries_of_jobs zero on = given_in_none P d i 0 (0 * P.period i) (omega arith)
  entries_of_jobs (suc q) on =
      let e : suc q * P.period i ≡ q * P.period i + P.period i = omega arith in
      omega (
        arith,
        ap (given P d i 0) e,
        given_split P d i 0 (q * P.period i) (P.period i),
        ap (λ (s : ℕ). given P d i s (P.period i)) (zero-add (q * P.period i)),
        entries_of_jobs q (λ k lk. on k (omega arith)),
        on_time_exact q (P.period i) (on q (omega arith)) (S.due_within i li) (omega arith),
      )

-- Every job that a task has in a cycle has its deadline within it.
pub deadline_within : (P : Plan) → Sound P → (i k cycle : ℕ) → i < P.count → k < cycle / P.period i → deadline P i k ≤ cycle
unfolding deadline release
deadline_within P S i k cycle li lk = omega (arith, S.due_within i li, div-mul-le_self cycle (P.period i), mul-le-mul_right (P.period i) lk)

-- In the table of a plan that is on time, over a cycle that its period divides, a task fills as many entries as its jobs have
-- run-time in all.
pub entries_in_cycle : (P : Plan) → Sound P → (i cycle : ℕ) → i < P.count → P.period i ∣ cycle → OnTimeUpTo P P.runtime cycle
    → sum (λ t. gets (table P t) i) cycle ≡ sum (P.runtime i) (cycle / P.period i)
unfolding table given release OnTimeUpTo
entries_in_cycle P S i cycle li divides on =
    sum_ext (λ t. gets (entry P P.runtime t) i) (λ t. gets (entry P P.runtime (0 + t)) i) cycle (λ t _. ap (λ (x : ℕ). gets (entry P P.runtime x) i) (sym (zero-add t)))
    ∙ ap (given P P.runtime i 0) (sym (div-mul_cancel (P.period i) divides))
    ∙ entries_of_jobs P S P.runtime i li (cycle / P.period i) (λ k lk. on i k li (deadline_within P S i k cycle li lk))
