-- The test at its points alone: which slices these are, in which order they are tried, and that no other slice would tell more,
-- since between two points nothing changes in what the tasks ask for.
use Rattle.std.specs.Prelude.{◌≡◌, refl, Bool, false, ◌&&◌, ◌||◌, ◌⊎◌, ◌↔◌}
use Rattle.std.proofs.Math.Path.{sym, ap, subst}
use Rattle.std.proofs.Common.{◌∙◌}
use Rattle.std.proofs.Math.Bool.{true, true≢false}
use Rattle.std.proofs.Math.Logic.{inl, inr, ⊎_elim}
use Prim.Native.Nat.{ℕ, zero, suc, ◌+◌, ◌*◌, ◌%◌, ◌≤◌, ◌<◌}
use native.Mathlib.Omega.{arith}
use Rattle.std.proofs.Math.Nat.{add-suc, div-add-mod', mod-lt}
use Rattle.std.proofs.Math.Dec.{leb, eqb}
use borrow.Author.Tests.{le-leb, leb-true, eq-eqb, eqb-true}
use Rattle.basis.specs.Choose.{choose, choose_yes, choose_no, bool_cases, both_true, either_false, eq_or_ne, below_suc}
use Rattle.basis.specs.Slices.{ceil}
use Rattle.basis.proofs.Slices.{ceil_suc, ceil_between, mod_next}
use Rattle.basis.specs.Sum.{sum_ext}
use Rattle.plan.specs.Plan.{Plan, Sound, key_in, ranks_before, asks, bound, Passes, IsFirst, NoneWants, FirstTask}
use Rattle.plan.proofs.Rank.{first_law}
use Rattle.plan.specs.ExactTest.{AllPass, AllBeforePass, FirstFailing}
use Rattle.plan.specs.Points.{Among, Multiple, Point, Rising, fails_at_points, first_without, in_level, is_multiple, is_point, passes_among, points, points_from}

either_true : (a b : Bool) → ((a || b) ≡ true) ↔ ((a ≡ true) ⊎ (b ≡ true))
either_true true b = (λ _. inl refl, λ _. refl)
either_true false b = (λ e. inr e, λ h. ⊎_elim (λ z. absurd (true≢false (sym z))) (λ e. e) h)

module _ (P : Plan) (i : ℕ) where
  pub level_own : in_level P i i ≡ true
  unfolding in_level
  level_own = (either_true (eqb i i) (ranks_before (key_in P 0) i i)).1 (inl (eq-eqb i i refl))

  pub level_before : (j : ℕ) → ranks_before (key_in P 0) j i ≡ true → in_level P i j ≡ true
  unfolding in_level
  level_before j b = (either_true (eqb j i) (ranks_before (key_in P 0) j i)).1 (inr b)

  pub level_tells : (j : ℕ) → in_level P i j ≡ true → (j ≡ i) ⊎ (ranks_before (key_in P 0) j i ≡ true)
  unfolding in_level
  level_tells j e = ⊎_elim (λ (h : eqb j i ≡ true). inl (eqb-true j i h)) (λ h. inr h) ((either_true (eqb j i) (ranks_before (key_in P 0) j i)).0 e)

  pub multiple_told : (t n : ℕ) → n ≤ P.count → is_multiple P i t n ≡ true → Multiple P i t
  unfolding is_multiple
  multiple_told t zero l e = absurd (true≢false (sym e))
  multiple_told t (suc n) l e =
      ⊎_elim
      (λ (h : is_multiple P i t n ≡ true). multiple_told t n (omega arith) h)
      (λ (h : (in_level P i n && eqb (t % P.period n) 0) ≡ true).
      let b = (both_true (in_level P i n) (eqb (t % P.period n) 0)).0 h in
      record { task = n; below = omega arith; level = b.0; divides = eqb-true (t % P.period n) 0 b.1 })
      ((either_true (is_multiple P i t n) (in_level P i n && eqb (t % P.period n) 0)).0 e)

  pub multiple_found : (t n j : ℕ) → j < n → in_level P i j ≡ true → t % P.period j ≡ 0 → is_multiple P i t n ≡ true
  unfolding is_multiple
  multiple_found t zero j l v d = absurd (omega arith)
  multiple_found t (suc n) j l v d =
      (either_true (is_multiple P i t n) (in_level P i n && eqb (t % P.period n) 0)).1
      (⊎_elim
      (λ (b : j < n). inl (multiple_found t n j b v d))
      (λ (e : j ≡ n). inr (rw e at ((both_true (in_level P i j) (eqb (t % P.period j) 0)).1 (v, eq-eqb (t % P.period j) 0 d))))
      (below_suc j n l))

  -- A slice from 1 to the deadline is found to be a point exactly if it is one.
  pub point_tells : (t : ℕ) → 1 ≤ t → t ≤ P.due i → (is_point P i t ≡ true) ↔ Point P i t
  unfolding is_point
  point_tells t a b = (
    λ e. record {
      from_1 = a;
      to_deadline = b;
      is = ⊎_elim (λ (h : eqb t (P.due i) ≡ true). inl (eqb-true t (P.due i) h)) (λ h. inr (multiple_told t P.count (omega arith) h)) ((either_true (eqb t (P.due i)) (is_multiple P i t P.count)).0 e);
    },
    λ p.
        (either_true (eqb t (P.due i)) (is_multiple P i t P.count)).1
        (⊎_elim
        (λ (e : t ≡ P.due i). inl (eq-eqb t (P.due i) e))
        (λ (m : Multiple P i t). inr (multiple_found t P.count m.task m.below m.level m.divides))
        p.is),
  )

  -- Among the slices from t on, the points are found,
  points_from_lem : (m t : ℕ) → 1 ≤ t → t + m ≡ suc (P.due i) → (x : ℕ) → Among x (points_from P i t m) ↔ ((t ≤ x) × Point P i x)
  unfolding points_from choose Among
  points_from_lem zero t a e x = (λ h. absurd h, λ h. absurd (omega (arith, h.0, h.1.to_deadline)))
  points_from_lem (suc m) t a e x =
      let rest = points_from_lem m (suc t) (omega arith) (omega (arith, add-suc t m)) x in
      ⊎_elim
      (λ (y : is_point P i t ≡ true).
      rw y (
        λ h. ⊎_elim (λ (q : x ≡ t). (omega arith, rw q ((point_tells t a (omega arith)).0 y))) (λ h. (omega (arith, (rest.0 h).0), (rest.0 h).1)) h,
        λ h. ⊎_elim (λ (q : x ≡ t). inl q) (λ (q : x ≡ t → ⊥). inr (rest.1 (omega (arith, h.0), h.1))) (eq_or_ne x t),
      ))
      (λ (n : is_point P i t ≡ false).
      rw n (
        λ h. (omega (arith, (rest.0 h).0), (rest.0 h).1),
        λ h.
            ⊎_elim
            (λ (q : x ≡ t). absurd (true≢false (sym ((point_tells t a (omega arith)).1 (rw q at h.1)) ∙ n)))
            (λ (q : x ≡ t → ⊥). rest.1 (omega (arith, h.0), h.1))
            (eq_or_ne x t),
      ))
      (bool_cases (is_point P i t))

  rising_from : (m t s : ℕ) → s < t → Rising s (points_from P i t m)
  unfolding points_from choose Rising
  rising_from zero t s l = tt
  rising_from (suc m) t s l =
      ⊎_elim
      (λ (y : is_point P i t ≡ true). rw y (l, rising_from m (suc t) t (omega arith)))
      (λ (n : is_point P i t ≡ false). rw n (rising_from m (suc t) s (omega arith)))
      (bool_cases (is_point P i t))

  -- The list holds the points and nothing else, and they rise.
  pub points_are : (x : ℕ) → Among x (points P i) ↔ Point P i x
  unfolding points
  points_are x = let h = points_from_lem (P.due i) 1 (omega arith) (omega arith) x in (λ a. (h.0 a).1, λ p. h.1 (p.from_1, p))

  pub points_rise : Rising 0 (points P i)
  unfolding points
  points_rise = rising_from (P.due i) 1 0 (omega arith)

-- ---- between two points
module _ (P : Plan) (sound : Sound P) (i : ℕ) (li : i < P.count) where
  -- From slice s up to the first multiple of each of these tasks from there on, they ask for the same.
  pub between : (s t : ℕ) → s ≤ t → ((j : ℕ) → j < P.count → in_level P i j ≡ true → t ≤ ceil s (P.period j) * P.period j) → bound P i t ≡ bound P i s
  unfolding bound asks
  between s t l none =
      omega (
        arith,
        same i li (level_own P i),
        sum_ext (λ j. choose (ranks_before (key_in P 0) j i) (P.runtime j 0 * ceil t (P.period j)) 0) (λ j. choose (ranks_before (key_in P 0) j i) (P.runtime j 0 * ceil s (P.period j)) 0) P.count (λ j lj.
            ⊎_elim
            (λ (b : ranks_before (key_in P 0) j i ≡ true). ap (λ (x : ℕ). choose (ranks_before (key_in P 0) j i) x 0) (same j lj (level_before P i j b)))
            (λ (b : ranks_before (key_in P 0) j i ≡ false). choose_no _ _ _ b ∙ sym (choose_no _ _ _ b))
            (bool_cases (ranks_before (key_in P 0) j i))),
      )
    where
      same : (j : ℕ) → j < P.count → in_level P i j ≡ true → P.runtime j 0 * ceil t (P.period j) ≡ P.runtime j 0 * ceil s (P.period j)
      same j lj v = ap (λ (x : ℕ). P.runtime j 0 * x) (ceil_between (P.period j) (sound.period_pos j lj) s t l (none j lj v))

  -- One slice further on than one that is no point, what passed there passes.
  not_there : (s : ℕ) → is_point P i (suc s) ≡ false → bound P i (suc (suc s)) ≡ bound P i (suc s)
  unfolding is_point
  not_there s n = between (suc s) (suc (suc s)) (omega arith) (λ j lj v.
      ⊎_elim
      (λ (e : suc (s % P.period j) ≡ P.period j).
      absurd (true≢false (sym (multiple_found P i (suc s) P.count j lj v (mod_next (P.period j) (sound.period_pos j lj) s e)) ∙ ((either_false (eqb (suc s) (P.due i)) (is_multiple P i (suc s) P.count)).0 n).1)))
      (λ (ne : suc (s % P.period j) ≡ P.period j → ⊥). rw (ceil_suc (P.period j) (sound.period_pos j lj) s) (omega (arith, div-add-mod' s (P.period j), mod-lt s (sound.period_pos j lj))))
      (eq_or_ne (suc (s % P.period j)) (P.period j)))

  not_due : (t : ℕ) → is_point P i t ≡ false → t ≡ P.due i → ⊥
  unfolding is_point
  not_due t n e = true≢false (sym (eq-eqb t (P.due i) e) ∙ ((either_false (eqb t (P.due i)) (is_multiple P i t P.count)).0 n).0)

  passes_among_lem : (m s x : ℕ) → suc s + m ≡ suc (P.due i) → suc s ≤ x → x ≤ P.due i → bound P i x ≤ x → passes_among P i (points_from P i (suc s) m) ≡ true
  unfolding points_from passes_among choose
  passes_among_lem zero s x e a b p = absurd (omega arith)
  passes_among_lem (suc m) s x e a b p =
      ⊎_elim
      (λ (y : is_point P i (suc s) ≡ true).
      rw y
      ((either_true (leb (bound P i (suc s)) (suc s)) (passes_among P i (points_from P i (suc (suc s)) m))).1
      (⊎_elim
      (λ (q : x ≡ suc s). inl (le-leb (bound P i (suc s)) (suc s) (rw q at p)))
      (λ (q : x ≡ suc s → ⊥). inr (passes_among_lem m (suc s) x (omega (arith, add-suc s m)) (omega arith) b p))
      (eq_or_ne x (suc s)))))
      (λ (n : is_point P i (suc s) ≡ false).
      rw n
      (⊎_elim
      (λ (q : x ≡ suc s). passes_among_lem m (suc s) (suc (suc s)) (omega (arith, add-suc s m)) (omega arith) (omega (arith, not_due (suc s) n)) (omega (arith, not_there s n, ap (bound P i) q)))
      (λ (q : x ≡ suc s → ⊥). passes_among_lem m (suc s) x (omega (arith, add-suc s m)) (omega arith) b p)
      (eq_or_ne x (suc s))))
      (bool_cases (is_point P i (suc s)))

  among_passes : (m t : ℕ) → 1 ≤ t → t + m ≡ suc (P.due i) → passes_among P i (points_from P i t m) ≡ true → Passes P i
  unfolding points_from passes_among choose Passes
  among_passes zero t a e h = absurd (true≢false (sym h))
  among_passes (suc m) t a e h =
      ⊎_elim
      (λ (y : is_point P i t ≡ true).
      ⊎_elim
      (λ (p : leb (bound P i t) t ≡ true). (t, a, omega arith, leb-true (bound P i t) t p))
      (λ h. among_passes m (suc t) (omega arith) (omega (arith, add-suc t m)) h)
      ((either_true (leb (bound P i t) t) (passes_among P i (points_from P i (suc t) m))).0 (rw y at h)))
      (λ (n : is_point P i t ≡ false). among_passes m (suc t) (omega arith) (omega (arith, add-suc t m)) (rw n at h))
      (bool_cases (is_point P i t))

  -- At its points alone a task passes exactly if it passes at some slice from 1 to its deadline.
  pub points_enough : (passes_among P i (points P i) ≡ true) ↔ Passes P i
  unfolding points Passes
  points_enough = (
    among_passes (P.due i) 1 (omega arith) (omega arith),
    λ p. passes_among_lem (P.due i) 0 p.0 (omega arith) p.1 p.2 p.3,
  )

  pub fails_at_points_lem : (fails_at_points P i ≡ 0) ↔ Passes P i
  unfolding fails_at_points
  fails_at_points_lem = (
    λ z.
        ⊎_elim
        (λ (y : passes_among P i (points P i) ≡ true). points_enough.0 y)
        (λ (n : passes_among P i (points P i) ≡ false). absurd (omega (arith, choose_no {A = ℕ} _ 0 1 n)))
        (bool_cases (passes_among P i (points P i))),
    λ p. choose_yes {A = ℕ} _ 0 1 (points_enough.1 p),
  )

-- ---- the first-ranking task that fails
module _ (P : Plan) (sound : Sound P) where
  -- What is found at the points alone is that task; if nothing is found, every task passes.
  pub found_failing : (i : ℕ) → first_without P ≡ suc i → FirstFailing P i
  unfolding first_without AllBeforePass IsFirst
  found_failing i e =
      ⊎_elim
      (λ (none : NoneWants (fails_at_points P) P.count (first_without P)). absurd (omega (arith, none.idle)))
      (λ (f : FirstTask (key_in P 0) (fails_at_points P) P.count (first_without P)).
      let q : f.task ≡ i = omega (arith, f.is) in
      let F : FirstFailing P f.task = record {
        below = f.below;
        fails = λ p. omega (arith, f.wanting, (fails_at_points_lem P sound f.task f.below).1 p);
        before_pass = λ j lj b.
            ⊎_elim
            (λ (z : fails_at_points P j ≡ 0). (fails_at_points_lem P sound j lj).0 z)
            (λ (nz : fails_at_points P j ≡ 0 → ⊥). absurd (true≢false (sym b ∙ f.none_before j lj (omega arith))))
            (eq_or_ne (fails_at_points P j) 0);
      } in
      subst (FirstFailing P) q F)
      (first_law (key_in P 0) (fails_at_points P) P.count)

  pub none_found_pass : first_without P ≡ 0 → AllPass P
  unfolding first_without AllPass IsFirst
  none_found_pass e i li =
      ⊎_elim
      (λ (none : NoneWants (fails_at_points P) P.count (first_without P)). (fails_at_points_lem P sound i li).0 (none.none i li))
      (λ (f : FirstTask (key_in P 0) (fails_at_points P) P.count (first_without P)). absurd (omega (arith, f.is)))
      (first_law (key_in P 0) (fails_at_points P) P.count)
