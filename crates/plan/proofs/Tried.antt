-- How many points the quick question tries: counted slice by slice, rank by rank, and how many they can be.
use Rattle.std.specs.Prelude.{◌≡◌, Bool, ◌||◌, ◌⊎◌}
use Rattle.std.proofs.Math.Path.{refl, sym, ap}
use Rattle.std.proofs.Common.{subst, ◌∙◌, mod-lt}
use Rattle.std.proofs.Math.Bool.{true, false}
use mathlib.Core.List.{List, ◌∷◌}
use Rattle.std.proofs.Math.Logic.{⊎_elim}
use Prim.Native.Nat.{ℕ, zero, suc, ◌+◌, ◌/◌, ◌%◌, ◌≤◌, ◌<◌}
use native.Mathlib.Omega.{arith}
use Rattle.std.proofs.Math.Nat.{add-suc}
use Rattle.std.proofs.Math.Dec.{leb}
use borrow.Author.Tests.{le-leb, lt-leb, ne_eqb}
use Rattle.basis.specs.Choose.{choose, choose_yes, choose_no, choose_either, bool_cases, eq_or_ne, below_suc}
use Rattle.basis.specs.Bytes.{at}
use Rattle.basis.proofs.Slices.{div_same, div_next, mod_same}
use Rattle.basis.specs.Sum.{sum, sum_ext, sum_le, sum_more_at}
use Rattle.plan.specs.Plan.{Plan, Sound, key_in, ranks_before, bound, IsFirst, NoneWants, FirstTask}
use Rattle.plan.proofs.Rank.{first_law}
use Rattle.plan.specs.Order.{Ranked}
use Rattle.plan.proofs.Order.{sum_before, behind_not_before}
use Rattle.plan.specs.Points.{in_level, Multiple, is_multiple, is_point, points_from, points, tried_among, points_tried, is_tried, all_tried, fails_at_points, first_without}
use Rattle.plan.proofs.Points.{level_own, level_before, point_tells}
use Rattle.plan.specs.Tried.{counts, hits, multiples_up_to, points_most}

pub hit_more : (f : ℕ → Bool) (t : ℕ) → f t ≡ true → hits f (suc t) ≡ suc (hits f t)
unfolding hits sum
hit_more f t e = omega (arith, choose_yes {A = ℕ} (f t) 1 0 e)

pub hit_none : (f : ℕ → Bool) (t : ℕ) → f t ≡ false → hits f (suc t) ≡ hits f t
unfolding hits sum
hit_none f t e = omega (arith, choose_no {A = ℕ} (f t) 1 0 e)

none_yet : (f : ℕ → Bool) → hits f 0 ≡ 0
unfolding hits sum
none_yet f = refl

zero_counts : (P : Plan) (i : ℕ) → counts P i 0 ≡ true
unfolding counts
zero_counts P i = refl

module _ (P : Plan) (i : ℕ) where
  abbrev f : ℕ → Bool
  f = counts P i

  -- Before its deadline a slice is a point exactly if it is a multiple.
  point_is_multiple : (t : ℕ) → 1 ≤ t → t < P.due i → is_point P i t ≡ counts P i t
  unfolding is_point counts
  point_is_multiple t a b = ap (λ (c : Bool). c || is_multiple P i t P.count) (ne_eqb t (P.due i) (λ e. omega arith) ∙ sym (ne_eqb t 0 (λ e. omega arith)))

  module _ (s : ℕ) (to_due : s ≤ P.due i) (none_before : (x : ℕ) → 1 ≤ x → x < s → counts P i x ≡ true → x < bound P i x) (is-point : is_point P i s ≡ true)
      (last : (bound P i s ≤ s) ⊎ (s ≡ P.due i)) where
    -- The one that is looked at last is the first that passes, or the deadline.
    last_tried : (m : ℕ) → s + suc m ≡ suc (P.due i) → choose (leb (bound P i s) s) 0 (tried_among P i (points_from P i (suc s) m)) ≡ 0
    unfolding points_from tried_among
    last_tried m e =
        ⊎_elim
        (λ (p : bound P i s ≤ s). choose_yes {A = ℕ} _ 0 _ (le-leb (bound P i s) s p))
        (λ (d : s ≡ P.due i).
        let z : m ≡ 0 = omega (arith, add-suc s m) in
        ⊎_elim (λ (y : leb (bound P i s) s ≡ true). choose_yes {A = ℕ} _ 0 _ y) (λ (n : leb (bound P i s) s ≡ false). choose_no {A = ℕ} _ 0 _ n ∙ ap (λ (k : ℕ). tried_among P i (points_from P i (suc s) k)) z) (bool_cases (leb (bound P i s) s)))
        last

    tried_from : (m t : ℕ) → 1 ≤ t → t + m ≡ suc (P.due i) → t ≤ s → hits f t + tried_among P i (points_from P i t m) ≡ suc (hits f s)
    unfolding points_from tried_among choose
    tried_from zero t a e l = absurd (omega arith)
    tried_from (suc m) t a e l =
        ⊎_elim
        (λ (q : t ≡ s).
        rw q (rw is-point (omega (arith, last_tried m (omega (arith, ap (λ (x : ℕ). x + suc m) q))))))
        (λ (ne : t ≡ s → ⊥).
        let rest = tried_from m (suc t) (omega arith) (omega (arith, add-suc t m)) (omega arith) in
        let same = point_is_multiple t a (omega arith) in
        ⊎_elim
        (λ (y : f t ≡ true).
        let fails : leb (bound P i t) t ≡ false = lt-leb (bound P i t) t (none_before t a (omega arith) y) in
        rw (same ∙ y) (omega (arith, rest, hit_more f t y, choose_no {A = ℕ} _ 0 (tried_among P i (points_from P i (suc t) m)) fails)))
        (λ (n : f t ≡ false). rw (same ∙ n) (omega (arith, rest, hit_none f t n)))
        (bool_cases (f t)))
        (eq_or_ne t s)

    -- Up to a point, if none before it passes, and it does or is the deadline: so many are tried.
    pub tried_so_far : 1 ≤ s → points_tried P i ≡ hits f s
    unfolding points_tried points
    tried_so_far a = omega (arith, tried_from (P.due i) 1 (omega arith) (omega arith) a, hit_more f 0 (zero_counts P i), none_yet f)

-- Where no part is less and one is more, the sum is.
more_somewhere : (f g : ℕ → ℕ) (n j : ℕ) → j < n → f j < g j → ((i : ℕ) → i < n → f i ≤ g i) → sum f n < sum g n
unfolding sum
more_somewhere f g zero j l m h = absurd (omega arith)
more_somewhere f g (suc n) j l m h =
    ⊎_elim
    (λ (b : j < n). omega (arith, more_somewhere f g n j b m (λ i li. h i (omega arith)), h n (omega arith)))
    (λ (e : j ≡ n). omega (arith, sum_le f g n (λ i li. h i (omega arith)), rw e at m))
    (below_suc j n l)

module _ (P : Plan) (sound : Sound P) (i : ℕ) where
  abbrev part : ℕ → ℕ → ℕ
  part t j = choose (in_level P i j) (t / P.period j) 0

  part_grows : (t j : ℕ) → j < P.count → part t j ≤ part (suc t) j
  part_grows t j lj =
      ⊎_elim
      (λ (y : in_level P i j ≡ true). omega (arith, choose_yes {A = ℕ} _ (t / P.period j) 0 y, choose_yes {A = ℕ} _ (suc t / P.period j) 0 y, grows))
      (λ (n : in_level P i j ≡ false). omega (arith, choose_no {A = ℕ} _ (t / P.period j) 0 n, choose_no {A = ℕ} _ (suc t / P.period j) 0 n))
      (bool_cases (in_level P i j))
    where
      grows : t / P.period j ≤ suc t / P.period j
      grows =
          ⊎_elim
          (λ (e : suc (t % P.period j) ≡ P.period j). omega (arith, div_next (P.period j) (sound.period_pos j lj) t e))
          (λ (ne : suc (t % P.period j) ≡ P.period j → ⊥). omega (arith, div_same (P.period j) (sound.period_pos j lj) t (omega (arith, mod-lt t (sound.period_pos j lj)))))
          (eq_or_ne (suc (t % P.period j)) (P.period j))

  -- At a multiple there is one more.
  one_more : (t : ℕ) → Multiple P i (suc t) → multiples_up_to P i t < multiples_up_to P i (suc t)
  unfolding multiples_up_to
  one_more t M =
      more_somewhere (part t) (part (suc t)) P.count M.task M.below
      (omega (
        arith,
        choose_yes {A = ℕ} _ (t / P.period M.task) 0 M.level,
        choose_yes {A = ℕ} _ (suc t / P.period M.task) 0 M.level,
        div_next (P.period M.task) pos t divides,
      ))
      (part_grows t)
    where
      pos : 0 < P.period M.task
      pos = sound.period_pos M.task M.below

      divides : suc (t % P.period M.task) ≡ P.period M.task
      divides =
          ⊎_elim
          (λ (e : suc (t % P.period M.task) ≡ P.period M.task). e)
          (λ (ne : suc (t % P.period M.task) ≡ P.period M.task → ⊥). absurd (omega (arith, M.divides, mod_same (P.period M.task) pos t (omega (arith, mod-lt t pos)))))
          (eq_or_ne (suc (t % P.period M.task)) (P.period M.task))

  none_fewer : (t : ℕ) → multiples_up_to P i t ≤ multiples_up_to P i (suc t)
  unfolding multiples_up_to
  none_fewer t = sum_le (part t) (part (suc t)) P.count (part_grows t)

  -- Of what is left from slice suc s on: at most as many as slices, and as multiples up to the deadline, and the deadline.
  tried_most : (m s : ℕ) → s + m ≡ P.due i → tried_among P i (points_from P i (suc s) m) ≤ m
  unfolding points_from tried_among choose
  tried_most zero s e = omega arith
  tried_most (suc m) s e =
      let rest = tried_most m (suc s) (omega (arith, add-suc s m)) in
      choose_either (λ ts. tried_among P i ts ≤ suc m) (is_point P i (suc s)) (suc s ∷ points_from P i (suc (suc s)) m) (points_from P i (suc (suc s)) m)
      (choose_either (λ (x : ℕ). suc x ≤ suc m) (leb (bound P i (suc s)) (suc s)) 0 (tried_among P i (points_from P i (suc (suc s)) m)) (omega arith) (omega arith))
      (omega arith)

  tried_by_multiples : (m s : ℕ) → s + suc m ≡ P.due i → tried_among P i (points_from P i (suc s) (suc m)) + multiples_up_to P i s ≤ suc (multiples_up_to P i (P.due i))
  unfolding points_from tried_among
  tried_by_multiples zero s e = omega (arith, tried_most 1 s e, none_fewer s, ap (multiples_up_to P i) the_end)
    where
      the_end : suc s ≡ P.due i
      the_end = omega arith
  tried_by_multiples (suc m) s e =
      let rest = tried_by_multiples m (suc s) (omega (arith, add-suc s (suc m))) in
      let after : List ℕ = points_from P i (suc (suc s)) (suc m) in
      ⊎_elim
      (λ (y : is_point P i (suc s) ≡ true).
      let multiple : Multiple P i (suc s) = ⊎_elim (λ (d : suc s ≡ P.due i). absurd (omega arith)) (λ M. M) ((point_tells P i (suc s) (omega arith) (omega arith)).0 y).is in
      let most : tried_among P i (suc s ∷ after) ≤ suc (tried_among P i after) = choose_either (λ (x : ℕ). suc x ≤ suc (tried_among P i after)) (leb (bound P i (suc s)) (suc s)) 0 (tried_among P i after) (omega arith) (omega arith) in
      omega (arith, rest, most, one_more s multiple, ap (tried_among P i) (choose_yes (is_point P i (suc s)) (suc s ∷ after) after y)))
      (λ (n : is_point P i (suc s) ≡ false). omega (arith, rest, none_fewer s, ap (tried_among P i) (choose_no (is_point P i (suc s)) (suc s ∷ after) after n)))
      (bool_cases (is_point P i (suc s)))

  -- So many are tried of a task at most,
  pub tried_bound : i < P.count → points_tried P i ≤ points_most P i
  unfolding points_tried points points_most
  tried_bound li = omega (arith, tried_most (P.due i) 0 (omega arith), some (P.due i) refl (sound.due_pos i li))
    where
      some : (d : ℕ) → d ≡ P.due i → 1 ≤ d → tried_among P i (points_from P i 1 (P.due i)) ≤ suc (multiples_up_to P i (P.due i))
      some zero e l = absurd (omega arith)
      some (suc m) e l = rw (sym e) (omega (arith, rw (sym e) at (tried_by_multiples m 0 (omega (arith, e)))))

-- and of all.
pub all_tried_bound : (P : Plan) → Sound P → all_tried P ≤ sum (points_most P) P.count
unfolding all_tried
all_tried_bound P sound = sum_le _ (points_most P) P.count (λ i li. choose_either (λ (x : ℕ). x ≤ points_most P i) (is_tried P (first_without P) i) (points_tried P i) 0 (tried_bound P sound i li) (omega arith))

-- ---- rank by rank
-- Whoever is found to fail is a task.
pub failing_below : (P : Plan) (i : ℕ) → first_without P ≡ suc i → i < P.count
unfolding first_without IsFirst
failing_below P i e =
    ⊎_elim
    (λ (none : NoneWants (fails_at_points P) P.count (first_without P)). absurd (omega (arith, none.idle)))
    (λ (f : FirstTask (key_in P 0) (fails_at_points P) P.count (first_without P)). omega (arith, f.is, f.below))
    (first_law (key_in P 0) (fails_at_points P) P.count)

module _ (P : Plan) (order : List ℕ) (R : Ranked (key_in P 0) P.count order) where
  -- A sum over a level goes from place to place, up to its last task's.
  level_sum : (f : ℕ → ℕ) (k : ℕ) → k < P.count → sum (λ i. choose (in_level P (at order k) i) (f i) 0) P.count ≡ sum (λ j. f (at order j)) (suc k)
  unfolding sum in_level
  level_sum f k lk =
      let own = at order k in
      sym
      (sum_more_at (λ i. choose (in_level P own i) (f i) 0) (λ i. choose (ranks_before (key_in P 0) i own) (f i) 0) P.count own (f own) (R.below k lk)
      (omega (arith, choose_no {A = ℕ} _ (f own) 0 (behind_not_before (key_in P 0) P.count order R k k (omega arith) lk), choose_yes {A = ℕ} _ (f own) 0 (level_own P own)))
      (λ j lj ne. ap (λ (b : Bool). choose (b || ranks_before (key_in P 0) j own) (f j) 0) (sym (ne_eqb j own ne))))
      ∙ ap (λ (x : ℕ). x + f own) (sum_before (key_in P 0) P.count order R f k lk)

  pub tried_to_failing : (k : ℕ) → k < P.count → first_without P ≡ suc (at order k) → all_tried P ≡ sum (λ j. points_tried P (at order j)) (suc k)
  unfolding all_tried is_tried
  tried_to_failing k lk e = rw e (level_sum (points_tried P) k lk)

  -- Where none fails, all are tried: they are the level of the last.
  all_in_level : (m i : ℕ) → P.count ≡ suc m → i < P.count → in_level P (at order m) i ≡ true
  all_in_level m i e li =
      let p = R.places i li in
      ⊎_elim
      (λ (q : p.place ≡ m). subst (λ (x : ℕ). in_level P (at order m) x ≡ true) (sym (ap (at order) q) ∙ p.is) (level_own P (at order m)))
      (λ (ne : p.place ≡ m → ⊥). level_before P (at order m) i (subst (λ (x : ℕ). ranks_before (key_in P 0) x (at order m) ≡ true) p.is (R.sorted p.place m (omega (arith, p.below)) (omega arith))))
      (eq_or_ne p.place m)

  pub all_are_tried : first_without P ≡ 0 → all_tried P ≡ sum (λ j. points_tried P (at order j)) P.count
  unfolding all_tried is_tried
  all_are_tried e = rw e (by_count P.count refl)
    where
      by_count : (n : ℕ) → P.count ≡ n → sum (λ i. choose true (points_tried P i) 0) n ≡ sum (λ j. points_tried P (at order j)) n
      by_count zero z = sum_ext _ _ 0 (λ i li. absurd (omega arith))
      by_count (suc m) z =
          sum_ext _ _ (suc m) (λ i li. ap (λ (b : Bool). choose b (points_tried P i) 0) (sym (all_in_level m i z (omega arith))))
          ∙ sym (ap (sum (λ i. choose (in_level P (at order m) i) (points_tried P i) 0)) z)
          ∙ level_sum (points_tried P) m (omega arith)
