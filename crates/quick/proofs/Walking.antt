-- The walk from point to point, as laws over plain values: where it stands, and what a task that is tried tells.
use Rattle.std.specs.Prelude.{Some, None}
use mathlib.Core.Path.{◌≡◌, refl, sym, ap, ◌∙◌}
use mathlib.Core.Bool.{true, ◌&&◌}
use mathlib.Core.List.{List}
use mathlib.Core.Logic.{⊎_elim}
use Prim.Native.Nat.{ℕ, zero, suc, ◌+◌, ◌*◌, ◌/◌, ◌≤◌, ◌<◌, min}
use native.Mathlib.Omega.{arith}
use native.Mathlib.Numerals.{add-one}
use native.Mathlib.Nat.{mul-le-mul_left, mul-le-mul_right, mul_comm, mul_assoc, div-mul_cancel}
use lib.Dec.{leb, ltb}
use lib.ListN.{length, set, replicate, length-set, length-replicate}
use lib.Seq.{get_or-set_same, get_or-set_other}
use borrow.Author.Tests.{ltb-true, leb-true}
use Rattle.basis.specs.Bytes.{at}
use Rattle.basis.specs.Choose.{both_true, le_or_lt, below_suc}
use Rattle.basis.specs.Slices.{ceil}
use Rattle.basis.proofs.Slices.{ceil_suc, ceil_covers, ceil_least, ceil_grows, ceil_between}
use Rattle.basis.specs.Sum.{sum, sum_ext, sum_le, sum_same, sum_mul}
use Rattle.quick.specs.declared.walk.Walk.{Walk}
use Rattle.quick.specs.Shapes.{inverse_of, multiple_from, smallest, level_asks, Level, ComesRound, Fits, Stands, NonePasses, Walks, Begins, Walked, SomePasses, Tried, AllPass, FirstFails}
use Rattle.quick.proofs.Inverse.{multiple_near, inverse_most}

-- ---- one task
-- Up to its period it is released once.
released_once : (T : ℕ) → 0 < T → (t : ℕ) → 1 ≤ t → t ≤ T → ceil t T ≡ 1
released_once T pos t a b = omega (arith, ceil_least T pos t 1 (omega arith), ceil_grows T pos 1 t a, ceil_suc T pos 0)

-- ---- the smallest of some numbers
module _ (f : ℕ → ℕ) where
  pub smallest_from : (t n : ℕ) → t ≤ 8192 → ((k : ℕ) → k < n → t ≤ f k) → t ≤ smallest f n
  unfolding smallest
  smallest_from t zero l h = l
  smallest_from t (suc n) l h = omega (arith, smallest_from t n l (λ k lk. h k (omega arith)), h n (omega arith))

  pub smallest_most : (n k : ℕ) → k < n → smallest f n ≤ f k
  unfolding smallest
  smallest_most zero k l = absurd (omega arith)
  smallest_most (suc n) k l =
      ⊎_elim
      (λ (b : k < n). omega (arith, smallest_most n k b))
      (λ (e : k ≡ n). omega (arith, ap f e))
      (below_suc k n l)

-- ---- the first point from slice t on
module _ (periods inverses runtimes : List ℕ) (n t : ℕ) (F : Fits periods inverses runtimes n t) where
  -- nothing of it wraps
  asks_small : (k : ℕ) → k < n → ceil t (at periods k) * at runtimes k ≤ 8192
  asks_small k l =
      omega (arith, mul-le-mul_left (ceil t (at periods k)) (F.runtime_within k l), multiple_near (at periods k) (F.period_pos k l) t F.from_1, F.period_small k l, F.to_4096)

  pub inverse_small : (k : ℕ) → k < n → at inverses k ≤ 4294967296
  inverse_small k l = omega (arith, F.inverse_is k l, inverse_most (at periods k) (F.period_pos k l) (F.period_small k l))

  pub counted : (k jobs : ℕ) → k < n → ((T : ℕ) → 0 < T → T ≤ 4096 → at inverses k ≡ inverse_of T → jobs ≡ ceil t T) → jobs ≡ ceil t (at periods k)
  counted k jobs l h = h (at periods k) (F.period_pos k l) (F.period_small k l) (F.inverse_is k l)

  pub more_small : (k jobs : ℕ) → k < n → jobs ≡ ceil t (at periods k) → (jobs * at periods k ≤ 8192) × (jobs * at runtimes k ≤ 8192)
  more_small k jobs l e =
      rw e (omega (arith, multiple_near (at periods k) (F.period_pos k l) t F.from_1, F.period_small k l, F.to_4096), asks_small k l)

  pub asked_small : (k : ℕ) → k ≤ n → level_asks periods runtimes k t ≤ k * 8192
  unfolding level_asks
  asked_small k l =
      omega (arith, sum_le (λ j. at runtimes j * ceil t (at periods j)) (λ _. 8192) k (λ j lj. omega (arith, asks_small j (omega arith), mul_comm (at runtimes j) (ceil t (at periods j)))), sum_same 8192 k)

-- one task more
module _ (periods runtimes : List ℕ) (t k : ℕ) where
  pub stands_none : (w : Walk) → w.point ≡ 8192 → w.asked ≡ 0 → Stands periods runtimes 0 t w
  unfolding smallest level_asks sum
  stands_none w p a = record { point_is = p; asked_is = a }

  pub stands_more : (w w' : Walk) (jobs : ℕ) → jobs ≡ ceil t (at periods k) → Stands periods runtimes k t w → w'.point ≡ min w.point (jobs * at periods k) → w'.asked ≡ w.asked + jobs * at runtimes k
      → Stands periods runtimes (suc k) t w'
  unfolding smallest level_asks sum multiple_from
  stands_more w w' jobs e S p a = record {
    point_is = p ∙ rw (S.point_is, e) refl;
    asked_is = omega (arith, a, S.asked_is, ap (λ (x : ℕ). x * at runtimes k) e, mul_comm (at runtimes k) (ceil t (at periods k)));
  }

-- ---- between two points
module _ (periods runtimes : List ℕ) (n : ℕ) (pos : (k : ℕ) → k < n → 0 < at periods k) where
  -- No later slice asks for less.
  pub asks_grow : (s t : ℕ) → s ≤ t → level_asks periods runtimes n s ≤ level_asks periods runtimes n t
  unfolding level_asks
  asks_grow s t l = sum_le _ _ n (λ k lk. mul-le-mul_left (at runtimes k) (ceil_grows (at periods k) (pos k lk) s t l))

  module _ (t : ℕ) (w : Walk) (S : Stands periods runtimes n t w) where
    pub point_from_t : t ≤ 8192 → t ≤ w.point
    unfolding multiple_from
    point_from_t l = omega (arith, S.point_is, smallest_from (multiple_from periods t) t n l (λ k lk. ceil_covers (at periods k) (pos k lk) t))

    -- From slice t up to the point the level asks for the same.
    pub same_asked : (x : ℕ) → t ≤ x → x ≤ w.point → level_asks periods runtimes n x ≡ w.asked
    unfolding level_asks multiple_from
    same_asked x a b =
        sum_ext _ _ n (λ k l. ap (λ (y : ℕ). at runtimes k * y) (ceil_between (at periods k) (pos k l) t x a (omega (arith, S.point_is, smallest_most (multiple_from periods t) n k l))))
        ∙ sym S.asked_is

    -- No slice before what is asked for passes.
    pub none_before_asked : NonePasses periods runtimes n t → NonePasses periods runtimes n w.asked
    unfolding NonePasses
    none_before_asked none x a b = ⊎_elim (λ (l : t ≤ x). omega (arith, S.asked_is, asks_grow t x l)) (λ (l : x < t). none x a l) (le_or_lt t x)

-- ---- from one point to the next
-- It goes on while a point does not pass and one up to the deadline may.
module _ (point asked due : ℕ) where
  pub goes_on : (ltb point asked && leb asked due) ≡ true → (point < asked) × (asked ≤ due)
  goes_on e = let h = (both_true (ltb point asked) (leb asked due)).0 e in (ltb-true point asked h.0, leb-true asked due h.1)

module _ (periods dues runtimes : List ℕ) (n : ℕ) (L : Level periods dues runtimes n) where
  pub period_pos : (k : ℕ) → k < n → 0 < at periods k
  period_pos k l = omega (arith, L.due_pos k l, L.due_within k l)

  pub level_fits : (inverses : List ℕ) → ((k : ℕ) → k < n → at inverses k ≡ inverse_of (at periods k)) → (t : ℕ) → 1 ≤ t → t ≤ 4096 → Fits periods inverses runtimes n t
  level_fits inverses is t a b = record { few = L.few; from_1 = a; to_4096 = b; period_pos = period_pos; period_small = L.period_small; runtime_within = L.runtime_within; inverse_is = is }

  module _ (due : ℕ) (small : due ≤ 4096) (w : Walk) (W : Walks periods runtimes n due w) (on : (w.point < w.asked) × (w.asked ≤ due)) where
    module _ (next : Walk) (S : Stands periods runtimes n w.asked next) where
      pub walks_on : Walks periods runtimes n due next
      walks_on = record {
        slice = w.asked;
        from_1 = omega (arith, on.0);
        to_due = on.1;
        stands = S;
        none_passes = none_before_asked periods runtimes n period_pos W.slice w W.stands W.none_passes;
      }

      -- Points rise.
      pub point_rises : w.point < next.point
      point_rises = omega (arith, on.0, on.1, point_from_t periods runtimes n period_pos w.asked next S (omega (arith, on.1)))

-- ---- a cycle that is overfull
module _ (periods runtimes : List ℕ) (n cycle : ℕ) (pos : (k : ℕ) → k < n → 0 < at periods k) (C : ComesRound periods n cycle) where
  -- By the cycle's end a task has asked for no more, in proportion, than in any number of slices.
  task_in_proportion : (t k : ℕ) → k < n → at runtimes k * ceil cycle (at periods k) * t ≤ at runtimes k * ceil t (at periods k) * cycle
  task_in_proportion t k l =
      let T = at periods k in
      let q = cycle / T in
      let whole : q * T ≡ cycle = div-mul_cancel T (C.divided k l) in
      let jobs : ceil cycle T ≤ q = ceil_least T (pos k l) cycle q (omega arith) in
      let turned : q * (ceil t T * T) ≡ ceil t T * cycle = mul_comm q (ceil t T * T) ∙ mul_assoc (ceil t T) T q ∙ ap (λ (x : ℕ). ceil t T * x) (mul_comm T q ∙ whole) in
      let each : ceil cycle T * t ≤ ceil t T * cycle = omega (arith, mul-le-mul_right t jobs, mul-le-mul_left q (ceil_covers T (pos k l) t), turned) in
      omega (arith, mul-le-mul_left (at runtimes k) each, mul_assoc (at runtimes k) (ceil cycle T) t, mul_assoc (at runtimes k) (ceil t T) cycle)

  level_in_proportion : (t : ℕ) → level_asks periods runtimes n cycle * t ≤ level_asks periods runtimes n t * cycle
  unfolding level_asks
  level_in_proportion t = omega (arith, sum_mul (λ k. at runtimes k * ceil cycle (at periods k)) t n, sum_mul (λ k. at runtimes k * ceil t (at periods k)) cycle n, sum_le (λ k. at runtimes k * ceil cycle (at periods k) * t) (λ k. at runtimes k * ceil t (at periods k) * cycle) n (task_in_proportion t))

  -- So where more is asked for than the cycle has, no slice passes.
  pub overfull : cycle < level_asks periods runtimes n cycle → (t : ℕ) → NonePasses periods runtimes n t
  unfolding NonePasses
  overfull over t x a b =
      ⊎_elim
      (λ (h : level_asks periods runtimes n x ≤ x).
      absurd (omega (arith, level_in_proportion x, mul-le-mul_right x over, mul-le-mul_right cycle h, mul_comm cycle x)))
      (λ (h : x < level_asks periods runtimes n x). h)
      (le_or_lt (level_asks periods runtimes n x) x)

-- A deadline that every period of the level divides is such an end too. So where the periods divide each other it decides, or the
-- cycle's end does, and the walk is never taken.
pub never_walked : (periods runtimes : List ℕ) (n cycle due : ℕ) → ((k : ℕ) → k < n → 0 < at periods k) → ComesRound periods n due → 1 ≤ cycle → due < level_asks periods runtimes n due → cycle < level_asks periods runtimes n cycle
unfolding NonePasses
never_walked periods runtimes n cycle due pos D from_1 over = overfull periods runtimes n due pos D over (suc cycle) cycle from_1 (omega arith)

-- ---- the trial of a task
module _ (periods inverses runtimes : List ℕ) (n due : ℕ) (first : Walk) (B : Begins periods inverses runtimes n due first) where
  began_pos : (k : ℕ) → k < n → 0 < at periods k
  began_pos = period_pos periods B.dues runtimes n B.level

  pub due_from_1 : 1 ≤ due
  due_from_1 = omega (arith, B.walks.from_1, B.walks.to_due)

  -- Wherever the walk stands: more is asked for than there are slices before the deadline;
  module _ (w : Walk) (W : Walks periods runtimes n due w) where
    pub too_much : due < w.asked → Tried periods runtimes n due None
    unfolding Tried NonePasses
    too_much over x a b = none_before_asked periods runtimes n began_pos W.slice w W.stands W.none_passes x a (omega arith)

    -- or it passes there, at the point or at the deadline.
    pub in_time : w.asked ≤ due → w.asked ≤ w.point → Tried periods runtimes n due (Some w)
    unfolding Tried SomePasses
    in_time within p =
        let beyond : W.slice ≤ w.point = point_from_t periods runtimes n began_pos W.slice w W.stands (omega (arith, W.to_due, B.due_small)) in
        let asks = same_asked periods runtimes n began_pos W.slice w W.stands (min w.point due) (omega (arith, W.to_due)) (omega arith) in
        (W, (min w.point due, omega (arith, W.from_1, W.to_due), omega arith, omega (arith, asks)))

  pub walked_in_time : (w : Walk) → Walked periods runtimes n due w → w.asked ≤ due → Tried periods runtimes n due (Some w)
  walked_in_time w W within = in_time w W.walks within (⊎_elim (λ (h : w.asked ≤ w.point). h) (λ (h : due < w.asked). absurd (omega arith)) W.ends)

  -- The deadline passes: the walk need not go on to it.
  pub deadline_passes : (w : Walk) → Stands periods runtimes n due w → w.asked ≤ due → Tried periods runtimes n due (Some first)
  unfolding Tried SomePasses
  deadline_passes w S within = (B.walks, (due, due_from_1, omega arith, omega (arith, S.asked_is)))

  pub cycle_overfull : (cycle : ℕ) → ComesRound periods n cycle → (w : Walk) → Stands periods runtimes n cycle w → cycle < w.asked → Tried periods runtimes n due None
  unfolding Tried
  cycle_overfull cycle C w S over = overfull periods runtimes n cycle began_pos C (omega (arith, S.asked_is)) (suc due)

-- ---- task by task
-- The tasks before place k pass, and the walk stands no later than at any deadline that is left.
pub record Trying (periods dues runtimes : List ℕ) (n k : ℕ) (inverses : List ℕ) (w : Walk) : Type 0 where
  pub within : k ≤ n
  pub room : length inverses ≡ 16
  pub inverse_is : (j : ℕ) → j < k → at inverses j ≡ inverse_of (at periods j)
  pub slice : ℕ
  pub from_1 : 1 ≤ slice
  pub ahead : (j : ℕ) → k ≤ j → j < n → slice ≤ at dues j
  pub stands : Stands periods runtimes k slice w
  pub none_passes : NonePasses periods runtimes k slice
  pub before_pass : AllPass periods dues runtimes k

module _ (periods dues runtimes : List ℕ) (n : ℕ) (L : Level periods dues runtimes n) where
  pub trying_none : Trying periods dues runtimes n 0 (replicate 16 0) (record { point = 8192; asked = 0 })
  unfolding NonePasses AllPass
  trying_none = record {
    within = omega arith;
    room = length-replicate {A = ℕ} 16 0;
    inverse_is = λ j l. absurd (omega arith);
    slice = 1;
    from_1 = omega arith;
    ahead = λ j _ l. L.due_pos j l;
    stands = stands_none periods runtimes 1 0 _ refl refl;
    none_passes = λ x a b. absurd (omega arith);
    before_pass = λ j l. absurd (omega arith);
  }

  first_tasks : (m : ℕ) → m ≤ n → Level periods dues runtimes m
  first_tasks m l = record {
    few = omega (arith, L.few);
    due_pos = λ k lk. L.due_pos k (omega arith);
    due_within = λ k lk. L.due_within k (omega arith);
    period_small = λ k lk. L.period_small k (omega arith);
    runtime_within = λ k lk. L.runtime_within k (omega arith);
    dues_rise = λ j k a b. L.dues_rise j k a (omega arith);
  }

  pub first_round : (cycle k : ℕ) → k < n → ComesRound periods n cycle → ComesRound periods (k + 1) cycle
  first_round cycle k l C = record { from_1 = C.from_1; to_4096 = C.to_4096; divided = λ j lj. C.divided j (omega arith) }

  module _ (k : ℕ) (inverses : List ℕ) (w : Walk) (S : Trying periods dues runtimes n k inverses w) (lk : k < n) where
    due_within_4096 : at dues k ≤ 4096
    due_within_4096 = omega (arith, L.due_within k lk, L.period_small k lk)

    slice_within : S.slice ≤ at dues k
    slice_within = S.ahead k (omega arith) lk

    pub asked_has_room : w.asked + at runtimes k ≤ 135168
    asked_has_room =
        omega (
          arith,
          S.stands.asked_is,
          asked_small periods inverses runtimes k S.slice (level_fits periods dues runtimes k (first_tasks k (omega arith)) inverses S.inverse_is S.slice S.from_1 (omega (arith, slice_within, due_within_4096))) k (omega arith),
          L.few,
          L.runtime_within k lk,
          L.period_small k lk,
        )

    -- its inverse is put beside those before it
    one_more : (j : ℕ) → j < suc k → at (set inverses k (inverse_of (at periods k))) j ≡ inverse_of (at periods j)
    one_more j l =
        ⊎_elim
        (λ (b : j < k). get_or-set_other inverses k j (inverse_of (at periods k)) 0 (λ q. omega arith) ∙ S.inverse_is j b)
        (λ (e : j ≡ k). rw e (get_or-set_same inverses k (inverse_of (at periods k)) 0 (omega (arith, S.room, L.few))))
        (below_suc j k l)

    -- The turn of the task at place k comes: it joins the level where the walk stands, which is before its first multiple.
    module _ (first : Walk) (point_is : first.point ≡ min w.point (at periods k)) (asked_is : first.asked ≡ w.asked + at runtimes k) where
      joins : Stands periods runtimes (suc k) S.slice first
      joins =
          stands_more periods runtimes S.slice k w first 1
          (sym (released_once (at periods k) (period_pos periods dues runtimes n L k lk) S.slice S.from_1 (omega (arith, slice_within, L.due_within k lk))))
          S.stands (point_is ∙ ap (min w.point) (omega arith)) (omega arith)

      none_yet : NonePasses periods runtimes (suc k) S.slice
      unfolding NonePasses level_asks sum
      none_yet x a b = omega (arith, S.none_passes x a b)

      pub its_turn : Begins periods (set inverses k (inverse_of (at periods k))) runtimes (k + 1) (at dues k) first
      its_turn = rw (add-one k) (record {
        dues = dues;
        level = first_tasks (suc k) lk;
        inverse_is = one_more;
        due_small = due_within_4096;
        walks = record { slice = S.slice; from_1 = S.from_1; to_due = slice_within; stands = joins; none_passes = none_yet };
      })

    -- What its trial tells: it passes, and the next one's turn comes;
    pub trying_more : (last : Walk) → Tried periods runtimes (k + 1) (at dues k) (Some last) → Trying periods dues runtimes n (k + 1) (set inverses k (inverse_of (at periods k))) last
    unfolding Tried AllPass
    trying_more last T = rw (add-one k) (
        let W : Walks periods runtimes (suc k) (at dues k) last = rw (add-one k) at T.0 in
        let passes : SomePasses periods runtimes (suc k) (at dues k) = rw (add-one k) at T.1 in
        record {
          within = lk;
          room = length-set inverses k (inverse_of (at periods k)) ∙ S.room;
          inverse_is = one_more;
          slice = W.slice;
          from_1 = W.from_1;
          ahead = λ j a b. omega (arith, W.to_due, L.dues_rise k j (omega arith) b);
          stands = W.stands;
          none_passes = W.none_passes;
          before_pass = λ j l. ⊎_elim (λ (b : j < k). S.before_pass j b) (λ (q : j ≡ k). rw q passes) (below_suc j k l);
        }
        )

    -- or it is the first that passes nowhere.
    pub first_found_lem : Tried periods runtimes (k + 1) (at dues k) None → FirstFails periods dues runtimes n (Some k)
    unfolding Tried FirstFails
    first_found_lem T = record { within = lk; before_pass = S.before_pass; fails = rw (add-one k) at T }

  pub all_pass : (k : ℕ) (inverses : List ℕ) (w : Walk) → Trying periods dues runtimes n k inverses w → n ≤ k → FirstFails periods dues runtimes n None
  unfolding FirstFails AllPass
  all_pass k inverses w S l = λ j b. S.before_pass j (omega (arith, S.within))
