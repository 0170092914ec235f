-- What the walk over the arrays tells of the list that they show, and the answer that it gives.
use Rattle.std.specs.Prelude.{Result, Ok, Err, Some, None}
use mathlib.Core.Path.{◌≡◌, refl, sym, ap, ◌∙◌}
use mathlib.Core.List.{List}
use mathlib.Core.Logic.{inl, inr, ⊎_elim}
use Prim.Native.Nat.{ℕ, suc, ◌+◌, ◌*◌, ◌≤◌, ◌<◌}
use native.Mathlib.Omega.{arith}
use native.Mathlib.Numerals.{add-one}
use lib.ListN.{replicate}
use Rattle.basis.specs.Bytes.{at}
use Rattle.basis.specs.Choose.{eq_or_ne}
use Rattle.basis.specs.Slices.{ceil}
use Rattle.basis.specs.Sum.{sum, sum_ext}
use Rattle.plan.specs.Plan.{Plan, Monotonic, Sound, job, key_in, asks, bound, Passes}
use Rattle.plan.proofs.Rank.{not_before_key}
use Rattle.plan.specs.Order.{FirstIn}
use Rattle.plan.proofs.Order.{behind_not_before, sum_before, ranked_first}
use Rattle.plan.specs.Points.{fails_at_points, first_without}
use Rattle.plan.proofs.Points.{fails_at_points_lem}
use Rattle.tasks.specs.declared.TaskList.{TaskList}
use Rattle.tasks.specs.declared.InBounds.{InBounds}
use Rattle.tasks.specs.declared.refusals.Refusal.{Refusal}
use Rattle.tasks.specs.declared.refusals.Refusal.TheVariants.{Fails}
use Rattle.tasks.specs.List.{plan_of}
use Rattle.tasks.specs.Bounds.{bounds_of, cycle_of}
use Rattle.tasks.specs.Kept.{Bounded}
use Rattle.tasks.proofs.Kept.{plan_sound, plan_monotonic, cycle_pos, period_divides_cycle, kept_tells}
use Rattle.ranking.specs.declared.Ranked.{Ranked}
use Rattle.ranking.specs.Ranks.{Ranks, Shows, ranked_shows}
use Rattle.quick.specs.declared.Refused.{Refused}
use Rattle.quick.specs.Quick.{named, tried, tried_none, tried_late, quick_from, quick_of}
use Rattle.quick.specs.Shapes.{level_asks, Level, NonePasses, SomePasses, ComesRound, AllPass, FirstFails}

-- ---- what a place passes, its task does
module _ (P : Plan) (sound : Sound P) (order periods dues runtimes : List ℕ) (W : Shows P order periods dues runtimes) where
  abbrev n : ℕ
  n = P.count

  its_asks : (t k : ℕ) → k < n → at runtimes k * ceil t (at periods k) ≡ asks P t (at order k)
  unfolding asks
  its_asks t k lk = rw (W.runtime_is k 0 lk, W.period_is k lk)

  -- A level asks for what the test sums up.
  level_is_bound : (t k : ℕ) → k < n → level_asks periods runtimes (suc k) t ≡ bound P (at order k) t
  unfolding level_asks bound sum
  level_is_bound t k lk =
      omega (
        arith,
        sum_ext (λ j. at runtimes j * ceil t (at periods j)) (λ j. asks P t (at order j)) k (λ j lj. its_asks t j (omega arith)),
        its_asks t k lk,
        sum_before (key_in P 0) n order (W.ranked 0) (asks P t) k lk,
      )

  place_passes : (k : ℕ) → k < n → SomePasses periods runtimes (suc k) (at dues k) → fails_at_points P (at order k) ≡ 0
  unfolding SomePasses Passes
  place_passes k lk p =
      (fails_at_points_lem P sound (at order k) ((W.ranked 0).below k lk)).1
      (p.0, p.1, omega (arith, p.2, W.due_is k lk), omega (arith, p.3, level_is_bound p.0 k lk))

  place_fails : (k : ℕ) → k < n → NonePasses periods runtimes (suc k) (suc (at dues k)) → 0 < fails_at_points P (at order k)
  unfolding NonePasses Passes
  place_fails k lk none =
      ⊎_elim
      (λ (z : fails_at_points P (at order k) ≡ 0).
      let p = (fails_at_points_lem P sound (at order k) ((W.ranked 0).below k lk)).0 z in
      absurd (omega (arith, none p.0 p.1 (omega (arith, p.2, W.due_is k lk)), p.3, level_is_bound p.0 k lk)))
      (λ (nz : fails_at_points P (at order k) ≡ 0 → ⊥). omega arith)
      (eq_or_ne (fails_at_points P (at order k)) 0)

  -- So the first place that passes nowhere is that of the first-ranking task that passes at none of its points.
  is_first : (e : ℕ) → FirstIn order (λ k. fails_at_points P (at order k)) n e → e ≡ first_without P
  unfolding first_without
  is_first e h = ranked_first (key_in P 0) (fails_at_points P) (λ k. fails_at_points P (at order k)) n order (W.ranked 0) (λ k lk. refl) e h

  pub all_have : FirstFails periods dues runtimes n None → 0 ≡ first_without P
  unfolding FirstIn FirstFails AllPass
  all_have F = is_first 0 (inl (record { idle = refl; none = λ k lk. place_passes k lk (F k lk) }))

  pub first_without_lem : (k : ℕ) → FirstFails periods dues runtimes n (Some k) → suc (at order k) ≡ first_without P
  unfolding FirstIn FirstFails AllPass
  first_without_lem k F = is_first (suc (at order k)) (inr (record {
    place = k;
    below = F.within;
    is = refl;
    wanting = place_fails k F.within F.fails;
    none_before = λ j lj. place_passes j (omega (arith, F.within)) (F.before_pass j lj);
  }))

-- ---- the answer
module _ (l : TaskList) (bounded : Bounded l) (fresh ranked : Ranked) (zeros : fresh ≡ record { order = replicate 16 0; periods = replicate 16 0; dues = replicate 16 0; runtimes = replicate 16 0 })
    (ranks : Ranks l fresh.order fresh.periods fresh.dues fresh.runtimes ranked.order ranked.periods ranked.dues ranked.runtimes) where
  abbrev order : List ℕ
  order = ranked.order

  abbrev periods : List ℕ
  periods = ranked.periods

  abbrev dues : List ℕ
  dues = ranked.dues

  abbrev runtimes : List ℕ
  runtimes = ranked.runtimes

  sound : Sound (plan_of l)
  sound = plan_sound l bounded.supply bounded.keeps

  monotonic : Monotonic (plan_of l)
  monotonic = plan_monotonic l bounded.supply bounded.keeps

  W : Shows (plan_of l) order periods dues runtimes
  W = ranked_shows l bounded.keeps.few order periods dues runtimes (rw zeros at ranks)

  pub task_below : (k : ℕ) → k < l.count → at order k < l.count
  unfolding plan_of
  task_below k lk = (W.ranked 0).below k lk

  -- The arrays are a level.
  dues_by_rank : (j k : ℕ) → j ≤ k → k < l.count → (plan_of l).due (at order j) ≤ (plan_of l).due (at order k)
  unfolding key_in plan_of
  dues_by_rank j k a b =
      omega (
        arith,
        not_before_key (key_in (plan_of l) 0) (at order k) (at order j) (behind_not_before (key_in (plan_of l) 0) l.count order (W.ranked 0) j k a b),
        monotonic.by_deadline (at order j) (job (plan_of l) (at order j) 0) (task_below j (omega arith)),
        monotonic.by_deadline (at order k) (job (plan_of l) (at order k) 0) (task_below k b),
      )

  pub level : Level periods dues runtimes l.count
  unfolding plan_of
  level = record {
    few = bounded.keeps.few;
    due_pos = λ k lk. omega (arith, W.due_is k lk, sound.due_pos (at order k) (task_below k lk));
    due_within = λ k lk. omega (arith, W.due_is k lk, W.period_is k lk, sound.due_within (at order k) (task_below k lk));
    period_small = λ k lk. omega (arith, W.period_is k lk, (bounded.keeps.fits (at order k) (task_below k lk)).period_to);
    runtime_within = λ k lk. omega (arith, W.period_is k lk, W.runtime_is k 0 lk, (bounded.keeps.fits (at order k) (task_below k lk)).runtime_to);
    dues_rise = λ j k a b. omega (arith, W.due_is j (omega arith), W.due_is k b, dues_by_rank j k a b);
  }

  -- and they come round after the list's cycle.
  pub round : (cycle : ℕ) → cycle ≡ cycle_of l → ComesRound periods l.count cycle
  unfolding plan_of
  round cycle e = record {
    from_1 = omega (arith, e, cycle_pos l bounded.supply bounded.keeps);
    to_4096 = omega (arith, e, bounded.keeps.cycle_within);
    divided = λ k lk. rw (W.period_is k lk, e) (period_divides_cycle l bounded.supply bounded.keeps (at order k) (task_below k lk));
  }

  pub answer_accepted : FirstFails periods dues runtimes l.count None → Ok tt ≡ tried (first_without (plan_of l))
  unfolding plan_of
  answer_accepted F = sym tried_none ∙ ap tried (all_have (plan_of l) sound order periods dues runtimes W F)

  module _ (k : ℕ) (F : FirstFails periods dues runtimes l.count (Some k)) where
    -- its place is one of the sixteen
    pub place_within : (k < 16) × (at order k < l.count)
    unfolding FirstFails
    place_within = (omega (arith, bounded.keeps.few, F.within), task_below k F.within)

    pub answer_refused : Err (named (Fails (at order k + 1))) ≡ tried (first_without (plan_of l))
    unfolding plan_of
    answer_refused =
        ap (λ (i : ℕ). Err (named (Fails i))) (add-one (at order k)) ∙ sym (tried_late (at order k)) ∙ ap tried (first_without_lem (plan_of l) sound order periods dues runtimes W k F)

-- ---- the bounds come first
module _ (l : TaskList) (supply : ℕ) where
  pub broken : (r : Refusal) → bounds_of l supply ≡ Err r → Err (named r) ≡ quick_of l supply
  unfolding quick_of quick_from
  broken r e = sym (ap (quick_from l) e)

  module _ (k : InBounds) (e : bounds_of l supply ≡ Ok k) where
    pub kept_bounded : Bounded l × (k.cycle ≡ cycle_of l)
    kept_bounded = let K = kept_tells l supply k e in (record { supply = supply; keeps = K.keeps }, K.cycle_is)

    pub kept : (r : Result (Unit {0}) Refused) → r ≡ tried (first_without (plan_of l)) → r ≡ quick_of l supply
    unfolding quick_of quick_from
    kept r h = h ∙ sym (ap (quick_from l) e)
