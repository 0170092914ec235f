-- The walk over a cycle of a list that keeps its bounds, event by event, and the verdict that it comes to, as laws over plain values.
use Rattle.std.proofs.Common.{◌≡◌, ℕ, suc, ◌+◌, ◌-◌, ◌/◌, ◌<◌, ◌≤◌, List, length, replicate, ℤ, pos, Ok, Err, sym, refl, ap, ◌∙◌, subst, ap₂, inl, inr, ⊎_elim, mul-le-mul_right, div-lt_iff_lt-mul, add-one, arith, eq-eqb, ne_eqb}
use Prim.Native.Nat.{◌∣◌}
use native.Mathlib.Nat.{div-mul_cancel}
use lib.ListN.{length-replicate}
use Rattle.basis.specs.Bytes.{at, overwrite_at, zeros}
use Rattle.basis.specs.Choose.{le_or_lt, choose_yes, choose_no}
use Rattle.plan.specs.Plan.{Plan, Sound, Monotonic, release, job, age, key_in, table, deadline, OnTime, OnTimeUpTo}
use Rattle.plan.proofs.Rank.{not_before_key}
use Rattle.plan.proofs.Order.{behind_not_before}
use Rattle.plan.proofs.Run.{release_age, had_first_lem, lacks_open}
use Rattle.plan.specs.Events.{next_event}
use Rattle.plan.proofs.Events.{event_open, event_later, event_by_release, goes_to_one}
use Rattle.tasks.specs.declared.TaskList.{TaskList}
use Rattle.tasks.specs.List.{plan_of}
use Rattle.tasks.specs.Bounds.{cycle_of}
use Rattle.tasks.specs.Kept.{Bounded}
use Rattle.tasks.proofs.Kept.{plan_monotonic, period_divides_cycle, period_within_cycle}
use Rattle.ranking.specs.declared.Ranked.{Ranked}
use Rattle.ranking.specs.Ranks.{Shows}
use Rattle.verdict.specs.declared.Late.{Late}
use Rattle.verdict.specs.Lateness.{lateness}
use Rattle.verdict.specs.Deadlines.{late_stays, nothing_late, late_tells, missed_lacks, missing_is}
use Rattle.verdict.specs.Ends.{end_by, end_none, end_is_first, end_within}
use Rattle.verdict.specs.Shapes.{HandedOut, Fits, Tabled, missing_of, event_then, none_late, OneLate, AllTurned, margin_at, TightestAt}
use Rattle.verdict.specs.Walk.{Shown, Holds, Stopped, WalkedOut, entry_turn, none_late_then, one_late_then, holds_next}
use lib.IntN.{sub_ℕ}
use Rattle.tasks.specs.declared.refusals.Refusal.TheVariants as refusal
use Rattle.verdict.specs.Margin.{margin, tightest}
use Rattle.verdict.specs.Verdict.{judged}
use Rattle.verdict.specs.Tightest.{Tightest, tightest_law, tightest_only, not_tighter}
use Rattle.verdict.specs.Settling.{Concluded}

-- Before slice t, with the next event of all at `next`, nothing is late, and the entries so far are the table's.
pub record At (P : Plan) (order : List ℕ) (room cycle t next : ℕ) (lacks' releases events ends table₁ : List ℕ) : Type 0 where
  pub holds : Holds P t order lacks' releases events ends
  pub on_time : none_late ≡ lateness P t
  pub ahead : t < next
  pub quiet : (k : ℕ) → k < P.count → next ≤ at events k
  pub within : t ≤ cycle
  pub next_within : t < cycle → next ≤ cycle
  pub entries_are : cycle ≤ room → Tabled (table P) t room table₁

module _ (n cycle : ℕ) (ranked : Ranked) (S : Shown n cycle ranked) where
  abbrev order : List ℕ
  order = ranked.order

  abbrev periods : List ℕ
  periods = ranked.periods

  abbrev dues : List ℕ
  dues = ranked.dues

  abbrev runtimes : List ℕ
  runtimes = ranked.runtimes

  abbrev l : TaskList
  l = S.list

  abbrev P : Plan
  P = plan_of l

  abbrev bounds : Bounded l
  bounds = S.bounded

  abbrev C : cycle ≡ cycle_of l
  C = S.cycle_is

  abbrev W : Shows P order periods dues runtimes
  W = S.shows

  monotonic : Monotonic P
  monotonic = plan_monotonic l bounds.supply bounds.keeps

  sound : Sound P
  sound = monotonic.sound

  pub count_is : n ≡ P.count
  unfolding plan_of
  count_is = S.count_is

  pub few : n ≤ 16
  few = omega (arith, S.count_is, bounds.keeps.few)

  pub order_small : (k : ℕ) → k < n → at order k < 16
  order_small k lk = omega (arith, (W.ranked 0).below k (omega (arith, count_is)), count_is, few)

  period_small : (i : ℕ) → i < P.count → P.period i ≤ 4096
  unfolding plan_of
  period_small i li = (bounds.keeps.fits i li).period_to

  divides : (i : ℕ) → i < P.count → P.period i ∣ cycle
  unfolding plan_of
  divides i li = subst (λ (x : ℕ). P.period i ∣ x) (sym C) (period_divides_cycle l bounds.supply bounds.keeps i li)

  below : (k : ℕ) → k < P.count → at order k < P.count
  below = (W.ranked 0).below

  some : 0 < P.count
  unfolding plan_of
  some = bounds.keeps.some

  -- every period ends with the cycle, so there is an event by then
  event_in_cycle : (i t : ℕ) → i < P.count → t < cycle → next_event P i t ≤ cycle
  unfolding release job
  event_in_cycle i t li lt =
      let whole = div-mul_cancel (P.period i) (divides i li) in
      let before : t / P.period i < cycle / P.period i = (div-lt_iff_lt-mul {x = t} {y = cycle / P.period i} (sound.period_pos i li)).1 (omega arith) in
      omega (arith, event_by_release P sound i li t, mul-le-mul_right (P.period i) before)

  -- ---- at the start
  key_is_due : (i : ℕ) → i < P.count → key_in P 0 i ≡ P.due i
  unfolding key_in
  key_is_due i li = monotonic.by_deadline i (job P i 0) li

  -- Ranked by deadline, the first has the first.
  first_due : (k : ℕ) → k < P.count → at dues 0 ≤ at dues k
  first_due k lk =
      omega (
        arith,
        W.due_is 0 some,
        W.due_is k lk,
        key_is_due (at order 0) (below 0 some),
        key_is_due (at order k) (below k lk),
        not_before_key (key_in P 0) (at order k) (at order 0) (behind_not_before (key_in P 0) P.count order (W.ranked 0) 0 k (omega arith) lk),
      )

  released_at_0 : (k : ℕ) → k < P.count → release P (at order k) (job P (at order k) 0) ≡ 0
  released_at_0 k lk = omega (arith, release_age P sound (at order k) (below k lk) 0)

  young : (k : ℕ) → k < P.count → age P (at order k) 0 < P.due (at order k)
  young k lk = omega (arith, release_age P sound (at order k) (below k lk) 0, sound.due_pos (at order k) (below k lk))

  event_is_due : (k : ℕ) → k < P.count → at dues k ≡ next_event P (at order k) 0
  event_is_due k lk = omega (arith, W.due_is k lk, event_open P (at order k) 0 (young k lk), released_at_0 k lk)

  pub at_start : (ends entries : List ℕ) → ends ≡ replicate 16 0 → ((x : ℕ) → at entries x ≡ 0) → At P order (length entries) cycle 0 (at dues 0) runtimes (replicate 16 0) dues ends entries
  unfolding lateness
  at_start ends entries e blank =
      rw e
      (record {
        holds = record {
          lacks_room = W.runtimes_room;
          releases_room = omega (arith, few, count_is, length-replicate {A = ℕ} 16 0);
          events_room = W.dues_room;
          ends_room = omega (arith, few, count_is, length-replicate {A = ℕ} 16 0);
          lack_is = λ k lk. let i = at order k in omega (arith, W.runtime_is k (job P i 0) lk, lacks_open P P.runtime P.runtime 0 i (young k lk), had_first_lem P P.runtime i);
          release_is = λ k lk. zeros 16 k ∙ sym (released_at_0 k lk);
          event_is = event_is_due;
          end_is = λ k lk. zeros 16 k ∙ sym (end_none P (at order k));
        };
        on_time = refl;
        ahead = omega (arith, W.due_is 0 some, sound.due_pos (at order 0) (below 0 some));
        quiet = first_due;
        within = omega arith;
        next_within = λ p. omega (arith, event_is_due 0 some, event_in_cycle (at order 0) 0 (below 0 some) p);
        entries_are = λ _. record { long = refl; written = λ x l. absurd (omega arith); blank = λ x _. blank x };
      })

  -- ---- from an event to the next
  module _ (room t next : ℕ) (lacks₀ releases events ends table₁ : List ℕ) (so_far : At P order room cycle t next lacks₀ releases events ends table₁) (lt : t < cycle) where
    -- what the numbers keep to
    pub numbers_fit : (k : ℕ) → k < n → Fits (at periods k) (at dues k) (at releases k) (at events k) next
    numbers_fit k small =
        let lk : k < P.count = omega (arith, count_is) in
        let i = at order k in
        let li = below k lk in
        let c = bounds.keeps.cycle_within in
        record {
          release_small = omega (arith, so_far.holds.release_is k lk, W.period_is k lk, release_age P sound i li t, period_small i li, C);
          due_small = omega (arith, W.due_is k lk, sound.due_within i li, period_small i li, so_far.next_within lt, C);
        }

    on_time_here : (lateness P t).task ≡ 0
    on_time_here = sym (ap (λ (x : Late). x.task) so_far.on_time)

    s : ℕ
    s = next - suc t

    is_next : next ≡ suc (t + s)
    unfolding s
    is_next = omega (arith, so_far.ahead)

    as_many : next - t ≡ suc s
    unfolding s
    as_many = omega (arith, so_far.ahead)

    module _ (lacks₁ ends₁ table₂ : List ℕ) (handed₀ : HandedOut order dues lacks₀ ends table₁ n t next lacks₁ ends₁ table₂) where
      handed : HandedOut order dues lacks₀ ends table₁ P.count t next lacks₁ ends₁ table₂
      handed = rw count_is at handed₀

      -- The first that is late ends the walk.
      pub stops : (late : Late) → OneLate order (λ k. missing_of (at events k) (at lacks₁ k) next) n late → Stopped P cycle late
      stops late L =
          let nz : late.task ≡ 0 → ⊥ = λ z. omega (arith, L.first.is) in
          let e : next + (cycle - next) ≡ cycle = omega (arith, so_far.next_within lt) in
          let so = one_late_then P sound order periods dues runtimes W t s lacks₀ releases events ends so_far.holds on_time_here next is_next so_far.quiet lacks₁ ends₁ (rw as_many at handed.lacks_are) (rw as_many at handed.ends_are) late (rw count_is at L) in
          record {
            late_is = so ∙ sym (late_stays P next (cycle - next) (λ z. nz (ap (λ (x : Late). x.task) so ∙ z))) ∙ ap (lateness P) e;
            some = nz;
          }

      module _ (releases₂ events₂ lacks₂ : List ℕ) (later : ℕ) (T₀ : AllTurned periods dues runtimes releases events lacks₁ n next releases₂ events₂ lacks₂ later) where
        T : AllTurned periods dues runtimes releases events lacks₁ P.count next releases₂ events₂ lacks₂ later
        T = rw count_is at T₀

        then_holds : Holds P next order lacks₂ releases₂ events₂ ends₁
        then_holds =
            holds_next P sound order periods dues runtimes W t s lacks₀ releases events ends so_far.holds on_time_here next is_next so_far.quiet lacks₁ ends₁ (rw as_many at handed.lacks_are) (rw as_many at handed.ends_are) T.none_late_lem
            releases₂ events₂ lacks₂ T.events_are T.releases_are T.lacks_are

        event_then_lem : (k : ℕ) → k < P.count → event_then periods dues runtimes releases events lacks₁ next k ≡ next_event P (at order k) next
        event_then_lem k lk =
            sym (ap (λ (x : List ℕ). at x k) T.events_are ∙ overwrite_at _ events 0 P.count k lk (omega (arith, so_far.holds.events_room)))
            ∙ then_holds.event_is k lk

        -- the table's entries up to the next event
        entries_then : cycle ≤ room → Tabled (table P) next room table₂
        entries_then enough =
            let e = so_far.entries_are enough in
            let w = handed.writes (omega (arith, e.long, so_far.next_within lt)) e.blank in
            record {
              long = w.long ∙ e.long;
              written = λ x l.
                  ⊎_elim
                  (λ (new : t ≤ x).
                  let q : t + (x - t) ≡ x = omega arith in
                  sym (ap (at table₂) q)
                  ∙ goes_to_one order (at lacks₀) P.count (x - t) _ _ (w.entries (x - t) (omega arith)) (entry_turn P sound order periods dues runtimes W t s lacks₀ releases events ends so_far.holds on_time_here next is_next so_far.quiet (x - t) (omega (arith, is_next)))
                  ∙ ap (table P) q)
                  (λ (old : x < t). w.elsewhere x (inl old) ∙ e.written x old)
                  (le_or_lt t x);
              blank = λ x l. w.elsewhere x (inr l) ∙ e.blank x (omega (arith, so_far.ahead));
            }

        pub goes_on : At P order room cycle next later lacks₂ releases₂ events₂ ends₁ table₂
        unfolding plan_of
        goes_on = record {
          holds = then_holds;
          on_time = none_late_then P sound order periods dues runtimes W t s lacks₀ releases events ends so_far.holds on_time_here next is_next so_far.quiet lacks₁ ends₁ (rw as_many at handed.lacks_are) (rw as_many at handed.ends_are) T.none_late_lem;
          ahead = T.next_is.greatest (suc next) (omega (arith, so_far.next_within lt, C, bounds.keeps.cycle_within)) (λ k lk. omega (arith, event_then_lem k lk, event_later P sound (at order k) (below k lk) next));
          quiet = λ k lk. omega (arith, T.next_is.no_later k lk, event_then_lem k lk, then_holds.event_is k lk);
          within = so_far.next_within lt;
          next_within = λ q. omega (arith, T.next_is.no_later 0 some, event_then_lem 0 some, event_in_cycle (at order 0) next (below 0 some) q);
          entries_are = entries_then;
        }

  -- ---- at the cycle's end nothing was late
  pub ends_well : (room t next : ℕ) (lacks₀ releases events ends table₁ : List ℕ) → At P order room cycle t next lacks₀ releases events ends table₁ → cycle ≤ t → WalkedOut P cycle order room ends table₁
  ends_well room t next lacks₀ releases events ends table₁ so_far q =
      let e : t ≡ cycle = omega (arith, so_far.within) in
      record {
        on_time = so_far.on_time ∙ ap (lateness P) e;
        end_is = λ k lk. so_far.holds.end_is k lk ∙ ap (λ (x : ℕ). end_by P x (at order k)) e;
        entries_are = λ enough x l. (so_far.entries_are enough).written x (omega arith);
      }

  -- ---- the verdict, by what the walk came to
  module _ (late : Late) (L : Stopped P cycle late) where
    task_is : late.task ≡ (lateness P cycle).task
    task_is = ap (λ (x : Late). x.task) L.late_is

    pub short_within : late.short ≤ 4096
    unfolding plan_of
    short_within =
        let task : (lateness P cycle).task ≡ suc (late.task - 1) = sym task_is ∙ omega (arith, L.some) in
        let m = late_tells P sound cycle (late.task - 1) task in
        let lacks = missed_lacks P m.slice (late.task - 1) m.missed in
        let fits = bounds.keeps.fits (late.task - 1) lacks.0 in
        omega (arith, ap (λ (x : Late). x.short) L.late_is, m.lacks, (missing_is P m.slice (late.task - 1) lacks.1).1, fits.runtime_to, fits.period_to)

    pub concluded_late : (room : ℕ) (table₁ : List ℕ) (jobs : ℕ) (z : ℤ) → z ≡ sub_ℕ 0 late.short → Concluded l cycle jobs room table₁ (Err (refusal.Late late.task z))
    unfolding judged
    concluded_late room table₁ jobs z q = record {
      answer = rw (← L.late_is, q) (sym (choose_no _ _ _ (ne_eqb late.task 0 L.some)));
      entries = λ none. absurd (L.some (task_is ∙ none));
    }

  module _ (ends : List ℕ) (room : ℕ) (table₁ : List ℕ) (L : WalkedOut P cycle order room ends table₁) where
    nothing : (lateness P cycle).task ≡ 0
    nothing = sym (ap (λ (x : Late). x.task) L.on_time)

    due_in_cycle : (i : ℕ) → i < P.count → P.due i ≤ cycle
    unfolding plan_of
    due_in_cycle i li = omega (arith, S.cycle_is, sound.due_within i li, period_within_cycle l bounds.supply bounds.keeps i li)

    pub ends_by_dues : (k : ℕ) → k < n → at ends k ≤ at dues k
    ends_by_dues k small = let lk : k < P.count = omega (arith, count_is) in omega (arith, L.end_is k lk, end_within P (at order k) cycle, W.due_is k lk)

    first_on_time : (i : ℕ) → i < P.count → OnTime P P.runtime i 0
    unfolding OnTimeUpTo deadline release
    first_on_time i li = (nothing_late P sound cycle).0 nothing i 0 li (omega (arith, due_in_cycle i li))

    margin_is : (k : ℕ) → k < P.count → margin_at dues ends k ≡ margin P (at order k)
    unfolding margin
    margin_is k lk =
        ap₂ (λ (x y : ℕ). x - y) (W.due_is k lk)
        (L.end_is k lk ∙ end_is_first P sound (at order k) cycle (below k lk) (first_on_time (at order k) (below k lk)) (due_in_cycle (at order k) (below k lk)))

    module _ (best : ℕ) (found₀ : TightestAt (margin_at dues ends) n best) where
      found : TightestAt (margin_at dues ends) P.count best
      found = rw count_is at found₀

      -- the first place with the smallest margin is the tightest task's
      is_tightest : Tightest P P.count (at order best)
      is_tightest = record {
        is_below = below best found.below;
        none_tighter = λ j lj.
            let p = (W.ranked 0).places j lj in
            let mine = margin_is best found.below in
            let other : margin_at dues ends p.place ≡ margin P j = margin_is p.place p.below ∙ ap (margin P) p.is in
            not_tighter P j (at order best) (omega (arith, found.smallest p.place p.below))
            (λ same.
            ⊎_elim
            (λ (a : best ≤ p.place). rw (← p.is) (behind_not_before (key_in P 0) P.count order (W.ranked 0) best p.place a p.below))
            (λ (b : p.place < best). absurd (omega (arith, found.first p.place b)))
            (le_or_lt best p.place));
      }

      best_is : at order best ≡ tightest P P.count
      best_is = tightest_only P (at order best) (tightest P P.count) is_tightest (tightest_law P P.count some (omega arith))

      pub margin_within : at dues best - at ends best ≤ 4096
      margin_within = omega (arith, W.due_is best found.below, sound.due_within (at order best) (below best found.below), period_small (at order best) (below best found.below))

      pub concluded_accepted : (jobs : ℕ) (z : ℤ) → z ≡ pos (at dues best - at ends best) → Concluded l cycle jobs room table₁ (Ok (record { cycle = cycle; jobs = jobs; task = at order best + 1; margin = z }))
      unfolding judged
      concluded_accepted jobs z q = record {
        answer =
            rw (← L.on_time, add-one, q)
            (ap₂ (λ (i m : ℕ). Ok (record { cycle = cycle; jobs = jobs; task = suc i; margin = pos m })) best_is (margin_is best found.below ∙ ap (margin P) best_is)
            ∙ sym (choose_yes _ _ _ (eq-eqb none_late.task 0 refl)));
        entries = λ _. L.entries_are;
      }
