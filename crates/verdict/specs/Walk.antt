-- The walk from event to event over arrays of numbers is the slice rule of the plan that they show.
use Rattle.std.specs.Prelude.{◌≡◌, ℕ, suc, ◌+◌, ◌-◌, ◌*◌, ◌<◌, ◌≤◌, Bool, ◌&&◌, ◌⊎◌, List, length, ◌≢◌, nat_lt, refl, Result, MatchResult}
use Rattle.std.proofs.Math.Path.{sym, ap}
use Rattle.std.proofs.Common.{◌∙◌, lt-ltb, le-ltb, eq-eqb, ne_eqb}
use Rattle.std.proofs.Math.Logic.{inl, inr, ⊎_elim}
use native.Mathlib.Omega.{arith}
use Rattle.std.proofs.Math.Nat.{add-suc, suc_inj, mod-eq_of_lt, div-eq_of_lt, zero-mul}
use Rattle.basis.specs.Bytes.{at, overwrite, overwrite-length, overwrite_at}
use Rattle.basis.specs.Choose.{choose, choose_yes, choose_no, choose_either, le_or_lt, eq_or_ne}
use Rattle.basis.specs.Sum.{sum}
use Rattle.plan.specs.Plan.{Plan, Sound, release, deadline, job, age, key_in, gets, table, OnTimeUpTo}
use Rattle.plan.specs.Run.{lacks}
use Rattle.plan.proofs.Run.{release_age, lacks_open, lacks_shut}
use Rattle.plan.specs.Order.{FirstIn}
use Rattle.plan.proofs.Order.{ranked_first, one_place}
use Rattle.plan.specs.Events.{next_event, left, GoesTo}
use Rattle.plan.proofs.Events.{event_open, event_by_release, deadline_not_before, event_inside, ComesTo, before_event, at_deadline, at_release, goes_to_one, entry_goes, after_left}
use Rattle.tasks.specs.declared.TaskList.{TaskList}
use Rattle.tasks.specs.List.{plan_of}
use Rattle.tasks.specs.Bounds.{cycle_of}
use Rattle.tasks.specs.Kept.{Bounded}
use Rattle.ranking.specs.declared.Ranked.{Ranked}
use Rattle.ranking.specs.Ranks.{Shows}
use Rattle.verdict.specs.declared.Late.{Late}
use Rattle.verdict.specs.Lateness.{received, missing, missed_at, late_by, lateness}
use Rattle.verdict.specs.Deadlines.{nothing_late, earlier_second}
use Rattle.verdict.specs.Ends.{end_by, end_shut, end_turn}
use Rattle.verdict.specs.Shapes.{until, end_after, missing_of, turned, event_then, release_then, lack_then, none_late, OneLate}

-- ---- the arrays
-- They show a list of n tasks that keeps its bounds, with its cycle.
pub record Shown (n cycle : ℕ) (ranked : Ranked) : Type 0 where
  pub list : TaskList
  pub bounded : Bounded list
  pub count_is : n ≡ list.count
  pub cycle_is : cycle ≡ cycle_of list
  pub shows : Shows (plan_of list) ranked.order ranked.periods ranked.dues ranked.runtimes

-- Before slice t they hold what each task lacks, when its current job was released, its next event and the end of its first job.
pub record Holds (P : Plan) (t : ℕ) (order lacks' releases events ends : List ℕ) : Type 0 where
  pub lacks_room : P.count ≤ length lacks'
  pub releases_room : P.count ≤ length releases
  pub events_room : P.count ≤ length events
  pub ends_room : P.count ≤ length ends
  pub lack_is : (k : ℕ) → k < P.count → at lacks' k ≡ lacks P P.runtime P.runtime t (at order k)
  pub release_is : (k : ℕ) → k < P.count → at releases k ≡ release P (at order k) (job P (at order k) t)
  pub event_is : (k : ℕ) → k < P.count → at events k ≡ next_event P (at order k) t
  pub end_is : (k : ℕ) → k < P.count → at ends k ≡ end_by P t (at order k)

-- ---- the ways of a task at an event
module _ {A : Type 0} (next event t : ℕ) (stays waits begins : A) where
  pub turned_stays : (event ≢ t) → turned next event t stays waits begins ≡ stays
  unfolding turned
  turned_stays ne = choose_no _ _ _ (ne_eqb event t ne)

  pub turned_waits : event ≡ t → t < next → turned next event t stays waits begins ≡ waits
  unfolding turned
  turned_waits e l = choose_yes _ _ _ (eq-eqb event t e) ∙ choose_yes _ _ _ (lt-ltb t next l)

  pub turned_begins : event ≡ t → next ≤ t → turned next event t stays waits begins ≡ begins
  unfolding turned
  turned_begins e l = choose_yes _ _ _ (eq-eqb event t e) ∙ choose_no _ _ _ (le-ltb t next l)

module _ (P : Plan) (S : Sound P) (order periods dues runtimes : List ℕ) (W : Shows P order periods dues runtimes)
    (t s : ℕ) (lacks₀ releases events ends : List ℕ) (H : Holds P t order lacks₀ releases events ends) (Z : (lateness P t).task ≡ 0)
    (next : ℕ) (is_next : next ≡ suc (t + s)) (quiet : (k : ℕ) → k < P.count → next ≤ at events k) where
  abbrev n : ℕ
  n = P.count

  -- the last slice before the next event
  abbrev u : ℕ
  u = t + s

  quiet_task : (i : ℕ) → i < n → t + suc s ≤ next_event P i t
  quiet_task i li =
      let p = (W.ranked t).places i li in
      omega (arith, add-suc t s, is_next, quiet p.place p.below, H.event_is p.place p.below, ap (λ (x : ℕ). next_event P x t) p.is)

  -- Every slice goes to the task whose turn it is.
  pub entry_turn : (x : ℕ) → x < suc s → GoesTo order (at lacks₀) n x (table P (t + x))
  unfolding table
  entry_turn x l = entry_goes P S P.runtime t (suc s) quiet_task order (W.ranked t) (at lacks₀) H.lack_is x l

  -- No deadline comes before the next event, so nothing is late by then.
  on_time_inside : OnTimeUpTo P P.runtime t → OnTimeUpTo P P.runtime u
  unfolding OnTimeUpTo
  on_time_inside on i k li d =
      ⊎_elim
      (λ (l : deadline P i k ≤ t). on i k li l)
      (λ (l : t < deadline P i k). absurd (omega (arith, deadline_not_before P S i li t k l, quiet_task i li, add-suc t s)))
      (le_or_lt (deadline P i k) t)

  on_time_so_far : (lateness P u).task ≡ 0
  on_time_so_far = (nothing_late P S u).1 (on_time_inside ((nothing_late P S t).0 Z))

  -- ---- the slices are handed out
  module _ (lacks₁ ends₁ : List ℕ) (lacks_are : lacks₁ ≡ overwrite (λ k. left (at lacks₀) k (suc s)) n lacks₀) (ends_are : ends₁ ≡ overwrite (end_after dues lacks₀ ends t (suc s)) n ends) where
    lack_after : (k : ℕ) → k < n → at lacks₁ k ≡ lacks P P.runtime P.runtime u (at order k) - gets (table P u) (at order k)
    unfolding table
    lack_after k lk =
        ap (λ (l : List ℕ). at l k) (lacks_are)
        ∙ overwrite_at _ lacks₀ 0 n k lk (omega (arith, H.lacks_room))
        ∙ sym (after_left P S P.runtime t (suc s) quiet_task order (W.ranked t) (at lacks₀) H.lack_is s (omega arith) k lk)

    -- ---- deadlines at the next event
    module _ (k : ℕ) (lk : k < n) where
      abbrev i : ℕ
      i = at order k

      li : i < n
      li = (W.ranked t).below k lk

      event_is_next : next_event P i u ≡ at events k
      event_is_next = (event_inside P S i li t (suc s) (quiet_task i li) s (omega arith)).1 ∙ sym (H.event_is k lk)

      release_is_same : release P i (job P i u) ≡ at releases k
      release_is_same = (event_inside P S i li t (suc s) (quiet_task i li) s (omega arith)).0 ∙ sym (H.release_is k lk)

      missing_is : missing P u i ≡ missing_of (at events k) (at lacks₁ k) next
      unfolding missing missing_of received
      missing_is =
          ⊎_elim
          (λ (o : P.due i ≤ age P i u).
          choose_no _ _ _ (ne_eqb (suc (age P i u)) (P.due i) (λ e. omega arith))
          ∙ sym (choose_either (λ (x : ℕ). x ≡ 0) _ (at lacks₁ k) 0 (omega (arith, lack_after k lk, lacks_shut P P.runtime P.runtime u i o)) refl))
          (λ (b : age P i u < P.due i).
          let e = event_open P i u b in
          ⊎_elim
          (λ (here : suc (age P i u) ≡ P.due i).
          choose_yes _ _ _ (eq-eqb (suc (age P i u)) (P.due i) here)
          ∙ omega (arith, lack_after k lk, lacks_open P P.runtime P.runtime u i b)
          ∙ sym (choose_yes _ _ _ (eq-eqb (at events k) next (omega (arith, event_is_next, release_age P S i li u)))))
          (λ (ne : suc (age P i u) ≡ P.due i → ⊥).
          choose_no _ _ _ (ne_eqb (suc (age P i u)) (P.due i) ne) ∙ sym (choose_no _ _ _ (ne_eqb (at events k) next (λ q. ne (omega (arith, event_is_next, release_age P S i li u))))))
          (eq_or_ne (suc (age P i u)) (P.due i)))
          (le_or_lt (P.due i) (age P i u))

    -- Who is late at the next event is the slice rule's.
    missed_is : (e : ℕ) → FirstIn order (λ k. missing_of (at events k) (at lacks₁ k) next) n e → e ≡ missed_at P u
    unfolding missed_at
    missed_is e f = ranked_first (key_in P u) (missing P u) _ n order (W.ranked u) (λ k lk. sym (missing_is k lk)) e f

    late_then : lateness P next ≡ late_by (missing P u) (missed_at P u)
    unfolding lateness
    late_then = ap (lateness P) is_next ∙ earlier_second (lateness P u) (late_by (missing P u) (missed_at P u)) on_time_so_far

    pub none_late_then : ((k : ℕ) → k < n → missing_of (at events k) (at lacks₁ k) next ≡ 0) → none_late ≡ lateness P next
    unfolding late_by FirstIn
    none_late_then none = ap (late_by (missing P u)) (missed_is 0 (inl (record { idle = refl; none = none }))) ∙ sym late_then

    pub one_late_then : (late : Late) → OneLate order (λ k. missing_of (at events k) (at lacks₁ k) next) n late → late ≡ lateness P next
    unfolding late_by FirstIn
    one_late_then late L =
        (λ j. record { task = L.first.is j; short = (L.short_is ∙ sym (missing_is L.first.place L.first.below)) j })
        ∙ ap (late_by (missing P u)) (sym L.first.is ∙ missed_is late.task (inr L.first))
        ∙ sym late_then

    -- ---- the end of a first job
    -- In its first job a task has its next event at its deadline.
    first_event : (i : ℕ) → i < n → t < P.due i → next_event P i t ≡ P.due i
    unfolding release job age
    first_event i li l =
        let young : t < P.period i = omega (arith, S.due_within i li) in
        let first_age : age P i t ≡ t = mod-eq_of_lt young in
        let first-release : release P i (job P i t) ≡ 0 = ap (λ (q : ℕ). q * P.period i) (div-eq_of_lt young) ∙ zero-mul (P.period i) in
        event_open P i t (omega arith) ∙ omega arith

    module _ (k : ℕ) (lk : k < n) where
      abbrev task : ℕ
      task = at order k

      abbrev lack : ℕ → ℕ
      lack = at lacks₀

      -- it gets the slices of its turn, and no others
      its_turn : (x : ℕ) → x < suc s → sum lack k ≤ x → x < sum lack (suc k) → table P (t + x) ≡ suc task
      unfolding GoesTo
      its_turn x l a b = goes_to_one order lack n x _ _ (entry_turn x l) (inr (record { place = k; below = lk; is = refl; begun = a; not_over = b }))

      not_its_turn : (x : ℕ) → (x < sum lack k) ⊎ (sum lack (suc k) ≤ x) → GoesTo order lack n x (table P (t + x)) → table P (t + x) ≢ suc task
      unfolding GoesTo
      not_its_turn x o (inl h) e = omega (arith, h.idle)
      not_its_turn x o (inr h) e =
          let here = one_place (key_in P t) n order (W.ranked t) h.place k h.below lk (suc_inj (sym h.is ∙ e)) in
          let a = ap (sum lack) here in
          let b = ap (λ (y : ℕ). sum lack (suc y)) here in
          ⊎_elim (λ (u : x < sum lack k). omega (arith, h.begun)) (λ (u : sum lack (suc k) ≤ x). omega (arith, h.not_over)) o

      first_end_lem : t < P.due task → end_by P (t + suc s) task ≡ choose (nat_lt (sum lack k) (until lack k (suc s))) (t + until lack k (suc s)) (end_by P t task)
      unfolding until
      first_end_lem l =
          end_turn P task t (suc s) (sum lack k) (until lack k (suc s)) (omega (arith, first_event task ((W.ranked t).below k lk) l, quiet_task task ((W.ranked t).below k lk))) (omega arith)
          (λ x a b. its_turn x (omega arith) a (omega arith))
          (λ x lx o. not_its_turn x (⊎_elim (λ (u : x < sum lack k). inl u) (λ (u : until lack k (suc s) ≤ x). inr (omega arith)) o) (entry_turn x lx))

      end_after_lem : at ends₁ k ≡ end_by P next task
      unfolding end_after
      end_after_lem =
          ap (λ (l : List ℕ). at l k) (ends_are)
          ∙ overwrite_at _ ends 0 n k lk (omega (arith, H.ends_room))
          ∙ ⊎_elim
          (λ (o : P.due task ≤ t).
          choose_no _ _ _ (ap (λ (b : Bool). b && nat_lt (sum lack k) (until lack k (suc s))) (le-ltb t (at dues k) (omega (arith, W.due_is k lk))))
          ∙ H.end_is k lk ∙ sym (end_shut P task t (suc s) o))
          (λ (b : t < P.due task). rw (lt-ltb t (at dues k) (omega (arith, W.due_is k lk)), H.end_is k lk) (sym (first_end_lem b)))
          (le_or_lt (P.due task) t)
          ∙ ap (λ (x : ℕ). end_by P x task) (add-suc t s ∙ sym is_next)

    -- ---- after the event, if nobody is late
    module _ (none_late_lem : (k : ℕ) → k < n → missing_of (at events k) (at lacks₁ k) next ≡ 0) where
      module _ (k : ℕ) (lk : k < n) where
        abbrev r : ℕ
        r = at releases k + at periods k

        -- when its job was released, its next event, and what it lacks
        comes_to : ComesTo P S P.runtime (i k lk) (li k lk) u (release_then periods dues runtimes releases events lacks₁ next k) (event_then periods dues runtimes releases events lacks₁ next k) (lack_then periods dues runtimes releases events lacks₁ next k)
        unfolding release_then event_then lack_then missing_of table
        comes_to =
            ⊎_elim
            (λ (here : at events k ≡ next).
            ⊎_elim
            (λ (fresh : r ≤ next).
            let last = event_by_release P S (i k lk) (li k lk) u in
            let C = at_release P S P.runtime (i k lk) (li k lk) u (omega (arith, event_is_next k lk, release_is_same k lk, W.period_is k lk)) in
            as_then C
            (sym is_next ∙ sym (turned_begins r (at events k) next (at releases k) (at releases k) next here fresh))
            (omega (arith, W.due_is k lk) ∙ sym (turned_begins r (at events k) next (at events k) r (next + at dues k) here fresh))
            (sym (W.runtime_is k (job P (i k lk) (suc u)) lk) ∙ sym (turned_begins r (at events k) next (at lacks₁ k) (at lacks₁ k) (at runtimes k) here fresh)))
            (λ (waits : next < r).
            let C = at_deadline P S P.runtime (i k lk) (li k lk) u (omega (arith, event_is_next k lk)) (omega (arith, release_is_same k lk, W.period_is k lk)) in
            as_then C
            (release_is_same k lk ∙ sym (turned_waits r (at events k) next (at releases k) (at releases k) next here waits))
            (omega (arith, release_is_same k lk, W.period_is k lk) ∙ sym (turned_waits r (at events k) next (at events k) r (next + at dues k) here waits))
            (sym (sym (choose_yes _ (at lacks₁ k) 0 (eq-eqb (at events k) next here)) ∙ none_late_lem k lk) ∙ sym (turned_waits r (at events k) next (at lacks₁ k) (at lacks₁ k) (at runtimes k) here waits)))
            (le_or_lt r next))
            (λ (not-here : at events k ≡ next → ⊥).
            let C = before_event P S P.runtime (i k lk) (li k lk) u (omega (arith, event_is_next k lk, quiet k lk)) in
            as_then C
            (release_is_same k lk ∙ sym (turned_stays r (at events k) next (at releases k) (at releases k) next not-here))
            (event_is_next k lk ∙ sym (turned_stays r (at events k) next (at events k) r (next + at dues k) not-here))
            (sym (lack_after k lk) ∙ sym (turned_stays r (at events k) next (at lacks₁ k) (at lacks₁ k) (at runtimes k) not-here)))
            (eq_or_ne (at events k) next)
          where
            as_then : {a b c a' b' c' : ℕ} → ComesTo P S P.runtime (i k lk) (li k lk) u a b c → a ≡ a' → b ≡ b' → c ≡ c' → ComesTo P S P.runtime (i k lk) (li k lk) u a' b' c'
            as_then C ea eb ec = record { release_is = C.release_is ∙ ea; event_is = C.event_is ∙ eb; lack_is = C.lack_is ∙ ec }

      pub holds_next : (releases₂ events₂ lacks₂ : List ℕ)
          → events₂ ≡ overwrite (event_then periods dues runtimes releases events lacks₁ next) n events
          → releases₂ ≡ overwrite (release_then periods dues runtimes releases events lacks₁ next) n releases
          → lacks₂ ≡ overwrite (lack_then periods dues runtimes releases events lacks₁ next) n lacks₁
          → Holds P next order lacks₂ releases₂ events₂ ends₁
      holds_next releases₂ events₂ lacks₂ ee er el =
          rw is_next
          (record {
            lacks_room = omega (arith, ap length el, overwrite-length (lack_then periods dues runtimes releases events lacks₁ next) lacks₁ n, lacks₁-room);
            releases_room = omega (arith, ap length er, overwrite-length (release_then periods dues runtimes releases events lacks₁ next) releases n, H.releases_room);
            events_room = omega (arith, ap length ee, overwrite-length (event_then periods dues runtimes releases events lacks₁ next) events n, H.events_room);
            ends_room = omega (arith, ap length (ends_are), overwrite-length (end_after dues lacks₀ ends t (suc s)) ends n, H.ends_room);
            lack_is = λ k lk. ap (λ (l : List ℕ). at l k) el ∙ overwrite_at _ lacks₁ 0 n k lk (omega (arith, lacks₁-room)) ∙ sym (comes_to k lk).lack_is;
            release_is = λ k lk. ap (λ (l : List ℕ). at l k) er ∙ overwrite_at _ releases 0 n k lk (omega (arith, H.releases_room)) ∙ sym (comes_to k lk).release_is;
            event_is = λ k lk. ap (λ (l : List ℕ). at l k) ee ∙ overwrite_at _ events 0 n k lk (omega (arith, H.events_room)) ∙ sym (comes_to k lk).event_is;
            end_is = λ k lk. end_after_lem k lk ∙ ap (λ (x : ℕ). end_by P x (at order k)) is_next;
          })
        where
          lacks₁-room : n ≤ length lacks₁
          lacks₁-room = omega (arith, ap length (lacks_are), overwrite-length (λ k. left (at lacks₀) k (suc s)) lacks₀ n, H.lacks_room)

-- ---- the whole cycle
-- The first missed deadline;
pub record Stopped (P : Plan) (cycle : ℕ) (late : Late) : Type 0 where
  pub late_is : late ≡ lateness P cycle
  pub some : late.task ≢ 0

-- or there is none: the ends of the first jobs, and the entries where there is room for all.
pub record WalkedOut (P : Plan) (cycle : ℕ) (order : List ℕ) (room : ℕ) (ends table₁ : List ℕ) : Type 0 where
  pub on_time : none_late ≡ lateness P cycle
  pub end_is : (k : ℕ) → k < P.count → at ends k ≡ end_by P cycle (at order k)
  pub entries_are : cycle ≤ room → (x : ℕ) → x < cycle → at table₁ x ≡ table P x

abbrev pub Walked : (P : Plan) (cycle : ℕ) (order : List ℕ) (room : ℕ) (table₁ : List ℕ) → Result (List ℕ) Late → Type 0
Walked P cycle order room table₁ r = MatchResult r (λ ends. WalkedOut P cycle order room ends table₁) (Stopped P cycle)
