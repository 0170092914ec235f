-- What an event brings to each task, as laws over plain values: the ways of a branch and the turns of a loop.
use Rattle.std.proofs.Common.{◌≡◌, ℕ, ◌+◌, ◌<◌, ◌≤◌, min, List, set, sym, refl, ap, ◌∙◌, ap₂, ⊎_elim, add-one, arith, eq-eqb, ne_eqb}
use Rattle.basis.specs.Bytes.{at, overwrite, overwrite_kept, overwrite_next, as_it_was}
use Rattle.basis.specs.Choose.{choose_yes, choose_no, below_suc}
use Rattle.verdict.specs.Shapes.{Fits, missing_of, event_then, release_then, lack_then, Misses, Passes, Earliest, OneLate, AllTurned}
use Rattle.verdict.specs.Walk.{turned_stays, turned_waits, turned_begins}

-- ---- an event
module _ (periods dues runtimes releases events lacks : List ℕ) (t k : ℕ) where
  abbrev PassesTo : List ℕ → List ℕ → List ℕ → ℕ → Type 0
  PassesTo = Passes periods dues runtimes releases events lacks t k

  abbrev release : ℕ
  release = at releases k + at periods k

  pub not_yet : (at events k ≡ t → ⊥) → PassesTo releases events lacks (at events k)
  unfolding missing_of event_then release_then lack_then
  not_yet ne = record {
    none = choose_no _ _ _ (ne_eqb (at events k) t ne);
    event_is = sym (turned_stays release (at events k) t _ _ _ ne);
    events_are = as_it_was events k _ (turned_stays release (at events k) t _ _ _ ne);
    releases_are = as_it_was releases k _ (turned_stays release (at events k) t _ _ _ ne);
    lacks_are = as_it_was lacks k _ (turned_stays release (at events k) t _ _ _ ne);
  }

  module _ (here : at events k ≡ t) where
    missing_here : missing_of (at events k) (at lacks k) t ≡ at lacks k
    unfolding missing_of
    missing_here = choose_yes _ _ _ (eq-eqb (at events k) t here)

    pub missed : (at lacks k ≡ 0 → ⊥) → Misses periods dues runtimes releases events lacks t k lacks
    missed nz = record { wanting = omega (arith, missing_here); short_is = sym missing_here }

    pub shut : at lacks k ≡ 0 → t < release → PassesTo releases (set events k release) lacks release
    unfolding event_then release_then lack_then
    shut none l = record {
      none = missing_here ∙ none;
      event_is = sym (turned_waits release (at events k) t _ _ _ here l);
      events_are = ap (set events k) (sym (turned_waits release (at events k) t _ _ _ here l));
      releases_are = as_it_was releases k _ (turned_waits release (at events k) t _ _ _ here l);
      lacks_are = as_it_was lacks k _ (turned_waits release (at events k) t _ _ _ here l);
    }

    pub released : at lacks k ≡ 0 → release ≤ t → PassesTo (set releases k t) (set events k (t + at dues k)) (set lacks k (at runtimes k)) (t + at dues k)
    unfolding event_then release_then lack_then
    released none l = record {
      none = missing_here ∙ none;
      event_is = sym (turned_begins release (at events k) t _ _ _ here l);
      events_are = ap (set events k) (sym (turned_begins release (at events k) t _ _ _ here l));
      releases_are = ap (set releases k) (sym (turned_begins release (at events k) t _ _ _ here l));
      lacks_are = ap (set lacks k) (sym (turned_begins release (at events k) t _ _ _ here l));
    }

-- ---- the event of each task in turn
module _ (order periods dues runtimes releases events lacks : List ℕ) (n t : ℕ) where
  abbrev missing : ℕ → ℕ
  missing k = missing_of (at events k) (at lacks k) t

  abbrev event_of : ℕ → ℕ
  event_of = event_then periods dues runtimes releases events lacks t

  abbrev release_of : ℕ → ℕ
  release_of = release_then periods dues runtimes releases events lacks t

  abbrev lack_of : ℕ → ℕ
  lack_of = lack_then periods dues runtimes releases events lacks t

  -- Of the tasks before place k none is late, and `next` is the first of their next events.
  pub record Turning (k next : ℕ) (releases₁ events₁ lacks₁ : List ℕ) : Type 0 where
    pub events_are : events₁ ≡ overwrite event_of k events
    pub releases_are : releases₁ ≡ overwrite release_of k releases
    pub lacks_are : lacks₁ ≡ overwrite lack_of k lacks
    pub none_late_lem : (j : ℕ) → j < k → missing j ≡ 0
    pub next_is : Earliest event_of k next

  pub turning_none : Turning 0 8192 releases events lacks
  unfolding overwrite
  turning_none = record {
    events_are = refl;
    releases_are = refl;
    lacks_are = refl;
    none_late_lem = λ j l. absurd (omega arith);
    next_is = record { no_later = λ j l. absurd (omega arith); greatest = λ x l h. l };
  }

  module _ (k next : ℕ) (releases₁ events₁ lacks₁ : List ℕ) (H : Turning k next releases₁ events₁ lacks₁) where
    event_same : at events₁ k ≡ at events k
    event_same = ap (λ (l : List ℕ). at l k) H.events_are ∙ overwrite_kept event_of events 0 k k (omega arith)

    release_same : at releases₁ k ≡ at releases k
    release_same = ap (λ (l : List ℕ). at l k) H.releases_are ∙ overwrite_kept release_of releases 0 k k (omega arith)

    lack_same : at lacks₁ k ≡ at lacks k
    lack_same = ap (λ (l : List ℕ). at l k) H.lacks_are ∙ overwrite_kept lack_of lacks 0 k k (omega arith)

    pub still_fits : Fits (at periods k) (at dues k) (at releases k) (at events k) t → Fits (at periods k) (at dues k) (at releases₁ k) (at events₁ k) t
    still_fits fits = rw (event_same, release_same) fits

    missing_same : missing_of (at events₁ k) (at lacks₁ k) t ≡ missing k
    missing_same = ap₂ (λ (e l : ℕ). missing_of e l t) event_same lack_same

    -- The first that is late ends the search.
    pub late_found : (lacks₂ : List ℕ) → Misses periods dues runtimes releases₁ events₁ lacks₁ t k lacks₂ → k < n → OneLate order missing n (record { task = at order k + 1; short = at lacks₂ k })
    late_found lacks₂ T l = record {
      first = record { place = k; below = l; is = add-one (at order k); wanting = omega (arith, T.wanting, missing_same); none_before = H.none_late_lem };
      short_is = T.short_is ∙ missing_same;
    }

    module _ (releases₂ events₂ lacks₂ : List ℕ) (event : ℕ) where
      pub turning_more : (next' : ℕ) → next' ≡ min next event → Passes periods dues runtimes releases₁ events₁ lacks₁ t k releases₂ events₂ lacks₂ event → Turning (k + 1) next' releases₂ events₂ lacks₂
      unfolding event_then release_then lack_then
      turning_more next' e T = record {
        events_are = T.events_are ∙ overwrite_next event_of events k events₁ _ H.events_are (rw (event_same, release_same));
        releases_are = T.releases_are ∙ overwrite_next release_of releases k releases₁ _ H.releases_are (rw (event_same, release_same));
        lacks_are = T.lacks_are ∙ overwrite_next lack_of lacks k lacks₁ _ H.lacks_are (rw (event_same, release_same, lack_same));
        none_late_lem = λ j l. ⊎_elim (H.none_late_lem j) (λ (q : j ≡ k). ap missing q ∙ sym missing_same ∙ T.none) (below_suc j k (omega arith));
        next_is = record {
          no_later = λ j l. ⊎_elim (λ (b : j < k). omega (arith, H.next_is.no_later j b)) (λ (q : j ≡ k). omega (arith, ap event_of q, here)) (below_suc j k (omega arith));
          greatest = λ x l h. omega (arith, H.next_is.greatest x l (λ j b. h j (omega arith)), h k (omega arith), here);
        };
      }
        where
          here : event ≡ event_of k
          here = T.event_is ∙ rw (event_same, release_same)

  pub turning_all : (k next : ℕ) (releases₁ events₁ lacks₁ : List ℕ) → k ≡ n → Turning k next releases₁ events₁ lacks₁
      → AllTurned periods dues runtimes releases events lacks n t releases₁ events₁ lacks₁ next
  turning_all k next releases₁ events₁ lacks₁ e H = record {
    none_late_lem = rw e at H.none_late_lem;
    events_are = rw e at H.events_are;
    releases_are = rw e at H.releases_are;
    lacks_are = rw e at H.lacks_are;
    next_is = rw e at H.next_is;
  }
