-- Slices handed out, with their entries, as laws over plain values: the ways of a branch and the turns of a loop.
use Rattle.std.proofs.Common.{◌≡◌, ℕ, suc, ◌+◌, ◌-◌, ◌<◌, ◌≤◌, min, Bool, false, ◌&&◌, ltb, ◌⊎◌, List, length, set, sym, refl, ap, ◌∙◌, ap₂, inl, inr, ⊎_elim, add-one, arith, le-ltb, lt-ltb}
use Rattle.std.specs.Prelude.{take, drop, ◌++◌}
use Rattle.std.proofs.lemmas.List.{get_or_append_left, get_or-drop, get_or-take, length-append, length-drop, length-take}
use Rattle.std.proofs.Math.Seq.{get_or-append_right}
use Rattle.basis.specs.Bytes.{at, overwrite, overwrite_kept, overwrite_next, overwrite_rest, as_it_was}
use Rattle.basis.specs.Choose.{choose, choose_yes, choose_no, le_or_lt, ltb_same, both_false}
use Rattle.basis.specs.Sum.{sum, sum_grows}
use Rattle.plan.specs.Events.{left, GoesTo}
use Rattle.plan.proofs.Events.{to_come_left}
use Rattle.verdict.specs.Shapes.{until, end_after, Filled, Written, HandedOne, HandedOut}

-- a choice by two tests of which the second fails
not_both : (a b : Bool) (x y : ℕ) → b ≡ false → choose (a && b) x y ≡ y
not_both a b x y f = choose_no (a && b) x y ((both_false a b).1 (λ _. f))

-- ---- a table's entries
pub filled_none : (table : List ℕ) (a entry : ℕ) → Filled table a a entry table
filled_none table a entry = record { long = refl; filled = λ x l u. absurd (omega arith); elsewhere = λ x o. refl }

pub turn_long : (table : List ℕ) (a b : ℕ) → b ≤ length table → length (take (b - a) (drop a table)) ≡ b - a
turn_long table a b fits = omega (arith, length-take (b - a) (drop a table), length-drop a table)

-- Of a turn whose slices all hold the entry.
module _ (table : List ℕ) (a b entry : ℕ) (turn : List ℕ) (le : a ≤ b) (fits : b ≤ length table) (long : length turn ≡ b - a) (all : (k : ℕ) → k < b - a → at turn k ≡ entry) where
  front : length (take a table) ≡ a
  front = omega (arith, length-take a table)

  abbrev rest : List ℕ
  rest = turn ++ drop (b - a) (drop a table)

  behind_front : (x : ℕ) → a ≤ x → at (take a table ++ rest) x ≡ at rest (x - a)
  behind_front x l = get_or-append_right (take a table) rest x 0 (omega (arith, front)) ∙ ap (λ (j : ℕ). at rest (x - j)) front

  behind_turn : (x : ℕ) → b ≤ x → at rest (x - a) ≡ at table x
  behind_turn x l =
      get_or-append_right turn (drop (b - a) (drop a table)) (x - a) 0 (omega (arith, long))
      ∙ get_or-drop (b - a) (drop a table) (x - a - length turn) 0
      ∙ get_or-drop a table (b - a + (x - a - length turn)) 0
      ∙ ap (at table) (omega (arith, long))

  pub filled_turn : Filled table a b entry (take a table ++ rest)
  filled_turn = record {
    long = omega (arith, length-append (take a table) rest, length-append turn (drop (b - a) (drop a table)), length-drop (b - a) (drop a table), length-drop a table, front, long);
    filled = λ x la lb. behind_front x la ∙ get_or_append_left turn (drop (b - a) (drop a table)) 0 (x - a) (omega (arith, long)) ∙ all (x - a) (omega arith);
    elsewhere = λ x o.
        ⊎_elim
        (λ (l : x < a). get_or_append_left (take a table) rest 0 x (omega (arith, front)) ∙ get_or-take a table x 0 l)
        (λ (l : b ≤ x). behind_front x (omega arith) ∙ behind_turn x l)
        o;
  }

-- ---- a turn
module _ (order dues lacks ends table : List ℕ) (k t from next : ℕ) where
  end_kept : (r : ℕ) → (at dues k ≤ t) ⊎ (r ≤ from) → ends ≡ set ends k (choose (ltb t (at dues k) && ltb from r) r (at ends k))
  end_kept r (inl l) = as_it_was ends k _ (choose_no _ _ _ (ap (λ (b : Bool). b && ltb from r) (le-ltb t (at dues k) l)))
  end_kept r (inr l) = as_it_was ends k _ (not_both (ltb t (at dues k)) (ltb from r) r (at ends k) (le-ltb from r l))

  pub no_turn : at lacks k ≡ 0 → HandedOne order dues lacks ends table k t from next lacks ends table from
  no_turn z = record { to_is = omega arith; lacks_are = as_it_was lacks k _ (omega arith); ends_are = end_kept from (inr (omega arith)); writes = λ _. filled_none table from _ }

  module _ (take : ℕ) (is : take ≡ min (at lacks k) (next - from)) (ahead : from < next) (table' : List ℕ) (filled : from + take ≤ length table → Filled table from (from + take) (at order k + 1) table') where
    lacks_so : set lacks k (at lacks k - take) ≡ set lacks k (at lacks k - min (at lacks k) (next - from))
    lacks_so = ap (λ (x : ℕ). set lacks k (at lacks k - x)) is

    pub turn_of_later_job : at dues k ≤ t → HandedOne order dues lacks ends table k t from next (set lacks k (at lacks k - take)) ends table' (from + take)
    turn_of_later_job l = record { to_is = ap (λ (x : ℕ). from + x) is; lacks_are = lacks_so; ends_are = end_kept (from + take) (inl l); writes = λ room. filled (omega arith) }

    pub turn_of_first_job : t < at dues k → (at lacks k ≡ 0 → ⊥) → HandedOne order dues lacks ends table k t from next (set lacks k (at lacks k - take)) (set ends k (from + take)) table' (from + take)
    turn_of_first_job l nz = record {
      to_is = ap (λ (x : ℕ). from + x) is;
      lacks_are = lacks_so;
      ends_are = ap (set ends k) (sym (choose_yes _ _ _ (ap₂ ◌&&◌ (lt-ltb t (at dues k) l) (lt-ltb from (from + take) (omega arith)))));
      writes = λ room. filled (omega arith);
    }

-- ---- all turns up to the next event
-- Before the turn at place k, which begins at a slice before the next event.
pub record Handing (order dues lacks ends table : List ℕ) (n t next k from : ℕ) (lacks₁ ends₁ table₁ : List ℕ) : Type 0 where
  pub from_is : from ≡ t + sum (at lacks) k
  pub from_before : from < next
  pub lacks_are : lacks₁ ≡ overwrite (λ j. left (at lacks) j (next - t)) k lacks
  pub ends_are : ends₁ ≡ overwrite (end_after dues lacks ends t (next - t)) k ends
  pub writes : next ≤ length table → Written order lacks table n t from table₁

module _ (order dues lacks ends table : List ℕ) (n t next : ℕ) (ahead : t < next) where
  abbrev m : ℕ
  m = next - t

  abbrev HandingAt : ℕ → ℕ → List ℕ → List ℕ → List ℕ → Type 0
  HandingAt = Handing order dues lacks ends table n t next

  pub handing_none : HandingAt 0 t lacks ends table
  unfolding sum overwrite
  handing_none = record {
    from_is = omega arith;
    from_before = ahead;
    lacks_are = refl;
    ends_are = refl;
    writes = λ _. record { long = refl; entries = λ s l. absurd (omega arith); elsewhere = λ x o. refl };
  }

  module _ (k from : ℕ) (lacks₁ ends₁ table₁ : List ℕ) (H : HandingAt k from lacks₁ ends₁ table₁) (lk : k < n) (lacks₂ ends₂ table₂ : List ℕ) (r : ℕ) (T : HandedOne order dues lacks₁ ends₁ table₁ k t from next lacks₂ ends₂ table₂ r) where
    lack_same : at lacks₁ k ≡ at lacks k
    lack_same = ap (λ (l : List ℕ). at l k) H.lacks_are ∙ overwrite_kept _ lacks 0 k k (omega arith)

    end_same : at ends₁ k ≡ at ends k
    end_same = ap (λ (l : List ℕ). at l k) H.ends_are ∙ overwrite_kept _ ends 0 k k (omega arith)

    turn_until : r ≡ t + until (at lacks) k m
    unfolding until sum
    turn_until = omega (arith, T.to_is, lack_same, H.from_is, H.from_before)

    lacks_then : lacks₂ ≡ overwrite (λ j. left (at lacks) j m) (k + 1) lacks
    unfolding left
    lacks_then = T.lacks_are ∙ overwrite_next (λ j. left (at lacks) j m) lacks k lacks₁ _ H.lacks_are (omega (arith, lack_same, H.from_is, H.from_before))

    ends_then : ends₂ ≡ overwrite (end_after dues lacks ends t m) (k + 1) ends
    unfolding end_after
    ends_then =
        T.ends_are
        ∙ overwrite_next (end_after dues lacks ends t m) ends k ends₁ _ H.ends_are
        (ap₂ (λ (b : Bool) (x : ℕ). choose (ltb t (at dues k) && b) x (at ends₁ k)) same_test turn_until ∙ ap (λ (x : ℕ). choose (ltb t (at dues k) && ltb (sum (at lacks) k) (until (at lacks) k m)) (t + until (at lacks) k m) x) end_same)
      where
        same_test : ltb from r ≡ ltb (sum (at lacks) k) (until (at lacks) k m)
        same_test = ltb_same from r (sum (at lacks) k) (until (at lacks) k m) (λ l. omega (arith, turn_until, H.from_is)) (λ l. omega (arith, turn_until, H.from_is))

    writes_then : next ≤ length table → Written order lacks table n t r table₂
    unfolding GoesTo until
    writes_then room =
        let w = H.writes room in
        let f = T.writes (omega (arith, w.long)) in
        record {
          long = f.long ∙ w.long;
          entries = λ s l.
              ⊎_elim
              (λ (new : from ≤ t + s).
              inr (record { place = k; below = lk; is = f.filled (t + s) new l ∙ add-one (at order k); begun = omega (arith, H.from_is); not_over = omega (arith, turn_until) }))
              (λ (old : t + s < from). rw (f.elsewhere (t + s) (inl old)) (w.entries s old))
              (le_or_lt from (t + s));
          elsewhere = λ x o.
              ⊎_elim
              (λ (l : x < t). f.elsewhere x (inl (omega (arith, H.from_is))) ∙ w.elsewhere x (inl l))
              (λ (l : r ≤ x). f.elsewhere x (inr l) ∙ w.elsewhere x (inr (omega (arith, T.to_is))))
              o;
        }

    pub handing_more : (r ≡ next → ⊥) → HandingAt (k + 1) r lacks₂ ends₂ table₂
    unfolding until
    handing_more ne = record {
      from_is = omega (arith, turn_until, ap (sum (at lacks)) (add-one k));
      from_before = omega (arith, turn_until);
      lacks_are = lacks_then;
      ends_are = ends_then;
      writes = writes_then;
    }

    -- the next event comes in this turn: those behind get nothing
    pub handed_out : r ≡ next → HandedOut order dues lacks ends table n t next lacks₂ ends₂ table₂
    unfolding until end_after
    handed_out e = record {
      lacks_are = lacks_then ∙ sym (overwrite_rest (λ j. left (at lacks) j m) lacks 0 (k + 1) n (omega arith) (λ j a b. to_come_left (at lacks) j m (behind j a)));
      ends_are = ends_then ∙ sym (overwrite_rest (end_after dues lacks ends t m) ends 0 (k + 1) n (omega arith) (λ j a b. not_both (ltb t (at dues j)) (ltb (sum (at lacks) j) (until (at lacks) j m)) (t + until (at lacks) j m) (at ends j) (le-ltb (sum (at lacks) j) (until (at lacks) j m) (omega (arith, behind j a)))));
      writes = λ room _. rw e at (writes_then room);
    }
      where
        behind : (j : ℕ) → k + 1 ≤ j → m ≤ sum (at lacks) j
        behind j a = omega (arith, turn_until, sum_grows (at lacks) (suc k) j (omega arith))

  -- All have had their turn: the slices left over stay idle.
  pub handed_all : (k from : ℕ) (lacks₁ ends₁ table₁ : List ℕ) → k ≡ n → HandingAt k from lacks₁ ends₁ table₁ → HandedOut order dues lacks ends table n t next lacks₁ ends₁ table₁
  unfolding GoesTo
  handed_all k from lacks₁ ends₁ table₁ e H = record {
    lacks_are = rw e at H.lacks_are;
    ends_are = rw e at H.ends_are;
    writes = λ room blank.
        let w = H.writes room in
        record {
          long = w.long;
          entries = λ s l.
              ⊎_elim
              (λ (new : from ≤ t + s). inl (record { idle = w.elsewhere (t + s) (inr new) ∙ blank (t + s) (omega arith); all_had = omega (arith, H.from_is, ap (sum (at lacks)) e) }))
              (λ (old : t + s < from). w.entries s old)
              (le_or_lt from (t + s));
          elsewhere = λ x o. w.elsewhere x (⊎_elim (λ (l : x < t). inl l) (λ (l : next ≤ x). inr (omega (arith, H.from_before))) o);
        };
  }
