-- What may follow the beginning of a text: line by line, where the text of a run stands so far.
use Rattle.std.specs.Prelude.{◌≡◌, refl, ℕ, zero, suc, ◌+◌, ◌-◌, ◌*◌, ◌/◌, ◌≤◌, ◌<◌, eqb, length, drop, replicate}
use Rattle.std.proofs.Common.{sym, subst, ◌∙◌, ⊎_elim, arith, mod-eq_of_lt, length-append, get_or-append-add, eq-eqb, ne_eqb}
use Rattle.std.proofs.Math.Path.{ap}
use mathlib.Core.List.{List, [], ◌∷◌, ◌++◌, append_assoc, append-nil}
use Rattle.std.proofs.Math.Nat.{div-div-eq-div-mul}
use Rattle.std.proofs.lemmas.List.{length-replicate, get_or-replicate}
use Rattle.std.proofs.Math.ListN.{get_or-append}
use Rattle.std.proofs.Math.Seq.{drop-append_seam}
use Rattle.basis.specs.Bytes.{at}
use Rattle.basis.specs.Choose.{choose, choose_yes, choose_no, eq_or_ne, le_or_lt}
use Rattle.printing.specs.Text.{digit}
use Rattle.vcd.specs.Form.{IsRun, header, time_line, value_line, changes_from, no_entry, vcd_text, OfRun}

-- ---- lines tell their numbers
pub cancel : (p u w : List ℕ) → p ++ u ≡ p ++ w → u ≡ w
cancel p u w e = sym (drop-append_seam p u) ∙ ap (drop (length p)) e ∙ drop-append_seam p w

-- The number that a line's digits write.
time_of : List ℕ → ℕ
time_of l = 1000 * (at l 1 - 48) + 100 * (at l 2 - 48) + 10 * (at l 3 - 48) + (at l 4 - 48)

value_of : List ℕ → ℕ
value_of l = 16 * (at l 1 - 48) + 8 * (at l 2 - 48) + 4 * (at l 3 - 48) + 2 * (at l 4 - 48) + (at l 5 - 48)

time_of_lem : (t : ℕ) (u : List ℕ) → t ≤ 4096 → time_of (time_line t ++ u) ≡ t
unfolding time_line digit time_of
time_of_lem t u l = let top : t / 1000 < 10 = omega arith in omega (arith, mod-eq_of_lt top, div-div-eq-div-mul t 10 10, div-div-eq-div-mul t 100 10)

value_of_lem : (v : ℕ) (u : List ℕ) → v ≤ 16 → value_of (value_line v ++ u) ≡ v
unfolding value_line digit value_of
value_of_lem v u l = let top : v / 16 < 2 = omega arith in omega (arith, mod-eq_of_lt top, div-div-eq-div-mul v 2 2, div-div-eq-div-mul v 4 2, div-div-eq-div-mul v 8 2)

module _ (a b : ℕ) (u w : List ℕ) where
  pub time_told : a ≤ 4096 → b ≤ 4096 → time_line a ++ u ≡ time_line b ++ w → (a ≡ b) × (u ≡ w)
  unfolding time_line
  time_told la lb e = (sym (time_of_lem a u la) ∙ ap time_of e ∙ time_of_lem b w lb, ap (drop 6) e)

  pub value_told : a ≤ 16 → b ≤ 16 → value_line a ++ u ≡ value_line b ++ w → (a ≡ b) × (u ≡ w)
  unfolding value_line
  value_told la lb e = (sym (value_of_lem a u la) ∙ ap value_of e ∙ value_of_lem b w lb, ap (drop 9) e)

-- ---- from slice t on
module _ (t before e : ℕ) (run : List ℕ) where
  pub unchanged : e ≡ before → changes_from t before (e ∷ run) ≡ changes_from (suc t) e run
  unfolding changes_from
  unchanged s = ap (λ (l : List ℕ). l ++ changes_from (suc t) e run) (choose_yes (eqb e before) [] _ (eq-eqb e before s))

  pub changed : (e ≡ before → ⊥) → changes_from t before (e ∷ run) ≡ time_line t ++ (value_line e ++ changes_from (suc t) e run)
  unfolding changes_from
  changed ne =
      ap (λ (l : List ℕ). l ++ changes_from (suc t) e run) (choose_no (eqb e before) [] _ (ne_eqb e before ne))
      ∙ append_assoc (time_line t) (value_line e) (changes_from (suc t) e run)

-- A change at slice t to entry v, which lasts to slice t'.
pub record Change (t before v t' : ℕ) : Type 0 where
  pub entry : v ≤ 16
  pub other : v ≡ before → ⊥
  pub later : t < t'
  pub within : t' ≤ 4096

-- What may follow the time line of slice t, where the entry before it was `before`: nothing, if that is not slice 0; or a value,
-- the time line of a later slice, and what may follow that.
pub data After : ℕ → ℕ → List ℕ → Type 0 where
  end : {t before : ℕ} → 1 ≤ t → After t before []
  change : {t before v t' : ℕ} {w : List ℕ} → Change t before v t' → After t' v w → After t before (value_line v ++ (time_line t' ++ w))

-- A text that begins with a time line, of slice t or later, and goes on as it may.
pub record Onward (t before : ℕ) (text : List ℕ) : Type 0 where
  pub time : ℕ
  pub rest : List ℕ
  pub from : t ≤ time
  pub within : time ≤ 4096
  pub is : text ≡ time_line time ++ rest
  pub after : After time before rest

change_onward : (t before e : ℕ) (text : List ℕ) → e ≤ 16 → (e ≡ before → ⊥) → Onward (suc t) e text → After t before (value_line e ++ text)
change_onward t before e text le ne o =
    subst (λ (x : List ℕ). After t before (value_line e ++ x)) (sym o.is)
    (change (record { entry = le; other = ne; later = o.from; within = o.within }) o.after)

pub onward : (run : List ℕ) (t before : ℕ) → 1 ≤ t + length run → t + length run ≤ 4096 → ((i : ℕ) → i < length run → at run i ≤ 16) → Onward t before (changes_from t before run)
unfolding changes_from
onward [] t before some few entries = let some-time : 1 ≤ t = omega arith in record { time = t; rest = []; from = omega arith; within = omega arith; is = sym (append-nil (time_line t)); after = end some-time }
onward (e ∷ run) t before some few entries =
    let o = onward run (suc t) e (omega arith) (omega arith) (λ i l. entries (suc i) (omega arith)) in
    ⊎_elim
    (λ (s : e ≡ before).
    record {
      time = o.time;
      rest = o.rest;
      from = omega (arith, o.from);
      within = o.within;
      is = unchanged t before e run s ∙ o.is;
      after = subst (λ (x : ℕ). After o.time x o.rest) s o.after;
    })
    (λ (ne : e ≡ before → ⊥).
    record {
      time = t;
      rest = value_line e ++ changes_from (suc t) e run;
      from = omega arith;
      within = omega arith;
      is = changed t before e run ne;
      after = change_onward t before e (changes_from (suc t) e run) (entries 0 (omega arith)) ne o;
    })
    (eq_or_ne e before)

-- ---- the beginning that all texts share
-- The header, and slice 0.
unfoldable pub beginning : List ℕ
beginning = header ++ time_line 0

-- The form of some run.
abbrev pub Form : List ℕ → Type 0
Form w = (run : List ℕ) × OfRun w run

run_begins : (run : List ℕ) → IsRun run → (w : List ℕ) × (vcd_text run ≡ beginning ++ w) × After 0 no_entry w
unfolding vcd_text beginning
run_begins [] r = absurd (omega (arith, r.some))
run_begins (e ∷ run) r =
    let le : e ≤ 16 = r.entries 0 (omega arith) in
    let ne : e ≡ no_entry → ⊥ = λ s. omega arith in
    let o = onward run 1 e (omega arith) (omega (arith, r.within)) (λ i l. r.entries (suc i) (omega arith)) in (
      value_line e ++ changes_from 1 e run,
      ap (λ (l : List ℕ). header ++ l) (changed 0 no_entry e run ne) ∙ sym (append_assoc header (time_line 0) _),
      change_onward 0 no_entry e (changes_from 1 e run) le ne o,
    )

pub form_begins : (file : List ℕ) → Form file → (w : List ℕ) × (file ≡ beginning ++ w) × After 0 no_entry w
form_begins file (run, of) = let h = run_begins run of.is_run in (h.0, of.is_text ∙ h.1, h.2)

-- After the beginning, slice 0 has a change.
pub after_beginning : (w : List ℕ) → Form (beginning ++ w) → After 0 no_entry w
after_beginning w form =
    let h = form_begins (beginning ++ w) form in
    subst (After 0 no_entry) (sym (cancel beginning w h.0 h.1)) h.2

-- After a change, what may follow it.
after_lines : (v t' : ℕ) (w u : List ℕ) {t before : ℕ} → v ≤ 16 → t' ≤ 4096 → After t before u → u ≡ value_line v ++ (time_line t' ++ w) → After t' v w
unfolding value_line
after_lines v t' w u lv lt (end some) e = let z : ◌≡◌ {A = ℕ} 0 98 = ap (λ (l : List ℕ). at l 0) e in absurd (omega arith)
after_lines v t' w u lv lt (change {v = x} {t' = s} {w = y} c a) e =
    let h = value_told x v (time_line s ++ y) (time_line t' ++ w) c.entry lv e in
    let k = time_told s t' y w c.within lt h.1 in
    subst (λ (l : List ℕ). After t' v l) k.1 (subst (λ (i : ℕ). After i v y) k.0 (subst (λ (i : ℕ). After s i y) h.0 a))

pub after_change : (v t' : ℕ) (w : List ℕ) {t before : ℕ} → v ≤ 16 → t' ≤ 4096 → After t before (value_line v ++ (time_line t' ++ w)) → After t' v w
after_change v t' w lv lt a = after_lines v t' w (value_line v ++ (time_line t' ++ w)) lv lt a refl

-- ---- the run so far
-- The last entry of a run, or the one before it if it is empty.
unfoldable pub last_or : ℕ → List ℕ → ℕ
last_or before [] = before
last_or before (e ∷ run) = last_or e run

-- The first t entries, of which the last one is `before`.
pub record SoFar (run : List ℕ) (t before : ℕ) : Type 0 where
  pub length_is : length run ≡ t
  pub last_is : last_or no_entry run ≡ before
  pub entries : (i : ℕ) → i < length run → at run i ≤ 16

pub none_so_far : SoFar [] 0 no_entry
unfolding last_or
none_so_far = record { length_is = refl; last_is = refl; entries = λ i l. absurd (omega arith) }

no_changes : (m t v : ℕ) → changes_from t v (replicate m v) ≡ time_line (t + m)
unfolding changes_from
no_changes zero t v = ap time_line (omega arith)
no_changes (suc m) t v = unchanged t v v (replicate m v) refl ∙ no_changes m (suc t) v ∙ ap time_line (omega arith)

-- One entry for some slices more is one change more.
changes_grow : (run : List ℕ) (t before m v : ℕ) → (v ≡ last_or before run → ⊥) → changes_from t before (run ++ replicate (suc m) v) ≡ changes_from t before run ++ (value_line v ++ time_line (t + length run + suc m))
unfolding changes_from last_or
changes_grow [] t before m v ne =
    changed t before v (replicate m v) ne ∙ ap (λ (l : List ℕ). time_line t ++ (value_line v ++ l)) (no_changes m (suc t) v ∙ ap time_line (omega arith))
changes_grow (e ∷ run) t before m v ne =
    ap (λ (l : List ℕ). choose (eqb e before) [] (time_line t ++ value_line e) ++ l)
    (changes_grow run (suc t) e m v ne ∙ ap (λ (x : ℕ). changes_from (suc t) e run ++ (value_line v ++ time_line x)) (omega arith))
    ∙ sym (append_assoc (choose (eqb e before) [] (time_line t ++ value_line e)) (changes_from (suc t) e run) _)

pub text_grows : (run : List ℕ) (m v : ℕ) → (v ≡ last_or no_entry run → ⊥) → vcd_text (run ++ replicate (suc m) v) ≡ vcd_text run ++ (value_line v ++ time_line (length run + suc m))
unfolding vcd_text
text_grows run m v ne =
    ap (λ (l : List ℕ). header ++ l) (changes_grow run 0 no_entry m v ne ∙ ap (λ (x : ℕ). changes_from 0 no_entry run ++ (value_line v ++ time_line x)) (omega arith))
    ∙ sym (append_assoc header (changes_from 0 no_entry run) _)

last_same : (m v : ℕ) → last_or v (replicate m v) ≡ v
unfolding last_or
last_same zero v = refl
last_same (suc m) v = last_same m v

last_grows : (run : List ℕ) (before m v : ℕ) → last_or before (run ++ replicate (suc m) v) ≡ v
unfolding last_or
last_grows [] before m v = last_same m v
last_grows (e ∷ run) before m v = last_grows run e m v

module _ {run : List ℕ} {t before v t' : ℕ} (so : SoFar run t before) (c : Change t before v t') where
  grown : (i : ℕ) → i < length (run ++ replicate (t' - t) v) → at (run ++ replicate (t' - t) v) i ≤ 16
  grown i l =
      ⊎_elim
      (λ (h : length run ≤ i).
      let e : length run + (i - length run) ≡ i = omega arith in
      let k : i - length run < t' - t = omega (arith, length-append run (replicate (t' - t) v), length-replicate (t' - t) v) in
      omega
      (arith, c.entry, ap (at (run ++ replicate (t' - t) v)) e, get_or-append-add run (replicate (t' - t) v) (i - length run) 0, get_or-replicate (t' - t) (i - length run) v 0 k))
      (λ (h : i < length run). omega (arith, get_or-append run (replicate (t' - t) v) 0 i h, so.entries i h))
      (le_or_lt (length run) i)

  pub so_far_grows : SoFar (run ++ replicate (t' - t) v) t' v
  so_far_grows =
      let e : t' - t ≡ suc (t' - t - 1) = omega (arith, c.later) in
      record {
        length_is = omega (arith, so.length_is, c.later, length-append run (replicate (t' - t) v), length-replicate (t' - t) v);
        last_is = ap (λ (m : ℕ). last_or no_entry (run ++ replicate m v)) e ∙ last_grows run no_entry (t' - t - 1) v;
        entries = grown;
      }

  pub text_so_far : vcd_text (run ++ replicate (t' - t) v) ≡ vcd_text run ++ (value_line v ++ time_line t')
  text_so_far =
      let e : t' - t ≡ suc (t' - t - 1) = omega (arith, c.later) in
      ap (λ (m : ℕ). vcd_text (run ++ replicate m v)) e
      ∙ text_grows run (t' - t - 1) v (λ s. c.other (s ∙ so.last_is))
      ∙ ap (λ (x : ℕ). vcd_text run ++ (value_line v ++ time_line x)) (omega (arith, so.length_is, c.later))

pub text_of_none : vcd_text [] ≡ beginning
unfolding vcd_text beginning changes_from
text_of_none = refl

pub is_run : (run : List ℕ) (t before : ℕ) → SoFar run t before → 1 ≤ t → t ≤ 4096 → IsRun run
is_run run t before so some few = record { some = omega (arith, so.length_is); within = omega (arith, so.length_is); entries = so.entries }

-- What may follow does: it makes the text of a run.
pub after_makes : {t before : ℕ} {w : List ℕ} → After t before w → t ≤ 4096 → (run : List ℕ) → SoFar run t before → Form (vcd_text run ++ w)
after_makes {t} {before} (end some) few run so = (run, record { is_run = is_run run t before so some few; is_text = append-nil (vcd_text run) })
after_makes {t} (change {v = v} {t' = t'} {w = w} c a) few run so =
    subst Form
    (ap (λ (l : List ℕ). l ++ w) (text_so_far so c) ∙ append_assoc (vcd_text run) (value_line v ++ time_line t') w ∙ ap (λ (l : List ℕ). vcd_text run ++ l) (append_assoc (value_line v) (time_line t') w))
    (after_makes a c.within (run ++ replicate (t' - t) v) (so_far_grows so c))
