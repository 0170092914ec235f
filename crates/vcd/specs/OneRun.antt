-- A text is the form of one run alone.
use Rattle.std.specs.Prelude.{◌≡◌, refl, List, [], ◌∷◌, ◌++◌, ℕ, suc, ◌+◌, ◌≤◌, ◌<◌, length}
use Rattle.std.proofs.Common.{sym, ap, ap₂, ◌∙◌, append-nil, ⊎_elim, arith}
use Rattle.basis.specs.Bytes.{at}
use Rattle.basis.specs.Choose.{eq_or_ne}
use Rattle.vcd.specs.Form.{IsRun, header, time_line, value_line, changes_from, no_entry, vcd_text, OfRun}
use Rattle.vcd.specs.Follows.{cancel, time_told, value_told, unchanged, changed, onward}

-- Entries from slice t on that a text can hold.
record Holds (t : ℕ) (run : List ℕ) : Type 0 where
  few : t + length run ≤ 4096
  entries : (i : ℕ) → i < length run → at run i ≤ 16

tail : {t e : ℕ} {run : List ℕ} → Holds t (e ∷ run) → Holds (suc t) run
tail h = record { few = omega (arith, h.few); entries = λ i l. h.entries (suc i) (omega arith) }

-- Where the entry stays, no time line of slice t comes.
stays : (t before e : ℕ) (run u : List ℕ) → Holds t (e ∷ run) → e ≡ before → changes_from t before (e ∷ run) ≡ time_line t ++ u → ⊥
stays t before e run u h s eq =
    let o = onward run (suc t) e (omega arith) (omega (arith, h.few)) (λ i l. h.entries (suc i) (omega arith)) in
    omega (arith, o.from, (time_told o.time t o.rest u o.within (omega (arith, h.few)) (sym o.is ∙ sym (unchanged t before e run s) ∙ eq)).0)

-- Where it changes, more than a time line comes.
goes_on : (t before e : ℕ) (run : List ℕ) → Holds t (e ∷ run) → changes_from t before (e ∷ run) ≡ time_line t → ⊥
unfolding value_line
goes_on t before e run h eq =
    ⊎_elim
    (λ (s : e ≡ before). stays t before e run [] h s (eq ∙ sym (append-nil (time_line t))))
    (λ (ne : e ≡ before → ⊥).
    let z = cancel (time_line t) _ [] (sym (changed t before e run ne) ∙ eq ∙ sym (append-nil (time_line t))) in
    let n : ◌≡◌ {A = ℕ} 98 0 = ap (λ (l : List ℕ). at l 0) z in
    omega arith)
    (eq_or_ne e before)

same_changes : (a b : List ℕ) (t before : ℕ) → Holds t a → Holds t b → changes_from t before a ≡ changes_from t before b → a ≡ b
unfolding changes_from
same_changes [] [] t before ha hb e = refl
same_changes [] (y ∷ b) t before ha hb e = absurd (goes_on t before y b hb (sym e))
same_changes (x ∷ a) [] t before ha hb e = absurd (goes_on t before x a ha e)
same_changes (x ∷ a) (y ∷ b) t before ha hb e =
    ⊎_elim
    (λ (sx : x ≡ before).
    ⊎_elim
    (λ (sy : y ≡ before).
    let xy : x ≡ y = sx ∙ sym sy in
    ap₂ (λ (i : ℕ) (l : List ℕ). i ∷ l) xy
    (same_changes a b (suc t) y (tail ha) (tail hb)
    (ap (λ (i : ℕ). changes_from (suc t) i a) (sym xy) ∙ sym (unchanged t before x a sx) ∙ e ∙ unchanged t before y b sy)))
    (λ (ny : y ≡ before → ⊥). absurd (stays t before x a _ ha sx (e ∙ changed t before y b ny)))
    (eq_or_ne y before))
    (λ (nx : x ≡ before → ⊥).
    ⊎_elim
    (λ (sy : y ≡ before). absurd (stays t before y b _ hb sy (sym e ∙ changed t before x a nx)))
    (λ (ny : y ≡ before → ⊥).
    let u = cancel (time_line t) _ _ (sym (changed t before x a nx) ∙ e ∙ changed t before y b ny) in
    let v = value_told x y _ _ (ha.entries 0 (omega arith)) (hb.entries 0 (omega arith)) u in
    ap₂ (λ (i : ℕ) (l : List ℕ). i ∷ l) v.0
    (same_changes a b (suc t) y (tail ha) (tail hb) (ap (λ (i : ℕ). changes_from (suc t) i a) (sym v.0) ∙ v.1)))
    (eq_or_ne y before))
    (eq_or_ne x before)

holds : (run : List ℕ) → IsRun run → Holds 0 run
holds run r = record { few = omega (arith, r.within); entries = r.entries }

pub one_run : (a b : List ℕ) → vcd_text a ≡ vcd_text b → IsRun a → IsRun b → a ≡ b
unfolding vcd_text
one_run a b e ra rb = same_changes a b 0 no_entry (holds a ra) (holds b rb) (cancel header _ _ e)

pub of_one_run : (file a b : List ℕ) → OfRun file a → OfRun file b → a ≡ b
of_one_run file a b fa fb = one_run a b (sym fa.is_text ∙ fb.is_text) fa.is_run fb.is_run
