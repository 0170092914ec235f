-- A line as it is read comes to a task exactly if it is in form, and then to its own.
use Rattle.std.specs.Prelude.{◌≡◌, refl, true, false, Option, Some, None, ℕ, suc, ◌+◌, ◌-◌, ◌*◌, ◌^◌, ◌≤◌, ◌<◌, eqb, leb, length, get_or, unwrap_or}
use Rattle.std.proofs.Common.{sym, ◌∙◌, true≢false, inl, inr, ⊎_elim, arith, pow-suc, length-append}
use Rattle.std.proofs.Math.Path.{ap, subst}
use Rattle.std.proofs.lemmas.Option.{none-some, same_Some}
use mathlib.Core.List.{List, [], ◌∷◌, ◌++◌, append-nil, append_assoc}
use Rattle.std.proofs.Math.Nat.{pow-le-pow_right}
use Rattle.std.proofs.Math.ListN.{get_or-append}
use Rattle.std.proofs.Math.Seq.{get_or-append_seam}
use borrow.Author.Tests.{eq-eqb, ne_eqb, le-leb, lt-leb, leb-false}
use Rattle.basis.specs.Choose.{bool_cases, both_true, either_false, eq_or_ne, le_or_lt, below_suc}
use Rattle.tasks.specs.declared.Task.{Task}
use Rattle.records.specs.declared.Place.{Place}
use Rattle.records.specs.declared.Place.TheVariants.{Period, Runtime, Memory, Deadline}
use Rattle.records.specs.declared.Line.{Line}
use Rattle.records.specs.Grammar.{comma, '0', '9', value_after, Field, Fields, one, more, Row}
use Rattle.records.specs.Shapes.{fresh, full, with_digit, next_place, opened, is_digit, digit_tells, with_byte, line_from, made_of, row_of}

-- ---- a field so far
-- A field as far as it is read: how its value goes with its length, and that it is 0 exactly if it begins with "0".
pub record Open (p : List ℕ) (v : ℕ) : Type 0 where
  pub field : Field p v
  pub below : v < 10 ^ length p
  pub above : 0 < v → 10 ^ length p ≤ v * 10
  pub zero_leads : v ≡ 0 → get_or p 0 0 ≡ '0'
  pub leading_zero : get_or p 0 0 ≡ '0' → v ≡ 0

-- Nothing of a field is read yet, or so many digits.
pub data Began : List ℕ → Option ℕ → Type 0 where
  none : Began [] None
  some : {p : List ℕ} {v : ℕ} → Open p v → Began p (Some v)

began_field : {p : List ℕ} {v : ℕ} → Began p (Some v) → Field p v
began_field (some begun) = begun.field

began_all : {p : List ℕ} {o : Option ℕ} {w : ℕ} → Began p o → Field p w → o ≡ Some w
began_all none field = absurd (omega (arith, field.one_or_more))
began_all (some begun) field = ap Some (begun.field.worth ∙ sym field.worth)

-- one digit more
value_more : (p : List ℕ) (v b : ℕ) → value_after v (p ++ b ∷ []) ≡ value_after v p * 10 + (b - '0')
unfolding value_after
value_more [] v b = refl
value_more (a ∷ p) v b = value_more p (v * 10 + (a - '0')) b

not_zero : (v : ℕ) → full (Some v) ≡ false → v ≡ 0 → ⊥
not_zero v h z = true≢false (sym (eq-eqb v 0 z) ∙ ((either_false (eqb v 0) _).0 h).0)

not_full : (v : ℕ) → full (Some v) ≡ false → v < 100000000
not_full v h = leb-false 100000000 v ((either_false (eqb v 0) _).0 h).1

-- a field with room for one digit more
room_short : (p : List ℕ) (v : ℕ) → Open p v → full (Some v) ≡ false → length p ≤ 8
room_short p v begun h =
    ⊎_elim
    (λ (l : length p ≤ 8). l)
    (λ (l : 8 < length p). absurd (omega (arith, not_full v h, begun.above (omega (arith, not_zero v h)), pow-le-pow_right {n = 10} (omega arith) {i = 9} {j = length p} l)))
    (le_or_lt (length p) 8)

one_digit : (b : ℕ) → '0' ≤ b → b ≤ '9' → Open (b ∷ []) (0 * 10 + (b - '0'))
unfolding value_after
one_digit b from to = record {
  field = record {
    digits = λ i l. let z : i ≡ 0 = omega arith in rw z (from, to);
    one_or_more = omega arith;
    nine_or_fewer = omega arith;
    no_leading_zero = λ _. refl;
    worth = refl;
  };
  below = omega arith;
  above = λ l. omega arith;
  zero_leads = λ z. let e : b ≡ '0' = omega arith in e;
  leading_zero = λ e. let z : b ≡ '0' = e in omega arith;
}

one_digit_more : (p : List ℕ) (v b : ℕ) → Open p v → full (Some v) ≡ false → '0' ≤ b → b ≤ '9' → Open (p ++ b ∷ []) (v * 10 + (b - '0'))
one_digit_more p v b begun h from to =
    let nz = not_zero v h in
    let n : length (p ++ b ∷ []) ≡ suc (length p) = length-append p (b ∷ []) ∙ omega arith in
    let first : get_or (p ++ b ∷ []) 0 0 ≡ get_or p 0 0 = get_or-append p (b ∷ []) 0 0 begun.field.one_or_more in
    record {
      field = record {
        digits = λ i l.
            ⊎_elim
            (λ (k : i < length p). rw (get_or-append p (b ∷ []) 0 i k) (begun.field.digits i k))
            (λ (e : i ≡ length p). rw (e, get_or-append_seam p b [] 0) (from, to))
            (below_suc i (length p) (omega arith));
        one_or_more = omega arith;
        nine_or_fewer = omega (arith, room_short p v begun h);
        no_leading_zero = λ e. absurd (nz (begun.leading_zero (sym first ∙ e)));
        worth = ap (λ (x : ℕ). x * 10 + (b - '0')) begun.field.worth ∙ sym (value_more p 0 b);
      };
      below = rw (n, pow-suc 10 (length p)) (omega (arith, begun.below));
      above = λ _. rw (n, pow-suc 10 (length p)) (omega (arith, begun.above (omega arith)));
      zero_leads = λ z. absurd (nz (omega arith));
      leading_zero = λ e. absurd (nz (begun.leading_zero (sym first ∙ e)));
    }

began_more : {p : List ℕ} {o : Option ℕ} → Began p o → (b : ℕ) → full o ≡ false → '0' ≤ b → b ≤ '9' → Began (p ++ b ∷ []) (Some (unwrap_or o 0 * 10 + (b - '0')))
began_more none b h from to = some (one_digit b from to)
began_more (some {p = p} {v = v} begun) b h from to = some (one_digit_more p v b begun h from to)

-- Within a field there is room for its next digit.
room : {p : List ℕ} {o : Option ℕ} → Began p o → (b : ℕ) (rest : List ℕ) (w : ℕ) → Field (p ++ b ∷ rest) w → full o ≡ false
room none b rest w field = refl
room (some {p = p} {v = v} begun) b rest w field =
    let n : length (p ++ b ∷ rest) ≡ length p + suc (length rest) = length-append p (b ∷ rest) in
    ⊎_elim
    (λ (z : v ≡ 0).
    absurd (omega (arith, begun.field.one_or_more, field.no_leading_zero (get_or-append p (b ∷ rest) 0 0 begun.field.one_or_more ∙ begun.zero_leads z))))
    (λ (nz : v ≡ 0 → ⊥).
    rw (ne_eqb v 0 nz, lt-leb 100000000 v (omega (arith, begun.below, pow-le-pow_right {n = 10} (omega arith) {i = length p} {j = 8} (omega (arith, field.nine_or_fewer))))))
    (eq_or_ne v 0)

-- ---- one byte in a line
-- the line with its open field at a place, before a digit of it is read, and worth v
abbrev at : Place → Line
at q = record { place = q; value = None }

abbrev in_field : Place → ℕ → Line
in_field q v = record { place = q; value = Some v }

module _ (s : Line) (b : ℕ) (from : '0' ≤ b) (to : b ≤ '9') where
  is_digit_lem : with_byte (Some s) b ≡ with_digit s (b - '0')
  is_digit_lem = rw (ne_eqb b 44 (λ e. omega arith), (both_true (leb '0' b) (leb b '9')).1 (le-leb '0' b from, le-leb b '9' to)) refl

  digit_taken : full s.value ≡ false → with_byte (Some s) b ≡ Some (in_field s.place (unwrap_or s.value 0 * 10 + (b - '0')))
  digit_taken h = is_digit_lem ∙ rw h refl

  digit_refused : full s.value ≡ true → with_byte (Some s) b ≡ None
  digit_refused h = is_digit_lem ∙ rw h refl

-- ---- a line in form is read to its end
line-append : (s : Option Line) (xs ys : List ℕ) → line_from s (xs ++ ys) ≡ line_from (line_from s xs) ys
unfolding line_from
line-append s [] ys = refl
line-append s (x ∷ xs) ys = line-append (with_byte s x) xs ys

field_rest : (f p : List ℕ) (s : Line) (w : ℕ) → Began p s.value → Field (p ++ f) w → line_from (Some s) f ≡ Some (in_field s.place w)
unfolding line_from
field_rest [] p s w begun field =
    ap (λ (o : Option ℕ). Some (record { place = s.place; value = o })) (began_all begun (subst (λ (x : List ℕ). Field x w) (append-nil p) field))
field_rest (b ∷ f) p s w begun field =
    let r = room begun b f w field in
    let at : length p < length (p ++ b ∷ f) = omega (arith, length-append p (b ∷ f)) in
    let dig : ('0' ≤ b) × (b ≤ '9') = rw (get_or-append_seam p b f 0) at (field.digits (length p) at) in
    ap (λ (x : Option Line). line_from x f) (digit_taken s b dig.0 dig.1 r)
    ∙ field_rest f (p ++ b ∷ []) (in_field s.place (unwrap_or s.value 0 * 10 + (b - '0'))) w (began_more begun b r dig.0 dig.1)
    (subst (λ (x : List ℕ). Field x w) (sym (append_assoc p (b ∷ []) f)) field)

field_read : (q : Place) (f : List ℕ) (w : ℕ) → Field f w → line_from (Some (at q)) f ≡ Some (in_field q w)
field_read q f w field = field_rest f [] (at q) w none field

then_comma : (q : Place) (f rest : List ℕ) (w : ℕ) → Field f w → line_from (Some (at q)) (f ++ comma ∷ rest) ≡ line_from (opened (next_place q w)) rest
unfolding line_from
then_comma q f rest w field = line-append (Some (at q)) f (comma ∷ rest) ∙ ap (λ (x : Option Line). line_from x (comma ∷ rest)) (field_read q f w field)

two_read : {a b : List ℕ} {x y : ℕ} (rest : List ℕ) → Field a x → Field b y → line_from (Some fresh) (a ++ comma ∷ (b ++ comma ∷ rest)) ≡ line_from (Some (at (Memory x y))) rest
two_read {a = a} {b = b} {x = x} {y = y} rest field field₂ =
    then_comma Period a (b ++ comma ∷ rest) x field ∙ then_comma (Runtime x) b rest y field₂

three_read : {line : List ℕ} {x y z : ℕ} → Fields line (x ∷ y ∷ z ∷ []) → line_from (Some fresh) line ≡ Some (in_field (Memory x y) z)
three_read {x = x} {y = y} {z = z} (more field (more field₂ (one {bytes = c} field₃))) =
    two_read c field field₂ ∙ field_read (Memory x y) c z field₃
three_read {x = x} {y = y} {z = z} (more {bytes = bytes} field (more field₂ (more {rest = rest} _ h))) = elim h [ ]

four_read : {line : List ℕ} {x y z w : ℕ} → Fields line (x ∷ y ∷ z ∷ w ∷ []) → line_from (Some fresh) line ≡ Some (in_field (Deadline x y z) w)
four_read {x = x} {y = y} {z = z} {w = w} (more field (more field₂ (more {bytes = c} field₃ (one {bytes = d} field₄)))) =
    two_read (c ++ comma ∷ d) field field₂ ∙ then_comma (Memory x y) c d z field₃ ∙ field_read (Deadline x y z) d w field₄
four_read {x = x} {y = y} {z = z} {w = w} (more {bytes = bytes} field (more field₂ (more {bytes = c} field₃ (more {rest = rest} _ h)))) = elim h [ ]

-- ---- a line that is read to its end is in form
-- Out of form once is out of form for good.
spoilt_read : (bs : List ℕ) → line_from None bs ≡ None
unfolding line_from
spoilt_read [] = refl
spoilt_read (b ∷ bs) = spoilt_read bs

-- the fields that are closed
abbrev before : Place → List ℕ
before Period = []
before (Runtime p) = p ∷ []
before (Memory p r) = p ∷ r ∷ []
before (Deadline p r m) = p ∷ r ∷ m ∷ []

one_more_before : (q : Place) (v : ℕ) (x : Place) → next_place q v ≡ Some x → before x ≡ before q ++ v ∷ []
one_more_before Period v x e = ap before (sym (same_Some _ _ e))
one_more_before (Runtime p) v x e = ap before (sym (same_Some _ _ e))
one_more_before (Memory p r) v x e = ap before (sym (same_Some _ _ e))
one_more_before (Deadline p r m) v x e = absurd (none-some x e)

-- what a line turns out to be: the fields from the open one on, and with those before them the values it ends with
record Rest (p bs : List ℕ) (q end : Place) (v : ℕ) : Type 0 where
  found : List ℕ
  fields : Fields (p ++ bs) found
  together : before q ++ found ≡ before end ++ v ∷ []

-- What a byte does: it joins the open field, closes it, or spoils the line.
data Does (s : Line) (b : ℕ) : Type 0 where
  joins : '0' ≤ b → b ≤ '9' → full s.value ≡ false → Does s b
  closes : (v : ℕ) (x : Place) → b ≡ comma → s.value ≡ Some v → next_place s.place v ≡ Some x → Does s b
  spoils : with_byte (Some s) b ≡ None → Does s b

module _ (s : Line) (b : ℕ) (c : b ≡ comma) where
  comma_closes : (o : Option ℕ) → s.value ≡ o → (v : ℕ) (x : Option Place) → o ≡ Some v → next_place s.place v ≡ x → Does s b
  comma_closes o e v (Some x) i n = closes v x c (e ∙ i) n
  comma_closes o e v None i n = spoils (rw (c, e, i, n) refl)

  comma_does : (o : Option ℕ) → s.value ≡ o → Does s b
  comma_does None e = spoils (rw (c, e) refl)
  comma_does (Some v) e = comma_closes (Some v) e v (next_place s.place v) refl refl

byte_does : (s : Line) (b : ℕ) → Does s b
byte_does s b =
    ⊎_elim
    (λ (c : b ≡ comma). comma_does s b c s.value refl)
    (λ (ne : b ≡ comma → ⊥).
    ⊎_elim
    (λ (t : is_digit b ≡ true).
    let d = digit_tells b t in
    ⊎_elim
    (λ (f : full s.value ≡ true). spoils (digit_refused s b d.0 d.1 f))
    (λ (f : full s.value ≡ false). joins d.0 d.1 f)
    (bool_cases (full s.value)))
    (λ (f : is_digit b ≡ false). spoils (rw (ne_eqb b 44 ne, f) refl))
    (bool_cases (is_digit b)))
    (eq_or_ne b comma)

rest_found : (bs p : List ℕ) (s : Line) (end : Place) (v : ℕ) → Began p s.value → line_from (Some s) bs ≡ Some (in_field end v) → Rest p bs s.place end v
unfolding line_from
rest_found [] p s end v begun h =
    let e = same_Some _ _ h in
    let worth : s.value ≡ Some v = ap (λ (x : Line). x.value) e in
    record {
      found = v ∷ [];
      fields = subst (λ (x : List ℕ). Fields x (v ∷ [])) (sym (append-nil p)) (one (began_field (subst (Began p) worth begun)));
      together = ap (λ (x : Line). before x.place ++ v ∷ []) e;
    }
rest_found (b ∷ bs) p s end v begun h =
    let still : (x : Option Line) → with_byte (Some s) b ≡ x → line_from x bs ≡ Some (in_field end v) = λ x e. subst (λ (y : Option Line). line_from y bs ≡ Some (in_field end v)) e h in
    elim (byte_does s b) as (λ _. Rest p (b ∷ bs) s.place end v) [
      | joins from to f ↦
          let e = digit_taken s b from to f in
          let R = rest_found bs (p ++ b ∷ []) (in_field s.place (unwrap_or s.value 0 * 10 + (b - '0'))) end v (began_more begun b f from to) (still _ e) in
          record {
            found = R.found;
            fields = subst (λ (x : List ℕ). Fields x R.found) (append_assoc p (b ∷ []) bs) R.fields;
            together = R.together;
          }
      | closes w x c e n ↦
          let taken : with_byte (Some s) b ≡ Some (at x) = rw (c, e, n) refl in
          let R = rest_found bs [] (at x) end v none (still _ taken) in
          record {
            found = w ∷ R.found;
            fields = subst (λ (a : ℕ). Fields (p ++ a ∷ bs) (w ∷ R.found)) (sym c) (more (began_field (subst (Began p) e begun)) R.fields);
            together =
                sym (append_assoc (before s.place) (w ∷ []) R.found) ∙ ap (λ (l : List ℕ). l ++ R.found) (sym (one_more_before s.place w x n)) ∙ R.together;
          }
      | spoils e ↦ absurd (none-some _ (sym (spoilt_read bs) ∙ still None e))
    ]

-- ---- both ways
pub row_complete : (line : List ℕ) (t : Task) → Row line t → row_of (line_from (Some fresh) line) ≡ Some t
unfolding Row
row_complete line t R =
    ⊎_elim
    (λ (h : Fields line (t.period ∷ t.runtime ∷ t.memory ∷ []) × (t.deadline ≡ t.period)). rw (three_read h.0, sym h.1) refl)
    (λ (h : Fields line (t.period ∷ t.runtime ∷ t.memory ∷ t.deadline ∷ [])). rw (four_read h) refl)
    R

module _ (line : List ℕ) (t : Task) where
  -- The values of a line of three or four fields are its task's.
  values_row : (q : Place) (o : Option ℕ) → line_from (Some fresh) line ≡ Some (record { place = q; value = o }) → made_of q o ≡ Some t → Row line t
  unfolding Row
  values_row (Memory p r) (Some v) e h =
      let R = rest_found line [] fresh (Memory p r) v none e in
      subst (Row line) (same_Some _ _ h) (inl (subst (Fields line) R.together R.fields, refl))
  values_row (Deadline p r m) (Some v) e h =
      let R = rest_found line [] fresh (Deadline p r m) v none e in
      subst (Row line) (same_Some _ _ h) (inr (subst (Fields line) R.together R.fields))
  values_row Period o e h = absurd (none-some t h)
  values_row (Runtime p) o e h = absurd (none-some t h)
  values_row (Memory p r) None e h = absurd (none-some t h)
  values_row (Deadline p r m) None e h = absurd (none-some t h)

  line_row : (s : Option Line) → line_from (Some fresh) line ≡ s → row_of s ≡ Some t → Row line t
  line_row None e h = absurd (none-some t h)
  line_row (Some s) e h = values_row s.place s.value e h

  pub complete_row : row_of (line_from (Some fresh) line) ≡ Some t → Row line t
  complete_row h = line_row (line_from (Some fresh) line) refl h

-- A line is the row of one task at most.
pub row_one : (line : List ℕ) (t u : Task) → Row line t → Row line u → t ≡ u
row_one line t u R S = same_Some t u (sym (row_complete line t R) ∙ row_complete line u S)
