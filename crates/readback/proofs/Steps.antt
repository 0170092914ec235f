-- A line that is read byte by byte: one byte more, one digit more.
use Rattle.std.proofs.Common.{◌≡◌, ℕ, suc, ◌+◌, ◌-◌, ◌*◌, ◌/◌, ◌%◌, ◌<◌, List, sym, refl, ap, ◌∙◌, subst, ⊎_elim, mod-lt, div-add-mod', div-one, arith, Result, Ok, Err, zero, Option, Some, None, ok_or}
use native.Mathlib.Nat.{div-div-eq-div-mul}
use Rattle.basis.specs.Choose.{eq_or_ne}
use Rattle.basis.proofs.Slices.{div_at}
use Rattle.readback.specs.declared.Deviation.{Deviation}
use Rattle.readback.specs.Shapes.{byte_at, place, Same, ByteRead, Allowed, Longer, NumberRead, DigitRead, Goes, Cut, CutAt, Reading}

-- One digit more than a number, by its quotients.
module _ (base byte p x : ℕ) (some : 0 < base) where
  pub longer_front : Longer base byte p x → x / base ≡ p
  longer_front l =
      let e : p * base + (x - p * base) ≡ x = omega (arith, l.from) in
      ap (λ (i : ℕ). i / base) (sym e) ∙ div_at base some p (x - p * base) (omega (arith, l.from, l.to))

  pub longer_digit : Longer base byte p x → byte ≡ 48 + x % base
  longer_digit l = omega (arith, l.byte_is, div-add-mod' x base, ap (λ (i : ℕ). i * base) (longer_front l))

  pub is_longer : x / base ≡ p → byte ≡ 48 + x % base → Longer base byte p x
  is_longer q b =
      let e : x / base * base ≡ p * base = ap (λ (i : ℕ). i * base) q in
      record { from = omega (arith, div-add-mod' x base); to = omega (arith, div-add-mod' x base, mod-lt x some); byte_is = omega (arith, div-add-mod' x base) }

-- The n bytes before it end where the place is.
place_from : (from n : ℕ) → place from n ≡ from + n
unfolding place
place_from from zero = omega arith
place_from from (suc n) = refl

-- A digit that is read, or where none is.
number_digit : (byte base low high but place p : ℕ) (n : Option ℕ) → NumberRead byte base low high but p n → DigitRead byte base low high but place (Ok p) (ok_or n (record { place = place }))
number_digit byte base low high but place p (Some x) h = h
number_digit byte base low high but place p None h = (refl, h)

pub digit_from : (base low high but place : ℕ) (n : Option ℕ) {byte b p : ℕ} {line r : Result ℕ Deviation}
    → line ≡ Ok p
    → r ≡ ok_or n (record { place = place })
    → byte ≡ b
    → NumberRead byte base low high but p n
    → DigitRead b base low high but place line r
digit_from base low high but place n {byte} {b} {p} {line} {r} el er eb h =
    subst (λ (x : ℕ). DigitRead x base low high but place line r) eb
    (subst (λ (l : Result ℕ Deviation). DigitRead byte base low high but place l r) (sym el)
    (subst (λ (y : Result ℕ Deviation). DigitRead byte base low high but place (Ok p) y) (sym er) (number_digit byte base low high but place p n h)))

module _ (line : ℕ → List ℕ) (Is : ℕ → Type 0) (file : List ℕ) (from : ℕ) where
  pub none_read : (D some : ℕ) → Is some → ((x : ℕ) → Is x → x / D ≡ 0) → Reading line Is file from 0 D (Ok 0)
  unfolding Same Reading
  none_read D some is all-0 = record { some = some; is = is; some_quotient = all-0 some is; all = λ x q. refl; only = λ x i same. all-0 x i }

  -- The line was cut before, is cut here, or goes on.
  module _ (n E : ℕ) (r : Result ℕ Deviation) where
    earlier : (D : ℕ) (d : Deviation) → Reading line Is file from n D (Err d) → r ≡ Err d → Reading line Is file from (suc n) E r
    unfolding Reading
    earlier D d h e =
        subst (Reading line Is file from (suc n) E) (sym e) (record { size = h.size; at = h.at; short = omega (arith, h.short); cut = h.cut })

    here : Cut line Is file from n → r ≡ Err (record { place = place from n }) → Reading line Is file from (suc n) E r
    unfolding Reading
    here cut e = subst (Reading line Is file from (suc n) E) (sym e) (record { size = n; at = refl; short = omega arith; cut = cut })

    on : (p : ℕ) → Goes line Is file from (suc n) E p → r ≡ Ok p → Reading line Is file from (suc n) E r
    unfolding Reading
    on p goes e = subst (Reading line Is file from (suc n) E) (sym e) goes

  -- Where the line goes so far and no line of the kind has the next byte, it is cut.
  cut_here : (n D p : ℕ) → Goes line Is file from n D p → ((x : ℕ) → Is x → x / D ≡ p → byte_at file (place from n) ≡ byte_at (line x) n → ⊥) → Cut line Is file from n
  unfolding Same
  cut_here n D p g never = record { some = g.some; is = g.is; same = g.all g.some g.some_quotient; none = λ x i same. never x i (g.only x i same.0) same.1 }

  module _ (n : ℕ) where
    pub byte_read : (s r : Result ℕ Deviation) (D wanted : ℕ)
        → ((x : ℕ) → byte_at (line x) n ≡ wanted)
        → Reading line Is file from n D s
        → ByteRead (byte_at file (place from n)) wanted (place from n) s r
        → Reading line Is file from (suc n) D r
    unfolding Same Reading
    byte_read (Err d) r D wanted all h step = earlier n D r D d h step
    byte_read (Ok v) r D wanted all h step =
        ⊎_elim
        (λ (y : byte_at file (place from n) ≡ wanted).
        on n D r v
        (record {
          some = h.some;
          is = h.is;
          some_quotient = h.some_quotient;
          all = λ x q. (h.all x q, y ∙ sym (all x));
          only = λ x i same. h.only x i same.0;
        })
        (step.0 y))
        (λ (no : byte_at file (place from n) ≡ wanted → ⊥). here n D r (cut_here n D v h (λ x i q b. no (b ∙ all x))) (step.1 no))
        (eq_or_ne (byte_at file (place from n)) wanted)

    -- Of a line whose next byte is a digit of its number's quotient by E, where the allowed numbers are these quotients.
    pub digit_read : (s r : Result ℕ Deviation) (E base low high but : ℕ)
        → 0 < base
        → ((x : ℕ) → byte_at (line x) n ≡ 48 + x / E % base)
        → ((x : ℕ) → Is x → Allowed low high but (x / E))
        → ((q : ℕ) → Allowed low high but q → (x : ℕ) × Is x × (x / E ≡ q))
        → Reading line Is file from n (E * base) s
        → DigitRead (byte_at file (place from n)) base low high but (place from n) s r
        → Reading line Is file from (suc n) E r
    unfolding Same Reading
    digit_read (Err d) r E base low high but some digits fits made h step = earlier n E r (E * base) d h step
    digit_read (Ok p) (Ok v) E base low high but some digits fits made h step =
        let byte = byte_at file (place from n) in
        let x = made v step.1 in
        let byte_is : byte ≡ 48 + v % base = longer_digit base byte p v some step.2 in
        record {
          some = x.0;
          is = x.1;
          some_quotient = x.2;
          all = λ z q. (
            h.all z (sym (div-div-eq-div-mul z E base) ∙ ap (λ (i : ℕ). i / base) q ∙ longer_front base byte p v some step.2),
            byte_is ∙ ap (λ (i : ℕ). 48 + i % base) (sym q) ∙ sym (digits z),
          );
          only = λ z i same.
              let l = is_longer base byte p (z / E) some (div-div-eq-div-mul z E base ∙ h.only z i same.0) (same.1 ∙ digits z) in
              omega (arith, l.byte_is, step.2.byte_is);
        }
    digit_read (Ok p) (Err d) E base low high but some digits fits made h step =
        here n E (Err d)
        (cut_here n (E * base) p h
        (λ x i q b. step.1 (x / E) (fits x i) (is_longer base (byte_at file (place from n)) p (x / E) some (div-div-eq-div-mul x E base ∙ q) (b ∙ digits x))))
        (ap (λ (e : Deviation). Err e) step.0)

  -- A whole line is that of its number.
  module _ (size v : ℕ) (h : Reading line Is file from size 1 (Ok v)) where
    whole_goes : Goes line Is file from size 1 v
    unfolding Reading
    whole_goes = h

    pub whole_is : Is v
    whole_is = subst Is (sym (div-one whole_goes.some) ∙ whole_goes.some_quotient) whole_goes.is

    pub whole_stands : Same file from (line v) size
    whole_stands = whole_goes.all v (div-one v)

  -- A line that is cut stands up to the place where it is.
  module _ (size : ℕ) (d : Deviation) (h : Reading line Is file from size 1 (Err d)) where
    cut_at : CutAt line Is file from size d.place
    unfolding Reading
    cut_at = h

    pub cut_place : (n : ℕ) × (n < size) × (d.place ≡ from + n) × Cut line Is file from n
    cut_place = (cut_at.size, cut_at.short, cut_at.at ∙ place_from from cut_at.size, cut_at.cut)
