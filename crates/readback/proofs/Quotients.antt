-- The two kinds of lines, digit by digit: which quotients the numbers of a kind have.
use Rattle.std.proofs.Common.{◌≡◌, ℕ, ◌+◌, ◌*◌, ◌/◌, ◌<◌, ◌≤◌, ap, ◌∙◌, ⊎_elim, mul-le-mul_right, div-lt_iff_lt-mul, le_antisymm, div-le_self, div-mul-le_self, arith}
use Rattle.basis.specs.Choose.{eq_or_ne, le_or_lt}
use Rattle.basis.proofs.Slices.{div_at}
use Rattle.readback.specs.Shapes.{Allowed, IsTime, IsOther, Top}

-- A greater number has no smaller quotient.
quotient_grows : (E x y : ℕ) → 0 < E → x ≤ y → x / E ≤ y / E
quotient_grows E x y some l =
    ⊎_elim
    (λ (h : x / E ≤ y / E). h)
    (λ (h : y / E < x / E). absurd (omega (arith, (div-lt_iff_lt-mul {x = y} {y = x / E} some).0 h, div-mul-le_self x E)))
    (le_or_lt (x / E) (y / E))

module _ (low : ℕ) (to : low ≤ 4096) (E : ℕ) (some : 0 < E) where
  pub time_quotient : (x : ℕ) → IsTime low x → Allowed (low / E) (4096 / E) 5000 (x / E)
  time_quotient x i = record {
    from = quotient_grows E low x some i.from;
    to = quotient_grows E x 4096 some i.to;
    other = λ e. omega (arith, i.to, div-le_self x E);
  }

  pub quotient_time : (q : ℕ) → Allowed (low / E) (4096 / E) 5000 q → (x : ℕ) × IsTime low x × (x / E ≡ q)
  quotient_time q a =
      ⊎_elim
      (λ (l : low ≤ q * E).
      (q * E, record { from = l; to = omega (arith, mul-le-mul_right E a.to, div-mul-le_self 4096 E) }, ap (λ (i : ℕ). i / E) (omega arith) ∙ div_at E some q 0 some))
      (λ (l : q * E < low). (
        low,
        record { from = omega arith; to = to },
        le_antisymm a.from
            (⊎_elim (λ (h : q ≤ low / E). h) (λ (h : low / E < q). absurd (omega (arith, (div-lt_iff_lt-mul {x = low} {y = q} some).0 h))) (le_or_lt q (low / E))),
      ))
      (le_or_lt low (q * E))

module _ (before top : ℕ) (most : Top before top) where
  pub some_other : (x : ℕ) × IsOther before x
  some_other = (top, record { entry = most.entry; other = most.other })

  -- by more than 1, where the entry before may have the quotient too
  module _ (E : ℕ) (more : 2 ≤ E) where
    pub other_quotient : (x : ℕ) → IsOther before x → Allowed 0 (top / E) 5000 (x / E)
    other_quotient x i = record {
      from = omega arith;
      to = quotient_grows E x top (omega arith) (most.greatest x i.entry i.other);
      other = λ e. omega (arith, i.entry, div-le_self x E);
    }

    pub quotient_other : (q : ℕ) → Allowed 0 (top / E) 5000 q → (x : ℕ) × IsOther before x × (x / E ≡ q)
    quotient_other q a =
        let reaches : q * E ≤ top = omega (arith, mul-le-mul_right E a.to, div-mul-le_self top E) in
        ⊎_elim
        (λ (e : q * E ≡ before).
        let less : (q * E ≡ 16 → ⊥) = λ z. most.other (omega (arith, most.entry)) in
        (q * E + 1, record { entry = omega (arith, most.entry, less); other = λ z. omega arith }, div_at E (omega arith) q 1 (omega arith)))
        (λ (ne : q * E ≡ before → ⊥).
        (q * E, record { entry = omega (arith, most.entry); other = ne }, ap (λ (i : ℕ). i / E) (omega arith) ∙ div_at E (omega arith) q 0 (omega arith)))
        (eq_or_ne (q * E) before)

  -- by 1, where it is left out
  pub other_number : (x : ℕ) → IsOther before x → Allowed 0 top before (x / 1)
  other_number x i = record {
    from = omega arith;
    to = omega (arith, most.greatest x i.entry i.other);
    other = λ e. i.other (omega arith);
  }

  pub number_other : (q : ℕ) → Allowed 0 top before q → (x : ℕ) × IsOther before x × (x / 1 ≡ q)
  number_other q a = (q, record { entry = omega (arith, a.to, most.entry); other = a.other }, omega arith)
