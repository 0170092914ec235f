-- Whole lines, of which four bytes are read at a time.
use Rattle.std.proofs.Common.{◌≡◌, ℕ, ◌+◌, ◌*◌, ◌/◌, ◌%◌, ◌<◌, ◌≤◌, List, ◌++◌, length, get_or, drop, sym, refl, ap, ◌∙◌, subst, div-one, arith, Ok}
use Rattle.printing.specs.Text.{digit}
use Rattle.vcd.specs.Form.{time_line, value_line}
use Rattle.vcd.specs.Follows.{time_told, value_told}
use Rattle.readback.specs.Shapes.{byte_at, place, Same, IsTime, IsOther, Reading, Word, FourBits, FourDigits, LastBit, Whole}
use Rattle.readback.proofs.Bytes.{inside_any}
use Rattle.readback.proofs.Standing.{Even, line_stands}
use Rattle.readback.proofs.Changes.{even_times, even_values}
use Rattle.readback.proofs.Words.{Four, four, word_one, five_bits}

module _ (file : List ℕ) where
  at_place : (i b : ℕ) → i < length file → get_or file i 0 ≡ b → byte_at file i ≡ b
  at_place i b inside e = sym (inside_any file i 0 256 inside) ∙ e

  -- ---- four bytes
  module _ (i : ℕ) where
    -- They are those that the number is made of.
    word_bytes : (w : ℕ) (made : Four 256 w) → Word file i w → (byte_at file i ≡ made.a) × (byte_at file (i + 1) ≡ made.b) × (byte_at file (i + 2) ≡ made.c) × (byte_at file (i + 3) ≡ made.d)
    word_bytes w made h =
        let read : Four 256 w = four (byte_at file i) (byte_at file (i + 1)) (byte_at file (i + 2)) (byte_at file (i + 3)) h.first h.second h.third h.fourth h.is in
        word_one w read made

  -- ---- the two kinds of lines
  module _ (from : ℕ) where
    -- The places of a word, counted from the line's.
    ahead : (m n k : ℕ) → from + m + n ≡ from + k → byte_at file (from + k) ≡ byte_at file (from + m + n)
    ahead m n k e = ap (byte_at file) (sym e)

    pub time_stands : (w r : ℕ)
        → from + 6 ≤ length file
        → get_or file from 0 ≡ 35
        → get_or file (from + 5) 0 ≡ 10
        → Word file (from + 1) w
        → FourDigits w r
        → Whole time_line 4096 file from 6 r
    unfolding time_line digit Same place
    time_stands w r inside mark feed h digits = record {
      stands = λ _.
          let made : Four 256 w = four (48 + r / 1000 % 10) (48 + r / 100 % 10) (48 + r / 10 % 10) (48 + r % 10) (omega arith) (omega arith) (omega arith) (omega arith) digits.are in
          let e = word_bytes (from + 1) w made h in
          ((((((refl, at_place from 35 (omega arith) mark), e.0), ahead 1 1 2 (omega arith) ∙ e.1), ahead 1 2 3 (omega arith) ∙ e.2), ahead 1 3 4 (omega arith) ∙ e.3), at_place (from + 5) 10 (omega arith) feed);
    }

    pub value_stands : (w v q last : ℕ)
        → from + 9 ≤ length file
        → get_or file from 0 ≡ 98
        → Word file (from + 1) w
        → FourBits w q
        → Word file (from + 5) v
        → LastBit v last
        → Whole value_line 16 file from 9 (q * 2 + last)
    unfolding value_line digit Same place
    value_stands w v q last inside mark front bits end ends = record {
      stands = λ _.
          let made : Four 256 w = four (48 + q / 8 % 2) (48 + q / 4 % 2) (48 + q / 2 % 2) (48 + q % 2) (omega arith) (omega arith) (omega arith) (omega arith) bits.are in
          let made-last : Four 256 v = four (48 + last) 32 33 10 (omega (arith, ends.few)) (omega arith) (omega arith) (omega arith) ends.ends in
          let e = word_bytes (from + 1) w made front in
          let f = word_bytes (from + 5) v made-last end in
          let g = five_bits q last ends.few in (
            ((((((((refl, at_place from 98 (omega arith) mark), e.0 ∙ omega (arith, g.0)), ahead 1 1 2 (omega arith) ∙ e.1 ∙ omega (arith, g.1)), ahead 1 2 3 (omega arith) ∙ e.2 ∙ omega (arith, g.2)), ahead 1 3 4 (omega arith) ∙ e.3 ∙ omega (arith, g.3)), f.0 ∙ omega (arith, g.4)), ahead 5 1 6 (omega arith) ∙ f.1), ahead 5 2 7 (omega arith) ∙ f.2),
            ahead 5 3 8 (omega arith) ∙ f.3,
          );
    }

    -- ---- a whole line is all that is to be read
    module _ (line : ℕ → List ℕ) (Is : ℕ → Type 0) (size : ℕ) (even : Even line size) (most : ℕ) where
      line_there : (x : ℕ) → Same file from (line x) size → drop from file ≡ line x ++ drop (from + length (line x)) file
      line_there x s = line_stands file from (line x) (even.small x) (subst (Same file from (line x)) (sym (even.long x)) s)

      whole_read : (one : (x y : ℕ) (u w : List ℕ) → Is x → Is y → line x ++ u ≡ line y ++ w → x ≡ y) (r : ℕ) → Is r → r ≤ most → Whole line most file from size r
          → Reading line Is file from size 1 (Ok r)
      unfolding Reading
      whole_read one r is l h =
          let same = h.stands l in
          record {
            some = r;
            is = is;
            some_quotient = div-one r;
            all = λ x q. subst (λ (i : ℕ). Same file from (line i) size) (sym q ∙ div-one x) same;
            only = λ x i s. div-one x ∙ one x r _ _ i is (sym (line_there x s) ∙ line_there r same);
          }

    pub time_whole : (low r : ℕ) → low ≤ r → r ≤ 4096 → Whole time_line 4096 file from 6 r → Reading time_line (IsTime low) file from 6 1 (Ok r)
    time_whole low r l most h =
        whole_read time_line (IsTime low) 6 even_times 4096 (λ x y u w i j e. (time_told x y u w i.to j.to e).0) r (record { from = l; to = most }) most h

    pub value_whole : (before r : ℕ) → r ≤ 16 → (r ≡ before → ⊥) → Whole value_line 16 file from 9 r → Reading value_line (IsOther before) file from 9 1 (Ok r)
    value_whole before r most other h =
        whole_read value_line (IsOther before) 9 even_values 16 (λ x y u w i j e. (value_told x y u w i.entry j.entry e).0) r (record { entry = most; other = other }) most h
