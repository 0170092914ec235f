-- The two kinds of lines, step by step as they are read.
use Rattle.std.proofs.Common.{ℕ, ◌+◌, ◌/◌, ◌%◌, ◌≤◌, List, sym, refl, ap, subst, div-one, arith, Result, Ok}
use Rattle.printing.specs.Text.{digit}
use Rattle.vcd.specs.Form.{time_line, value_line}
use Rattle.readback.specs.declared.Deviation.{Deviation}
use Rattle.readback.specs.Shapes.{byte_at, place, IsTime, IsOther, Top, ByteRead, DigitRead, Reading}
use Rattle.readback.proofs.Steps.{none_read, byte_read, digit_read}
use Rattle.readback.proofs.Quotients.{time_quotient, quotient_time, some_other, other_quotient, quotient_other, other_number, number_other}

module _ (file : List ℕ) (from low : ℕ) (to : low ≤ 4096) (mark first second third fourth last : Result ℕ Deviation) where
  pub time_read : ByteRead (byte_at file from) 35 from (Ok 0) mark
      → DigitRead (byte_at file (from + 1)) 10 (low / 1000) 4 5000 (from + 1) mark first
      → DigitRead (byte_at file (from + 2)) 10 (low / 100) 40 5000 (from + 2) first second
      → DigitRead (byte_at file (from + 3)) 10 (low / 10) 409 5000 (from + 3) second third
      → DigitRead (byte_at file (from + 4)) 10 low 4096 5000 (from + 4) third fourth
      → ByteRead (byte_at file (from + 5)) 10 (from + 5) fourth last
      → Reading time_line (IsTime low) file from 6 1 last
  unfolding time_line digit place
  time_read s0 s1 s2 s3 s4 s5 =
      let Is = IsTime low in
      let h0 = none_read time_line Is file from 10000 4096 (record { from = to; to = omega arith }) (λ x i. omega (arith, i.to)) in
      let h1 = byte_read time_line Is file from 0 (Ok 0) mark 10000 35 (λ x. refl) h0 s0 in
      let h2 = digit_read time_line Is file from 1 mark first 1000 10 (low / 1000) 4 5000 (omega arith) (λ x. refl) (time_quotient low to 1000 (omega arith)) (quotient_time low to 1000 (omega arith)) h1 s1 in
      let h3 = digit_read time_line Is file from 2 first second 100 10 (low / 100) 40 5000 (omega arith) (λ x. refl) (time_quotient low to 100 (omega arith)) (quotient_time low to 100 (omega arith)) h2 s2 in
      let h4 = digit_read time_line Is file from 3 second third 10 10 (low / 10) 409 5000 (omega arith) (λ x. refl) (time_quotient low to 10 (omega arith)) (quotient_time low to 10 (omega arith)) h3 s3 in
      let h5 = digit_read time_line Is file from 4 third fourth 1 10 (low / 1) 4096 5000 (omega arith) (λ x. ap (λ (i : ℕ). 48 + i % 10) (sym (div-one x))) (time_quotient low to 1 (omega arith)) (quotient_time low to 1 (omega arith)) h4
      (subst (λ (l : ℕ). DigitRead (byte_at file (from + 4)) 10 l 4096 5000 (from + 4) third fourth) (sym (div-one low)) s4) in
      byte_read time_line Is file from 5 fourth last 1 10 (λ x. refl) h5 s5

module _ (file : List ℕ) (from before top : ℕ) (most : Top before top) (mark first second third fourth fifth blank name last : Result ℕ Deviation) where
  pub value_read : ByteRead (byte_at file from) 98 from (Ok 0) mark
      → DigitRead (byte_at file (from + 1)) 2 0 (top / 16) 5000 (from + 1) mark first
      → DigitRead (byte_at file (from + 2)) 2 0 (top / 8) 5000 (from + 2) first second
      → DigitRead (byte_at file (from + 3)) 2 0 (top / 4) 5000 (from + 3) second third
      → DigitRead (byte_at file (from + 4)) 2 0 (top / 2) 5000 (from + 4) third fourth
      → DigitRead (byte_at file (from + 5)) 2 0 top before (from + 5) fourth fifth
      → ByteRead (byte_at file (from + 6)) 32 (from + 6) fifth blank
      → ByteRead (byte_at file (from + 7)) 33 (from + 7) blank name
      → ByteRead (byte_at file (from + 8)) 10 (from + 8) name last
      → Reading value_line (IsOther before) file from 9 1 last
  unfolding value_line digit place
  value_read s0 s1 s2 s3 s4 s5 s6 s7 s8 =
      let Is = IsOther before in
      let some = some_other before top most in
      let h0 = none_read value_line Is file from 32 some.0 some.1 (λ x i. omega (arith, i.entry)) in
      let h1 = byte_read value_line Is file from 0 (Ok 0) mark 32 98 (λ x. refl) h0 s0 in
      let h2 = digit_read value_line Is file from 1 mark first 16 2 0 (top / 16) 5000 (omega arith) (λ x. refl) (other_quotient before top most 16 (omega arith)) (quotient_other before top most 16 (omega arith)) h1 s1 in
      let h3 = digit_read value_line Is file from 2 first second 8 2 0 (top / 8) 5000 (omega arith) (λ x. refl) (other_quotient before top most 8 (omega arith)) (quotient_other before top most 8 (omega arith)) h2 s2 in
      let h4 = digit_read value_line Is file from 3 second third 4 2 0 (top / 4) 5000 (omega arith) (λ x. refl) (other_quotient before top most 4 (omega arith)) (quotient_other before top most 4 (omega arith)) h3 s3 in
      let h5 = digit_read value_line Is file from 4 third fourth 2 2 0 (top / 2) 5000 (omega arith) (λ x. refl) (other_quotient before top most 2 (omega arith)) (quotient_other before top most 2 (omega arith)) h4 s4 in
      let h6 = digit_read value_line Is file from 5 fourth fifth 1 2 0 top before (omega arith) (λ x. ap (λ (i : ℕ). 48 + i % 2) (sym (div-one x))) (other_number before top most) (number_other before top most) h5 s5 in
      let h7 = byte_read value_line Is file from 6 fifth blank 1 32 (λ x. refl) h6 s6 in
      let h8 = byte_read value_line Is file from 7 blank name 1 33 (λ x. refl) h7 s7 in
      byte_read value_line Is file from 8 name last 1 10 (λ x. refl) h8 s8
