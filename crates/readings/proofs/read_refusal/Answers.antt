-- `readings::read_refusal` meets its contract. The arms of one number come first, then those of a range, then the rest.
use mathlib.Core.Path.{◌≡◌, sym}
use mathlib.Core.Logic.{inl, inr}
use Prim.Native.Nat.{ℕ, ◌<◌}
use native.Mathlib.Omega.{arith}
use Rattle.basis.specs.Choose.{choose, within}
use Rattle.readings.specs.Reading.{refusal_of}
use Rattle.readings.proofs.Laws.{reads_bound, reads_run, reads_program, reads_viewer, reads_no_refusal}
use Rattle.readings.proofs.read_refusal.Goals as goal

past-twenty : (n : ℕ) → 19 < n → (n ≡ 20 → ⊥) → 20 < n
past-twenty n l ne = omega arith

pub returns-in-7 : goal.returns-in-7
unfolding refusal_of choose within
returns-in-7 c = rw c.in-7.is

pub returns-in-8 : goal.returns-in-8
unfolding refusal_of choose within
returns-in-8 c = rw c.in-8.is

pub returns-in-17 : goal.returns-in-17
unfolding refusal_of choose within
returns-in-17 c = rw c.in-17.is

pub returns-in-20 : goal.returns-in-20
unfolding refusal_of choose within
returns-in-20 c = rw c.in-20.is

pub returns-in-1-to-6 : goal.returns-in-1-to-6
returns-in-1-to-6 c = sym (reads_bound c.args.number (omega arith) (omega arith))

pub returns-in-9-to-14 : goal.returns-in-9-to-14
returns-in-9-to-14 c = sym (reads_run c.args.number (omega arith) (omega arith))

pub returns-in-15-to-16 : goal.returns-in-15-to-16
returns-in-15-to-16 c = sym (reads_program c.args.number (omega arith) (omega arith))

pub returns-in-18-to-19 : goal.returns-in-18-to-19
returns-in-18-to-19 c = sym (reads_viewer c.args.number (inl (omega arith, omega arith)))

pub returns-in-30-to-31 : goal.returns-in-30-to-31
returns-in-30-to-31 c = sym (reads_viewer c.args.number (inr (omega arith, omega arith)))

pub returns-in_default : goal.returns-in_default
returns-in_default c = sym (reads_no_refusal c.args.number (inl (omega arith)))

pub returns-in_default-2 : goal.returns-in_default-2
returns-in_default-2 c = sym (reads_no_refusal c.args.number (inr (inl (omega arith, omega arith))))

pub returns-in_default-3 : goal.returns-in_default-3
returns-in_default-3 c = sym (reads_no_refusal c.args.number (inr (inr (omega arith))))
