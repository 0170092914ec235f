-- One slice more: its change counted, and put.
use mathlib.Core.Path.{◌≡◌, refl, ap, ◌∙◌}
use mathlib.Core.List.{List, [], ◌++◌}
use mathlib.Core.Logic.{⊎_elim}
use Prim.Native.Nat.{ℕ, zero, suc, ◌+◌, ◌≤◌, ◌<◌}
use native.Mathlib.Omega.{arith}
use native.Mathlib.Numerals.{add-one}
use Rattle.basis.specs.Bytes.{at}
use borrow.Author.Tests.{eq-eqb, ne_eqb}
use mathlib.Core.Bool.{Bool, true, false, not}
use lib.Dec.{eqb}
use mir.Val.{bool_byte}
use Rattle.basis.specs.Choose.{choose, choose_yes, choose_no, eq_or_ne}
use Rattle.printing.specs.Shapes.{Put}
use Rattle.printing.proofs.Chain.{chain}
use Rattle.vcd.specs.Form.{time_line, value_line}
use Rattle.dump.specs.Shapes.{RoomIn, entry_before, change_of, change_count, changes_to, count_to}
use Rattle.dump.specs.Lengths.{changes-length}
use Rattle.dump.proofs.Places.{room_next}

module _ (run : List ℕ) where
  -- The slice's own entry stands before the next one.
  pub before_next : (t : ℕ) → at run t ≡ entry_before run (t + 1)
  unfolding entry_before
  before_next t = rw add-one refl

  -- Later slices only add changes.
  count_grow : (n t : ℕ) → t ≤ n → count_to run t ≤ count_to run n
  unfolding count_to
  count_grow zero t l = let z : t ≡ 0 = omega arith in omega (arith, ap (count_to run) z)
  count_grow (suc n) t l =
      ⊎_elim
      (λ (e : t ≡ suc n). omega (arith, ap (count_to run) e))
      (λ (ne : t ≡ suc n → ⊥). omega (arith, count_grow n t (omega arith)))
      (eq_or_ne t (suc n))

  module _ (t : ℕ) {before : ℕ} (b : before ≡ entry_before run t) where
    pub count_more : {count one : ℕ} → count ≡ count_to run t → one ≡ change_count before (at run t) → count + one ≡ count_to run (t + 1)
    unfolding count_to
    count_more c o = rw add-one (cc)

    pub change_room : (n : ℕ) {old mid : List ℕ} {place r : ℕ} → RoomIn (changes_to run n) place old → Put (changes_to run t) place old mid r → t < n → RoomIn (change_of t before (at run t)) r mid
    unfolding changes_to
    change_room n h p l =
        rw b
        (room_next (changes_to run t) (change_of t (entry_before run t) (at run t))
        (record { room = omega (arith, h.room, changes-length run n, changes-length run (suc t), count_grow n (suc t) l) }) p)

    pub change_more : {old mid new : List ℕ} {place r q : ℕ} → Put (changes_to run t) place old mid r → Put (change_of t before (at run t)) r mid new q → Put (changes_to run (t + 1)) place old new q
    unfolding changes_to
    change_more p s = rw add-one (chain p (rw b at s))

-- ---- one slice
module _ (t before entry : ℕ) where
  pub no_change : entry ≡ before → change_of t before entry ≡ []
  unfolding change_of
  no_change e = choose_yes _ _ _ (eq-eqb entry before e)

  pub a_change : (entry ≡ before → ⊥) → change_of t before entry ≡ time_line t ++ value_line entry
  unfolding change_of
  a_change ne = choose_no _ _ _ (ne_eqb entry before ne)

as_number : (b : Bool) → bool_byte (not b) ≡ choose b 0 1
unfolding choose
as_number true = refl
as_number false = refl

pub one_change : (before entry : ℕ) {one : ℕ} → one ≡ bool_byte (not (eqb entry before)) → one ≡ change_count before entry
unfolding change_count
one_change before entry e = e ∙ as_number (eqb entry before)
