-- The text of a run from the front, and how long it is, so how much room it asks for.
use Rattle.std.specs.Prelude.{◌≡◌, eqb, length, take, drop}
use Rattle.std.proofs.Math.Path.{refl, sym, ap}
use Rattle.std.proofs.Common.{◌∙◌, drop-cons}
use mathlib.Core.List.{List, ◌++◌, append_assoc}
use Prim.Native.Nat.{ℕ, zero, suc, ◌+◌, ◌*◌, ◌≤◌, min}
use native.Mathlib.Omega.{arith}
use Rattle.std.proofs.Math.ListN.{length-append, length-take}
use Rattle.std.proofs.Math.Seq.{drop-length, get_or-take}
use Rattle.basis.specs.Bytes.{at}
use Rattle.basis.specs.Choose.{of_choice, choose_either}
use Rattle.printing.specs.Text.{ascii}
use Rattle.vcd.specs.Form.{no_entry, header, time_line, value_line, changes_from, vcd_text}
use Rattle.dump.specs.Shapes.{entry_before, change_of, change_count, changes_to, count_to, text_to}

-- ---- from the front
module _ (run : List ℕ) where
  -- The changes before slice t, and those from there on, are all.
  changes_split : (t : ℕ) → t ≤ length run → changes_from 0 no_entry run ≡ changes_to run t ++ changes_from t (entry_before run t) (drop t run)
  unfolding changes_to entry_before change_of changes_from
  changes_split zero l = refl
  changes_split (suc t) l =
      changes_split t (omega arith)
      ∙ rw (drop-cons run t 0 l) (sym (append_assoc (changes_to run t) (change_of t (entry_before run t) (at run t)) (changes_from (suc t) (at run t) (drop (suc t) run))))

  pub whole_text : vcd_text run ≡ text_to run (length run)
  unfolding vcd_text text_to changes_from
  whole_text =
      ap (λ (l : List ℕ). header ++ l) (rw drop-length at (changes_split (length run) (omega arith)))
      ∙ sym (append_assoc header (changes_to run (length run)) (time_line (length run)))

-- ---- a run that is cut
module _ (run : List ℕ) where
  before_take : (n t : ℕ) → t ≤ n → entry_before (take n run) t ≡ entry_before run t
  unfolding entry_before
  before_take n zero l = refl
  before_take n (suc t) l = get_or-take n run t 0 l

  changes_take : (n t : ℕ) → t ≤ n → changes_to (take n run) t ≡ changes_to run t
  unfolding changes_to
  changes_take n zero l = refl
  changes_take n (suc t) l = rw (changes_take n t (omega arith), before_take n t (omega arith), get_or-take n run t 0 l)

  -- Its text is that of the whole one, as far as it goes.
  pub cut_text : (n : ℕ) → vcd_text (take n run) ≡ text_to run (min n (length run))
  unfolding text_to
  cut_text n =
      whole_text (take n run)
      ∙ rw length-take (ap (λ (l : List ℕ). header ++ l ++ time_line (min n (length run))) (changes_take n (min n (length run)) (omega arith)))

-- ---- how long
change-length : (t before entry : ℕ) → length (change_of t before entry) ≡ 15 * change_count before entry
unfolding change_of change_count time_line value_line
change-length t before entry =
    of_choice length (eqb entry before) _ _ ∙ sym (of_choice (λ (n : ℕ). 15 * n) (eqb entry before) 0 1)

change_once : (before entry : ℕ) → change_count before entry ≤ 1
unfolding change_count
change_once before entry = choose_either (λ (n : ℕ). n ≤ 1) (eqb entry before) 0 1 (omega arith) (omega arith)

module _ (run : List ℕ) where
  pub changes-length : (t : ℕ) → length (changes_to run t) ≡ 15 * count_to run t
  unfolding changes_to count_to
  changes-length zero = refl
  changes-length (suc t) =
      omega (
        arith,
        length-append (changes_to run t) (change_of t (entry_before run t) (at run t)),
        changes-length t,
        change-length t (entry_before run t) (at run t),
      )

  -- At most one change a slice.
  pub count_few : (t : ℕ) → count_to run t ≤ t
  unfolding count_to
  count_few zero = omega arith
  count_few (suc t) = omega (arith, count_few t, change_once (entry_before run t) (at run t))

  pub text_to-length : (t : ℕ) → length (text_to run t) ≡ 115 + 15 * count_to run t
  unfolding text_to header time_line ascii
  text_to-length t =
      omega (
        arith,
        length-append (header ++ changes_to run t) (time_line t),
        length-append header (changes_to run t),
        changes-length t,
      )

  -- A header of 109 bytes, 15 for each change, and 6 for the end mark.
  pub text-length : length (vcd_text run) ≡ 115 + 15 * count_to run (length run)
  text-length = ap length (whole_text run) ∙ text_to-length (length run)

  -- So 61,555 bytes are room for every run of at most 4,096 slices.
  pub text_longest : length run ≤ 4096 → length (vcd_text run) ≤ 61555
  text_longest few = omega (arith, text-length, count_few (length run))
