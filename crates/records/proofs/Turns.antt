-- One turn of the loop over the bytes, as laws over plain values.
use mathlib.Core.Path.{◌≡◌, refl, sym, ap, subst, ◌∙◌}
use mathlib.Core.Bool.{false, true}
use mathlib.Core.List.{List, [], ◌∷◌}
use Prim.Native.Nat.{ℕ, ◌+◌, ◌-◌, ◌≤◌, ◌<◌}
use native.Mathlib.Omega.{arith}
use lib.ListN.{length, get_or, take, drop}
use Rattle.std.proofs.lemmas.List.{take_all}
use Rattle.std.specs.Prelude.{Option, Some, None, Result, Ok, Err, eqb}
use Rattle.std.proofs.Common.{ne_eqb, eqb-true}
use Rattle.basis.specs.Choose.{both_false}
use Rattle.tasks.specs.declared.Task.{Task}
use Rattle.tasks.specs.declared.TaskList.{TaskList}
use Rattle.tasks.specs.List.{list_of}
use Rattle.records.specs.declared.BadLine.{BadLine}
use Rattle.records.specs.declared.Line.{Line}
use Rattle.records.specs.Grammar.{read_of, Reads}
use Rattle.records.specs.LineEnds.{is_pair, lines_of}
use Rattle.records.proofs.LineEnds.{lines_pair, lines_byte}
use Rattle.records.specs.Shapes.{fresh, with_byte, row_of, close_as, close_line, at_end, read_from, parsed_of}
use Rattle.records.proofs.Reading.{byte_read, fresh_read, good_read, bad_stays, parsed_reads}

-- What is left to read comes to the answer of the whole input; and each line that is counted took the two bytes of its CRLF.
pub record Reached (input : List ℕ) (list : TaskList) (line : Option Line) (rest : List ℕ) : Type 0 where
  pub left : read_from list line (lines_of rest) ≡ parsed_of input
  pub counted : list.count + list.count + length rest ≤ length input

-- CRLF at the head of what is left.
pub record Headed (rest : List ℕ) : Type 0 where
  pub two : 2 ≤ length rest
  pub cr : get_or rest 0 0 ≡ 13
  pub lf : get_or rest 1 0 ≡ 10

pair : (b c : ℕ) (rest : List ℕ) → Headed (b ∷ c ∷ rest) → is_pair b c ≡ true
unfolding is_pair
pair b c rest h = let eb : b ≡ 13 = h.cr in let ec : c ≡ 10 = h.lf in rw (eb, ec) refl

no_pair : (b : ℕ) (rest : List ℕ) → (Headed (b ∷ rest) → ⊥) → is_pair b (get_or rest 0 0) ≡ false
unfolding is_pair
no_pair b [] h = refl
no_pair b (c ∷ rest) h =
    (both_false (eqb c 10) (eqb b 13)).1 (λ t. ne_eqb b 13 (λ e. h (record { two = omega arith; cr = e; lf = eqb-true c 10 t })))

-- Where the whole input's answer is known, it is the grammar's.
pub answered : (input : List ℕ) (r : Result TaskList BadLine) → r ≡ parsed_of input → Reads input (read_of r)
answered input r e = subst (λ (x : Result TaskList BadLine). Reads input (read_of x)) (sym e) (parsed_reads input)

pub no_byte_yet : (input : List ℕ) (l : TaskList) (s : Line) → l ≡ list_of [] → s ≡ fresh → Reached input l (Some s) input
unfolding parsed_of list_of
no_byte_yet input l s el es =
    rw (el, es) (record { left = fresh_read (list_of []) (lines_of input); counted = omega arith })

line_counted : (l : TaskList) (o : Option Task) (m : TaskList) → close_as l o ≡ Ok m → m.count ≡ l.count + 1
line_counted l (Some t) m e = grind (arith, e)
line_counted l None m e = grind (arith, e)

module _ {input : List ℕ} {l : TaskList} {s : Option Line} where
  -- CRLF ends a line, which is good,
  pub line_ends : (m : TaskList) (n : Line) (rest behind : List ℕ) → Headed rest → behind ≡ take (length rest - 2) (drop 2 rest) → Reached input l s rest → close_line l s ≡ Ok m → n ≡ fresh → Reached input m (Some n) behind
  line_ends m n (b ∷ c ∷ rest) behind h eb R good en =
      let whole : behind ≡ rest = eb ∙ take_all (length (b ∷ c ∷ rest) - 2) rest (omega arith) in
      rw (en, whole)
      (record {
        left = good_read l s m (lines_of rest) good ∙ ap (read_from l s) (sym (lines_pair b (c ∷ rest) (pair b c rest h))) ∙ R.left;
        counted = omega (arith, R.counted, line_counted l (row_of s) m good);
      })
  line_ends m n [] behind h eb R good en = absurd (omega (arith, h.two))
  line_ends m n (b ∷ []) behind h eb R good en = absurd (omega (arith, h.two))

  -- or the first bad one;
  pub line_named : (bad : BadLine) (rest : List ℕ) → Headed rest → Reached input l s rest → close_line l s ≡ Err bad → Reads input (read_of (Err bad))
  line_named bad (b ∷ c ∷ rest) h R e =
      answered input (Err bad) (bad_stays l s bad (lines_of rest) e ∙ ap (read_from l s) (sym (lines_pair b (c ∷ rest) (pair b c rest h))) ∙ R.left)
  line_named bad [] h R e = absurd (omega (arith, h.two))
  line_named bad (b ∷ []) h R e = absurd (omega (arith, h.two))

  -- any other byte belongs to it.
  pub line_goes_on : (n : Option Line) (rest : List ℕ) → 1 ≤ length rest → (Headed rest → ⊥) → Reached input l s rest → n ≡ with_byte s (get_or rest 0 0) → Reached input l n (take (length rest - 1) (drop 1 rest))
  line_goes_on n (b ∷ rest) one h R en =
      let whole : rest ≡ take (length (b ∷ rest) - 1) rest = sym (take_all (length (b ∷ rest) - 1) rest (omega arith)) in
      rw en (subst (Reached input l (with_byte s b)) whole (record {
        left = byte_read l s b (lines_of rest) ∙ ap (read_from l s) (sym (lines_byte b rest (no_pair b rest h))) ∙ R.left;
        counted = omega (arith, R.counted);
      }))
  line_goes_on n [] one h R en = absurd (omega arith)

  pub no_byte_more : (r : Result TaskList BadLine) (rest : List ℕ) → length rest < 1 → Reached input l s rest → r ≡ at_end l s → Reads input (read_of r)
  unfolding read_from lines_of
  no_byte_more r [] none R e = answered input r (e ∙ R.left)
  no_byte_more r (b ∷ rest) none R e = absurd (omega arith)
