-- Every input has one output, one note beside it, one quick output and one dump, and with a file one explanation: whatever two texts a program may print for it are equal.
use Rattle.std.specs.Prelude.{◌≡◌, refl, List, [], ℕ, ◌≤◌, ◌<◌, ltb, eqb, length, replicate}
use Rattle.std.proofs.Math.Path.{sym, ap}
use Rattle.std.proofs.Common.{ap₂, subst, ◌∙◌, arith, lt-ltb, le-ltb, eq-eqb, ne_eqb}
use Rattle.basis.specs.Choose.{choose, choose_yes, choose_no}
use Rattle.basis.specs.Answer.{refusal}
use Rattle.tasks.specs.declared.TaskList.{TaskList}
use Rattle.records.specs.Grammar.{Read, read_of, Reads}
use Rattle.records.proofs.Reading.{reads_only}
use Rattle.records.specs.Shapes.{parsed_of}
use Rattle.printing.specs.Text.{table_text}
use Rattle.output.specs.Output.{record_of, entries, judged_as, Prints, too_long, bad_line, refused, accepted, note_of, Notes, of_no_list, of_bad_line, of_list as of-judged}
use Rattle.explain.specs.Seen.{Viewed}
use Rattle.viewer.specs.Viewer.{ExplainsFile}
use Rattle.output.specs.Listed.{ListPrints, too_long as list-too-long, bad_line as list-bad-line, of_list as of-listed}
use Rattle.output.specs.Vcd.{VcdOf, VcdPrints, refused as vcd-refused, accepted as vcd-accepted}
use Rattle.output.specs.Explain.{viewed_text, ExplainOf, ExplainPrints}
use Rattle.output.specs.Quick.{quick_record_of, asked_as, QuickPrints, too_long as quick-too-long, bad_line as quick-bad-line, asked}

-- ---- a text as a function of the input
-- One for an input that is too long, one for a bad line, one for a list.
module _ (long : List ℕ) (line list : Read → List ℕ) where
  chosen : List ℕ → Read → List ℕ
  chosen input r = choose (ltb 4096 (length input)) long (choose (eqb r.answer.number 0) (list r) (line r))

  text_of : List ℕ → List ℕ
  text_of input = chosen input (read_of (parsed_of input))

  of_length : (input : List ℕ) → 4096 < length input → long ≡ text_of input
  unfolding text_of chosen
  of_length input l = sym (choose_yes _ _ _ (lt-ltb 4096 (length input) l))

  module _ {input : List ℕ} {r : Read} (l : length input ≤ 4096) (R : Reads input r) where
    of_read : chosen input r ≡ text_of input
    unfolding text_of
    of_read = ap (chosen input) (reads_only R)

    of_line : r.answer.number ≡ 15 → line r ≡ text_of input
    unfolding chosen
    of_line b = sym (choose_no _ _ _ (le-ltb 4096 (length input) l) ∙ choose_no _ _ _ (ne_eqb r.answer.number 0 (λ z. omega arith))) ∙ of_read

    of_list : r.answer.number ≡ 0 → list r ≡ text_of input
    unfolding chosen
    of_list g = sym (choose_no _ _ _ (le-ltb 4096 (length input) l) ∙ choose_yes _ _ _ (eq-eqb r.answer.number 0 g)) ∙ of_read

-- ---- the output
judged_text : Read → List ℕ
judged_text r = choose (eqb (judged_as r).number 0) (table_text (entries r.list (judged_as r).cycle)) (record_of (judged_as r))

prints_is : {input text : List ℕ} → Prints input text → text ≡ text_of (record_of (refusal 16 0)) (λ r. record_of r.answer) judged_text input
unfolding judged_text
prints_is (too_long l) = of_length _ _ _ _ l
prints_is (bad_line l R b) = of_line _ _ _ l R b
prints_is (refused {r = r} l R g nz) = sym (choose_no _ _ _ (ne_eqb (judged_as r).number 0 nz)) ∙ of_list _ _ judged_text l R g
prints_is (accepted {r = r} l R g z) = sym (choose_yes _ _ _ (eq-eqb (judged_as r).number 0 z)) ∙ of_list _ _ judged_text l R g

pub one_output : {input text text' : List ℕ} → Prints input text → Prints input text' → text ≡ text'
one_output P P' = prints_is P ∙ sym (prints_is P')

-- ---- the note
notes_is : {input text : List ℕ} → Notes input text → text ≡ text_of [] (λ _. []) (λ r. note_of (judged_as r)) input
notes_is (of_no_list l) = of_length _ _ _ _ l
notes_is (of_bad_line l R b) = of_line _ _ _ l R b
notes_is (of-judged l R g) = of_list _ _ _ l R g

pub one_note : {input text text' : List ℕ} → Notes input text → Notes input text' → text ≡ text'
one_note N N' = notes_is N ∙ sym (notes_is N')

-- ---- the quick output
quick_is : {input text : List ℕ} → QuickPrints input text → text ≡ text_of (quick_record_of (refusal 16 0)) (λ r. quick_record_of r.answer) (λ r. quick_record_of (asked_as r)) input
quick_is (quick-too-long l) = of_length _ _ _ _ l
quick_is (quick-bad-line l R b) = of_line _ _ _ l R b
quick_is (asked l R g) = of_list _ _ _ l R g

pub one_quick_output : {input text text' : List ℕ} → QuickPrints input text → QuickPrints input text' → text ≡ text'
one_quick_output P P' = quick_is P ∙ sym (quick_is P')

-- ---- the outputs of the programs that say more of a list
-- Where what is said of a list is one text, the output is.
listed_one : {Of : Read → List ℕ → Type 0} {input text text' : List ℕ} → ((r : Read) (t t' : List ℕ) → Of r t → Of r t' → t ≡ t') → ListPrints Of input text → ListPrints Of input text' → text ≡ text'
listed_one one (list-too-long l) (list-too-long _) = refl
listed_one one (list-too-long l) (list-bad-line l' _ _) = absurd (omega arith)
listed_one one (list-too-long l) (of-listed l' _ _ _) = absurd (omega arith)
listed_one one (list-bad-line l _ _) (list-too-long l') = absurd (omega arith)
listed_one one (list-bad-line _ R _) (list-bad-line _ R' _) = ap (λ (r : Read). record_of r.answer) (reads_only R ∙ sym (reads_only R'))
listed_one one (list-bad-line _ R b) (of-listed _ R' g _) = absurd (omega (arith, ap (λ (r : Read). r.answer.number) (reads_only R ∙ sym (reads_only R'))))
listed_one one (of-listed l _ _ _) (list-too-long l') = absurd (omega arith)
listed_one one (of-listed _ R g _) (list-bad-line _ R' b) = absurd (omega (arith, ap (λ (r : Read). r.answer.number) (reads_only R ∙ sym (reads_only R'))))
listed_one {Of} {text = text} {text' = text'} one (of-listed {r = r} _ R _ of) (of-listed _ R' _ of') = one r text text' of (subst (λ (x : Read). Of x text') (reads_only R' ∙ sym (reads_only R)) of')

vcd_one : (r : Read) (t t' : List ℕ) → VcdOf r t → VcdOf r t' → t ≡ t'
vcd_one r _ _ (vcd-refused _) (vcd-refused _) = refl
vcd_one r _ _ (vcd-refused nz) (vcd-accepted z) = absurd (nz z)
vcd_one r _ _ (vcd-accepted z) (vcd-refused nz) = absurd (nz z)
vcd_one r _ _ (vcd-accepted _) (vcd-accepted _) = refl

pub one_dump : {input text text' : List ℕ} → VcdPrints input text → VcdPrints input text' → text ≡ text'
one_dump P P' = listed_one vcd_one P P'

-- Explaining a file leaves one answer and one value for each need.
abbrev pub OneExplanation : List ℕ → Type 0
OneExplanation file =
    (l : TaskList) (needs needs' : List ℕ) (v v' : Viewed) → ExplainsFile l 65536 file (replicate 4096 0) needs v → ExplainsFile l 65536 file (replicate 4096 0) needs' v' → (v ≡ v') × (needs ≡ needs')

explained_one : {file : List ℕ} → OneExplanation file → (r : Read) (t t' : List ℕ) → ExplainOf file r t → ExplainOf file r t' → t ≡ t'
explained_one only r t t' E E' =
    let same = only r.list E.needs E'.needs E.viewed E'.viewed E.explained E'.explained in
    E.is_text ∙ ap₂ (λ (v : Viewed) (needs : List ℕ). viewed_text r.list needs v) same.0 same.1 ∙ sym E'.is_text

pub one_explanation_printed : {input file text text' : List ℕ} → OneExplanation file → ExplainPrints input file text → ExplainPrints input file text' → text ≡ text'
one_explanation_printed only P P' = listed_one (explained_one only) P P'
