-- What a program prints that reads a task list and says more of it than the verdict: 16 comes first, then 15 for the first bad line, then what it says of the list.
use Rattle.std.specs.Prelude.{◌≡◌, List, ℕ, ◌≤◌, ◌<◌, pos, length, Result, Ok, Err}
use Rattle.basis.specs.Answer.{refusal}
use Rattle.tasks.specs.declared.TaskList.{TaskList}
use Rattle.records.specs.declared.BadLine.{BadLine}
use Rattle.records.specs.Grammar.{Read, form_answer, read_of, Reads}
use Rattle.records.proofs.Reading.{good_is_0, bad_is_15}
use Rattle.printing.specs.Text.{refusal_text}
use Rattle.printing.specs.Written.{Written}
use Rattle.output.specs.Output.{record_of}

pub data ListPrints (Of : Read → List ℕ → Type 0) (input : List ℕ) : List ℕ → Type 0 where
  too_long : 4096 < length input → ListPrints Of input (record_of (refusal 16 0))
  bad_line : {r : Read} → length input ≤ 4096 → Reads input r → r.answer.number ≡ 15 → ListPrints Of input (record_of r.answer)
  of_list : {r : Read} {text : List ℕ} → length input ≤ 4096 → Reads input r → r.answer.number ≡ 0 → Of r text → ListPrints Of input text

-- The text stands in the lent bytes from the first on, and the answer is its length.
pub record ListAnswers (Of : Read → List ℕ → Type 0) (input old new : List ℕ) (r : ℕ) : Type 0 where
  pub text : List ℕ
  pub prints : ListPrints Of input text
  pub written : Written text old new r

-- ---- the ways to it, as a program that reads a list goes them
module _ {Of : Read → List ℕ → Type 0} {input old new : List ℕ} {r : ℕ} where
  pub answers_too_long : 4096 < length input → Written (refusal_text 16 0 (pos 0)) old new r → ListAnswers Of input old new r
  unfolding record_of refusal
  answers_too_long l W = record { text = _; prints = too_long l; written = W }

  module _ (p : Result TaskList BadLine) (l : length input ≤ 4096) (R : Reads input (read_of p)) where
    pub answers_bad_line : (bad : BadLine) → p ≡ Err bad → Written (refusal_text 15 bad.line (pos 0)) old new r → ListAnswers Of input old new r
    unfolding record_of read_of form_answer refusal
    answers_bad_line bad b W = record { text = _; prints = bad_line l R (bad_is_15 p bad b); written = rw b W }

    pub answers_list : (list : TaskList) → p ≡ Ok list → {text : List ℕ} → Of (read_of p) text → Written text old new r → ListAnswers Of input old new r
    answers_list list good of W = record { text = _; prints = of_list l R (good_is_0 p list good) of; written = W }
