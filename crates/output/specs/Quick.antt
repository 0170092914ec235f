-- What the quick program prints for an input: 16 comes first, then 15 for the first bad line, then the quick answer on the list.
use Rattle.std.specs.Prelude.{◌≡◌, List, ℕ, ◌≤◌, ◌<◌, length}
use Rattle.basis.specs.Answer.{Answer, refusal}
use Rattle.quick.specs.Quick.{quick_of, quick_answer}
use Rattle.records.specs.Grammar.{Read, Reads}
use Rattle.printing.specs.Text.{quick_text}
use Rattle.printing.specs.Written.{Written}

-- The quick record of an answer. Accepted is 0,0.
unfoldable pub quick_record_of : Answer → List ℕ
quick_record_of a = quick_text a.number a.task

-- The quick answer on the list that is read. The supply is 65,536.
abbrev pub asked_as : Read → Answer
asked_as r = quick_answer (quick_of r.list 65536)

pub data QuickPrints (input : List ℕ) : List ℕ → Type 0 where
  too_long : 4096 < length input → QuickPrints input (quick_record_of (refusal 16 0))
  bad_line : {r : Read} → length input ≤ 4096 → Reads input r → r.answer.number ≡ 15 → QuickPrints input (quick_record_of r.answer)
  asked : {r : Read} → length input ≤ 4096 → Reads input r → r.answer.number ≡ 0 → QuickPrints input (quick_record_of (asked_as r))

-- The text stands in the lent bytes from the first on, and the answer is its length.
pub record QuickAnswers (input old new : List ℕ) (r : ℕ) : Type 0 where
  pub text : List ℕ
  pub prints : QuickPrints input text
  pub written : Written text old new r
