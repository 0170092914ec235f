-- What the program prints for an input, and what it says beside it: 16 comes first, then 15 for the first bad line, then the list's checks; else the table.
use Rattle.std.specs.Prelude.{◌≡◌, List, [], ℕ, ◌≤◌, ◌<◌, ℤ, eqb, length, replicate}
use Rattle.basis.specs.Choose.{choose}
use Rattle.basis.specs.Bytes.{overwrite}
use Rattle.basis.specs.Answer.{Answer, refusal}
use Rattle.plan.specs.Plan.{table}
use Rattle.tasks.specs.declared.TaskList.{TaskList}
use Rattle.tasks.specs.declared.refusals.Refusal.{Refusal}
use Rattle.tasks.specs.List.{plan_of}
use Rattle.tasks.specs.Refusal.{refusal_answer}
use Rattle.verdict.specs.Verdict.{verdict_of, verdict_answer}
use Rattle.records.specs.Grammar.{Read, Reads}
use Rattle.printing.specs.Text.{refusal_text, clash_text, table_text}
use Rattle.printing.specs.Written.{Written}

-- The refusal record of an answer.
unfoldable pub record_of : Answer → List ℕ
record_of a = refusal_text a.number a.task a.margin

-- The entries of an accepted list, from slice 0 to the cycle's end.
unfoldable pub entries : TaskList → ℕ → List ℕ
entries l cycle = overwrite (table (plan_of l)) cycle (replicate cycle 0)

-- The verdict on the list that is read. The supply is 65,536.
abbrev pub judged_as : Read → Answer
judged_as r = verdict_answer (verdict_of r.list 65536)

pub data Prints (input : List ℕ) : List ℕ → Type 0 where
  too_long : 4096 < length input → Prints input (record_of (refusal 16 0))
  bad_line : {r : Read} → length input ≤ 4096 → Reads input r → r.answer.number ≡ 15 → Prints input (record_of r.answer)
  refused : {r : Read} → length input ≤ 4096 → Reads input r → r.answer.number ≡ 0 → ((judged_as r).number ≡ 0 → ⊥) → Prints input (record_of (judged_as r))
  accepted : {r : Read} → length input ≤ 4096 → Reads input r → r.answer.number ≡ 0 → (judged_as r).number ≡ 0 → Prints input (table_text (entries r.list (judged_as r).cycle))

-- What is said beside it, on standard error: of a list that is refused by 6, which two periods clash; else nothing.
unfoldable pub note_of : Answer → List ℕ
note_of a = choose (eqb a.number 6) (clash_text a.reached a.period) []

pub data Notes (input : List ℕ) : List ℕ → Type 0 where
  of_no_list : 4096 < length input → Notes input []
  of_bad_line : {r : Read} → length input ≤ 4096 → Reads input r → r.answer.number ≡ 15 → Notes input []
  of_list : {r : Read} → length input ≤ 4096 → Reads input r → r.answer.number ≡ 0 → Notes input (note_of (judged_as r))

pub record Noted (input old new : List ℕ) (r : ℕ) : Type 0 where
  pub text : List ℕ
  pub notes : Notes input text
  pub written : Written text old new r

-- The text stands in the lent bytes from the first on, and the answer is its length.
pub record Answers (input old new : List ℕ) (r : ℕ) : Type 0 where
  pub text : List ℕ
  pub prints : Prints input text
  pub written : Written text old new r

-- The record of a refusal, as a program writes it.
pub writes_refusal : (e : Refusal) {number task : ℕ} {margin : ℤ} {old new : List ℕ} {r : ℕ} → number ≡ (refusal_answer e).number → task ≡ (refusal_answer e).task → margin ≡ (refusal_answer e).margin
    → Written (refusal_text number task margin) old new r → Written (record_of (refusal_answer e)) old new r
unfolding record_of
writes_refusal e n t m W = rw (← n, ← t, ← m) W
