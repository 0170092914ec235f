-- What is printed at each way out of `answer`, as laws over plain values.
use Rattle.std.specs.Prelude.{◌≡◌, List, ℕ, ◌≤◌, ◌<◌, length, Result, Ok, Err}
use Rattle.basis.specs.Answer.{refusal, none}
use Rattle.tasks.specs.declared.TaskList.{TaskList}
use Rattle.quick.specs.declared.Refused.{Refused}
use Rattle.quick.specs.Quick.{quick_of, quick_answer}
use Rattle.records.specs.declared.BadLine.{BadLine}
use Rattle.records.specs.Grammar.{form_answer, list_read, read_of, Reads}
use Rattle.records.proofs.Reading.{good_is_0, bad_is_15}
use Rattle.printing.specs.Text.{quick_text}
use Rattle.printing.specs.Written.{Written}
use Rattle.output.specs.Quick.{quick_record_of, too_long, bad_line, asked, QuickAnswers}

module _ {input old new : List ℕ} {r : ℕ} where
  pub answers_too_long : 4096 < length input → Written (quick_text 16 0) old new r → QuickAnswers input old new r
  unfolding quick_record_of refusal
  answers_too_long l W = record { text = _; prints = too_long l; written = W }

  module _ (p : Result TaskList BadLine) (l : length input ≤ 4096) (R : Reads input (read_of p)) where
    pub answers_bad_line : (bad : BadLine) → p ≡ Err bad → Written (quick_text 15 bad.line) old new r → QuickAnswers input old new r
    unfolding quick_record_of read_of form_answer refusal
    answers_bad_line bad b W = record { text = _; prints = bad_line l R (bad_is_15 p bad b); written = rw b W }

    module _ (list : TaskList) (good : p ≡ Ok list) (q : Result (Unit {0}) Refused) (e : q ≡ quick_of list 65536) where
      answers_list : Written (quick_record_of (quick_answer q)) old new r → QuickAnswers input old new r
      unfolding read_of list_read
      answers_list W = record { text = _; prints = asked l R (good_is_0 p list good); written = rw good (rw e at W) }

      pub answers_accepted : (done : Unit {0}) → q ≡ Ok done → Written (quick_text 0 0) old new r → QuickAnswers input old new r
      unfolding quick_record_of quick_answer none refusal
      answers_accepted done is W = answers_list (rw is W)

      pub answers_refused : (f : Refused) → q ≡ Err f → Written (quick_text f.number f.task) old new r → QuickAnswers input old new r
      unfolding quick_record_of quick_answer refusal
      answers_refused f is W = answers_list (rw is W)
