-- What is printed at each way out of `answer`, as laws over plain values.
use Rattle.std.specs.Prelude.{◌≡◌, refl, List, [], ℕ, ◌≤◌, ◌<◌, ℤ, pos, length, take, Result, Ok, Err}
use Rattle.std.proofs.Math.Path.{subst, sym, ap}
use Rattle.std.proofs.Common.{◌∙◌, arith}
use Rattle.basis.specs.Choose.{choose}
use Rattle.basis.specs.Bytes.{overwrite}
use Rattle.basis.specs.Answer.{refusal, clash}
use Rattle.tasks.specs.declared.TaskList.{TaskList}
use Rattle.tasks.specs.declared.refusals.Refusal.{Refusal}
use Rattle.tasks.specs.declared.refusals.Refusal.TheVariants.{NoTasks, TooManyTasks, PeriodOutside, RuntimeOutside, DeadlineOutside, MemoryExceeded, CycleTooLong, Late, Fails, ShortTable, ShortLog, OtherForm, OtherLength, EntryAbove, NoRoom}
use Rattle.tasks.specs.Refusal.{refusal_answer}
use Rattle.verdict.specs.declared.Accepted.{Accepted}
use Rattle.verdict.specs.Verdict.{Verdict, verdict_of, verdict_answer}
use Rattle.verdict.proofs.Told.{refused_not_0}
use Rattle.verdict.specs.Table.{Built}
use Rattle.records.specs.declared.BadLine.{BadLine}
use Rattle.records.specs.Grammar.{form_answer, list_read, read_of, Reads}
use Rattle.records.proofs.Reading.{good_is_0, bad_is_15}
use Rattle.printing.specs.Text.{refusal_text, clash_text, table_text}
use Rattle.printing.specs.Written.{Written}
use Rattle.output.specs.Output.{record_of, too_long, bad_line, refused, accepted, Answers, note_of, of_no_list, of_bad_line, of_list, Noted}
use Rattle.output.specs.Building.{built_judged, accepted_by_0, entries_read}

-- ---- the note of a refusal
writes_nothing : {old : List ℕ} → Written [] old old 0
unfolding overwrite
writes_nothing = record { whole = refl; bytes = refl }

pub notes_clash : (e : Refusal) {task reached period : ℕ} → e ≡ CycleTooLong task reached period → {old new : List ℕ} {r : ℕ} → Written (clash_text reached period) old new r
    → Written (note_of (refusal_answer e)) old new r
unfolding note_of refusal_answer clash choose
notes_clash e q W = rw q W

pub notes_other : (e : Refusal) → ((task reached period : ℕ) → e ≡ CycleTooLong task reached period → ⊥) → {old : List ℕ} → Written (note_of (refusal_answer e)) old old 0
unfolding note_of refusal_answer refusal choose
notes_other NoTasks h = writes_nothing
notes_other TooManyTasks h = writes_nothing
notes_other (PeriodOutside task) h = writes_nothing
notes_other (RuntimeOutside task) h = writes_nothing
notes_other (DeadlineOutside task) h = writes_nothing
notes_other (MemoryExceeded task) h = writes_nothing
notes_other (CycleTooLong task reached period) h = absurd (h task reached period refl)
notes_other (Late task margin) h = writes_nothing
notes_other (Fails task) h = writes_nothing
notes_other ShortTable h = writes_nothing
notes_other ShortLog h = writes_nothing
notes_other (OtherForm place) h = writes_nothing
notes_other OtherLength h = writes_nothing
notes_other EntryAbove h = writes_nothing
notes_other NoRoom h = writes_nothing

-- The record of a list that is accepted, were it printed.
pub writes_accepted : (v : Verdict) (a : Accepted) → v ≡ Ok a → {m : ℤ} → m ≡ a.margin → {old new : List ℕ} {r : ℕ} → Written (refusal_text 0 a.task m) old new r → Written (record_of (verdict_answer v)) old new r
unfolding record_of verdict_answer
writes_accepted v a q same W = rw (q, ← same) W

-- The note of a list: nothing is said of an accepted one.
pub notes_accepted : (v : Verdict) (a : Accepted) → v ≡ Ok a → {old : List ℕ} → Written (note_of (verdict_answer v)) old old 0
unfolding note_of verdict_answer choose
notes_accepted v a q = rw q writes_nothing

-- ---- an input that is too long, or has a bad line
module _ {input : List ℕ} where
  module _ {old new : List ℕ} {r : ℕ} where
    pub answers_too_long : 4096 < length input → Written (refusal_text 16 0 (pos 0)) old new r → Answers input old new r
    unfolding record_of refusal
    answers_too_long l W = record { text = _; prints = too_long l; written = W }

    pub answers_bad_line : (p : Result TaskList BadLine) → length input ≤ 4096 → Reads input (read_of p) → (bad : BadLine) → p ≡ Err bad → Written (record_of (form_answer p)) old new r → Answers input old new r
    unfolding read_of
    answers_bad_line p l R bad b W = record { text = _; prints = bad_line l R (bad_is_15 p bad b); written = W }

  module _ {old : List ℕ} where
    pub notes_too_long : 4096 < length input → Noted input old old 0
    notes_too_long l = record { text = []; notes = of_no_list l; written = writes_nothing }

    pub notes_bad_line : (p : Result TaskList BadLine) → length input ≤ 4096 → Reads input (read_of p) → (bad : BadLine) → p ≡ Err bad → Noted input old old 0
    notes_bad_line p l R bad b = record { text = []; notes = of_bad_line l R (bad_is_15 p bad b); written = writes_nothing }

-- ---- a list, and the verdict on it
module _ {input : List ℕ} (p : Result TaskList BadLine) (l : length input ≤ 4096) (R : Reads input (read_of p)) (list : TaskList) (good : p ≡ Ok list) (v : Verdict) (ev : v ≡ verdict_of list 65536) where
  judged : verdict_of (read_of p).list 65536 ≡ v
  unfolding read_of list_read
  judged = ap (λ (x : Result TaskList BadLine). verdict_of (list_read x) 65536) good ∙ sym ev

  pub answers_refused : (e : Refusal) → v ≡ Err e → {old new : List ℕ} {r : ℕ} → Written (record_of (verdict_answer v)) old new r → Answers input old new r
  unfolding verdict_answer
  answers_refused e q {old = old} {new = new} {r = r} W = record {
    text = _;
    prints = refused l R (good_is_0 p list good) (λ z. refused_not_0 (read_of p).list 65536 e (judged ∙ q) (sym (ap (λ (x : Verdict). (verdict_answer x).number) (judged ∙ q)) ∙ z));
    written = subst (λ (x : Verdict). Written (record_of (verdict_answer x)) old new r) (sym judged) W;
  }

  pub notes_list : {old new : List ℕ} {r : ℕ} → Written (note_of (verdict_answer v)) old new r → Noted input old new r
  notes_list {old = old} {new = new} {r = r} W = record {
    text = _;
    notes = of_list l R (good_is_0 p list good);
    written = subst (λ (x : Verdict). Written (note_of (verdict_answer x)) old new r) (sym judged) W;
  }

  -- ---- an accepted one, with its table
  module _ (a : Accepted) (yes : v ≡ Ok a) {lent built : List ℕ} {w : Verdict} (room : 4096 ≤ length lent) (B : Built list 65536 lent built w) where
    pub built_accepted : w ≡ Ok a
    built_accepted = built_judged list 65536 room B ∙ sym ev ∙ yes

    pub never_short : {A : Type 0} (e : Refusal) → w ≡ Err e → A
    never_short e short =
        let both : Ok a ≡ Err e = sym built_accepted ∙ short in
        let z : ◌≡◌ {A = ℕ} 0 1 = cc in
        absurd (omega arith)

    pub answers_table : {old new : List ℕ} {r : ℕ} → Written (table_text (take a.cycle built)) old new r → Answers input old new r
    answers_table {old = old} {new = new} {r = r} W = record {
      text = _;
      prints = accepted l R (good_is_0 p list good) (accepted_by_0 p list good room B a built_accepted);
      written = subst (λ (t : List ℕ). Written (table_text t) old new r) (entries_read p list good room B a built_accepted) W;
    }
