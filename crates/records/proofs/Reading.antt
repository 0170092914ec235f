-- What the reader answers is what the grammar says, and the grammar allows no other answer.
use Rattle.std.proofs.Math.Path.{◌≡◌, refl, sym, ap, ap₂}
use Rattle.std.proofs.Common.{subst, ◌∙◌, arith, add-one, length-append, length-set, ext_get_or, get_or-set_same, get_or-set_other, lt-ltb, le-ltb}
use Rattle.std.proofs.lemmas.Option.{none-some}
use Rattle.std.specs.Prelude.{Bool, true, false, if◌then◌else◌, Option, Some, None, Result, Ok, Err, ◌↔◌, ℕ, zero, suc, ◌+◌, ◌-◌, ◌*◌, ◌≤◌, ◌<◌, eqb, unwrap_or, get_or, set, replicate}
use mathlib.Core.List.{List, [], ◌∷◌, ◌++◌, append-nil, append_assoc}
use Rattle.std.proofs.Math.Logic.{⊎_elim}
use Rattle.std.proofs.Math.ListN.{length}
use Rattle.std.proofs.Math.Seq.{get_or-append_seam}
use Rattle.basis.specs.Choose.{eq_or_ne, le_or_lt}
use Rattle.basis.specs.Bytes.{overwrite, overwrite-length, overwrite_at, overwrite_same}
use Rattle.basis.specs.Answer.{refusal, none}
use Rattle.tasks.specs.declared.Task.{Task}
use Rattle.tasks.specs.declared.TaskList.{TaskList}
use Rattle.tasks.specs.List.{list_of, task_at, no_task}
use Rattle.records.specs.declared.BadLine.{BadLine}
use Rattle.records.specs.declared.Place.{Place}
use Rattle.records.specs.declared.Place.TheVariants.{Period, Runtime, Memory, Deadline}
use Rattle.records.specs.declared.Line.{Line}
use Rattle.records.specs.Grammar.{Row, Rows, no_rows, row, Lines, Read, accepted, refused, form_answer, list_read, read_of, Reads, good, bad}
use Rattle.records.specs.Shapes.{fresh, closed_by, with_comma, with_digit, with_byte, line_from, is_digit, full, row_of, begun_at, begun, kept, close_as, close_line, read_lines, read_from, parsed_of}
use Rattle.records.proofs.RowForm.{row_complete, complete_row}
use Rattle.records.specs.LineEnds.{push, lines_of}
use Rattle.records.proofs.LineEnds.{lines_of_lem, lines_only}

-- ---- byte by byte is line by line
either : {A : Type 0} (Q : A → Type 0) (b : Bool) (x y : A) → Q x → Q y → Q (if b then x else y)
either Q true x y p q = p
either Q false x y p q = q

begun_some : (q : Place) (v : ℕ) → begun_at q (Some v) ≡ true
begun_some Period v = refl
begun_some (Runtime p) v = refl
begun_some (Memory p r) v = refl
begun_some (Deadline p r m) v = refl

begun_comma : (q : Place) (o : Option ℕ) → begun (closed_by q o) ≡ true
begun_comma q None = refl
begun_comma Period (Some v) = refl
begun_comma (Runtime p) (Some v) = refl
begun_comma (Memory p r) (Some v) = refl
begun_comma (Deadline p r m) (Some v) = refl

begun_after : (s : Option Line) (b : ℕ) → begun (with_byte s b) ≡ true
begun_after None b = refl
begun_after (Some s) b =
    either Begun (eqb b 44) (with_comma s) (if is_digit b then with_digit s (b - 48) else None) (begun_comma s.place s.value)
    (either Begun (is_digit b) (with_digit s (b - 48)) None
    (either Begun (full s.value) None (Some (record { place = s.place; value = Some (unwrap_or s.value 0 * 10 + (b - 48)) })) refl (begun_some s.place _)) refl)
  where
    Begun : Option Line → Type 0
    Begun x = begun x ≡ true

-- A byte comes to the open line,
pub byte_read : (l : TaskList) (s : Option Line) (b : ℕ) (ls : List (List ℕ)) → read_from l (with_byte s b) ls ≡ read_from l s (push b ls)
unfolding read_from push line_from read_lines
byte_read l s b [] = rw (begun_after s b) refl
byte_read l s b (x ∷ xs) = refl

pub fresh_read : (l : TaskList) (ls : List (List ℕ)) → read_from l (Some fresh) ls ≡ read_lines (Ok l) ls
unfolding read_from read_lines
fresh_read l [] = refl
fresh_read l (x ∷ xs) = refl

-- and a line that ends comes to the answer: it is good, with a fresh line open after it,
pub good_read : (l : TaskList) (s : Option Line) (m : TaskList) (ls : List (List ℕ)) → close_line l s ≡ Ok m → read_from m (Some fresh) ls ≡ read_from l s ([] ∷ ls)
unfolding read_from line_from
good_read l s m ls e = fresh_read m ls ∙ ap (λ (r : Result TaskList BadLine). read_lines r ls) (sym e)

bad_read : (bad_line : BadLine) (ls : List (List ℕ)) → read_lines (Err bad_line) ls ≡ Err bad_line
unfolding read_lines
bad_read bad_line [] = refl
bad_read bad_line (l ∷ ls) = bad_read bad_line ls

-- or bad, and what follows it does not matter.
pub bad_stays : (l : TaskList) (s : Option Line) (bad_line : BadLine) (ls : List (List ℕ)) → close_line l s ≡ Err bad_line → Err bad_line ≡ read_from l s ([] ∷ ls)
unfolding read_from line_from
bad_stays l s bad_line ls e = sym (bad_read bad_line ls) ∙ ap (λ (r : Result TaskList BadLine). read_lines r ls) (sym e)

-- ---- the list after one row more
another_place : (t : Task) (ts : List Task) (i : ℕ) → (i ≡ length ts → ⊥) → task_at (ts ++ t ∷ []) i ≡ task_at ts i
unfolding task_at
another_place t [] zero ne = absurd (ne refl)
another_place t [] (suc i) ne = refl
another_place t (u ∷ ts) zero ne = refl
another_place t (u ∷ ts) (suc i) ne = another_place t ts i (λ e. ne (ap suc e))

module _ (ts : List Task) (t : Task) where
  abbrev more : List Task
  more = ts ++ t ∷ []

  the_last : task_at more (length ts) ≡ t
  unfolding task_at
  the_last = get_or-append_seam ts t [] no_task

  abbrev empty : List Task
  empty = replicate 16 no_task

  at : (us : List Task) (i : ℕ) → i < 16 → get_or (overwrite (task_at us) 16 empty) i no_task ≡ task_at us i
  at us i l = overwrite_at (task_at us) empty no_task 16 i l l

  stored : length ts < 16 → set (overwrite (task_at ts) 16 empty) (length ts) t ≡ overwrite (task_at more) 16 empty
  stored l =
      let long = overwrite-length (task_at ts) empty 16 in
      let sizes = length-set (overwrite (task_at ts) 16 empty) (length ts) t in
      ext_get_or no_task _ _ (sizes ∙ long ∙ sym (overwrite-length (task_at more) empty 16))
      (λ i li.
      let k : i < 16 = omega arith in
      ⊎_elim
      (λ (e : i ≡ length ts). rw e (get_or-set_same (overwrite (task_at ts) 16 empty) (length ts) t no_task (omega arith) ∙ sym (at more (length ts) l ∙ the_last)))
      (λ (ne : i ≡ length ts → ⊥).
      get_or-set_other (overwrite (task_at ts) 16 empty) (length ts) i t no_task ne ∙ at ts i k ∙ sym (at more i k ∙ another_place t ts i ne))
      (eq_or_ne i (length ts)))

  pub row_kept : kept (list_of ts) t ≡ list_of more
  unfolding list_of
  row_kept =
      ⊎_elim
      (λ (l : 16 ≤ length ts).
      rw (le-ltb (length ts) 16 l)
      (listed (overwrite_same (task_at ts) (task_at more) empty 16 (λ i li. sym (another_place t ts i (λ e. omega arith))))))
      (λ (l : length ts < 16). rw (lt-ltb (length ts) 16 l) (listed (stored l)))
      (le_or_lt 16 (length ts))
    where
      listed : {us vs : List Task} → us ≡ vs → ◌≡◌ {A = TaskList} (record { tasks = us; count = length ts + 1 }) (record { tasks = vs; count = length more })
      listed e = ap₂ (λ (x : List Task) (n : ℕ). record { tasks = x; count = n }) e (sym (length-append ts (t ∷ [])))

-- ---- line by line is the grammar
abbrev so_far : List Task → Result TaskList BadLine
so_far ts = Ok (list_of ts)

abbrev bad_line : ℕ → Result TaskList BadLine
bad_line n = Err (record { line = n })

module _ (ts : List Task) (l : List ℕ) where
  row_closes : (t : Task) → Row l t → close_line (list_of ts) (line_from (Some fresh) l) ≡ so_far (ts ++ t ∷ [])
  row_closes t R = ap (close_as (list_of ts)) (row_complete l t R) ∙ ap Ok (row_kept ts t)

  no_row : ((t : Task) → Row l t → ⊥) → (o : Option Task) → row_of (line_from (Some fresh) l) ≡ o → row_of (line_from (Some fresh) l) ≡ None
  no_row not-row None e = e
  no_row not-row (Some t) e = absurd (not-row t (complete_row l t e))

  no_row_closes : ((t : Task) → Row l t → ⊥) → close_line (list_of ts) (line_from (Some fresh) l) ≡ bad_line (suc (length ts))
  unfolding list_of
  no_row_closes not-row = ap (close_as (list_of ts)) (no_row not-row _ refl) ∙ ap bad_line (add-one (length ts))

rows_read : {ls : List (List ℕ)} {us : List Task} (ts : List Task) → Rows ls us → (rest : List (List ℕ)) → read_lines (so_far ts) (ls ++ rest) ≡ read_lines (so_far (ts ++ us)) rest
unfolding read_lines
rows_read ts no_rows rest = ap (λ (x : List Task). read_lines (so_far x) rest) (sym (append-nil ts))
rows_read ts (row {line = l} {t = t} {lines = ls} {ts = us} R Rs) rest =
    ap (λ (x : Result TaskList BadLine). read_lines x (ls ++ rest)) (row_closes ts l t R)
    ∙ rows_read (ts ++ t ∷ []) Rs rest
    ∙ ap (λ (x : List Task). read_lines (so_far x) rest) (append_assoc ts (t ∷ []) us)

rows-length : {ls : List (List ℕ)} {us : List Task} → Rows ls us → length us ≡ length ls
rows-length no_rows = refl
rows-length (row R Rs) = ap suc (rows-length Rs)

-- The grammar's answer is the reader's,
pub reads_only : {input : List ℕ} {a : Read} → Reads input a → a ≡ read_of (parsed_of input)
unfolding parsed_of read_lines read_of form_answer list_read accepted refused
reads_only (good {lines = ls} {ts = ts} L R) =
    ap read_of (sym (ap (read_lines (so_far [])) (sym (lines_only L) ∙ sym (append-nil ls)) ∙ rows_read [] R []))
reads_only (bad {ts = ts} front l back L R not-row) =
    ap read_of
    (sym
    (ap (read_lines (so_far [])) (sym (lines_only L)) ∙ rows_read [] R (l ∷ back)
    ∙ ap (λ (x : Result TaskList BadLine). read_lines x back) (no_row_closes ts l not-row) ∙ bad_read _ back ∙ ap (λ (n : ℕ). bad_line (suc n)) (rows-length R)))

-- Two answers with the same numbers are one,
pub read_tells : (q r : Result TaskList BadLine) → read_of q ≡ read_of r → q ≡ r
unfolding read_of form_answer list_read none refusal
read_tells (Ok l) (Ok m) e = ap (λ (x : Read). Ok x.list) e
read_tells (Ok l) (Err b) e = absurd (omega (arith, ap (λ (x : Read). x.answer.number) e))
read_tells (Err b) (Ok l) e = absurd (omega (arith, ap (λ (x : Read). x.answer.number) e))
read_tells (Err a) (Err b) e = ap (λ (x : Read). bad_line x.answer.task) e

pub reads_one : {input : List ℕ} (q r : Result TaskList BadLine) → Reads input (read_of q) → Reads input (read_of r) → q ≡ r
reads_one q r Q R = read_tells q r (reads_only Q ∙ sym (reads_only R))

-- and it has one: all lines are rows, or there is a first that is none.
data Judged : List (List ℕ) → Type 0 where
  all_rows : {ls : List (List ℕ)} {ts : List Task} → Rows ls ts → Judged ls
  first_bad : {ts : List Task} (front : List (List ℕ)) (line : List ℕ) (back : List (List ℕ)) → Rows front ts → ((t : Task) → Row line t → ⊥) → Judged (front ++ line ∷ back)

row_more : (l : List ℕ) (t : Task) {ls : List (List ℕ)} → Row l t → Judged ls → Judged (l ∷ ls)
row_more l t R (all_rows Rs) = all_rows (row R Rs)
row_more l t R (first_bad front line back Rs not-row) = first_bad (l ∷ front) line back (row R Rs) not-row

judged_more : (l : List ℕ) (ls : List (List ℕ)) (o : Option Task) → row_of (line_from (Some fresh) l) ≡ o → Judged ls → Judged (l ∷ ls)
judged_more l ls (Some t) e J = row_more l t (complete_row l t e) J
judged_more l ls None e J = first_bad [] l ls no_rows (λ t R. none-some t (sym e ∙ row_complete l t R))

judged : (ls : List (List ℕ)) → Judged ls
judged [] = all_rows no_rows
judged (l ∷ ls) = judged_more l ls _ refl (judged ls)

judged_reads : {input : List ℕ} {ls : List (List ℕ)} → Lines input ls → Judged ls → (a : Read) × Reads input a
judged_reads L (all_rows Rs) = (_, good L Rs)
judged_reads L (first_bad front line back Rs not-row) = (_, bad front line back L Rs not-row)

pub parsed_reads : (input : List ℕ) → Reads input (read_of (parsed_of input))
parsed_reads input = let r = judged_reads (lines_of_lem input) (judged (lines_of input)) in subst (Reads input) (reads_only r.1) r.1

-- The reader accepts exactly the grammar.
pub reads_exactly : (input : List ℕ) (r : Result TaskList BadLine) → Reads input (read_of r) ↔ (r ≡ parsed_of input)
reads_exactly input r = (λ R. read_tells r (parsed_of input) (reads_only R), λ e. subst (λ (x : Result TaskList BadLine). Reads input (read_of x)) (sym e) (parsed_reads input))

-- ---- by the number of the answer
module _ (r : Result TaskList BadLine) where
  pub good_is_0 : (l : TaskList) → r ≡ Ok l → (read_of r).answer.number ≡ 0
  unfolding read_of form_answer none refusal
  good_is_0 l e = ap (λ (x : Result TaskList BadLine). (form_answer x).number) e

  pub bad_is_15 : (b : BadLine) → r ≡ Err b → (read_of r).answer.number ≡ 15
  unfolding read_of form_answer refusal
  bad_is_15 b e = ap (λ (x : Result TaskList BadLine). (form_answer x).number) e
