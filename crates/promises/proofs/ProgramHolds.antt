-- The program goes by its rules: the proof of the statement in Program.
use Rattle.std.specs.Prelude.{◌≡◌, refl, List, ◌⊎◌, ℕ, suc, ◌≤◌, ◌<◌, length}
use Rattle.std.proofs.Math.Path.{sym, ap}
use Rattle.std.proofs.Common.{◌∙◌, inl, inr, arith}
use Rattle.std.proofs.Math.Logic.{⊎_elim}
use Rattle.basis.specs.Choose.{le_or_lt, eq_or_ne}
use Rattle.basis.specs.Answer.{Answer, refusal, none_number}
use Rattle.basis.specs.Rules.{Refused, refused_not_0, breaks_rule, rule_told, breaks_naming, saying_told}
use Rattle.tasks.specs.declared.TaskList.{TaskList}
use Rattle.tasks.specs.List.{list_of}
use Rattle.tasks.specs.Bounds.{cycle_of}
use Rattle.verdict.specs.Verdict.{Verdict, verdict_of, verdict_answer}
use Rattle.verdict.proofs.Told.{accepted_as}
use Rattle.records.specs.Grammar.{accepted, refused, Read, Reads, good, bad}
use Rattle.records.proofs.Reading.{parsed_reads}
use Rattle.printing.specs.Text.{table_text}
use Rattle.promises.specs.Refusals.{list_rules}
use Rattle.promises.proofs.RefusalsHold.{list_goes}
use Rattle.output.specs.Output.{record_of, entries, Prints, too_long, bad_line}
use Rattle.output.specs.Output.{refused as list-not-accepted, accepted as list_accepted}
use Rattle.output.specs.Determined.{one_output}
use Rattle.promises.specs.Program.{input_rules, InForm, Program}

every_input : (input : List ℕ) → ((a : Answer) × Refused (input_rules input) a) ⊎ ((l : TaskList) × InForm input l)
unfolding input_rules Refused
every_input input =
    ⊎_elim
    (λ (short : length input ≤ 4096). go short (parsed_reads input))
    (λ (long : 4096 < length input). inl (refusal 16 0, inl (breaks_rule 15 _ long)))
    (le_or_lt (length input) 4096)
  where
    go : length input ≤ 4096 → {r : Read} → Reads input r → ((a : Answer) × Refused (input_rules input) a) ⊎ ((l : TaskList) × InForm input l)
    go short (good {lines = each} {ts = ts} lines rows) = inr (list_of ts, record { short = short; each = each; tasks = ts; lines = lines; in_form = rows; list_is = refl })
    go short (bad {ts = ts} before line after lines rows out) =
        inl (
          refusal 15 (suc (length before)),
          inr (
            λ b broken. omega (arith, (rule_told 15 _ b broken).0),
            inl (breaks_naming 14 _ (length before) (record { before = before; line = line; after = after; tasks = ts; lines = lines; before_in_form = rows; not_in_form = out; place = refl })),
          ),
        )

input_refused : (input text : List ℕ) → Prints input text → (a : Answer) → Refused (input_rules input) a → text ≡ record_of a
unfolding input_rules Refused refused refusal
input_refused input text P a (inl broken) = let h = rule_told 15 _ a broken in one_output P (too_long h.0) ∙ ap record_of h.1
input_refused input text P a (inr (fits, inl broken)) =
    let h = saying_told 14 _ _ a broken in
    let form = h.1.0 in
    let short : length input ≤ 4096 = ⊎_elim (λ l. l) (λ (l : 4096 < length input). absurd (fits (refusal 16 0) (breaks_rule 15 _ l))) (le_or_lt (length input) 4096) in
    one_output P (bad_line short (bad form.before form.line form.after form.lines form.before_in_form form.not_in_form) refl) ∙ ap record_of (ap (λ (n : ℕ). refusal 15 (suc n)) form.place ∙ h.1.1)
input_refused input text P a (inr (fits, inr x)) = absurd x.1

module _ (input text : List ℕ) (P : Prints input text) (l : TaskList) (form : InForm input l) where
  abbrev judged : TaskList → Answer
  judged k = verdict_answer (verdict_of k 65536)

  reads : Reads input (accepted form.tasks)
  reads = good form.lines form.in_form

  list_refused : (a : Answer) → Refused (list_rules l 65536) a → text ≡ record_of a
  unfolding accepted
  list_refused a R =
      let is = (list_goes l 65536).always a R in
      let read : judged l ≡ judged (list_of form.tasks) = ap judged form.list_is in
      let some : (judged (list_of form.tasks)).number ≡ 0 → ⊥ = λ z. refused_not_0 (list_rules l 65536) a R (ap (λ (x : Answer). x.number) (sym is ∙ read) ∙ z) in
      one_output P (list-not-accepted form.short reads none_number some) ∙ ap record_of (sym read ∙ is)

  table_printed : ((a : Answer) → Refused (list_rules l 65536) a → ⊥) → text ≡ table_text (entries l (cycle_of l))
  unfolding accepted verdict_answer
  table_printed kept =
      let z : (judged l).number ≡ 0 = ⊎_elim (λ e. e) (λ (nz : (judged l).number ≡ 0 → ⊥). absurd (kept _ ((list_goes l 65536).only nz))) (eq_or_ne (judged l).number 0) in
      let read : judged l ≡ judged (list_of form.tasks) = ap judged form.list_is in
      let cycle : (judged l).cycle ≡ cycle_of l = ap (λ (v : Verdict). (verdict_answer v).cycle) (accepted_as l 65536 z).is in
      one_output P (list_accepted form.short reads none_number (sym (ap (λ (x : Answer). x.number) read) ∙ z))
      ∙ sym (ap (λ (k : TaskList). table_text (entries k (judged k).cycle)) form.list_is)
      ∙ ap (λ (n : ℕ). table_text (entries l n)) cycle

pub program : Program
program = record { every_input = every_input; input_refused = input_refused; list_refused = list_refused; table_printed = table_printed }
