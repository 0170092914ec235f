-- What is printed of a list, as laws over plain values.
use Rattle.std.specs.Prelude.{◌≡◌, List, ℕ, ◌≤◌, length, take, Result, Ok, Err}
use Rattle.std.proofs.Math.Path.{subst, sym}
use Rattle.std.proofs.Common.{◌∙◌, arith, le-leb}
use Rattle.std.proofs.lemmas.List.{length-take}
use lib.Seq.{take_all}
use Rattle.basis.specs.Choose.{choose_yes}
use Rattle.basis.specs.Answer.{Answer}
use Rattle.tasks.specs.declared.TaskList.{TaskList}
use Rattle.tasks.specs.declared.refusals.Refusal.{Refusal}
use Rattle.tasks.specs.Refusal.{refusal_answer}
use Rattle.verdict.specs.declared.Accepted.{Accepted}
use Rattle.verdict.specs.Verdict.{Verdict}
use Rattle.verdict.specs.Table.{Built}
use Rattle.records.specs.declared.BadLine.{BadLine}
use Rattle.records.specs.Grammar.{read_of, Reads}
use Rattle.printing.specs.Written.{Written}
use Rattle.vcd.specs.Form.{vcd_text}
use Rattle.dump.specs.Wrote.{Wrote}
use Rattle.dump.specs.Lengths.{text_longest}
use Rattle.output.specs.Output.{record_of}
use Rattle.output.specs.Listed.{answers_list}
use Rattle.output.specs.Vcd.{refused, accepted, VcdAnswers}
use Rattle.output.specs.Building.{built_within, refused_as, never_0, accepted_by_0, entries_read}

-- The text of a run of at most 4,096 entries, written where there is room for every such text.
dump_written : (run : List ℕ) {old new : List ℕ} {r : ℕ} → 61555 ≤ length old → Wrote (vcd_text (take 4096 run)) old new r → Written (vcd_text (take 4096 run)) old new r × (r ≤ 61555)
dump_written run {old = old} room W =
    let fits = text_longest (take 4096 run) (omega (arith, length-take 4096 run)) in
    (record { whole = W.whole; bytes = W.bytes ∙ choose_yes _ _ _ (le-leb (length (vcd_text (take 4096 run))) (length old) (omega arith)) }, omega (arith, W.whole))

module _ {input old new : List ℕ} {r : ℕ} (p : Result TaskList BadLine) (l : length input ≤ 4096) (R : Reads input (read_of p)) (list : TaskList) (good : p ≡ Ok list)
    {lent built : List ℕ} {w : Verdict} (room : 4096 ≤ length lent) (B : Built list 65536 lent built w) where
  pub answers_refused : (e : Refusal) → w ≡ Err e → Written (record_of (refusal_answer e)) old new r → VcdAnswers input old new r
  answers_refused e q W = answers_list p l R list good (refused (never_0 p list good room B e q)) (subst (λ (x : Answer). Written (record_of x) old new r) (sym (refused_as p list good room B e q)) W)

  pub answers_dump : (a : Accepted) → w ≡ Ok a → 61555 ≤ length old → Wrote (vcd_text (take 4096 (take a.cycle built))) old new r → VcdAnswers input old new r × (r ≤ 61555)
  answers_dump a q enough W =
      let few = built_within list 65536 room B a q in
      let shown = take_all 4096 (take a.cycle built) (omega (arith, length-take a.cycle built)) ∙ entries_read p list good room B a q in
      let W' = dump_written (take a.cycle built) enough W in
      (answers_list p l R list good (accepted (accepted_by_0 p list good room B a q)) (subst (λ (x : List ℕ). Written (vcd_text x) old new r) shown W'.0), W'.1)
