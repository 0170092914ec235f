-- What is printed of a list and a file, as laws over plain values.
use Rattle.std.specs.Prelude.{◌≡◌, refl, List, ◌⊎◌, ℕ, ◌≤◌, length, replicate, Result, Some, None, Ok, Err}
use Rattle.std.proofs.Math.Path.{sym, ap}
use Rattle.std.proofs.Math.Logic.{⊎_elim}
use Rattle.std.proofs.Common.{◌∙◌, arith}
use Rattle.basis.specs.Choose.{eq_or_ne}
use Rattle.tasks.specs.declared.TaskList.{TaskList}
use Rattle.tasks.specs.declared.refusals.Refusal.{Refusal}
use Rattle.tasks.specs.Bounds.{cycle_of, jobs_of}
use Rattle.tasks.specs.Kept.{KeepsBounds}
use Rattle.tasks.specs.List.{plan_of}
use Rattle.tasks.specs.Refusal.{refusal_answer}
use Rattle.verdict.specs.declared.Accepted.{Accepted}
use Rattle.verdict.specs.Verdict.{Verdict, accepted, verdict_of}
use Rattle.verdict.proofs.Told.{accepted_tells}
use Rattle.records.specs.declared.BadLine.{BadLine}
use Rattle.records.specs.Grammar.{list_read, read_of, Reads}
use Rattle.printing.specs.Text.{needs_text, no_text}
use Rattle.printing.specs.Written.{Written}
use Rattle.explain.specs.Seen.{Viewed, refused_by, AfterList, run_number, Explained}
use Rattle.explain.proofs.Answers.{passed}
use Rattle.viewer.specs.Viewer.{NoForm, Of, ExplainsFile}
use Rattle.output.specs.Output.{record_of}
use Rattle.output.specs.Listed.{answers_list}
use Rattle.output.specs.Explain.{jobs_in, viewed_text, ExplainAnswers}

-- ---- what needs that are given tell
refused_not_given : {A : Type 0} {v : Viewed} {count : ℕ} {e : Refusal} → v ≡ Ok (Some count) → v ≡ Err e → A
refused_not_given {count = count} {e = e} g q =
    let both : Ok (Some count) ≡ Err e = sym g ∙ q in
    let z : ◌≡◌ {A = ℕ} 0 1 = cc in
    absurd (omega arith)

module _ (l : TaskList) (file old new : List ℕ) (v : Viewed) (count : ℕ) (g : v ≡ Ok (Some count)) where
  -- Not refused by 31: there is room for them.
  room_for_jobs : (run : List ℕ) (cycle jobs : ℕ) → Explained l run old new v cycle jobs → jobs ≤ length old
  unfolding refused_by
  room_for_jobs run cycle jobs E =
      ⊎_elim
      (λ (z : run_number cycle l.count run jobs (length old) ≡ 0). (passed cycle l.count run jobs (length old) z).1)
      (λ (nz : run_number cycle l.count run jobs (length old) ≡ 0 → ⊥). refused_not_given g (E.refused nz).0)
      (eq_or_ne (run_number cycle l.count run jobs (length old)) 0)

  given_by : (w : Verdict) → verdict_of l 65536 ≡ w → AfterList w (λ cycle jobs. NoForm file old new v ⊎ Of file (λ run. Explained l run old new v cycle jobs)) old new v
      → KeepsBounds l 65536 × (jobs_of l ≤ length old)
  unfolding AfterList refused_by
  given_by (Err e) is E = refused_not_given g E.0
  given_by (Ok a) is E =
      ⊎_elim
      (λ (none : NoForm file old new v). refused_not_given g none.answer)
      (λ (of : Of file (λ run. Explained l run old new v a.cycle a.jobs)).
      let T = accepted_tells l 65536 a is in
      let both : Ok a ≡ Ok (accepted (plan_of l) (cycle_of l) (jobs_of l)) = T.is in
      let same : a ≡ accepted (plan_of l) (cycle_of l) (jobs_of l) = cc in
      (T.keeps, omega (arith, room_for_jobs of.run a.cycle a.jobs of.said, ap (λ (x : Accepted). x.jobs) same)))
      E

  -- The list is accepted, and has no more jobs than there is room for.
  pub given_tells : ExplainsFile l 65536 file old new v → KeepsBounds l 65536 × (jobs_of l ≤ length old)
  unfolding ExplainsFile
  given_tells E = given_by (verdict_of l 65536) refl E

-- ---- the ways to the text
module _ {input file old new : List ℕ} {r : ℕ} (p : Result TaskList BadLine) (l : length input ≤ 4096) (R : Reads input (read_of p)) (list : TaskList) (good : p ≡ Ok list)
    (needs : List ℕ) (v : Viewed) (E : ExplainsFile list 65536 file (replicate 4096 0) needs v) where
  answers_viewed : Written (viewed_text list needs v) old new r → ExplainAnswers input file old new r
  unfolding read_of list_read
  answers_viewed W = answers_list p l R list good (record { needs = needs; viewed = v; explained = rw good E; is_text = refl }) (rw good W)

  pub answers_refused : (e : Refusal) → v ≡ Err e → Written (record_of (refusal_answer e)) old new r → ExplainAnswers input file old new r
  unfolding viewed_text
  answers_refused e q W = answers_viewed (rw q W)

  pub answers_no : v ≡ Ok None → Written no_text old new r → ExplainAnswers input file old new r
  unfolding viewed_text
  answers_no q W = answers_viewed (rw q W)

  pub answers_needs : (count : ℕ) → v ≡ Ok (Some count) → Written (needs_text needs (jobs_in list) list.count) old new r → ExplainAnswers input file old new r
  unfolding viewed_text
  answers_needs count q W = answers_viewed (rw q W)
