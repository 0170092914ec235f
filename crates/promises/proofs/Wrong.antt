-- The wrong programs of the paper, refuted: whatever answers keep the contracts, they are not those of a verdict that refuses all, of
-- one verdict or table for all lists, of an invented margin or job count, of a step that does nothing, or of a first step that
-- closes the whole cycle while later ones only count.
use Rattle.std.specs.Prelude.{◌≡◌, List, ℕ, zero, suc, ◌≤◌, ◌<◌, ℤ, pos, nat_abs, length, get_or, replicate, Some}
use Rattle.std.proofs.Math.Path.{sym}
use Rattle.std.proofs.Common.{ap, ◌∙◌, arith}
use Rattle.std.proofs.lemmas.List.{length-replicate}
use Rattle.basis.specs.Answer.{Answer}
use Rattle.tasks.specs.declared.Task.{Task}
use Rattle.tasks.specs.declared.TaskList.{TaskList}
use Rattle.tasks.specs.List.{list_of}
use Rattle.tasks.specs.Bounds.{cycle_of}
use Rattle.verdict.specs.Verdict.{Verdict, verdict_of, verdict_answer}
use Rattle.verdict.specs.Table.{tabled, Built}
use Rattle.run.specs.declared.Mode.TheVariants.{Table}
use Rattle.run.specs.declared.State.{State}
use Rattle.starred.specs.Lists.{verdict, entries, accepted, late, A, B, C, E, G}
use Rattle.starred.proofs.Starred.{starred}
use Rattle.promises.proofs.Demand1Holds.{build_refused}
use Rattle.promises.specs.Demand3.{FullRun, EndsWith}
use Rattle.promises.specs.Demand3Holds.{reached, has_task, has_job, ends_in_own_slice, logging_shows, one_end_a_slice}
use Rattle.promises.specs.Exists.{fitted_whole}
use Rattle.promises.specs.RunOnA.{run_on_a}
use Rattle.promises.specs.Wrong.{StepKept}

-- ---- verdicts
-- What an answer that keeps the verdict's contract says of a list with a supply of 0.
says : (ts : List Task) (n : Answer) (v : Verdict) → verdict ts ≡ n → v ≡ verdict_of (list_of ts) 0 → verdict_answer v ≡ n
unfolding verdict
says ts n v is e = ap verdict_answer e ∙ is

-- A verdict that refuses all: A is accepted.
pub not_all_refused : (v : Verdict) → v ≡ verdict_of (list_of A) 0 → ((verdict_answer v).number ≡ 0 → ⊥) → ⊥
unfolding accepted
not_all_refused v a refused = refused (ap (λ (n : Answer). n.number) (says A _ v starred.verdict_A a))

-- One verdict for all lists: A is accepted, C is not.
pub not_one_verdict : (v w : Verdict) → v ≡ verdict_of (list_of A) 0 → w ≡ verdict_of (list_of C) 0 → v ≡ w → ⊥
unfolding accepted late
not_one_verdict v w a c same =
    let number : ◌≡◌ {A = ℕ} 0 7 = sym (ap (λ (n : Answer). n.number) (says A _ v starred.verdict_A a)) ∙ ap (λ (x : Verdict). (verdict_answer x).number) same ∙ ap (λ (n : Answer). n.number) (says C _ w starred.verdict_C c) in
    omega arith

-- One margin for all lists: A's is 2, B's is 0.
pub not_one_margin : (v w : Verdict) → v ≡ verdict_of (list_of A) 0 → w ≡ verdict_of (list_of B) 0 → (verdict_answer v).margin ≡ (verdict_answer w).margin → ⊥
unfolding accepted
not_one_margin v w a b same =
    let margin : ◌≡◌ {A = ℤ} (pos 2) (pos 0) = sym (ap (λ (n : Answer). n.margin) (says A _ v starred.verdict_A a)) ∙ same ∙ ap (λ (n : Answer). n.margin) (says B _ w starred.verdict_B b) in
    let size : ◌≡◌ {A = ℕ} 2 0 = ap nat_abs margin in
    omega arith

-- One job count for all lists: A has 6 jobs, E has 1.
pub not_one_job_count : (v w : Verdict) → v ≡ verdict_of (list_of A) 0 → w ≡ verdict_of (list_of E) 0 → (verdict_answer v).jobs ≡ (verdict_answer w).jobs → ⊥
unfolding accepted
not_one_job_count v w a e same =
    let jobs : ◌≡◌ {A = ℕ} 6 1 = sym (ap (λ (n : Answer). n.jobs) (says A _ v starred.verdict_A a)) ∙ same ∙ ap (λ (n : Answer). n.jobs) (says E _ w starred.verdict_E e) in
    omega arith

-- ---- tables
-- what table building leaves in n bytes that all held 255
builds : (ts : List Task) (n : ℕ) (new : List ℕ) (v : Verdict) → (verdict ts).cycle ≤ n → Built (list_of ts) 0 (replicate n 255) new v → new ≡ entries ts n
unfolding entries verdict
builds ts n new v le T =
    T.bytes ∙ ap (λ (x : Verdict). tabled (list_of ts) x (replicate n 255)) (T.answer ∙ fitted_whole (verdict_of (list_of ts) 0) (length (replicate n 255)) (omega (arith, length-replicate {A = ℕ} n 255)))

begins_A : (a : List ℕ) (v : Verdict) → Built (list_of A) 0 (replicate 12 255) a v → get_or a 0 0 ≡ 1
unfolding accepted
begins_A a v T = ap (λ (bytes : List ℕ). get_or bytes 0 0) (builds A 12 a v (omega (arith, ap (λ (n : Answer). n.cycle) starred.verdict_A)) T ∙ starred.table_A)

-- One table for all lists: that of A begins with 1, and for C nothing is written;
pub not_one_table : (a c : List ℕ) (v w : Verdict) → Built (list_of A) 0 (replicate 12 255) a v → Built (list_of C) 0 (replicate 12 255) c w → a ≡ c → ⊥
unfolding verdict late
not_one_table a c v w TA TC same = omega (arith, ap (λ (bytes : List ℕ). get_or bytes 0 0) same, begins_A a v TA, begins_C)
  where
    refused_C : (verdict_answer w).number ≡ 0 → ⊥
    refused_C z =
        let number : ◌≡◌ {A = ℕ} 0 7 = sym z ∙ ap (λ (x : Verdict). (verdict_answer x).number) (TC.answer ∙ fitted_whole (verdict_of (list_of C) 0) _ (omega (arith, ap (λ (n : Answer). n.cycle) starred.verdict_C))) ∙ ap (λ (n : Answer). n.number) starred.verdict_C in
        omega arith

    begins_C : get_or c 0 0 ≡ 255
    begins_C = ap (λ (bytes : List ℕ). get_or bytes 0 0) (build_refused (list_of C) 0 (replicate 12 255) c w TC refused_C)

-- nor one for all accepted lists: that of G begins with 2.
pub not_one_accepted_table : (a g : List ℕ) (v w : Verdict) → Built (list_of A) 0 (replicate 12 255) a v → Built (list_of G) 0 (replicate 12 255) g w → a ≡ g → ⊥
unfolding accepted
not_one_accepted_table a g v w TA TG same = omega (arith, ap (λ (bytes : List ℕ). get_or bytes 0 0) same, begins_A a v TA, begins_G)
  where
    begins_G : get_or g 0 0 ≡ 2
    begins_G = ap (λ (bytes : List ℕ). get_or bytes 0 0) (builds G 12 g w (omega (arith, ap (λ (n : Answer). n.cycle) starred.verdict_G)) TG ∙ starred.table_G)

-- ---- steps
module _ (l : TaskList) (run : FullRun l) where
  ends : (i : ℕ) → i < l.count → (p : ℕ) × EndsWith l run i 0 p
  ends i li = ends_in_own_slice l run i 0 li (has_job l run i li)

  -- A step that does nothing: the log would keep its zeros.
  pub not_all_idle : ((p : ℕ) → p < cycle_of l → run.logs (suc p) ≡ run.logs p) → ⊥
  not_all_idle idle =
      let first = has_task l run in
      let e = ends 0 first in
      logging_shows l run 0 0 first (has_job l run 0 first) e.0 e.1 (idle e.0 e.1.within)

  -- A first step that closes the whole cycle while later ones only count: of two tasks, two jobs would end together.
  pub not_all_at_once : 1 < l.count → ((p : ℕ) → 0 < p → p < cycle_of l → run.logs (suc p) ≡ run.logs p) → ⊥
  not_all_at_once two idle = omega (arith, (one_end_a_slice l run 0 0 1 0 0 (at_once 0 (omega arith)) (at_once 1 two)).0)
    where
      at_once : (i : ℕ) → i < l.count → EndsWith l run i 0 0
      at_once i li = ended (ends i li).0 (ends i li).1
        where
          ended : (p : ℕ) → EndsWith l run i 0 p → EndsWith l run i 0 0
          ended zero E = E
          ended (suc p) E = absurd (logging_shows l run i 0 li (has_job l run i li) (suc p) E (idle (suc p) (omega arith) E.within))

module _ (step : StepKept) where
  pub no_idle_step : ((s : State) (table : List ℕ) (clock report : ℕ) (log : List ℕ) → step.leaves s table clock report log ≡ log) → ⊥
  no_idle_step idle =
      let run = run_on_a (Some Table) in
      not_all_idle (list_of A) run (λ p lp. (run.steps.stepped p lp).bytes ∙ sym (step.keeps (run.states p) run.tab _ _ (run.logs p)).bytes ∙ idle (run.states p) run.tab _ _ (run.logs p))

  pub no_step_for_all : ((s : State) (table : List ℕ) (clock report : ℕ) (log : List ℕ) → 0 < s.position → step.leaves s table clock report log ≡ log) → ⊥
  unfolding list_of A
  no_step_for_all idle =
      let run = run_on_a (Some Table) in
      not_all_at_once (list_of A) run (omega arith) (λ p later lp.
      (run.steps.stepped p lp).bytes ∙ sym (step.keeps (run.states p) run.tab _ _ (run.logs p)).bytes ∙ idle (run.states p) run.tab _ _ (run.logs p) (omega (arith, (reached (list_of A) run p (omega arith)).position_is)))
