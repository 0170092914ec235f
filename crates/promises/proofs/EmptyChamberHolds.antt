-- A pass is earned: log and jobs agree from an accepted start on, whatever is called, so no byte tells what was not.
use Rattle.std.specs.Prelude.{◌≡◌, List, ℕ, zero, suc, ◌+◌, ◌≤◌, ◌<◌, Result, Ok}
use Rattle.std.proofs.Common.{sym, ◌∙◌, arith}
use Rattle.std.proofs.Math.Path.{ap}
use Rattle.std.proofs.Math.Logic.{⊎_elim}
use Rattle.std.proofs.Math.ListN.{get_or}
use Rattle.basis.specs.Choose.{eq_or_ne}
use Rattle.basis.specs.Answer.{refusal, none}
use Rattle.plan.specs.Plan.{Sound, deadline}
use Rattle.tasks.specs.declared.TaskList.{TaskList}
use Rattle.tasks.specs.List.{plan_of}
use Rattle.tasks.specs.Bounds.{cycle_of}
use Rattle.tasks.proofs.Kept.{plan_sound}
use Rattle.start.specs.Start.{mode_of}
use Rattle.run.specs.declared.State.{State}
use Rattle.run.specs.declared.Refusal.{Refusal}
use Rattle.run.specs.Who.{running}
use Rattle.run.specs.Step.{state_after, log_after, closed_answer}
use Rattle.run.specs.Accepted.{StepAccepted, step_accepted, step_answers}
use Rattle.promises.proofs.Demand1Holds.{step_said, step_refused}
use Rattle.promises.specs.Demand3.{jobs_in, place_of}
use Rattle.promises.specs.EmptyChamber.{Calls, Earned, byte_in, EmptyChamber}
use Rattle.promises.specs.Earned.{byte_of, Honest}
use Rattle.promises.proofs.Earned.{honest_after, written_stays, pass_brought}
use Rattle.promises.specs.Begun.{start_accepted, offset_listed, start_honest, start_byte}
use Rattle.promises.specs.Begun as begun

module _ (l : TaskList) (C : Calls l) where
  abbrev s : ℕ → State
  s = C.states

  abbrev g : ℕ → List ℕ
  g = C.logs

  abbrev ran : ℕ → ℕ
  ran n = running (s n) (C.tables n)

  -- What a call makes of the state and the log: what it got, or what an accepted step gives.
  pub data Made (n : ℕ) : Type 0 where
    same : s (suc n) ≡ s n → g (suc n) ≡ g n → Made n
    moved : StepAccepted (s n) (C.tables n) (C.clocks n) (C.reports n) (g n) → (C.answers n).answer ≡ Ok tt
        → s (suc n) ≡ state_after (s n) (ran n) (C.clocks n) (C.reports n) → g (suc n) ≡ log_after (s n) (ran n) (C.reports n) (g n) → Made n

  abbrev said : ℕ → ℕ
  said n = (closed_answer (C.answers n).answer).number

  made : (n : ℕ) → Made n
  made n =
      ⊎_elim
      (λ (z : said n ≡ 0).
      let accepted = (step_accepted (s n) (C.tables n) (C.clocks n) (C.reports n) (g n)).0 (sym (step_said (s n) (C.tables n) (C.clocks n) (C.reports n) (g n) (g (suc n)) (C.answers n) (C.stepped n)) ∙ z) in
      let a = step_answers (s n) (C.tables n) (C.clocks n) (C.reports n) (g n) (g (suc n)) (C.answers n) accepted (C.stepped n) in
      moved accepted a.0 (C.handed n ∙ a.1) a.2)
      (λ (nz : said n ≡ 0 → ⊥).
      let a = step_refused (s n) (C.tables n) (C.clocks n) (C.reports n) (g n) (g (suc n)) (C.answers n) (C.stepped n) nz in
      same (C.handed n ∙ a.0) a.1)
      (eq_or_ne (said n) 0)

  -- ---- log and jobs agree
  begun_as : begun.Accepted l C.supply C.asked C.clock C.log (g 0) C.begun
  begun_as = start_accepted l C.supply C.asked C.clock C.log (g 0) C.begun C.begins C.accepted

  S : Sound (plan_of l)
  S = plan_sound l C.supply begun_as.keeps

  honest_next : (n : ℕ) → Honest (plan_of l) (cycle_of l) (s n) (g n) → Made n → Honest (plan_of l) (cycle_of l) (s (suc n)) (g (suc n))
  honest_next n H (same es eg) = rw (es, eg) H
  honest_next n H (moved accepted a es eg) = rw (es, eg) (honest_after (plan_of l) S (cycle_of l) (s n) (C.tables n) (C.clocks n) (C.reports n) (g n) accepted H)

  honest : (n : ℕ) → Honest (plan_of l) (cycle_of l) (s n) (g n)
  honest zero = rw (C.from_start ∙ begun_as.state_is, begun_as.log_is) (start_honest l C.supply begun_as.keeps (mode_of C.asked) C.clock C.log begun_as.room)
  honest (suc n) = honest_next n (honest n) (made n)

  -- ---- one job
  module _ (i k : ℕ) (li : i < l.count) (lk : k < jobs_in l i) where
    abbrev byte : ℕ → ℕ
    byte n = byte_of (s n) (g n) i k

    -- its byte stays where the list puts it
    byte_at : (n : ℕ) → byte n ≡ byte_in l C n i k
    unfolding byte_of place_of
    byte_at n = ap (λ (x : ℕ). get_or (g n) (x + k) 0) (offset_listed l (s n) (honest n).carries i (omega arith))

    none_left_empty : (n : ℕ) → deadline (plan_of l) i k ≤ (s n).position → byte_in l C n i k ≡ 0 → ⊥
    unfolding plan_of
    none_left_empty n past z = ((honest n).tells i k li lk).passed past (byte_at n ∙ z)

    stays_by : (n : ℕ) → (byte n ≡ 0 → ⊥) → Made n → byte (suc n) ≡ byte n
    unfolding plan_of
    stays_by n nz (same es eg) = rw (es, eg)
    stays_by n nz (moved accepted a es eg) = rw (es, eg) (written_stays (plan_of l) S (cycle_of l) (s n) (C.tables n) (C.clocks n) (C.reports n) (g n) accepted (honest n) i k li lk nz)

    written_once : (n : ℕ) → (byte_in l C n i k ≡ 0 → ⊥) → byte_in l C (suc n) i k ≡ byte_in l C n i k
    written_once n some = sym (byte_at (suc n)) ∙ stays_by n (λ z. some (sym (byte_at n) ∙ z)) (made n) ∙ byte_at n

    -- It is 1 only if a call before brought it.
    earlier_too : (n : ℕ) → Earned l C n i k → Earned l C (suc n) i k
    earlier_too n E = record { call = E.call; before = omega (arith, E.before); went = E.went; ran_here = E.ran_here; that_job = E.that_job; finished = E.finished }

    earned_by : (n : ℕ) → (byte n ≡ 1 → Earned l C n i k) → byte (suc n) ≡ 1 → Made n → Earned l C (suc n) i k
    unfolding closed_answer none refusal plan_of
    earned_by n so_far one (same es eg) = earlier_too n (so_far (sym (rw (es, eg)) ∙ one))
    earned_by n so_far one (moved accepted a es eg) =
        ⊎_elim
        (λ (z : byte n ≡ 0).
        let b = pass_brought (plan_of l) S (cycle_of l) (s n) (C.tables n) (C.clocks n) (C.reports n) (g n) accepted (honest n) i k li lk z (sym (rw (es, eg)) ∙ one) in
        record { call = n; before = omega arith; went = ap (λ (x : Result (Unit {0}) Refusal). (closed_answer x).number) a; ran_here = b.0; that_job = b.1; finished = b.2 })
        (λ (nz : byte n ≡ 0 → ⊥). earlier_too n (so_far (sym (stays_by n nz (made n)) ∙ one)))
        (eq_or_ne (byte n) 0)

    none_at_start : byte 0 ≡ 0
    unfolding byte_of
    none_at_start = rw (C.from_start ∙ begun_as.state_is, begun_as.log_is) (start_byte l C.supply begun_as.keeps (mode_of C.asked) C.clock C.log begun_as.room i k li lk)

    pass_earned : (n : ℕ) → byte n ≡ 1 → Earned l C n i k
    pass_earned zero one = absurd (omega (arith, none_at_start))
    pass_earned (suc n) one = earned_by n (pass_earned n) one (made n)

pub empty_chamber : EmptyChamber
empty_chamber = record {
  a_pass_is_earned = λ l C n i k li lk one. pass_earned l C i k li lk n (byte_at l C i k li lk n ∙ one);
  none_left_empty = λ l C n i k li lk. none_left_empty l C i k li lk n;
  written_once = λ l C n i k li lk. written_once l C i k li lk n;
}
