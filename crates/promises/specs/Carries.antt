-- The state's numbers are the plan's: so its current jobs, their ages and their places in the log are the plan's as well, and a
-- step hands that on.
use Rattle.std.specs.Prelude.{◌≡◌, List, true, false, get_or}
use Rattle.std.proofs.Math.Path.{ap, ap₂}
use Rattle.std.proofs.Common.{subst, sym, ◌∙◌, arith, eq-eqb, ne_eqb}
use Prim.Native.Nat.{ℕ, suc, ◌+◌, ◌/◌, ◌%◌, ◌≤◌, ◌<◌}
use Rattle.std.proofs.Math.Dec.{eqb}
use Rattle.basis.specs.Sum.{sum, sum_ext}
use Rattle.plan.specs.Plan.{Plan, job, age}
use Rattle.run.specs.declared.State.{State}
use Rattle.run.specs.State.{period_of, due_of, runtime_of, key_of, current_of, age_of, job_of, deadline_next, release_next, offset, place}
use Rattle.run.specs.Who.{running}
use Rattle.run.specs.Step.{job_after, state_after, log_after}
use Rattle.run.specs.Sound.{SoundState}
use Rattle.run.specs.Places.{job_in_cycle}
use Rattle.run.specs.Accepted.{StepAccepted}
use Rattle.run.specs.LogAfter.{log_other_job}
use Rattle.run.specs.StateAfter.{Room, HandedOn, job_after_lem}

pub record Carries (P : Plan) (cycle : ℕ) (s : State) : Type 0 where
  pub count_is : s.count ≡ P.count
  pub cycle_is : s.cycle ≡ cycle
  pub period_is : (i : ℕ) → i < P.count → period_of s i ≡ P.period i
  pub due_is : (i : ℕ) → i < P.count → due_of s i ≡ P.due i
  pub runtime_is : (i k : ℕ) → i < P.count → runtime_of s i k ≡ P.runtime i k
  pub key_is : (i k : ℕ) → i < P.count → key_of s i k ≡ P.key i k
  pub jobs_room : Room s

pub carries_on : {P : Plan} {cycle : ℕ} {s after : State} {clock : ℕ} → Carries P cycle s → HandedOn s after clock → Carries P cycle after
carries_on C kept = record {
  count_is = kept.count_kept ∙ C.count_is;
  cycle_is = kept.cycle_kept ∙ C.cycle_is;
  period_is = λ i li. kept.period_kept i ∙ C.period_is i li;
  due_is = λ i li. kept.due_kept i ∙ C.due_is i li;
  runtime_is = λ i k li. kept.runtime_kept i k ∙ C.runtime_is i k li;
  key_is = λ i k li. kept.key_kept i k ∙ C.key_is i k li;
  jobs_room = kept.room_kept C.jobs_room;
}

module _ {P : Plan} {cycle : ℕ} {s : State} (C : Carries P cycle s) where
  pub in_state : (i : ℕ) → i < P.count → i < s.count
  in_state i li = omega (arith, C.count_is)

  -- ---- places in the log
  jobs_is : (i : ℕ) → i < P.count → s.cycle / period_of s i ≡ cycle / P.period i
  jobs_is i li = ap₂ ◌/◌ C.cycle_is (C.period_is i li)

  pub offset_is : (i : ℕ) → i ≤ P.count → offset s i ≡ sum (λ j. cycle / P.period j) i
  unfolding offset
  offset_is i l = sum_ext _ _ i (λ j lj. jobs_is j (omega arith))

  -- the job that is current in a slice of the cycle is one of the task's jobs in it
  pub job_in : SoundState s → (i t : ℕ) → i < P.count → t < cycle → job P i t < cycle / P.period i
  unfolding job
  job_in S i t li lt = rw (C.period_is i li, C.cycle_is) at (job_in_cycle s S i t (in_state i li) (omega (arith, C.cycle_is)))

  -- ---- a task before slice p
  module _ {p : ℕ} (at : s.position ≡ p) (i : ℕ) (li : i < P.count) where
    pub current_is : current_of s i ≡ job P i p
    unfolding current_of job
    current_is = ap₂ ◌/◌ at (C.period_is i li)

    age_is : age_of s i ≡ age P i p
    unfolding age_of age
    age_is = ap₂ ◌%◌ at (C.period_is i li)

    pub runtime_now : runtime_of s i (current_of s i) ≡ P.runtime i (job P i p)
    runtime_now = C.runtime_is i (current_of s i) li ∙ ap (P.runtime i) current_is

    pub key_now : key_of s i (current_of s i) ≡ P.key i (job P i p)
    key_now = C.key_is i (current_of s i) li ∙ ap (P.key i) current_is

    pub place_is : place s i ≡ offset s i + job P i p
    unfolding place
    place_is = ap (λ (k : ℕ). offset s i + k) current_is

    -- whether the current job's deadline follows the slice, and whether the next release does
    deadline_test : deadline_next s i ≡ eqb (suc (age P i p)) (P.due i)
    unfolding deadline_next
    deadline_test = ap₂ (λ (x y : ℕ). eqb (suc x) y) age_is (C.due_is i li)

    pub deadline_follows : suc (age P i p) ≡ P.due i → deadline_next s i ≡ true
    deadline_follows e = deadline_test ∙ eq-eqb _ _ e

    pub no_deadline_follows : (suc (age P i p) ≡ P.due i → ⊥) → deadline_next s i ≡ false
    no_deadline_follows ne = deadline_test ∙ ne_eqb _ _ ne

    release_test : release_next s i ≡ eqb (suc (age P i p)) (P.period i)
    unfolding release_next
    release_test = ap₂ (λ (x y : ℕ). eqb (suc x) y) age_is (C.period_is i li)

    pub release_follows : suc (age P i p) ≡ P.period i → release_next s i ≡ true
    release_follows e = release_test ∙ eq-eqb _ _ e

    pub no_release_follows : suc (age P i p) < P.period i → release_next s i ≡ false
    no_release_follows l = release_test ∙ ne_eqb (suc (age P i p)) (P.period i) (λ e. omega arith)

    -- ---- after a step
    module _ (tab : List ℕ) (clock report : ℕ) (g : List ℕ) (went : StepAccepted s tab clock report g) where
      -- its job is as the rules say,
      pub job_then : job_of (state_after s (running s tab) clock report) i ≡ job_after s (running s tab) report i
      job_then = job_after_lem s tab clock report g went C.jobs_room i (in_state i li)

      -- and the byte of any job but the current one as it was.
      pub other_stays : (k : ℕ) → k < cycle / P.period i → (k ≡ job P i p → ⊥) → get_or (log_after s (running s tab) report g) (offset s i + k) 0 ≡ get_or g (offset s i + k) 0
      other_stays k lk ne =
          log_other_job s tab clock report g went i k (in_state i li) (subst (λ (x : ℕ). k < x) (sym (jobs_is i li)) lk) (λ e. ne (e ∙ current_is))
