-- What the one who runs reports, from what `run::who` answers.
use Rattle.std.proofs.Common.{◌≡◌, ℕ, zero, suc, ◌+◌, ◌<◌, ◌≤◌, Bool, true, false, ltb, ◌==◌, List, get_or, sym, refl, ap, ◌∙◌, arith, lt-ltb}
use Rattle.std.specs.Int.{from_bool}
use Rattle.basis.specs.Choose.{choose, choose_yes}
use Rattle.plan.specs.Plan.{Demand}
use Rattle.run.specs.declared.State.{State}
use Rattle.std.specs.Prelude.{Option, Some, Result, Ok}
use Rattle.run.specs.declared.Refusal.{Refusal}
use Rattle.run.specs.State.{current_of, job_of, place, place_in}
use Rattle.run.specs.Sound.{SoundState}
use Rattle.run.specs.Places.{place_by_numbers}
use Rattle.run.specs.Who.{running, who_refusal, unless_refused, of_entry, answered, who_of, runner_answer}
use Rattle.run.specs.Accepted.{who_accepted, running_to}
use Rattle.bench.specs.Course.{report_of, report_in, need_in}

-- A job of a sound state has used at most 4,096 slices.
pub used_most : (s : State) → SoundState s → (i : ℕ) → i < s.count → (job_of s i).used ≤ 4096
used_most s S i l = let T = S.tasks_sound i l in omega (arith, T.used_to, T.runtime_to, T.period_to)

-- Its place in the log, as the run works it out.
pub stands_at : (s : State) (i : ℕ) → i < 16 → (r : ℕ) → r ≡ choose (ltb i 16) (place_in s.periods s.cycle s.position i) 0 → r ≡ place s i
stands_at s i l r e = e ∙ choose_yes _ _ _ (lt-ltb i 16 l) ∙ place_by_numbers s i

module _ (needs : List ℕ) (s : State) where
  pub report_none : (ran : ℕ) → ran ≡ 0 → 0 ≡ report_of (need_in needs s) s ran
  unfolding report_of
  report_none ran z = rw z

  -- the need of the job that runs, as it is found at its place
  module _ (ran i need at : ℕ) (runs : ran ≡ suc i) (found : need ≡ get_or needs at 0) (stands : at ≡ place s i) where
    need_is : need ≡ need_in needs s i (current_of s i)
    unfolding need_in place
    need_is = found ∙ ap (λ (x : ℕ). get_or needs x 0) stands

    -- finished exactly where its count reaches its need
    told_as_digit : (finished : Bool) → from_bool finished ≡ choose finished 1 0
    unfolding choose
    told_as_digit true = refl
    told_as_digit false = refl

    pub report_told : (report : ℕ) → report ≡ from_bool ((job_of s i).used + 1 == need) → report ≡ report_of (need_in needs s) s ran
    unfolding report_of
    report_told report told =
        told ∙ told_as_digit _ ∙ ap (λ (n : ℕ). choose ((job_of s i).used + 1 == n) 1 0) need_is ∙ sym (ap (report_of (need_in needs s) s) runs)

-- ---- who runs
-- A task is answered only where asking is accepted, and it is the one that runs.
task_told : (refusal entry n : ℕ) → answered refusal entry ≡ Ok (Some n) → (refusal ≡ 0) × (entry ≡ n)
unfolding answered unless_refused of_entry
task_told zero zero n e = let z : ◌≡◌ {A = ℕ} 0 1 = cc in absurd (omega arith)
task_told zero (suc i) n e = (refl, cc)
task_told (suc m) entry n e = let z : ◌≡◌ {A = ℕ} 0 1 = cc in absurd (omega arith)

module _ (s : State) (table : List ℕ) (r : Result (Option ℕ) Refusal) (told : r ≡ who_of s table) where
  pub runs_in : (n : ℕ) → r ≡ Ok (Some n) → SoundState s × (n ≤ s.count)
  unfolding who_of
  runs_in n e =
      let h = task_told (who_refusal s table) (running s table) n (sym told ∙ e) in
      let accepted = (who_accepted s table).0 h.0 in
      (accepted.is_sound, omega (arith, h.1, running_to s table accepted))

  module _ (need : Demand) where
    pub told_reports : (n report : ℕ) → (runner_answer r).task ≡ n → report ≡ report_of need s n → report ≡ report_in table need s
    unfolding report_in
    told_reports n report e er = er ∙ ap (report_of need s) (sym e ∙ ap (λ (x : Result (Option ℕ) Refusal). (runner_answer x).task) told)
