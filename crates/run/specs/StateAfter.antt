-- An accepted step leaves a sound state, one slice further on, with the jobs that the rules say.
use Rattle.std.specs.Prelude.{◌≡◌, ℕ, suc, ◌+◌, ◌%◌, ◌<◌, ◌≤◌, true, false, ◌||◌, List, length, ◌==◌, ◌≢◌, refl}
use Rattle.std.proofs.Math.Path.{sym, ap, ap₂}
use Rattle.std.proofs.Common.{◌∙◌, arith, add-one}
use Rattle.std.proofs.Math.Bool.{or-false}
use Rattle.std.proofs.Math.Logic.{⊎_elim}
use Rattle.std.proofs.Math.Nat.{mod-lt}
use borrow.Author.Tests.{eqb-false, eq-eqb, ne_eqb}
use Rattle.basis.proofs.Slices.{mod_same, mod_next}
use Rattle.basis.specs.Choose.{choose, choose_yes, choose_no, bool_cases, eq_or_ne, either_false}
use Rattle.basis.specs.Bytes.{overwrite-length, overwrite_at}
use Rattle.run.specs.declared.State.{State}
use Rattle.run.specs.State.{Job, fresh, period_of, due_of, runtime_of, key_of, current_of, age_of, job_of, offset, job_count, deadline_next, release_next}
use Rattle.run.specs.Who.{running}
use Rattle.run.specs.Step.{after_slice, closed_at, job_after, state_after}
use Rattle.run.specs.Sound.{SoundTask, SoundState}
use Rattle.run.specs.Accepted.{StepAccepted, who_runs}

-- ---- a job after the slice
module _ (s : State) (ran report i : ℕ) where
  pub slice_here : ran ≡ suc i → after_slice s ran report i ≡ record { used = (job_of s i).used + 1; ended = report == 1 || ((job_of s i).used + 1 == runtime_of s i (current_of s i)) }
  unfolding after_slice
  slice_here e = choose_yes (ran == suc i) _ _ (eq-eqb ran (suc i) e)

  pub slice_elsewhere : (ran ≢ suc i) → after_slice s ran report i ≡ job_of s i
  unfolding after_slice
  slice_elsewhere ne = choose_no (ran == suc i) _ _ (ne_eqb ran (suc i) ne)

  pub job_anew : release_next s i ≡ true → job_after s ran report i ≡ fresh
  unfolding job_after
  job_anew e = choose_yes (release_next s i) _ _ e

  pub job_closed : release_next s i ≡ false → job_after s ran report i ≡ closed_at (deadline_next s i) (after_slice s ran report i)
  unfolding job_after
  job_closed e = choose_no (release_next s i) _ _ e

  -- One that has ended by its deadline is as it was.
  pub closed_same : (deadline_next s i ≡ true → (after_slice s ran report i).ended ≡ true) → closed_at (deadline_next s i) (after_slice s ran report i) ≡ after_slice s ran report i
  unfolding closed_at
  closed_same h =
      ⊎_elim
      (λ (t : deadline_next s i ≡ true). ap (λ b. record { used = (after_slice s ran report i).used; ended = b }) (ap (λ b. b || deadline_next s i) (h t) ∙ sym (h t)))
      (λ (f : deadline_next s i ≡ false). ap (λ b. record { used = (after_slice s ran report i).used; ended = b }) (ap (λ b. (after_slice s ran report i).ended || b) f ∙ or-false (after_slice s ran report i).ended))
      (bool_cases (deadline_next s i))

  pub job_goes_on : release_next s i ≡ false → (deadline_next s i ≡ true → (after_slice s ran report i).ended ≡ true) → job_after s ran report i ≡ after_slice s ran report i
  job_goes_on e ended_by = job_closed e ∙ closed_same ended_by

-- There is a place for every job; the arrays of the code have 16.
pub record Room (s : State) : Type 0 where
  pub used_room : s.count ≤ length s.used
  pub ended_room : s.count ≤ length s.ended

-- ---- what a step hands on
-- The tasks, the cycle and the mode stay, and with them the places of the jobs in the log. The position rises by one.
pub record HandedOn (s after : State) (clock : ℕ) : Type 0 where
  pub count_kept : after.count ≡ s.count
  pub cycle_kept : after.cycle ≡ s.cycle
  pub mode_kept : after.mode ≡ s.mode
  pub position_next : after.position ≡ s.position + 1
  pub clock_kept : after.clock ≡ clock
  pub period_kept : (i : ℕ) → period_of after i ≡ period_of s i
  pub due_kept : (i : ℕ) → due_of after i ≡ due_of s i
  pub runtime_kept : (i k : ℕ) → runtime_of after i k ≡ runtime_of s i k
  pub key_kept : (i k : ℕ) → key_of after i k ≡ key_of s i k
  pub offset_kept : (i : ℕ) → offset after i ≡ offset s i
  pub job_count_kept : job_count after ≡ job_count s
  pub room_kept : Room s → Room after

pub handed_on : (s : State) (ran clock report : ℕ) → HandedOn s (state_after s ran clock report) clock
unfolding state_after period_of due_of runtime_of offset job_count
handed_on s ran clock report = record {
  count_kept = refl;
  cycle_kept = refl;
  mode_kept = refl;
  position_next = refl;
  clock_kept = refl;
  period_kept = λ i. refl;
  due_kept = λ i. refl;
  runtime_kept = λ i k. refl;
  key_kept = λ i k. refl;
  offset_kept = λ i. refl;
  job_count_kept = refl;
  room_kept = λ R. record {
    used_room = omega (arith, R.used_room, overwrite-length (λ i. (job_after s ran report i).used) s.used s.count);
    ended_room = omega (arith, R.ended_room, overwrite-length (λ i. (job_after s ran report i).ended) s.ended s.count);
  };
}

-- ---- soundness
module _ (cycle period due runtime age : ℕ) (j : Job) (T : SoundTask cycle period due runtime age j) where
  -- another job of the task, or the same at another age, which has used less or as much as it may, and has ended where it is due
  other_job : (later : ℕ) (k : Job) → k.used ≤ runtime → (k.ended ≡ false → k.used < runtime) → (k.ended ≡ false → later < due) → SoundTask cycle period due runtime later k
  other_job later k to below before = record {
    period_from = T.period_from;
    period_to = T.period_to;
    period_divides = T.period_divides;
    runtime_from = T.runtime_from;
    runtime_to = T.runtime_to;
    due_from = T.due_from;
    due_to = T.due_to;
    used_to = to;
    used_below = below;
    open_before = before;
  }

  fresh_sound : SoundTask cycle period due runtime 0 fresh
  unfolding fresh
  fresh_sound = other_job 0 fresh (omega arith) (λ _. T.runtime_from) (λ _. omega (arith, T.runtime_from, T.due_from))

  ran_sound : (report : ℕ) → j.ended ≡ false → SoundTask cycle period due runtime age (record { used = j.used + 1; ended = report == 1 || (j.used + 1 == runtime) })
  ran_sound report o =
      other_job age _ (omega (arith, T.used_below o))
      (λ e.
      let less : j.used < runtime = T.used_below o in
      let ne : j.used + 1 ≡ runtime → ⊥ = eqb-false (j.used + 1) runtime ((either_false (report == 1) (j.used + 1 == runtime)).0 e).1 in
      omega arith)
      (λ _. T.open_before o)

  -- a slice older, and closed if that is its deadline
  closed_sound : SoundTask cycle period due runtime (suc age) (closed_at (suc age == due) j)
  unfolding closed_at
  closed_sound =
      other_job (suc age) _ T.used_to
      (λ e. T.used_below ((either_false j.ended (suc age == due)).0 e).0)
      (λ e.
      let h = (either_false j.ended (suc age == due)).0 e in
      let ne : suc age ≡ due → ⊥ = eqb-false (suc age) due h.1 in
      omega (arith, T.open_before h.0))

-- ---- the state after an accepted step
module _ (s : State) (table : List ℕ) (clock report : ℕ) (log : List ℕ) (went : StepAccepted s table clock report log) where
  abbrev ran : ℕ
  ran = running s table

  abbrev after : State
  after = state_after s ran clock report

  -- The current job of task i.
  pub job_after_lem : Room s → (i : ℕ) → i < s.count → job_of after i ≡ job_after s ran report i
  unfolding state_after job_of
  job_after_lem R i l =
      ap₂ (λ u e. record { used = u; ended = e })
      (overwrite_at (λ k. (job_after s ran report k).used) s.used 0 s.count i l (omega (arith, R.used_room)))
      (overwrite_at (λ k. (job_after s ran report k).ended) s.ended false s.count i l (omega (arith, R.ended_room)))

  module _ (i : ℕ) (l : i < s.count) where
    abbrev SoundWith : ℕ → Job → Type 0
    SoundWith = SoundTask s.cycle (period_of s i) (due_of s i) (runtime_of s i (current_of s i))

    before_sound : SoundWith (age_of s i) (job_of s i)
    before_sound = went.asked.is_sound.tasks_sound i l

    slice_sound : SoundWith (age_of s i) (after_slice s ran report i)
    slice_sound =
        ⊎_elim
        (λ (e : ran ≡ suc i). rw (slice_here s ran report i e) (ran_sound _ _ _ _ _ _ before_sound report (who_runs s table went.asked i e).job_open))
        (λ (ne : ran ≡ suc i → ⊥). rw (slice_elsewhere s ran report i ne) before_sound)
        (eq_or_ne ran (suc i))

    -- At the next position the job is a slice older, or fresh.
    next_age : (s.position + 1) % period_of s i ≡ choose (release_next s i) 0 (suc (age_of s i))
    unfolding release_next age_of
    next_age =
        ⊎_elim
        (λ (e : suc (s.position % period_of s i) ≡ period_of s i).
        ap (λ (x : ℕ). x % period_of s i) (add-one s.position) ∙ mod_next (period_of s i) before_sound.period_from s.position e ∙ sym (choose_yes _ _ _ (eq-eqb _ _ e)))
        (λ (ne : suc (s.position % period_of s i) ≡ period_of s i → ⊥).
        ap (λ (x : ℕ). x % period_of s i) (add-one s.position)
        ∙ mod_same (period_of s i) before_sound.period_from s.position (omega (arith, mod-lt s.position before_sound.period_from))
        ∙ sym (choose_no _ _ _ (ne_eqb _ _ ne)))
        (eq_or_ne (suc (s.position % period_of s i)) (period_of s i))

    turned_sound : SoundWith ((s.position + 1) % period_of s i) (job_after s ran report i)
    unfolding deadline_next
    turned_sound =
        ⊎_elim
        (λ (e : release_next s i ≡ true). rw (job_anew s ran report i e, next_age ∙ choose_yes _ _ _ e) (fresh_sound _ _ _ _ _ _ before_sound))
        (λ (e : release_next s i ≡ false). rw (job_closed s ran report i e, next_age ∙ choose_no _ _ _ e) (closed_sound _ _ _ _ _ _ slice_sound))
        (bool_cases (release_next s i))

  -- The state is sound. (The run-time of a fresh job is that of the job before it.)
  pub state_after_sound : Room s → SoundState after
  unfolding state_after period_of due_of runtime_of age_of
  state_after_sound R = record {
    count_from = went.asked.is_sound.count_from;
    count_within = went.asked.is_sound.count_within;
    cycle_from = went.asked.is_sound.cycle_from;
    cycle_to = went.asked.is_sound.cycle_to;
    position_to = omega (arith, went.asked.not_over);
    tasks_sound = λ i l. rw (job_after_lem R i l) (turned_sound i l);
  }
