-- What log and jobs always tell of each other, and that an accepted step keeps it: a byte is not 0 once the job's deadline has
-- passed, it is not written again, and it becomes 1 by the report finished of that very job alone.
use Rattle.std.specs.Prelude.{◌≡◌, List, Bool, ◌&&◌, ◌||◌, eqb}
use Rattle.std.proofs.Math.Path.{refl, ap}
use Rattle.std.proofs.Common.{sym, subst, ◌∙◌, arith, ne_eqb, eqb-true}
use Rattle.std.proofs.Math.Bool.{true, false, true≢false, or-false}
use Rattle.std.proofs.Math.Logic.{⊎_elim}
use Prim.Native.Nat.{ℕ, suc, ◌+◌, ◌/◌, ◌≤◌, ◌<◌}
use Rattle.std.proofs.Math.ListN.{get_or}
use Rattle.basis.specs.Choose.{choose, both_true, bool_cases, le_or_lt, eq_or_ne, either_false}
use Rattle.plan.specs.Plan.{Plan, Sound, release, deadline, job, age}
use Rattle.plan.proofs.Run.{goes_on_or_ends, job_goes_on as job_stays, job_anew as job-follows, age_below, release_age}
use Rattle.plan.proofs.Progress.{releases_grow}
use Rattle.run.specs.declared.State.{State}
use Rattle.run.specs.State.{Job, fresh, current_of, job_of, deadline_next, release_next, place}
use Rattle.run.specs.Who.{running}
use Rattle.run.specs.Step.{after_slice, job_after, state_after, log_after, closed_at}
use Rattle.run.specs.Accepted.{StepAccepted, who_runs}
use Rattle.run.specs.StateAfter.{slice_here, slice_elsewhere, job_anew, job_closed, HandedOn, handed_on, state_after_sound}
use Rattle.run.specs.LogAfter.{byte_after, log_byte, log_done, log_over, log_late, log_open, log_ended}
use Rattle.promises.specs.Carries.{carries_on, in_state, current_is, place_is, job_in, deadline_follows, release_follows, no_release_follows, job_then, other_stays}
use Rattle.promises.specs.Earned.{Honest, Tells, byte_of}

-- ---- one accepted step
module _ (P : Plan) (S : Sound P) (cycle : ℕ) (s : State) (tab : List ℕ) (clock report : ℕ) (g : List ℕ) (went : StepAccepted s tab clock report g) (H : Honest P cycle s g) where
  abbrev ran : ℕ
  ran = running s tab

  abbrev after : State
  after = state_after s ran clock report

  abbrev log : List ℕ
  log = log_after s ran report g

  kept : HandedOn s (state_after s (running s tab) clock report) clock
  kept = handed_on s ran clock report

  next_slice : after.position ≡ suc s.position
  next_slice = omega (arith, kept.position_next)

  module _ (i : ℕ) (li : i < P.count) where
    abbrev k : ℕ
    k = job P i s.position

    li_state : i < s.count
    li_state = in_state H.carries i li

    here : Tells P s g i k
    here = H.tells i k li (job_in H.carries H.is_sound i s.position li (omega (arith, went.asked.not_over, H.carries.cycle_is)))

    here_before : get_or g (place s i) 0 ≡ byte_of s g i k
    unfolding byte_of
    here_before = ap (λ (x : ℕ). get_or g x 0) (place_is H.carries refl i li)

    here_after : get_or log (place s i) 0 ≡ byte_of after log i k
    unfolding byte_of
    here_after = ap (λ (x : ℕ). get_or log x 0) (place_is H.carries refl i li ∙ ap (λ (x : ℕ). x + k) (sym (kept.offset_kept i)))

    -- the current job's byte is not 0 once it has ended,
    ended_written : (after_slice s ran report i).ended ≡ true → byte_of after log i k ≡ 0 → ⊥
    ended_written t z =
        ⊎_elim
        (λ (e : ran ≡ suc i).
        ⊎_elim
        (λ (one : report ≡ 1). omega (arith, here_after, log_done s tab clock report g went i li_state e one))
        (λ (not-one : report ≡ 1 → ⊥).
        let none : report ≡ 0 = omega (arith, went.report_to) in
        omega (arith, here_after, log_over s tab clock report g went i li_state e none (eqb-true _ _ (sym (rw (ne_eqb report 1 not-one) at (ap (λ (j : Job). j.ended) (slice_here s ran report i e))) ∙ t))))
        (eq_or_ne report 1))
        (λ (ne : ran ≡ suc i → ⊥).
        let was : (job_of s i).ended ≡ true = sym (ap (λ (j : Job). j.ended) (slice_elsewhere s ran report i ne)) ∙ t in
        here.current_ended refl was (sym here_before ∙ sym (log_ended s tab clock report g went i li_state was) ∙ here_after ∙ z))
        (eq_or_ne ran (suc i))

    -- and 0 while it has not, until its deadline
    was_open : (after_slice s ran report i).ended ≡ false → (job_of s i).ended ≡ false
    was_open f =
        ⊎_elim
        (λ (e : ran ≡ suc i). (who_runs s tab went.asked i e).job_open)
        (λ (ne : ran ≡ suc i → ⊥). sym (ap (λ (j : Job). j.ended) (slice_elsewhere s ran report i ne)) ∙ f)
        (eq_or_ne ran (suc i))

    open_unwritten : (after_slice s ran report i).ended ≡ false → deadline_next s i ≡ false → byte_of after log i k ≡ 0
    open_unwritten f l = sym here_after ∙ log_open s tab clock report g went i li_state f l ∙ here_before ∙ here.current_open refl (was_open f)

    -- at its deadline it is not 0 in any case
    late_written : deadline_next s i ≡ true → byte_of after log i k ≡ 0 → ⊥
    late_written l z =
        ⊎_elim
        (λ (t : (after_slice s ran report i).ended ≡ true). ended_written t z)
        (λ (f : (after_slice s ran report i).ended ≡ false). omega (arith, here_after, log_late s tab clock report g went i li_state f l))
        (bool_cases (after_slice s ran report i).ended)

    -- what was written stays
    here_stays : (byte_of s g i k ≡ 0 → ⊥) → byte_of after log i k ≡ byte_of s g i k
    here_stays nz =
        ⊎_elim
        (λ (t : (job_of s i).ended ≡ true). sym here_after ∙ log_ended s tab clock report g went i li_state t ∙ here_before)
        (λ (f : (job_of s i).ended ≡ false). absurd (nz (here.current_open refl f)))
        (bool_cases (job_of s i).ended)

    -- ---- the slice that follows
    next_is : job_of after i ≡ job_after s ran report i
    next_is = job_then H.carries refl i li tab clock report g went

    -- the job goes on
    module _ (on : suc (age P i s.position) < P.period i) where
      same_job : job P i after.position ≡ k
      same_job = ap (job P i) next_slice ∙ job_stays P S i li s.position on

      no_release : release_next s i ≡ false
      no_release = no_release_follows H.carries refl i li on

      next_ended : (job_of after i).ended ≡ ((after_slice s ran report i).ended || deadline_next s i)
      unfolding closed_at
      next_ended = ap (λ (j : Job). j.ended) (next_is ∙ job_closed s ran report i no_release)

      -- it has ended in this slice or before, or is closed at its deadline
      ended_or_closed : (job_of after i).ended ≡ true → byte_of after log i k ≡ 0 → ⊥
      ended_or_closed t z =
          ⊎_elim
          (λ (due : deadline_next s i ≡ true). late_written due z)
          (λ (not_due : deadline_next s i ≡ false).
          ended_written (sym (or-false (after_slice s ran report i).ended) ∙ ap (λ b. (after_slice s ran report i).ended || b) (sym not_due) ∙ sym next_ended ∙ t) z)
          (bool_cases (deadline_next s i))

    -- or this was its last slice
    module _ (end : suc (age P i s.position) ≡ P.period i) where
      next_job : job P i after.position ≡ suc k
      next_job = ap (job P i) next_slice ∙ job-follows P S i li s.position end

      anew : (job_of after i).ended ≡ false
      unfolding fresh
      anew = ap (λ (j : Job). j.ended) (next_is ∙ job_anew s ran report i (release_follows H.carries refl i li end))

    two_ways : {C : Type 0} → (suc (age P i s.position) < P.period i → C) → (suc (age P i s.position) ≡ P.period i → C) → C
    two_ways f h = ⊎_elim f h (goes_on_or_ends P S i li s.position)

    floor : release P i k + age P i s.position ≡ s.position
    floor = release_age P S i li s.position

    current_tells : Tells P after log i k
    unfolding deadline
    current_tells = record {
      to_come = λ l. absurd (omega (arith, floor, next_slice));
      current_open = λ e f. two_ways
          (λ on. let h = (either_false (after_slice s ran report i).ended (deadline_next s i)).0 (sym (next_ended on) ∙ f) in open_unwritten h.0 h.1)
          (λ end. absurd (omega (arith, next_job end)));
      current_ended = λ e t z. two_ways (λ on. ended_or_closed on t z) (λ end. omega (arith, next_job end));
      passed = λ l z.
          ⊎_elim
          (λ (e : suc (age P i s.position) ≡ P.due i). late_written (deadline_follows H.carries refl i li e) z)
          (λ (ne : suc (age P i s.position) ≡ P.due i → ⊥).
          let written : byte_of s g i k ≡ 0 → ⊥ = here.passed (omega (arith, floor, next_slice)) in
          written (sym (here_stays written) ∙ z))
          (eq_or_ne (suc (age P i s.position)) (P.due i));
    }

    -- no other job's byte is touched
    untouched : (m : ℕ) → m < cycle / P.period i → (m ≡ k → ⊥) → byte_of after log i m ≡ byte_of s g i m
    unfolding byte_of
    untouched m lm ne = ap (λ (x : ℕ). get_or log (x + m) 0) (kept.offset_kept i) ∙ other_stays H.carries refl i li tab clock report g went m lm ne

    other_tells : (m : ℕ) → m < cycle / P.period i → (m ≡ k → ⊥) → Tells P after log i m
    unfolding deadline
    other_tells m lm ne = record {
      to_come = λ l. untouched m lm ne ∙ before.to_come (omega (arith, next_slice));
      current_open = λ e f. untouched m lm ne ∙ two_ways (λ on. absurd (ne (sym e ∙ same_job on))) (λ end. before.to_come (later (omega (arith, next_job end))));
      current_ended = λ e t z. two_ways (λ on. ne (sym e ∙ same_job on)) (λ end. true≢false (sym t ∙ anew end));
      passed = λ l z. before.passed (earlier (omega (arith, next_slice))) (sym (untouched m lm ne) ∙ z);
    }
      where
        before : Tells P s g i m
        before = H.tells i m li lm

        -- a later job is still to come
        later : k < m → s.position < release P i m
        later l = omega (arith, floor, age_below P S i li s.position, releases_grow P S P.runtime i li k m l)

        -- another job whose deadline has passed by the slice's end had passed it before
        earlier : deadline P i m ≤ suc s.position → deadline P i m ≤ s.position
        earlier l =
            ⊎_elim
            (λ (h : k ≤ m). absurd (omega (arith, later (omega arith), S.due_pos i li)))
            (λ (h : m < k). omega (arith, floor, releases_grow P S P.runtime i li m k h, S.due_within i li))
            (le_or_lt k m)

  pub honest_after : Honest P cycle after log
  honest_after = record {
    carries = carries_on H.carries kept;
    is_sound = state_after_sound s tab clock report g went H.carries.jobs_room;
    tells = λ i m li lm.
        ⊎_elim
        (λ (e : m ≡ job P i s.position). subst (Tells P after log i) (sym e) (current_tells i li))
        (λ (ne : m ≡ job P i s.position → ⊥). other_tells i li m lm ne)
        (eq_or_ne m (job P i s.position));
  }

  -- A byte once written stays.
  pub written_stays : (i m : ℕ) → i < P.count → m < cycle / P.period i → (byte_of s g i m ≡ 0 → ⊥) → byte_of after log i m ≡ byte_of s g i m
  written_stays i m li lm nz =
      ⊎_elim
      (λ (e : m ≡ job P i s.position). rw e (here_stays i li (rw e at nz)))
      (λ (ne : m ≡ job P i s.position → ⊥). untouched i li m lm ne)
      (eq_or_ne m (job P i s.position))

  -- a byte that was 0 becomes 1 by the first of its cases alone
  one_by_first : (a b c : Bool) (old : ℕ) → old ≡ 0 → choose a 1 (choose b 2 (choose c 3 old)) ≡ 1 → a ≡ true
  unfolding choose
  one_by_first true b c old z e = refl
  one_by_first false true c old z e = absurd (omega arith)
  one_by_first false false true old z e = absurd (omega arith)
  one_by_first false false false old z e = absurd (omega arith)

  pass_test : (i old : ℕ) → old ≡ 0 → byte_after s ran report i old ≡ 1 → (eqb ran (suc i) && eqb report 1) ≡ true
  unfolding byte_after
  pass_test i old z e = one_by_first _ _ _ old z e

  -- A byte that becomes 1 is that of the job that ran and reported finished.
  pub pass_brought : (i m : ℕ) → i < P.count → m < cycle / P.period i → byte_of s g i m ≡ 0 → byte_of after log i m ≡ 1
      → (running s tab ≡ suc i) × (current_of s i ≡ m) × (report ≡ 1)
  pass_brought i m li lm z one =
      ⊎_elim
      (λ (e : m ≡ job P i s.position).
      let old : get_or g (place s i) 0 ≡ 0 = here_before i li ∙ ap (byte_of s g i) (sym e) ∙ z in
      let new : byte_after s ran report i (get_or g (place s i) 0) ≡ 1 = sym (log_byte s tab clock report g went i (li_state i li)) ∙ here_after i li ∙ ap (byte_of after log i) (sym e) ∙ one in
      let both = (both_true (eqb ran (suc i)) (eqb report 1)).0 (pass_test i (get_or g (place s i) 0) old new) in
      (eqb-true ran (suc i) both.0, current_is H.carries refl i li ∙ sym e, eqb-true report 1 both.1))
      (λ (ne : m ≡ job P i s.position → ⊥). absurd (omega (arith, untouched i li m lm ne)))
      (eq_or_ne m (job P i s.position))
