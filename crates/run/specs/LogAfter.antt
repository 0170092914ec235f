-- What an accepted step writes into the log, byte by byte.
use Rattle.std.specs.Prelude.{◌≡◌, ℕ, zero, suc, ◌+◌, ◌/◌, ◌<◌, ◌≤◌, Bool, true, false, not, ◌&&◌, ◌||◌, List, length, ◌==◌, ◌≢◌, slice_index, slice_set}
use Rattle.std.proofs.Math.Path.{refl, ap, subst}
use Rattle.std.proofs.Common.{sym, ◌∙◌, arith, length-set, get_or-set_same, get_or-set_other}
use Rattle.std.proofs.Math.Bool.{true≢false}
use Rattle.std.proofs.Math.Logic.{⊎_elim}
use borrow.Author.Tests.{eq-eqb, ne_eqb}
use Rattle.basis.specs.Choose.{choose, eq_or_ne, below_suc, either_false}
use Rattle.run.specs.declared.State.{State}
use Rattle.run.specs.State.{Job, period_of, runtime_of, current_of, job_of, offset, job_count, place, deadline_next}
use Rattle.run.specs.Who.{running}
use Rattle.run.specs.Step.{after_slice, result_of, with_result, with_late, log_after}
use Rattle.run.specs.Places.{current_in_cycle, place_within, places_apart, jobs_apart}
use Rattle.run.specs.Accepted.{StepAccepted, who_runs}
use Rattle.run.specs.StateAfter.{slice_here, slice_elsewhere}

-- The byte of the current job of task i, which was `old`: 1 if it ran and finished; else 2 if it ran and this slice completes
-- its run-time; else 3 if its deadline is after this slice and it has not ended; else as it was.
unfoldable pub byte_after : State → ℕ → ℕ → ℕ → ℕ → ℕ
byte_after s ran report i old =
    choose (ran == suc i && report == 1) 1
    (choose (ran == suc i && (job_of s i).used + 1 == runtime_of s i (current_of s i)) 2
    (choose (deadline_next s i && not (job_of s i).ended) 3 old))

-- ---- a byte that is written if a test holds, and one of two
pub put-length : (b : Bool) (log : List ℕ) (k v : ℕ) → length (choose b (slice_set log k v) log) ≡ length log
unfolding choose
put-length true log k v = length-set log k v
put-length false log k v = refl

put_other : (b : Bool) (log : List ℕ) (k v m : ℕ) → (m ≢ k) → slice_index (choose b (slice_set log k v) log) m ≡ slice_index log m
unfolding choose
put_other true log k v m ne = get_or-set_other log k m v 0 ne
put_other false log k v m ne = refl

put_here : (b : Bool) (log : List ℕ) (k v : ℕ) → k < length log → slice_index (choose b (slice_set log k v) log) k ≡ choose b v (slice_index log k)
unfolding choose
put_here true log k v l = get_or-set_same log k v 0 l
put_here false log k v l = refl

either-length : (a b : Bool) (log : List ℕ) (k v w : ℕ) → length (choose a (slice_set log k v) (choose b (slice_set log k w) log)) ≡ length log
unfolding choose
either-length true b log k v w = length-set log k v
either-length false b log k v w = put-length b log k w

either_other : (a b : Bool) (log : List ℕ) (k v w m : ℕ) → (m ≢ k) → slice_index (choose a (slice_set log k v) (choose b (slice_set log k w) log)) m ≡ slice_index log m
unfolding choose
either_other true b log k v w m ne = get_or-set_other log k m v 0 ne
either_other false b log k v w m ne = put_other b log k w m ne

either_here : (a b : Bool) (log : List ℕ) (k v w : ℕ) → k < length log → slice_index (choose a (slice_set log k v) (choose b (slice_set log k w) log)) k ≡ choose a v (choose b w (slice_index log k))
unfolding choose
either_here true b log k v w l = get_or-set_same log k v 0 l
either_here false b log k v w l = put_here b log k w l

-- ---- done and over
module _ (s : State) (report : ℕ) (log : List ℕ) where
  pub result-length : (ran : ℕ) → length (with_result s ran report log) ≡ length log
  unfolding with_result result_of
  result-length zero = refl
  result-length (suc i) = either-length _ _ log (place s i) 1 2

  result_other : (ran m : ℕ) → ((i : ℕ) → ran ≡ suc i → m ≢ place s i) → slice_index (with_result s ran report log) m ≡ slice_index log m
  unfolding with_result result_of
  result_other zero m ne = refl
  result_other (suc i) m ne = either_other _ _ log (place s i) 1 2 m (ne i refl)

  result_here : (i : ℕ) → place s i < length log → slice_index (with_result s (suc i) report log) (place s i) ≡ choose (report == 1) 1 (choose ((job_of s i).used + 1 == runtime_of s i (current_of s i)) 2 (slice_index log (place s i)))
  unfolding with_result result_of
  result_here i l = either_here (report == 1) ((job_of s i).used + 1 == runtime_of s i (current_of s i)) log (place s i) 1 2 l

-- ---- late
-- the current job of task i gets 3
unfoldable is_late : State → ℕ → ℕ → ℕ → Bool
is_late s ran report i = deadline_next s i && not (after_slice s ran report i).ended

module _ (s : State) (ran report : ℕ) (log : List ℕ) where
  pub late-length : (n : ℕ) → length (with_late s ran report log n) ≡ length log
  unfolding with_late
  late-length zero = refl
  late-length (suc n) = put-length (deadline_next s n && not (after_slice s ran report n).ended) (with_late s ran report log n) (place s n) 3 ∙ late-length n

  late_other : (n m : ℕ) → ((i : ℕ) → i < n → m ≢ place s i) → slice_index (with_late s ran report log n) m ≡ slice_index log m
  unfolding with_late
  late_other zero m ne = refl
  late_other (suc n) m ne =
      put_other _ (with_late s ran report log n) (place s n) 3 m (ne n (omega arith)) ∙ late_other n m (λ i l. ne i (omega arith))

  -- where the tasks below n have places of their own, within the log
  module _ (n : ℕ) (inside : (i : ℕ) → i < n → place s i < length log) (apart : (i j : ℕ) → i < n → j < n → place s i ≡ place s j → i ≡ j) where
    late_here : (k i : ℕ) → k ≤ n → i < k → slice_index (with_late s ran report log k) (place s i) ≡ choose (is_late s ran report i) 3 (slice_index log (place s i))
    unfolding with_late is_late
    late_here zero i lk l = absurd (omega arith)
    late_here (suc k) i lk l =
        ⊎_elim
        (λ (b : i < k).
        put_other _ (with_late s ran report log k) (place s k) 3 (place s i) (λ e. omega (arith, apart i k (omega arith) lk e)) ∙ late_here k i (omega arith) b)
        (λ (e : i ≡ k). subst (λ (x : ℕ). slice_index (with_late s ran report log (suc k)) (place s x) ≡ choose (is_late s ran report x) 3 (slice_index log (place s x))) (sym e) (newest k lk))
        (below_suc i k l)
      where
        newest : (k : ℕ) → k < n → slice_index (with_late s ran report log (suc k)) (place s k) ≡ choose (is_late s ran report k) 3 (slice_index log (place s k))
        newest k lk =
            put_here (is_late s ran report k) (with_late s ran report log k) (place s k) 3 (omega (arith, late-length k, inside k lk))
            ∙ ap (λ (x : ℕ). choose (is_late s ran report k) 3 x) (late_other k (place s k) (λ i l e. omega (arith, apart k i lk (omega arith) e)))

-- ---- the log after an accepted step
-- For the task that ran: ending in this very slice, it is not late.
ended_here : (done over last : Bool) (old : ℕ) → choose (last && not (done || over)) 3 (choose done 1 (choose over 2 old)) ≡ choose done 1 (choose over 2 (choose (last && true) 3 old))
unfolding choose
ended_here true over true old = refl
ended_here true over false old = refl
ended_here false true true old = refl
ended_here false true false old = refl
ended_here false false last old = refl

never_late : (last : Bool) (old : ℕ) → choose (last && false) 3 old ≡ old
unfolding choose
never_late true old = refl
never_late false old = refl

module _ (s : State) (table : List ℕ) (clock report : ℕ) (log : List ℕ) (went : StepAccepted s table clock report log) where
  abbrev ran : ℕ
  ran = running s table

  abbrev after : List ℕ
  after = log_after s ran report log

  pub log-length : length after ≡ length log
  unfolding log_after
  log-length = late-length s ran report (with_result s ran report log) s.count ∙ result-length s report log ran

  inside : (i : ℕ) → i < s.count → place s i < length log
  inside i l = omega (arith, place_within s went.asked.is_sound went.asked.not_over i l, went.log_from)

  late_at : (i : ℕ) → i < s.count → slice_index after (place s i) ≡ choose (is_late s ran report i) 3 (slice_index (with_result s ran report log) (place s i))
  unfolding log_after
  late_at i l =
      late_here s ran report (with_result s ran report log) s.count
      (λ j lj. omega (arith, inside j lj, result-length s report log ran))
      (places_apart s went.asked.is_sound went.asked.not_over)
      s.count i (omega arith) l

  -- the byte of the task that ran, and that of any other
  byte_here : (i : ℕ) → i < s.count → ran ≡ suc i → slice_index after (place s i) ≡ byte_after s ran report i (slice_index log (place s i))
  unfolding byte_after is_late
  byte_here i l e =
      late_at i l
      ∙ ap (λ (x : ℕ). choose (is_late s ran report i) 3 x) (ap (λ (x : ℕ). slice_index (with_result s x report log) (place s i)) e ∙ result_here s report log i (inside i l))
      ∙ rw (slice_here s ran report i e, eq-eqb ran (suc i) e, (who_runs s table went.asked i e).job_open) (ended_here (report == 1) ((job_of s i).used + 1 == runtime_of s i (current_of s i)) (deadline_next s i) (slice_index log (place s i)))

  byte_elsewhere : (i : ℕ) → i < s.count → (ran ≢ suc i) → slice_index after (place s i) ≡ byte_after s ran report i (slice_index log (place s i))
  unfolding byte_after is_late choose
  byte_elsewhere i l ne =
      late_at i l
      ∙ ap (λ (x : ℕ). choose (is_late s ran report i) 3 x) (result_other s report log ran (place s i) (λ j e same. ne (e ∙ ap suc (sym (places_apart s went.asked.is_sound went.asked.not_over i j l (who_runs s table went.asked j e).below same)))))
      ∙ rw (slice_elsewhere s ran report i ne, ne_eqb ran (suc i) ne)

  -- The byte of the current job of each task.
  pub log_byte : (i : ℕ) → i < s.count → slice_index after (place s i) ≡ byte_after s ran report i (slice_index log (place s i))
  log_byte i l = ⊎_elim (byte_here i l) (byte_elsewhere i l) (eq_or_ne ran (suc i))

  -- No other byte changes:
  pub log_elsewhere : (m : ℕ) → ((i : ℕ) → i < s.count → m ≢ place s i) → slice_index after m ≡ slice_index log m
  unfolding log_after
  log_elsewhere m ne =
      late_other s ran report (with_result s ran report log) s.count m ne
      ∙ result_other s report log ran m (λ i e. ne i (who_runs s table went.asked i e).below)

  -- neither that of another job of a task,
  pub log_other_job : (i k : ℕ) → i < s.count → k < s.cycle / period_of s i → (k ≢ current_of s i) → slice_index after (offset s i + k) ≡ slice_index log (offset s i + k)
  unfolding place
  log_other_job i k l lk ne =
      log_elsewhere (offset s i + k)
      (λ j lj e.
      let same = jobs_apart s i j k (current_of s j) lk (current_in_cycle s went.asked.is_sound went.asked.not_over j lj) e in
      ne (same.1 ∙ ap (current_of s) (sym same.0)))

  -- nor one beyond the jobs.
  pub log_beyond : (m : ℕ) → job_count s ≤ m → slice_index after m ≡ slice_index log m
  log_beyond m l = log_elsewhere m (λ i li e. omega (arith, place_within s went.asked.is_sound went.asked.not_over i li))

  -- The cases of `log-byte`, each by its facts. A job that ends in this slice is done or over;
  module _ (i : ℕ) (l : i < s.count) where
    pub log_done : ran ≡ suc i → report ≡ 1 → slice_index after (place s i) ≡ 1
    unfolding byte_after choose
    log_done e one = log_byte i l ∙ rw (eq-eqb ran (suc i) e, eq-eqb report 1 one)

    pub log_over : ran ≡ suc i → report ≡ 0 → (job_of s i).used + 1 ≡ runtime_of s i (current_of s i) → slice_index after (place s i) ≡ 2
    unfolding byte_after choose
    log_over e none full = log_byte i l ∙ rw (eq-eqb ran (suc i) e, ne_eqb report 1 (λ one. omega arith), eq-eqb ((job_of s i).used + 1) (runtime_of s i (current_of s i)) full)

    -- one that has not ended is late at its deadline, and its byte stays before that;
    pub log_late : (after_slice s ran report i).ended ≡ false → deadline_next s i ≡ true → slice_index after (place s i) ≡ 3
    unfolding is_late choose
    log_late o last = late_at i l ∙ rw (last, o)

    pub log_open : (after_slice s ran report i).ended ≡ false → deadline_next s i ≡ false → slice_index after (place s i) ≡ slice_index log (place s i)
    unfolding byte_after choose
    log_open o last =
        ⊎_elim
        (λ (e : ran ≡ suc i).
        let h = (either_false (report == 1) ((job_of s i).used + 1 == runtime_of s i (current_of s i))).0 (sym (ap (λ (j : Job). j.ended) (slice_here s ran report i e)) ∙ o) in
        log_byte i l ∙ rw (eq-eqb ran (suc i) e, h.0, h.1, last))
        (λ (ne : ran ≡ suc i → ⊥). log_byte i l ∙ rw (ne_eqb ran (suc i) ne, last))
        (eq_or_ne ran (suc i))

    -- the byte of one that had ended stays.
    pub log_ended : (job_of s i).ended ≡ true → slice_index after (place s i) ≡ slice_index log (place s i)
    unfolding byte_after choose
    log_ended e =
        let other : ran ≡ suc i → ⊥ = λ r. true≢false (sym e ∙ (who_runs s table went.asked i r).job_open) in
        log_byte i l ∙ rw (ne_eqb ran (suc i) other, e) (never_late (deadline_next s i) (slice_index log (place s i)))
