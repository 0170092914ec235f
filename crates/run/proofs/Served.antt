-- What closing a slice does to the state and the log, tied to the rules: first the task that ran, then late and fresh jobs.
use Rattle.std.proofs.Common.{◌≡◌, ℕ, zero, suc, ◌+◌, ◌%◌, ◌<◌, ◌≤◌, Bool, true, false, not, ◌&&◌, ◌||◌, eqb, List, length, get_or, set, ◌≢◌, sym, refl, ap, ◌∙◌, ap₂, ⊎_elim, add-one, arith, length-set, get_or-set_other, get_or-set_same, set-set, eq-eqb, ne_eqb}
use lib.Seq.{set-get_or, set_comm}
use Rattle.basis.specs.Bytes.{at, overwrite, overwrite_kept, overwrite_inside}
use Rattle.basis.specs.Choose.{choose, eq_or_ne, below_suc}
use Rattle.run.specs.declared.State.{State}
use Rattle.run.specs.State.{Job, fresh, period_of, due_of, runtime_of, current_of, age_of, job_of, offset, place, deadline_next, release_next}
use Rattle.run.specs.Step.{after_slice, with_late, closed_at, job_after, state_after, state_of}
use Rattle.run.specs.LogAfter.{put-length}
use Rattle.run.specs.Shapes.{ended_with, served_one, served, turned, late_at, renewed, late_up_to, gone_on}

-- ---- a list that is written over later on
module _ {A : Type 0} (f : ℕ → A) where
  -- What was written further on stays,
  write_behind : (l : List A) (k : ℕ) (v : A) (n : ℕ) → n ≤ k → overwrite f n (set l k v) ≡ set (overwrite f n l) k v
  unfolding overwrite
  write_behind l k v zero h = refl
  write_behind l k v (suc n) h = ap (λ (x : List A). set x n (f n)) (write_behind l k v n (omega arith)) ∙ set_comm (overwrite f n l) k n v (f n) (λ e. omega arith)

  -- and what was written before is written over.
  write_before : (l : List A) (k : ℕ) (v : A) (n : ℕ) → k < n → overwrite f n (set l k v) ≡ overwrite f n l
  unfolding overwrite
  write_before l k v zero h = absurd (omega arith)
  write_before l k v (suc n) h =
      ⊎_elim
      (λ (b : k < n). ap (λ (x : List A). set x n (f n)) (write_before l k v n b))
      (λ (e : k ≡ n).
      ap (λ (x : List A). set x n (f n)) (write_behind l k v n (omega arith) ∙ ap (λ (x : ℕ). set (overwrite f n l) x v) e)
      ∙ set-set (overwrite f n l) n v (f n))
      (below_suc k n h)

  -- So it is with a place that is written if a test holds.
  write_if : (l : List A) (k : ℕ) (v : A) (n : ℕ) (b : Bool) → k < n → overwrite f n (choose b (set l k v) l) ≡ overwrite f n l
  unfolding choose
  write_if l k v n true h = write_before l k v n h
  write_if l k v n false h = refl

if-length : {A : Type 0} (l : List A) (k : ℕ) (v : A) (b : Bool) → length (choose b (set l k v) l) ≡ length l
unfolding choose
if-length l k v true = length-set l k v
if-length l k v false = refl

-- ---- the task that ran
-- an open job has ended if it is marked, and no other job has
end_here : (b : Bool) (l : List Bool) (k : ℕ) → k < length l → get_or l k false ≡ false → get_or (choose b (set l k true) l) k false ≡ b
unfolding choose
end_here true l k h o = get_or-set_same l k true false h
end_here false l k h o = o

end_elsewhere : (b : Bool) (l : List Bool) (i k : ℕ) → (k ≢ i) → get_or (choose b (set l i true) l) k false ≡ get_or l k false
unfolding choose
end_elsewhere true l i k ne = get_or-set_other l i k true false ne
end_elsewhere false l i k ne = refl

-- a fresh job, or the one that goes on
fresh_used : (anew last : Bool) (j : Job) → choose anew 0 j.used ≡ (choose anew fresh (closed_at last j)).used
unfolding choose fresh closed_at
fresh_used true last j = refl
fresh_used false last j = refl

fresh_ended : (anew last : Bool) (j : Job) → choose anew false (j.ended || last) ≡ (choose anew fresh (closed_at last j)).ended
unfolding choose fresh closed_at
fresh_ended true last j = refl
fresh_ended false last j = refl

module _ (s : State) (report : ℕ) where
  -- The tasks stay,
  kept : (ran : ℕ) (used : List ℕ) (ended : List Bool) → record (served s ran report) { used = used; ended = ended } ≡ record s { used = used; ended = ended }
  unfolding served served_one
  kept zero used ended = refl
  kept (suc i) used ended = refl

  due_kept : (ran k : ℕ) → deadline_next (served s ran report) k ≡ deadline_next s k
  unfolding served served_one deadline_next age_of period_of due_of
  due_kept zero k = refl
  due_kept (suc i) k = refl

  release_kept : (ran k : ℕ) → release_next (served s ran report) k ≡ release_next s k
  unfolding served served_one release_next age_of period_of
  release_kept zero k = refl
  release_kept (suc i) k = refl

  pub place_kept : (ran k : ℕ) → place (served s ran report) k ≡ place s k
  unfolding served served_one place offset current_of period_of
  place_kept zero k = refl
  place_kept (suc i) k = refl

  pub period_kept : (ran k : ℕ) → period_of (served s ran report) k ≡ period_of s k
  unfolding served served_one period_of
  period_kept zero k = refl
  period_kept (suc i) k = refl

  pub count_kept : (ran : ℕ) → (served s ran report).count ≡ s.count
  unfolding served served_one
  count_kept zero = refl
  count_kept (suc i) = refl

  pub position_kept : (ran : ℕ) → (served s ran report).position ≡ s.position
  unfolding served served_one
  position_kept zero = refl
  position_kept (suc i) = refl

  -- and the lists are as long as they were.
  used_long : (ran : ℕ) → length (served s ran report).used ≡ length s.used
  unfolding served served_one
  used_long zero = refl
  used_long (suc i) = length-set s.used i _

  ended_long : (ran : ℕ) → length (served s ran report).ended ≡ length s.ended
  unfolding served served_one
  ended_long zero = refl
  ended_long (suc i) = if-length s.ended i true _

  -- what they hold
  used_after : (ran k : ℕ) → k < length s.used → at (served s ran report).used k ≡ (after_slice s ran report k).used
  unfolding served served_one after_slice choose job_of
  used_after zero k l = rw (ne_eqb 0 (suc k) (λ q. omega arith))
  used_after (suc i) k l =
      ⊎_elim
      (λ (e : i ≡ k). rw (e, eq-eqb (suc k) (suc k) refl) (get_or-set_same s.used k (at s.used k + 1) 0 l))
      (λ (ne : i ≡ k → ⊥). rw (ne_eqb (suc i) (suc k) (λ q. ne (omega arith))) (get_or-set_other s.used i k (at s.used i + 1) 0 (λ q. ne (sym q))))
      (eq_or_ne i k)

  ended_after : (ran : ℕ) → ((k : ℕ) → ran ≡ suc k → (job_of s k).ended ≡ false) → (k : ℕ) → k < length s.ended → get_or (served s ran report).ended k false ≡ (after_slice s ran report k).ended
  unfolding served served_one after_slice choose job_of runtime_of
  ended_after zero open_by k l = rw (ne_eqb 0 (suc k) (λ q. omega arith))
  ended_after (suc i) open_by k l =
      ⊎_elim
      (λ (e : i ≡ k). rw (e, eq-eqb (suc k) (suc k) refl) (end_here _ s.ended k l (open_by k (ap suc e))))
      (λ (ne : i ≡ k → ⊥). rw (ne_eqb (suc i) (suc k) (λ q. ne (omega arith))) (end_elsewhere _ s.ended i k (λ q. ne (sym q))))
      (eq_or_ne i k)

  -- Written over as far as its task, a list is as if it had not been written.
  used_shut : (f : ℕ → ℕ) (n ran : ℕ) → ran ≤ n → overwrite f n (served s ran report).used ≡ overwrite f n s.used
  unfolding served served_one
  used_shut f n zero l = refl
  used_shut f n (suc i) l = write_before f s.used i _ n (omega arith)

  ended_shut : (f : ℕ → Bool) (n ran : ℕ) → ran ≤ n → overwrite f n (served s ran report).ended ≡ overwrite f n s.ended
  unfolding served served_one
  ended_shut f n zero l = refl
  ended_shut f n (suc i) l = write_if f s.ended i true n _ (omega arith)

-- ---- late and fresh jobs
-- The tasks below n have had their turns.
module _ (t : State) where
  abbrev used_at : ℕ → ℕ
  used_at i = choose (release_next t i) 0 (at t.used i)

  abbrev ended_at : ℕ → Bool
  ended_at i = choose (release_next t i) false (get_or t.ended i false || deadline_next t i)

  renewed_is : (n : ℕ) → renewed t n ≡ record t { used = overwrite used_at n t.used; ended = overwrite ended_at n t.ended }
  unfolding renewed turned overwrite release_next deadline_next age_of period_of due_of
  renewed_is zero = refl
  renewed_is (suc n) = rw (renewed_is n, overwrite_kept used_at t.used 0 n n (omega arith), overwrite_kept ended_at t.ended false n n (omega arith))

  pub position_still : (n : ℕ) → (renewed t n).position ≡ t.position
  position_still n = rw (renewed_is n)

  pub period_still : (n i : ℕ) → period_of (renewed t n) i ≡ period_of t i
  unfolding period_of
  period_still n i = rw (renewed_is n)

  pub place_still : (n i : ℕ) → place (renewed t n) i ≡ place t i
  unfolding place offset current_of period_of
  place_still n i = rw (renewed_is n)

  due_still : (n i : ℕ) → deadline_next (renewed t n) i ≡ deadline_next t i
  unfolding deadline_next age_of period_of due_of
  due_still n i = rw (renewed_is n)

  ended_still : (n : ℕ) → get_or (renewed t n).ended n false ≡ get_or t.ended n false
  ended_still n = rw (renewed_is n) (overwrite_kept ended_at t.ended false n n (omega arith))

  pub late_long : (log : List ℕ) (n : ℕ) → length (late_up_to t log n) ≡ length log
  unfolding late_up_to late_at
  late_long log zero = refl
  late_long log (suc n) = put-length _ (late_up_to t log n) (place (renewed t n) n) 3 ∙ late_long log n

module _ (s : State) (report ran : ℕ) (open_by : (k : ℕ) → ran ≡ suc k → (job_of s k).ended ≡ false) where
  -- Late is who has not ended, in this slice or before.
  pub late_served : (log : List ℕ) (n : ℕ) → n ≤ length s.ended → late_up_to (served s ran report) log n ≡ with_late s ran report log n
  unfolding late_up_to late_at with_late
  late_served log zero l = refl
  late_served log (suc n) l =
      rw (
        due_still (served s ran report) n n,
        due_kept s report ran n,
        ended_still (served s ran report) n,
        ended_after s report ran open_by n (omega arith),
        place_still (served s ran report) n n,
        place_kept s report ran n,
        late_served log n (omega arith),
      )

  used_renewed : ran ≤ s.count → overwrite (used_at (served s ran report)) s.count (served s ran report).used ≡ overwrite (λ k. (job_after s ran report k).used) s.count s.used
  unfolding job_after
  used_renewed to =
      overwrite_inside _ _ (served s ran report).used s.count (λ k _ l. ap₂ (λ (b : Bool) (u : ℕ). choose b 0 u) (release_kept s report ran k) (used_after s report ran k (omega (arith, used_long s report ran))) ∙ fresh_used (release_next s k) (deadline_next s k) (after_slice s ran report k))
      ∙ used_shut s report _ s.count ran to

  ended_renewed : ran ≤ s.count → overwrite (ended_at (served s ran report)) s.count (served s ran report).ended ≡ overwrite (λ k. (job_after s ran report k).ended) s.count s.ended
  unfolding job_after
  ended_renewed to =
      overwrite_inside _ _ (served s ran report).ended s.count (λ k _ l. rw (release_kept s report ran k, due_kept s report ran k, ended_after s report ran open_by k (omega (arith, ended_long s report ran))) (fresh_ended (release_next s k) (deadline_next s k) (after_slice s ran report k)))
      ∙ ended_shut s report _ s.count ran to

  -- The state after the step.
  pub state_served : ran ≤ s.count → (clock : ℕ) → gone_on (renewed (served s ran report) s.count) clock ≡ state_after s ran clock report
  unfolding gone_on state_after
  state_served to clock =
      ap (λ (x : State). gone_on x clock) (renewed_is (served s ran report) s.count ∙ kept s report ran _ _)
      ∙ ap₂ (λ u e. state_of s.periods s.deadlines s.runtimes u e s.count s.cycle (s.position + 1) clock s.mode) (used_renewed to) (ended_renewed to)

-- ---- a turn
-- A late job has ended, at once with its byte.
pub late_state : State → ℕ → State
late_state s i = record s { ended = choose (deadline_next s i && not (get_or s.ended i false)) (set s.ended i true) s.ended }

anew_ended : (b : Bool) (l : List Bool) (i : ℕ) → set (choose b (set l i true) l) i false ≡ set l i false
unfolding choose
anew_ended true l i = set-set l i true false
anew_ended false l i = refl

kept_ended : (due ended : Bool) (l : List Bool) (i : ℕ) → get_or l i false ≡ ended → choose (due && not ended) (set l i true) l ≡ set l i (ended || due)
unfolding choose
kept_ended true true l i e = sym (ap (set l i) (sym e) ∙ set-get_or l i false)
kept_ended true false l i e = refl
kept_ended false true l i e = sym (ap (set l i) (sym e) ∙ set-get_or l i false)
kept_ended false false l i e = sym (ap (set l i) (sym e) ∙ set-get_or l i false)

module _ (s now : State) (i : ℕ) (is : now ≡ late_state s i) where
  pub turned_anew : release_next s i ≡ true → record now { used = set now.used i 0; ended = set now.ended i false } ≡ turned s i
  unfolding late_state turned choose
  turned_anew e = rw (is, e) (ap (λ (l : List Bool). record s { used = set s.used i 0; ended = l }) (anew_ended _ s.ended i))

  pub turned_kept : release_next s i ≡ false → now ≡ turned s i
  unfolding late_state turned choose
  turned_kept e = rw (is, e) (ap₂ (λ (u : List ℕ) (l : List Bool). record s { used = u; ended = l }) (sym (set-get_or s.used i 0)) (kept_ended _ _ s.ended i refl))

module _ (s : State) (i : ℕ) where
  -- The tests of the code are those of the rules.
  due_tested : eqb (s.position % at s.periods i + 1) (at s.deadlines i) ≡ deadline_next s i
  unfolding deadline_next age_of period_of due_of
  due_tested = rw add-one

  pub release_tested : eqb (s.position % at s.periods i + 1) (at s.periods i) ≡ release_next s i
  unfolding release_next age_of period_of
  release_tested = rw add-one

  module _ (now : State) (log log' : List ℕ) where
    pub late_yes : (eqb (s.position % at s.periods i + 1) (at s.deadlines i) && not (get_or s.ended i false)) ≡ true → now ≡ ended_with s i → log' ≡ set log (place s i) 3 → (now ≡ late_state s i) × (log' ≡ late_at s i log)
    unfolding late_state late_at ended_with choose
    late_yes t e el = rw (← due_tested, t) (e, el)

    pub late_no : (eqb (s.position % at s.periods i + 1) (at s.deadlines i) && not (get_or s.ended i false)) ≡ false → now ≡ s → log' ≡ log → (now ≡ late_state s i) × (log' ≡ late_at s i log)
    unfolding late_state late_at choose
    late_no f e el = rw (← due_tested, f) (e, el)
