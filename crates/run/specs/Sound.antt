-- What a sound state is like, said as facts, and that these are exactly what the test of soundness finds.
use Rattle.std.specs.Prelude.{◌≡◌, ℕ, zero, suc, ◌%◌, ◌<◌, ◌≤◌, Bool, true, false, ◌&&◌, ◌||◌, ◌↔◌, nat_lt}
use Rattle.std.proofs.Math.Path.{refl, ap}
use Rattle.std.proofs.Common.{◌∙◌, true≢false, arith}
use Rattle.std.proofs.Math.Logic.{⊎_elim}
use Rattle.std.specs.Int.{◌∣◌}
use Rattle.std.proofs.Math.Nat.{dvd_iff_mod-eq-zero}
use borrow.Author.Tests.{leb-true, le-leb, ltb-true, lt-ltb, eqb-true, eq-eqb}
use Rattle.basis.specs.Choose.{both_true, bool_cases, below_suc, within_tells, is_within}
use Rattle.run.specs.declared.State.{State}
use Rattle.run.specs.State.{Job, period_of, due_of, runtime_of, current_of, age_of, job_of, every, sound_task, sound}

-- Each period from 1 to 4,096 and dividing the cycle; each run-time from 1 to its period; each deadline from the run-time to the
-- period; slices used at most the run-time, and below it unless the job has ended; from the deadline to the next release the job has
-- ended.
pub record SoundTask (cycle period due runtime age : ℕ) (j : Job) : Type 0 where
  pub period_from : 1 ≤ period
  pub period_to : period ≤ 4096
  pub period_divides : period ∣ cycle
  pub runtime_from : 1 ≤ runtime
  pub runtime_to : runtime ≤ period
  pub due_from : runtime ≤ due
  pub due_to : due ≤ period
  pub used_to : j.used ≤ runtime
  pub used_below : j.ended ≡ false → j.used < runtime
  pub open_before : j.ended ≡ false → age < due

-- 1 to 16 tasks; the cycle at most 4,096 and not 0; position from 0 to the cycle; every task as above.
pub record SoundState (s : State) : Type 0 where
  pub count_from : 1 ≤ s.count
  pub count_within : s.count ≤ 16
  pub cycle_from : 1 ≤ s.cycle
  pub cycle_to : s.cycle ≤ 4096
  pub position_to : s.position ≤ s.cycle
  pub tasks_sound : (i : ℕ) → i < s.count → SoundTask s.cycle (period_of s i) (due_of s i) (runtime_of s i (current_of s i)) (age_of s i) (job_of s i)

-- ---- tests of every number below n
module _ (test : ℕ → Bool) where
  pub every_tells : (n : ℕ) → every test n ≡ true → (i : ℕ) → i < n → test i ≡ true
  unfolding every
  every_tells zero e i l = absurd (omega arith)
  every_tells (suc n) e i l =
      let h = (both_true (every test n) (test n)).0 e in
      ⊎_elim (λ (b : i < n). every_tells n h.0 i b) (λ (q : i ≡ n). ap test q ∙ h.1) (below_suc i n l)

  is_every : (n : ℕ) → ((i : ℕ) → i < n → test i ≡ true) → every test n ≡ true
  unfolding every
  is_every zero h = refl
  is_every (suc n) h = (both_true (every test n) (test n)).1 (is_every n (λ i l. h i (omega arith)), h n (omega arith))

-- ---- a task, and the state
below_unless : (ended : Bool) (used runtime age due : ℕ) → ((ended || (nat_lt used runtime && nat_lt age due)) ≡ true) ↔ (ended ≡ false → (used < runtime) × (age < due))
below_unless true used runtime age due = (λ _ e. absurd (true≢false e), λ _. refl)
below_unless false used runtime age due = (
  λ h _. let b = (both_true (nat_lt used runtime) (nat_lt age due)).0 h in (ltb-true used runtime b.0, ltb-true age due b.1),
  λ h. (both_true (nat_lt used runtime) (nat_lt age due)).1 (lt-ltb used runtime (h refl).0, lt-ltb age due (h refl).1),
)

module _ (cycle period due runtime age : ℕ) (j : Job) where
  pub task_tells : sound_task cycle period due runtime age j ≡ true → SoundTask cycle period due runtime age j
  unfolding sound_task
  task_tells e =
      let a = (both_true _ _).0 e in
      let b = (both_true _ _).0 a.0 in
      let f = (both_true _ _).0 b.0 in
      let c = (both_true _ _).0 f.0 in
      let d = (both_true _ _).0 c.0 in
      let p = within_tells 1 4096 period d.0 in
      let r = within_tells 1 period runtime c.1 in
      let q = within_tells runtime period due f.1 in
      record {
        period_from = p.0;
        period_to = p.1;
        period_divides = (dvd_iff_mod-eq-zero period).1 (eqb-true (cycle % period) 0 d.1);
        runtime_from = r.0;
        runtime_to = r.1;
        due_from = q.0;
        due_to = q.1;
        used_to = leb-true j.used runtime b.1;
        used_below = λ o. ((below_unless j.ended j.used runtime age due).0 a.1 o).0;
        open_before = λ o. ((below_unless j.ended j.used runtime age due).0 a.1 o).1;
      }

  pub is_task : SoundTask cycle period due runtime age j → sound_task cycle period due runtime age j ≡ true
  unfolding sound_task
  is_task S =
      (both_true _ _).1 (
        (both_true _ _).1 (
          (both_true _ _).1 (
            (both_true _ _).1 (
              (both_true _ _).1 (
                is_within 1 4096 period S.period_from S.period_to,
                eq-eqb (cycle % period) 0 ((dvd_iff_mod-eq-zero period).0 S.period_divides),
              ),
              is_within 1 period runtime S.runtime_from S.runtime_to,
            ),
            is_within runtime period due S.due_from S.due_to,
          ),
          le-leb j.used runtime S.used_to,
        ),
        (below_unless j.ended j.used runtime age due).1 (λ o. (S.used_below o, S.open_before o)),
      )

  pub not_task : (SoundTask cycle period due runtime age j → ⊥) → sound_task cycle period due runtime age j ≡ false
  not_task never =
      ⊎_elim (λ (t : sound_task cycle period due runtime age j ≡ true). absurd (never (task_tells t))) (λ f. f) (bool_cases (sound_task cycle period due runtime age j))

-- The test of soundness holds exactly of the sound states.
pub sound_tells : (s : State) → (sound s ≡ true) ↔ SoundState s
unfolding sound
sound_tells s = (
  λ e.
      let a = (both_true _ _).0 e in
      let b = (both_true _ _).0 a.0 in
      let c = (both_true _ _).0 b.0 in
      let n = within_tells 1 16 s.count c.0 in
      let m = within_tells 1 4096 s.cycle c.1 in
      record {
        count_from = n.0;
        count_within = n.1;
        cycle_from = m.0;
        cycle_to = m.1;
        position_to = leb-true s.position s.cycle b.1;
        tasks_sound = λ i l. task_tells _ _ _ _ _ _ (every_tells _ s.count a.1 i l);
      },
  λ S.
      (both_true _ _).1 (
        (both_true _ _).1 (
          (both_true _ _).1 (
            is_within 1 16 s.count S.count_from S.count_within,
            is_within 1 4096 s.cycle S.cycle_from S.cycle_to,
          ),
          le-leb s.position s.cycle S.position_to,
        ),
        is_every _ s.count (λ i l. is_task _ _ _ _ _ _ (S.tasks_sound i l)),
      ),
)
