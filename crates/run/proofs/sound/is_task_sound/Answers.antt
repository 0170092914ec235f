-- `run::sound::is_task_sound` meets its contract: each way out is decided by the tests before it.
use Rattle.std.proofs.Common.{◌≡◌, ℕ, ◌%◌, ◌<◌, ◌≤◌, Bool, true, false, sym, ◌∙◌, ⊎_elim, get_or, true≢false, mod-lt, pos_of_ne-zero, arith, le-ltb, lt-ltb}
use native.Mathlib.Nat.{dvd_iff_mod-eq-zero}
use Rattle.basis.specs.Bytes.{at}
use Rattle.basis.specs.Choose.{le_or_lt}
use Rattle.run.specs.declared.State.{State}
use Rattle.run.specs.State.{period_of, due_of, runtime_of, age_of, job_of}
use Rattle.run.specs.Sound.{SoundTask, is_task, not_task}
use Rattle.run.specs.Shapes.{sound_at}
use Rattle.run.proofs.sound.is_task_sound.Goals as goal
use Rattle.run.proofs.sound.is_task_sound.Goals.{then-period-lt1-via-then-period-lt1, then-period-lt1-via-else-period-lt1+then-period-gt4096}

module _ (s : State) (i : ℕ) where
  abbrev period : ℕ
  period = at s.periods i

  abbrev due : ℕ
  due = at s.deadlines i

  abbrev runtime : ℕ
  runtime = at s.runtimes i

  abbrev used : ℕ
  used = at s.used i

  abbrev ended : Bool
  ended = get_or s.ended i false

  abbrev SoundHere : Type 0
  SoundHere = SoundTask s.cycle period due runtime (s.position % period) (record { used = used; ended = ended })

  refuted : (SoundHere → ⊥) → false ≡ sound_at s i
  unfolding sound_at period_of due_of runtime_of age_of job_of
  refuted never = sym (not_task _ _ _ _ _ _ never)

  -- what the tests have told once the job's own are left
  tested : 1 ≤ period → period ≤ 4096 → s.cycle % period ≡ 0 → (runtime ≡ 0 → ⊥) → runtime ≤ due → due ≤ period → used ≤ runtime → (ended ≡ false → used < runtime) → (ended ≡ false → s.position % period < due) → true ≡ sound_at s i
  unfolding sound_at period_of due_of runtime_of age_of job_of
  tested from to divides some above within_period most below before =
      sym (is_task _ _ _ _ _ _ (record {
        period_from = from;
        period_to = to;
        period_divides = (dvd_iff_mod-eq-zero _).1 divides;
        runtime_from = pos_of_ne-zero some;
        runtime_to = omega arith;
        due_from = above;
        due_to = within_period;
        used_to = most;
        used_below = below;
        open_before = before;
      }))

pub returns-then-period-lt1 : goal.returns-then-period-lt1
returns-then-period-lt1 c = refuted _ _ (λ S. elim c.then-period-lt1.branch [ then-period-lt1-via-then-period-lt1 w ↦ omega (arith, S.period_from, w.if-period-lt1.true) | then-period-lt1-via-else-period-lt1+then-period-gt4096 w ↦ omega (arith, S.period_to, w.if-period-gt4096.true) ])

pub returns-then-state-period-ne0 : goal.returns-then-state-period-ne0
returns-then-state-period-ne0 c = refuted _ _ (λ S. c.if-state-period-ne0.true ((dvd_iff_mod-eq-zero _).0 S.period_divides))

pub returns-then-runtime-eq0 : goal.returns-then-runtime-eq0
returns-then-runtime-eq0 c = refuted _ _ (λ S. omega (arith, S.runtime_from, c.if-runtime-eq0.true))

pub returns-then-deadline-runtime : goal.returns-then-deadline-runtime
returns-then-deadline-runtime c = refuted _ _ (λ S. omega (arith, S.due_from, c.if-deadline-runtime.true))

pub returns-then-period-deadline : goal.returns-then-period-deadline
returns-then-period-deadline c = refuted _ _ (λ S. omega (arith, S.due_to, c.if-period-deadline.true))

pub returns-then-runtime-used : goal.returns-then-runtime-used
returns-then-runtime-used c = refuted _ _ (λ S. omega (arith, S.used_to, c.if-runtime-used.true))

pub returns-then-state-i : goal.returns-then-state-i
returns-then-state-i c = tested _ _ c.if-period-lt1.false c.if-period-gt4096.false c.if-state-period-ne0.false c.if-runtime-eq0.false c.if-deadline-runtime.false c.if-period-deadline.false c.if-runtime-used.false (λ f. absurd (true≢false (sym c.if-state-i.true ∙ f))) (λ f. absurd (true≢false (sym c.if-state-i.true ∙ f)))

pub returns-then-used-runtime : goal.returns-then-used-runtime
returns-then-used-runtime c = refuted _ _ (λ S. omega (arith, S.used_below c.if-state-i.false, c.if-used-runtime.true))

pub returns-then-deadline-period : goal.returns-then-deadline-period
returns-then-deadline-period c = tested _ _ c.if-period-lt1.false c.if-period-gt4096.false c.if-state-period-ne0.false c.if-runtime-eq0.false c.if-deadline-runtime.false c.if-period-deadline.false c.if-runtime-used.false (λ _. omega (arith, c.if-runtime-used.false, c.if-used-runtime.false)) (λ _. omega (arith, c.if-deadline-period.true, mod-lt c.args.state.now.position c.if-period-lt1.false))

pub returns : goal.returns
returns c =
    let a = c.args.state.now in
    ⊎_elim
    (λ (late : at a.deadlines c.args.i ≤ a.position % at a.periods c.args.i). le-ltb (a.position % at a.periods c.args.i) (at a.deadlines c.args.i) late ∙ refuted a c.args.i (λ S. omega (arith, S.open_before c.if-state-i.false)))
    (λ (young : a.position % at a.periods c.args.i < at a.deadlines c.args.i). lt-ltb (a.position % at a.periods c.args.i) (at a.deadlines c.args.i) young ∙ tested a c.args.i c.if-period-lt1.false c.if-period-gt4096.false c.if-state-period-ne0.false c.if-runtime-eq0.false c.if-deadline-runtime.false c.if-period-deadline.false c.if-runtime-used.false (λ _. omega (arith, c.if-runtime-used.false, c.if-used-runtime.false)) (λ _. young))
    (le_or_lt (at a.deadlines c.args.i) (a.position % at a.periods c.args.i))
