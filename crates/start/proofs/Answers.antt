-- What a start answers at each way out, as laws over plain values.
use mathlib.Core.Path.{◌≡◌, sym, ap, ◌∙◌}
use mathlib.Core.List.{List}
use Prim.Native.Nat.{ℕ, ◌≤◌, ◌<◌}
use lib.ListN.{length}
use borrow.Author.Tests.{lt-ltb, le-ltb}
use Rattle.basis.specs.Choose.{choose_yes, choose_no}
use Rattle.basis.specs.Bytes.{overwrite}
use Rattle.tasks.specs.declared.TaskList.{TaskList}
use Rattle.std.specs.Prelude.{Option, Ok, Err}
use Rattle.tasks.specs.declared.refusals.Refusal.{Refusal}
use Rattle.tasks.specs.declared.refusals.Refusal.TheVariants.{ShortLog}
use Rattle.verdict.specs.declared.Accepted.{Accepted}
use Rattle.verdict.specs.Verdict.{Verdict, verdict_of}
use Rattle.run.specs.declared.Mode.{Mode}
use Rattle.verdict.proofs.Told.{accepted_tells}
use Rattle.run.specs.declared.State.{State}
use Rattle.start.specs.Start.{mode_of, start_state, no_run, begun_of, begun_state, begun_log, Begins}

pub few_tasks : (l : TaskList) (supply : ℕ) (v : Verdict) → v ≡ verdict_of l supply → (a : Accepted) → v ≡ Ok a → l.count ≤ 16
few_tasks l supply v ev a e = (accepted_tells l supply a (sym ev ∙ e)).keeps.few

module _ (l : TaskList) (supply : ℕ) (asked : Option Mode) (clock : ℕ) (log : List ℕ) (v : Verdict) (ev : v ≡ verdict_of l supply) where
  -- A list that is refused,
  pub refused_begins : (r : Refusal) (s : State) → v ≡ Err r → s ≡ no_run → Begins l supply asked clock log log (record { answer = Err r; state = s })
  unfolding begun_of begun_state begun_log
  refused_begins r s e en =
      let same : verdict_of l supply ≡ Err r = sym ev ∙ e in
      record {
        answer = sym (ap (λ (x : Verdict). begun_of x (length log)) same);
        state = en ∙ sym (ap (λ (x : Verdict). begun_state l asked clock x (length log)) same);
        bytes = sym (ap (λ (x : Verdict). begun_log x log) same);
      }

  module _ (a : Accepted) (e : v ≡ Ok a) where
    same : verdict_of l supply ≡ Ok a
    same = sym ev ∙ e

    -- an accepted one whose log is too short,
    pub short_begins : (s : State) → length log < a.jobs → s ≡ no_run
        → Begins l supply asked clock log log (record { answer = Err ShortLog; state = s })
    unfolding begun_of begun_state begun_log
    short_begins s lt en = record {
      answer = sym (ap (λ (x : Verdict). begun_of x (length log)) same ∙ choose_yes _ _ _ (lt-ltb (length log) a.jobs lt));
      state = en ∙ sym (ap (λ (x : Verdict). begun_state l asked clock x (length log)) same ∙ choose_yes _ _ _ (lt-ltb (length log) a.jobs lt));
      bytes = sym (ap (λ (x : Verdict). begun_log x log) same ∙ choose_yes _ _ _ (lt-ltb (length log) a.jobs lt));
    }

    -- and an accepted one whose log is long enough.
    pub accepted_begins : (s : State) (log' : List ℕ) → a.jobs ≤ length log → s ≡ start_state l a.cycle (mode_of asked) clock → log' ≡ overwrite (λ _. 0) a.jobs log
        → Begins l supply asked clock log log' (record { answer = Ok tt; state = s })
    unfolding begun_of begun_state begun_log
    accepted_begins s log' le es el = record {
      answer = sym (ap (λ (x : Verdict). begun_of x (length log)) same ∙ choose_no _ _ _ (le-ltb (length log) a.jobs le));
      state = es ∙ sym (ap (λ (x : Verdict). begun_state l asked clock x (length log)) same ∙ choose_no _ _ _ (le-ltb (length log) a.jobs le));
      bytes = el ∙ sym (ap (λ (x : Verdict). begun_log x log) same ∙ choose_no _ _ _ (le-ltb (length log) a.jobs le));
    }
