-- `run::close::end_job` meets its contract.
use Rattle.std.proofs.Common.{◌≡◌, ℕ, ◌<◌, nat_lt, set, refl, ◌∙◌, ap₂, arith, lt-ltb}
use Rattle.basis.specs.Choose.{choose, choose_yes}
use Rattle.run.specs.declared.State.{State}
use Rattle.run.specs.State.{place, place_in}
use Rattle.run.specs.Places.{place_by_numbers}
use Rattle.run.specs.Shapes.{ended_with}
use Rattle.run.proofs.close.end_job.Goals as goal

placed : (s : State) (i r : ℕ) → r ≡ choose (nat_lt i 16) (place_in s.periods s.cycle s.position i) 0 → i < 16 → r ≡ place s i
placed s i r e l = e ∙ choose_yes _ _ _ (lt-ltb _ _ l) ∙ place_by_numbers s i

pub bounds-log-at : goal.bounds-log-at
bounds-log-at c = omega (arith, placed c.args.state.now _ _ c.place-at.ensures c.requires.0, c.requires.1)

pub returns : goal.returns
unfolding ended_with
returns c = (refl, ap₂ (set c.args.log.now) (placed c.args.state.now _ _ c.place-at.ensures c.requires.0) c.byte.ensures)
