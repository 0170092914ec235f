-- `run::ask::first_open` meets its contract.
use Rattle.std.proofs.Common.{◌≡◌, ◌≤◌, false, get_or}
use Rattle.basis.specs.Bytes.{at}
use Rattle.basis.specs.Choose.{choose}
use Rattle.plan.specs.Plan.{first}
use Rattle.run.specs.Who.{of_entry}
use Rattle.run.proofs.ask.first_open.Given as goal

abbrev pub invariant-loop-i : goal.invariant-loop-i
invariant-loop-i l = (first (at l.state.deadlines) (λ k. choose (get_or l.state.ended k false) 0 1) l.i ≤ l.i) × (l.best ≡ of_entry (first (at l.state.deadlines) (λ k. choose (get_or l.state.ended k false) 0 1) l.i))
