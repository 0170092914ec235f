-- `run::place` meets its contract.
use Rattle.std.proofs.Common.{◌≡◌, ◌*◌, ◌/◌, ◌≤◌}
use Rattle.basis.specs.Bytes.{at}
use Rattle.basis.specs.Sum.{sum}
use Rattle.run.proofs.place.Given as goal

abbrev pub invariant-loop-j : goal.invariant-loop-j
invariant-loop-j l = (l.jobs ≤ l.j * 4294967296) × (l.jobs ≡ sum (λ k. l.cycle / at l.periods k) l.j)
