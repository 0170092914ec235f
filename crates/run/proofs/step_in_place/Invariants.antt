-- `run::step_in_place` meets its contract: each way out answers as the laws of Answers say.
use Rattle.std.proofs.Common.{◌≡◌}
use Rattle.run.specs.Shapes.{renewed, late_up_to}
use Rattle.run.proofs.Answers.{Closes}
use Rattle.run.proofs.step_in_place.Given as goal

abbrev pub invariant-loop-i : goal.invariant-loop-i
invariant-loop-i l = Closes l.initial.state l.initial.log × (l.state ≡ renewed l.initial.state l.i) × (l.log ≡ late_up_to l.initial.state l.initial.log l.i)
