-- `explain::candidate::give` meets its contract: the needs of the first i tasks are given.
use Rattle.std.proofs.Common.{◌≡◌, length}
use Rattle.needs.specs.Explained.{given_in}
use Rattle.tasks.specs.List.{plan_of}
use Rattle.tasks.specs.Bounds.{cycle_of, job_sum}
use Rattle.explain.proofs.Giving.{GivenTo}
use Rattle.explain.proofs.candidate.give.Given as goal

abbrev pub invariant-loop-i : goal.invariant-loop-i
invariant-loop-i l = (l.from ≡ job_sum l.list.tasks (cycle_of l.list) l.i) × (length l.needs ≡ length l.initial.needs) × GivenTo l.list (given_in (plan_of l.list) l.run) l.i l.initial.needs l.needs
