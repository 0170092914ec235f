-- `verdict::walk::simulate` meets its contract: before slice t the arrays are the run of the slice rule, and nothing was late.
use Rattle.std.proofs.Common.{◌≡◌, ◌-◌, length}
use Rattle.tasks.specs.List.{plan_of}
use Rattle.verdict.specs.Walk.{Shown}
use Rattle.verdict.proofs.Cycle.{At}
use Rattle.verdict.proofs.walk.simulate.Given as goal

abbrev pub invariant-loop-t : goal.invariant-loop-t
invariant-loop-t l = (length l.entries ≡ length l.initial.entries) × ((S : Shown l.count l.cycle l.ranked) → At (plan_of S.list) l.ranked.order (length l.initial.entries) l.cycle l.t l.next l.jobs.lacks l.jobs.releases l.jobs.events l.jobs.ends l.entries)

abbrev pub decreases-loop-t : goal.decreases-loop-t
decreases-loop-t l = l.cycle - l.t
