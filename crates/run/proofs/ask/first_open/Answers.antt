-- `run::ask::first_open` meets its contract.
use Rattle.std.proofs.Common.{◌≡◌, refl, arith}
use Rattle.plan.specs.Plan.{first}
use Rattle.run.specs.State.{due_of, job_of}
use Rattle.run.specs.Who.{of_entry, first_open}
use Rattle.run.proofs.Turns.{scanned_next, one_more_scanned}
use Rattle.run.proofs.ask.first_open.Goals as goal

pub loop-i-init : goal.loop-i-init
unfolding first of_entry
loop-i-init c = (omega arith, refl)

pub better-best-requires : goal.better-best-requires
better-best-requires c = (omega (arith, c.requires), record { entry = _; is = c.loop-i.invariant.1; to = omega (arith, c.requires, c.loop-i.invariant.0) })

pub loop-i-preserved : goal.loop-i-preserved
loop-i-preserved c = (omega (arith, scanned_next _ _ _ c.loop-i.invariant.0), one_more_scanned _ _ _ _ (c.better-best.ensures _ c.loop-i.invariant.1))

pub returns : goal.returns
unfolding first_open due_of job_of
returns c = let end : c.loop-i.i ≡ c.args.state.now.count = omega arith in
    rw end at c.loop-i.invariant.1
