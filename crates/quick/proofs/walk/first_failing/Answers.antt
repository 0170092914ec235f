-- `quick::walk::first_failing` meets its contract: the tasks before place k pass.
use Rattle.std.proofs.Common.{rules, ◌≡◌, refl, min, arith}
use Rattle.basis.specs.Bytes.{at}
use Rattle.quick.proofs.Walking.{trying_none, first_round, asked_has_room, its_turn, trying_more, first_found_lem, all_pass}
use Rattle.quick.proofs.walk.first_failing.Goals as goal

pub loop-k-init : goal.loop-k-init
loop-k-init c = trying_none _ _ _ _ c.requires.0

pub overflow_add-first : goal.overflow_add-first
overflow_add-first c = omega (arith, asked_has_room _ _ _ _ c.requires.0 _ _ _ c.loop-k.invariant c.loop-k-test.true)

pub try_task-requires : goal.try_task-requires
try_task-requires c =
    let least : c.min.result ≡ min c.loop-k.point (at c.args.ranked.now.periods c.loop-k.k) = search rules in (
      rw c.inverse_of.ensures (its_turn _ _ _ _ c.requires.0 _ _ _ c.loop-k.invariant c.loop-k-test.true _ least refl),
      first_round _ _ _ _ c.requires.0 _ _ c.loop-k-test.true c.requires.1,
    )

pub returns-in_default : goal.returns-in_default
returns-in_default c = first_found_lem _ _ _ _ c.requires.0 _ _ _ c.loop-k.invariant c.loop-k-test.true (rw c.in_default.is at c.try_task.ensures)

pub loop-k-preserved : goal.loop-k-preserved
loop-k-preserved c = rw c.inverse_of.ensures (trying_more _ _ _ _ c.requires.0 _ _ _ c.loop-k.invariant c.loop-k-test.true _ (rw c.in-Some.is at c.try_task.ensures))

pub returns : goal.returns
returns c = all_pass _ _ _ _ c.requires.0 _ _ _ c.loop-k.invariant c.loop-k-test.false
