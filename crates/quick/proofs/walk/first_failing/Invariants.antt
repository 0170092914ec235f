-- `quick::walk::first_failing` meets its contract: the tasks before place k pass.
use Rattle.quick.proofs.Walking.{Trying}
use Rattle.quick.proofs.walk.first_failing.Given as goal

abbrev pub invariant-loop-k : goal.invariant-loop-k
invariant-loop-k l = Trying l.ranked.periods l.ranked.dues l.ranked.runtimes l.count l.k l.inverses (record { point = l.point; asked = l.asked })
