-- `explain::candidate::leads` meets its contract: from slice t on every slice agrees.
use Rattle.explain.proofs.Leading.{AgreesFrom}
use Rattle.explain.proofs.candidate.leads.Given as goal

abbrev pub invariant-loop-t : goal.invariant-loop-t
invariant-loop-t l = AgreesFrom l.list l.run l.ranked.order l.t l.starts l.got
