-- `records::read_list` meets its contract: what is left to read comes to the same answer as the whole input.
use lib.ListN.{length}
use Rattle.records.proofs.Turns.{Reached}
use Rattle.records.proofs.read_list.Given as goal

abbrev pub invariant-loop-rest : goal.invariant-loop-rest
invariant-loop-rest l = Reached l.input l.list l.line l.rest

abbrev pub decreases-loop-rest : goal.decreases-loop-rest
decreases-loop-rest l = length l.rest
