-- `explain::candidate::go_back` meets its contract: the places before k have gone back.
use Rattle.explain.specs.Shapes.{Back}
use Rattle.explain.proofs.candidate.go_back.Given as goal

abbrev pub invariant-loop-k : goal.invariant-loop-k
invariant-loop-k l = Back l.ranked.order l.ranked.periods l.ranked.runtimes l.initial.starts l.initial.got l.k l.t l.entry l.starts l.got l.fit
