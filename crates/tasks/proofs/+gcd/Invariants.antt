-- The second number falls as a remainder does.
use Rattle.tasks.proofs.+gcd.Given as goal

abbrev pub decreases-gcd : goal.decreases-gcd
decreases-gcd l = l.b
