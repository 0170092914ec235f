-- The number falls as it is divided by ten.
use Rattle.printing.proofs.Writer.+decimal.Given as goal

abbrev pub decreases-decimal : goal.decreases-decimal
decreases-decimal l = l.n
