-- `viewer::fit` meets its contract.
use Rattle.basis.specs.Choose.{choose, cases}
use Rattle.explain.specs.Seen.{refused_by, run_refusal}
use Rattle.viewer.specs.Shapes.{fitting}
use Rattle.viewer.proofs.fit.Goals as goal

pub returns-then-length-room : goal.returns-then-length-room
unfolding fitting
returns-then-length-room c = search cases depth 12

pub returns-else-length-room : goal.returns-else-length-room
unfolding fitting refused_by run_refusal choose
returns-else-length-room c = search cases depth 12
