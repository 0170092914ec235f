-- `dump::write` meets its contract.
use Rattle.dump.proofs.Whole.{wrote_all, wrote_nothing}
use Rattle.dump.proofs.write.Goals as goal

pub returns-then-out-needed : goal.returns-then-out-needed
returns-then-out-needed c = wrote_nothing _ c.min-slices.ensures c.text_length-needed.ensures c.if-out-needed.true

pub returns : goal.returns
returns c = wrote_all _ c.min-slices.ensures c.text_length-needed.ensures c.if-out-needed.false c.put_run.ensures
