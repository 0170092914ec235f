-- `readback::lines::whole_time` meets its contract.
use Rattle.std.proofs.lemmas.Option.{IfSome_then}
use Rattle.readback.proofs.Whole.{time_stands}
use Rattle.readback.proofs.lines.whole_time.Goals as goal

pub returns : goal.returns
returns c =
    IfSome_then c.four_digits.result c.four_digits.ensures
    (λ time digits. time_stands _ _ _ time c.if-from-file.false c.if-file-from-ne35.false c.if-file-from-ne10.false c.word_at.ensures digits)
