-- `printing::write_no` meets its contract.
use Rattle.std.proofs.Common.{refl, rules}
use Rattle.printing.specs.Text.{ascii, crlf, no_text}
use Rattle.printing.proofs.Chain.{puts_whole}
use Rattle.printing.proofs.write_no.Goals as goal

pub returns : goal.returns
unfolding no_text crlf ascii
returns c =
    let same = c.text.ensures.same_bytes in
    puts_whole c.text.ensures refl (search rules)
