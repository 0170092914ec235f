-- `with_word` meets its contract: byte by byte.
use native.Mathlib.Omega.{arith}
use Rattle.checksum.proofs.Words.{word_bytes}
use Rattle.checksum.proofs.with_word.Goals as goal

pub returns : goal.returns
returns c = let e = c.with_bytes.ensures in cc (word_bytes c.args.h c.args.w (omega arith))
