-- What writing a text into lent bytes comes to.
use Rattle.std.specs.Prelude.{◌≡◌, List, ℕ, ◌≤◌, length, get_or, take}
use Rattle.std.proofs.Common.{sym, ap, ◌∙◌, arith, length-take-le, get_or-take, ext_get_or}
use Rattle.basis.specs.Bytes.{overwrite, overwrite_at, overwritten_length}

-- The text stands in the lent bytes from the first one on, as much of it as there is room for, and the bytes after it are as
-- they were. The answer is the length of the whole text, so above the room exactly if the text was cut.
pub record Written (text old new : List ℕ) (r : ℕ) : Type 0 where
  pub whole : r ≡ length text
  pub bytes : new ≡ overwrite (λ i. get_or text i 0) (length text) old

-- It leaves one answer, and one value for each byte.
pub written_one : {text old new new' : List ℕ} {r r' : ℕ} → Written text old new r → Written text old new' r' → (r ≡ r') × (new ≡ new')
written_one a b = (a.whole ∙ sym b.whole, a.bytes ∙ sym b.bytes)

-- Where there is room, the first so many bytes are the text.
pub written_text : {text old new : List ℕ} {r : ℕ} → Written text old new r → r ≤ length old → take r new ≡ text
written_text {text} {old} {new} {r} h room =
    let f : ℕ → ℕ = λ i. get_or text i 0 in
    let n = overwritten_length f old (length text) new h.bytes in
    let len = length-take-le r new (omega arith) in
    ext_get_or 0 (take r new) text (omega (arith, h.whole))
    (λ i l.
    get_or-take r new i 0 (omega arith)
    ∙ ap (λ (b : List ℕ). get_or b i 0) h.bytes
    ∙ overwrite_at f old 0 (length text) i (omega (arith, h.whole)) (omega arith))
