-- A number's bytes, lowest first, are those of its words.
use mathlib.Core.Path.{◌≡◌, refl, ap, ◌∙◌}
use Prim.Native.Nat.{ℕ, ◌/◌, ◌%◌, ◌<◌}
use native.Mathlib.Omega.{arith}
use Rattle.std.specs.Int.{w32, w64, to_le_bytes}
use Rattle.checksum.specs.Checksum.{mix, over_bytes, over_word}

four : (h a b c d a' b' c' d' : ℕ) → a ≡ a' → b ≡ b' → c ≡ c' → d ≡ d' → mix (mix (mix (mix h a) b) c) d ≡ mix (mix (mix (mix h a') b') c') d'
four h a b c d a' b' c' d' ea eb ec ed = rw (ea, eb, ec, ed) refl

pub word_bytes : (h w : ℕ) → w < 4294967296 → over_bytes h (to_le_bytes w32 w) 4 ≡ over_word h w
unfolding over_bytes over_word
word_bytes h w fits = four h _ _ _ _ _ _ _ _ (omega arith) refl refl (omega arith)

pub count_bytes : (h n : ℕ) → n < 18446744073709551616 → over_bytes h (to_le_bytes w64 n) 8 ≡ over_word (over_word h (n % 4294967296)) (n / 4294967296)
unfolding over_bytes over_word
count_bytes h n fits =
    four _ _ _ _ _ _ _ _ _ (omega arith) (omega arith) (omega arith) (omega arith)
    ∙ ap (λ (x : ℕ). mix (mix (mix (mix x (n / 4294967296 % 256)) (n / 4294967296 / 256 % 256)) (n / 4294967296 / 65536 % 256)) (n / 4294967296 / 16777216))
    (four h _ _ _ _ _ _ _ _ (omega arith) (omega arith) (omega arith) (omega arith))
