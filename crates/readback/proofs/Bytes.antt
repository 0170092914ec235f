-- Bytes of a list by place, and the list itself.
use Rattle.std.proofs.Common.{◌≡◌, ℕ, zero, suc, ◌+◌, ◌<◌, ◌≤◌, List, [], ◌∷◌, ◌++◌, length, get_or, take, sym, refl, ap, ◌∙◌, ap₂, ⊎_elim, add-one, arith, take-suc}
use lib.ListN.{get_or-eq_default}
use Rattle.basis.specs.Choose.{le_or_lt}
use Rattle.readback.specs.Shapes.{byte_at, Shared}

-- What stands past the end does not matter inside,
pub inside_any : (l : List ℕ) (i d e : ℕ) → i < length l → get_or l i d ≡ get_or l i e
inside_any [] i d e h = absurd (omega arith)
inside_any (x ∷ l) zero d e h = refl
inside_any (x ∷ l) (suc i) d e h = inside_any l i d e (omega arith)

-- and is all there is past the end.
pub outside : (l : List ℕ) (i d : ℕ) → length l ≤ i → d ≡ get_or l i d
outside l i d h = sym (get_or-eq_default l d h)

-- ---- bytes that a text and a file begin with
pub record Agree (text file : List ℕ) (n : ℕ) : Type 0 where
  pub in_text : n ≤ length text
  pub in_file : n ≤ length file
  pub same : take n file ≡ take n text

pub agree_none : (text file : List ℕ) → Agree text file 0
agree_none text file = record { in_text = omega arith; in_file = omega arith; same = refl }

-- A byte of the text that stands past the end of the file would be 256.
inside_too : (file : List ℕ) (i b : ℕ) → byte_at file i ≡ b → b < 256 → i < length file
inside_too file i b e l =
    ⊎_elim (λ (h : length file ≤ i). absurd (omega (arith, e, outside file i 256 h))) (λ (h : i < length file). h) (le_or_lt (length file) i)

pub agree_more : (text file : List ℕ) (i : ℕ) → Agree text file i → i < length text → get_or text i 0 < 256 → byte_at file i ≡ byte_at text i → Agree text file (i + 1)
agree_more text file i a l byte e =
    let inside : i < length file = inside_too file i (byte_at text i) e (omega (arith, inside_any text i 0 256 l)) in
    record {
      in_text = omega arith;
      in_file = omega arith;
      same =
          ap (λ (n : ℕ). take n file) (add-one i)
          ∙ take-suc file i 256 inside
          ∙ ap₂ (λ (x : List ℕ) (b : ℕ). x ++ (b ∷ [])) a.same e
          ∙ sym (take-suc text i 256 l)
          ∙ ap (λ (n : ℕ). take n text) (sym (add-one i));
    }

pub agree_cut : (text file : List ℕ) (i : ℕ) → Agree text file i → (byte_at file i ≡ byte_at text i → ⊥) → Shared text file i
agree_cut text file i a differ = record { in_text = a.in_text; in_file = a.in_file; same = a.same; ends = λ _. differ }

-- The file ends there,
pub agree_end : (text file : List ℕ) (i : ℕ) → Agree text file i → i ≡ length file → i < length text → get_or text i 0 < 256 → Shared text file i
agree_end text file i a e l byte =
    agree_cut text file i a (λ same. omega (arith, same, outside file i 256 (omega arith), inside_any text i 0 256 l))

-- or has another byte.
pub agree_other : (text file : List ℕ) (i : ℕ) → Agree text file i → (i ≡ length file → ⊥) → i < length text → (get_or file i 0 ≡ get_or text i 0 → ⊥) → Shared text file i
agree_other text file i a inside l other =
    agree_cut text file i a (λ same. other (inside_any file i 0 256 (omega (arith, a.in_file)) ∙ same ∙ sym (inside_any text i 0 256 l)))
