-- Texts that are put one after the other.
use mathlib.Core.Path.{◌≡◌, refl, sym, ap, subst, ◌∙◌}
use mathlib.Core.List.{List, [], ◌∷◌, ◌++◌}
use Prim.Native.Nat.{ℕ, zero, suc, ◌+◌, ◌≤◌, ◌<◌}
use native.Mathlib.Omega.{arith}
use lib.ListN.{length, get_or, take, set, length-append}
use native.Mathlib.Numerals.{add-one}
use lib.Seq.{sets, length-sets, take-suc, length-take-le, take-length}
use Rattle.basis.specs.Bytes.{overwrite}
use Rattle.printing.specs.Written.{Written}
use Rattle.printing.specs.Shapes.{Room, Put, Puts}
use Rattle.printing.specs.declared.Writer.{Writer}

sets-append : (l : List ℕ) (i : ℕ) (a b : List ℕ) → sets l i (a ++ b) ≡ sets (sets l i a) (i + length a) b
sets-append l i [] b = ap (λ (k : ℕ). sets l k b) (omega arith)
sets-append l i (x ∷ a) b = sets-append (set l i x) (suc i) a b ∙ ap (λ (k : ℕ). sets (sets (set l i x) (suc i) a) k b) (omega arith)

pub put_nothing : (at : ℕ) (old : List ℕ) → Put [] at old old at
put_nothing at old = record { next = omega arith; bytes = refl }

-- One text, and at the place after it another, is both together.
pub chain : {a b old mid new : List ℕ} {at r q : ℕ} → Put a at old mid r → Put b r mid new q → Put (a ++ b) at old new q
chain {a} {b} {old} {mid} {new} {at} {r} {q} p s = record {
  next = omega (arith, p.next, s.next, length-append a b);
  bytes = s.bytes ∙ ap (λ (l : List ℕ). sets l r b) p.bytes ∙ ap (λ (k : ℕ). sets (sets old at a) k b) p.next ∙ sym (sets-append old at a b);
}

-- Room for both is room for each.
pub room_first : (a b : List ℕ) {at : ℕ} → Room (a ++ b) at → Room a at
room_first a b h = record { room = omega (arith, h.room, length-append a b) }

pub room_next : (a b : List ℕ) {old mid : List ℕ} {at r : ℕ} → Room (a ++ b) at → Put a at old mid r → Room b r
room_next a b h p = record { room = omega (arith, h.room, p.next, length-append a b) }

pub put-length : {text old new : List ℕ} {at r : ℕ} → Put text at old new r → length new ≡ length old
put-length {text} {old} {at = at} p = ap length p.bytes ∙ length-sets old at text

-- ---- from the first byte on
over_prefix : (text old : List ℕ) (n : ℕ) → n ≤ length text → sets old 0 (take n text) ≡ overwrite (λ i. get_or text i 0) n old
unfolding overwrite
over_prefix text old zero l = refl
over_prefix text old (suc n) l =
    ap (sets old 0) (take-suc text n 0 l)
    ∙ sets-append old 0 (take n text) (get_or text n 0 ∷ [])
    ∙ ap (λ (k : ℕ). set (sets old 0 (take n text)) k (get_or text n 0)) (omega (arith, length-take-le n text (omega arith)))
    ∙ ap (λ (m : List ℕ). set m n (get_or text n 0)) (over_prefix text old n (omega arith))

pub put_whole : {text old new : List ℕ} {r : ℕ} → Put text 0 old new r → Written text old new r
put_whole {text} {old} p = record {
  whole = omega (arith, p.next);
  bytes = p.bytes ∙ ap (sets old 0) (sym (take-length text)) ∙ over_prefix text old (length text) (omega arith);
}

-- ---- byte by byte
pub put_more : (text : List ℕ) (i : ℕ) {old mid new : List ℕ} {at r q : ℕ} → Put (take i text) at old mid r → Put (get_or text i 0 ∷ []) r mid new q → i < length text → Put (take (i + 1) text) at old new q
put_more text i p s l = rw (add-one, take-suc text i 0 l) (chain p s)

-- ---- by a writer
pub puts_nothing : (w : Writer) → Puts [] w w
puts_nothing w = record { same_bytes = refl; put = put_nothing w.at w.out.now }

pub puts_chain : {a b : List ℕ} {old mid new : Writer} → Puts a old mid → Puts b mid new → Puts (a ++ b) old new
puts_chain p s = record { same_bytes = s.same_bytes ∙ p.same_bytes; put = chain p.put s.put }

pub puts_room : (a b : List ℕ) {old mid : Writer} → Room (a ++ b) old.at → Puts a old mid → Room b mid.at
puts_room a b h p = room_next a b h p.put

pub puts_more : (text : List ℕ) (i : ℕ) {old mid new : Writer} → Puts (take i text) old mid → Puts (get_or text i 0 ∷ []) mid new → i < length text → Puts (take (i + 1) text) old new
puts_more text i p s l = record { same_bytes = s.same_bytes ∙ p.same_bytes; put = put_more text i p.put s.put l }

-- From the first byte on, where the lent bytes end as those of the writer.
pub puts_whole : {text : List ℕ} {old new : Writer} {bytes : List ℕ} → Puts text old new → old.at ≡ 0 → bytes ≡ new.out.now → Written text old.out.now bytes new.at
puts_whole {text} {old} {new} p start e =
    put_whole (subst (λ (l : List ℕ). Put text 0 old.out.now l new.at) (sym e) (subst (λ (k : ℕ). Put text k old.out.now new.out.now new.at) start p.put))
