-- A list that is written over from the front, and its laws.
use Rattle.std.specs.Prelude.{◌≡◌, length, replicate}
use Rattle.std.proofs.Math.Path.{refl, sym, ap}
use Rattle.std.proofs.Common.{ap₂, ◌∙◌, arith}
use mathlib.Core.List.{List}
use Rattle.std.proofs.Math.Logic.{⊎_elim}
use Prim.Native.Nat.{ℕ, zero, suc, ◌+◌, ◌≤◌, ◌<◌}
use Rattle.std.proofs.Math.Numerals.{add-one}
use Rattle.std.proofs.Math.ListN.{get_or, set, length-set}
use Rattle.std.proofs.Math.Seq.{get_or-set_same, get_or-set_other, set_out}
use Rattle.std.proofs.lemmas.List.{set-get_or}
use Rattle.basis.specs.Choose.{below_suc, le_or_lt}

-- the number at a place, 0 past the end
abbrev pub at : List ℕ → ℕ → ℕ
at l i = get_or l i 0

pub zeros : (n i : ℕ) → at (replicate n 0) i ≡ 0
zeros zero i = refl
zeros (suc n) zero = refl
zeros (suc n) (suc i) = zeros n i

-- what is as it was, written or not
pub as_it_was : (l : List ℕ) (k v : ℕ) → v ≡ at l k → l ≡ set l k v
as_it_was l k v e = sym (ap (set l k) e ∙ set-get_or l k 0)

-- The first n elements are f 0, f 1, .. and the others as they were.
unfoldable pub overwrite : {A : Type 0} → (ℕ → A) → ℕ → List A → List A
overwrite f zero old = old
overwrite f (suc n) old = set (overwrite f n old) n (f n)

module _ {A : Type 0} (f : ℕ → A) (old : List A) where
  pub overwrite-length : (n : ℕ) → length (overwrite f n old) ≡ length old
  unfolding overwrite
  overwrite-length zero = refl
  overwrite-length (suc n) = length-set (overwrite f n old) n (f n) ∙ overwrite-length n

  -- One place more, as a loop writes it.
  pub overwrite_next : (n : ℕ) (l : List A) (v : A) → l ≡ overwrite f n old → v ≡ f n → set l n v ≡ overwrite f (n + 1) old
  unfolding overwrite
  overwrite_next n l v el ev = rw add-one (ap₂ (λ (x : List A) (y : A). set x n y) el ev)

  pub overwritten_length : (n : ℕ) (l : List A) → l ≡ overwrite f n old → length l ≡ length old
  overwritten_length n l e = ap length e ∙ overwrite-length n

  -- From n on nothing changes,
  pub overwrite_kept : (d : A) (n i : ℕ) → n ≤ i → get_or (overwrite f n old) i d ≡ get_or old i d
  unfolding overwrite
  overwrite_kept d zero i l = refl
  overwrite_kept d (suc n) i l = get_or-set_other (overwrite f n old) n i (f n) d (λ e. omega arith) ∙ overwrite_kept d n i (omega arith)

  -- and below n, where the list reaches that far, stand the values of f.
  pub overwrite_at : (d : A) (n i : ℕ) → i < n → i < length old → get_or (overwrite f n old) i d ≡ f i
  unfolding overwrite
  overwrite_at d zero i l k = absurd (omega arith)
  overwrite_at d (suc n) i l k =
      ⊎_elim
      (λ (b : i < n). get_or-set_other (overwrite f n old) n i (f n) d (λ e. omega arith) ∙ overwrite_at d n i b k)
      (λ (e : i ≡ n).
      ap (λ (x : ℕ). get_or (overwrite f (suc n) old) x d) e ∙ get_or-set_same (overwrite f n old) n (f n) d (omega (arith, overwrite-length n)) ∙ sym (ap f e))
      (below_suc i n l)

-- It goes by the values below n alone, as far as the list reaches.
pub overwrite_inside : {A : Type 0} (f g : ℕ → A) (old : List A) (n : ℕ) → ((i : ℕ) → i < n → i < length old → f i ≡ g i) → overwrite f n old ≡ overwrite g n old
unfolding overwrite
overwrite_inside f g old zero h = refl
overwrite_inside f g old (suc n) h =
    let before = overwrite_inside f g old n (λ i l. h i (omega arith)) in
    ⊎_elim
    (λ (out : length old ≤ n). set_out _ n (f n) (omega (arith, overwrite-length f old n)) ∙ before ∙ sym (set_out _ n (g n) (omega (arith, overwrite-length g old n))))
    (λ (inside : n < length old). ap₂ (λ (l : List _) (x : _). set l n x) before (h n (omega arith) inside))
    (le_or_lt (length old) n)

pub overwrite_same : {A : Type 0} (f g : ℕ → A) (old : List A) (n : ℕ) → ((i : ℕ) → i < n → f i ≡ g i) → overwrite f n old ≡ overwrite g n old
overwrite_same f g old n h = overwrite_inside f g old n (λ i l _. h i l)

-- What is as it was need not be written.
pub overwrite_rest : {A : Type 0} (f : ℕ → A) (old : List A) (d : A) (k n : ℕ) → k ≤ n → ((j : ℕ) → k ≤ j → j < n → f j ≡ get_or old j d) → overwrite f n old ≡ overwrite f k old
unfolding overwrite
overwrite_rest f old d k zero l h = let e : 0 ≡ k = omega arith in ap (λ (x : ℕ). overwrite f x old) e
overwrite_rest f old d k (suc n) l h =
    ⊎_elim
    (λ (a : k ≤ n).
    ap (set (overwrite f n old) n) (h n a (omega arith) ∙ sym (overwrite_kept f old d n n (omega arith)))
    ∙ set-get_or (overwrite f n old) n d
    ∙ overwrite_rest f old d k n a (λ j lj ln. h j lj (omega arith)))
    (λ (b : n < k). let e : suc n ≡ k = omega arith in ap (λ (x : ℕ). overwrite f x old) e)
    (le_or_lt k n)
