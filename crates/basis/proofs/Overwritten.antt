-- A list written over from the front by what stands in another: how `copy_from_slice` and `fill` leave one.
use Rattle.std.specs.Prelude.{◌≡◌, length, take, drop, ◌++◌, replicate}
use Rattle.std.proofs.Math.Path.{sym, ap}
use Rattle.std.proofs.Common.{◌∙◌, arith}
use mathlib.Core.List.{List}
use Rattle.std.proofs.Math.Logic.{⊎_elim}
use Prim.Native.Nat.{ℕ, ◌-◌, ◌≤◌, ◌<◌, ◌+◌}
use Rattle.std.proofs.Math.ListN.{get_or}
use Rattle.std.proofs.lemmas.List.{ext_get_or, get_or_append_left, get_or-drop, length-append, length-drop, length-replicate, get_or-replicate, length-take, get_or-take}
use Rattle.std.proofs.Math.Seq.{get_or-append_right}
use Rattle.basis.specs.Bytes.{overwrite, overwrite-length, overwrite_at, overwrite_kept}
use Rattle.basis.specs.Choose.{le_or_lt}

module _ {A : Type 0} (f : ℕ → A) (d : A) (xs old : List A) (n : ℕ) (long : length xs ≡ n) (fits : n ≤ length old) where
  as_long : length (xs ++ drop n old) ≡ length old
  as_long = omega (arith, length-append xs (drop n old), length-drop n old)

  back : (i : ℕ) → n ≤ i → n + (i - length xs) ≡ i
  back i b = omega (arith, long)

  pub overwritten_front : ((i : ℕ) → i < n → get_or xs i d ≡ f i) → xs ++ drop n old ≡ overwrite f n old
  overwritten_front same =
      ext_get_or d (xs ++ drop n old) (overwrite f n old)
      (as_long ∙ sym (overwrite-length f old n))
      (λ i l.
      ⊎_elim
      (λ (b : n ≤ i). get_or-append_right xs (drop n old) i d (omega arith) ∙ get_or-drop n old (i - length xs) d ∙ ap (λ (j : ℕ). get_or old j d) (back i b) ∙ sym (overwrite_kept f old d n i b))
      (λ (b : i < n). get_or_append_left xs (drop n old) d i (omega arith) ∙ same i b ∙ sym (overwrite_at f old d n i b (omega arith)))
      (le_or_lt n i))

-- `old[..n].copy_from_slice(&xs[..n])`: what it leaves before the rest is the first n elements of xs,
pub copied_front : {A : Type 0} (d : A) (xs old front : List A) (n : ℕ) → front ≡ take n xs → n ≤ length xs → n ≤ length old → front ++ drop n old ≡ overwrite (λ i. get_or xs i d) n old
copied_front d xs old front n is reaches fits =
    overwritten_front (λ i. get_or xs i d) d front old n (omega (arith, ap length is, length-take n xs)) fits (λ i l. ap (λ (x : List _). get_or x i d) is ∙ get_or-take n xs i d l)

-- and `old[..n].fill(v)`: v, n times.
pub filled_front : {A : Type 0} (v : A) (old front : List A) (n : ℕ) → front ≡ replicate (length (take n old)) v → n ≤ length old → front ++ drop n old ≡ overwrite (λ _. v) n old
filled_front v old front n is fits =
    overwritten_front
    (λ _. v) v front old n
    (ap length is ∙ length-replicate (length (take n old)) v ∙ length_front)
    fits
    (λ i l. ap (λ (x : List _). get_or x i v) is ∙ get_or-replicate (length (take n old)) i v v (omega (arith, length_front)))
  where
    length_front : length (take n old) ≡ n
    length_front = omega (arith, length-take n old)
