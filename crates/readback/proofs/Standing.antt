-- A line that stands at a place of a file, whole or cut short, as a part of what is left of the file there.
use Rattle.std.proofs.Common.{◌≡◌, ℕ, zero, suc, ◌+◌, ◌<◌, ◌≤◌, List, [], ◌∷◌, ◌++◌, length, get_or, take, drop, sym, refl, ap, ◌∙◌, subst, ⊎_elim, add-one, arith, length-drop, take-append-drop, get_or-drop, get_or-take, take-take, drop-drop}
use lib.Seq.{take-length}
use Rattle.basis.specs.Choose.{le_or_lt}
use Rattle.vcd.specs.Beginnings.{Stuck}
use Rattle.readback.specs.Shapes.{byte_at, place, Same, Cut}
use Rattle.readback.proofs.Bytes.{Agree, agree_none, agree_more}

place_is : (from n : ℕ) → place from n ≡ from + n
unfolding place
place_is from zero = omega arith
place_is from (suc n) = refl

-- All bytes are below 256.
unfoldable pub Below : List ℕ → Type 0
Below [] = ◌≡◌ {A = ℕ} 0 0
Below (b ∷ l) = (b < 256) × Below l

below_at : (l : List ℕ) → Below l → (i : ℕ) → get_or l i 0 < 256
unfolding Below
below_at [] h i = omega arith
below_at (b ∷ l) h zero = h.0
below_at (b ∷ l) h (suc i) = below_at l h.1 i

agree_less : (text file : List ℕ) (m n : ℕ) → m ≤ n → Agree text file n → Agree text file m
agree_less text file m n l a = record {
  in_text = omega (arith, a.in_text);
  in_file = omega (arith, a.in_file);
  same = sym (take-take m n file l) ∙ ap (take m) a.same ∙ take-take m n text l;
}

module _ (file : List ℕ) (from : ℕ) where
  left_at : (n : ℕ) → byte_at (drop from file) n ≡ byte_at file (place from n)
  left_at n = get_or-drop from file n 256 ∙ ap (byte_at file) (sym (place_is from n))

  -- By bytes or as lists, it is the same.
  same_agree : (l : List ℕ) → Below l → (n : ℕ) → n ≤ length l → Same file from l n → Agree l (drop from file) n
  unfolding Same
  same_agree l small zero h s = agree_none l (drop from file)
  same_agree l small (suc n) h s =
      subst (Agree l (drop from file)) (add-one n) (agree_more l (drop from file) n (same_agree l small n (omega arith) s.0) h (below_at l small n) (left_at n ∙ s.1))

  agree_same : (l : List ℕ) (n : ℕ) → Agree l (drop from file) n → Same file from l n
  unfolding Same
  agree_same l zero a = refl
  agree_same l (suc n) a = (
    agree_same l n (agree_less l (drop from file) n (suc n) (omega arith) a),
    sym (left_at n)
        ∙ sym (get_or-take (suc n) (drop from file) n 256 (omega arith))
        ∙ ap (λ (x : List ℕ). byte_at x n) a.same
        ∙ get_or-take (suc n) l n 256 (omega arith),
  )

  -- A whole line is a part of the file.
  pub line_stands : (l : List ℕ) → Below l → Same file from l (length l) → drop from file ≡ l ++ drop (from + length l) file
  line_stands l small s =
      let a = same_agree l small (length l) (omega arith) s in
      sym (take-append-drop (length l) (drop from file))
      ∙ ap (λ (x : List ℕ). x ++ drop (length l) (drop from file)) (a.same ∙ take-length l)
      ∙ ap (λ (x : List ℕ). l ++ x) (drop-drop (length l) from file)

  pub line_inside : (l : List ℕ) → Below l → from ≤ length file → Same file from l (length l) → from + length l ≤ length file
  line_inside l small h s = let a = same_agree l small (length l) (omega arith) s in omega (arith, a.in_file, length-drop from file)

-- The line of some number of a kind.
abbrev pub LineOf : (ℕ → List ℕ) → (ℕ → Type 0) → List ℕ → Type 0
LineOf line Is w = (x : ℕ) × Is x × (w ≡ line x)

-- Lines of one length.
pub record Even (line : ℕ → List ℕ) (size : ℕ) : Type 0 where
  pub long : (x : ℕ) → length (line x) ≡ size
  pub small : (x : ℕ) → Below (line x)

module _ (line : ℕ → List ℕ) (Is : ℕ → Type 0) (size : ℕ) (even : Even line size) (file : List ℕ) (from n : ℕ) (short : n < size) (cut : Cut line Is file from n) where
  at_most : (m x : ℕ) → Is x → Agree (line x) (drop from file) m → m ≤ n
  at_most m x i a =
      ⊎_elim
      (λ (l : m ≤ n). l)
      (λ (l : n < m). absurd (cut.none x i (agree_same file from (line x) (suc n) (agree_less (line x) (drop from file) (suc n) m l a))))
      (le_or_lt m n)

  -- A line that is cut short is as much as stands of any.
  pub cut_stuck : Stuck (LineOf line Is) (drop from file) n
  cut_stuck =
      let a = same_agree file from (line cut.some) (even.small cut.some) n (omega (arith, even.long cut.some)) cut.same in
      record {
        begun = record { text = line cut.some; of_form = (cut.some, cut.is, refl); in_file = a.in_file; in_text = a.in_text; same = a.same };
        no_further = λ m h.
            let x = h.of_form in
            at_most m x.0 x.1 (record { in_text = omega (arith, h.in_text, ap length x.2); in_file = h.in_file; same = h.same ∙ ap (take m) x.2 });
        none = λ x.
            let e = x.2 in
            let l : size ≤ n = at_most size x.0 x.1
            (record { in_text = omega (arith, even.long x.0); in_file = omega (arith, even.long x.0, ap length e); same = ap (take size) e }) in
            omega arith;
      }
