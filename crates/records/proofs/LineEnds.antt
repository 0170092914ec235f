-- The lines of an input as a function, and that the grammar's lines are exactly these.
use Rattle.std.specs.Prelude.{◌≡◌, refl, Bool, true, false, List, [], ◌∷◌, ◌++◌, ℕ, zero, suc, ◌≤◌, eqb, length, get_or, drop}
use Rattle.std.proofs.Common.{sym, ap, ap₂, ◌∙◌, true≢false, ⊎_elim, arith, eqb-true}
use Rattle.basis.specs.Choose.{bool_cases, both_true}
use Rattle.records.specs.Grammar.{CR, LF, NoPair, Lines, no_more, unclosed, closed}
use Rattle.records.specs.LineEnds.{is_pair, lines_of, push}

-- A pair ends the line, and any other byte belongs to it.
pub lines_pair : (b : ℕ) (bs : List ℕ) → is_pair b (get_or bs 0 0) ≡ true → lines_of (b ∷ bs) ≡ [] ∷ lines_of (drop 1 bs)
unfolding lines_of is_pair
lines_pair b [] t = absurd (true≢false (sym t))
lines_pair b (c ∷ rest) t = ap (λ (x : Bool). elim x as (λ y. List (List ℕ)) [ true ↦ [] ∷ lines_of rest | false ↦ push b (lines_of (c ∷ rest)) ]) t

pub lines_byte : (b : ℕ) (bs : List ℕ) → is_pair b (get_or bs 0 0) ≡ false → lines_of (b ∷ bs) ≡ push b (lines_of bs)
unfolding lines_of
lines_byte b [] f = refl
lines_byte b (c ∷ rest) f = ap (λ (x : Bool). elim x as (λ y. List (List ℕ)) [ true ↦ [] ∷ lines_of rest | false ↦ push b (lines_of (c ∷ rest)) ]) f

-- ---- they are the grammar's lines
pair_cons : (b : ℕ) (l : List ℕ) → NoPair l → (b ≡ CR → get_or l 0 0 ≡ LF → ⊥) → NoPair (b ∷ l)
unfolding NoPair
pair_cons b l np h zero = h
pair_cons b l np h (suc i) = np i

no_pair_in_none : NoPair []
unfolding NoPair
no_pair_in_none i = λ e _. omega arith

before_pair : (b : ℕ) (l rest : List ℕ) → (b ≡ CR → get_or (l ++ CR ∷ rest) 0 0 ≡ LF → ⊥) → b ≡ CR → get_or l 0 0 ≡ LF → ⊥
before_pair b [] rest h e z = omega arith
before_pair b (x ∷ l) rest h e z = h e z

push_lines : (b : ℕ) {rest : List ℕ} {ls : List (List ℕ)} → Lines rest ls → (b ≡ CR → get_or rest 0 0 ≡ LF → ⊥) → Lines (b ∷ rest) (push b ls)
unfolding push
push_lines b no_more h = unclosed (pair_cons b [] no_pair_in_none h) (omega arith)
push_lines b (unclosed {line = l} np pos) h = unclosed (pair_cons b l np h) (omega arith)
push_lines b (closed {line = l} {rest = rest} np L) h = closed {line = b ∷ l} (pair_cons b l np (before_pair b l (LF ∷ rest) h)) L

-- what the test tells
is_pair_lem : (b c : ℕ) → is_pair b c ≡ true → (b ≡ CR) × (c ≡ LF)
unfolding is_pair
is_pair_lem b c t = let e = (both_true (eqb c LF) (eqb b CR)).0 t in (eqb-true b CR e.1, eqb-true c LF e.0)

not_pair : (b c : ℕ) → is_pair b c ≡ false → b ≡ CR → c ≡ LF → ⊥
unfolding is_pair
not_pair b c f e z = true≢false (sym (ap₂ is_pair e z) ∙ f)

no_pair : (b c : ℕ) → (b ≡ CR → c ≡ LF → ⊥) → is_pair b c ≡ false
no_pair b c h =
    ⊎_elim (λ (t : is_pair b c ≡ true). let e = is_pair_lem b c t in absurd (h e.0 e.1)) (λ (f : is_pair b c ≡ false). f) (bool_cases (is_pair b c))

pub lines_of_lem : (bs : List ℕ) → Lines bs (lines_of bs)
unfolding lines_of
lines_of_lem [] = no_more
lines_of_lem (b ∷ []) = push_lines b no_more (λ _ z. omega arith)
lines_of_lem (b ∷ c ∷ rest) =
    ⊎_elim
    (λ (t : is_pair b c ≡ true).
    let e = is_pair_lem b c t in
    rw (lines_pair b (c ∷ rest) t, e.0, e.1) (closed {line = []} no_pair_in_none (lines_of_lem rest)))
    (λ (f : is_pair b c ≡ false). rw (lines_byte b (c ∷ rest) f) (push_lines b (lines_of_lem (c ∷ rest)) (not_pair b c f)))
    (bool_cases (is_pair b c))

-- ---- and no others are
pair_tail : (b : ℕ) (l : List ℕ) → NoPair (b ∷ l) → NoPair l
unfolding NoPair
pair_tail b l np i = np (suc i)

pair_next : (b : ℕ) (l rest : List ℕ) → NoPair (b ∷ l) → b ≡ CR → get_or (l ++ CR ∷ rest) 0 0 ≡ LF → ⊥
unfolding NoPair
pair_next b [] rest np e z = omega arith
pair_next b (c ∷ l) rest np e z = np 0 e z

line_closed : (l rest : List ℕ) → NoPair l → lines_of (l ++ CR ∷ LF ∷ rest) ≡ l ∷ lines_of rest
unfolding push is_pair
line_closed [] rest np = lines_pair CR (LF ∷ rest) refl
line_closed (b ∷ l) rest np =
    lines_byte b (l ++ CR ∷ LF ∷ rest) (no_pair b _ (pair_next b l (LF ∷ rest) np)) ∙ ap (push b) (line_closed l rest (pair_tail b l np))

line_unclosed : (l : List ℕ) → NoPair l → 1 ≤ length l → lines_of l ≡ l ∷ []
unfolding lines_of push NoPair
line_unclosed [] np pos = absurd (omega arith)
line_unclosed (b ∷ []) np pos = refl
line_unclosed (b ∷ c ∷ l) np pos =
    lines_byte b (c ∷ l) (no_pair b c (np 0)) ∙ ap (push b) (line_unclosed (c ∷ l) (pair_tail b (c ∷ l) np) (omega arith))

pub lines_only : {input : List ℕ} {ls : List (List ℕ)} → Lines input ls → ls ≡ lines_of input
unfolding lines_of
lines_only no_more = refl
lines_only (unclosed {line = l} np pos) = sym (line_unclosed l np pos)
lines_only (closed {line = l} {rest = rest} np L) = ap (λ (x : List (List ℕ)). l ∷ x) (lines_only L) ∙ sym (line_closed l rest np)
