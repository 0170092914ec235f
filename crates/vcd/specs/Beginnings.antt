-- The longest beginning that a file shares with a text of some form, found piece by piece.
use Rattle.std.specs.Prelude.{◌≡◌, refl, List, [], ◌++◌, ◌⊎◌, ℕ, ◌+◌, ◌-◌, ◌≤◌, ◌<◌, length, take, drop}
use Rattle.std.proofs.Common.{sym, ap, subst, ◌∙◌, ⊎_elim, arith, le_antisymm, length-append, length-drop, take-append-drop, take-take}
use Rattle.std.proofs.Math.Seq.{take-append-add, take-append_seam}
use Rattle.std.proofs.lemmas.List.{take-append-le}
use Rattle.basis.specs.Choose.{le_or_lt}
use Rattle.vcd.specs.Form.{vcd_text, Longest}
use Rattle.vcd.specs.Follows.{Form, cancel}

-- The first n bytes are also those of some text of the form K.
pub record Begun (K : List ℕ → Type 0) (file : List ℕ) (n : ℕ) : Type 0 where
  pub text : List ℕ
  pub of_form : K text
  pub in_file : n ≤ length file
  pub in_text : n ≤ length text
  pub same : take n file ≡ take n text

-- No text of the form K has more than the first n bytes of the file, and the file is none.
pub record Stuck (K : List ℕ → Type 0) (file : List ℕ) (n : ℕ) : Type 0 where
  pub begun : Begun K file n
  pub no_further : (m : ℕ) → Begun K file m → m ≤ n
  pub none : K file → ⊥

-- ---- a part that stands
module _ (part : List ℕ) (K After : List ℕ → Type 0) (only : (w : List ℕ) → K (part ++ w) → After w) where
  -- What shares more than the part begins with it.
  behind : (file : List ℕ) (m : ℕ) → Begun K (part ++ file) (length part + m) → Begun After file m
  behind file m b =
      let p = length part in
      let text = b.text in
      let rest = drop p text in
      let begins : take p text ≡ part =
      sym (take-take p (p + m) text (omega arith)) ∙ ap (take p) (sym b.same) ∙ take-take p (p + m) (part ++ file) (omega arith) ∙ take-append_seam part file in
      let split : text ≡ part ++ rest = sym (take-append-drop p text) ∙ ap (λ (l : List ℕ). l ++ rest) begins in
      record {
        text = rest;
        of_form = only rest (subst K split b.of_form);
        in_file = omega (arith, b.in_file, length-append part file);
        in_text = omega (arith, b.in_text, length-drop p text);
        same = cancel part (take m file) (take m rest) (sym (take-append-add part file m) ∙ b.same ∙ ap (take (p + m)) split ∙ take-append-add part rest m);
      }

  -- Stuck behind the part is stuck.
  pub stuck_behind : ((w : List ℕ) → After w → K (part ++ w)) → (file : List ℕ) (n : ℕ) → Stuck After file n → Stuck K (part ++ file) (length part + n)
  stuck_behind always file n s =
      let b = s.begun in
      record {
        begun = record {
          text = part ++ b.text;
          of_form = always b.text b.of_form;
          in_file = omega (arith, b.in_file, length-append part file);
          in_text = omega (arith, b.in_text, length-append part b.text);
          same = take-append-add part file n ∙ ap (λ (l : List ℕ). part ++ l) b.same ∙ sym (take-append-add part b.text n);
        };
        no_further = λ m h.
            ⊎_elim
            (λ (l : m ≤ length part). omega arith)
            (λ (l : length part < m).
            let e : m ≡ length part + (m - length part) = omega arith in
            omega (arith, s.no_further (m - length part) (behind file (m - length part) (subst (Begun K (part ++ file)) e h))))
            (le_or_lt m (length part));
        none = λ k. s.none (only file k);
      }

-- ---- a line that does not stand
-- A text of the form K is empty, or begins with a line of the form L, and each such line begins one. What is stuck within the line
-- is stuck.
pub stuck_within : (L K : List ℕ → Type 0) (size : ℕ)
    → ((w : List ℕ) → L w → (length w ≡ size) × (u : List ℕ) × K (w ++ u))
    → ((w : List ℕ) → K w → (w ≡ []) ⊎ ((line : List ℕ) × (u : List ℕ) × L line × (w ≡ line ++ u)))
    → (file : List ℕ) (n : ℕ) → n < size → Stuck L file n → (file ≡ [] → K file → ⊥) → Stuck K file n
stuck_within L K size always only file n short s not-empty =
    let b = s.begun in
    let goes_on = always b.text b.of_form in
    record {
      begun = record {
        text = b.text ++ goes_on.1;
        of_form = goes_on.2;
        in_file = b.in_file;
        in_text = omega (arith, b.in_text, length-append b.text goes_on.1);
        same = b.same ∙ sym (take-append-le n b.text goes_on.1 b.in_text);
      };
      no_further = λ m h.
          ⊎_elim
          (λ (e : h.text ≡ []). let z : length h.text ≡ 0 = ap length e in omega (arith, h.in_text))
          (λ x. longer m x.0 x.1 x.2 h x.3)
          (only h.text h.of_form);
      none = λ k.
          ⊎_elim (λ (e : file ≡ []). not-empty e k)
          (λ x. let line = x.0 in
          let h : Begun L file size = record {
            text = line;
            of_form = x.2;
            in_file = omega (arith, ap length x.3, length-append line x.1, (always line x.2).0);
            in_text = omega (arith, (always line x.2).0);
            same = ap (take size) x.3 ∙ take-append-le size line x.1 (omega (arith, (always line x.2).0));
          } in
          omega (arith, s.no_further size h))
          (only file k);
    }
  where
    longer : (m : ℕ) (line u : List ℕ) → L line → (h : Begun K file m) → h.text ≡ line ++ u → m ≤ n
    longer m line u l h e =
        let size_is : length line ≡ size = (always line l).0 in
        ⊎_elim
        (λ (b : m ≤ size).
        s.no_further m
        (record {
          text = line;
          of_form = l;
          in_file = h.in_file;
          in_text = omega arith;
          same = h.same ∙ ap (take m) e ∙ take-append-le m line u (omega arith);
        }))
        (λ (b : size < m).
        absurd
        (omega (
          arith,
          s.no_further size
              (record {
                text = line;
                of_form = l;
                in_file = omega (arith, h.in_file);
                in_text = omega arith;
                same = sym (take-take size m file (omega arith)) ∙ ap (take size) h.same ∙ take-take size m h.text (omega arith) ∙ ap (take size) e ∙ take-append-le size line u (omega arith);
              }),
        )))
        (le_or_lt m size)

-- ---- the form of a run
pub stuck_longest : (file : List ℕ) (n : ℕ) → Stuck Form file n → Longest file n
stuck_longest file n s =
    let b = s.begun in
    let of = b.of_form.1 in
    record {
      shared = record {
        run = b.of_form.0;
        is_run = of.is_run;
        in_file = b.in_file;
        in_text = omega (arith, b.in_text, ap length of.is_text);
        same = b.same ∙ ap (take n) of.is_text;
      };
      none_longer = λ m h.
          s.no_further m
          (record {
            text = vcd_text h.run;
            of_form = (h.run, record { is_run = h.is_run; is_text = refl });
            in_file = h.in_file;
            in_text = h.in_text;
            same = h.same;
          });
    }

-- There is one longest beginning.
pub longest_one : (file : List ℕ) (m n : ℕ) → Longest file m → Longest file n → m ≡ n
longest_one file m n a b = le_antisymm (b.none_longer m a.shared) (a.none_longer n b.shared)
