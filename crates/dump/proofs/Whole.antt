-- All of the text, or nothing.
use mathlib.Core.Path.{◌≡◌, refl, sym, ap, ◌∙◌}
use mathlib.Core.List.{List}
use Prim.Native.Nat.{ℕ, ◌≤◌, ◌<◌, min}
use native.Mathlib.Omega.{arith}
use lib.ListN.{length, take}
use borrow.Author.Tests.{le-leb, lt-leb}
use Rattle.basis.specs.Choose.{yes_so, no_so}
use Rattle.printing.specs.Shapes.{Put}
use Rattle.printing.proofs.Chain.{put_whole}
use Rattle.vcd.specs.Form.{vcd_text}
use Rattle.dump.specs.Wrote.{Wrote}
use Rattle.dump.specs.Shapes.{text_to}
use Rattle.dump.specs.Lengths.{whole_text}
use Rattle.std.proofs.lemmas.Grind.{common_steps}

all_put : {text old new : List ℕ} {r : ℕ} → Put text 0 old new r → length text ≤ length old → Wrote text old new r
all_put {text} {old} p l =
    let w = put_whole p in
    record { whole = w.whole; bytes = yes_so _ _ _ _ (le-leb (length text) (length old) l) w.bytes }

no_room : {text old : List ℕ} {r : ℕ} → r ≡ length text → length old < r → Wrote text old old r
no_room {text} {old} e l = record { whole = e; bytes = no_so _ _ _ _ (lt-leb (length text) (length old) (omega (arith, e))) refl }

first_part : (run : List ℕ) (k : ℕ) → take (min (length run) k) run ≡ take k run
first_part run k = grind (arith, common_steps)

module _ (run : List ℕ) {n : ℕ} (first : n ≡ min (length run) 4096) where
  same_run : take n run ≡ take 4096 run
  same_run = rw first (first_part run 4096)

  text_of_first : text_to (take n run) (length (take n run)) ≡ vcd_text (take 4096 run)
  text_of_first = sym (whole_text (take n run)) ∙ ap vcd_text same_run

  pub wrote_all : {old new : List ℕ} {needed r : ℕ} → needed ≡ length (text_to (take n run) (length (take n run))) → needed ≤ length old → Put (text_to (take n run) (length (take n run))) 0 old new r
      → Wrote (vcd_text (take 4096 run)) old new r
  wrote_all e l p = rw (← text_of_first) (all_put p (omega (arith, e)))

  pub wrote_nothing : {old : List ℕ} {needed : ℕ} → needed ≡ length (text_to (take n run) (length (take n run))) → length old < needed → Wrote (vcd_text (take 4096 run)) old old needed
  wrote_nothing e l = rw (← text_of_first) (no_room e l)
