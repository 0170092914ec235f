-- What is read aside, as it is told.
use Rattle.std.proofs.Common.{◌≡◌, ℕ, ◌≤◌, leb, List, length, take, sym, refl, ap, ◌∙◌, arith, get_or-take, Ok, Err}
use Rattle.basis.specs.Bytes.{at, overwrite, overwrite_same}
use Rattle.basis.specs.Choose.{choose}
use Rattle.vcd.specs.Follows.{Form}
use Rattle.vcd.specs.Beginnings.{Stuck, stuck_longest}
use Rattle.readback.specs.declared.Deviation.{Deviation}
use Rattle.readback.specs.Reads.{Reads}
use Rattle.readback.specs.Shapes.{ReadAside}

module _ (file : List ℕ) where
  pub told_stuck : (old : List ℕ) (d : Deviation) → Stuck Form file d.place → Reads file old old (Err d)
  unfolding Reads
  told_stuck old d s = record { none = λ run of. s.none (run, of); longest = stuck_longest file d.place s; bytes = refl }

  module _ (aside : List ℕ) where
    pub told_none : (old : List ℕ) (d : Deviation) → ReadAside file aside (Err d) → Reads file old old (Err d)
    unfolding ReadAside
    told_none old d s = told_stuck old d s

    module _ (n : ℕ) (h : ReadAside file aside (Ok n)) where
      pub told_few : n ≤ 4096
      unfolding ReadAside
      told_few = omega (arith, h.0, h.1.is_run.within)

      pub told_run : (old new : List ℕ) → new ≡ choose (leb n (length old)) (overwrite (at aside) n old) old → Reads file old new (Ok n)
      unfolding ReadAside Reads
      told_run old new copied =
          record {
            run = take n aside;
            of_run = h.1;
            length_is = sym h.0;
            bytes = copied ∙ ap (λ (l : List ℕ). choose (leb n (length old)) l old) (overwrite_same (at aside) (at (take n aside)) old n (λ i l. sym (get_or-take n aside i 0 l)));
          }
