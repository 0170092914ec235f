-- What reading a file back answers, and writes, is settled by the file.
use Rattle.std.specs.Prelude.{◌≡◌, ℕ, List, length, nat_le, Result, Ok, Err}
use Rattle.std.proofs.Math.Path.{sym, ap}
use Rattle.std.proofs.Common.{◌∙◌}
use Rattle.basis.specs.Bytes.{at, overwrite}
use Rattle.basis.specs.Choose.{choose}
use Rattle.vcd.specs.OneRun.{of_one_run}
use Rattle.vcd.specs.Beginnings.{longest_one}
use Rattle.readback.specs.Reads.{Reads}
use Rattle.readback.specs.declared.Deviation.{Deviation}

module _ (file old new new' : List ℕ) where
  pub determined : (r r' : Result ℕ Deviation) → Reads file old new r → Reads file old new' r' → (r ≡ r') × (new ≡ new')
  unfolding Reads
  determined (Ok m) (Ok n) a b =
      let same = of_one_run file a.run b.run a.of_run b.of_run in
      let long : m ≡ n = a.length_is ∙ ap length same ∙ sym b.length_is in (
        ap (λ (k : ℕ). Ok k) long,
        a.bytes
            ∙ ap (λ (run : List ℕ). choose (nat_le m (length old)) (overwrite (at run) m old) old) same
            ∙ ap (λ (k : ℕ). choose (nat_le k (length old)) (overwrite (at b.run) k old) old) long
            ∙ sym b.bytes,
      )
  determined (Ok m) (Err e) a b = absurd (b.none a.run a.of_run)
  determined (Err d) (Ok n) a b = absurd (a.none b.run b.of_run)
  determined (Err d) (Err e) a b = (ap (λ (k : ℕ). Err (record { place = k })) (longest_one file d.place e.place a.longest b.longest), a.bytes ∙ sym b.bytes)
