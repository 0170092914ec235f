-- That every place stays far below 2 ^ 64.
use mathlib.Core.Path.{◌≡◌, refl, ap}
use mathlib.Core.List.{List, ◌++◌}
use mathlib.Core.Logic.{⊎_elim}
use Prim.Native.Nat.{ℕ, zero, suc, ◌+◌, ◌*◌, ◌^◌, ◌≤◌, ◌<◌, min}
use native.Mathlib.Omega.{arith}
use lib.IntN.{ℤ}
use lib.ListN.{length, get_or, take, length-take}
use lib.Seq.{get_or-take}
use mir.Syntax.{w32, w64}
use mir.Val.{Fits, SFits}
use Rattle.std.proofs.lemmas.Grind.{common_steps}
use Rattle.basis.specs.Choose.{eq_or_ne}
use Rattle.basis.specs.Sum.{sum, sum_same, sum_le}
use Rattle.printing.specs.Text.{ascii, crlf, refusal_header, refusal_record, refusal_text, clash_text, quick_text, table_header, table_text, pair_record, records_to, needs_header, need_record, job_records, need_records, needs_text}
use Rattle.printing.specs.Written.{Written}
use Rattle.printing.proofs.Lengths.{refusal-length, refusal_fits, pair-length, clash_fits, quick_fits, table_fits, slice-length, next_length, records-length, needs-length, needs_fit}
use Rattle.printing.specs.Shapes.{Room, Put}
use Rattle.printing.proofs.Signed.{magnitude_small}

pub refusal_room : (number task : ℕ) (margin : ℤ) → Fits w32 number → Fits w64 task → SFits w32 margin → {old mid : List ℕ} {r : ℕ} → Put refusal_header 0 old mid r → Room (refusal_record number task margin) r
unfolding refusal_header crlf ascii
refusal_room number task margin fn ft fm p =
    record { room = omega (arith, p.next, refusal-length number task margin fn.fits ft.fits (magnitude_small margin fm)) }

-- Any two numbers below a header of a line.
pub pair_room : (header : List ℕ) (a b : ℕ) → length header ≤ 80 → a < 2 ^ 64 → b < 2 ^ 64 → {old mid : List ℕ} {r : ℕ} → Put header 0 old mid r → Room (pair_record a b) r
pair_room header a b lh la lb p = record { room = omega (arith, p.next, pair-length 19 19 a b (omega arith) (omega arith)) }

-- So many tasks, each with jobs of 32 bits.
jobs_few : (jobs : ℕ → ℕ) → ((i : ℕ) → jobs i < 2 ^ 32) → (n : ℕ) → sum jobs n ≤ n * 2 ^ 32
jobs_few jobs few n = omega (arith, sum_same (2 ^ 32) n, sum_le jobs (λ _. 2 ^ 32) n (λ i _. omega (arith, few i)))

-- So the place after the needs of a task is a number of 64 bits.
pub place_fits : (jobs : ℕ → ℕ) → ((i : ℕ) → jobs i < 2 ^ 32) → (i : ℕ) → i < 16 → sum jobs i + jobs i < 2 ^ 64
place_fits jobs few i l = omega (arith, few i, jobs_few jobs few i)

-- Texts that grow by a part at each step: where there is room for a later one, there is room for the next part.
module _ (text part : ℕ → List ℕ) (more : (k : ℕ) → text (suc k) ≡ text k ++ part k) where
  longer : (n k : ℕ) → k ≤ n → length (text k) ≤ length (text n)
  longer zero k l = let z : k ≡ 0 = omega arith in omega (arith, ap (λ (x : ℕ). length (text x)) z)
  longer (suc n) k l =
      ⊎_elim
      (λ (e : k ≡ suc n). omega (arith, ap (λ (x : ℕ). length (text x)) e))
      (λ (ne : k ≡ suc n → ⊥). omega (arith, next_length text part more n, longer n k (omega arith)))
      (eq_or_ne k (suc n))

  part_room : (n k : ℕ) {old mid : List ℕ} {at r : ℕ} → Room (text n) at → Put (text k) at old mid r → k < n → Room (part k) r
  part_room n k h p l = record { room = omega (arith, h.room, p.next, next_length text part more k, longer n (suc k) l) }

module _ (table : List ℕ) where
  pub slice_room : (n t : ℕ) {old mid : List ℕ} {at r : ℕ} → Room (records_to table n) at → Put (records_to table t) at old mid r → t < n → Room (pair_record t (get_or table t 0)) r
  unfolding records_to
  slice_room = part_room (records_to table) (λ t. pair_record t (get_or table t 0)) (λ t. refl)

-- As many of a table's first entries.
pub table_room : (table : List ℕ) (n : ℕ) → n ≤ 2 ^ 32 → ((i : ℕ) → get_or table i 0 < 256) → {old mid : List ℕ} {r : ℕ} → Put table_header 0 old mid r
    → Room (records_to (take n table) (length (take n table))) r
unfolding table_header crlf ascii
table_room table n few bytes p =
    let long = length-take n table in
    record {
      room = omega (
        arith,
        p.next,
        records-length (take n table) 16 (length (take n table))
            (λ t l. slice-length 9 t (get_or (take n table) t 0) (omega arith) (rw (get_or-take n table t 0 (omega arith)) (bytes t))),
      );
    }

module _ (needs : List ℕ) where
  pub job_room : (task from n k : ℕ) {old mid : List ℕ} {at r : ℕ} → Room (job_records needs task from n) at → Put (job_records needs task from k) at old mid r → k < n
      → Room (need_record task k (get_or needs (from + k) 0)) r
  unfolding job_records
  job_room task from = part_room (job_records needs task from) (λ k. need_record task k (get_or needs (from + k) 0)) (λ k. refl)

  pub task_room : (jobs : ℕ → ℕ) (n i : ℕ) {old mid : List ℕ} {at r : ℕ} → Room (need_records needs jobs n) at → Put (need_records needs jobs i) at old mid r → i < n
      → Room (job_records needs (suc i) (sum jobs i) (jobs i)) r
  unfolding need_records
  task_room jobs = part_room (need_records needs jobs) (λ i. job_records needs (suc i) (sum jobs i) (jobs i)) (λ i. refl)

  pub needs_room : (jobs : ℕ → ℕ) → ((i : ℕ) → jobs i < 2 ^ 32) → ((i : ℕ) → get_or needs i 0 < 2 ^ 32) → {old mid : List ℕ} {r : ℕ} → Put needs_header 0 old mid r → Room (need_records needs jobs 16) r
  unfolding needs_header crlf ascii
  needs_room jobs few small p = record {
    room = omega (arith, p.next, jobs_few jobs few 16, needs-length needs small 9 jobs 16 (omega arith) (λ i l. omega (arith, few i)));
  }

-- ---- what a caller may rely on
pub refusal_room_enough : (number task : ℕ) (margin : ℤ) → Fits w32 number → Fits w64 task → SFits w32 margin → {old new : List ℕ} {r : ℕ} → Written (refusal_text number task margin) old new r → r ≤ 66
refusal_room_enough number task margin fn ft fm W = omega (arith, W.whole, refusal_fits number task margin fn.fits ft.fits (magnitude_small margin fm))

pub clash_room_enough : (reached period : ℕ) → Fits w32 reached → Fits w32 period → {old new : List ℕ} {r : ℕ} → Written (clash_text reached period) old new r → r ≤ 39
clash_room_enough reached period fr fp W = omega (arith, W.whole, clash_fits reached period fr.fits fp.fits)

pub quick_room_enough : (number task : ℕ) → Fits w32 number → Fits w64 task → {old new : List ℕ} {r : ℕ} → Written (quick_text number task) old new r → r ≤ 47
quick_room_enough number task fn ft W = omega (arith, W.whole, quick_fits number task fn.fits ft.fits)

pub table_room_enough : (table : List ℕ) (cycle : ℕ) → ((i : ℕ) → get_or table i 0 < 256) → {old new : List ℕ} {r : ℕ} → Written (table_text (take cycle table)) old new r → cycle ≤ 4096 → r ≤ 40972
table_room_enough table cycle bytes W l =
    omega (
      arith,
      W.whole,
      table_fits (take cycle table) (omega (arith, length-take cycle table))
          (λ i li. rw (get_or-take cycle table i 0 (omega (arith, length-take cycle table))) (bytes i)),
    )

pub needs_room_enough : (needs : List ℕ) (jobs : ℕ → ℕ) → ((i : ℕ) → get_or needs i 0 < 2 ^ 32) → {old new : List ℕ} {r : ℕ} → Written (needs_text needs jobs 16) old new r → sum jobs 16 ≤ 4096 → r ≤ 81935
needs_room_enough needs jobs small W l = omega (arith, W.whole, needs_fit needs small jobs 16 (omega arith) l)

-- As many of a table's entries as there are slices of the cycle.
pub first_slices : (table : List ℕ) (cycle : ℕ) → take (min (length table) cycle) table ≡ take cycle table
first_slices table cycle = grind (arith, common_steps)
