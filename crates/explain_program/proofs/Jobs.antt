-- The jobs of each task, counted in an array of sixteen, and the records of their needs.
use Rattle.std.specs.Prelude.{◌≡◌, refl, List, ◌++◌, ℕ, zero, suc, ◌+◌, ◌/◌, ◌≤◌, ◌<◌, get_or, set, replicate, Result, Ok}
use Rattle.std.proofs.Math.Path.{ap, ap₂}
use Rattle.std.proofs.Math.Logic.{⊎_elim}
use Rattle.std.proofs.Common.{◌∙◌, arith}
use Rattle.std.proofs.lemmas.List.{length-replicate}
use mathlib.Core.List.{append-nil}
use Rattle.basis.specs.Bytes.{overwrite, overwrite_next, overwrite_at, overwrite_kept, zeros}
use Rattle.basis.specs.Choose.{eq_or_ne}
use Rattle.basis.specs.Sum.{sum, sum_ext}
use Rattle.tasks.specs.declared.InBounds.{InBounds}
use Rattle.tasks.specs.declared.TaskList.{TaskList}
use Rattle.tasks.specs.declared.refusals.Refusal.{Refusal}
use Rattle.tasks.specs.List.{task_at}
use Rattle.tasks.specs.Bounds.{cycle_of, job_sum, jobs_of, bounds_of}
use Rattle.tasks.specs.Kept.{KeepsBounds}
use Rattle.tasks.proofs.Kept.{bounds_kept}
use Rattle.printing.specs.Text.{needs_header, job_records, need_records, needs_text}
use Rattle.printing.specs.Written.{Written}
use Rattle.output.specs.Explain.{jobs_in}

-- A list that keeps its bounds has a cycle.
pub never_broken : {A : Type 0} {l : TaskList} {b : Result InBounds Refusal} → KeepsBounds l 65536 → b ≡ bounds_of l 65536 → ((k : InBounds) → b ≡ Ok k → ⊥) → A
never_broken {l = l} K e none = absurd (none _ (e ∙ bounds_kept l 65536 K))

-- One task more.
pub counted_next : (l : TaskList) (cycle : ℕ) (old jobs : List ℕ) (i : ℕ) → cycle ≡ cycle_of l → jobs ≡ overwrite (jobs_in l) i old → set jobs i (cycle / (task_at l.tasks i).period) ≡ overwrite (jobs_in l) (i + 1) old
unfolding jobs_in
counted_next l cycle old jobs i e is = overwrite_next (jobs_in l) old i jobs _ is (ap (λ (x : ℕ). x / (task_at l.tasks i).period) e)

-- The records go by the job counts of the tasks alone,
records_same : (needs : List ℕ) (f g : ℕ → ℕ) (n : ℕ) → ((i : ℕ) → i < n → f i ≡ g i) → need_records needs f n ≡ need_records needs g n
unfolding need_records
records_same needs f g zero h = refl
records_same needs f g (suc n) h =
    ap₂ (λ (x y : List ℕ). x ++ y) (records_same needs f g n (λ i l. h i (omega arith)))
    (ap₂ (job_records needs (suc n)) (sum_ext f g n (λ i l. h i (omega arith))) (h n (omega arith)))

-- and a task without jobs has none.
records_end : (needs : List ℕ) (f : ℕ → ℕ) (n m : ℕ) → n ≤ m → ((i : ℕ) → n ≤ i → f i ≡ 0) → need_records needs f m ≡ need_records needs f n
unfolding need_records job_records
records_end needs f n zero l h = let e : 0 ≡ n = omega arith in ap (need_records needs f) e
records_end needs f n (suc m) l h =
    ⊎_elim
    (λ (e : suc m ≡ n). ap (need_records needs f) e)
    (λ (ne : suc m ≡ n → ⊥).
    ap (λ (k : ℕ). need_records needs f m ++ job_records needs (suc m) (sum f m) k) (h m (omega arith)) ∙ append-nil (need_records needs f m) ∙ records_end needs f n m (omega arith) h)
    (eq_or_ne (suc m) n)

-- Likewise the sum.
sum_end : (f : ℕ → ℕ) (n m : ℕ) → n ≤ m → ((i : ℕ) → n ≤ i → f i ≡ 0) → sum f m ≡ sum f n
unfolding sum
sum_end f n zero l h = let e : 0 ≡ n = omega arith in ap (sum f) e
sum_end f n (suc m) l h =
    ⊎_elim
    (λ (e : suc m ≡ n). ap (sum f) e)
    (λ (ne : suc m ≡ n → ⊥). omega (arith, h m (omega arith), sum_end f n m (omega arith) h))
    (eq_or_ne (suc m) n)

-- Sixteen places, of which those beyond the task count are 0, say what the list's tasks do.
module _ (l : TaskList) (few : l.count ≤ 16) (jobs : List ℕ) (is : jobs ≡ overwrite (jobs_in l) l.count (replicate 16 0)) where
  inside : (i : ℕ) → i < l.count → get_or jobs i 0 ≡ jobs_in l i
  inside i li = ap (λ (x : List ℕ). get_or x i 0) is ∙ overwrite_at (jobs_in l) (replicate 16 0) 0 l.count i li (omega (arith, length-replicate {A = ℕ} 16 0))

  beyond : (i : ℕ) → l.count ≤ i → get_or jobs i 0 ≡ 0
  beyond i li = ap (λ (x : List ℕ). get_or x i 0) is ∙ overwrite_kept (jobs_in l) (replicate 16 0) 0 l.count i li ∙ zeros 16 i

  text_same : (needs : List ℕ) → needs_text needs (λ i. get_or jobs i 0) 16 ≡ needs_text needs (jobs_in l) l.count
  unfolding needs_text
  text_same needs = ap (λ (x : List ℕ). needs_header ++ x) (records_end needs (λ i. get_or jobs i 0) l.count 16 few beyond ∙ records_same needs (λ i. get_or jobs i 0) (jobs_in l) l.count inside)

  sum_same : sum (λ i. get_or jobs i 0) 16 ≡ jobs_of l
  unfolding jobs_of job_sum jobs_in
  sum_same = sum_end (λ i. get_or jobs i 0) l.count 16 few beyond ∙ sum_ext _ _ l.count inside

  pub writes_needs : (needs : List ℕ) {old new : List ℕ} {r : ℕ} → Written (needs_text needs (λ i. get_or jobs i 0) 16) old new r → (sum (λ i. get_or jobs i 0) 16 ≤ 4096 → r ≤ 81935)
      → Written (needs_text needs (jobs_in l) l.count) old new r × (jobs_of l ≤ 4096 → r ≤ 81935)
  writes_needs needs W fits = (rw (text_same needs) at W, λ h. fits (rw sum_same h))
