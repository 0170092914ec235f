-- A run agrees with the filling run of what it gives each job exactly if every slice agrees by itself.
use mathlib.Core.Path.{◌≡◌, refl, sym, ap, ◌∙◌}
use mathlib.Core.List.{List}
use mathlib.Core.Logic.{⊎_elim}
use Prim.Native.Nat.{ℕ, zero, suc, ◌+◌, ◌-◌, ◌/◌, ◌≤◌, ◌<◌, ◌∣◌}
use native.Mathlib.Omega.{arith}
use native.Mathlib.Nat.{add_assoc, add-zero, add-suc}
use lib.Dec.{ltb}
use Rattle.basis.specs.Bytes.{at}
use Rattle.basis.specs.Choose.{choose, below_suc}
use Rattle.basis.specs.Sum.{sum, sum_ext}
use Rattle.plan.specs.Plan.{Plan, Sound, Demand, release, job, age, key_in, wants, pick, gets, had, entry, given, takes, filling, OnTimeUpTo, first}
use Rattle.plan.proofs.Rank.{first_ext}
use Rattle.plan.proofs.Run.{release_age, job_at, age_at, age_below, age_goes_on, had_since}
use Rattle.needs.specs.Explained.{Explains, given_in}
use Rattle.needs.specs.Candidate.{window_within, released_within, candidate_within, candidate_leads, explains_if}

-- ---- a run slice by slice
-- What task i gets from slice t on, up to its next release.
unfoldable pub rest : Plan → List ℕ → ℕ → ℕ → ℕ
rest P run i t = sum (λ n. gets (at run (t + n)) i) (P.period i - age P i t)

-- Task i waits in slice t for what its job is still to get, if its deadline is not past.
unfoldable pub waits : Plan → List ℕ → ℕ → ℕ → ℕ
waits P run t i = choose (ltb (age P i t) (P.due i)) (rest P run i t) 0

-- Slice t goes to the first-ranking task that waits, and a job released there gets from 1 slice to its run-time.
pub record Agrees (P : Plan) (run : List ℕ) (t : ℕ) : Type 0 where
  pub goes : at run t ≡ first (key_in P t) (waits P run t) P.count
  pub fits : (i : ℕ) → i < P.count → age P i t ≡ 0 → (1 ≤ rest P run i t) × (rest P run i t ≤ P.runtime i (job P i t))

-- ---- sums of two stretches
sum_split : (f : ℕ → ℕ) (m n : ℕ) → sum f (m + n) ≡ sum f m + sum (λ x. f (m + x)) n
unfolding sum
sum_split f m zero = rw (add-zero m) (omega arith)
sum_split f m (suc n) = rw (add-suc m n) (omega (arith, sum_split f m n))

module _ (run : List ℕ) (i : ℕ) where
  -- what task i gets in m slices from slice s on, and in n slices more
  gets_split : (s m n : ℕ) → sum (λ x. gets (at run (s + x)) i) (m + n) ≡ sum (λ x. gets (at run (s + x)) i) m + sum (λ x. gets (at run ((s + m) + x)) i) n
  gets_split s m n =
      sum_split (λ x. gets (at run (s + x)) i) m n
      ∙ ap (λ (y : ℕ). sum (λ x. gets (at run (s + x)) i) m + y) (sum_ext _ _ n (λ x l. ap (λ (y : ℕ). gets (at run y) i) (sym (add_assoc s m x))))

module _ (P : Plan) (S : Sound P) (run : List ℕ) (i : ℕ) (li : i < P.count) where
  -- ---- what a task gets from a slice on
  -- At its release that is all that its job gets;
  pub rest_released : (t : ℕ) → age P i t ≡ 0 → rest P run i t ≡ given_in P run i (job P i t)
  unfolding rest given_in
  rest_released t z =
      let here : release P i (job P i t) ≡ t = omega (arith, release_age P S i li t) in
      let all : P.period i - age P i t ≡ P.period i = omega arith in
      rw (here, all)

  -- in its last slice, what that slice gives;
  pub rest_last : (t : ℕ) → suc (age P i t) ≡ P.period i → rest P run i t ≡ gets (at run t) i
  unfolding rest sum
  rest_last t e =
      let one : P.period i - age P i t ≡ 1 = omega arith in
      rw (one, add-zero t) (omega arith)

  -- in any other, that and what it gets from the next slice on.
  pub rest_goes_on : (t : ℕ) → suc (age P i t) < P.period i → rest P run i t ≡ rest P run i (suc t) + gets (at run t) i
  unfolding rest sum
  rest_goes_on t l =
      let more : P.period i - age P i t ≡ 1 + (P.period i - age P i (suc t)) = omega (arith, age_goes_on P S i li t l) in
      omega (
        arith,
        ap (sum (λ x. gets (at run (t + x)) i)) more,
        gets_split run i t 1 (P.period i - age P i (suc t)),
        ap (λ (s : ℕ). gets (at run s) i) (add-zero t),
        sum_ext (λ x. gets (at run ((t + 1) + x)) i) (λ x. gets (at run (suc t + x)) i) (P.period i - age P i (suc t)) (λ x _. ap (λ (s : ℕ). gets (at run s) i) (omega arith)),
      )

  -- What the job got before slice t and what it gets from there on is all that it gets.
  rest_of_job : (t : ℕ) → sum (λ n. gets (at run (release P i (job P i t) + n)) i) (age P i t) + rest P run i t ≡ given_in P run i (job P i t)
  unfolding rest given_in
  rest_of_job t =
      let whole : P.period i ≡ age P i t + (P.period i - age P i t) = omega (arith, age_below P S i li t) in
      omega (
        arith,
        ap (sum (λ n. gets (at run (release P i (job P i t) + n)) i)) whole,
        gets_split run i (release P i (job P i t)) (age P i t) (P.period i - age P i t),
        sum_ext (λ x. gets (at run ((release P i (job P i t) + age P i t) + x)) i) (λ x. gets (at run (t + x)) i) (P.period i - age P i t)
            (λ x _. ap (λ (s : ℕ). gets (at run (s + x)) i) (release_age P S i li t)),
      )

  -- ---- the filling run of what the run gives
  abbrev D : Demand
  D = takes P (given_in P run)

  -- As long as it is the run, its jobs have had what the run gave.
  had_so_far : (t : ℕ) → ((s : ℕ) → s < t → filling P (given_in P run) s ≡ at run s) → had P D t i ≡ sum (λ n. gets (at run (release P i (job P i t) + n)) i) (age P i t)
  unfolding given filling
  had_so_far t same =
      had_since P S D i li t
      ∙ sum_ext _ _ (age P i t) (λ n l. ap (λ (e : ℕ). gets e i) (same (release P i (job P i t) + n) (omega (arith, release_age P S i li t))))

  wants_rest : (t : ℕ) → ((s : ℕ) → s < t → filling P (given_in P run) s ≡ at run s) → given_in P run i (job P i t) ≤ P.runtime i (job P i t)
      → wants P D t (had P D t) i ≡ waits P run t i
  unfolding wants waits takes
  wants_rest t same most = ap (λ (x : ℕ). choose (ltb (age P i t) (P.due i)) x 0) (omega (arith, had_so_far t same, rest_of_job t))

module _ (P : Plan) (S : Sound P) (cycle : ℕ) (divides : (i : ℕ) → i < P.count → P.period i ∣ cycle) (run : List ℕ) where
  -- No job released up to slice t gets more than its run-time.
  Fits : ℕ → Type 0
  Fits t = (i : ℕ) → i < P.count → given_in P run i (job P i t) ≤ P.runtime i (job P i t)

  -- So slice t of the filling run goes to the first-ranking task that waits.
  next_goes : (t : ℕ) → ((s : ℕ) → s < t → filling P (given_in P run) s ≡ at run s) → Fits t → filling P (given_in P run) t ≡ first (key_in P t) (waits P run t) P.count
  unfolding filling entry pick Fits
  next_goes t same fits =
      first_ext (key_in P t) (key_in P t) (wants P (takes P (given_in P run)) t (had P (takes P (given_in P run)) t)) (waits P run t) P.count (λ i li. refl) (λ i li. wants_rest P S run i li t same (fits i li))

  -- ---- every slice agrees
  module _ (all : (t : ℕ) → t < cycle → Agrees P run t) where
    pub given_fits : (i k : ℕ) → i < P.count → k < cycle / P.period i → (1 ≤ given_in P run i k) × (given_in P run i k ≤ P.runtime i k)
    given_fits i k li lk =
        let pos : 0 < P.period i = S.period_pos i li in
        let h = (all (release P i k + 0) (window_within P cycle divides i k 0 li lk pos)).fits i li (age_at P S i li k 0 pos) in
        rw (rest_released P S run i li (release P i k + 0) (age_at P S i li k 0 pos), job_at P S i li k 0 pos) at h

    fits : (t : ℕ) → t < cycle → Fits t
    unfolding Fits
    fits t l i li = (given_fits i (job P i t) li (released_within P cycle divides i (job P i t) t li (omega (arith, release_age P S i li t)) l)).1

    same_before : (n : ℕ) → n ≤ cycle → (t : ℕ) → t < n → filling P (given_in P run) t ≡ at run t
    same_before zero ln t l = absurd (omega arith)
    same_before (suc n) ln t l =
        ⊎_elim
        (λ (b : t < n). same_before n (omega arith) t b)
        (λ (e : t ≡ n).
        let lt : t < cycle = omega arith in
        next_goes t (λ s ls. same_before n (omega arith) s (omega arith)) (fits t lt) ∙ sym (all t lt).goes)
        (below_suc t n l)

    -- What the run gives each job explains it.
    pub agreeing_explains : Explains P cycle run (given_in P run)
    agreeing_explains = explains_if P cycle run (same_before cycle (omega arith)) (λ i k li lk. (given_fits i k li lk).0)

  -- ---- any needs explain the run
  module _ (on : OnTimeUpTo P P.runtime cycle) (some : (i k : ℕ) → i < P.count → 1 ≤ P.runtime i k) (need : Demand) (explains : Explains P cycle run need) where
    within : (t : ℕ) → t < cycle → (i : ℕ) → i < P.count → (1 ≤ given_in P run i (job P i t)) × (given_in P run i (job P i t) ≤ P.runtime i (job P i t))
    within t l i li =
        candidate_within P S cycle divides on run some need explains i (job P i t) li (released_within P cycle divides i (job P i t) t li (omega (arith, release_age P S i li t)) l)

    -- Then every slice agrees.
    pub explained_agrees : (t : ℕ) → t < cycle → Agrees P run t
    unfolding Fits
    explained_agrees t l = record {
      goes = sym (candidate_leads P S cycle divides on run need explains t l) ∙ next_goes t (λ s ls. candidate_leads P S cycle divides on run need explains s (omega arith)) (λ i li. (within t l i li).1);
      fits = λ i li z. rw (rest_released P S run i li t z) (within t l i li);
    }
