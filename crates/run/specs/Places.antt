-- How the jobs of a sound state lie in the log: every current job within it, no two jobs at one place.
use Rattle.std.specs.Prelude.{◌≡◌, ℕ, suc, ◌+◌, ◌*◌, ◌/◌, ◌%◌, ◌<◌, ◌≤◌, true, ◌↔◌, ◌==◌}
use Rattle.std.proofs.Math.Path.{refl}
use Rattle.std.proofs.Common.{arith, div-lt_iff_lt-mul, div-add-mod', eqb-true, eq-eqb}
use Rattle.std.proofs.Math.Nat.{div-mul_cancel, div-le_self}
use Rattle.basis.specs.Sum.{sum, sum_le, sum_same, sum_grows, sum_apart}
use Rattle.run.specs.declared.State.{State}
use Rattle.run.specs.State.{period_of, due_of, current_of, age_of, offset, job_count, place, place_in, deadline_next, release_next}
use Rattle.run.specs.Sound.{SoundState}

module _ (s : State) where
  -- The jobs of task i stand after those of the tasks before it, and before those of the next.
  pub offset_next : (i : ℕ) → offset s (suc i) ≡ offset s i + s.cycle / period_of s i
  unfolding offset sum
  offset_next i = refl

  pub offset_grows : (i n : ℕ) → i ≤ n → offset s i ≤ offset s n
  unfolding offset
  offset_grows i n l = sum_grows (λ j. s.cycle / period_of s j) i n l

  pub job_before_next : (i k : ℕ) → k < s.cycle / period_of s i → offset s i + k < offset s (suc i)
  job_before_next i k lk = omega (arith, offset_next i)

  -- So job k of task i is within the log's jobs,
  pub job_within : (i k : ℕ) → i < s.count → k < s.cycle / period_of s i → offset s i + k < job_count s
  unfolding job_count
  job_within i k l lk = omega (arith, job_before_next i k lk, offset_grows (suc i) s.count l)

  -- and different jobs have different places.
  pub jobs_apart : (i j k m : ℕ) → k < s.cycle / period_of s i → m < s.cycle / period_of s j → offset s i + k ≡ offset s j + m → (i ≡ j) × (k ≡ m)
  unfolding offset
  jobs_apart i j k m lk lm e = sum_apart (λ j. s.cycle / period_of s j) i j k m lk lm e

-- The place, worked out from the numbers of the state.
pub place_by_numbers : (s : State) (i : ℕ) → place_in s.periods s.cycle s.position i ≡ place s i
unfolding place_in place offset current_of period_of
place_by_numbers s i = refl

-- In the paper's words: there is a deadline of task i at the next position, its current job being released at current * period and
-- due `due_of` slices later; and there is its next release.
module _ (s : State) (i : ℕ) where
  next_tells : (due : ℕ) → ((suc (s.position % period_of s i) == due) ≡ true) ↔ (suc s.position ≡ s.position / period_of s i * period_of s i + due)
  next_tells due = (
    λ h. omega (arith, eqb-true (suc (s.position % period_of s i)) due h, div-add-mod' s.position (period_of s i)),
    λ e. eq-eqb (suc (s.position % period_of s i)) due (omega (arith, div-add-mod' s.position (period_of s i))),
  )

  pub deadline_next_tells : (deadline_next s i ≡ true) ↔ (suc s.position ≡ current_of s i * period_of s i + due_of s i)
  unfolding deadline_next current_of age_of
  deadline_next_tells = next_tells (due_of s i)

  pub release_next_tells : (release_next s i ≡ true) ↔ (suc s.position ≡ current_of s i * period_of s i + period_of s i)
  unfolding release_next current_of age_of
  release_next_tells = next_tells (period_of s i)

module _ (s : State) (S : SoundState s) where
  -- The job that is current in a slice of the cycle is one of the task's jobs in it.
  pub job_in_cycle : (i t : ℕ) → i < s.count → t < s.cycle → t / period_of s i < s.cycle / period_of s i
  job_in_cycle i t l lt =
      let T = S.tasks_sound i l in
      (div-lt_iff_lt-mul {x = t} {y = s.cycle / period_of s i} T.period_from).1 (omega (arith, div-mul_cancel (period_of s i) T.period_divides))

  -- At most 4,096 jobs of each of at most 16 tasks.
  pub offset_most : (i : ℕ) → i ≤ s.count → offset s i ≤ i * 4096
  unfolding offset
  offset_most i l = omega (arith, sum_le (λ j. s.cycle / period_of s j) (λ _. 4096) i (λ j lj. omega (arith, S.cycle_to, div-le_self s.cycle (period_of s j))), sum_same 4096 i)

  -- While the run is not over, the current job of each task is one of its jobs in the cycle, with a place of its own.
  module _ (p : s.position < s.cycle) where
    pub current_in_cycle : (i : ℕ) → i < s.count → current_of s i < s.cycle / period_of s i
    unfolding current_of
    current_in_cycle i l = job_in_cycle i s.position l p

    pub place_within : (i : ℕ) → i < s.count → place s i < job_count s
    unfolding place
    place_within i l = job_within s i (current_of s i) l (current_in_cycle i l)

    pub places_apart : (i j : ℕ) → i < s.count → j < s.count → place s i ≡ place s j → i ≡ j
    unfolding place
    places_apart i j li lj e = (jobs_apart s i j (current_of s i) (current_of s j) (current_in_cycle i li) (current_in_cycle j lj) e).0
