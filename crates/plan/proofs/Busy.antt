-- The work of a level, which is a task and those ranking before it: how much is left after each slice, and that it comes
-- to nothing at least once in every t slices where the level asks for no more than t in t slices.
use Rattle.std.specs.Prelude.{◌≡◌}
use Rattle.std.proofs.Math.Path.{refl, ap}
use Rattle.std.proofs.Common.{sym, ◌∙◌, ⊎_elim}
use Prim.Native.Nat.{ℕ, zero, suc, pred, ◌+◌, ◌-◌, ◌*◌, ◌≤◌, ◌<◌}
use native.Mathlib.Omega.{arith}
use Rattle.std.proofs.Math.Nat.{mul-le-mul_left, mul-add, mul-zero}
use Rattle.basis.specs.Choose.{le_or_lt, eq_or_ne}
use Rattle.basis.specs.Slices.{ceil}
use Rattle.basis.proofs.Slices.{ceil_zero, ceil_suc, ceil_sum}
use Rattle.plan.specs.Plan.{Plan, Monotonic, Demand, job, age, key_in, gets, entry, asks, IsFirst}
use Rattle.plan.proofs.Rank.{same_law}
use Rattle.plan.specs.Work.{before, after}
use Rattle.plan.proofs.Work.{before_le, before_add, work_falls}
use Rattle.plan.specs.Run.{lacks}
use Rattle.plan.proofs.Run.{goes_on_or_ends, age_goes_on, job_goes_on, job_anew, lacks_shut, lacks_most, lacks_goes_on, entry_law}

-- ---- what a task asks for
module _ (P : Plan) (monotonic : Monotonic P) (j : ℕ) (lj : j < P.count) where
  -- What it asks for in s + t slices is no more than in s and in t.
  asks_sum : (s t : ℕ) → asks P (s + t) j ≤ asks P s j + asks P t j
  unfolding asks
  asks_sum s t =
      omega (
        arith,
        mul-le-mul_left (P.runtime j 0) (ceil_sum (P.period j) (monotonic.sound.period_pos j lj) s t),
        mul-add (P.runtime j 0) (ceil s (P.period j)) (ceil t (P.period j)),
      )

  asks_first : asks P 0 j ≡ 0
  unfolding asks
  asks_first = ap (λ (x : ℕ). P.runtime j 0 * x) (ceil_zero (P.period j) (monotonic.sound.period_pos j lj)) ∙ mul-zero (P.runtime j 0)

  -- By the end of slice t it has asked for one run-time for each job released so far.
  pub asks_by : (t : ℕ) → asks P (suc t) j ≡ P.runtime j 0 * suc (job P j t)
  unfolding asks job
  asks_by t = ap (λ (x : ℕ). P.runtime j 0 * x) (ceil_suc (P.period j) (monotonic.sound.period_pos j lj) t)

  wanted_first : lacks P P.runtime P.runtime 0 j ≤ asks P 1 j
  wanted_first = omega (arith, asks_by 0, lacks_most P P.runtime P.runtime 0 j, monotonic.one_runtime j (job P j 0) lj)

  -- What is wanted in slice t was left after slice t - 1, or asked for anew.
  asked_anew : (t : ℕ) → lacks P P.runtime P.runtime (suc t) j + asks P (suc t) j
      ≤ (lacks P P.runtime P.runtime t j - gets (entry P P.runtime t) j) + asks P (suc (suc t)) j
  asked_anew t =
      ⊎_elim
      (λ (l : suc (age P j t) < P.period j).
      let same : asks P (suc (suc t)) j ≡ asks P (suc t) j = asks_by (suc t) ∙ ap (λ (k : ℕ). P.runtime j 0 * suc k) (job_goes_on P monotonic.sound j lj t l) ∙ sym (asks_by t) in
      ⊎_elim
      (λ (o : P.due j ≤ suc (age P j t)). omega (arith, lacks_shut P P.runtime P.runtime (suc t) j (omega (arith, age_goes_on P monotonic.sound j lj t l))))
      (λ (o : suc (age P j t) < P.due j). omega (arith, lacks_goes_on P monotonic.sound P.runtime P.runtime j lj t o))
      (le_or_lt (P.due j) (suc (age P j t))))
      (λ (e : suc (age P j t) ≡ P.period j).
      omega (
        arith,
        asks_by t,
        asks_by (suc t),
        ap (λ (k : ℕ). P.runtime j 0 * suc k) (job_anew P monotonic.sound j lj t e),
        lacks_most P P.runtime P.runtime (suc t) j,
        monotonic.one_runtime j (job P j (suc t)) lj,
      ))
      (goes_on_or_ends P monotonic.sound j lj t)

-- ---- the work of the tasks ranking before ρ
module _ (P : Plan) (monotonic : Monotonic P) (ρ : ℕ) where
  abbrev n : ℕ
  n = P.count

  abbrev due : ℕ → ℕ
  due = P.due

  abbrev r : Demand
  r = P.runtime

  -- what they ask for in t slices from a common release
  unfoldable pub asked : ℕ → ℕ
  asked t = before P.count P.due ρ (asks P t)

  -- what is wanted in slice t, and what of it is left before the releases of slice t
  wanted : ℕ → ℕ
  wanted t = before P.count P.due ρ (lacks P P.runtime P.runtime t)

  unfoldable pub leftover : ℕ → ℕ
  leftover zero = 0
  leftover (suc t) = before P.count P.due ρ (after (entry P P.runtime t) (lacks P P.runtime P.runtime t))

  -- rank goes by the deadline in every slice
  pub by_due : (t : ℕ) → IsFirst P.due (lacks P P.runtime P.runtime t) P.count (entry P P.runtime t)
  unfolding key_in
  by_due t =
      same_law (key_in P t) P.due (lacks P P.runtime P.runtime t) (lacks P P.runtime P.runtime t) P.count
      (λ j lj. monotonic.by_deadline j (job P j t) lj) (λ j lj z. z) (λ j lj z. z) (entry P P.runtime t) (entry_law P P.runtime t)

  leftover_falls : (t : ℕ) → leftover (suc t) ≡ pred (wanted t)
  unfolding leftover wanted
  leftover_falls t = work_falls P.count P.due (lacks P P.runtime P.runtime t) (entry P P.runtime t) (by_due t) ρ

  wanted_anew : (t : ℕ) → wanted t + asked t ≤ leftover t + asked (suc t)
  unfolding wanted asked leftover after
  wanted_anew zero =
      omega (
        arith,
        before_add n due ρ (lacks P r r 0) (asks P 0),
        before_le n due ρ (λ j. lacks P r r 0 j + asks P 0 j) (asks P 1) (λ j lj b. omega (arith, wanted_first P monotonic j lj, asks_first P monotonic j lj)),
      )
  wanted_anew (suc t) =
      omega (
        arith,
        before_add n due ρ (lacks P r r (suc t)) (asks P (suc t)),
        before_add n due ρ (after (entry P r t) (lacks P r r t)) (asks P (suc (suc t))),
        before_le n due ρ (λ j. lacks P r r (suc t) j + asks P (suc t) j) (λ j. after (entry P r t) (lacks P r r t) j + asks P (suc (suc t)) j) (λ j lj b. asked_anew P monotonic j lj t),
      )

  nothing_first : leftover 0 ≡ 0
  unfolding leftover
  nothing_first = refl

  asked_sum : (s t : ℕ) → asked (s + t) ≤ asked s + asked t
  unfolding asked
  asked_sum s t = omega (arith, before_add n due ρ (asks P s) (asks P t), before_le n due ρ (asks P (s + t)) (λ j. asks P s j + asks P t j) (λ j lj b. asks_sum P monotonic j lj s t))

  -- The last slice up to t before which nothing was left over. Since then every slice went to this work, so what is left is what was
  -- asked for since, less the slices; and it is less than τ slices ago.
  pub record LastRest (τ t : ℕ) : Type 0 where
    pub slice : ℕ
    pub past : slice ≤ t
    pub nothing : leftover slice ≡ 0
    pub busy : leftover t + t + asked slice ≤ asked t + slice
    pub within : t < slice + τ

  -- If they ask for no more than τ in τ slices, there is such a slice.
  pub last_rest : (τ : ℕ) → 1 ≤ τ → asked τ ≤ τ → (t : ℕ) → LastRest τ t
  last_rest τ p h zero = record { slice = 0; past = omega arith; nothing = nothing_first; busy = omega (arith, nothing_first); within = omega arith }
  last_rest τ p h (suc t) =
      let L = last_rest τ p h t in
      ⊎_elim
      (λ (z : leftover (suc t) ≡ 0). record { slice = suc t; past = omega arith; nothing = z; busy = omega arith; within = omega arith })
      (λ (nz : leftover (suc t) ≡ 0 → ⊥).
      let b : leftover (suc t) + suc t + asked L.slice ≤ asked (suc t) + L.slice = omega (arith, L.busy, leftover_falls t, wanted_anew t) in
      record {
        slice = L.slice;
        past = omega (arith, L.past);
        nothing = L.nothing;
        busy = b;
        within =
            ⊎_elim
            (λ (e : suc t ≡ L.slice + τ). absurd (omega (arith, nz, ap asked e, asked_sum L.slice τ)))
            (λ (ne : suc t ≡ L.slice + τ → ⊥). omega (arith, L.within))
            (eq_or_ne (suc t) (L.slice + τ));
      })
      (eq_or_ne (leftover (suc t)) 0)
