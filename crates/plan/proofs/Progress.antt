-- Progress: what a job has had up to a slice, whether that slice lies before, in or after its window. It grows only in the
-- slices that go to its task while it is current.
use Rattle.std.specs.Prelude.{◌≡◌, ℕ, suc, ◌+◌, ◌-◌, ◌≤◌, ◌<◌, min}
use Rattle.std.proofs.Math.Path.{sym, ap}
use Rattle.std.proofs.Common.{◌∙◌, arith}
use Rattle.std.proofs.Math.Logic.{⊎_elim}
use Rattle.std.proofs.Math.Nat.{mul-le-mul_right}
use Rattle.basis.specs.Choose.{le_or_lt, eq_or_ne}
use Rattle.plan.specs.Plan.{Plan, Sound, Demand, release, deadline, job, age, gets, had, entry, given, OnTimeUpTo}
use Rattle.plan.proofs.Run.{age_below, release_age, had_since, had_after_lem, given_in_none, given_more}
use Rattle.plan.proofs.Work.{gets_cases}
use Rattle.plan.proofs.Counting.{on_time_exact}
use Rattle.plan.specs.Progress.{elapsed, had_up_to}

module _ (P : Plan) (S : Sound P) (d : Demand) (i : ℕ) (li : i < P.count) where
  -- releases are a period apart
  pub releases_grow : (k m : ℕ) → k < m → release P i k + P.period i ≤ release P i m
  unfolding release
  releases_grow k m l = omega (arith, mul-le-mul_right (P.period i) l)

  -- Before its release a job has had nothing.
  pub nothing_before_release : (k t : ℕ) → t ≤ release P i k → had_up_to P d i k t ≡ 0
  unfolding had_up_to elapsed
  nothing_before_release k t l = given_in_none P d i (release P i k) (min (t - release P i k) (P.due i)) (omega arith)

  -- The current job has had what the run says, while it is open.
  pub current_had : (t : ℕ) → age P i t ≤ P.due i → had_up_to P d i (job P i t) t ≡ had P d t i
  unfolding had_up_to elapsed
  current_had t l =
      ap (given P d i (release P i (job P i t))) (omega (arith, release_age P S i li t)) ∙ sym (had_since P S d i li t)

  -- Its task's slices are its own,
  pub current_grows : (t : ℕ) → age P i t < P.due i → had_up_to P d i (job P i t) (suc t) ≡ had P d t i + gets (entry P d t) i
  unfolding had_up_to elapsed
  current_grows t l =
      ap (given P d i (release P i (job P i t))) (omega (arith, release_age P S i li t)) ∙ sym (had_after_lem P S d i li t)

  -- and no other job's.
  pub others_stay : (k t : ℕ) → (k ≡ job P i t → ⊥) → had_up_to P d i k (suc t) ≡ had_up_to P d i k t
  unfolding had_up_to elapsed
  others_stay k t ne =
      ap (given P d i (release P i k))
      (⊎_elim
      (λ (l : job P i t ≤ k). omega (arith, releases_grow (job P i t) k (omega arith), release_age P S i li t, age_below P S i li t))
      (λ (l : k < job P i t). omega (arith, releases_grow k (job P i t) l, release_age P S i li t, S.due_within i li))
      (le_or_lt (job P i t) k))

  -- From its deadline on a job has had what it had there.
  pub settled : (k t : ℕ) → deadline P i k ≤ t → had_up_to P d i k t ≡ given P d i (release P i k) (P.due i)
  unfolding had_up_to elapsed deadline
  settled k t l = ap (given P d i (release P i k)) (omega arith)

  -- Where the run is on time, a job has had its demand from its deadline on, and gets no more,
  module _ (t : ℕ) (on : OnTimeUpTo P d t) where
    given_whole : P.due i ≤ age P i t → (m : ℕ) → P.due i ≤ m → m ≤ P.period i → given P d i (release P i (job P i t)) m ≡ d i (job P i t)
    unfolding OnTimeUpTo deadline
    given_whole past m l h = on_time_exact P S d i li (job P i t) m (on i (job P i t) li (omega (arith, release_age P S i li t))) l h

    pub had_whole : P.due i ≤ age P i t → had P d t i ≡ d i (job P i t)
    had_whole past = had_since P S d i li t ∙ given_whole past (age P i t) past (omega (arith, age_below P S i li t))

    -- so that the current job has had what the run says after its deadline, too.
    pub on_time_had : had_up_to P d i (job P i t) t ≡ had P d t i
    unfolding deadline
    on_time_had =
        ⊎_elim
        (λ (past : P.due i ≤ age P i t).
        settled (job P i t) t (omega (arith, release_age P S i li t)) ∙ given_whole past (P.due i) (omega arith) (S.due_within i li) ∙ sym (had_whole past))
        (λ (before : age P i t < P.due i). current_had t (omega arith))
        (le_or_lt (P.due i) (age P i t))

    pub on_time_grows : had_up_to P d i (job P i t) (suc t) ≡ had P d t i + gets (entry P d t) i
    unfolding deadline
    on_time_grows =
        ⊎_elim
        (λ (past : P.due i ≤ age P i t).
        settled (job P i t) (suc t) (omega (arith, release_age P S i li t))
        ∙ given_whole past (P.due i) (omega arith) (S.due_within i li)
        ∙ sym (had_after_lem P S d i li t ∙ given_whole past (suc (age P i t)) (omega arith) (age_below P S i li t)))
        (λ (before : age P i t < P.due i). current_grows t before)
        (le_or_lt (P.due i) (age P i t))

-- What a job has had grows in slices of its own task alone.
pub grows_in_own : (P : Plan) (d : Demand) (i k t : ℕ) → had_up_to P d i k t < had_up_to P d i k (suc t) → entry P d t ≡ suc i
unfolding had_up_to elapsed
grows_in_own P d i k t more =
    ⊎_elim
    (λ (g : (entry P d t ≡ suc i) × (gets (entry P d t) i ≡ 1)). g.0)
    (λ (g : (entry P d t ≡ suc i → ⊥) × (gets (entry P d t) i ≡ 0)).
    ⊎_elim
    (λ (e : elapsed P i k (suc t) ≡ elapsed P i k t). absurd (omega (arith, ap (given P d i (release P i k)) e)))
    (λ (ne : elapsed P i k (suc t) ≡ elapsed P i k t → ⊥).
    let one_more : elapsed P i k (suc t) ≡ suc (elapsed P i k t) = omega arith in
    let here : release P i k + elapsed P i k t ≡ t = omega arith in
    absurd (omega (arith, ap (given P d i (release P i k)) one_more, given_more P d i (release P i k) (elapsed P i k t), ap (λ (x : ℕ). gets (entry P d x) i) here, g.1)))
    (eq_or_ne (elapsed P i k (suc t)) (elapsed P i k t)))
    (gets_cases (entry P d t) i)
