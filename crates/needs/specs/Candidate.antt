-- The candidate: whichever needs lead an accepted plan's filling run to a run that was seen, each job takes just what the run
-- gives it. So the run has needs exactly if these explain it, and they are its only ones within the run-times.
use Rattle.std.specs.Prelude.{◌≡◌, refl, List, ◌⊎◌, ◌↔◌, ℕ, zero, suc, ◌+◌, ◌/◌, ◌≤◌, ◌<◌, min}
use Rattle.std.proofs.Common.{sym, ◌∙◌}
use Rattle.std.proofs.Math.Path.{ap}
use Rattle.std.proofs.Math.Logic.{⊎_elim}
use Rattle.std.specs.Int.{◌∣◌}
use native.Mathlib.Omega.{arith}
use Rattle.std.proofs.Math.Nat.{mul-le-mul_right, div-mul_cancel}
use Rattle.basis.specs.Bytes.{at}
use Rattle.basis.specs.Choose.{le_or_lt}
use Rattle.basis.specs.Sum.{sum, sum_ext, sum_le, sum_same}
use Rattle.plan.specs.Plan.{Plan, Sound, Demand, release, job, age, key_in, wants, pick, gets, had, entry, given, OnTimeUpTo, table, takes, filling}
use Rattle.plan.proofs.Rank.{first_ext}
use Rattle.plan.specs.Run.{lacks}
use Rattle.plan.proofs.Run.{goes_on_or_ends, release_age, lacks_open, lacks_shut, had_first_lem, had_goes_on, had_anew, had_since, given_in_none}
use Rattle.plan.proofs.Counting.{entries_add_up, entries_of_jobs, deadline_within, on_time_exact}
use Rattle.plan.proofs.Domination.{filling_on_time}
use Rattle.needs.specs.Explained.{Explains, given_in}

-- ---- a run goes by what is released
module _ (P : Plan) (S : Sound P) (d d' : Demand) where
  -- The two demands agree on every job released at or before slice t.
  abbrev pub AgreeUpTo : ℕ → Type 0
  AgreeUpTo t = (i k : ℕ) → i < P.count → release P i k ≤ t → d i k ≡ d' i k

  agree_before : (t : ℕ) → AgreeUpTo (suc t) → AgreeUpTo t
  agree_before t agree i k li l = agree i k li (omega arith)

  lacks_alike : (t : ℕ) → AgreeUpTo t → (i : ℕ) → i < P.count → had P d t i ≡ had P d' t i → lacks P d d t i ≡ lacks P d' d' t i
  lacks_alike t agree i li e =
      ⊎_elim
      (λ (o : P.due i ≤ age P i t). lacks_shut P d d t i o ∙ sym (lacks_shut P d' d' t i o))
      (λ (o : age P i t < P.due i).
      omega (arith, lacks_open P d d t i o, lacks_open P d' d' t i o, agree i (job P i t) li (omega (arith, release_age P S i li t))))
      (le_or_lt (P.due i) (age P i t))

  entry_alike : (t : ℕ) → AgreeUpTo t → ((i : ℕ) → i < P.count → had P d t i ≡ had P d' t i) → entry P d t ≡ entry P d' t
  unfolding entry pick lacks
  entry_alike t agree same =
      first_ext (key_in P t) (key_in P t) (wants P d t (had P d t)) (wants P d' t (had P d' t)) P.count (λ i li. refl) (λ i li. lacks_alike t agree i li (same i li))

  -- What is had before slice t, and its entry, go by the jobs released at or before it.
  pub had_by_released : (t : ℕ) → AgreeUpTo t → (i : ℕ) → i < P.count → had P d t i ≡ had P d' t i
  had_by_released zero agree i li = had_first_lem P d i ∙ sym (had_first_lem P d' i)
  had_by_released (suc t) agree i li =
      let before = had_by_released t (agree_before t agree) in
      ⊎_elim
      (λ (l : suc (age P i t) < P.period i).
      omega (arith, had_goes_on P S d i li t l, had_goes_on P S d' i li t l, before i li, ap (λ (e : ℕ). gets e i) (entry_alike t (agree_before t agree) before)))
      (λ (e : suc (age P i t) ≡ P.period i). had_anew P S d i li t e ∙ sym (had_anew P S d' i li t e))
      (goes_on_or_ends P S i li t)

  pub entry_by_released : (t : ℕ) → AgreeUpTo t → entry P d t ≡ entry P d' t
  entry_by_released t agree = entry_alike t agree (had_by_released t agree)

-- Needs by the run-times fill the table.
pub filling_by_runtime : (P : Plan) → Sound P → (t : ℕ) → filling P P.runtime t ≡ table P t
unfolding filling table takes
filling_by_runtime P S t = entry_by_released P S (takes P P.runtime) P.runtime t (λ i k li l. omega arith)

-- Every filling run is explained, so the table is.
pub whole_run_explained : (P : Plan) (cycle : ℕ) (run : List ℕ) (need : Demand) → ((i k : ℕ) → i < P.count → k < cycle / P.period i → 1 ≤ need i k)
    → ((t : ℕ) → t < cycle → at run t ≡ filling P need t) → Explains P cycle run need
whole_run_explained P cycle run need from same = record { needs_from = from; leads = λ t l. sym (same t l) }

pub table_explained : (P : Plan) → Sound P → (cycle : ℕ) (run : List ℕ) → ((i k : ℕ) → i < P.count → 1 ≤ P.runtime i k) → ((t : ℕ) → t < cycle → at run t ≡ table P t)
    → Explains P cycle run P.runtime
table_explained P S cycle run some same =
    whole_run_explained P cycle run P.runtime (λ i k li lk. some i k li) (λ t l. same t l ∙ sym (filling_by_runtime P S t))

-- ---- jobs within a cycle
module _ (P : Plan) (cycle : ℕ) (divides : (i : ℕ) → i < P.count → P.period i ∣ cycle) where
  -- The slices of a job's period lie within the cycle, and whatever is released within the cycle is one of its jobs.
  pub window_within : (i k n : ℕ) → i < P.count → k < cycle / P.period i → n < P.period i → release P i k + n < cycle
  unfolding release
  window_within i k n li lk ln = omega (arith, div-mul_cancel (P.period i) (divides i li), mul-le-mul_right (P.period i) lk)

  pub released_within : (i k t : ℕ) → i < P.count → release P i k ≤ t → t < cycle → k < cycle / P.period i
  unfolding release
  released_within i k t li l lt =
      ⊎_elim
      (λ (past : cycle / P.period i ≤ k). absurd (omega (arith, div-mul_cancel (P.period i) (divides i li), mul-le-mul_right (P.period i) past)))
      (λ (lk : k < cycle / P.period i). lk)
      (le_or_lt (cycle / P.period i) k)

module _ (P : Plan) (S : Sound P) (cycle : ℕ) (divides : (i : ℕ) → i < P.count → P.period i ∣ cycle)
    (on : OnTimeUpTo P P.runtime cycle) (some : (i k : ℕ) → i < P.count → 1 ≤ P.runtime i k) where
  a_slice_each : (i : ℕ) → i < P.count → cycle / P.period i ≤ given P P.runtime i 0 cycle
  unfolding release OnTimeUpTo
  a_slice_each i li =
      omega (
        arith,
        sum_same 1 (cycle / P.period i),
        sum_le (λ _. 1) (P.runtime i) (cycle / P.period i) (λ k lk. some i k li),
        entries_of_jobs P S P.runtime i li (cycle / P.period i) (λ k lk. on i k li (deadline_within P S i k cycle li lk)),
        ap (given P P.runtime i 0) (div-mul_cancel (P.period i) (divides i li)),
      )

  -- A cycle that is on time has a slice for each of its jobs.
  pub jobs_within_cycle : sum (λ i. cycle / P.period i) P.count ≤ cycle
  jobs_within_cycle =
      omega (arith, entries_add_up P P.runtime 0 cycle, sum_le (λ i. cycle / P.period i) (λ i. given P P.runtime i 0 cycle) P.count a_slice_each)

-- ---- the one candidate
module _ (P : Plan) (S : Sound P) (cycle : ℕ) (divides : (i : ℕ) → i < P.count → P.period i ∣ cycle) (on : OnTimeUpTo P P.runtime cycle) (run : List ℕ) where
  -- Of an accepted plan, the run gives every job just what it takes.
  pub only_candidate : (need : Demand) → Explains P cycle run need → (i k : ℕ) → i < P.count → k < cycle / P.period i → given_in P run i k ≡ takes P need i k
  unfolding given_in filling given OnTimeUpTo
  only_candidate need explains i k li lk =
      sum_ext (λ n. gets (at run (release P i k + n)) i) (λ n. gets (entry P (takes P need) (release P i k + n)) i) (P.period i)
      (λ n ln. ap (λ (e : ℕ). gets e i) (sym (explains.leads (release P i k + n) (window_within P cycle divides i k n li lk ln))))
      ∙ on_time_exact P S (takes P need) i li k (P.period i) (filling_on_time P S cycle on need i k li (deadline_within P S i k cycle li lk)) (S.due_within i li) (omega arith)

  -- Two needs that explain the run, and ask for no more than the run-times, are one.
  pub one_explanation : (need need' : Demand) → Explains P cycle run need → Explains P cycle run need'
      → ((i k : ℕ) → i < P.count → k < cycle / P.period i → need i k ≤ P.runtime i k) → ((i k : ℕ) → i < P.count → k < cycle / P.period i → need' i k ≤ P.runtime i k)
      → (i k : ℕ) → i < P.count → k < cycle / P.period i → need i k ≡ need' i k
  unfolding takes
  one_explanation need need' explains explains' most most' i k li lk =
      omega (arith, only_candidate need explains i k li lk, only_candidate need' explains' i k li lk, most i k li lk, most' i k li lk)

  -- What the candidate fills is what any needs fill that explain the run.
  pub candidate_leads : (need : Demand) → Explains P cycle run need → (t : ℕ) → t < cycle → filling P (given_in P run) t ≡ at run t
  unfolding filling takes
  candidate_leads need explains t l =
      entry_by_released P S (takes P (given_in P run)) (takes P need) t (λ i k li r. omega (arith, only_candidate need explains i k li (released_within P cycle divides i k t li r l)))
      ∙ explains.leads t l

  module _ (some : (i k : ℕ) → i < P.count → 1 ≤ P.runtime i k) where
    -- So the candidate is from 1 to the run-time, and it explains the run.
    pub candidate_within : (need : Demand) → Explains P cycle run need → (i k : ℕ) → i < P.count → k < cycle / P.period i → (1 ≤ given_in P run i k) × (given_in P run i k ≤ P.runtime i k)
    unfolding takes
    candidate_within need explains i k li lk =
        (omega (arith, only_candidate need explains i k li lk, explains.needs_from i k li lk, some i k li), omega (arith, only_candidate need explains i k li lk))

    pub candidate_explains : (need : Demand) → Explains P cycle run need → Explains P cycle run (given_in P run)
    candidate_explains need explains = record { needs_from = λ i k li lk. (candidate_within need explains i k li lk).0; leads = candidate_leads need explains }

    -- The run has needs exactly if the candidate explains it.
    pub explained_exactly : ((need : Demand) × Explains P cycle run need) ↔ Explains P cycle run (given_in P run)
    explained_exactly = (λ h. candidate_explains h.0 h.1, λ explains. (given_in P run, explains))

    -- No needs explain a run of which one slice is not as the candidate fills it, or one job has no slice or more than its run-time.
    pub not_if_other : (t : ℕ) → t < cycle → (filling P (given_in P run) t ≡ at run t → ⊥) → (need : Demand) → Explains P cycle run need → ⊥
    not_if_other t l other need explains = other (candidate_leads need explains t l)

    pub not_if_outside : (i k : ℕ) → i < P.count → k < cycle / P.period i → (given_in P run i k ≡ 0) ⊎ (P.runtime i k < given_in P run i k)
        → (need : Demand) → Explains P cycle run need → ⊥
    not_if_outside i k li lk outside need explains =
        let inside = candidate_within need explains i k li lk in
        ⊎_elim (λ (none : given_in P run i k ≡ 0). omega (arith, inside.0)) (λ (above : P.runtime i k < given_in P run i k). omega (arith, inside.1)) outside

    pub not_if : ((t : ℕ) × (t < cycle) × (filling P (given_in P run) t ≡ at run t → ⊥))
        ⊎ ((i : ℕ) × (k : ℕ) × (i < P.count) × (k < cycle / P.period i) × ((given_in P run i k ≡ 0) ⊎ (P.runtime i k < given_in P run i k)))
        → (need : Demand) → Explains P cycle run need → ⊥
    not_if against need explains =
        ⊎_elim
        (λ h. not_if_other h.0 h.1 h.2 need explains)
        (λ h. not_if_outside h.0 h.1 h.2 h.3 h.4 need explains)
        against

-- ---- for a walk slice by slice
-- At its release a job has had nothing, and it takes what the run gives it, up to its run-time.
pub walk_release : (P : Plan) → Sound P → (run : List ℕ) (i t : ℕ) → i < P.count → age P i t ≡ 0
    → (had P (takes P (given_in P run)) t i ≡ 0) × (takes P (given_in P run) i (job P i t) ≡ min (given_in P run i (job P i t)) (P.runtime i (job P i t)))
unfolding takes
walk_release P S run i t li z =
    (had_since P S (takes P (given_in P run)) i li t ∙ given_in_none P (takes P (given_in P run)) i (release P i (job P i t)) (age P i t) z, refl)

pub explains_if : (P : Plan) (cycle : ℕ) (run : List ℕ) → ((t : ℕ) → t < cycle → filling P (given_in P run) t ≡ at run t)
    → ((i k : ℕ) → i < P.count → k < cycle / P.period i → 1 ≤ given_in P run i k) → Explains P cycle run (given_in P run)
explains_if P cycle run leads from = whole_run_explained P cycle run (given_in P run) from (λ t l. sym (leads t l))
