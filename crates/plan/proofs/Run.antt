-- Laws of a run under a demand: how what a job has had goes on from slice to slice, and that it never has more than its demand.
use Rattle.std.specs.Prelude.{◌≡◌, ◌⊎◌, ℕ, zero, suc, ◌+◌, ◌-◌, ◌≤◌, ◌<◌, ltb, eqb, length, replicate}
use Rattle.std.proofs.Math.Path.{refl}
use Rattle.std.proofs.Common.{sym, ap, ◌∙◌, inl, inr, arith, lt-ltb, le-ltb, eq-eqb, ne_eqb}
use Rattle.std.proofs.Math.Logic.{⊎_elim}
use Rattle.std.proofs.Math.Nat.{mod-lt, zero-mod, div-add-mod'}
use Rattle.std.proofs.Math.ListN.{length-replicate, get_or-replicate, get_or-eq_default}
use Rattle.basis.specs.Bytes.{overwrite-length, overwrite_at}
use Rattle.basis.specs.Choose.{choose, choose_yes, choose_no, le_or_lt, eq_or_ne}
use Rattle.basis.specs.Sum.{sum}
use Rattle.basis.proofs.Slices.{div_at, mod_at, div_same, mod_same, div_next, mod_next}
use Rattle.plan.specs.Plan.{Plan, Sound, Demand, release, job, age, key_in, wants, pick, gets, had_after, had_all, had, entry, given, IsFirst}
use Rattle.plan.proofs.Rank.{first_law}
use Rattle.plan.proofs.Work.{gets_cases, got_wants}
use Rattle.plan.specs.Run.{lacks}

-- ---- a task's current job, one slice further on
module _ (P : Plan) (S : Sound P) (i : ℕ) (li : i < P.count) where
  pos : 0 < P.period i
  pos = S.period_pos i li

  pub age_below : (t : ℕ) → age P i t < P.period i
  unfolding age
  age_below t = mod-lt t pos

  -- the job goes on, or it was its last slice
  pub goes_on_or_ends : (t : ℕ) → (suc (age P i t) < P.period i) ⊎ (suc (age P i t) ≡ P.period i)
  goes_on_or_ends t = ⊎_elim (λ (e : suc (age P i t) ≡ P.period i). inr e) (λ (ne : suc (age P i t) ≡ P.period i → ⊥). inl (omega (arith, age_below t))) (eq_or_ne (suc (age P i t)) (P.period i))

  pub age_goes_on : (t : ℕ) → suc (age P i t) < P.period i → age P i (suc t) ≡ suc (age P i t)
  unfolding age
  age_goes_on t l = mod_same (P.period i) pos t l

  pub job_goes_on : (t : ℕ) → suc (age P i t) < P.period i → job P i (suc t) ≡ job P i t
  unfolding age job
  job_goes_on t l = div_same (P.period i) pos t l

  pub age_anew : (t : ℕ) → suc (age P i t) ≡ P.period i → age P i (suc t) ≡ 0
  unfolding age
  age_anew t e = mod_next (P.period i) pos t e

  pub job_anew : (t : ℕ) → suc (age P i t) ≡ P.period i → job P i (suc t) ≡ suc (job P i t)
  unfolding age job
  job_anew t e = div_next (P.period i) pos t e

  -- slice t is slice `age` of its job's window
  pub release_age : (t : ℕ) → release P i (job P i t) + age P i t ≡ t
  unfolding release job age
  release_age t = div-add-mod' t (P.period i)

  pub job_at : (k m : ℕ) → m < P.period i → job P i (release P i k + m) ≡ k
  unfolding release job
  job_at k m l = div_at (P.period i) pos k m l

  pub age_at : (k m : ℕ) → m < P.period i → age P i (release P i k + m) ≡ m
  unfolding release age
  age_at k m l = mod_at (P.period i) pos k m l

module _ (P : Plan) (d c : Demand) where
  pub lacks_open : (t i : ℕ) → age P i t < P.due i → lacks P d c t i ≡ d i (job P i t) - had P c t i
  unfolding lacks wants
  lacks_open t i l = choose_yes (ltb (age P i t) (P.due i)) (d i (job P i t) - had P c t i) 0 (lt-ltb (age P i t) (P.due i) l)

  pub lacks_shut : (t i : ℕ) → P.due i ≤ age P i t → lacks P d c t i ≡ 0
  unfolding lacks wants
  lacks_shut t i l = choose_no (ltb (age P i t) (P.due i)) (d i (job P i t) - had P c t i) 0 (le-ltb (age P i t) (P.due i) l)

  pub lacks_most : (t i : ℕ) → lacks P d c t i ≤ d i (job P i t) - had P c t i
  lacks_most t i =
      ⊎_elim
      (λ (o : P.due i ≤ age P i t). omega (arith, lacks_shut t i o))
      (λ (l : age P i t < P.due i). omega (arith, lacks_open t i l))
      (le_or_lt (P.due i) (age P i t))

-- the entry of slice t is the first-ranking task whose job lacks a slice of its demand
pub entry_law : (P : Plan) (d : Demand) (t : ℕ) → IsFirst (key_in P t) (lacks P d d t) P.count (entry P d t)
unfolding lacks entry pick
entry_law P d t = first_law (key_in P t) (wants P d t (had P d t)) P.count

-- ---- what is given
module _ (P : Plan) (d : Demand) (i : ℕ) where
  pub given_in_none : (s m : ℕ) → m ≡ 0 → given P d i s m ≡ 0
  unfolding given sum
  given_in_none s m z = rw z

  pub given_more : (s m : ℕ) → given P d i s (suc m) ≡ given P d i s m + gets (entry P d (s + m)) i
  unfolding given sum
  given_more s m = refl

  pub had_first_lem : had P d 0 i ≡ 0
  unfolding had had_all
  had_first_lem =
      ⊎_elim
      (λ (o : P.count ≤ i). get_or-eq_default (replicate P.count 0) 0 (omega (arith, length-replicate {A = ℕ} P.count 0)))
      (λ (l : i < P.count). get_or-replicate P.count i 0 0 l)
      (le_or_lt P.count i)

  age_first : age P i 0 ≡ 0
  unfolding age
  age_first = zero-mod (P.period i)

  -- what the current job has had after slice t, if it is given what it has had before it
  one_more : (t : ℕ) → release P i (job P i t) + age P i t ≡ t → had P d t i ≡ given P d i (release P i (job P i t)) (age P i t)
      → had P d t i + gets (entry P d t) i ≡ given P d i (release P i (job P i t)) (suc (age P i t))
  one_more t r h = rw (given_more (release P i (job P i t)) (age P i t), r) (omega arith)

-- ---- what is had
-- there is a number for each task
had-length : (P : Plan) (d : Demand) (t : ℕ) → length (had_all P d t) ≡ P.count
unfolding had_all had_after
had-length P d zero = length-replicate P.count 0
had-length P d (suc t) = overwrite-length _ (had_all P d t) P.count ∙ had-length P d t

pub had_next : (P : Plan) (d : Demand) (i : ℕ) → i < P.count → (t : ℕ) → had P d (suc t) i ≡ choose (eqb (age P i (suc t)) 0) 0 (had P d t i + gets (entry P d t) i)
unfolding had had_all had_after entry
had_next P d i li t = overwrite_at _ (had_all P d t) 0 P.count i li (omega (arith, had-length P d t))

module _ (P : Plan) (S : Sound P) (d : Demand) (i : ℕ) (li : i < P.count) where
  pub had_goes_on : (t : ℕ) → suc (age P i t) < P.period i → had P d (suc t) i ≡ had P d t i + gets (entry P d t) i
  had_goes_on t l = had_next P d i li t ∙ choose_no _ _ _ (ne_eqb (age P i (suc t)) 0 (λ e. omega (arith, age_goes_on P S i li t l)))

  pub had_anew : (t : ℕ) → suc (age P i t) ≡ P.period i → had P d (suc t) i ≡ 0
  had_anew t e = had_next P d i li t ∙ choose_yes _ _ _ (eq-eqb (age P i (suc t)) 0 (age_anew P S i li t e))

  -- whoever gets a slice has had less than its demand
  pub had_room : (t : ℕ) → entry P d t ≡ suc i → had P d t i < d i (job P i t)
  had_room t h = omega (arith, (got_wants P.count (key_in P t) (lacks P d d t) (entry P d t) (entry_law P d t) i h).1, lacks_most P d d t i)

  -- so the slice included it has had no more
  within : (t : ℕ) → had P d t i ≤ d i (job P i t) → had P d t i + gets (entry P d t) i ≤ d i (job P i t)
  within t h =
      ⊎_elim
      (λ (g : (entry P d t ≡ suc i) × (gets (entry P d t) i ≡ 1)). omega (arith, had_room t g.0))
      (λ (g : (entry P d t ≡ suc i → ⊥) × (gets (entry P d t) i ≡ 0)). omega arith)
      (gets_cases (entry P d t) i)

  pub had_most : (t : ℕ) → had P d t i ≤ d i (job P i t)
  had_most zero = omega (arith, had_first_lem P d i)
  had_most (suc t) =
      ⊎_elim
      (λ (l : suc (age P i t) < P.period i). omega (arith, had_goes_on t l, within t (had_most t), ap (d i) (job_goes_on P S i li t l)))
      (λ (e : suc (age P i t) ≡ P.period i). omega (arith, had_anew t e))
      (goes_on_or_ends P S i li t)

  pub had_within : (t : ℕ) → had P d t i + gets (entry P d t) i ≤ d i (job P i t)
  had_within t = within t (had_most t)

  -- Before slice t its current job has had what the task was given since its release.
  pub had_since : (t : ℕ) → had P d t i ≡ given P d i (release P i (job P i t)) (age P i t)
  had_since zero = had_first_lem P d i ∙ sym (given_in_none P d i (release P i (job P i 0)) (age P i 0) (age_first P d i))
  had_since (suc t) =
      ⊎_elim
      (λ (l : suc (age P i t) < P.period i).
      had_goes_on t l ∙ rw (job_goes_on P S i li t l, age_goes_on P S i li t l) (one_more P d i t (release_age P S i li t) (had_since t)))
      (λ (e : suc (age P i t) ≡ P.period i). had_anew t e ∙ sym (given_in_none P d i (release P i (job P i (suc t))) (age P i (suc t)) (age_anew P S i li t e)))
      (goes_on_or_ends P S i li t)

  pub had_after_lem : (t : ℕ) → had P d t i + gets (entry P d t) i ≡ given P d i (release P i (job P i t)) (suc (age P i t))
  had_after_lem t = one_more P d i t (release_age P S i li t) (had_since t)

  -- Of job k: m slices after its release it has had what the task was given in them, and so with the slice that follows.
  pub had_at : (k m : ℕ) → m < P.period i → had P d (release P i k + m) i ≡ given P d i (release P i k) m
  had_at k m l = rw (job_at P S i li k m l, age_at P S i li k m l) at (had_since (release P i k + m))

  pub given_at : (k m : ℕ) → m < P.period i → given P d i (release P i k) (suc m) ≡ had P d (release P i k + m) i + gets (entry P d (release P i k + m)) i
  given_at k m l = omega (arith, given_more P d i (release P i k) m, had_at k m l)

  -- No job is given more than its demand.
  pub never_more : (k m : ℕ) → m ≤ P.period i → given P d i (release P i k) m ≤ d i k
  never_more k zero l = omega (arith, given_in_none P d i (release P i k) 0 refl)
  never_more k (suc m) l = omega (arith, given_at k m l, had_within (release P i k + m), ap (d i) (job_at P S i li k m l))

-- While a job goes on to its deadline, a slice of the run takes from what it lacks.
pub lacks_goes_on : (P : Plan) (S : Sound P) (d c : Demand) (i : ℕ) (li : i < P.count) (t : ℕ) → suc (age P i t) < P.due i
    → lacks P d c (suc t) i ≡ lacks P d c t i - gets (entry P c t) i
lacks_goes_on P S d c i li t l =
    let on : suc (age P i t) < P.period i = omega (arith, S.due_within i li) in
    omega (
      arith,
      lacks_open P d c (suc t) i (omega (arith, age_goes_on P S i li t on)),
      lacks_open P d c t i (omega arith),
      had_goes_on P S c i li t on,
      ap (d i) (job_goes_on P S i li t on),
    )
