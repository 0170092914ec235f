-- Domination. Of two runs over one plan, the one with the smaller demands is ahead, as long as the other is on time; so
-- lowering needs delays no job, filling freed slices ends no job later than the table does, and no filling run is late.
use Rattle.std.specs.Prelude.{◌≡◌, refl}
use Rattle.std.proofs.Math.Path.{sym, ap}
use Rattle.std.proofs.Common.{◌∙◌}
use Rattle.std.proofs.Math.Logic.{inl, inr, ⊎_elim}
use Prim.Native.Nat.{ℕ, zero, suc, ◌+◌, ◌-◌, ◌≤◌, ◌<◌}
use native.Mathlib.Omega.{arith}
use Rattle.basis.specs.Choose.{le_or_lt, eq_or_ne}
use Rattle.plan.specs.Plan.{Plan, Sound, Demand, release, deadline, job, age, key_in, gets, had, entry, given, HadBy, EndsBy, EndsByTable, OnTime, OnTimeUpTo, takes}
use Rattle.plan.specs.Work.{after}
use Rattle.plan.specs.Run.{lacks}
use Rattle.plan.proofs.Run.{goes_on_or_ends, age_goes_on, job_goes_on, job_at, age_at, release_age, lacks_open, lacks_shut, lacks_goes_on, entry_law, had_anew, had_first_lem, had_after_lem, given_at, given_in_none}
use Rattle.plan.specs.Ahead.{Ahead, Stays, Turns}
use Rattle.plan.proofs.Ahead.{ahead_at_start, ahead_after, ahead_turned}

-- a larger demand lacks more, where as much was had
lacks_more : (P : Plan) (d d' c c' : Demand) (t i : ℕ) → ((k : ℕ) → d i k ≤ d' i k) → had P c' t i ≤ had P c t i → lacks P d c t i ≤ lacks P d' c' t i
lacks_more P d d' c c' t i l h =
    ⊎_elim
    (λ (o : P.due i ≤ age P i t). omega (arith, lacks_shut P d c t i o))
    (λ (o : age P i t < P.due i). omega (arith, lacks_open P d c t i o, lacks_open P d' c' t i o, l (job P i t)))
    (le_or_lt (P.due i) (age P i t))

module _ (P : Plan) (S : Sound P) (d c : Demand) (i : ℕ) (li : i < P.count) where
  -- at its deadline a job that is on time lacks nothing
  lacks_none : (t : ℕ) → P.due i ≤ suc (age P i t) → (suc (age P i t) ≡ P.due i → d i (job P i t) ≤ had P c t i + gets (entry P c t) i)
      → lacks P d c t i - gets (entry P c t) i ≡ 0
  lacks_none t l on_time =
      ⊎_elim
      (λ (e : suc (age P i t) ≡ P.due i). omega (arith, lacks_open P d c t i (omega arith), on_time e))
      (λ (ne : suc (age P i t) ≡ P.due i → ⊥). omega (arith, lacks_shut P d c t i (omega arith)))
      (eq_or_ne (suc (age P i t)) (P.due i))

module _ (P : Plan) (S : Sound P) (d : Demand) (i : ℕ) (li : i < P.count) where
  -- a job with its deadline after slice t that is on time has had its demand then
  pub had_by_deadline : (t : ℕ) → OnTimeUpTo P d (suc t) → suc (age P i t) ≡ P.due i → d i (job P i t) ≤ had P d t i + gets (entry P d t) i
  unfolding OnTimeUpTo OnTime HadBy deadline
  had_by_deadline t on e =
      rw (had_after_lem P S d i li t, e) (on i (job P i t) li (omega (arith, release_age P S i li t)))

pub on_time_before : (P : Plan) (d : Demand) (s t : ℕ) → s ≤ t → OnTimeUpTo P d t → OnTimeUpTo P d s
unfolding OnTimeUpTo
on_time_before P d s t l on i k li h = on i k li (omega arith)

-- Demands b ≤ w ≤ a.
module _ (P : Plan) (S : Sound P) (b w a : Demand)
    (bw : (i k : ℕ) → i < P.count → b i k ≤ w i k) (wa : (i k : ℕ) → i < P.count → w i k ≤ a i k) where
  AheadAt : ℕ → Type 0
  AheadAt t = Ahead P.count (key_in P t) (lacks P b b t) (lacks P a a t) (lacks P w a t)

  AheadAfter : ℕ → Type 0
  AheadAfter t = Ahead P.count (key_in P t) (after (entry P b t) (lacks P b b t)) (after (entry P a t) (lacks P a a t)) (after (entry P a t) (lacks P w a t))

  starts_less : (t i : ℕ) → i < P.count → had P b t i ≡ had P a t i → lacks P b b t i ≤ lacks P w a t i
  starts_less t i li e = lacks_more P b w b a t i (λ k. bw i k li) (omega arith)

  lacks_less : (t i : ℕ) → i < P.count → lacks P w a t i ≤ lacks P a a t i
  lacks_less t i li = lacks_more P w a a a t i (λ k. wa i k li) (omega arith)

  slice : (t : ℕ) → AheadAt t → AheadAfter t
  unfolding AheadAt AheadAfter
  slice t so_far = ahead_after P.count (key_in P t) (lacks P b b t) (lacks P a a t) (lacks P w a t) (entry P b t) (entry P a t) (entry_law P b t) (entry_law P a t) (lacks_less t) so_far

  stays : (t i : ℕ) → i < P.count → suc (age P i t) < P.due i
      → Stays (key_in P t) (after (entry P b t) (lacks P b b t)) (after (entry P a t) (lacks P a a t)) (after (entry P a t) (lacks P w a t))
      (key_in P (suc t)) (lacks P b b (suc t)) (lacks P a a (suc t)) (lacks P w a (suc t)) i
  unfolding after key_in
  stays t i li l = record {
    key_same = ap (P.key i) (job_goes_on P S i li t (omega (arith, S.due_within i li)));
    fast_same = lacks_goes_on P S b b i li t l;
    slow_same = lacks_goes_on P S a a i li t l;
    rest_same = lacks_goes_on P S w a i li t l;
  }

  turns : (t : ℕ) → OnTimeUpTo P a (suc t) → AheadAfter t → (i : ℕ) → i < P.count → P.due i ≤ suc (age P i t)
      → Turns (after (entry P b t) (lacks P b b t)) (after (entry P a t) (lacks P a a t)) (lacks P b b (suc t)) (lacks P a a (suc t)) (lacks P w a (suc t)) i
  unfolding after AheadAfter
  turns t on so_far i li l = record {
    fast_ended = so_far.ended i li (lacks_none P S w a i li t l (λ e. omega (arith, wa i (job P i t) li, by_deadline e)));
    slow_ended = lacks_none P S a a i li t l by_deadline;
    fast_less =
        ⊎_elim
        (λ (o : suc (age P i t) < P.period i). omega (arith, lacks_shut P b b (suc t) i (omega (arith, age_goes_on P S i li t o))))
        (λ (e : suc (age P i t) ≡ P.period i). starts_less (suc t) i li (had_anew P S b i li t e ∙ sym (had_anew P S a i li t e)))
        (goes_on_or_ends P S i li t);
    rest_less = lacks_less (suc t) i li;
  }
    where
      by_deadline : suc (age P i t) ≡ P.due i → a i (job P i t) ≤ had P a t i + gets (entry P a t) i
      by_deadline e = had_by_deadline P S a i li t on e

  turn : (t : ℕ) → OnTimeUpTo P a (suc t) → AheadAfter t → AheadAt (suc t)
  unfolding AheadAt AheadAfter
  turn t on so_far =
      ahead_turned P.count
      (key_in P t) (after (entry P b t) (lacks P b b t)) (after (entry P a t) (lacks P a a t)) (after (entry P a t) (lacks P w a t))
      (key_in P (suc t)) (lacks P b b (suc t)) (lacks P a a (suc t)) (lacks P w a (suc t))
      (λ i li. ⊎_elim (λ (l : P.due i ≤ suc (age P i t)). inr (turns t on so_far i li l)) (λ (l : suc (age P i t) < P.due i). inl (stays t i li l)) (le_or_lt (P.due i) (suc (age P i t))))
      so_far

  -- The run under b is ahead before every slice up to which the run under a is on time.
  ahead_at : (t : ℕ) → OnTimeUpTo P a t → AheadAt t
  unfolding AheadAt
  ahead_at zero on = ahead_at_start P.count (key_in P 0) (lacks P b b 0) (lacks P a a 0) (lacks P w a 0) (λ i li. starts_less 0 i li (had_first_lem P b i ∙ sym (had_first_lem P a i))) (lacks_less 0)
  ahead_at (suc t) on = turn t on (slice t (ahead_at t (on_time_before P a t (suc t) (omega arith) on)))

  -- Whichever job has had w of its slices in the run under a has ended in the run under b, by every slice up to which
  -- the run under a is on time.
  pub domination : (t : ℕ) → OnTimeUpTo P a t → (i k m : ℕ) → i < P.count → m ≤ P.due i → release P i k + m ≤ t
      → HadBy P a i k (w i k) m → HadBy P b i k (b i k) m
  unfolding HadBy AheadAfter after
  domination t on i k zero li l r h = omega (arith, bw i k li, given_in_none P a i (release P i k) 0 refl)
  domination t on i k (suc m) li l r h = ended_in (slice (release P i k + m) (ahead_at (release P i k + m) (on_time_before P a (release P i k + m) t (omega arith) on)))
    where
      m_in : m < P.period i
      m_in = omega (arith, S.due_within i li)

      open_at : age P i (release P i k + m) < P.due i
      open_at = omega (arith, age_at P S i li k m m_in)

      ended_in : AheadAfter (release P i k + m) → b i k ≤ given P b i (release P i k) (suc m)
      ended_in so_far =
          omega (
            arith,
            so_far.ended i li (omega (arith, lacks_open P w a (release P i k + m) i open_at, ap (w i) (job_at P S i li k m m_in), given_at P S a i li k m m_in)),
            lacks_open P b b (release P i k + m) i open_at,
            ap (b i) (job_at P S i li k m m_in),
            given_at P S b i li k m m_in,
          )

-- Under smaller demands no job ends later, as long as the run under the larger ones is on time.
pub lower_ends_no_later : (P : Plan) → Sound P → (b a : Demand) → ((i k : ℕ) → i < P.count → b i k ≤ a i k) → (t : ℕ) → OnTimeUpTo P a t
    → (i k m : ℕ) → i < P.count → m ≤ P.due i → release P i k + m ≤ t → EndsBy P a i k m → EndsBy P b i k m
lower_ends_no_later P S b a ba t on = domination P S b a a ba (λ i k li. omega arith) t on

-- So the run under the smaller ones is on time, too.
pub lower_on_time : (P : Plan) → Sound P → (b a : Demand) → ((i k : ℕ) → i < P.count → b i k ≤ a i k) → (t : ℕ) → OnTimeUpTo P a t → OnTimeUpTo P b t
unfolding OnTimeUpTo OnTime deadline
lower_on_time P S b a ba t on i k li l = lower_ends_no_later P S b a ba t on i k (P.due i) li (omega arith) l (on i k li l)

-- ---- runs with needs, of a plan that is on time
module _ (P : Plan) (S : Sound P) (t : ℕ) (on : OnTimeUpTo P P.runtime t) where
  takes_within : (need : Demand) (i k : ℕ) → i < P.count → takes P need i k ≤ P.runtime i k
  unfolding takes
  takes_within need i k li = omega arith

  -- No filling run is late.
  pub filling_on_time : (need : Demand) → OnTimeUpTo P (takes P need) t
  filling_on_time need = lower_on_time P S (takes P need) P.runtime (takes_within need) t on

  -- Lowering needs, whichever jobs they belong to, delays no job of a filling run.
  pub lower_needs_delay_none : (need need' : Demand) → ((i k : ℕ) → i < P.count → need' i k ≤ need i k) → (i k m : ℕ) → i < P.count → m ≤ P.due i → release P i k + m ≤ t
      → EndsBy P (takes P need) i k m → EndsBy P (takes P need') i k m
  unfolding takes
  lower_needs_delay_none need need' less =
      lower_ends_no_later P S (takes P need') (takes P need) (λ i k li. omega (arith, less i k li)) t (filling_on_time need)

  -- Filling ends no job later than the run by the table with the same needs.
  pub filling_ends_no_later : (need : Demand) (i k m : ℕ) → i < P.count → m ≤ P.due i → release P i k + m ≤ t
      → EndsByTable P need i k m → EndsBy P (takes P need) i k m
  filling_ends_no_later need =
      domination P S (takes P need) (takes P need) P.runtime (λ i k li. omega arith) (takes_within need) t on
