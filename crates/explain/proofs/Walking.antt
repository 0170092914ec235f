-- The walk back over arrays of numbers, tied to the plan that they show: at each slice it says whether the slice agrees.
use mathlib.Core.Path.{◌≡◌, refl, sym, ap, ◌∙◌}
use mathlib.Core.Bool.{Bool, true, false, true≢false, ◌&&◌}
use mathlib.Core.List.{List}
use mathlib.Core.Logic.{⊎_elim}
use Prim.Native.Nat.{ℕ, zero, suc, ◌+◌, ◌-◌, ◌*◌, ◌≤◌, ◌<◌, ◌∣◌}
use native.Mathlib.Omega.{arith}
use native.Mathlib.Numerals.{add-one}
use native.Mathlib.Nat.{div-mul_cancel, mul-le-mul_right}
use lib.Dec.{eqb, leb}
use lib.ListN.{length, set, replicate, length-replicate, get_or-replicate, get_or-eq_default}
use borrow.Author.Tests.{eq-eqb, ne_eqb}
use Rattle.basis.specs.Bytes.{at, overwrite, overwrite-length, overwrite_kept, overwrite_next, overwrite_at, zeros}
use Rattle.basis.specs.Choose.{choose, choose_yes, choose_no, choose_either, eq_or_ne, below_suc, both_true, ltb_same, within, within_tells, is_within}
use Rattle.basis.specs.Sum.{sum_zero, sum_le, sum_same}
use Rattle.plan.specs.Plan.{Plan, Sound, release, job, age, key_in, gets, first}
use Rattle.plan.proofs.Work.{gets_none, gets_cases}
use Rattle.plan.specs.Order.{FirstIn}
use Rattle.plan.proofs.Order.{ranked_first}
use Rattle.plan.proofs.Run.{release_age, goes_on_or_ends, job_goes_on, age_anew, job_anew}
use Rattle.ranking.specs.Ranks.{Shows}
use Rattle.explain.specs.Shapes.{start_then, got_then, fits_at, all_to, start_at, got_at, CanGoBack, Back, waits_for, waits_at, CanWait}
use Rattle.explain.proofs.Agreeing.{rest, waits, Agrees, rest_last, rest_goes_on}

-- ---- tests
pub all_tells : (test : ℕ → Bool) (n : ℕ) → all_to test n ≡ true → (k : ℕ) → k < n → test k ≡ true
unfolding all_to
all_tells test zero e k l = absurd (omega arith)
all_tells test (suc n) e k l =
    let h = (both_true (all_to test n) (test n)).0 e in
    ⊎_elim (λ (b : k < n). all_tells test n h.0 k b) (λ (q : k ≡ n). ap test q ∙ h.1) (below_suc k n l)

pub all_so : (test : ℕ → Bool) (n : ℕ) → ((k : ℕ) → k < n → test k ≡ true) → all_to test n ≡ true
unfolding all_to
all_so test zero h = refl
all_so test (suc n) h = (both_true (all_to test n) (test n)).1 (all_so test n (λ k l. h k (omega arith)), h n (omega arith))

module _ (start got runtime t : ℕ) where
  fits_tells : fits_at start got runtime t ≡ true → start ≡ t → (1 ≤ got) × (got ≤ runtime)
  unfolding fits_at
  fits_tells e s = within_tells 1 runtime got (sym (choose_yes (eqb start t) (within 1 runtime got) true (eq-eqb start t s)) ∙ e)

  fits_so : (start ≡ t → (1 ≤ got) × (got ≤ runtime)) → fits_at start got runtime t ≡ true
  unfolding fits_at
  fits_so h =
      ⊎_elim
      (λ (s : start ≡ t). choose_yes (eqb start t) (within 1 runtime got) true (eq-eqb start t s) ∙ is_within 1 runtime got (h s).0 (h s).1)
      (λ (ne : start ≡ t → ⊥). choose_no (eqb start t) (within 1 runtime got) true (ne_eqb start t ne))
      (eq_or_ne start t)

  pub fits_elsewhere : (start ≡ t → ⊥) → true ≡ fits_at start got runtime t
  fits_elsewhere ne = sym (fits_so (λ s. absurd (ne s)))

  pub fits_there : start ≡ t → (leb 1 got && leb got runtime) ≡ fits_at start got runtime t
  unfolding fits_at within
  fits_there s = sym (choose_yes (eqb start t) (within 1 runtime got) true (eq-eqb start t s))

gets_most : (e i : ℕ) → gets e i ≤ 1
gets_most e i = ⊎_elim (λ h. omega (arith, h.1)) (λ h. omega (arith, h.1)) (gets_cases e i)

-- ---- the places one after the other
module _ (order periods runtimes starts₀ got₀ : List ℕ) (t entry : ℕ) where
  pub back_none : Back order periods runtimes starts₀ got₀ 0 t entry starts₀ got₀ true
  unfolding overwrite all_to
  back_none = record { starts_are = refl; got_is = refl; fit_is = refl }

  module _ (k : ℕ) (starts got : List ℕ) (fit : Bool) (B : Back order periods runtimes starts₀ got₀ k t entry starts got fit) where
    -- The next place is still as it was,
    pub start_waits : at starts k ≡ at starts₀ k
    start_waits = ap (λ (l : List ℕ). at l k) B.starts_are ∙ overwrite_kept (start_at periods starts₀ t) starts₀ 0 k k (omega arith)

    pub got_waits : at got k ≡ at got₀ k
    got_waits = ap (λ (l : List ℕ). at l k) B.got_is ∙ overwrite_kept (got_at order starts₀ got₀ t entry) got₀ 0 k k (omega arith)

    -- and what it comes to is small,
    pub own_small : at got₀ k ≤ 4096 → {before own : ℕ} → before ≡ choose (eqb (t + 1) (at starts k)) 0 (at got k) → own ≡ gets entry (at order k) → before + own < 4294967296
    own_small small {before} {own} eb eo =
        omega (
          arith,
          choose_either (λ (x : ℕ). x ≤ 4096) (eqb (t + 1) (at starts k)) 0 (at got k) (omega arith) (omega (arith, got_waits)),
          gets_most entry (at order k),
        )

    -- and then it has gone back too.
    pub back_more : (start before own : ℕ) (fits : Bool) → start ≡ start_then (at starts k) (at periods k) t → before ≡ choose (eqb (t + 1) (at starts k)) 0 (at got k) → own ≡ gets entry (at order k)
        → fits ≡ fits_at start (before + own) (at runtimes k) t → Back order periods runtimes starts₀ got₀ (k + 1) t entry (set starts k start) (set got k (before + own)) (fit && fits)
    unfolding all_to got_then
    back_more start before own fits es eb eo ef =
        let s : start ≡ start_at periods starts₀ t k = es ∙ rw start_waits in
        let g : before + own ≡ got_at order starts₀ got₀ t entry k = rw (eb, eo, start_waits, got_waits) in
        record {
          starts_are = overwrite_next _ starts₀ k starts start B.starts_are s;
          got_is = overwrite_next _ got₀ k got (before + own) B.got_is g;
          fit_is = rw (add-one k, B.fit_is, ef, s, g);
        }

-- ---- where the walk stands
-- Having gone back to slice u, the arrays hold the release of each task's job there, and what the task gets from there on, up to its
-- next release.
pub record StandsAt (P : Plan) (run order : List ℕ) (u : ℕ) (starts got : List ℕ) : Type 0 where
  pub starts_room : P.count ≤ length starts
  pub got_room : P.count ≤ length got
  pub start_is : (k : ℕ) → k < P.count → at starts k ≡ release P (at order k) (job P (at order k) u)
  pub got_is : (k : ℕ) → k < P.count → at got k ≡ rest P run (at order k) u

module _ (P : Plan) (S : Sound P) (run order periods dues runtimes : List ℕ) (W : Shows P order periods dues runtimes) where
  abbrev n : ℕ
  n = P.count

  below : (k : ℕ) → k < n → at order k < n
  below k lk = (W.ranked 0).below k lk

  -- It begins at the end of the cycle, behind which nothing is.
  rest_behind : (i u : ℕ) → length run ≤ u → rest P run i u ≡ 0
  unfolding rest
  rest_behind i u l = sum_zero _ (P.period i - age P i u) (λ x _. gets_none (at run (u + x)) i (λ e. let past : length run ≤ u + x = omega arith in omega (arith, e, get_or-eq_default run 0 past)))

  pub stands_first : (cycle : ℕ) → n ≤ 16 → length run ≤ cycle → ((i : ℕ) → i < n → P.period i ∣ cycle) → StandsAt P run order cycle (replicate 16 cycle) (replicate 16 0)
  unfolding release job
  stands_first cycle few l divides = record {
    starts_room = omega (arith, length-replicate {A = ℕ} 16 cycle);
    got_room = omega (arith, length-replicate {A = ℕ} 16 0);
    start_is = λ k lk. get_or-replicate 16 k cycle 0 (omega arith) ∙ sym (div-mul_cancel (P.period (at order k)) (divides (at order k) (below k lk)));
    got_is = λ k lk. zeros 16 k ∙ sym (rest_behind (at order k) cycle l);
  }

  -- ---- one slice further back
  module _ (t : ℕ) (starts got : List ℕ) (H : StandsAt P run order (suc t) starts got) where
    module _ (k : ℕ) (lk : k < n) where
      abbrev i : ℕ
      i = at order k

      job_stays : suc (age P i t) < P.period i → release P i (job P i (suc t)) ≤ t
      job_stays l = omega (arith, ap (release P i) (job_goes_on P S i (below k lk) t l), release_age P S i (below k lk) t)

      start_then_lem : start_then (at starts k) (at periods k) t ≡ release P i (job P i t)
      unfolding start_then release
      start_then_lem =
          ⊎_elim
          (λ (l : suc (age P i t) < P.period i).
          choose_no _ _ _ (ne_eqb (t + 1) (at starts k) (λ e. omega (arith, H.start_is k lk, job_stays l)))
          ∙ H.start_is k lk
          ∙ ap (release P i) (job_goes_on P S i (below k lk) t l))
          (λ (e : suc (age P i t) ≡ P.period i).
          choose_yes _ _ _ (eq-eqb (t + 1) (at starts k) (omega (arith, H.start_is k lk, release_age P S i (below k lk) (suc t), age_anew P S i (below k lk) t e)))
          ∙ omega (arith, H.start_is k lk, W.period_is k lk, ap (λ (j : ℕ). j * P.period i) (job_anew P S i (below k lk) t e)))
          (goes_on_or_ends P S i (below k lk) t)

      got_then_lem : (entry : ℕ) → entry ≡ at run t → got_then (at got k) (at starts k) t entry i ≡ rest P run i t
      unfolding got_then
      got_then_lem entry is =
          ⊎_elim
          (λ (l : suc (age P i t) < P.period i).
          omega (
            arith,
            choose_no _ 0 (at got k) (ne_eqb (t + 1) (at starts k) (λ e. omega (arith, H.start_is k lk, job_stays l))),
            H.got_is k lk,
            rest_goes_on P S run i (below k lk) t l,
            ap (λ (e : ℕ). gets e i) is,
          ))
          (λ (e : suc (age P i t) ≡ P.period i).
          omega (
            arith,
            choose_yes _ 0 (at got k) (eq-eqb (t + 1) (at starts k) (omega (arith, H.start_is k lk, release_age P S i (below k lk) (suc t), age_anew P S i (below k lk) t e))),
            rest_last P S run i (below k lk) t e,
            ap (λ (e : ℕ). gets e i) is,
          ))
          (goes_on_or_ends P S i (below k lk) t)

      -- so the release is at slice t exactly if the job is fresh there
      pub fresh_so : age P i t ≡ 0 → start_then (at starts k) (at periods k) t ≡ t
      fresh_so z = omega (arith, start_then_lem, release_age P S i (below k lk) t)

      fresh_tells : start_then (at starts k) (at periods k) t ≡ t → age P i t ≡ 0
      fresh_tells e = omega (arith, start_then_lem, release_age P S i (below k lk) t)

    -- The numbers are small.
    module _ (few : n ≤ 16) (short : t < 4096) (small : (i : ℕ) → i < n → P.period i ≤ 4096) where
      rest_small : (i u : ℕ) → i < n → rest P run i u ≤ 4096
      unfolding rest
      rest_small i u li =
          omega (
            arith,
            small i li,
            sum_same 1 (P.period i - age P i u),
            sum_le (λ x. gets (at run (u + x)) i) (λ _. 1) (P.period i - age P i u)
                (λ x _. gets_most (at run (u + x)) i),
          )

      period_before : (i : ℕ) → t + 1 ≡ release P i (job P i (suc t)) → P.period i ≤ release P i (job P i (suc t))
      unfolding release
      period_before i e =
          ⊎_elim
          (λ (z : job P i (suc t) ≡ 0). absurd (omega (arith, ap (λ (j : ℕ). j * P.period i) z)))
          (λ (nz : job P i (suc t) ≡ 0 → ⊥). let some : 1 ≤ job P i (suc t) = omega arith in omega (arith, mul-le-mul_right (P.period i) some))
          (eq_or_ne (job P i (suc t)) 0)

      pub can_go_back : CanGoBack order periods starts got n t
      can_go_back = record {
        few = few;
        short = short;
        tasks = λ k lk. omega (arith, below k lk);
        got_small = λ k lk. omega (arith, H.got_is k lk, rest_small (at order k) (suc t) (below k lk));
        start_large = λ k lk e. omega (arith, H.start_is k lk, W.period_is k lk, period_before (at order k) (e ∙ H.start_is k lk));
      }

    module _ (entry : ℕ) (is : entry ≡ at run t) (starts' got' : List ℕ) (fit : Bool) (B : Back order periods runtimes starts got n t entry starts' got' fit) where
      pub stands_next : StandsAt P run order t starts' got'
      stands_next = record {
        starts_room = omega (arith, H.starts_room, ap length B.starts_are, overwrite-length (start_at periods starts t) starts n);
        got_room = omega (arith, H.got_room, ap length B.got_is, overwrite-length (got_at order starts got t entry) got n);
        start_is = λ k lk. ap (λ (l : List ℕ). at l k) B.starts_are ∙ overwrite_at _ starts 0 n k lk (omega (arith, H.starts_room)) ∙ start_then_lem k lk;
        got_is = λ k lk. ap (λ (l : List ℕ). at l k) B.got_is ∙ overwrite_at _ got 0 n k lk (omega (arith, H.got_room)) ∙ got_then_lem k lk entry is;
      }

      -- The jobs released at slice t fit exactly if it is said so.
      fit_tells : fit ≡ true → (i : ℕ) → i < n → age P i t ≡ 0 → (1 ≤ rest P run i t) × (rest P run i t ≤ P.runtime i (job P i t))
      fit_tells so i li z =
          let p = (W.ranked t).places i li in
          let k : ℕ = p.place in
          let f = fits_tells _ _ _ t (all_tells _ n (sym B.fit_is ∙ so) k p.below) (fresh_so k p.below (ap (λ (x : ℕ). age P x t) p.is ∙ z)) in
          let g : (1 ≤ rest P run (at order k) t) × (rest P run (at order k) t ≤ P.runtime (at order k) (job P (at order k) t)) =
          (omega (arith, f.0, got_then_lem k p.below entry is), omega (arith, f.1, got_then_lem k p.below entry is, W.runtime_is k (job P (at order k) t) p.below)) in
          rw p.is at g

      fit_so : ((i : ℕ) → i < n → age P i t ≡ 0 → (1 ≤ rest P run i t) × (rest P run i t ≤ P.runtime i (job P i t))) → fit ≡ true
      fit_so h =
          B.fit_is
          ∙ all_so _ n (λ k lk.
          fits_so _ _ _ t (λ e.
          let f = h (at order k) (below k lk) (fresh_tells k lk e) in
          (omega (arith, f.0, got_then_lem k lk entry is), omega (arith, f.1, got_then_lem k lk entry is, W.runtime_is k (job P (at order k) t) lk))))

      pub not_fitting : fit ≡ false → Agrees P run t → ⊥
      not_fitting so A = true≢false (sym (fit_so A.fits) ∙ so)

      -- Who waits
      waits_is : (k : ℕ) → k < n → waits_at dues starts' got' t k ≡ waits P run t (at order k)
      unfolding waits_for waits
      waits_is k lk =
          let s = stands_next.start_is k lk in
          rw (stands_next.got_is k lk)
          (ap (λ (b : Bool). choose b (rest P run (at order k) t) 0)
          (ltb_same t (at starts' k + at dues k) (age P (at order k) t) (P.due (at order k))
          (λ l. omega (arith, s, W.due_is k lk, release_age P S (at order k) (below k lk) t))
          (λ l. omega (arith, s, W.due_is k lk, release_age P S (at order k) (below k lk) t))))

      pub can_wait : n ≤ 16 → t < 4096 → ((i : ℕ) → i < n → P.period i ≤ 4096) → CanWait order dues starts' n
      can_wait few short small = record {
        few = few;
        tasks = λ k lk. omega (arith, below k lk);
        due_small = λ k lk. omega (arith, stands_next.start_is k lk, W.due_is k lk, S.due_within (at order k) (below k lk), small (at order k) (below k lk), release_age P S (at order k) (below k lk) t);
      }

      module _ (next : ℕ) (F : FirstIn order (waits_at dues starts' got' t) n next) where
        next_is : next ≡ first (key_in P t) (waits P run t) n
        next_is = ranked_first (key_in P t) (waits P run t) (waits_at dues starts' got' t) n order (W.ranked t) waits_is next F

        pub agrees : fit ≡ true → next ≡ entry → Agrees P run t
        agrees so e = record { goes = sym is ∙ sym e ∙ next_is; fits = fit_tells so }

        pub goes_otherwise : (next ≡ entry → ⊥) → Agrees P run t → ⊥
        goes_otherwise ne A = ne (next_is ∙ sym A.goes ∙ sym is)
