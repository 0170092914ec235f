-- Events are releases and deadlines. From one to the next the open jobs run in the order of their ranks, one after the other, each
-- until it has had its demand.
use Rattle.std.specs.Prelude.{◌≡◌, false, List}
use Rattle.std.proofs.Math.Path.{sym, ap}
use Rattle.std.proofs.Common.{◌∙◌, true≢false, add-zero, add-suc, lt-ltb, le-ltb}
use Rattle.std.proofs.Math.Logic.{inl, inr, ⊎_elim}
use Prim.Native.Nat.{ℕ, zero, suc, ◌+◌, ◌-◌, ◌≤◌, ◌<◌}
use native.Mathlib.Omega.{arith}
use Rattle.std.proofs.Math.Nat.{suc_inj}
use Rattle.basis.specs.Bytes.{at}
use Rattle.basis.specs.Choose.{choose_yes, choose_no, le_or_lt, eq_or_ne}
use Rattle.basis.specs.Sum.{sum, sum_grows, sum_apart}
use Rattle.plan.specs.Plan.{Plan, Sound, Demand, release, deadline, job, age, key_in, gets, entry, ranks_before, IsFirst}
use Rattle.plan.proofs.Work.{gets_one, gets_none}
use Rattle.plan.specs.Run.{lacks}
use Rattle.plan.proofs.Run.{age_below, age_goes_on, age_anew, job_goes_on, release_age, job_at, age_at, had_anew, lacks_open, lacks_shut, lacks_goes_on, entry_law}
use Rattle.plan.proofs.Progress.{releases_grow}
use Rattle.plan.specs.Order.{Ranked}
use Rattle.plan.proofs.Order.{ranked_ext, one_place}
use Rattle.plan.specs.Events.{GoesTo, left, next_event}

module _ (P : Plan) (i t : ℕ) where
  pub event_open : age P i t < P.due i → next_event P i t ≡ release P i (job P i t) + P.due i
  unfolding next_event
  event_open l = ap (λ (x : ℕ). release P i (job P i t) + x) (choose_yes _ _ _ (lt-ltb (age P i t) (P.due i) l))

  pub event_shut : P.due i ≤ age P i t → next_event P i t ≡ release P i (job P i t) + P.period i
  unfolding next_event
  event_shut l = ap (λ (x : ℕ). release P i (job P i t) + x) (choose_no _ _ _ (le-ltb (age P i t) (P.due i) l))

module _ (P : Plan) (S : Sound P) (i : ℕ) (li : i < P.count) (t : ℕ) where
  pub event_later : t < next_event P i t
  event_later =
      ⊎_elim
      (λ (o : P.due i ≤ age P i t). omega (arith, event_shut P i t o, release_age P S i li t, age_below P S i li t))
      (λ (l : age P i t < P.due i). omega (arith, event_open P i t l, release_age P S i li t))
      (le_or_lt (P.due i) (age P i t))

  pub event_by_release : next_event P i t ≤ release P i (job P i t) + P.period i
  event_by_release =
      ⊎_elim
      (λ (o : P.due i ≤ age P i t). omega (arith, event_shut P i t o))
      (λ (l : age P i t < P.due i). omega (arith, event_open P i t l, S.due_within i li))
      (le_or_lt (P.due i) (age P i t))

  -- No deadline comes between.
  pub deadline_not_before : (k : ℕ) → t < deadline P i k → next_event P i t ≤ deadline P i k
  unfolding deadline
  deadline_not_before k l =
      ⊎_elim
      (λ (a : job P i t ≤ k).
      ⊎_elim
      (λ (e : job P i t ≡ k).
      let same : release P i (job P i t) ≡ release P i k = ap (release P i) e in
      omega (arith, event_open P i t (omega (arith, release_age P S i li t))))
      (λ (ne : job P i t ≡ k → ⊥). omega (arith, event_by_release, releases_grow P S P.runtime i li (job P i t) k (omega arith)))
      (eq_or_ne (job P i t) k))
      (λ (b : k < job P i t). absurd (omega (arith, releases_grow P S P.runtime i li k (job P i t) b, release_age P S i li t, S.due_within i li)))
      (le_or_lt (job P i t) k)

  -- ---- m slices with no event of the task but at their end
  module _ (m : ℕ) (quiet : t + m ≤ next_event P i t) where
    pub age_inside : (s : ℕ) → s < m → (job P i (t + s) ≡ job P i t) × (age P i (t + s) ≡ age P i t + s)
    age_inside s l =
        let here : release P i (job P i t) + (age P i t + s) ≡ t + s = omega (arith, release_age P S i li t) in
        let young : age P i t + s < P.period i = omega (arith, event_by_release, release_age P S i li t) in
        (rw here at (job_at P S i li (job P i t) (age P i t + s) young), rw here at (age_at P S i li (job P i t) (age P i t + s) young))

    -- the next event stays the same until it is there
    pub event_inside : (s : ℕ) → s < m → (release P i (job P i (t + s)) ≡ release P i (job P i t)) × (next_event P i (t + s) ≡ next_event P i t)
    event_inside s l =
        let same = ap (release P i) (age_inside s l).0 in (
          same,
          ⊎_elim
              (λ (o : P.due i ≤ age P i t). omega (arith, event_shut P i t o, event_shut P i (t + s) (omega (arith, age_inside s l))))
              (λ (b : age P i t < P.due i). omega (arith, event_open P i t b, event_open P i (t + s) (omega (arith, age_inside s l, event_open P i t b, release_age P S i li t))))
              (le_or_lt (P.due i) (age P i t)),
        )

-- ---- one slice on
module _ (P : Plan) (S : Sound P) (d : Demand) (i : ℕ) (li : i < P.count) (t : ℕ) where
  abbrev released : ℕ
  released = release P i (job P i t)

  -- What task i comes to with the slice after slice t: when its current job was released, its next event, and what it lacks.
  pub record ComesTo (r event lack : ℕ) : Type 0 where
    pub release_is : release P i (job P i (suc t)) ≡ r
    pub event_is : next_event P i (suc t) ≡ event
    pub lack_is : lacks P d d (suc t) i ≡ lack

  same_job : suc t < released + P.period i → (job P i (suc t) ≡ job P i t) × (age P i (suc t) ≡ suc (age P i t))
  same_job l =
      let on : suc (age P i t) < P.period i = omega (arith, release_age P S i li t) in
      (job_goes_on P S i li t on, age_goes_on P S i li t on)

  -- Before the event nothing changes but for the slice that it gets.
  pub before_event : suc t < next_event P i t → ComesTo released (next_event P i t) (lacks P d d t i - gets (entry P d t) i)
  before_event l =
      let same = same_job (omega (arith, event_by_release P S i li t)) in
      let r = ap (release P i) same.0 in
      ⊎_elim
      (λ (o : P.due i ≤ age P i t).
      record {
        release_is = r;
        event_is = omega (arith, event_shut P i t o, event_shut P i (suc t) (omega (arith, same.1)));
        lack_is = omega (arith, lacks_shut P d d t i o, lacks_shut P d d (suc t) i (omega (arith, same.1)));
      })
      (λ (b : age P i t < P.due i).
      let young : suc (age P i t) < P.due i = omega (arith, event_open P i t b, release_age P S i li t) in
      record {
        release_is = r;
        event_is = omega (arith, event_open P i t b, event_open P i (suc t) (omega (arith, same.1)));
        lack_is = lacks_goes_on P S d d i li t young;
      })
      (le_or_lt (P.due i) (age P i t))

  -- At a deadline before the next release the job is shut,
  pub at_deadline : suc t ≡ next_event P i t → suc t < released + P.period i → ComesTo released (released + P.period i) 0
  at_deadline e l =
      let same = same_job l in
      let r = ap (release P i) same.0 in
      let shut : P.due i ≤ age P i (suc t) =
      ⊎_elim
      (λ (o : P.due i ≤ age P i t). omega (arith, same.1))
      (λ (b : age P i t < P.due i). omega (arith, same.1, event_open P i t b, release_age P S i li t))
      (le_or_lt (P.due i) (age P i t)) in
      record { release_is = r; event_is = omega (arith, event_shut P i (suc t) shut); lack_is = lacks_shut P d d (suc t) i shut }

  -- and at the release a fresh one begins.
  pub at_release : suc t ≡ released + P.period i → ComesTo (suc t) (suc t + P.due i) (d i (job P i (suc t)))
  at_release e =
      let last : suc (age P i t) ≡ P.period i = omega (arith, release_age P S i li t) in
      let young : age P i (suc t) < P.due i = omega (arith, age_anew P S i li t last, S.due_pos i li) in
      let r : release P i (job P i (suc t)) ≡ suc t = omega (arith, release_age P S i li (suc t), age_anew P S i li t last) in
      record {
        release_is = r;
        event_is = omega (arith, event_open P i (suc t) young);
        lack_is = omega (arith, lacks_open P d d (suc t) i young, had_anew P S d i li t last);
      }

module _ (order : List ℕ) (lack : ℕ → ℕ) (n s : ℕ) where
  no_two_turns : (a b : ℕ) → sum lack a ≤ s → s < sum lack (suc a) → sum lack b ≤ s → s < sum lack (suc b) → a ≡ b
  unfolding sum
  no_two_turns a b ba oa bb ob = (sum_apart lack a b (s - sum lack a) (s - sum lack b) (omega arith) (omega arith) (omega arith)).0

  pub goes_to_one : (e f : ℕ) → GoesTo order lack n s e → GoesTo order lack n s f → e ≡ f
  unfolding GoesTo
  goes_to_one e f (inl h) (inl k) = omega arith
  goes_to_one e f (inl h) (inr k) = absurd (omega (arith, h.all_had, k.not_over, sum_grows lack (suc k.place) n k.below))
  goes_to_one e f (inr h) (inl k) = absurd (omega (arith, k.all_had, h.not_over, sum_grows lack (suc h.place) n h.below))
  goes_to_one e f (inr h) (inr k) =
      h.is ∙ ap (λ (x : ℕ). suc (at order x)) (no_two_turns h.place k.place h.begun h.not_over k.begun k.not_over) ∙ sym k.is

-- Those whose turn is over lack nothing, and those whose turn is to come lack what they did.
module _ (lack : ℕ → ℕ) (k s : ℕ) where
  pub over_left : sum lack (suc k) ≤ s → left lack k s ≡ 0
  unfolding left sum
  over_left l = omega arith

  pub to_come_left : s ≤ sum lack k → left lack k s ≡ lack k
  unfolding left
  to_come_left l = omega arith

-- who has nothing left has had its turn
nothing_left : (lack : ℕ → ℕ) (s k : ℕ) → ((j : ℕ) → j < k → left lack j s ≡ 0) → sum lack k ≤ s
unfolding left sum
nothing_left lack s zero h = omega arith
nothing_left lack s (suc k) h = omega (arith, h k (omega arith), nothing_left lack s k (λ j l. h j (omega arith)))

module _ (key lack : ℕ → ℕ) (n : ℕ) (order : List ℕ) (R : Ranked key n order) (s e k : ℕ) (lk : k < n) where
  pub left_falls : GoesTo order lack n s e → left lack k (suc s) ≡ left lack k s - gets e (at order k)
  unfolding GoesTo left sum
  left_falls (inl h) = omega (arith, h.all_had, sum_grows lack (suc k) n lk)
  left_falls (inr h) =
      ⊎_elim
      (λ (here : h.place ≡ k).
      omega (arith, h.begun, h.not_over, ap (sum lack) here, ap lack here, gets_one e (at order k) (h.is ∙ ap (λ (x : ℕ). suc (at order x)) here)))
      (λ (other : h.place ≡ k → ⊥).
      let none = gets_none e (at order k) (λ q. other (one_place key n order R h.place k h.below lk (suc_inj (sym h.is ∙ q)))) in
      ⊎_elim
      (λ (l : k ≤ h.place). omega (arith, h.begun, sum_grows lack (suc k) h.place (omega arith)))
      (λ (l : h.place < k). omega (arith, h.not_over, sum_grows lack (suc h.place) k l))
      (le_or_lt k h.place))
      (eq_or_ne h.place k)

-- ---- from an event to the next
-- No task has an event inside the m slices from slice t on.
module _ (P : Plan) (S : Sound P) (d : Demand) (t m : ℕ) (quiet : (i : ℕ) → i < P.count → t + m ≤ next_event P i t)
    (order : List ℕ) (R : Ranked (key_in P t) P.count order) (lack : ℕ → ℕ) (lack_is : (k : ℕ) → k < P.count → lack k ≡ lacks P d d t (at order k)) where
  ranked_inside : (s : ℕ) → s < m → Ranked (key_in P (t + s)) P.count order
  unfolding key_in
  ranked_inside s l = ranked_ext _ _ P.count order (λ i li. ap (P.key i) (sym (age_inside P S i li t m (quiet i li) s l).0)) R

  -- a slice goes to the first place that has something left
  turn_taken : (s e : ℕ) → s < m → ((k : ℕ) → k < P.count → lacks P d d (t + s) (at order k) ≡ left lack k s) → IsFirst (key_in P (t + s)) (lacks P d d (t + s)) P.count e → GoesTo order lack P.count s e
  unfolding IsFirst GoesTo
  turn_taken s e l so (inl h) = inl (record { idle = h.idle; all_had = nothing_left lack s P.count (λ k lk. sym (so k lk) ∙ h.none (at order k) (R.below k lk)) })
  turn_taken s e l so (inr h) =
      let p = R.places h.task h.below in
      let wanted : 0 < left lack p.place s = omega (arith, h.wanting, so p.place p.below, ap (lacks P d d (t + s)) p.is) in
      inr (record {
        place = p.place;
        below = p.below;
        is = h.is ∙ ap suc (sym p.is);
        begun = nothing_left lack s p.place (λ j lj. none_earlier j p.place lj p.below p.is (h.none_before (at order j) (R.below j (omega (arith, p.below)))));
        not_over =
            ⊎_elim
            (λ (o : sum lack (suc p.place) ≤ s). absurd (omega (arith, over_left lack p.place s o)))
            (λ (o : s < sum lack (suc p.place)). o)
            (le_or_lt (sum lack (suc p.place)) s);
      })
    where
      none_earlier : (j k : ℕ) → j < k → k < P.count → at order k ≡ h.task → (0 < lacks P d d (t + s) (at order j) → ranks_before (key_in P (t + s)) (at order j) h.task ≡ false) → left lack j s ≡ 0
      none_earlier j k a b q none =
          ⊎_elim
          (λ (z : left lack j s ≡ 0). z)
          (λ (nz : left lack j s ≡ 0 → ⊥).
          absurd (true≢false (sym ((ranked_inside s l).sorted j k a b) ∙ ap (ranks_before (key_in P (t + s)) (at order j)) q ∙ none (omega (arith, so j (omega arith))))))
          (eq_or_ne (left lack j s) 0)

  -- What a task lacks is what is left of its turn,
  pub lacks_left : (s : ℕ) → s < m → (k : ℕ) → k < P.count → lacks P d d (t + s) (at order k) ≡ left lack k s
  lacks_left zero l k lk = ap (λ (x : ℕ). lacks P d d x (at order k)) (add-zero t) ∙ sym (lack_is k lk) ∙ sym (to_come_left lack k 0 (omega arith))
  lacks_left (suc s) l k lk =
      let so = lacks_left s (omega arith) in
      let calm = quiet (at order k) (R.below k lk) in
      ap (λ (x : ℕ). lacks P d d x (at order k)) (add-suc t s)
      ∙ (before_event P S d (at order k) (R.below k lk) (t + s) (omega (arith, calm, event_inside P S (at order k) (R.below k lk) t m calm s (omega arith)))).lack_is
      ∙ ap (λ (x : ℕ). x - gets (entry P d (t + s)) (at order k)) (so k lk)
      ∙ sym (left_falls (key_in P t) lack P.count order R s (entry P d (t + s)) k lk (turn_taken s (entry P d (t + s)) (omega arith) so (entry_law P d (t + s))))

  -- every slice goes to the task whose turn it is,
  pub entry_goes : (s : ℕ) → s < m → GoesTo order lack P.count s (entry P d (t + s))
  entry_goes s l = turn_taken s (entry P d (t + s)) l (lacks_left s l) (entry_law P d (t + s))

  -- and takes from what it lacks.
  pub after_left : (s : ℕ) → s < m → (k : ℕ) → k < P.count → lacks P d d (t + s) (at order k) - gets (entry P d (t + s)) (at order k) ≡ left lack k (suc s)
  after_left s l k lk =
      ap (λ (x : ℕ). x - gets (entry P d (t + s)) (at order k)) (lacks_left s l k lk)
      ∙ sym (left_falls (key_in P t) lack P.count order R s (entry P d (t + s)) k lk (entry_goes s l))
