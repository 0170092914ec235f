-- The end of a task's first job, as the slice rule comes to it slice by slice.
use Rattle.std.specs.Prelude.{◌≡◌, ℕ, zero, suc, ◌+◌, ◌-◌, ◌<◌, ◌≤◌, min, ◌⊎◌, ◌≢◌, nat_le, nat_lt}
use Rattle.std.proofs.Common.{sym, ◌∙◌, inl, inr, ⊎_elim, zero-add, zero-mul, add-zero, add-suc}
use Rattle.std.proofs.Math.Path.{ap}
use native.Mathlib.Omega.{arith}
use borrow.Author.Tests.{le-leb, lt-leb, lt-ltb, le-ltb}
use Rattle.basis.specs.Choose.{choose, choose_yes, choose_no, le_or_lt}
use Rattle.basis.specs.Least.{least, least_law, least_is}
use Rattle.plan.specs.Plan.{Plan, Sound, release, gets, given, entry, table, OnTime}
use Rattle.plan.proofs.Work.{gets_one, gets_none}
use Rattle.plan.proofs.Run.{given_in_none, given_more}
use Rattle.plan.proofs.Counting.{given_grows, on_time_exact}
use Rattle.verdict.specs.Margin.{first_end}

-- The first slice before which the first job of task i has had x slices; its deadline if there is none.
unfoldable pub had_first : Plan → ℕ → ℕ → ℕ
had_first P i x = least (λ s. nat_le x (given P P.runtime i 0 s)) (P.due i)

-- The same for what it has had before slice t: the slice after the last that it got.
unfoldable pub end_by : Plan → ℕ → ℕ → ℕ
end_by P t i = had_first P i (given P P.runtime i 0 (min t (P.due i)))

module _ (P : Plan) (i : ℕ) where
  had : ℕ → ℕ
  had s = given P P.runtime i 0 s

  one_more : (t : ℕ) → had (suc t) ≡ had t + gets (table P t) i
  unfolding had table
  one_more t = given_more P P.runtime i 0 t ∙ ap (λ (s : ℕ). had t + gets (entry P P.runtime s) i) (zero-add t)

  -- at the first slice before which it has had x it has had x, and before that less
  is_first : (x s : ℕ) → s ≤ P.due i → x ≤ had s → ((j : ℕ) → j < s → had j < x) → had_first P i x ≡ s
  unfolding had_first had
  is_first x s l has less = least_is (λ j. nat_le x (had j)) (P.due i) s (record { within = l; passes = λ _. le-leb x (had s) has; none_before = λ j lj. lt-leb x (had j) (less j lj) })

  pub end_within : (t : ℕ) → end_by P t i ≤ P.due i
  unfolding end_by had_first
  end_within t = (least_law _ (P.due i)).within

  pub end_none : end_by P 0 i ≡ 0
  unfolding end_by had
  end_none = is_first _ 0 (omega arith) (omega (arith, given_in_none P P.runtime i 0 (min 0 (P.due i)) (omega arith))) (λ j l. absurd (omega arith))

  end_got : (t : ℕ) → t < P.due i → table P t ≡ suc i → end_by P (suc t) i ≡ suc t
  unfolding end_by had
  end_got t l e =
      let m : min (suc t) (P.due i) ≡ suc t = omega arith in
      is_first _ (suc t) l (omega (arith, ap had m)) (λ j lj. omega (arith, ap had m, one_more t, gets_one (table P t) i e, given_grows P P.runtime i 0 j t (omega arith)))

  end_kept : (t : ℕ) → t < P.due i → (table P t ≢ suc i) → end_by P (suc t) i ≡ end_by P t i
  unfolding end_by had
  end_kept t l ne =
      let m : min (suc t) (P.due i) ≡ suc t = omega arith in
      let n : min t (P.due i) ≡ t = omega arith in
      ap (had_first P i) (ap had m ∙ omega (arith, ap had n, one_more t, gets_none (table P t) i ne))

  -- After its deadline nothing changes, and before it nothing but by the slices that it gets.
  pub end_shut : (t m : ℕ) → P.due i ≤ t → end_by P (t + m) i ≡ end_by P t i
  unfolding end_by
  end_shut t m l = let e : min (t + m) (P.due i) ≡ min t (P.due i) = omega arith in ap (λ (s : ℕ). had_first P i (given P P.runtime i 0 s)) e

  end_quiet : (t m : ℕ) → t + m ≤ P.due i → ((x : ℕ) → x < m → table P (t + x) ≢ suc i) → end_by P (t + m) i ≡ end_by P t i
  end_quiet t zero l none = ap (λ (s : ℕ). end_by P s i) (add-zero t)
  end_quiet t (suc m) l none = ap (λ (s : ℕ). end_by P s i) (add-suc t m) ∙ end_kept (t + m) (omega arith) (none m (omega arith)) ∙ end_quiet t m (omega arith) (λ x lx. none x (omega arith))

  -- Of m slices from slice t on it gets those from a to b.
  pub end_turn : (t m a b : ℕ) → t + m ≤ P.due i → b ≤ m → ((x : ℕ) → a ≤ x → x < b → table P (t + x) ≡ suc i) → ((x : ℕ) → x < m → (x < a) ⊎ (b ≤ x) → table P (t + x) ≢ suc i)
      → end_by P (t + m) i ≡ choose (nat_lt a b) (t + b) (end_by P t i)
  end_turn t m a b due within gets others =
      ⊎_elim
      (λ (none : b ≤ a). end_quiet t m due (λ x l. others x l (⊎_elim (λ (u : b ≤ x). inr u) (λ (u : x < b). inl (omega arith)) (le_or_lt b x))) ∙ sym (choose_no _ _ _ (le-ltb a b none)))
      (λ (some : a < b).
      let rest : t + m ≡ t + b + (m - b) = omega arith in
      let last : t + b ≡ suc (t + (b - 1)) = omega arith in
      ap (λ (s : ℕ). end_by P s i) rest
      ∙ end_quiet (t + b) (m - b) (omega arith) (λ x l e. let q : t + (b + x) ≡ t + b + x = omega arith in others (b + x) (omega arith) (inr (omega arith)) (ap (table P) q ∙ e))
      ∙ ap (λ (s : ℕ). end_by P s i) last
      ∙ end_got (t + (b - 1)) (omega arith) (gets (b - 1) (omega arith) (omega arith))
      ∙ sym last
      ∙ sym (choose_yes _ _ _ (lt-ltb a b some)))
      (le_or_lt b a)

-- Of a first job that is on time it is its end, from its deadline on.
pub end_is_first : (P : Plan) → Sound P → (i t : ℕ) → i < P.count → OnTime P P.runtime i 0 → P.due i ≤ t → end_by P t i ≡ first_end P i
unfolding end_by had_first first_end release
end_is_first P S i t li on l =
    let m : min t (P.due i) ≡ P.due i = omega arith in
    ap (had_first P i) (ap (given P P.runtime i 0) m ∙ ap (λ (s : ℕ). given P P.runtime i s (P.due i)) (sym (zero-mul (P.period i))) ∙ on_time_exact P S P.runtime i li 0 (P.due i) on (omega arith) (S.due_within i li))
