-- Of two runs over one plan, one is ahead of the other: what that means at a slice, and that a slice and a turn of jobs keep it so.
use Rattle.std.specs.Prelude.{◌≡◌, ◌⊎◌}
use Rattle.std.proofs.Math.Logic.{⊎_elim}
use Prim.Native.Nat.{ℕ, suc, ◌+◌, ◌-◌, ◌≤◌, ◌<◌}
use native.Mathlib.Omega.{arith}
use Rattle.basis.specs.Sum.{sum_le, sum_add}
use Rattle.plan.specs.Plan.{gets, IsFirst}
use Rattle.plan.specs.Rank.{rank}
use Rattle.plan.specs.Work.{part, before, after}
use Rattle.plan.proofs.Work.{part_zero, part_le, before_le, gets_cases, none_before, work_falls, level_falls}
use Rattle.plan.specs.Ahead.{Ahead, Stays, Turns}

module _ (n : ℕ) (key fast slow rest : ℕ → ℕ) where
  -- At the start it is enough that each job wants no more.
  pub ahead_at_start : ((j : ℕ) → j < n → fast j ≤ rest j) → ((j : ℕ) → j < n → rest j ≤ slow j) → Ahead n key fast slow rest
  ahead_at_start fr rs = record {
    work = less;
    level = λ j l. omega (arith, less (rank n key j), fr j l);
    ended = λ j l z. omega (arith, fr j l);
  }
    where
      less : (ρ : ℕ) → before n key ρ fast ≤ before n key ρ slow
      less ρ = before_le n key ρ fast slow (λ j l b. omega (arith, fr j l, rs j l))

  -- A slice in each run keeps it ahead.
  pub ahead_after : (f s : ℕ) → IsFirst key fast n f → IsFirst key slow n s → ((j : ℕ) → j < n → rest j ≤ slow j)
      → Ahead n key fast slow rest → Ahead n key (after f fast) (after s slow) (after s rest)
  unfolding after
  ahead_after f s lf ls rs so_far = record {
    work = λ ρ. omega (arith, work_falls n key fast f lf ρ, work_falls n key slow s ls ρ, so_far.work ρ);
    level = level;
    ended = λ j l z.
        ⊎_elim
        (λ (g : (s ≡ suc j) × (gets s j ≡ 1)). omega (arith, level j l, none_before n key slow s ls j (rank n key j) g.0 (omega arith), work_falls n key slow s ls (rank n key j)))
        (λ (g : (s ≡ suc j → ⊥) × (gets s j ≡ 0)). omega (arith, so_far.ended j l (omega arith)))
        (gets_cases s j);
  }
    where
      level : (j : ℕ) → j < n → before n key (rank n key j) (after f fast) + (fast j - gets f j) ≤ before n key (rank n key j) (after s slow) + (rest j - gets s j)
      level j l = omega (arith, level_falls n key fast f lf j (fast j) l (omega arith), level_falls n key slow s ls j (rest j) l (rs j l), so_far.level j l)

module _ (n : ℕ) (key fast slow rest key' fast' slow' rest' : ℕ → ℕ)
    (turn : (i : ℕ) → i < n → Stays key fast slow rest key' fast' slow' rest' i ⊎ Turns fast slow fast' slow' rest' i) where
  same_rank : (i : ℕ) → key' i ≡ key i → rank n key' i ≡ rank n key i
  unfolding rank
  same_rank i k = rw k

  same_part : (ρ : ℕ) (f f' : ℕ → ℕ) (i : ℕ) → key' i ≡ key i → f' i ≡ f i → part n key' ρ f' i ≡ part n key ρ f i
  unfolding part rank
  same_part ρ f f' i k e = rw (k, e)

  gain_at : (ρ i : ℕ) → i < n → part n key' ρ fast' i + part n key ρ slow i ≤ part n key' ρ slow' i + part n key ρ fast i
  gain_at ρ i l =
      ⊎_elim
      (λ (s : Stays key fast slow rest key' fast' slow' rest' i).
      omega (arith, same_part ρ fast fast' i s.key_same s.fast_same, same_part ρ slow slow' i s.key_same s.slow_same))
      (λ (t : Turns fast slow fast' slow' rest' i).
      omega (arith, part_zero n key ρ fast i t.fast_ended, part_zero n key ρ slow i t.slow_ended, part_le n key' ρ fast' slow' i (λ b. omega arith)))
      (turn i l)

  -- what comes anew to the fast run is no more than what comes to the slow one
  gain : (ρ : ℕ) → before n key' ρ fast' + before n key ρ slow ≤ before n key' ρ slow' + before n key ρ fast
  unfolding before
  gain ρ = omega (
    arith,
    sum_add (part n key' ρ fast') (part n key ρ slow) n,
    sum_add (part n key' ρ slow') (part n key ρ fast) n,
    sum_le (λ i. part n key' ρ fast' i + part n key ρ slow i) (λ i. part n key' ρ slow' i + part n key ρ fast i) n (gain_at ρ),
  )

  -- A turn of jobs keeps it ahead.
  pub ahead_turned : Ahead n key fast slow rest → Ahead n key' fast' slow' rest'
  ahead_turned so_far = record {
    work = work;
    level = λ j l.
        ⊎_elim
        (λ (s : Stays key fast slow rest key' fast' slow' rest' j).
        rw (same_rank j s.key_same) (omega (arith, gain (rank n key j), so_far.level j l)))
        (λ (t : Turns fast slow fast' slow' rest' j). omega (arith, work (rank n key' j)))
        (turn j l);
    ended = λ j l z.
        ⊎_elim
        (λ (s : Stays key fast slow rest key' fast' slow' rest' j). omega (arith, so_far.ended j l (omega arith)))
        (λ (t : Turns fast slow fast' slow' rest' j). omega arith)
        (turn j l);
  }
    where
      work : (ρ : ℕ) → before n key' ρ fast' ≤ before n key' ρ slow'
      work ρ = omega (arith, gain ρ, so_far.work ρ)
