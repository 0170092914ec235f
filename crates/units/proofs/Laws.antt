-- What the conversions come to: when they refuse, and which count they give.
use Rattle.std.specs.Prelude.{◌≡◌, refl, ◌⊎◌, ◌↔◌, Some, None, ℕ, zero, suc, ◌-◌, ◌*◌, ◌/◌, ◌%◌, ◌≤◌, ◌<◌, eqb}
use Rattle.std.proofs.Common.{inl, inr, ⊎_elim, arith, div-add-mod', mul-le-mul_left, div-mul-le_self, le-div_iff_mul-le, eq-eqb, ne_eqb}
use Rattle.std.proofs.Math.Nat.{div-eq_of_eq-mul_left, mul-mod_left, mul-sub}
use Rattle.std.proofs.lemmas.Bool.{lt-leb}
use Rattle.basis.specs.Choose.{choose, eq_or_ne}
use Rattle.basis.specs.Slices.{ceil}
use Rattle.basis.proofs.Slices.{ceil_covers, ceil_least}
use Rattle.units.specs.Conversion.{runtime_slices, period_slices, deadline_slices, slices_of}
use Rattle.units.specs.Laws.{Fewest, Holds, Latest}

-- which is that the shares that the tick leaves of them are no shorter together.
pub holds_by_shares : (micros slice tick n : ℕ) → tick < slice → Holds micros slice tick n ↔ (micros ≤ n * (slice - tick))
unfolding Holds
holds_by_shares micros slice tick n less =
    let whole : n * tick ≤ n * slice = mul-le-mul_left n (omega arith) in
    (λ h. omega (arith, mul-sub n slice tick, whole), λ h. omega (arith, mul-sub n slice tick, whole))

pub runtime_fewest : (micros slice tick : ℕ) → tick < slice → Fewest micros slice tick (slices_of (runtime_slices micros slice tick))
unfolding runtime_slices slices_of choose
runtime_fewest micros slice tick less =
    let share : 0 < slice - tick = omega arith in
    rw (lt-leb slice tick less) (record {
      holds = (holds_by_shares micros slice tick _ less).1 (ceil_covers (slice - tick) share micros);
      fewest = λ k h. ceil_least (slice - tick) share micros k ((holds_by_shares micros slice tick k less).0 h);
    })

-- so a larger tick cost never gives fewer,
pub larger_tick_no_fewer : (micros slice tick tick' : ℕ) → tick ≤ tick' → tick' < slice → slices_of (runtime_slices micros slice tick) ≤ slices_of (runtime_slices micros slice tick')
unfolding Holds
larger_tick_no_fewer micros slice tick tick' more less =
    let n = slices_of (runtime_slices micros slice tick') in
    let held = (runtime_fewest micros slice tick' less).holds in
    (runtime_fewest micros slice tick (omega arith)).fewest n (omega (arith, held, mul-le-mul_left n more))

-- and without one it is division by the whole slice length, rounded up, refused for slice length 0 alone.
pub without_tick : (micros slice : ℕ) → runtime_slices micros slice 0 ≡ choose (eqb slice 0) None (Some (ceil micros slice))
unfolding runtime_slices choose
without_tick micros zero = refl
without_tick micros (suc n) =
    let whole : suc n - 0 ≡ suc n = omega arith in
    rw (lt-leb (suc n) 0 (omega arith), ne_eqb (suc n) 0 (λ e. omega arith), whole)

-- A period of n slices is accepted as n, and a period that no n makes up is refused.
pub period_accepted : (n slice : ℕ) → 0 < slice → period_slices (n * slice) slice ≡ Some n
unfolding period_slices choose
period_accepted n slice pos =
    rw (ne_eqb slice 0 (λ e. omega arith), mul-mod_left n slice, div-eq_of_eq-mul_left {n = slice} {m = n * slice} {k = n} pos refl)

pub period_refused : (micros slice : ℕ) → (slice ≡ 0) ⊎ ((n : ℕ) → micros ≡ n * slice → ⊥) → period_slices micros slice ≡ None
unfolding period_slices choose
period_refused micros slice (inl e) = rw (eq-eqb slice 0 e)
period_refused micros slice (inr none) =
    ⊎_elim
    (λ (e : slice ≡ 0). rw (eq-eqb slice 0 e))
    (λ (ne : slice ≡ 0 → ⊥).
    rw (ne_eqb slice 0 ne, ne_eqb (micros % slice) 0 (λ z. none (micros / slice) (omega (arith, div-add-mod' micros slice)))))
    (eq_or_ne slice 0)

pub deadline_latest : (micros slice : ℕ) → 0 < slice → Latest micros slice (slices_of (deadline_slices micros slice))
unfolding deadline_slices slices_of choose
deadline_latest micros slice pos =
    rw (ne_eqb slice 0 (λ e. omega arith)) (record {
      in_time = div-mul-le_self micros slice;
      latest = λ k h. (le-div_iff_mul-le pos).1 h;
    })

-- Worked by hand, to the ends of 32 bits: run-times by slice length and tick cost, periods and deadlines by slice length.
pub worked :
    (runtime_slices 1000 500 20 ≡ Some 3)
    × (runtime_slices 1000 500 0 ≡ Some 2)
    × (runtime_slices 1001 500 0 ≡ Some 3)
    × (runtime_slices 960 500 20 ≡ Some 2)
    × (runtime_slices 961 500 20 ≡ Some 3)
    × (runtime_slices 0 500 20 ≡ Some 0)
    × (runtime_slices 1000 500 499 ≡ Some 1000)
    × (runtime_slices 1000 500 500 ≡ None)
    × (runtime_slices 1000 0 0 ≡ None)
    × (runtime_slices 4294967295 4294967295 4294967294 ≡ Some 4294967295)
    × (runtime_slices 4294967295 4294967295 4294967293 ≡ Some 2147483648)
    × (runtime_slices 4294967295 4294967295 1 ≡ Some 2)
    × (runtime_slices 4294967295 4294967295 0 ≡ Some 1)
    × (runtime_slices 4294967295 4294967295 4294967295 ≡ None)
    × (runtime_slices 4294967295 1 0 ≡ Some 4294967295)
    × (period_slices 1000 500 ≡ Some 2)
    × (period_slices 1001 500 ≡ None)
    × (period_slices 0 500 ≡ Some 0)
    × (period_slices 1000 0 ≡ None)
    × (period_slices 4294967295 1 ≡ Some 4294967295)
    × (period_slices 4294967295 2 ≡ None)
    × (period_slices 4294967295 4294967295 ≡ Some 1)
    × (deadline_slices 1000 500 ≡ Some 2)
    × (deadline_slices 999 500 ≡ Some 1)
    × (deadline_slices 499 500 ≡ Some 0)
    × (deadline_slices 1000 0 ≡ None)
    × (deadline_slices 4294967295 2 ≡ Some 2147483647)
unfolding runtime_slices period_slices deadline_slices choose ceil
worked = (refl, refl, refl, refl, refl, refl, refl, refl, refl, refl, refl, refl, refl, refl, refl, refl, refl, refl, refl, refl, refl, refl, refl, refl, refl, refl, refl)
