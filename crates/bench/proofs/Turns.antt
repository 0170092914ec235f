-- What one turn of a loop adds.
use Rattle.std.proofs.Common.{◌≡◌, ℕ, zero, suc, ◌+◌, List, get_or, set, refl, ap, ◌∙◌, add-one, arith}
use Rattle.basis.specs.Bytes.{overwrite, overwrite_next, overwrite_kept}
use Rattle.plan.specs.Plan.{Demand}
use Rattle.run.specs.declared.State.{State}
use Rattle.run.specs.State.{period_of, offset}
use Rattle.run.specs.Step.{state_after, next_state}
use Rattle.bench.specs.Course.{end_of, need_in, Course, state_in, closed, course_at}

-- The place that a turn of noting reads is still as it was.
pub one_more_noted : (log old ends : List ℕ) (position i byte end : ℕ) → ends ≡ overwrite (λ j. end_of position (get_or log j 0) (get_or old j 0)) i old
    → byte ≡ get_or log i 0 → end ≡ end_of position byte (get_or ends i 0) → set ends i end ≡ overwrite (λ j. end_of position (get_or log j 0) (get_or old j 0)) (i + 1) old
one_more_noted log old ends position i byte end e eb ee =
    let kept : get_or ends i 0 ≡ get_or old i 0 = ap (λ (l : List ℕ). get_or l i 0) e ∙ overwrite_kept _ old 0 i i (omega arith) in
    overwrite_next _ old i ends end e (ee ∙ (cc))

-- A step, refused or not, leaves the places of the jobs, so that the needs are read as before.
step_reads : (needs : List ℕ) (n : ℕ) (s : State) (ran clock report : ℕ) → need_in needs (next_state n s (state_after s ran clock report)) ≡ need_in needs s
unfolding next_state state_after need_in offset period_of
step_reads needs zero s ran clock report = refl
step_reads needs (suc n) s ran clock report = refl

needs_stay : (table needs : List ℕ) (need : Demand) (c : Course) (p : ℕ) → need_in needs (course_at table need c p).state ≡ need_in needs c.state
unfolding course_at closed state_in
needs_stay table needs need c zero = refl
needs_stay table needs need c (suc p) = step_reads needs _ (course_at table need c p).state _ _ _ ∙ needs_stay table needs need c p

-- One slice more.
pub one_more_slice : (table needs : List ℕ) (c now after : Course) (p : ℕ) → now ≡ course_at table (need_in needs c.state) c p → after ≡ closed table (need_in needs now.state) now
    → after ≡ course_at table (need_in needs c.state) c (p + 1)
unfolding course_at
one_more_slice table needs c now after p e ea =
    rw add-one (ea ∙ ap (λ (x : Course). closed table (need_in needs x.state) x) e ∙ ap (λ (need : Demand). closed table need (course_at table (need_in needs c.state) c p)) (needs_stay table needs (need_in needs c.state) c p))
