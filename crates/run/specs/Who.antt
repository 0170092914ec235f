-- Who runs in the slice at the state's position, and refusals 9 to 11.
use Rattle.std.specs.Prelude.{◌≡◌, ℕ, zero, suc, ◌+◌, ◌-◌, ◌≤◌, Bool, true, false, ◌||◌, ◌⊎◌, List, length, Option, Some, None, Result, Ok, Err, pos, ◌==◌, nat_lt, slice_index, refl}
use Rattle.std.proofs.Common.{inl, inr, arith}
use Rattle.basis.specs.Choose.{choose, choose_either}
use Rattle.basis.specs.Answer.{Answer, refusal, none, ◌or_else◌}
use Rattle.plan.specs.Plan.{first}
use Rattle.run.specs.declared.Mode.{Mode}
use Rattle.run.specs.declared.Mode.TheVariants.{Table, Filling}
use Rattle.run.specs.declared.State.{State}
use Rattle.run.specs.declared.Refusal.{Refusal}
use Rattle.run.specs.declared.Refusal.TheVariants.{Unsound, Over, NoEntry, ShortLog, ClockJumped, WrongReport}
use Rattle.run.specs.State.{key_of, current_of, job_of, sound}

-- ---- who runs
-- By the table, the task of the entry, unless its current job has ended (then idle).
unfoldable pub unless_ended : State → ℕ → ℕ
unless_ended s zero = 0
unless_ended s (suc i) = choose (job_of s i).ended 0 (suc i)

-- Filling, the first-ranking task whose current job has not ended.
unfoldable pub first_open : State → ℕ
first_open s = first (λ i. key_of s i (current_of s i)) (λ i. choose (job_of s i).ended 0 1) s.count

-- An entry: 0 where nobody runs.
unfoldable pub running_by : Mode → State → List ℕ → ℕ
running_by Table s table = unless_ended s (slice_index table s.position)
running_by Filling s table = first_open s

unfoldable pub running : State → List ℕ → ℕ
running s table = running_by s.mode s table

-- ---- refusals 9 to 11
-- 9: state not sound.
unfoldable pub of9 : State → Answer
of9 s = choose (sound s) none (refusal 9 0)

-- 10: run over (position is the cycle).
unfoldable pub of10 : State → Answer
of10 s = choose (s.position == s.cycle) (refusal 10 0) none

-- 11: by the table: length below the cycle, or the entry above the task count.
unfoldable pub of11_by : Mode → State → List ℕ → Answer
of11_by Table s table = choose (nat_lt (length table) s.cycle || nat_lt s.count (slice_index table s.position)) (refusal 11 0) none
of11_by Filling s table = none

unfoldable pub of11 : State → List ℕ → Answer
of11 s table = of11_by s.mode s table

-- Asking who runs goes 9 to 11.
unfoldable pub who_found : State → List ℕ → Answer
who_found s table = of9 s or_else of10 s or_else of11 s table

abbrev pub who_refusal : State → List ℕ → ℕ
who_refusal s table = (who_found s table).number

-- ---- the answer
-- The number of each refusal,
unfoldable pub number_of : Refusal → ℕ
number_of Unsound = 9
number_of Over = 10
number_of NoEntry = 11
number_of ShortLog = 12
number_of ClockJumped = 13
number_of WrongReport = 14

-- and the refusal of each number from 9 to 14.
unfoldable pub refusal_of : ℕ → Refusal
refusal_of n =
    choose (n == 9) Unsound
    (choose (n == 10) Over
    (choose (n == 11) NoEntry
    (choose (n == 12) ShortLog
    (choose (n == 13) ClockJumped WrongReport))))

-- What is answered, unless refusal n was found.
unfoldable pub unless_refused : {A : Type 0} → ℕ → A → Result A Refusal
unless_refused zero answer = Ok answer
unless_refused (suc n) answer = Err (refusal_of (suc n))

unfoldable pub of_entry : ℕ → Option ℕ
of_entry zero = None
of_entry (suc i) = Some (suc i)

unfoldable pub answered : ℕ → ℕ → Result (Option ℕ) Refusal
answered n entry = unless_refused n (of_entry entry)

unfoldable pub who_of : State → List ℕ → Result (Option ℕ) Refusal
who_of s table = answered (who_refusal s table) (running s table)

-- The paper's values of each case. Refused, it answers task 0.
unfoldable pub runner_answer : Result (Option ℕ) Refusal → Answer
runner_answer (Ok None) = none
runner_answer (Ok (Some n)) = record { number = 0; task = n; margin = pos 0; cycle = 0; jobs = 0; reached = 0; period = 0 }
runner_answer (Err r) = refusal (number_of r) 0

-- ---- the numbers that arise
-- Nothing is found, or a refusal of the run.
unfoldable pub IsFound : ℕ → Type 0
IsFound n = (n ≡ 0) ⊎ ((9 ≤ n) × (n ≤ 14))

-- The number of such a refusal is given back.
from_nine : (k : ℕ) → k ≤ 5 → number_of (refusal_of (9 + k)) ≡ 9 + k
unfolding number_of refusal_of choose
from_nine zero l = refl
from_nine (suc zero) l = refl
from_nine (suc (suc zero)) l = refl
from_nine (suc (suc (suc zero))) l = refl
from_nine (suc (suc (suc (suc zero)))) l = refl
from_nine (suc (suc (suc (suc (suc zero))))) l = refl
from_nine (suc (suc (suc (suc (suc (suc k)))))) l = absurd (omega arith)

pub number_back : (n : ℕ) → 9 ≤ n → n ≤ 14 → number_of (refusal_of n) ≡ n
number_back n from to =
    let e : 9 + (n - 9) ≡ n = omega arith in
    rw e at (from_nine (n - 9) (omega arith))

pub some_back : (n : ℕ) → IsFound (suc n) → number_of (refusal_of (suc n)) ≡ suc n
unfolding IsFound
some_back n (inl z) = absurd (omega arith)
some_back n (inr h) = number_back (suc n) h.0 h.1

pub found_if : (b : Bool) (n : ℕ) → 9 ≤ n → n ≤ 14 → IsFound (choose b (refusal n 0) none).number
unfolding IsFound choose refusal none
found_if true n from to = inr (from, to)
found_if false n from to = inl refl

pub found_unless : (b : Bool) (n : ℕ) → 9 ≤ n → n ≤ 14 → IsFound (choose b none (refusal n 0)).number
unfolding IsFound choose refusal none
found_unless true n from to = inl refl
found_unless false n from to = inr (from, to)

pub found_else : (a b : Answer) → IsFound a.number → IsFound b.number → IsFound (a or_else b).number
unfolding ◌or_else◌
found_else a b fa fb = choose_either (λ (x : Answer). IsFound x.number) _ _ _ fb fa

found_by : (m : Mode) (s : State) (table : List ℕ) → IsFound (of11_by m s table).number
unfolding of11_by IsFound none refusal
found_by Table s table = found_if _ 11 (omega arith) (omega arith)
found_by Filling s table = inl refl

pub who_found_is : (s : State) (table : List ℕ) → IsFound (who_refusal s table)
unfolding who_found of9 of10 of11
who_found_is s table =
    found_else _ _ (found_unless _ 9 (omega arith) (omega arith)) (found_else _ _ (found_if _ 10 (omega arith) (omega arith)) (found_by s.mode s table))

-- What an answer says is the refusal that was found, and who runs.
pub answered_number : (n e : ℕ) → IsFound n → (runner_answer (answered n e)).number ≡ n
unfolding answered unless_refused of_entry runner_answer refusal none
answered_number zero zero f = refl
answered_number zero (suc i) f = refl
answered_number (suc n) e f = some_back n f

pub who_says : (s : State) (table : List ℕ) → (runner_answer (who_of s table)).number ≡ who_refusal s table
unfolding who_of
who_says s table = answered_number (who_refusal s table) (running s table) (who_found_is s table)
