-- Each public contract determines the answer: any two answers that keep it are equal. Each theorem has the name of the function
-- whose contract it repeats.
use Rattle.std.specs.Prelude.{◌≡◌, refl, Bool, true, false, ℕ, eqb, Result}
use Rattle.std.proofs.Common.{sym, ◌∙◌}
use Rattle.tasks.specs.declared.refusals.Refusal.{Refusal}
use Rattle.verdict.specs.Verdict.{Verdict}
use Rattle.cases.specs.declared.Answer.{Answer}
use Rattle.cases.specs.File.{answer_of, refused, start_answer_of}

-- compared
pub answer_of_lem : (verdict : Verdict) (r r' : Answer) → r ≡ answer_of verdict → r' ≡ answer_of verdict → r ≡ r'
answer_of_lem verdict r r' e e' = e ∙ sym e'

pub refused_lem : (refusal : Refusal) (r r' : Answer) → r ≡ refused refusal → r' ≡ refused refusal → r ≡ r'
refused_lem refusal r r' e e' = e ∙ sym e'

pub start_answer_of_lem : (begun : Result (Unit {0}) Refusal) (verdict r r' : Answer) → r ≡ start_answer_of begun verdict → r' ≡ start_answer_of begun verdict → r ≡ r'
start_answer_of_lem begun verdict r r' e e' = e ∙ sym e'

-- told
-- By whatever test of equality the type has; of numbers that is `eqb`.
pub agrees : {T : Type 0} (eq : T → T → Bool) (expected found : T) (r r' : Bool) → r ≡ eq expected found → r' ≡ eq expected found → r ≡ r'
agrees eq expected found r r' e e' = e ∙ sym e'

-- So of numbers, as tasks are.
pub task_agrees : (expected found : ℕ) (r r' : Bool) → r ≡ eqb expected found → r' ≡ eqb expected found → r ≡ r'
task_agrees = agrees eqb

pub holds : (fine r r' : Bool) → r ≡ fine → r' ≡ fine → r ≡ r'
holds fine r r' e e' = e ∙ sym e'

-- This contract is no equation: true exactly if the answers are equal.
pub answer_agrees : (expected found : Answer) (r r' : Bool) → (r ≡ true → expected ≡ found) × (expected ≡ found → r ≡ true)
    → (r' ≡ true → expected ≡ found) × (expected ≡ found → r' ≡ true) → r ≡ r'
answer_agrees expected found true true a a' = refl
answer_agrees expected found true false a a' = sym (a'.1 (a.0 refl))
answer_agrees expected found false true a a' = a.1 (a'.0 refl)
answer_agrees expected found false false a a' = refl
