-- Answers of the library in the numbers of the file of reference cases.
use Rattle.std.specs.Prelude.{Result, Ok, Err}
use Rattle.basis.specs.Answer as basis
use Rattle.tasks.specs.declared.refusals.Refusal.{Refusal}
use Rattle.tasks.specs.Refusal.{refusal_answer}
use Rattle.verdict.specs.Verdict.{Verdict, verdict_answer}
use Rattle.cases.specs.declared.Answer.{Answer}

-- An answer by its values.
unfoldable pub of_values : basis.Answer → Answer
of_values a = record { refusal = a.number; task = a.task; margin = a.margin; cycle = a.cycle; jobs = a.jobs; reached = a.reached; period = a.period }

unfoldable pub refused : Refusal → Answer
refused r = of_values (refusal_answer r)

unfoldable pub answer_of : Verdict → Answer
answer_of v = of_values (verdict_answer v)

-- An accepted start answers nothing beside the state; the verdict on the list stands for it.
unfoldable pub start_answer_of : Result (Unit {0}) Refusal → Answer → Answer
start_answer_of (Ok _) verdict = verdict
start_answer_of (Err r) verdict = refused r
