-- `bench::report` meets its contract, by each answer to who runs.
use Rattle.std.proofs.Common.{refl, ap, ◌∙◌, Ok}
use Rattle.basis.specs.Answer.{refusal, none}
use Rattle.run.specs.Who.{runner_answer}
use Rattle.bench.specs.Course.{report_of}
use Rattle.bench.proofs.Reports.{runs_in, told_reports}
use Rattle.bench.proofs.report.Goals as goal

pub report_of-requires : goal.report_of-requires
report_of-requires c = runs_in _ _ _ c.who.ensures _ (c.in-Ok-Some.is ∙ ap Ok c.in-Ok-Some.field-0-is)

pub returns-in-Ok-Some : goal.returns-in-Ok-Some
unfolding runner_answer
returns-in-Ok-Some c = told_reports _ _ _ c.who.ensures _ _ _ (rw (c.in-Ok-Some.is, c.in-Ok-Some.field-0-is)) c.report_of.ensures

pub returns-in-Ok-None : goal.returns-in-Ok-None
unfolding runner_answer none refusal report_of
returns-in-Ok-None c = told_reports _ _ _ c.who.ensures _ 0 0 (rw (c.in-Ok-None.is, c.in-Ok-None.field-0-is)) refl

pub returns-in-Err : goal.returns-in-Err
unfolding runner_answer none refusal report_of
returns-in-Err c = told_reports _ _ _ c.who.ensures _ 0 0 (rw c.in-Err.is) refl
