-- `run::close::serve_task` meets its contract.
use Rattle.std.proofs.Common.{eq-eqb, ne_eqb}
use Rattle.basis.specs.Choose.{choose}
use Rattle.run.specs.State.{period_of, runtime_of, current_of, job_of, offset, place}
use Rattle.run.specs.Step.{result_of}
use Rattle.run.specs.Shapes.{outcome_byte, ended_with, served_one}
use Rattle.run.proofs.close.serve_task.Goals as goal

pub end_job-requires : goal.end_job-requires
unfolding place offset current_of period_of
end_job-requires c = (c.requires.0, c.requires.2)

pub returns-then-report-eq1 : goal.returns-then-report-eq1
unfolding served_one ended_with result_of outcome_byte choose place offset current_of period_of
returns-then-report-eq1 c = rw (eq-eqb _ _ c.if-report-eq1.true) c.end_job.ensures

pub end_job-requires-then-in_all-state : goal.end_job-requires-then-in_all-state
unfolding place offset current_of period_of
end_job-requires-then-in_all-state c = (c.requires.0, c.requires.2)

pub returns-then-in_all-state : goal.returns-then-in_all-state
unfolding served_one ended_with result_of outcome_byte choose place offset current_of period_of job_of runtime_of
returns-then-in_all-state c = rw (ne_eqb _ _ c.if-report-eq1.false, eq-eqb _ _ c.if-in_all-state.true) c.end_job-then-in_all-state.ensures

pub returns-else-in_all-state : goal.returns-else-in_all-state
unfolding served_one result_of choose job_of runtime_of current_of
returns-else-in_all-state c = (rw (ne_eqb _ _ c.if-report-eq1.false, ne_eqb _ _ c.if-in_all-state.false), rw (ne_eqb _ _ c.if-report-eq1.false, ne_eqb _ _ c.if-in_all-state.false))
