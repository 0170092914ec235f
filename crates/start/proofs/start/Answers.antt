-- `start::start` meets its contract: each way out answers as the laws of Answers say.
use Rattle.std.proofs.Common.{arith}
use Rattle.basis.proofs.Overwritten.{filled_front}
use Rattle.start.specs.Start.{start_state}
use Rattle.start.proofs.Answers.{refused_begins, few_tasks, short_begins, accepted_begins}
use Rattle.start.proofs.start.Goals as goal

pub returns-in-Err : goal.returns-in-Err
returns-in-Err c = refused_begins _ _ _ _ _ _ c.judge-verdict.ensures _ _ c.in-Err.is c.no_run.ensures

pub returns-then-log-jobs : goal.returns-then-log-jobs
returns-then-log-jobs c = short_begins _ _ _ _ _ _ c.judge-verdict.ensures _ c.in-Ok.is _ c.if-log-jobs.true c.no_run-then-log-jobs.ensures

pub read-requires : goal.read-requires
read-requires c = few_tasks _ _ _ c.judge-verdict.ensures _ c.in-Ok.is

pub returns-in-Ok : goal.returns-in-Ok
unfolding start_state
returns-in-Ok c =
    accepted_begins _ _ _ _ _ _ c.judge-verdict.ensures _ c.in-Ok.is _ _ c.if-log-jobs.false (rw (c.read.ensures.0, c.read.ensures.1, c.read.ensures.2, c.mode_of.ensures)) (filled_front _ _ _ _ (c.fill.ensures.after (λ _ e. e)) (omega arith))
