-- `run::sound::jobs_if_sound` meets its contract.
use Rattle.std.proofs.Common.{◌∙◌, arith}
use Rattle.run.proofs.Asking.{no_jobs, all_jobs}
use Rattle.run.proofs.sound.jobs_if_sound.Goals as goal
use Rattle.run.proofs.sound.jobs_if_sound.Goals.{then-state-lt1-via-then-state-lt1, then-state-lt1-via-else-state-lt1+then-state-gt16, then-state-lt1-2-via-then-state-lt1-2, then-state-lt1-2-via-else-state-lt1-2+then-state-gt4096}

pub returns-then-state-lt1 : goal.returns-then-state-lt1
returns-then-state-lt1 c = no_jobs _ (λ S. elim c.then-state-lt1.branch [ then-state-lt1-via-then-state-lt1 w ↦ omega (arith, S.count_from, w.if-state-lt1.true) | then-state-lt1-via-else-state-lt1+then-state-gt16 w ↦ omega (arith, S.count_within, w.if-state-gt16.true) ])

pub returns-then-state-lt1-2 : goal.returns-then-state-lt1-2
returns-then-state-lt1-2 c = no_jobs _ (λ S. elim c.then-state-lt1-2.branch [ then-state-lt1-2-via-then-state-lt1-2 w ↦ omega (arith, S.cycle_from, w.if-state-lt1-2.true) | then-state-lt1-2-via-else-state-lt1-2+then-state-gt4096 w ↦ omega (arith, S.cycle_to, w.if-state-gt4096.true) ])

pub returns-then-state : goal.returns-then-state
returns-then-state c = no_jobs _ (λ S. omega (arith, S.position_to, c.if-state.true))

pub returns : goal.returns
returns c = c.count_jobs.ensures ∙ all_jobs _ c.if-state-lt1.false c.if-state-gt16.false c.if-state-lt1-2.false c.if-state-gt4096.false c.if-state.false
