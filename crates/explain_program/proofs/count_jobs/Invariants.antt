-- `count_jobs` meets its contract, task by task.
use Rattle.std.proofs.Common.{◌≡◌}
use Rattle.basis.specs.Bytes.{overwrite}
use Rattle.output.specs.Explain.{jobs_in}
use Rattle.explain_program.proofs.count_jobs.Given as goal

abbrev pub invariant-loop-i : goal.invariant-loop-i
invariant-loop-i l = l.jobs ≡ overwrite (jobs_in l.fn.list) l.i l.initial.jobs
