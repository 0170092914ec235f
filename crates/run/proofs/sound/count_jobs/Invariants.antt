-- `run::sound::count_jobs` meets its contract.
use Rattle.std.proofs.Common.{◌≡◌, ◌*◌, ◌≤◌, true}
use Rattle.run.specs.State.{every, offset}
use Rattle.run.specs.Shapes.{sound_at}
use Rattle.run.proofs.sound.count_jobs.Given as goal

abbrev pub invariant-loop-i : goal.invariant-loop-i
invariant-loop-i l = (l.jobs ≤ l.i * 4096) × (l.jobs ≡ offset l.state l.i) × (every (sound_at l.state) l.i ≡ true)
