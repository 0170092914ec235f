-- `bench::note` meets its contract, place by place.
use Rattle.std.proofs.Common.{◌≡◌, ℕ, get_or}
use Rattle.basis.specs.Bytes.{overwrite}
use Rattle.bench.specs.Course.{end_of}
use Rattle.bench.proofs.note.Given as goal

abbrev pub invariant-loop-i : goal.invariant-loop-i
invariant-loop-i l = l.ends ≡ overwrite (λ (j : ℕ). end_of l.position (get_or l.log j 0) (get_or l.initial.ends j 0)) l.i l.initial.ends
