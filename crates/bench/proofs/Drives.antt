-- What a drive comes to, from what the start answers and the slices leave.
use Rattle.std.proofs.Common.{◌≡◌, ℕ, List, length, replicate, ◌++◌, sym, ap, ◌∙◌, arith}
use Rattle.std.proofs.lemmas.List.{take_all, drop_all, append-nil}
use Rattle.basis.specs.Bytes.{overwrite}
use Rattle.basis.proofs.Overwritten.{filled_front}
use Rattle.tasks.specs.declared.TaskList.{TaskList}
use Rattle.verdict.specs.Table.{Built}
use Rattle.std.specs.Prelude.{Option}
use Rattle.run.specs.declared.Mode.{Mode}
use Rattle.start.specs.declared.Started.{Started}
use Rattle.start.specs.Start.{Begins}
use Rattle.bench.specs.declared.Driven.{Driven}
use Rattle.bench.specs.Course.{Course, need_in, course_at}
use Rattle.bench.specs.Drive.{begun, Drives}

-- `old.fill(v)`: every place is written over.
pub all_filled : (v : ℕ) (old new : List ℕ) → new ≡ replicate (length old) v → new ≡ overwrite (λ _. v) (length old) old
all_filled v old new is =
    sym (ap (λ (rest : List ℕ). new ++ rest) (drop_all (length old) old (omega arith)) ∙ append-nil new)
    ∙ filled_front v old new (length old) (is ∙ ap (λ (l : List ℕ). replicate (length l) v) (sym (take_all (length old) old (omega arith)))) (omega arith)

module _ (l : TaskList) (supply : ℕ) (asked : Option Mode) (clock : ℕ) (needs table table' log log₁ log' ends ends₁ ends' : List ℕ) (s : Started) (r : Driven) where
  pub driven : Built l supply table table' r.built → Begins l supply asked clock log log₁ s → r.begun ≡ s.answer → ends₁ ≡ overwrite (λ _. 0) (length ends) ends
      → ◌≡◌ {A = Course} (record { state = r.state; log = log'; ends = ends' }) (course_at table' (need_in needs s.state) (record { state = s.state; log = log₁; ends = ends₁ }) s.state.cycle)
      → Drives l supply asked clock needs table table' log log' ends ends' r
  unfolding begun
  driven table_is S e cleared went =
      let first : ◌≡◌ {A = Course} (record { state = s.state; log = log₁; ends = ends₁ }) (begun l supply asked clock log ends) = cc (S.state, S.bytes) in
      record {
        built = table_is;
        started = e ∙ S.answer;
        whole = went ∙ ap (λ (c : Course). course_at table' (need_in needs c.state) c c.state.cycle) first;
      }
