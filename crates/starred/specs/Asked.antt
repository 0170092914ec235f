-- The quick question on the starred lists, and the points that it tries: the definitions compute both.
use Rattle.std.specs.Prelude.{◌≡◌, refl, List, [], ◌∷◌, ℕ}
use Rattle.basis.specs.Answer.{Answer, refusal, none, ◌or_else◌, first_found}
use Rattle.basis.specs.Choose.{choose, within}
use Rattle.basis.specs.Bytes.{overwrite}
use Rattle.basis.specs.Slices.{ceil}
use Rattle.basis.specs.Sum.{sum}
use Rattle.plan.specs.Plan.{ranks_before, first_of, first, job, key_in, asks, bound}
use Rattle.plan.specs.Points.{in_level, is_multiple, is_point, points_from, points, passes_among, fails_at_points, first_without}
use Rattle.tasks.specs.declared.Task.{Task}
use Rattle.tasks.specs.List.{no_task, task_at, plan_of, list_of}
use Rattle.tasks.specs.Refusal.{refusal_answer, bound_refusal, unless_broken}
use Rattle.tasks.specs.Euclid.{euclid, gcd_of, lcm_of}
use Rattle.tasks.specs.Bounds.{multiple, memory_sum, job_sum, cycle_of, jobs_of, of_count, of_numbers, of_task, of_memory, of_cycle, found, answer, bounds_of}
use Rattle.quick.specs.Quick.{named, tried, quick_from, quick_of, quick_answer}
use Rattle.starred.specs.Lists.{task, A, B, C, D, E, F, G, H}

-- The answer on a list, with a supply of 0; the points of a task, tasks counted from 0.
unfoldable pub asked : List Task → Answer
asked ts = quick_answer (quick_of (list_of ts) 0)

unfoldable pub points_of : List Task → ℕ → List ℕ
points_of ts i = points (plan_of (list_of ts)) i

pub record AskedQuickly : Type 0 where
  pub asked_A : asked A ≡ none
  pub asked_B : asked B ≡ none
  pub asked_C : asked C ≡ refusal 7 2
  pub asked_D : asked D ≡ refusal 7 2
  pub asked_E : asked E ≡ none
  pub asked_F : asked F ≡ none
  pub asked_G : asked G ≡ none
  pub asked_H : asked H ≡ refusal 7 2
  -- A number that several periods share is one point; in G the second task ranks first.
  pub points_A : (points_of A 0 ≡ 4 ∷ []) × (points_of A 1 ≡ 4 ∷ 6 ∷ []) × (points_of A 2 ≡ 4 ∷ 6 ∷ 8 ∷ 12 ∷ [])
  pub points_G : (points_of G 0 ≡ 4 ∷ 6 ∷ []) × (points_of G 1 ≡ 4 ∷ [])

pub asked_quickly : AskedQuickly
unfolding asked points_of A B C D E F G H task list_of plan_of no_task task_at choose within overwrite sum ceil ranks_before first_of first job key_in asks bound in_level is_multiple is_point points_from points passes_among fails_at_points first_without euclid gcd_of lcm_of multiple memory_sum job_sum cycle_of jobs_of refusal none ◌or_else◌ first_found of_count of_numbers of_task of_memory of_cycle found refusal_answer bound_refusal unless_broken answer bounds_of named tried quick_from quick_of quick_answer
asked_quickly = record {
  asked_A = refl;
  asked_B = refl;
  asked_C = refl;
  asked_D = refl;
  asked_E = refl;
  asked_F = refl;
  asked_G = refl;
  asked_H = refl;
  points_A = (refl, refl, refl);
  points_G = (refl, refl);
}
