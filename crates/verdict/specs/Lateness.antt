-- Lateness: the earliest missed deadline of the slice rule, and of several there the first-ranking task.
use Rattle.std.specs.Prelude.{ℕ, zero, suc, ◌+◌, ◌-◌, ◌==◌}
use Rattle.basis.specs.Choose.{choose}
use Rattle.plan.specs.Plan.{Plan, job, age, key_in, first, gets, had, table}
use Rattle.verdict.specs.declared.Late.{Late}

-- What the current job of task i has received by the end of slice t.
unfoldable pub received : Plan → ℕ → ℕ → ℕ
received P t i = had P P.runtime t i + gets (table P t) i

-- What it lacks of its run-time if its deadline is there; 0 if it is not, or if it lacks nothing.
unfoldable pub missing : Plan → ℕ → ℕ → ℕ
missing P t i = choose (suc (age P i t) == P.due i) (P.runtime i (job P i t) - received P t i) 0

-- The first-ranking task that misses a deadline at the end of slice t: an entry, 0 if none does.
unfoldable pub missed_at : Plan → ℕ → ℕ
missed_at P t = first (key_in P t) (missing P t) P.count

-- A missed deadline: the task and what its job lacks. Task 0: none.
unfoldable pub late_by : (ℕ → ℕ) → ℕ → Late
late_by lacks zero = record { task = 0; short = 0 }
late_by lacks (suc i) = record { task = suc i; short = lacks i }

unfoldable pub earlier : Late → Late → Late
earlier a b = choose (a.task == 0) b a

-- The earliest missed deadline of the first n slices.
unfoldable pub lateness : Plan → ℕ → Late
lateness P zero = record { task = 0; short = 0 }
lateness P (suc t) = earlier (lateness P t) (late_by (missing P t) (missed_at P t))
