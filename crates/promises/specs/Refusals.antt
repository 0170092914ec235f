-- The numbers of refusal, row by row: when each is given and what it names; and the order in which each call looks at them.
use Rattle.std.specs.Prelude.{◌≡◌, List, ◌⊎◌, ℕ, suc, ◌*◌, ◌≤◌, ◌<◌, length, get_or}
use Rattle.basis.specs.Answer.{clash}
use Rattle.basis.specs.Rules.{Rule, rule, saying, naming, Rules, no_more, ◌then◌, ◌and_then◌}
use Rattle.tasks.specs.declared.Task.{Task}
use Rattle.tasks.specs.declared.TaskList.{TaskList}
use Rattle.tasks.specs.List.{task_at, plan_of}
use Rattle.tasks.specs.Bounds.{multiple, memory_sum, cycle_of, jobs_of}
use Rattle.tasks.specs.Kept.{TaskFits}
use Rattle.run.specs.declared.Mode.TheVariants.{Table}
use Rattle.run.specs.declared.State.{State}
use Rattle.run.specs.State.{job_count}
use Rattle.run.specs.Sound.{SoundState}
use Rattle.run.specs.Who.{running}
use Rattle.promises.specs.Demand2.{FirstLate}

-- ---- lists
module _ (l : TaskList) where
  abbrev task : ℕ → Task
  task i = task_at l.tasks i

  -- 1: no tasks. 2: more than 16.
  abbrev pub no_tasks : Rule
  no_tasks = rule 1 (l.count ≡ 0)

  abbrev pub more_than_16 : Rule
  more_than_16 = rule 2 (16 < l.count)

  -- Task i is the first of which this is so, period, run-time and deadline of those before it being within bounds.
  pub record FirstWith (Broken : Task → Type 0) (i : ℕ) : Type 0 where
    pub below : i < l.count
    pub before_fit : (j : ℕ) → j < i → TaskFits (task j)
    pub broken : Broken (task i)

  -- 3: period outside 1 to 4,096. 4: run-time 0 or above the period. 20: deadline below the run-time or above the period, after 4 for
  -- the same task. Each names that task.
  abbrev pub PeriodOutside : Task → Type 0
  PeriodOutside t = (t.period ≡ 0) ⊎ (4096 < t.period)

  abbrev pub period_outside : Rule
  period_outside = naming 3 (FirstWith PeriodOutside)

  abbrev pub RuntimeOutside : Task → Type 0
  RuntimeOutside t = (PeriodOutside t → ⊥) × ((t.runtime ≡ 0) ⊎ (t.period < t.runtime))

  abbrev pub runtime_outside : Rule
  runtime_outside = naming 4 (FirstWith RuntimeOutside)

  abbrev pub DeadlineOutside : Task → Type 0
  DeadlineOutside t = (PeriodOutside t → ⊥) × (RuntimeOutside t → ⊥) × ((t.deadline < t.runtime) ⊎ (t.period < t.deadline))

  abbrev pub deadline_outside : Rule
  deadline_outside = naming 20 (FirstWith DeadlineOutside)

  -- Task i is the first with which a running number is above a bound.
  pub record FirstAbove (running : ℕ → ℕ) (bound i : ℕ) : Type 0 where
    pub below : i < l.count
    pub before_within : (j : ℕ) → j < i → running (suc j) ≤ bound
    pub above : bound < running (suc i)

  -- 5: memory exceeds the supply. 6: cycle above 4,096. Each names the first task where the running number does; 6 with the
  -- multiple before it and its period.
  abbrev pub memory_exceeds : ℕ → Rule
  memory_exceeds supply = naming 5 (FirstAbove (memory_sum l.tasks) supply)

  abbrev pub cycle_above : Rule
  cycle_above = saying 6 (λ i. clash (suc i) (multiple l.tasks i) (task i).period) (FirstAbove (multiple l.tasks) 4096)

  -- 7: a deadline missed; names the first task that misses, with what its job had received less its run-time as the margin.
  unfoldable pub deadline_missed : Rule
  deadline_missed = record { number = 7; broken = λ a. FirstLate (plan_of l) a.task a.margin × (a.reached ≡ 0) × (a.period ≡ 0) }

  -- 8: table lent is shorter than the cycle. 12: log shorter than the job count.
  abbrev pub table_short : ℕ → Rule
  table_short room = rule 8 (room < cycle_of l)

  abbrev pub log_short_for : ℕ → Rule
  log_short_for room = rule 12 (room < jobs_of l)

  -- Lists go 1, 2, then 3, 4 and 20 task by task, then 5, 6, 7. Table building adds 8 last; start adds 12 last.
  unfoldable pub bounds_rules : ℕ → Rules
  bounds_rules supply = no_tasks then more_than_16 then period_outside then runtime_outside then deadline_outside then memory_exceeds supply then cycle_above then no_more

  unfoldable pub list_rules : ℕ → Rules
  list_rules supply = bounds_rules supply and_then (deadline_missed then no_more)

  unfoldable pub build_rules : ℕ → ℕ → Rules
  build_rules supply room = list_rules supply and_then (table_short room then no_more)

  unfoldable pub start_rules : ℕ → ℕ → Rules
  start_rules supply room = list_rules supply and_then (log_short_for room then no_more)

-- ---- runs
-- One more than the last, and after 4,294,967,295 comes 0.
pub data Follows : ℕ → ℕ → Type 0 where
  one_more : {last : ℕ} → last < 4294967295 → Follows last (suc last)
  wraps : Follows 4294967295 0

module _ (s : State) (table : List ℕ) where
  -- 9: state not sound. 10: run over (position is the cycle).
  abbrev pub not_sound : Rule
  not_sound = rule 9 (SoundState s → ⊥)

  abbrev pub run_over : Rule
  run_over = rule 10 (s.position ≡ s.cycle)

  -- 11: by the table: length below the cycle, or entry p above the task count.
  abbrev pub no_entry_rule : Rule
  no_entry_rule = rule 11 ((s.mode ≡ Table) × ((length table < s.cycle) ⊎ (s.count < get_or table s.position 0)))

  -- 12: log shorter than the job count.
  abbrev pub log_short : List ℕ → Rule
  log_short log = rule 12 (length log < job_count s)

  -- 13: clock reading wrong.
  abbrev pub clock_wrong : ℕ → Rule
  clock_wrong clock = rule 13 (Follows s.clock clock → ⊥)

  -- 14: report above 1, or finished in an idle slice.
  abbrev pub report_wrong : ℕ → Rule
  report_wrong report = rule 14 ((1 < report) ⊎ ((report ≡ 1) × (running s table ≡ 0)))

  -- Asking who runs goes 9 to 11; a step goes 9 to 14.
  unfoldable pub who_rules : Rules
  who_rules = not_sound then run_over then no_entry_rule then no_more

  unfoldable pub step_rules : ℕ → ℕ → List ℕ → Rules
  step_rules clock report log = who_rules and_then (log_short log then clock_wrong clock then report_wrong report then no_more)

-- ---- conversions
-- 17: slice length 0; of a run-time, a tick cost that is not below the slice length; a period that is not a whole number of
-- slices. Of a deadline, slice length 0 alone.
abbrev pub no_share : ℕ → ℕ → Rule
no_share slice tick = rule 17 ((slice ≡ 0) ⊎ (slice ≤ tick))

abbrev pub not_whole : ℕ → ℕ → Rule
not_whole micros slice = rule 17 ((slice ≡ 0) ⊎ ((n : ℕ) → micros ≡ n * slice → ⊥))

abbrev pub no_length : ℕ → Rule
no_length slice = rule 17 (slice ≡ 0)
