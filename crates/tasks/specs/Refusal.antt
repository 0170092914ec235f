-- What each refusal of a call on a task list says, in the paper's values; and the refusal of a bound by these.
use Rattle.std.specs.Prelude.{eqb, Result, Ok, Err}
use Rattle.basis.specs.Choose.{choose}
use Rattle.basis.specs.Answer.{Answer, refusal, clash}
use Rattle.tasks.specs.declared.refusals.Refusal.{Refusal}
use Rattle.tasks.specs.declared.refusals.Refusal.TheVariants.{NoTasks, TooManyTasks, PeriodOutside, RuntimeOutside, DeadlineOutside, MemoryExceeded, CycleTooLong, Late, Fails, ShortTable, ShortLog, OtherForm, OtherLength, EntryAbove, NoRoom}

-- The number, and what it names.
unfoldable pub refusal_answer : Refusal → Answer
refusal_answer NoTasks = refusal 1 0
refusal_answer TooManyTasks = refusal 2 0
refusal_answer (PeriodOutside task) = refusal 3 task
refusal_answer (RuntimeOutside task) = refusal 4 task
refusal_answer (DeadlineOutside task) = refusal 20 task
refusal_answer (MemoryExceeded task) = refusal 5 task
refusal_answer (CycleTooLong task reached period) = clash task reached period
refusal_answer (Late task margin) = record { number = 7; task = task; margin = margin; cycle = 0; jobs = 0; reached = 0; period = 0 }
refusal_answer (Fails task) = refusal 7 task
refusal_answer ShortTable = refusal 8 0
refusal_answer ShortLog = refusal 12 0
refusal_answer (OtherForm place) = refusal 18 place
refusal_answer OtherLength = refusal 19 0
refusal_answer EntryAbove = refusal 30 0
refusal_answer NoRoom = refusal 31 0

-- The refusal of a bound that has this number, and names what the answer names.
unfoldable pub bound_refusal : Answer → Refusal
bound_refusal f =
    choose (eqb f.number 1) NoTasks
    (choose (eqb f.number 2) TooManyTasks
    (choose (eqb f.number 3) (PeriodOutside f.task)
    (choose (eqb f.number 4) (RuntimeOutside f.task)
    (choose (eqb f.number 5) (MemoryExceeded f.task)
    (choose (eqb f.number 6) (CycleTooLong f.task f.reached f.period)
    (DeadlineOutside f.task))))))

-- A value, unless a bound is found to be broken.
unfoldable pub unless_broken : {A : Type 0} → Answer → A → Result A Refusal
unless_broken f x = choose (eqb f.number 0) (Ok x) (Err (bound_refusal f))
