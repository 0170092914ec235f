-- How the paper reads an entry of a table, a number of refusal and a byte of the log, and the number of each case.
use Rattle.std.specs.Prelude.{◌&&◌, ℕ, leb, eqb}
use Rattle.basis.specs.Choose.{choose, within}
use Rattle.readings.specs.declared.Entry.{Entry}
use Rattle.readings.specs.declared.Entry.TheVariants.{Idle, Task, NoEntry}
use Rattle.readings.specs.declared.Refusal.{Refusal}
use Rattle.readings.specs.declared.Refusal.TheVariants.{Bound, Lateness, ShortTable, Run, Program, Conversion, Viewer, NoRefusal}
use Rattle.readings.specs.declared.Logged.{Logged}
use Rattle.readings.specs.declared.Logged.TheVariants.{NoResult, Done, Over, Late, Damaged}

-- An entry: 0 idle, 1 to 16 a task, anything above the task count no entry at all.
unfoldable pub entry_of : ℕ → ℕ → Entry
entry_of byte count =
    choose (eqb byte 0) Idle
    (choose (within 1 16 byte && leb byte count) (Task byte)
    (NoEntry byte))

-- Numbers of refusal: 1 to 6 and 20 bound the list, 7 a deadline missed, 8 the table lent is too short, 9 to 14 the run,
-- 15 and 16 the program, 17 the conversion, 18, 19, 30 and 31 the viewer.
unfoldable pub refusal_of : ℕ → Refusal
refusal_of n =
    choose (within 1 6 n) (Bound n)
    (choose (eqb n 7) Lateness
    (choose (eqb n 8) ShortTable
    (choose (within 9 14 n) (Run n)
    (choose (within 15 16 n) (Program n)
    (choose (eqb n 17) Conversion
    (choose (within 18 19 n) (Viewer n)
    (choose (eqb n 20) (Bound n)
    (choose (within 30 31 n) (Viewer n)
    (NoRefusal n)))))))))

-- The log: 0 no result, 1 done, 2 over, 3 late, any other byte damaged.
unfoldable pub logged_of : ℕ → Logged
logged_of byte =
    choose (eqb byte 0) NoResult
    (choose (eqb byte 1) Done
    (choose (eqb byte 2) Over
    (choose (eqb byte 3) Late
    (Damaged byte))))

-- ---- the number of each case
unfoldable pub entry_byte : Entry → ℕ
entry_byte Idle = 0
entry_byte (Task i) = i
entry_byte (NoEntry byte) = byte

unfoldable pub refusal_number : Refusal → ℕ
refusal_number (Bound n) = n
refusal_number Lateness = 7
refusal_number ShortTable = 8
refusal_number (Run n) = n
refusal_number (Program n) = n
refusal_number Conversion = 17
refusal_number (Viewer n) = n
refusal_number (NoRefusal n) = n

unfoldable pub logged_byte : Logged → ℕ
logged_byte NoResult = 0
logged_byte Done = 1
logged_byte Over = 2
logged_byte Late = 3
logged_byte (Damaged byte) = byte
