-- The texts that the program prints, as lists of bytes: records by RFC 4180, each closed by CRLF.
use Rattle.std.specs.Prelude.{List, [], ◌∷◌, ◌++◌, ℕ, zero, suc, ◌+◌, ◌/◌, ◌%◌, ltb, ℤ, pos, negsuc, nat_abs, length, get_or}
use Prim.Native.Char.{code}
use Prim.Native.String.{String, [] as end, ◌∷◌ as ◌then◌}
use Rattle.basis.specs.Choose.{choose}
use Rattle.basis.specs.Sum.{sum}

-- The bytes of a text whose characters are all below 128.
unfoldable pub ascii : String → List ℕ
ascii end = []
ascii (c then s) = code c ∷ ascii s

-- ---- fields
-- "0" to "9"
unfoldable pub digit : ℕ → ℕ
digit d = 48 + d

-- The digits of n, most significant first, in at most so many turns.
unfoldable pub digits_in : ℕ → ℕ → List ℕ
digits_in zero n = []
digits_in (suc turns) n = choose (ltb n 10) (digit n ∷ []) (digits_in turns (n / 10) ++ (digit (n % 10) ∷ []))

-- A number in decimal. No number has more digits than one more than itself, so the turns are enough.
unfoldable pub decimal : ℕ → List ℕ
decimal n = digits_in (suc n) n

-- "-" exactly below zero
unfoldable pub sign : ℤ → List ℕ
sign (pos n) = []
sign (negsuc n) = ascii "-"

unfoldable pub signed_decimal : ℤ → List ℕ
signed_decimal z = sign z ++ decimal (nat_abs z)

-- a field that another one follows
unfoldable pub field : ℕ → List ℕ
field n = decimal n ++ ascii ","

unfoldable pub crlf : List ℕ
crlf = ascii "\r\n"

-- ---- a refusal
unfoldable pub refusal_header : List ℕ
refusal_header = ascii "refusal,task,margin" ++ crlf

-- the refusal's number, the task that it names, the margin
unfoldable pub refusal_record : ℕ → ℕ → ℤ → List ℕ
refusal_record number task margin = field number ++ field task ++ signed_decimal margin ++ crlf

-- The header and one record.
unfoldable pub refusal_text : ℕ → ℕ → ℤ → List ℕ
refusal_text number task margin = refusal_header ++ refusal_record number task margin

-- ---- a record of two numbers
unfoldable pub pair_record : ℕ → ℕ → List ℕ
pair_record a b = field a ++ decimal b ++ crlf

-- ---- why two periods clash
unfoldable pub clash_header : List ℕ
clash_header = ascii "reached,period" ++ crlf

-- The header and one record: the multiple reached, and the period that is too much for it.
unfoldable pub clash_text : ℕ → ℕ → List ℕ
clash_text reached period = clash_header ++ pair_record reached period

-- ---- the quick answer
unfoldable pub quick_header : List ℕ
quick_header = ascii "refusal,task" ++ crlf

-- The header and one record: the refusal's number, 0 for none, and the task that it names.
unfoldable pub quick_text : ℕ → ℕ → List ℕ
quick_text number task = quick_header ++ pair_record number task

-- ---- a table
unfoldable pub table_header : List ℕ
table_header = ascii "slice,task" ++ crlf

-- the records of the slices before slice n: a slice's number, then its entry
unfoldable pub records_to : List ℕ → ℕ → List ℕ
records_to table zero = []
records_to table (suc t) = records_to table t ++ pair_record t (get_or table t 0)

-- The header and a record for each slice.
unfoldable pub table_text : List ℕ → List ℕ
table_text table = table_header ++ records_to table (length table)

-- ---- needs
unfoldable pub needs_header : List ℕ
needs_header = ascii "task,job,need" ++ crlf

-- a job's task, its number, its need
unfoldable pub need_record : ℕ → ℕ → ℕ → List ℕ
need_record task job need = field task ++ pair_record job need

-- the records of a task's jobs before job k, numbered from 0; their needs stand from a place on
unfoldable pub job_records : List ℕ → ℕ → ℕ → ℕ → List ℕ
job_records needs task from zero = []
job_records needs task from (suc k) = job_records needs task from k ++ need_record task k (get_or needs (from + k) 0)

-- those of the first n tasks, numbered from 1, each of which has so many jobs: all of task 1, then all of task 2, and so on
unfoldable pub need_records : List ℕ → (ℕ → ℕ) → ℕ → List ℕ
need_records needs jobs zero = []
need_records needs jobs (suc i) = need_records needs jobs i ++ job_records needs (suc i) (sum jobs i) (jobs i)

-- The header and a record for each job.
unfoldable pub needs_text : List ℕ → (ℕ → ℕ) → ℕ → List ℕ
needs_text needs jobs n = needs_header ++ need_records needs jobs n

-- Where there are none.
unfoldable pub no_text : List ℕ
no_text = ascii "no" ++ crlf
