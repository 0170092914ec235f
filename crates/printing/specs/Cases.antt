-- The outputs that the paper gives, by the definitions.
use Rattle.std.specs.Prelude.{◌≡◌, refl, [], ◌∷◌, negsuc, get_or}
use Rattle.basis.specs.Choose.{choose}
use Rattle.basis.specs.Sum.{sum}
use Rattle.printing.specs.Text.{ascii, digit, digits_in, decimal, sign, signed_decimal, field, crlf, refusal_header, refusal_record, refusal_text, quick_header, quick_text, table_header, pair_record, records_to, table_text, needs_header, need_record, job_records, need_records, needs_text}

-- List C: refusal 7, task 2, margin -1.
pub list_C : refusal_text 7 2 (negsuc 0) ≡ ascii "refusal,task,margin\r\n7,2,-1\r\n"
unfolding ascii digit digits_in decimal sign field signed_decimal crlf refusal_header refusal_record refusal_text choose
list_C = refl

-- The same list, asked quickly.
pub list_C_quick : quick_text 7 2 ≡ ascii "refusal,task\r\n7,2\r\n"
unfolding ascii digit digits_in decimal field crlf quick_header pair_record quick_text choose
list_C_quick = refl

-- The table of list B.
pub list_B : table_text (1 ∷ 2 ∷ 1 ∷ 2 ∷ 1 ∷ 3 ∷ []) ≡ ascii "slice,task\r\n0,1\r\n1,2\r\n2,1\r\n3,2\r\n4,1\r\n5,3\r\n"
unfolding ascii digit digits_in decimal field crlf table_header pair_record records_to table_text choose
list_B = refl

-- The needs of a run of list A that are not its run-times: three jobs, two jobs, one job.
pub list_A_needs : needs_text (1 ∷ 1 ∷ 1 ∷ 1 ∷ 2 ∷ 3 ∷ []) (λ i. get_or (3 ∷ 2 ∷ 1 ∷ []) i 0) 3 ≡ ascii "task,job,need\r\n1,0,1\r\n1,1,1\r\n1,2,1\r\n2,0,1\r\n2,1,2\r\n3,0,3\r\n"
unfolding ascii digit digits_in decimal field crlf pair_record needs_header need_record job_records need_records needs_text sum choose
list_A_needs = refl
