-- Building a list's table in 4,096 lent bytes, for a program that writes the entries: the room is always enough, and the first bytes are the entries.
use Rattle.std.specs.Prelude.{◌≡◌, List, ℕ, ◌≤◌, length, take, replicate, Result, Ok, Err}
use Rattle.std.proofs.Math.Path.{refl, ap, ap₂}
use Rattle.std.proofs.Common.{sym, ◌∙◌, arith, length-take-le, get_or-take, ext_get_or, le-ltb}
use Rattle.std.proofs.lemmas.List.{length-replicate}
use Rattle.basis.specs.Choose.{choose_no}
use Rattle.basis.specs.Answer.{Answer}
use Rattle.basis.specs.Bytes.{overwrite, overwrite-length, overwritten_length, overwrite_at}
use Rattle.plan.specs.Plan.{table}
use Rattle.tasks.specs.declared.TaskList.{TaskList}
use Rattle.tasks.specs.declared.refusals.Refusal.{Refusal}
use Rattle.tasks.specs.List.{plan_of}
use Rattle.tasks.specs.Refusal.{refusal_answer}
use Rattle.verdict.specs.declared.Accepted.{Accepted}
use Rattle.verdict.specs.Verdict.{Verdict, verdict_of, verdict_answer}
use Rattle.verdict.specs.Table.{fitted, tabled, Built}
use Rattle.verdict.proofs.Told.{accepted_tells, refused_not_0}
use Rattle.records.specs.declared.BadLine.{BadLine}
use Rattle.records.specs.Grammar.{list_read, read_of}
use Rattle.output.specs.Output.{entries, judged_as}

-- The first entries of bytes that are written over do not depend on these.
first_entries : (f : ℕ → ℕ) (bytes : List ℕ) (n : ℕ) → n ≤ length bytes → take n (overwrite f n bytes) ≡ overwrite f n (replicate n 0)
first_entries f bytes n l =
    let long : length (take n (overwrite f n bytes)) ≡ n = length-take-le n (overwrite f n bytes) (omega (arith, overwrite-length f bytes n)) in
    ext_get_or 0 _ _ (omega (arith, long, overwrite-length f (replicate n 0) n, length-replicate {A = ℕ} n 0))
    (λ i li.
    get_or-take n (overwrite f n bytes) i 0 (omega (arith, long))
    ∙ overwrite_at f bytes 0 n i (omega (arith, long)) (omega (arith, long))
    ∙ sym (overwrite_at f (replicate n 0) 0 n i (omega (arith, long)) (omega (arith, long, length-replicate {A = ℕ} n 0))))

module _ (l : TaskList) (supply : ℕ) where
  accepted_within : (a : Accepted) → verdict_of l supply ≡ Ok a → a.cycle ≤ 4096
  unfolding verdict_answer
  accepted_within a e =
      let K = accepted_tells l supply a e in
      omega (arith, ap (λ (x : Verdict). (verdict_answer x).cycle) K.is, K.keeps.cycle_within)

  -- A table of 4,096 entries is never too short.
  never_short : (room : ℕ) → 4096 ≤ room → (v : Verdict) → verdict_of l supply ≡ v → fitted v room ≡ v
  unfolding fitted
  never_short room enough (Ok a) e = choose_no _ _ _ (le-ltb room a.cycle (omega (arith, accepted_within a e)))
  never_short room enough (Err r) e = refl

  module _ {lent built : List ℕ} {w : Verdict} (room : 4096 ≤ length lent) (B : Built l supply lent built w) where
    pub built_judged : w ≡ verdict_of l supply
    built_judged = B.answer ∙ never_short (length lent) room (verdict_of l supply) refl

    module _ (a : Accepted) (q : w ≡ Ok a) where
      pub built_within : a.cycle ≤ 4096
      built_within = accepted_within a (sym built_judged ∙ q)

      built_bytes : built ≡ overwrite (table (plan_of l)) a.cycle lent
      unfolding tabled
      built_bytes = B.bytes ∙ ap (λ (x : Verdict). tabled l x lent) q

      pub cycle_built : a.cycle ≤ length built
      cycle_built = omega (arith, built_within, overwritten_length (table (plan_of l)) lent a.cycle built built_bytes)

      pub built_entries : take a.cycle built ≡ entries l a.cycle
      unfolding entries
      built_entries = ap (take a.cycle) built_bytes ∙ first_entries (table (plan_of l)) lent a.cycle (omega (arith, built_within))

-- ---- what is built of the list that an input is
module _ (p : Result TaskList BadLine) (l : TaskList) (good : p ≡ Ok l) {lent built : List ℕ} {w : Verdict} (room : 4096 ≤ length lent) (B : Built l 65536 lent built w) where
  list_is : (read_of p).list ≡ l
  unfolding read_of list_read
  list_is = ap list_read good

  judged_is : verdict_of (read_of p).list 65536 ≡ w
  judged_is = ap (λ (x : TaskList). verdict_of x 65536) list_is ∙ sym (built_judged l 65536 room B)

  module _ (e : Refusal) (q : w ≡ Err e) where
    pub refused_as : judged_as (read_of p) ≡ refusal_answer e
    unfolding verdict_answer
    refused_as = ap verdict_answer (judged_is ∙ q)

    pub never_0 : (judged_as (read_of p)).number ≡ 0 → ⊥
    never_0 z = refused_not_0 (read_of p).list 65536 e (judged_is ∙ q) (sym (ap (λ (x : Answer). x.number) refused_as) ∙ z)

  module _ (a : Accepted) (q : w ≡ Ok a) where
    pub accepted_as : judged_as (read_of p) ≡ verdict_answer (Ok a)
    accepted_as = ap verdict_answer (judged_is ∙ q)

    pub accepted_by_0 : (judged_as (read_of p)).number ≡ 0
    unfolding verdict_answer
    accepted_by_0 = ap (λ (x : Answer). x.number) accepted_as

    pub entries_read : take a.cycle built ≡ entries (read_of p).list (judged_as (read_of p)).cycle
    unfolding verdict_answer
    entries_read = built_entries l 65536 room B a q ∙ ap₂ entries (sym list_is) (sym (ap (λ (x : Answer). x.cycle) accepted_as))
