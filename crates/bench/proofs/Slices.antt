-- What closing a slice comes to, from what the step answers.
use Rattle.std.proofs.Common.{◌≡◌, ℕ, List, sym, ◌∙◌}
use Rattle.plan.specs.Plan.{Demand}
use Rattle.std.specs.Prelude.{Ok, Err}
use Rattle.run.specs.declared.Refusal.{Refusal}
use Rattle.run.specs.declared.Next.{Next}
use Rattle.run.specs.Step.{next_clock, answer_of, Stepped}
use Rattle.bench.specs.Course.{Course, report_in, noted, refusal_in, state_in, log_in, ends_by, closed, SliceClosed}

module _ (table : List ℕ) (need : Demand) (c : Course) (clock report : ℕ) (next : clock ≡ next_clock c.state.clock) (told : report ≡ report_in table need c.state)
    (log' : List ℕ) (r : Next) (S : Stepped c.state table clock report c.log log' r) where
  answer_is : r.answer ≡ answer_of (refusal_in table need c)
  unfolding refusal_in
  answer_is = cc S.answer

  state_is : r.state ≡ state_in table need c
  unfolding refusal_in state_in
  state_is = cc S.state

  log_is : log' ≡ log_in table need c
  unfolding refusal_in log_in
  log_is = cc S.bytes

  pub accepted_slice : (ends' : List ℕ) → r.answer ≡ Ok tt → ends' ≡ noted log' r.state.position c.ends → SliceClosed table need c log' ends' r
  unfolding closed ends_by
  accepted_slice ends' went e = record {
    answer = answer_is;
    after =
        let put : ends' ≡ noted (log_in table need c) (state_in table need c).position c.ends = cc (state_is, log_is) in
        rw (sym answer_is ∙ went) (cc (state_is, log_is));
  }

  pub refused_slice : (e : Refusal) → r.answer ≡ Err e → SliceClosed table need c log' c.ends r
  unfolding closed ends_by
  refused_slice e failed = record { answer = answer_is; after = rw (sym answer_is ∙ failed) (cc (state_is, log_is)) }
