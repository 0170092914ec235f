-- `explain::check` meets its contract.
use Rattle.std.proofs.Common.{◌∙◌, sym, ap, arith}
use borrow.Author.Tests.{not-true, not-false}
use Rattle.basis.specs.Choose.{choose}
use Rattle.explain.specs.Seen.{run_refusal, unless_run_refused}
use Rattle.explain.proofs.Answers.{other_length, entry_above, too_short, all_passed}
use Rattle.explain.proofs.check.Goals as goal

pub returns-then-run-cycle : goal.returns-then-run-cycle
unfolding unless_run_refused run_refusal choose
returns-then-run-cycle c = ap (λ n. unless_run_refused n tt) (other_length _ _ c.args.run.now _ _ c.if-run-cycle.true)

pub returns-then-not-entries_to : goal.returns-then-not-entries_to
unfolding unless_run_refused run_refusal choose
returns-then-not-entries_to c = ap (λ n. unless_run_refused n tt) (entry_above _ _ c.args.run.now _ _ (omega arith) (sym c.entries_to.ensures ∙ not-true _ c.if-not-entries_to.true-raw))

pub returns-then-room-needed : goal.returns-then-room-needed
unfolding unless_run_refused run_refusal choose
returns-then-room-needed c = ap (λ n. unless_run_refused n tt) (too_short _ _ c.args.run.now _ _ (omega arith) (sym c.entries_to.ensures ∙ not-false _ c.if-not-entries_to.false-raw) (omega arith))

pub returns : goal.returns
unfolding unless_run_refused choose
returns c = ap (λ n. unless_run_refused n tt) (all_passed _ _ c.args.run.now _ _ (omega arith) (sym c.entries_to.ensures ∙ not-false _ c.if-not-entries_to.false-raw) (omega arith))
