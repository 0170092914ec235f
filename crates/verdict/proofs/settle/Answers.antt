-- `verdict::settle` meets its contract.
use Rattle.std.proofs.Common.{rules, ◌≡◌, sym, ◌∙◌, Err}
use Rattle.verdict.proofs.Answers.{settle_broken, kept_bounded, settle_kept}
use Rattle.verdict.proofs.settle.Goals as goal

pub decide-requires : goal.decide-requires
decide-requires c = kept_bounded _ _ c.args.table.now _ (sym c.check_bounds.ensures ∙ c.in_ok-kept.was)

pub returns-in_err-kept : goal.returns-in_err-kept
returns-in_err-kept c =
    let gives : c.from_residual.result ≡ Err c.in_err-kept.field-0.0 = search rules in
    rw gives (settle_broken _ _ _ _ (sym c.check_bounds.ensures ∙ c.in_err-kept.was))

pub returns : goal.returns
returns c = settle_kept _ _ _ _ (sym c.check_bounds.ensures ∙ c.in_ok-kept.was) _ _ c.decide.ensures
