-- `bench::report_of` meets its contract.
use Rattle.std.proofs.Common.{◌-◌, arith, rules}
use Rattle.run.specs.State.{job_of}
use Rattle.bench.proofs.Reports.{used_most, stands_at, report_none, report_told}
use Rattle.bench.proofs.report_of.Goals as goal

pub returns-then-ran-eq0 : goal.returns-then-ran-eq0
returns-then-ran-eq0 c = report_none _ _ _ c.if-ran-eq0.true

pub overflow_add-used : goal.overflow_add-used
unfolding job_of
overflow_add-used c = let most = used_most _ c.requires.0 (c.args.ran - 1) (omega (arith, c.requires.1)) in omega arith

pub returns : goal.returns
unfolding job_of
returns c =
    report_told _ c.args.state _ (c.args.ran - 1) _ _ (omega arith) (search rules) (stands_at _ _ (omega (arith, c.requires.0.count_within, c.requires.1)) _ c.place-at.ensures) _ c.from.ensures
