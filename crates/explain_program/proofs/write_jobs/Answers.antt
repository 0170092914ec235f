-- `write_jobs` meets its contract.
use Rattle.std.proofs.Common.{◌∙◌, sym}
use Rattle.tasks.proofs.Kept.{kept_tells}
use Rattle.explain_program.proofs.Jobs.{never_broken, writes_needs}
use Rattle.explain_program.proofs.write_jobs.Goals as goal

pub returns-in_default-clause-written : goal.returns-in_default-clause-written
returns-in_default-clause-written c = never_broken c.requires c.check_bounds.ensures c.in_default.not-Ok

pub count_jobs-requires-clause-cycle_value : goal.count_jobs-requires-clause-cycle_value
count_jobs-requires-clause-cycle_value c = (kept_tells _ _ _ (sym c.check_bounds.ensures ∙ c.in-Ok.is)).cycle_is

pub returns : goal.returns
returns c =
    let printed = c.write_needs.ensures in
    let keeps = c.requires in
    let said = writes_needs _ keeps.few _ c.count_jobs.ensures _ printed.written printed.upper_bound in
    record { written = said.0; upper_bound = said.1 }
