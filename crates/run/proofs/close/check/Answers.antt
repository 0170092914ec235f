-- `run::close::check` meets its contract.
use Rattle.std.proofs.Common.{◌≡◌, Bool, true, false, not, ◌&&◌, ◌||◌, sym, ◌∙◌, le-ltb, lt-ltb, eq-eqb, ne_eqb}
use Rattle.basis.specs.Choose.{choose}
use Rattle.run.specs.Who.{refusal_of, unless_refused}
use Rattle.run.specs.Step.{next_clock, answer_of}
use Rattle.run.specs.Shapes.{twelve_on}
use Rattle.run.proofs.close.check.Goals as goal

pub returns-then-length-asked : goal.returns-then-length-asked
unfolding answer_of unless_refused refusal_of twelve_on choose
returns-then-length-asked c = rw (lt-ltb _ _ c.if-length-asked.true)

pub returns-then-clock-wrapping_add_u32 : goal.returns-then-clock-wrapping_add_u32
unfolding answer_of unless_refused refusal_of twelve_on choose next_clock
returns-then-clock-wrapping_add_u32 c = rw (le-ltb _ _ c.if-length-asked.false, ne_eqb _ _ (λ e. c.if-clock-wrapping_add_u32.true (e ∙ sym c.wrapping_add_u32.ensures.value)))

-- the test of the report, by what `is_none` ensures
wrong_by : (over one some idle : Bool) → some ≡ not idle → (over || (one && not some)) ≡ (over || (one && idle))
wrong_by over one some true e = rw e
wrong_by over one some false e = rw e

pub returns-then-is_wrong : goal.returns-then-is_wrong
unfolding answer_of unless_refused refusal_of twelve_on choose next_clock
returns-then-is_wrong c = rw (le-ltb _ _ c.if-length-asked.false, eq-eqb _ _ (c.if-clock-wrapping_add_u32.false ∙ c.wrapping_add_u32.ensures.value), wrong_by _ _ _ _ c.is_none.ensures, c.if-is_wrong.true)

pub returns : goal.returns
unfolding answer_of unless_refused twelve_on choose next_clock
returns c = rw (le-ltb _ _ c.if-length-asked.false, eq-eqb _ _ (c.if-clock-wrapping_add_u32.false ∙ c.wrapping_add_u32.ensures.value), wrong_by _ _ _ _ c.is_none.ensures, c.if-is_wrong.false)
