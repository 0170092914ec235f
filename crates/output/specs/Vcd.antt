-- What the dump program prints for an input: 16 comes first, then 15 for the first bad line, then the list's checks; else the filling run in which every job takes its whole run-time, which is the table, as a Value Change Dump.
use Rattle.std.specs.Prelude.{◌≡◌, List, ℕ}
use Rattle.records.specs.Grammar.{Read}
use Rattle.vcd.specs.Form.{vcd_text}
use Rattle.output.specs.Output.{record_of, entries, judged_as}
use Rattle.output.specs.Listed.{ListPrints, ListAnswers}

-- of the list that is read
pub data VcdOf (r : Read) : List ℕ → Type 0 where
  refused : ((judged_as r).number ≡ 0 → ⊥) → VcdOf r (record_of (judged_as r))
  accepted : (judged_as r).number ≡ 0 → VcdOf r (vcd_text (entries r.list (judged_as r).cycle))

abbrev pub VcdPrints : List ℕ → List ℕ → Type 0
VcdPrints input text = ListPrints VcdOf input text

abbrev pub VcdAnswers : List ℕ → List ℕ → List ℕ → ℕ → Type 0
VcdAnswers input old new r = ListAnswers VcdOf input old new r
