-- Each public contract determines the answer: any two answers that keep it are equal. Each theorem has the name of the function
-- whose contract it repeats.
use Rattle.std.specs.Prelude.{◌≡◌, List, ℕ, length}
use Rattle.std.proofs.Common.{sym, ◌∙◌}
use Rattle.run.specs.declared.State.{State}
use Rattle.checksum.specs.Checksum.{over_bytes, of_bytes, of_state}

pub with_bytes : (h : ℕ) (bytes : List ℕ) (r r' : ℕ) → r ≡ over_bytes h bytes (length bytes) → r' ≡ over_bytes h bytes (length bytes) → r ≡ r'
with_bytes h bytes r r' e e' = e ∙ sym e'

pub of_bytes_lem : (bytes : List ℕ) (r r' : ℕ) → r ≡ of_bytes bytes → r' ≡ of_bytes bytes → r ≡ r'
of_bytes_lem bytes r r' e e' = e ∙ sym e'

pub of_state_lem : (state : State) (r r' : ℕ) → r ≡ of_state state → r' ≡ of_state state → r ≡ r'
of_state_lem state r r' e e' = e ∙ sym e'
