-- Zero less a number.
use Rattle.std.specs.Prelude.{◌≡◌, ℕ, suc, ◌-◌, negsuc}
use Rattle.std.proofs.Common.{arith, lt-ltb}
use Rattle.std.proofs.Math.IntN.{sub_ℕ}

pub zero_less : (n : ℕ) → sub_ℕ 0 (suc n) ≡ negsuc n
zero_less n = let e : suc n - 1 ≡ n = omega arith in rw (lt-ltb 0 (suc n) (omega arith), e)
