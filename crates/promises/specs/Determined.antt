-- Each public contract determines the answer and every lent byte afterwards: any two answers that keep it are equal. Each theorem
-- names the function whose contract it repeats.
use Rattle.std.specs.Prelude.{◌≡◌, List, ℕ}
use Rattle.bench.specs.declared.Driven.{Driven}

pub record SameDrive (table table' log log' ends ends' : List ℕ) (r r' : Driven) : Type 0 where
  pub answer : r ≡ r'
  pub table_same : table ≡ table'
  pub log_same : log ≡ log'
  pub ends_same : ends ≡ ends'
