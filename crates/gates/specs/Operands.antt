-- What a builder of an operator of two words asks of them.
use Rattle.std.specs.Prelude.{◌≡◌, ℕ, ◌≤◌, List, length, All}
use Rattle.aiger.specs.Net.{Net, IsDefined}

-- two words of equal length, from one literal to so many, all defined
pub record AreOperands (n : Net) (greatest : ℕ) (a b : List ℕ) : Type 0 where
  pub some : 1 ≤ length a
  pub most : length a ≤ greatest
  pub equal : length b ≡ length a
  pub left : All (IsDefined n) a
  pub right : All (IsDefined n) b
