-- What is kept of the words of a model's states, or of its inputs.
use Rattle.std.specs.Prelude.{◌≡◌, ℕ, ◌<◌, List, Result, Ok, length, slice_index}
use Rattle.witness.specs.declared.why.Why.{Why}
use Rattle.witness.specs.Texts.{binary}
use Rattle.rejoin.specs.Pieces.{first_piece}

-- the indices of the lowest pieces of words of these widths
pub record AreFirsts (widths firsts : List ℕ) : Type 0 where
  pub many : length firsts ≡ length widths
  pub each : (i : ℕ) → i < length widths → slice_index firsts i ≡ first_piece widths i

-- these are the digits of the word that is read
pub record HasDigits (width : ℕ) (read : Result ℕ Why) (digits : List ℕ) : Type 0 where
  pub word : ℕ
  pub is : read ≡ Ok word
  pub digits_are : digits ≡ binary width word
