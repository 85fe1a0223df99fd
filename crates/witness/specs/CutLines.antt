-- What is kept of a line of a witness that is cut between pieces.
use Rattle.std.specs.Prelude.{◌≡◌, ℕ, Bool, true, ◌&&◌, List, [], take, drop}
use Rattle.base.specs.Decimals.{are_digits}

-- room for so many bytes; the first ones, at most so many; and whether all others are digits
pub record CutLine : Type 0 where
  pub room : ℕ
  pub bytes : List ℕ
  pub digits : Bool

abbrev pub cut_of : ℕ → List ℕ → CutLine
cut_of room line = record { room = room; bytes = take room line; digits = are_digits (drop room line) }

-- of a line with no byte
abbrev pub no_byte : ℕ → CutLine
no_byte room = record { room = room; bytes = []; digits = true }

-- a line is as far as that is kept the same as another, all of whose bytes it has, or but some that are digits where a flag says so
pub record AreFront (room : ℕ) (line : List ℕ) (digits : Bool) (whole : List ℕ) : Type 0 where
  pub same : take room line ≡ take room whole
  pub others : (digits && are_digits (drop room line)) ≡ are_digits (drop room whole)
