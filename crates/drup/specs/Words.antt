-- What is kept of the bytes of a word of which more may follow, and what a word says.
use Rattle.std.specs.Prelude.{◌≡◌, ℕ, ◌<◌, Bool, true, false, ◌==◌, if◌then◌else◌, List, [], ◌∷◌, Option, Some, None, slice_index_or, codes}
use Rattle.std.specs.Str.{bytes_eq}
use Rattle.base.specs.Decimals.{number_of}
use Rattle.drup.specs.declared.word.Said.{Said}
use Rattle.drup.specs.declared.word.Said.TheVariants as said
use Rattle.drup.specs.declared.word.Token.{Token as CodeToken}
use Rattle.drup.specs.declared.word.Token.TheVariants as code
use Rattle.drup.specs.declared.word.Word.{Word}
use Rattle.drup.specs.Proofs.{Token, ends, deletes, literal, faulty}
use Rattle.base.specs.Numerals.{CountsDigits}

-- what a decimal says, with a minus in front or without
abbrev pub decimal_said : Bool → Option ℕ → Said
decimal_said minus None = said.Nothing
decimal_said true (Some n) = said.Negative n
decimal_said false (Some n) = said.Number n

abbrev pub number_word : List ℕ → Said
number_word [] = said.Nothing
number_word (b ∷ bs) = if b == 45 then decimal_said true (number_of bs) else decimal_said false (number_of (b ∷ bs))

-- what a word says by itself: `0`, `d`, or a decimal, with a minus in front or without
abbrev pub word_said : List ℕ → Said
word_said word =
    if bytes_eq word (codes "0") then said.Zero
    else (if bytes_eq word (codes "d") then said.Letter else number_word word)

-- what a word says, as the code has it
abbrev pub token_said : CodeToken → Token
token_said code.Ends = ends
token_said (code.Deletes) = deletes
token_said (code.Literal l) = literal l
token_said (code.Faulty w) = faulty w

-- where it is a literal, it is below a limit
abbrev pub IsBelow : ℕ → CodeToken → Type 0
IsBelow limit code.Ends = Unit {0}
IsBelow limit code.Deletes = Unit {0}
IsBelow limit (code.Literal l) = l < limit
IsBelow limit (code.Faulty w) = Unit {0}

-- the sign of a literal with a minus, and without
abbrev pub sign_of : Bool → ℕ
sign_of true = 1
sign_of false = 0

-- bytes behind a minus where there is one
abbrev pub with_minus : Bool → List ℕ → List ℕ
with_minus true bytes = 45 ∷ bytes
with_minus false bytes = bytes

-- no minus is first where none was seen
abbrev pub IsFirstByte : Bool → List ℕ → Type 0
IsFirstByte true bytes = Unit {0}
IsFirstByte false bytes = (slice_index_or bytes 0 0 == 45) ≡ false

-- what is kept is that of these bytes
pub record SpellsWord (w : Word) (bytes : List ℕ) : Type 0 where
  pub behind : List ℕ
  pub is : bytes ≡ with_minus w.negative behind
  pub first : IsFirstByte w.negative behind
  pub numeral : CountsDigits w.numeral behind
  pub deletes : w.deletes ≡ bytes_eq bytes (codes "d")
