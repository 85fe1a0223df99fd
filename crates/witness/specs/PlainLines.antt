-- A plain line of a witness over a model at the front of a text.
use Rattle.std.specs.Prelude.{◌≡◌, ℕ, ◌<◌, ◌^◌, Bool, true, false, List, ◌∷◌, ◌++◌, Option, IfSome, decimal, length}
use Rattle.std.specs.List.{list_all}
use Rattle.btor2.specs.Symbols.{is_printed, is_symbol}
use Rattle.witness.specs.Texts.{binary, symbol_part, assignment_line, IsAssignment}
use Rattle.witness.specs.Fits.{is_set}

-- a text begins with no decimal of at most 19 digits up to this byte
abbrev pub NoNumber : ℕ → List ℕ → Type 0
NoNumber end text = (n : ℕ) (rest : List ℕ) → n < 10 ^ 19 → text ≡ decimal n ++ end ∷ rest → ⊥

-- nor with the line that opens a frame
abbrev pub NoFrameLine : ℕ → List ℕ → Type 0
NoFrameLine frame text = (rest : List ℕ) → text ≡ (64 ∷ decimal frame) ++ 10 ∷ rest → ⊥

-- a text begins with the end of a line, or with a space and a name and the end of the line
pub record BeginsName (text rest : List ℕ) : Type 0 where
  pub symbol : Option (List ℕ)
  pub is : text ≡ symbol_part symbol ++ 10 ∷ rest
  pub valid : IfSome symbol (λ bytes. is_symbol bytes ≡ true)

abbrev pub NoName : List ℕ → Type 0
NoName text = (rest : List ℕ) → BeginsName text rest → ⊥

-- the first byte of a text that is none of a name, how many bytes stand before it, and the text behind it
pub record IsFirstOther (text : List ℕ) (count byte : ℕ) (rest : List ℕ) : Type 0 where
  pub front : List ℕ
  pub is : text ≡ front ++ byte ∷ rest
  pub printed : list_all is_printed front ≡ true
  pub other : is_printed byte ≡ false
  pub many : length front ≡ count

-- with the digits of a word of a width, and such an end
pub record BeginsWord (width : ℕ) (text : List ℕ) (word : ℕ) (rest : List ℕ) : Type 0 where
  pub symbol : Option (List ℕ)
  pub is : text ≡ (binary width word ++ symbol_part symbol) ++ 10 ∷ rest
  pub fits : word < 2 ^ width
  pub valid : IfSome symbol (λ bytes. is_symbol bytes ≡ true)

abbrev pub NoWord : ℕ → List ℕ → Type 0
NoWord width text = (word : ℕ) (rest : List ℕ) → BeginsWord width text word rest → ⊥

-- with the line of an assignment of this word to the node of an index, which has none yet
pub record BeginsAssignment (widths : List ℕ) (given : List Bool) (text : List ℕ) (index word : ℕ) (rest : List ℕ) : Type 0 where
  pub symbol : Option (List ℕ)
  pub is : text ≡ assignment_line widths (record { index = index; word = word; symbol = symbol }) ++ 10 ∷ rest
  pub valid : IsAssignment widths (record { index = index; word = word; symbol = symbol })
  pub fresh : is_set given index ≡ false

-- where there are fewer than 10 ^ 19 nodes
abbrev pub NoAssignment : List ℕ → List Bool → List ℕ → Type 0
NoAssignment widths given text = (index word : ℕ) (rest : List ℕ) → length widths < 10 ^ 19 → BeginsAssignment widths given text index word rest → ⊥
