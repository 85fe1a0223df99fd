-- The word behind the index of an assignment of a witness over a model, and the word that a line gives to a state or an input of which it is known whether it has one.
use Rattle.std.specs.Prelude.{◌≡◌, ℕ, ◌+◌, ◌*◌, ◌<◌, ◌^◌, true, List, [], ◌∷◌, Option, Some, None, Result, Ok, Err, map, length, reverse, if◌then◌else◌, Bool, nat_lt, unwrap_or, slice_index}
use Rattle.std.specs.List.{list_all}
use Rattle.base.specs.Word.{word, bit_number}
use Rattle.btor2.specs.Symbols.{is_symbol}
use Rattle.witness.specs.declared.why.Why.{Why}
use Rattle.witness.specs.Admits.{value_of, cut_at_space, is_bit, is_one_bit}
use Rattle.base.specs.Decimals.{number_of}
use Rattle.btor2.specs.declared.item.Item.{Item}
use Rattle.btor2.specs.Lists.{width_at}
use Rattle.witness.specs.Fits.{is_set}
use Rattle.witness.specs.declared.why.Why.TheVariants as why

-- the word that bytes `0` and `1` write, the highest first
pub record IsValueOf (x : ℕ) (bytes : List ℕ) : Type 0 where
  pub small : x < 2 ^ length bytes
  pub known : list_all is_bit bytes ≡ true
  pub word : x ≡ word (reverse (map is_one_bit bytes))

-- the word that such bytes write behind those of a word
abbrev pub digits_word : ℕ → List ℕ → ℕ
digits_word x [] = x
digits_word x (b ∷ bytes) = digits_word (x * 2 + bit_number (is_one_bit b)) bytes

-- the word of so many bits that stands behind an index, where the name behind it is a symbol, or why there is none
abbrev pub word_with : Option (List ℕ) → Result ℕ Why → Result ℕ Why
word_with name (Err w) = Err w
word_with None (Ok x) = Ok x
word_with (Some bytes) (Ok x) = if is_symbol bytes then Ok x else Err why.BadSymbol

abbrev pub word_behind : ℕ → Option (List ℕ) → Result ℕ Why
word_behind width None = Err why.BadValue
word_behind width (Some rest) = word_with (cut_at_space rest).1 (value_of width (cut_at_space rest).0)

-- what a function returned, seen by view, is what reading gives
abbrev pub IsAsValueRead : {X Y : Type 0} → (X → Y) → Result X Why → Result Y Why → Type 0
IsAsValueRead view (Ok x) read = read ≡ Ok (view x)
IsAsValueRead view (Err e) read = read ≡ Err e

-- the widths of the nodes at some places
abbrev pub widths_by : List Item → List ℕ → List ℕ
widths_by items places = map (λ k. unwrap_or (width_at items k) 0) places

abbrev pub pair_with : ℕ → Result ℕ Why → Result (ℕ × ℕ) Why
pair_with i (Ok x) = Ok (i, x)
pair_with i (Err w) = Err w

-- by a number, with what stands behind it; flags say which have a word
abbrev pub assigned_number : List ℕ → List Bool → Option (List ℕ) → ℕ → Result (ℕ × ℕ) Why
assigned_number widths given rest i =
    if nat_lt i (length widths)
    then (if is_set given i then Err why.IndexTwice else pair_with i (word_behind (slice_index widths i) rest))
    else Err why.BadIndex

abbrev pub assigned_by : List ℕ → List Bool → Option (List ℕ) → Option ℕ → Result (ℕ × ℕ) Why
assigned_by widths given rest None = Err why.BadIndex
assigned_by widths given rest (Some i) = assigned_number widths given rest i

abbrev pub assigned : List ℕ → List Bool → List ℕ → Result (ℕ × ℕ) Why
assigned widths given line = assigned_by widths given (cut_at_space line).1 (number_of (cut_at_space line).0)
