-- What stands beside the digits of a word in a witness over a model of the whole language, where the word is one by which a value is told ("Btor2, BtorMC and Boolector
-- 3.0", witness format: the assignment of an array names a cell by its address, in binary digits and brackets).
use Rattle.std.specs.Prelude.{ℕ, ◌-◌, List, [], ◌∷◌, ◌++◌, Option, Some, None, decimal, map, slice_get, slice_index_or, if◌then◌else◌}
use Rattle.std.specs.List.{range_with_len}
use Rattle.btor2.specs.Items.{is_input, is_state}
use Rattle.full.specs.Lines.{FullLine, Sort, words, arrays, is_form, lines_of}
use Rattle.witness.specs.Texts.{binary}
use Rattle.fulljudge.specs.Shapes.{first_index, value_of_word}
use Rattle.fulljudge.specs.Compared.{has_other_node}
use Rattle.fulljudge.specs.Kept.{words_in}
use Rattle.unfit.specs.Joined.{Names}

-- ---- before them

-- of a word its index; of a cell of an array the array's index and the cell's address, with as many digits as an index has bits
abbrev pub value_front : Sort → ℕ → ℕ → List ℕ
value_front (words n) i c = decimal i
value_front (arrays k n) i c = decimal i ++ 32 ∷ 91 ∷ (binary k c ++ 93 ∷ [])

-- of the word with an index among those by which values of these sorts are told
abbrev pub front_of : Option Sort → ℕ → ℕ → List ℕ
front_of None i c = []
front_of (Some s) i c = value_front s i c

abbrev pub word_front : List Sort → ℕ → List ℕ
word_front sorts k = front_of (slice_get sorts (value_of_word sorts k)) (value_of_word sorts k) (k - first_index sorts (value_of_word sorts k))

-- of all of them, in order
abbrev pub word_fronts : List Sort → List (List ℕ)
word_fronts sorts = map (word_front sorts) (range_with_len 0 (words_in sorts))

-- the same in the first frame: of a state that has another node than its leaf's nothing is told there
abbrev pub first_front : List Sort → List ℕ → List ℕ → ℕ → List ℕ
first_front sorts leaves nodes k = if has_other_node leaves nodes (value_of_word sorts k) then [] else word_front sorts k

abbrev pub first_fronts : List Sort → List ℕ → List ℕ → List (List ℕ)
first_fronts sorts leaves nodes = map (first_front sorts leaves nodes) (range_with_len 0 (words_in sorts))

-- ---- behind them

-- the symbols of words: of each that of its value
abbrev pub word_symbols : List Sort → List (Option (List ℕ)) → List (Option (List ℕ))
word_symbols sorts symbols = map (λ k. slice_index_or symbols (value_of_word sorts k) None) (range_with_len 0 (words_in sorts))

-- ---- the names of a model

-- the symbols of its states and of its inputs, in file order
abbrev pub names_of : List FullLine → Names
names_of full = record { states = map (λ (x : FullLine). x.symbol) (lines_of is_state full); inputs = map (λ (x : FullLine). x.symbol) (lines_of is_input full) }

-- those of some lines, with one more
abbrev pub named_with : Names → FullLine → Names
named_with names x =
    record {
      states = if is_form is_state x.says then names.states ++ x.symbol ∷ [] else names.states;
      inputs = if is_form is_input x.says then names.inputs ++ x.symbol ∷ [] else names.inputs;
    }

-- with more lines
abbrev pub all_named : Names → List FullLine → Names
all_named names [] = names
all_named names (x ∷ xs) = all_named (named_with names x) xs
