-- What a witness over a model of the whole language needs to know of it, and the words by which it tells a value: of a word itself, of an array each of its cells.
use Rattle.std.specs.Prelude.{ℕ, zero, suc, ◌+◌, ◌-◌, ◌^◌, nat_lt, if◌then◌else◌, Bool, not, List, [], ◌∷◌, ◌++◌, is_some, length, map, flat_map, replicate, unwrap_or}
use Rattle.btor2.specs.declared.item.Body.{Body}
use Rattle.btor2.specs.Items.{is_input, is_state, is_bad}
use Rattle.full.specs.Lines.{FullLine, Sort, words, arrays, lines_of, sort_of, next_of}
use Rattle.witness.specs.Texts.{Shape}

-- an input or a state: its id, and its sort
pub record Leaf : Type 0 where
  pub id : ℕ
  pub sort : Sort

-- the inputs, or the states, in file order
abbrev pub leaf_of : List FullLine → FullLine → Leaf
leaf_of full x = record { id = x.id; sort = unwrap_or (sort_of full x.says) (words 0) }

abbrev pub leaves_of : (Body → Bool) → List FullLine → List Leaf
leaves_of kind full = map (leaf_of full) (lines_of kind full)

-- How many bad properties a model has, the sorts of its states and of its inputs, and which of the states have no next line, in file order.
pub record FullShape : Type 0 where
  pub bads : ℕ
  pub states : List Sort
  pub free : List Bool
  pub inputs : List Sort

abbrev pub full_shape : List FullLine → FullShape
full_shape full =
    record {
      bads = length (lines_of is_bad full);
      states = map (λ (l : Leaf). l.sort) (leaves_of is_state full);
      free = map (λ (l : Leaf). not (is_some (next_of full l.id))) (leaves_of is_state full);
      inputs = map (λ (l : Leaf). l.sort) (leaves_of is_input full);
    }

-- ---- words by which a value is told

-- how many there are for a value of a sort, and how many bits each has
abbrev pub word_count : Sort → ℕ
word_count (words n) = 1
word_count (arrays k n) = 2 ^ k

abbrev pub word_width : Sort → ℕ
word_width (words n) = n
word_width (arrays k n) = n

abbrev pub word_widths : Sort → List ℕ
word_widths s = replicate (word_count s) (word_width s)

-- the index of the first word of the value with an index, among the words of all
abbrev pub first_index : List Sort → ℕ → ℕ
first_index [] i = 0
first_index (s ∷ ss) zero = 0
first_index (s ∷ ss) (suc i) = word_count s + first_index ss i

-- the index of the value that a word is of
abbrev pub value_of_word : List Sort → ℕ → ℕ
value_of_word [] i = 0
value_of_word (s ∷ ss) i = if nat_lt i (word_count s) then 0 else suc (value_of_word ss (i - word_count s))

-- of each word of some values what is said of the value
abbrev pub of_words : List Sort → List Bool → List Bool
of_words [] flags = []
of_words (s ∷ ss) [] = []
of_words (s ∷ ss) (b ∷ bs) = replicate (word_count s) b ++ of_words ss bs

-- a witness is one of the words by which it tells all values
abbrev pub word_shape : FullShape → Shape
word_shape shape =
    record {
      bads = shape.bads;
      states = flat_map word_widths shape.states;
      free = of_words shape.states shape.free;
      inputs = flat_map word_widths shape.inputs;
    }
