-- Lines of a witness over a model of the whole language ("Btor2, BtorMC and Boolector 3.0", witness format: the assignment of an array names a cell by its address,
-- in binary digits and brackets; that as many digits stand there as an index has bits is this project's). Each is read as one of the words by which values are told.
use Rattle.std.specs.Prelude.{ℕ, ◌+◌, ◌&&◌, ◌==◌, List, [], ◌∷◌, ◌++◌, Option, Some, None, decimal, length, map, option_and_then, reverse, slice_get, if◌then◌else◌}
use Rattle.std.specs.List.{list_all}
use Rattle.base.specs.Word.{word}
use Rattle.base.specs.Decimals.{number_of}
use Rattle.full.specs.Lines.{Sort, words, arrays}
use Rattle.witness.specs.Texts.{symbol_part}
use Rattle.witness.specs.Readings.{Reader}
use Rattle.witness.specs.Admits.{Place, InStates, InFrame, Read, nothing_read, admit, begins_part, cut_at_space, is_at_end, is_bit}
use Rattle.spread.specs.declared.spreader.Part.{Part}
use Rattle.spread.specs.declared.spreader.Part.TheVariants as part
use Rattle.spread.specs.Made.{lines_made, text_made}
use Rattle.fulljudge.specs.Shapes.{FullShape, first_index, word_shape}

-- the bytes between brackets, where a token begins with the one and ends with the other, given from its end
abbrev pub without_last : List ℕ → Option (List ℕ)
without_last [] = None
without_last (b ∷ bs) = if b == 93 then Some (reverse bs) else None

abbrev pub in_brackets : List ℕ → Option (List ℕ)
in_brackets [] = None
in_brackets (b ∷ bs) = if b == 91 then without_last (reverse bs) else None

-- the number that so many binary digits write, the highest first
abbrev pub digits_number : ℕ → List ℕ → Option ℕ
digits_number k digits = if (length digits == k) && list_all is_bit digits then Some (word (reverse (map (λ b. b == 49) digits))) else None

-- the address of a cell, by a token, where an index has so many bits
abbrev pub address_of : ℕ → List ℕ → Option ℕ
address_of k token = option_and_then (digits_number k) (in_brackets token)

-- a line that names a word by its index, and the empty line, which names none
abbrev pub indexed : Option ℕ → Option (List ℕ) → List ℕ
indexed None rest = []
indexed (Some i) rest = decimal i ++ symbol_part rest

-- behind the index of an array, the line of the cell that is named there
abbrev pub cell_line : ℕ → ℕ → Option (List ℕ) → List ℕ
cell_line first k None = []
cell_line first k (Some rest) = indexed (option_and_then (λ a. Some (first + a)) (address_of k (cut_at_space rest).0)) (cut_at_space rest).1

-- behind that of a value of a sort
abbrev pub value_line : ℕ → Option Sort → Option (List ℕ) → List ℕ
value_line first None rest = []
value_line first (Some (words n)) rest = indexed (Some first) rest
value_line first (Some (arrays k n)) rest = cell_line first k rest

abbrev pub line_by_index : List Sort → Option ℕ → Option (List ℕ) → List ℕ
line_by_index sorts None rest = []
line_by_index sorts (Some i) rest = value_line (first_index sorts i) (slice_get sorts i) rest

-- The line of a word that says what a line of a value does; where that names no value, or no cell of it, the empty line, which names no word either.
unfoldable pub word_line : List Sort → List ℕ → List ℕ
word_line sorts line = line_by_index sorts (number_of (cut_at_space line).0) (cut_at_space line).1

-- the same of a line in a part, which may open another part or end the text
abbrev pub line_in : List Sort → List ℕ → List ℕ
line_in sorts line = if begins_part line then line else word_line sorts line

-- of a line at a place
abbrev pub line_at : FullShape → Place → List ℕ → List ℕ
line_at shape InStates line = line_in shape.states line
line_at shape InFrame line = line_in shape.inputs line
line_at shape _ line = line

-- Lines of a witness are admitted as those of the words are by which they tell values.
abbrev pub full_reader : FullShape → Reader Read
full_reader shape = record { nothing = nothing_read; admit = λ r line. admit (word_shape shape) r (line_at shape r.place line); ended = λ r. is_at_end r.place }

-- ---- the text of words

-- a line where a part is open, by the sorts of the states and of the inputs
abbrev pub line_by_part : List Sort → List Sort → Part → List ℕ → List ℕ
line_by_part states inputs part.Outside line = line
line_by_part states inputs part.States line = line_in states line
line_by_part states inputs part.Inputs line = line_in inputs line

abbrev pub line_in_part : FullShape → Part → List ℕ → List ℕ
line_in_part shape p line = line_by_part shape.states shape.inputs p line

-- some lines, where a part is open before the first
abbrev pub lines_of_words : FullShape → Part → List (List ℕ) → List (List ℕ)
lines_of_words shape p lines = lines_made (line_in_part shape) p lines

-- the text that says with words what a text says with values
abbrev pub words_text : FullShape → List ℕ → List ℕ
words_text shape text = text_made (line_in_part shape) text
