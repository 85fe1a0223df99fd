-- Witnesses over a model with words of any width, and over the model of the profile that it is fitted into. There an input or a state of more than 64 bits is so many
-- inputs or states of 64 bits each, but for the last, which has the bits that are left: its pieces, the lowest first, in the place of it in file order. A witness
-- over the one is the same over the other, word by word ("Btor2, BtorMC and Boolector 3.0", witness format; how the one becomes the other is this project's).
use Rattle.std.specs.Prelude.{ℕ, zero, suc, ◌+◌, ◌-◌, ◌/◌, ◌%◌, ◌^◌, min, Bool, List, [], ◌∷◌, ◌++◌, None, map, flat_map, option_map, replicate, slice_index, nat_lt, if◌then◌else◌}
use Rattle.witness.specs.Texts.{Shape, Assignment, Parts, Witness}
use Rattle.witness.specs.declared.judgement.Judgement.{Judgement}
use Rattle.witness.specs.declared.judgement.Judgement.TheVariants as judgement

-- ---- pieces of words by their widths

-- how many pieces a word of so many bits has, and their widths, the lowest first
abbrev pub piece_count : ℕ → ℕ
piece_count n = (n + 63) / 64

abbrev pub widths_from : ℕ → ℕ → List ℕ
widths_from zero n = []
widths_from (suc m) n = min n 64 ∷ widths_from m (n - 64)

abbrev pub cut_width : ℕ → List ℕ
cut_width n = widths_from (piece_count n) n

-- of each piece of some words what is said of the word
abbrev pub repeated : List ℕ → List Bool → List Bool
repeated [] flags = []
repeated (n ∷ ns) [] = []
repeated (n ∷ ns) (b ∷ bs) = replicate (piece_count n) b ++ repeated ns bs

-- what a witness over the fitted model needs to know of it
abbrev pub cut_shape : Shape → Shape
cut_shape shape =
    record {
      bads = shape.bads;
      states = flat_map cut_width shape.states;
      free = repeated shape.states shape.free;
      inputs = flat_map cut_width shape.inputs;
    }

-- the index of the first piece of the word with an index, among words of these widths
abbrev pub first_piece : List ℕ → ℕ → ℕ
first_piece [] k = 0
first_piece (n ∷ ns) zero = 0
first_piece (n ∷ ns) (suc k) = piece_count n + first_piece ns k

-- the index of the word that the piece with an index is of
abbrev pub owner : List ℕ → ℕ → ℕ
owner [] i = 0
owner (n ∷ ns) i = if nat_lt i (piece_count n) then 0 else suc (owner ns (i - piece_count n))

-- ---- words cut into their pieces

-- so many pieces of a word, of which the lowest has this index; they have no names
abbrev pub pieces_from : ℕ → ℕ → ℕ → List Assignment
pieces_from i zero x = []
pieces_from i (suc m) x = record { index = i; word = x % 2 ^ 64; symbol = None } ∷ pieces_from (suc i) m (x / 2 ^ 64)

-- what is assigned to a word, as what is assigned to its pieces
abbrev pub split_assignment : List ℕ → Assignment → List Assignment
split_assignment widths a = pieces_from (first_piece widths a.index) (piece_count (slice_index widths a.index)) a.word

-- the same of all that a part assigns, and of the parts of a frame
abbrev pub split_part : List ℕ → List Assignment → List Assignment
split_part widths list = flat_map (split_assignment widths) list

abbrev pub split_parts : Shape → Parts → Parts
split_parts shape parts = record { states = option_map (split_part shape.states) parts.states; inputs = split_part shape.inputs parts.inputs }

-- the witness over the fitted model that says what a witness over the model does
abbrev pub split_witness : Shape → Witness → Witness
split_witness shape w = record { claims = w.claims; frames = map (split_parts shape) w.frames }

-- ---- judgements

-- what is judged over the model where this is judged over the fitted model: an initial word that differs is that of the word that the piece is of
abbrev pub joined_judgement : Shape → Judgement → Judgement
joined_judgement shape (judgement.InitDiffers i) = judgement.InitDiffers (owner shape.states i)
joined_judgement shape j = j
