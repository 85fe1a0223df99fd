-- A witness over the model of the profile that a model with words of any width is fitted into, as a witness over that model: the pieces of a word are put together
-- ("Btor2, BtorMC and Boolector 3.0", witness format; how the one becomes the other is this project's).
use Rattle.std.specs.Prelude.{ℕ, zero, suc, ◌+◌, ◌*◌, ◌^◌, Bool, true, false, List, [], ◌∷◌, ◌++◌, Option, None, decimal, is_some, unwrap_or, option_map, option_and_then, map, take, drop, slice_index_or, if◌then◌else◌}
use Rattle.std.specs.List.{list_any}
use Rattle.btor2.specs.declared.item.Item.{Item}
use Rattle.btor2.specs.Items.{is_input, is_state, init_word}
use Rattle.btor2.specs.Lists.{of_kind}
use Rattle.witness.specs.Texts.{Shape, Assignment, Parts, Witness}
use Rattle.witness.specs.Judgements.{pairs_of, given}
use Rattle.rejoin.specs.Pieces.{piece_count}
use Rattle.lift.specs.Lifted.{name_in_frame}
use Rattle.unfit.specs.declared.told_pieces.Piece.{Piece}

-- ---- words

-- the word of a piece: what is told of it, or what it has otherwise
abbrev pub word_of_piece : Piece → ℕ
word_of_piece p = unwrap_or p.told p.otherwise

-- the word that pieces make, the lowest first, each of 64 bits
abbrev pub joined_word : List Piece → ℕ
joined_word [] = 0
joined_word (p ∷ ps) = word_of_piece p + 2 ^ 64 * joined_word ps

-- whether one of some pieces is told
abbrev pub any_told : List Piece → Bool
any_told pieces = list_any (λ p. is_some p.told) pieces

-- what is told of pieces, of which the first has this index, where each has a word otherwise
abbrev pub pieces_from : List (ℕ × ℕ) → ℕ → List ℕ → List Piece
pieces_from told i [] = []
pieces_from told i (x ∷ xs) = record { told = given told i; otherwise = x } ∷ pieces_from told (suc i) xs

-- ---- parts

-- the assignment of a word of which a piece is told
abbrev pub join_word : Option (List ℕ) → ℕ → List Piece → List Assignment
join_word name k pieces = if any_told pieces then record { index = k; word = joined_word pieces; symbol = name } ∷ [] else []

-- those of words of these widths, of which the first has this index: each has its pieces behind those of the words before it
abbrev pub join_from : (ℕ → Option (List ℕ)) → ℕ → List ℕ → List Piece → List Assignment
join_from name k [] pieces = []
join_from name k (n ∷ ns) pieces = join_word (name k) k (take (piece_count n) pieces) ++ join_from name (suc k) ns (drop (piece_count n) pieces)

-- of a part over the fitted model what it says of words of these widths: each of which a piece is told is assigned, in file order, and its other pieces have the
-- words that they have otherwise
abbrev pub join_part : (ℕ → Option (List ℕ)) → List ℕ → List ℕ → List Assignment → List Assignment
join_part name widths otherwise list = join_from name 0 widths (pieces_from (pairs_of list) 0 otherwise)

-- ---- a whole witness

-- the symbols of the states and of the inputs of a model, in file order
pub record Names : Type 0 where
  pub states : List (Option (List ℕ))
  pub inputs : List (Option (List ℕ))

-- what is known of a model with words of any width: its shape, its names, and whether names are asked for
pub record Wide : Type 0 where
  pub shape : Shape
  pub names : Names
  pub named : Bool

-- the name of the word with an index in frame k: its symbol in the frame, where names are asked for, it has one and that is a symbol
abbrev pub name_at : Bool → List (Option (List ℕ)) → ℕ → ℕ → Option (List ℕ)
name_at false symbols k i = None
name_at true symbols k i = option_and_then (name_in_frame k) (slice_index_or symbols i None)

-- what the states of the fitted model have where they are not assigned: the word of the init line, else 0, which is that of each free state; and its inputs, 0
abbrev pub state_words : List Item → List ℕ
state_words narrow = map (λ x. unwrap_or (init_word narrow x.id) 0) (of_kind is_state narrow)

abbrev pub input_words : List Item → List ℕ
input_words narrow = map (λ x. 0) (of_kind is_input narrow)

-- the parts of frame k
abbrev pub join_states : Wide → List Item → ℕ → List Assignment → List Assignment
join_states w narrow k list = join_part (name_at w.named w.names.states k) w.shape.states (state_words narrow) list

abbrev pub join_inputs : Wide → List Item → ℕ → List Assignment → List Assignment
join_inputs w narrow k list = join_part (name_at w.named w.names.inputs k) w.shape.inputs (input_words narrow) list

abbrev pub join_parts : Wide → List Item → ℕ → Parts → Parts
join_parts w narrow k parts = record { states = option_map (join_states w narrow k) parts.states; inputs = join_inputs w narrow k parts.inputs }

-- frames, of which the first is frame k
abbrev pub join_frames : Wide → List Item → ℕ → List Parts → List Parts
join_frames w narrow k [] = []
join_frames w narrow k (parts ∷ more) = join_parts w narrow k parts ∷ join_frames w narrow (suc k) more

-- the witness that says over the model with words of any width what this one says over the fitted one
abbrev pub join_witness : Wide → List Item → Witness → Witness
join_witness w narrow v = record { claims = v.claims; frames = join_frames w narrow 0 v.frames }

-- ---- what stands before the digits of a word in its line

-- of each word its index, or of each what a list has for it in the first frame, and another in later ones
pub data Fronts : Type 0 where
  by_index : Fronts
  listed : List (List ℕ) → List (List ℕ) → Fronts

-- of the word with index i in frame k
abbrev pub front_at : Fronts → ℕ → ℕ → List ℕ
front_at by_index k i = decimal i
front_at (listed first later) zero i = slice_index_or first i []
front_at (listed first later) (suc k) i = slice_index_or later i []

-- whether a word is told in frame k: one for which a list has nothing is not
abbrev pub has_bytes : List ℕ → Bool
has_bytes [] = false
has_bytes (b ∷ bs) = true

abbrev pub is_told : Fronts → ℕ → ℕ → Bool
is_told by_index k i = true
is_told (listed first later) k i = has_bytes (front_at (listed first later) k i)

-- what is known of a model, and what stands before the digits of the words of its states and of its inputs
pub record Lined : Type 0 where
  pub wide : Wide
  pub states : Fronts
  pub inputs : Fronts

abbrev pub lined : Shape → List (Option (List ℕ)) → List (Option (List ℕ)) → Bool → Fronts → Fronts → Lined
lined shape states inputs named state_fronts input_fronts = record { wide = record { shape = shape; names = record { states = states; inputs = inputs }; named = named }; states = state_fronts; inputs = input_fronts }

-- that of words of which each is told by its index
abbrev pub plain : Wide → Lined
plain w = record { wide = w; states = by_index; inputs = by_index }
