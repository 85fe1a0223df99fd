-- How what is told of the first words of states is compared with what they are.
use Rattle.std.specs.Prelude.{◌≡◌, ℕ, zero, suc, ◌+◌, ◌*◌, ◌/◌, ◌%◌, ◌<◌, ◌==◌, Bool, true, false, not, List, [], ◌∷◌, Option, Some, None, is_some, length, slice_get, unwrap_or, option_and_then}
use Rattle.base.specs.Word.{bit}
use Rattle.btor2.specs.declared.item.Item.{Item}
use Rattle.btor2.specs.Trace.{Frame, IsTrace}
use Rattle.full.specs.Lines.{Sort}
use Rattle.witness.specs.Texts.{Shape, Parts}
use Rattle.base.specs.Decimals.{number_of}
use Rattle.witness.specs.Admits.{Place, InStates, InFrame, Read, cut_at_space}
use Rattle.witness.specs.WordStands.{SaidAt}
use Rattle.witness.specs.ClosedWords.{word_reading, word_at}
use Rattle.witness.specs.Judgements.{Words, frame_words, pairs_of, given, initial_words, given_frames}
use Rattle.rejoin.specs.Pieces.{split_parts}
use Rattle.spread.specs.declared.spreader.Part.{Part}
use Rattle.spread.specs.declared.spreader.Part.TheVariants as part
use Rattle.spread.specs.Stands.{part_at, part_behind}
use Rattle.fulljudge.specs.Shapes.{word_count, word_width, first_index}

-- whether something is so
abbrev pub Tells : Bool → Type 0 → Type 0
Tells true Is = Is
Tells false Is = Is → ⊥

-- ---- words by their pieces

-- whether a bit of the word of pieces is 1, by the words of nodes
abbrev pub bit_in : (ℕ → Option ℕ) → List ℕ → ℕ → Bool
bit_in words pieces place = bit (unwrap_or (option_and_then words (slice_get pieces (place / 64))) 0) (place % 64) == 1

-- two words differ in one of so many bits from a place on
pub record DifferWithin (words : ℕ → Option ℕ) (one other : List ℕ) (from count : ℕ) : Type 0 where
  pub place : ℕ
  pub within : place < count
  pub differs : bit_in words one (from + place) ≡ bit_in words other (from + place) → ⊥

-- Where the words of a model's states stand: in the list that it is written out as the nodes with the words of the states' leaves, and those with the states'
-- words; and of the ones, and behind them of the others, the positions of their pieces in the fitted model's items, the lowest first.
pub record StateWords : Type 0 where
  pub leaves : List ℕ
  pub nodes : List ℕ
  pub places : List (List ℕ)

-- ---- states

-- whether the state with an index has another node than its leaf's
abbrev pub has_other_node : List ℕ → List ℕ → ℕ → Bool
has_other_node leaves nodes i = not (unwrap_or (slice_get leaves i) 0 == unwrap_or (slice_get nodes i) 0)

-- the flag of the word with an index, and false behind the last
abbrev pub flag_at : List Bool → ℕ → Bool
flag_at flags k = unwrap_or (slice_get flags k) false

-- of a value of a sort one of the words that are told is another in the one than in the other
pub record IsToldOtherwise (words : ℕ → Option ℕ) (flags : List Bool) (s : Sort) (first : ℕ) (leaf node : List ℕ) : Type 0 where
  pub cell : ℕ
  pub within : cell < word_count s
  pub is_told : flag_at flags (first + cell) ≡ true
  pub differ : DifferWithin words leaf node (cell * word_width s) (word_width s)

-- the state with an index has another node than its leaf's, and is told otherwise
pub record DiffersFirst (words : ℕ → Option ℕ) (flags : List Bool) (sorts : List Sort) (w : StateWords) (i : ℕ) : Type 0 where
  pub sort : Sort
  pub leaf : List ℕ
  pub node : List ℕ
  pub within : i < length w.leaves
  pub is_sort : slice_get sorts i ≡ Some sort
  pub is_leaf : slice_get w.places i ≡ Some leaf
  pub is_node : slice_get w.places (length w.leaves + i) ≡ Some node
  pub otherwise : IsToldOtherwise words flags sort (first_index sorts i) leaf node

-- this is found where all states are compared: none that is told otherwise, or one
abbrev pub IsFound : (ℕ → Option ℕ) → List Bool → List Sort → StateWords → Option ℕ → Type 0
IsFound words flags sorts w None = (i : ℕ) → (slice_get w.leaves i ≡ slice_get w.nodes i → ⊥) → DiffersFirst words flags sorts w i → ⊥
IsFound words flags sorts w (Some i) = DiffersFirst words flags sorts w i

-- ---- what is heard

-- what is told in the part of states of the first frame
abbrev pub first_told : Read → Place → List (ℕ × ℕ)
first_told r InStates = pairs_of r.open_part
first_told r InFrame = pairs_of (unwrap_or r.states [])
first_told r _ = []

-- flags say of each word whether it is told
abbrev pub Flag : List Bool → List (ℕ × ℕ) → Type 0
Flag flags list = (k : ℕ) → k < length flags → flag_at flags k ≡ is_some (given list k)

-- the words of a frame alone
abbrev pub alone : Parts → Words
alone parts = record { claims = []; frames = frame_words parts ∷ [] }

-- the first frame of a run that is as is told in it
abbrev pub BeginsRun : List Item → Parts → Frame → Type 0
BeginsRun items parts f = IsTrace items (initial_words items (alone parts)) (given_frames items (alone parts)) (f ∷ [])

-- what is held of the first frame while its lines come, and where it is closed: what is found in it
pub record FirstWords : Type 0 where
  pub states : List Sort
  pub words : StateWords
  pub flags : List Bool
  pub part : Part
  pub closed : Bool
  pub found : Option ℕ

-- the word with an index is told
abbrev pub noted : List Bool → ℕ → List Bool
noted [] i = []
noted (b ∷ bs) zero = true ∷ bs
noted (b ∷ bs) (suc i) = b ∷ noted bs i

abbrev pub noted_in : List Bool → Part → Option ℕ → List Bool
noted_in flags part.States (Some i) = noted flags i
noted_in flags _ _ = flags

-- with a line more
abbrev pub told_more : FirstWords → List ℕ → FirstWords
told_more h line = record h { flags = noted_in h.flags h.part (number_of (cut_at_space line).0); part = part_behind h.part line }

-- no frame is closed
pub record AwaitsFirst (h : FirstWords) (r : Read) : Type 0 where
  pub none : r.closed ≡ []
  pub said : SaidAt r r.place
  pub part : h.part ≡ part_at r.place
  pub flags : Flag h.flags (first_told r r.place)

-- the first is closed, and all states are compared in it, by the run of the fitted model that is as is told
pub record HasFirst (h : FirstWords) (shape : Shape) (narrow : List Item) (r : Read) : Type 0 where
  pub first : Parts
  pub more : List Parts
  pub is : r.closed ≡ first ∷ more
  pub flags : Flag h.flags (pairs_of (unwrap_or first.states []))
  pub found : (f : Frame) → BeginsRun narrow (split_parts shape first) f → IsFound (word_at narrow f) h.flags h.states h.words h.found

abbrev pub HoldsFirst : FirstWords → Bool → Shape → List Item → Read → Type 0
HoldsFirst h false shape narrow r = AwaitsFirst h r
HoldsFirst h true shape narrow r = HasFirst h shape narrow r

-- it stands for whole lines over a list of a shape, which is fitted into a model
abbrev pub HeardFirst : FirstWords → Shape → List Item → List ℕ → Type 0
HeardFirst h shape narrow text = (word_reading shape text).refused ≡ None → HoldsFirst h h.closed shape narrow (word_reading shape text).read

-- of states of these sorts, whose words stand there, told by so many words
pub record OfStates : Type 0 where
  pub sorts : List Sort
  pub words : StateWords
  pub count : ℕ

pub record IsOfStates (of : OfStates) (h : FirstWords) : Type 0 where
  pub sorts : h.states ≡ of.sorts
  pub words : h.words ≡ of.words
  pub count : length h.flags ≡ of.count

abbrev pub HearsFirst : OfStates → FirstWords → Shape → List Item → List ℕ → Type 0
HearsFirst of h shape narrow text = IsOfStates of h × HeardFirst h shape narrow text
