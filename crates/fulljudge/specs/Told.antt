-- What a witness tells of a run of a model of the whole language: what is left open in a frame is told, or 0 ("Btor2, BtorMC and Boolector 3.0", semantics of witnesses;
-- that 0 is meant where nothing is told is this project's).
use Rattle.std.specs.Prelude.{◌≡◌, ℕ, zero, suc, ◌+◌, ◌^◌, ◌==◌, true, false, List, [], ◌∷◌, Some, None, is_some, map, unwrap_or, slice_get}
use Rattle.std.specs.List.{AllZip}
use Rattle.base.specs.Operator.{concat_value}
use Rattle.btor2.specs.Items.{is_input, is_state}
use Rattle.btor2.specs.Trace.{Frame}
use Rattle.full.specs.Lines.{FullLine, Sort, words, arrays, init_of, next_of}
use Rattle.full.specs.Cells.{read_value}
use Rattle.witness.specs.Judgements.{FrameWords, given}
use Rattle.fulljudge.specs.Shapes.{Leaf, leaves_of, word_count, first_index}

-- so many cells of n bits from one on, the lowest first, of an array whose words are told from an index on; those that are not told are the cells of another array
abbrev pub told_cells : List (ℕ × ℕ) → ℕ → ℕ → ℕ → ℕ → ℕ → ℕ
told_cells list n first x c zero = 0
told_cells list n first x c (suc more) = concat_value (told_cells list n first x (suc c) more) n (unwrap_or (given list (first + c)) (read_value n x c))

-- the value of a sort that is told from an index on; where nothing is told it is as another
abbrev pub told : List (ℕ × ℕ) → Sort → ℕ → ℕ → ℕ
told list (words n) first x = unwrap_or (given list first) x
told list (arrays k n) first x = told_cells list n first x 0 (2 ^ k)

-- something is so of each value, and of the index of its first word
abbrev pub ByIndex : (ℕ → Leaf → Type 0) → ℕ → List Leaf → Type 0
ByIndex Of i [] = Unit {0}
ByIndex Of i (l ∷ more) = Of i l × ByIndex Of (i + word_count l.sort) more

-- an input has the value that is told
abbrev pub InputTold : List (ℕ × ℕ) → Frame → ℕ → Leaf → Type 0
InputTold list f i l = f l.id ≡ told list l.sort i 0

-- in the first frame a state has it that has no init line, in a later one a state that has no next line
abbrev pub FirstTold : List FullLine → List (ℕ × ℕ) → Frame → ℕ → Leaf → Type 0
FirstTold full list f i l = init_of full l.id ≡ None → f l.id ≡ told list l.sort i 0

abbrev pub LaterTold : List FullLine → List (ℕ × ℕ) → Frame → ℕ → Leaf → Type 0
LaterTold full list f i l = next_of full l.id ≡ None → f l.id ≡ told list l.sort i 0

-- the first frame, and a later one, is as is told
pub record IsFirst (full : List FullLine) (w : FrameWords) (f : Frame) : Type 0 where
  pub states : ByIndex (FirstTold full w.states f) 0 (leaves_of is_state full)
  pub inputs : ByIndex (InputTold w.inputs f) 0 (leaves_of is_input full)

pub record IsLater (full : List FullLine) (w : FrameWords) (f : Frame) : Type 0 where
  pub states : ByIndex (LaterTold full w.states f) 0 (leaves_of is_state full)
  pub inputs : ByIndex (InputTold w.inputs f) 0 (leaves_of is_input full)

-- frames are as is told, one by one
abbrev pub AreTold : List FullLine → List FrameWords → List Frame → Type 0
AreTold full [] [] = Unit {0}
AreTold full [] (f ∷ fs) = ⊥
AreTold full (w ∷ ws) [] = ⊥
AreTold full (w ∷ ws) (f ∷ fs) = IsFirst full w f × AllZip (IsLater full) ws fs

-- The state with an index has an init line, and what is told of its first value is not what it is in this frame.
pub record DiffersAt (full : List FullLine) (list : List (ℕ × ℕ)) (f : Frame) (i : ℕ) : Type 0 where
  pub leaf : Leaf
  pub there : slice_get (leaves_of is_state full) i ≡ Some leaf
  pub has_init : is_some (init_of full leaf.id) ≡ true
  pub other : (told list leaf.sort (first_index (map (λ (l : Leaf). l.sort) (leaves_of is_state full)) i) (f leaf.id) == f leaf.id) ≡ false

-- the same of the first of some frames
abbrev pub FirstDiffers : List FullLine → List FrameWords → List Frame → ℕ → Type 0
FirstDiffers full (w ∷ ws) (f ∷ fs) i = DiffersAt full w.states f i
FirstDiffers full _ _ i = ⊥
