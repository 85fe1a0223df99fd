-- What the list that a model is written out as is told in a trace, where a run of the model is told something.
use Rattle.std.specs.Prelude.{◌≡◌, ℕ, true, List, [], ◌∷◌, Option, Some, None, Ok, is_some, map}
use Rattle.std.specs.List.{AllZip}
use Rattle.btor2.specs.declared.item.Item.{Item}
use Rattle.btor2.specs.Items.{is_input, is_state, init_word}
use Rattle.btor2.specs.Trace.{Frame, state_word, IsTrace}
use Rattle.fit.specs.Fitting.{Layout, joined}
use Rattle.full.specs.Lines.{FullLine, init_of, next_of}
use Rattle.full.specs.WrittenOut.{Places, read_by}
use Rattle.witness.specs.Readings.{text_read}
use Rattle.witness.specs.Admits.{Read, witness_of}
use Rattle.witness.specs.Judgements.{FrameWords, words_of, initial_words, given_frames}
use Rattle.fulljudge.specs.Shapes.{Leaf, leaves_of, full_shape}
use Rattle.fulljudge.specs.Lines.{full_reader}
use Rattle.fulljudge.specs.Told.{told, ByIndex, FirstDiffers}

-- the input of an input is given what is told
abbrev pub InputGiven : Places → List (ℕ × ℕ) → Frame → ℕ → Leaf → Type 0
InputGiven p list input i l = input (p.node l.id) ≡ told list l.sort i 0

-- the state of a state without an init line begins with it, and that of a state without a next line is given it later
abbrev pub FirstGiven : List FullLine → Places → List Item → List (ℕ × ℕ) → Frame → Frame → ℕ → Leaf → Type 0
FirstGiven full p wide list state input i l = init_of full l.id ≡ None → state_word wide state input (p.leaf l.id) ≡ told list l.sort i 0

abbrev pub LaterGiven : List FullLine → Places → List (ℕ × ℕ) → Frame → ℕ → Leaf → Type 0
LaterGiven full p list input i l = next_of full l.id ≡ None → input (p.leaf l.id) ≡ told list l.sort i 0

-- the words of the first frame, and those that are given in a later one
pub record IsFirstGiven (full : List FullLine) (p : Places) (wide : List Item) (state : Frame) (w : FrameWords) (input : Frame) : Type 0 where
  pub states : ByIndex (FirstGiven full p wide w.states state input) 0 (leaves_of is_state full)
  pub inputs : ByIndex (InputGiven p w.inputs input) 0 (leaves_of is_input full)

pub record IsLaterGiven (full : List FullLine) (p : Places) (w : FrameWords) (input : Frame) : Type 0 where
  pub states : ByIndex (LaterGiven full p w.states input) 0 (leaves_of is_state full)
  pub inputs : ByIndex (InputGiven p w.inputs input) 0 (leaves_of is_input full)

-- of all frames
abbrev pub AreGiven : List FullLine → Places → List Item → Frame → List FrameWords → List Frame → Type 0
AreGiven full p wide state [] [] = Unit {0}
AreGiven full p wide state [] (input ∷ inputs) = ⊥
AreGiven full p wide state (w ∷ ws) [] = ⊥
AreGiven full p wide state (w ∷ ws) (input ∷ inputs) = IsFirstGiven full p wide state w input × AllZip (IsLaterGiven full p) ws inputs

-- ---- first words

-- what is told of a state whose state begins with a constant is that constant
abbrev pub ConstantTold : Places → List Item → List (ℕ × ℕ) → ℕ → Leaf → Type 0
ConstantTold p wide list i l = (x : ℕ) → init_word wide (p.leaf l.id) ≡ Some x → told list l.sort i x ≡ x

-- what is told of another state with an init line is its word in the first frame
abbrev pub OtherTold : List FullLine → Places → List Item → List (ℕ × ℕ) → Frame → ℕ → Leaf → Type 0
OtherTold full p wide list f i l = is_some (init_of full l.id) ≡ true → init_word wide (p.leaf l.id) ≡ None → told list l.sort i (f l.id) ≡ f l.id

-- of the first of some frames
abbrev pub ConstantsTold : List FullLine → Places → List Item → List FrameWords → Type 0
ConstantsTold full p wide [] = Unit {0}
ConstantsTold full p wide (w ∷ ws) = ByIndex (ConstantTold p wide w.states) 0 (leaves_of is_state full)

abbrev pub OthersTold : List FullLine → Places → List Item → List FrameWords → List Frame → Type 0
OthersTold full p wide (w ∷ ws) (f ∷ fs) = ByIndex (OtherTold full p wide w.states f) 0 (leaves_of is_state full)
OthersTold full p wide _ _ = Unit {0}

-- what is found where the first words of states that begin with no constant are compared: none is another than is told, or this state's is
abbrev pub IsCompared : List FullLine → Places → List Item → List FrameWords → List Frame → Option ℕ → Type 0
IsCompared full p wide ws fs None = OthersTold full p wide ws fs
IsCompared full p wide ws fs (Some i) = FirstDiffers full ws fs i

-- where a text reads as a witness, this is found of it, by each trace of a list in which each word has a leaf
abbrev pub ComparesText : List FullLine → Places → List Item → Layout → List Item → List ℕ → Option ℕ → Type 0
ComparesText full p wide layout celled text d =
    (r : Read) (gs : List Frame) → text_read (full_reader (full_shape full)) text ≡ Ok r → IsTrace celled (initial_words celled (words_of (witness_of r))) (given_frames celled (words_of (witness_of r))) gs
    → IsCompared full p wide (words_of (witness_of r)).frames (map (read_by p) (map (joined celled layout) gs)) d
