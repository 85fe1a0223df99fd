-- The frames of a witness over a model, played one after the other while its lines are read: what is kept of them, and which lines it is of.
use Rattle.std.specs.Prelude.{◌≡◌, ℕ, ◌+◌, ◌*◌, Bool, true, false, if◌then◌else◌, List, [], ◌∷◌, ◌++◌, Option, Some, None, Result, Ok, Err, map, length, slice_set}
use Rattle.std.specs.List.{last_or}
use Rattle.base.specs.Decimals.{number_of}
use Rattle.btor2.specs.declared.item.Item.{Item}
use Rattle.btor2.specs.Items.{is_input, is_state, is_bad}
use Rattle.btor2.specs.Trace.{Frame, IsTrace, next_state}
use Rattle.btor2.specs.Reachability.{nodes_of}
use Rattle.runs.specs.Frames.{ids_of}
use Rattle.runs.specs.Run.{Run, IsNow, start, first_word, zeros, node_count, state_count, more_steps}
use Rattle.witness.specs.declared.why.Why.{Why}
use Rattle.witness.specs.Texts.{widths_of, Assignment, shape_of, assignment_line, IsAssignment}
use Rattle.witness.specs.Admits.{cut_at_space, may_name, assignment_at}
use Rattle.witness.specs.Fits.{IsFlagged, FramesFit, words_put, first_violated, breach_from, RisesAmong, NoneIsSet}
pub use Rattle.witness.specs.ClosedWords.{nothing_given, is_between, word_at}
use Rattle.witness.specs.Judgements.{FrameWords, Words, pairs_of, initial_words, given_words, Violation, first_different}

-- a run of the model, which stays settled in the frame that was closed last until it has to move on; which states and inputs have a word in the frame that is open; the first state whose initial word is not that of its init line; how many
-- frames are closed, the first constraint that did not hold in them, and which bad properties rose
pub record WordPlay : Type 0 where
  pub items : List Item
  pub run : Run
  pub states_given : List Bool
  pub inputs_given : List Bool
  pub differs : Option ℕ
  pub frames : ℕ
  pub breach : Option Violation
  pub rose : List Bool

-- nothing is read
pub record IsStart (items : List Item) (p : WordPlay) : Type 0 where
  pub items_are : p.items ≡ items
  pub run : p.run ≡ start items
  pub states : NoneIsSet p.states_given
  pub inputs : NoneIsSet p.inputs_given
  pub differs : p.differs ≡ None
  pub frames : p.frames ≡ 0
  pub breach : p.breach ≡ None
  pub rose : NoneIsSet p.rose

-- the steps of one frame, and of so many
abbrev pub frame_steps : List Item → ℕ
frame_steps items = node_count items + state_count items

abbrev pub steps_of : List Item → ℕ → ℕ
steps_of items frames = more_steps (frames * frame_steps items) 0

-- the words of frames, whatever is claimed
abbrev pub frames_alone : List FrameWords → Words
frames_alone frames = record { claims = []; frames = frames }

-- the words that are carried behind the frames of a trace
abbrev pub carried_behind : List Item → Frame → List Frame → Frame
carried_behind items carried [] = carried
carried_behind items carried (f ∷ fs) = carried_behind items (next_state items f) fs

-- before the first frame is closed; the states have these words where the open part gives them none
pub record Fresh (items : List Item) (base : List ℕ) (p : WordPlay) : Type 0 where
  pub states : base ≡ map (first_word items) (ids_of is_state items)
  pub breach : p.breach ≡ None
  pub rose : NoneIsSet p.rose

-- the run behind the frame that it is settled in; it is the same run where it is settled in none
pub record MovesOn (r ahead : Run) : Type 0 where
  pub states : (f : Frame) → IsNow r f → ahead.states ≡ map (next_state r.items f) (ids_of is_state r.items)
  pub others : ahead ≡ record r { states = ahead.states; inputs = zeros r.items; settled = false; steps = more_steps (state_count r.items) r.steps }

abbrev pub GoesOn : Bool → Run → Run → Type 0
GoesOn true r ahead = MovesOn r ahead
GoesOn false r ahead = ahead ≡ r

-- the steps that it has taken then
abbrev pub steps_taken : List Item → Run → ℕ
steps_taken items r = if r.settled then more_steps (state_count items) r.steps else r.steps

-- what a trace of the closed frames says of what is kept
pub record Traced (items : List Item) (frames : List FrameWords) (base : List ℕ) (p : WordPlay) (fs : List Frame) : Type 0 where
  pub last : Frame
  pub is_last : last_or None fs ≡ Some last
  pub now : p.run.settled ≡ true → IsNow p.run last
  pub states : base ≡ map (next_state items last) (ids_of is_state items)
  pub carried : carried_behind items (initial_words items (frames_alone frames)) fs ≡ next_state items last
  pub differs : p.differs ≡ first_different items (initial_words items (frames_alone frames))
  pub breach : p.breach ≡ breach_from (first_violated items) 0 fs
  pub rose : (none : List Bool) → NoneIsSet none → RisesAmong (nodes_of is_bad items) fs none p.rose

abbrev pub TracedBy : List Item → List ℕ → WordPlay → List FrameWords → Type 0
TracedBy items base p [] = Fresh items base p
TracedBy items base p (x ∷ xs) =
    (fs : List Frame) → IsTrace items (initial_words items (frames_alone (x ∷ xs))) (map (given_words items) (x ∷ xs)) fs → Traced items (x ∷ xs) base p fs

-- these frames are closed, and these words are given in the next; `ahead` is the run in that one
pub record Plays (items : List Item) (frames : List FrameWords) (here : FrameWords) (p : WordPlay) : Type 0 where
  pub items_are : p.items ≡ items
  pub run : p.run.items ≡ items
  pub fit : FramesFit (shape_of items) (frames ++ here ∷ [])
  pub states_flagged : IsFlagged p.states_given here.states
  pub inputs_flagged : IsFlagged p.inputs_given here.inputs
  pub settled : p.run.settled ≡ is_between frames here
  pub ahead : Run
  pub goes : GoesOn p.run.settled p.run ahead
  pub base : List ℕ
  pub many : length base ≡ length (ids_of is_state items)
  pub states : ahead.states ≡ words_put base here.states
  pub inputs : ahead.inputs ≡ words_put (zeros items) here.inputs
  pub count : p.frames ≡ length frames
  pub steps : ahead.steps ≡ steps_of items (length frames)
  pub traced : TracedBy items base p frames

-- a state or an input has a word
abbrev pub state_given : WordPlay → ℕ → ℕ → WordPlay
state_given p k word = record p { run = record p.run { states = slice_set p.run.states k word; settled = false }; states_given = slice_set p.states_given k true }

abbrev pub input_given : WordPlay → ℕ → ℕ → WordPlay
input_given p k word = record p { run = record p.run { inputs = slice_set p.run.inputs k word; settled = false }; inputs_given = slice_set p.inputs_given k true }

-- a line may give a word to a state in the open part: in a later frame to a free one
abbrev pub MayGive : List Item → List FrameWords → List ℕ → Type 0
MayGive items frames line = may_name (shape_of items) frames (number_of (cut_at_space line).0) ≡ true

-- what a line gives to a state in a part of states, or to an input behind these words of states
abbrev pub GivesState : List Item → List FrameWords → List Assignment → List ℕ → WordPlay → Result (Unit {0}) Why → Type 0
GivesState items frames before line p (Ok u) =
    (list : List Assignment) × ((assignment_at (shape_of items).states before line ≡ Ok list) × Plays items frames (record { states = pairs_of list; inputs = [] }) p)
GivesState items frames before line p (Err w) = assignment_at (shape_of items).states before line ≡ Err w

abbrev pub GivesInput : List Item → List FrameWords → List (ℕ × ℕ) → List Assignment → List ℕ → WordPlay → Result (Unit {0}) Why → Type 0
GivesInput items frames states before line p (Ok u) =
    (list : List Assignment) × ((assignment_at (shape_of items).inputs before line ≡ Ok list) × Plays items frames (record { states = states; inputs = pairs_of list }) p)
GivesInput items frames states before line p (Err w) = assignment_at (shape_of items).inputs before line ≡ Err w

-- a text begins with the line of an assignment to an input, which was taken: frames are then played as by that line
pub record TakesInput (old new : WordPlay) (text rest : List ℕ) : Type 0 where
  pub assignment : Assignment
  pub is : text ≡ assignment_line (widths_of is_input old.items) assignment ++ 10 ∷ rest
  pub valid : IsAssignment (widths_of is_input old.items) assignment
  pub gives : (frames : List FrameWords) (states : List (ℕ × ℕ)) (before : List Assignment) → Plays old.items frames (record { states = states; inputs = pairs_of before }) old
      → GivesInput old.items frames states before (assignment_line (widths_of is_input old.items) assignment) new (Ok tt)
