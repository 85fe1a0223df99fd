-- How far the whole lines of a text over a model are admitted, its closed frames, and the words of the one that was closed last (this project's).
use Rattle.std.specs.Prelude.{ℕ, List, Result, length, ◌≡◌, Bool, true, false, ◌&&◌, ◌==◌, [], ◌∷◌, ◌++◌, Option, None, ◌⊎◌, is_some, option_map, option_and_then, if◌then◌else◌, map, slice_get}
use Rattle.witness.specs.Texts.{Shape, Parts, shape_of}
use Rattle.witness.specs.Readings.{Reading, Fault, reading, read_or_fault}
use Rattle.witness.specs.Admits.{Read, is_at_end, word_reader, Place, InStates, InFrame, witness_of}
use Rattle.std.specs.List.{last_or}
use Rattle.btor2.specs.declared.item.Item.{Item}
use Rattle.btor2.specs.Lists.{width_at}
use Rattle.btor2.specs.Trace.{Frame, IsTrace}
use Rattle.witness.specs.Judgements.{FrameWords, Words, pairs_of, frame_words, words_of, initial_words, given_frames}

abbrev pub word_reading : Shape → List ℕ → Reading Read
word_reading shape text = reading (word_reader shape) text

-- what the lines read as, with the bytes behind the last of them, or the fault
abbrev pub read_with : Reading Read → List ℕ → Result Read Fault
read_with g last = read_or_fault (λ r. is_at_end r.place) g last g.refused

-- the whole lines before the faulty one, or all lines; and the frames whose closing lines are among them
abbrev pub admitted_word_lines : Shape → List ℕ → ℕ
admitted_word_lines shape text = (word_reading shape text).admitted

abbrev pub closed_word_frames : Shape → List ℕ → ℕ
closed_word_frames shape text = length (word_reading shape text).read.closed

-- ---- the closed frames

-- what the lines of a text before the faulty one say
abbrev pub said_in : List Item → List ℕ → Read
said_in items text = (word_reading (shape_of items) text).read

-- the words of their frames
abbrev pub closed_words : List Item → List ℕ → Words
closed_words items text = words_of (witness_of (said_in items text))

-- a trace of the frames of a text whose closing lines stand before the faulty line
abbrev pub IsClosedTrace : List Item → List ℕ → List Frame → Type 0
IsClosedTrace items text fs = IsTrace items (initial_words items (closed_words items text)) (given_frames items (closed_words items text)) fs

-- ---- the frame that is open

-- nothing is given
abbrev pub nothing_given : FrameWords
nothing_given = record { states = []; inputs = [] }

-- the words that are given in the frame that is open
abbrev pub here_of : Read → Place → FrameWords
here_of r InStates = record { states = pairs_of r.open_part; inputs = [] }
here_of r InFrame = frame_words (record { states = r.states; inputs = r.open_part })
here_of r _ = nothing_given

-- frames are closed, and no word is given behind them
abbrev pub is_between : List FrameWords → FrameWords → Bool
is_between [] here = false
is_between (x ∷ xs) here = (length here.states == 0) && (length here.inputs == 0)

abbrev pub is_behind_frame : Read → Bool
is_behind_frame r = is_between (map frame_words r.closed) (here_of r r.place)

-- ---- the frame that was closed last

-- the word of the node at a position in a frame, where a node with a value stands there
abbrev pub word_at : List Item → Frame → ℕ → Option ℕ
word_at items f node = if is_some (width_at items node) then option_map (λ x. f x.id) (slice_get items node) else None

-- the same in the last of the frames of a text, where no word is given behind it
abbrev pub last_word : List Item → List ℕ → List Frame → ℕ → Option ℕ
last_word items text fs node =
    if is_behind_frame (said_in items text) then option_and_then (λ f. word_at items f node) (last_or None fs) else None

-- ---- a line more

-- a frame more is closed, and no word is given behind it
pub record ClosesFrame (r next : Read) : Type 0 where
  pub parts : Parts
  pub closed : next.closed ≡ r.closed ++ parts ∷ []
  pub behind : is_behind_frame next ≡ true

-- no frame is closed, or one
abbrev pub ClosesAtMostOne : Read → Read → Type 0
ClosesAtMostOne r next = (next.closed ≡ r.closed) ⊎ ClosesFrame r next
