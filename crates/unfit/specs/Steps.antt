-- What is held of the frame that is open, and what a line does to it.
use Rattle.std.specs.Prelude.{◌≡◌, ◌⊎◌, ◌&&◌, not, ℕ, zero, suc, ◌==◌, Bool, List, [], ◌∷◌, ◌++◌, Option, None, Some, Result, Ok, MatchResult, IfSome, map, length, decimal, slice_get, option_map, unwrap_or, if◌then◌else◌}
use Rattle.std.specs.Io.KnownBytes.{Appends, Consumes}
use Rattle.base.specs.Device.{AppendsBeginning}
use Rattle.base.specs.declared.pen.Pen.{Pen}
use Rattle.base.specs.Lines.{HasNone, text_of_lines, unfinished}
use Rattle.base.specs.Writing.{WritesText}
use Rattle.btor2.specs.declared.item.Item.{Item}
use Rattle.btor2.specs.Check.{IsWellFormed}
use Rattle.btor2.specs.Symbols.{is_comment}
use Rattle.witness.specs.Texts.{Assignment, IsAssignment, assignment_line, symbol_part, binary, shape_of}
use Rattle.witness.specs.Admits.{Read, Place, begins_part, nothing_read, InStates, InFrame, admit}
use Rattle.witness.specs.Judgements.{pairs_of}
use Rattle.witness.specs.KeptLines.{AreNarrow}
use Rattle.witness.specs.ClosedWords.{said_in, admitted_word_lines}
use Rattle.witness.specs.WordStands.{StandsForWitness, WordJudge, SaidAt}
use Rattle.unfit.specs.declared.told_pieces.Piece.{Piece}
use Rattle.unfit.specs.declared.frame.OpenPart.{OpenPart}
use Rattle.unfit.specs.declared.frame.OpenPart.TheVariants as part
use Rattle.unfit.specs.Joined.{Fronts, Lined, word_of_piece, any_told, joined_word, join_from, name_at, pieces_from, state_words, input_words}
use Rattle.unfit.specs.Unfitted.{told_lines, unfit_text_with, unfit_lines_with}

-- which part is open, and the pieces of the states and of the inputs
pub record Frame : Type 0 where
  pub part : OpenPart
  pub states : List Piece
  pub inputs : List Piece

-- the part that is open at a place
abbrev pub part_at : Place → OpenPart
part_at InStates = part.States
part_at InFrame = part.Inputs
part_at _ = part.Nothing

-- which part a line opens
abbrev pub opened_by : List ℕ → OpenPart
opened_by [] = part.Nothing
opened_by (b ∷ bs) = if b == 35 then part.States else (if b == 64 then part.Inputs else part.Nothing)

-- what is told in the part of states that is open, and in that of inputs
abbrev pub told_states : Read → Place → List (ℕ × ℕ)
told_states r InStates = pairs_of r.open_part
told_states r _ = []

abbrev pub told_inputs : Read → Place → List (ℕ × ℕ)
told_inputs r InFrame = pairs_of r.open_part
told_inputs r _ = []

-- a frame holds what is told in the part that is open at a place
pub record HoldsAt (narrow : List Item) (r : Read) (at : Place) (f : Frame) : Type 0 where
  pub part : f.part ≡ part_at at
  pub states : f.states ≡ pieces_from (told_states r at) 0 (state_words narrow)
  pub inputs : f.inputs ≡ pieces_from (told_inputs r at) 0 (input_words narrow)
  pub said : SaidAt r at

abbrev pub Holds : List Item → Read → Frame → Type 0
Holds narrow r f = HoldsAt narrow r r.place f

-- the piece with an index is told to have a word; nothing is told of any
abbrev pub told_at : List Piece → ℕ → ℕ → List Piece
told_at [] i x = []
told_at (p ∷ ps) zero x = record p { told = Some x } ∷ ps
told_at (p ∷ ps) (suc i) x = p ∷ told_at ps i x

abbrev pub untold : List Piece → List Piece
untold pieces = map (λ (p : Piece). record { told = None; otherwise = p.otherwise }) pieces

-- the lines of a part of frame k, of words of these widths by their pieces
abbrev pub part_text : Fronts → Bool → List (Option (List ℕ)) → List ℕ → ℕ → List Piece → List ℕ
part_text fronts named names widths k pieces = text_of_lines (told_lines fronts k widths (join_from (name_at named names k) 0 widths pieces))

-- the lines of the part that is open, of frame k
abbrev pub open_text : Lined → ℕ → Frame → OpenPart → List ℕ
open_text l k f part.Nothing = []
open_text l k f part.States = (35 ∷ (decimal k ++ 10 ∷ [])) ++ part_text l.states l.wide.named l.wide.names.states l.wide.shape.states k f.states
open_text l k f part.Inputs = (64 ∷ (decimal k ++ 10 ∷ [])) ++ part_text l.inputs l.wide.named l.wide.names.inputs l.wide.shape.inputs k f.inputs

-- a line that opens no part, with its end; one that does is put with its part
abbrev pub text_of_line : List ℕ → OpenPart → List ℕ
text_of_line line part.Nothing = line ++ 10 ∷ []
text_of_line line _ = []

-- of the part that is open nothing is told
abbrev pub closed_frame : Frame → OpenPart → Frame
closed_frame f part.Nothing = f
closed_frame f part.States = record f { states = untold f.states }
closed_frame f part.Inputs = record f { inputs = untold f.inputs }

-- the line of a word with this before its digits, of this width and this name, by its pieces
abbrev pub word_text : List ℕ → ℕ → Option (List ℕ) → List Piece → List ℕ
word_text front width name pieces = ((front ++ 32 ∷ []) ++ binary width (joined_word pieces)) ++ (symbol_part name ++ 10 ∷ [])

-- where the word is told, and one of the pieces is
abbrev pub told_text : Bool → List ℕ → ℕ → Option (List ℕ) → List Piece → List ℕ
told_text told front width name pieces = if told && any_told pieces then word_text front width name pieces else []

-- the word of the piece at a place, and 0 behind the last
abbrev pub piece_word_at : List Piece → ℕ → ℕ
piece_word_at pieces i = unwrap_or (option_map word_of_piece (slice_get pieces i)) 0

-- what stands before the first space, which has none, and behind it; nothing stands behind where there is none
abbrev pub CutsAtSpace : List ℕ → List ℕ → List ℕ → Type 0
CutsAtSpace bytes front rest = HasNone 32 front × ((bytes ≡ front ++ 32 ∷ rest) ⊎ ((bytes ≡ front) × (rest ≡ [])))

-- with the word of a piece of the part that is open
abbrev pub told_frame : Frame → OpenPart → ℕ → ℕ → Frame
told_frame f part.Nothing i x = f
told_frame f part.States i x = record f { states = told_at f.states i x }
told_frame f part.Inputs i x = record f { inputs = told_at f.inputs i x }

-- a line that assigns a word of at most 64 bits tells that word
abbrev pub TellsLine : Frame → Frame → List ℕ → Type 0
TellsLine before after line =
    (after.part ≡ before.part) × ((before.part ≡ part.Nothing → after ≡ before)
    × ((widths : List ℕ) (a : Assignment) → AreNarrow widths → IsAssignment widths a → line ≡ assignment_line widths a → after ≡ told_frame before before.part a.index a.word))

-- whether a line says nothing by itself: a comment, or an assignment in a part that is open
abbrev pub keeps : OpenPart → List ℕ → Bool
keeps part.Nothing line = is_comment line
keeps _ line = not (begins_part line)

-- bytes were put, and what is put meets this
pub record WritesSome {K : Type 0} (written : K → Option (List ℕ)) (failures : K → ℕ) (s t : K) (p q : Pen) (Is : List ℕ → Type 0) : Type 0 where
  pub put : List ℕ
  pub writes : WritesText written failures s t p q put
  pub is : Is put

-- a line that is admitted behind what was read: the frame holds what is read with it, and what is put is what is said of it
abbrev pub TakesAdmitted : Lined → ℕ → List ℕ → Frame → Frame → List ℕ → Type 0
TakesAdmitted l k line before after put =
    (narrow : List Item) (r s : Read) → IsWellFormed narrow → Holds narrow r before → k ≡ length r.closed → admit (shape_of narrow) r line ≡ Ok s
    → Holds narrow s after × (text_of_lines (unfit_lines_with l narrow r) ++ put ≡ text_of_lines (unfit_lines_with l narrow s))

-- whether a line is admitted behind a text of whole lines: one line more is
abbrev pub IsAdmitted : List Item → List ℕ → List ℕ → Bool → Type 0
IsAdmitted narrow text line b = b ≡ not (admitted_word_lines (shape_of narrow) (text ++ (line ++ 10 ∷ [])) == admitted_word_lines (shape_of narrow) text)

-- a judge and a frame stand for whole lines, of which what is said was written since a pen began
pub record Unfits {K : Type 0} (written : K → Option (List ℕ)) (failures : K → ℕ) (start s : K) (from pen : Pen) (l : Lined) (narrow : List Item) (judge : WordJudge) (f : Frame) (text : List ℕ) : Type 0 where
  pub well_formed : IsWellFormed narrow
  pub stands : StandsForWitness narrow judge text
  pub ended : unfinished text ≡ []
  pub holds : Holds narrow (said_in narrow text) f
  pub writes : WritesText written failures start s from pen (unfit_text_with l narrow text)

-- lines of a source are taken: where what it had of a text before was behind a front of that, what it has now is behind a longer one
abbrev pub TakesLines : {K : Type 0} → (K → Option (List ℕ)) → (K → ℕ) → Option (List ℕ) → Option (List ℕ) → K → K → Pen → Pen → Lined → WordJudge → WordJudge → Frame → Frame → Type 0
TakesLines {K} written failures known now s t p q l judge judged f g =
    (start : K) (from : Pen) (narrow : List Item) (whole : Option (List ℕ)) (front : List ℕ) → Consumes whole known front → Unfits written failures start s from p l narrow judge f front
    → (longer : List ℕ) × (Consumes whole now longer × Unfits written failures start t from q l narrow judged g longer)

-- a whole source is taken by a judge and a frame that stand for nothing: the judge stands for the text, and what is said of it was written; at a fault a beginning of that was
abbrev pub UnfitsAll : {T E : Type 0} → Result T E → Lined → Option (List ℕ) → Option (List ℕ) → Option (List ℕ) → WordJudge → WordJudge → Frame → Type 0
UnfitsAll r l source old new judge judged f =
    (narrow : List Item) → IsWellFormed narrow → StandsForWitness narrow judge [] → Holds narrow nothing_read f
    → IfSome source (λ text. MatchResult r (λ x. StandsForWitness narrow judged text × Appends old new (unfit_text_with l narrow text)) (λ e. AppendsBeginning old new (unfit_text_with l narrow text)))
