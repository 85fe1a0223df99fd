-- The judgement of a text over a model ("Btor2, BtorMC and Boolector 3.0", semantics of witnesses; the order of the six answers is this project's).
use Rattle.std.specs.Prelude.{◌≡◌, ℕ, zero, suc, ◌+◌, Bool, true, false, not, ◌&&◌, ◌||◌, ◌==◌, nat_le, List, [], ◌∷◌, Option, Some, None, Result, Ok, Err, codes, map, length, find, option_map, option_and_then, unwrap_or, if◌then◌else◌}
use Rattle.std.specs.List.{list_any, position_from}
use Rattle.std.specs.Option.{option_or}
use Rattle.std.specs.Str.{bytes_eq}
use Rattle.base.specs.Lines.{whole_lines}
use Rattle.base.specs.Shown.{Shown, rises_in_some}
use Rattle.btor2.specs.declared.item.Item.{Item}
use Rattle.btor2.specs.declared.item.Body.{Body}
use Rattle.btor2.specs.Items.{is_input, is_state, is_bad, names_state, init_word}
use Rattle.btor2.specs.Lists.{of_kind}
use Rattle.btor2.specs.Trace.{Frame, IsTrace}
use Rattle.btor2.specs.Reachability.{nodes_of, model_shows}
use Rattle.witness.specs.declared.judgement.Judgement.{Judgement}
use Rattle.witness.specs.declared.judgement.Judgement.TheVariants as judgement
use Rattle.witness.specs.Texts.{Assignment, Parts, Witness, shape_of, is_comment, most_lines}
use Rattle.witness.specs.Readings.{Fault, text_read}
use Rattle.witness.specs.Admits.{word_reader, witness_of}

-- ---- the words that a witness gives

-- which of the items of a kind, in file order, an id names
abbrev pub index_of : (Body → Bool) → List Item → ℕ → Option ℕ
index_of kind items id = position_from (λ x. id == x.id) 0 (of_kind kind items)

-- what a witness says without the names: claims, and for each frame words of states and of inputs by their indices
pub record FrameWords : Type 0 where
  pub states : List (ℕ × ℕ)
  pub inputs : List (ℕ × ℕ)

pub record Words : Type 0 where
  pub claims : List ℕ
  pub frames : List FrameWords

abbrev pub pairs_of : List Assignment → List (ℕ × ℕ)
pairs_of list = map (λ a. (a.index, a.word)) list

abbrev pub frame_words : Parts → FrameWords
frame_words parts = record { states = pairs_of (unwrap_or parts.states []); inputs = pairs_of parts.inputs }

abbrev pub words_of : Witness → Words
words_of w = record { claims = w.claims; frames = map frame_words w.frames }

-- the word that a part gives to an index, and to the item of a kind with an id
abbrev pub given : List (ℕ × ℕ) → ℕ → Option ℕ
given list k = option_map (λ p. p.1) (find (λ p. p.0 == k) list)

abbrev pub given_to : (Body → Bool) → List Item → List (ℕ × ℕ) → ℕ → Option ℕ
given_to kind items list id = option_and_then (given list) (index_of kind items id)

-- the words of states in the first frame
abbrev pub initial_part : List FrameWords → List (ℕ × ℕ)
initial_part [] = []
initial_part (first ∷ later) = first.states

-- The words that are carried into the first frame: a state has the word that it is given there, else that of its init line, else 0. They mean something
-- at the states that are not free.
abbrev pub initial_words : List Item → Words → Frame
initial_words items w id = unwrap_or (option_or (given_to is_state items (initial_part w.frames) id) (init_word items id)) 0

-- The words that are given in a frame: a state has the word of the states' part, an input that of the inputs', else 0. They mean something at the inputs and
-- at the states that are free.
abbrev pub given_words : List Item → FrameWords → Frame
given_words items frame id =
    unwrap_or (if names_state items id then given_to is_state items frame.states id else given_to is_input items frame.inputs id) 0

abbrev pub given_frames : List Item → Words → List Frame
given_frames items w = map (given_words items) w.frames

-- ---- what is looked for in a trace

-- a constant that is there and differs
abbrev pub differs : Option ℕ → ℕ → Bool
differs None x = false
differs (Some c) x = not (c == x)

-- the first state whose word is not that of its init line
abbrev pub first_different : List Item → Frame → Option ℕ
first_different items state = position_from (λ x. differs (init_word items x.id) (state x.id)) 0 (of_kind is_state items)

-- the first frame in which a constraint does not hold, and the first such constraint; frames are counted from k on
pub record Violation : Type 0 where
  pub frame : ℕ
  pub constraint : ℕ

abbrev pub violated_at : ℕ → Option ℕ → Option Violation → Option Violation
violated_at k None later = later
violated_at k (Some i) later = Some (record { frame = k; constraint = i })

abbrev pub violation_from : ℕ → List Shown → Option Violation
violation_from k [] = None
violation_from k (s ∷ more) = violated_at k (position_from not 0 s.constraints) (violation_from (suc k) more)

-- the first of so many bad properties, counted from i on, that is claimed and rises in no frame
abbrev pub unreached_from : List ℕ → List Shown → ℕ → ℕ → Option ℕ
unreached_from claims shown i zero = None
unreached_from claims shown i (suc more) =
    if list_any (λ c. c == i) claims && not (rises_in_some i shown) then Some i else unreached_from claims shown (suc i) more

-- ---- the judgement

-- what is judged of a whole witness of so many frames: by the first initial value that differs, else the first breach, else the first claim that is not reached
abbrev pub first_of : Option ℕ → Option Violation → Option ℕ → ℕ → Judgement
first_of (Some k) breach unreached frames = judgement.InitDiffers k
first_of None (Some v) unreached frames = judgement.Violated v.frame v.constraint
first_of None None (Some claim) frames = judgement.NotReached claim
first_of None None None frames = judgement.Accepted frames

-- of a witness over a model or a circuit, by the first initial value that differs, what it claims of so many bad properties, and what its frames show:
-- initial values first, then constraints in all frames, then claims
abbrev pub verdict : Option ℕ → List ℕ → ℕ → List Shown → Judgement
verdict different claims bads shown = first_of different (violation_from 0 shown) (unreached_from claims shown 0 bads) (length shown)

-- a judgement that needs no run: that there is no claim, or no witness
abbrev pub unplayed : Judgement → Option Judgement
unplayed judgement.NoClaim = Some judgement.NoClaim
unplayed (judgement.Malformed line why) = Some (judgement.Malformed line why)
unplayed _ = None

-- the first line that is no comment is whole, among the lines that may be there, and says that there is no counterexample, or that none is known
abbrev pub makes_no_claim : ℕ → List (List ℕ) → Bool
makes_no_claim n [] = false
makes_no_claim n (line ∷ lines) =
    if nat_le most_lines n then false
    else (if is_comment line then makes_no_claim (n + 1) lines else (bytes_eq line (codes "unsat") || bytes_eq line (codes "unknown")))

-- what is judged of what was read, by the model's one trace from its words
abbrev pub JudgesWords : List Item → Words → Judgement → Type 0
JudgesWords items w j =
    (fs : List Frame) → IsTrace items (initial_words items w) (map (given_words items) w.frames) fs
    → j ≡ verdict (first_different items (initial_words items w)) w.claims (length (nodes_of is_bad items)) (map (model_shows items) fs)

-- what is judged of a text, where its status says so of a claim and it reads so, by what is judged of what it says
abbrev pub JudgesAs : {R : Type 0} → (R → Judgement → Type 0) → Bool → Result R Fault → Judgement → Type 0
JudgesAs Says true read j = j ≡ judgement.NoClaim
JudgesAs Says false (Err e) j = j ≡ judgement.Malformed e.line e.why
JudgesAs Says false (Ok r) j = Says r j

-- the judgement of a text over a model
abbrev pub Judges : List Item → List ℕ → Judgement → Type 0
Judges items text j = JudgesAs (λ r. JudgesWords items (words_of (witness_of r))) (makes_no_claim 0 (whole_lines text)) (text_read (word_reader (shape_of items)) text) j
