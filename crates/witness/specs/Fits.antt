-- Words that fit a model, and what a run makes of them.
use Rattle.std.specs.Prelude.{◌≡◌, ℕ, suc, ◌<◌, ◌^◌, Bool, true, false, not, ◌&&◌, ◌||◌, ◌==◌, List, [], ◌∷◌, Option, Some, None, map, length, All, unwrap_or, slice_index, slice_index_or, slice_set, if◌then◌else◌}
use Rattle.std.specs.List.{list_any, list_all, position_from}
use Rattle.btor2.specs.declared.item.Item.{Item}
use Rattle.btor2.specs.Items.{is_state, is_constraint, names_state}
use Rattle.btor2.specs.Trace.{Frame, state_word}
use Rattle.btor2.specs.Reachability.{nodes_of}
use Rattle.witness.specs.Texts.{Shape, is_free_index, are_distinct}
use Rattle.witness.specs.Judgements.{FrameWords, given_to, given_words, Violation, violated_at}

-- ---- words that fit

-- a word of the width of an index that is there
pub record PairFits (widths : List ℕ) (p : ℕ × ℕ) : Type 0 where
  pub index : p.0 < length widths
  pub word : p.1 < 2 ^ slice_index widths p.0

-- the words of one part: no index has two
pub record PartFits (widths : List ℕ) (list : List (ℕ × ℕ)) : Type 0 where
  pub each : All (PairFits widths) list
  pub distinct : are_distinct (map (λ p. p.0) list) ≡ true

-- the words of the first frame, and of a later one
pub record FirstFits (shape : Shape) (frame : FrameWords) : Type 0 where
  pub states : PartFits shape.states frame.states
  pub inputs : PartFits shape.inputs frame.inputs

pub record LaterFits (shape : Shape) (frame : FrameWords) : Type 0 where
  pub states : PartFits shape.states frame.states
  pub free : All (λ p. is_free_index shape p.0 ≡ true) frame.states
  pub inputs : PartFits shape.inputs frame.inputs

abbrev pub FramesFit : Shape → List FrameWords → Type 0
FramesFit shape [] = ⊥
FramesFit shape (first ∷ later) = FirstFits shape first × All (LaterFits shape) later

-- ---- what a run makes of them

-- a list of words with those of a part at their indices
abbrev pub words_put : List ℕ → List (ℕ × ℕ) → List ℕ
words_put words [] = words
words_put words (p ∷ more) = words_put (slice_set words p.0 p.1) more

-- A run whose states have these words stands at a frame into which words are carried: once the frame's part of states is put over the run's words, each
-- state has its word of the frame.
abbrev pub StandsAt : List Item → Frame → FrameWords → Frame → Type 0
StandsAt items carried frame words =
    (id : ℕ) → names_state items id ≡ true
    → unwrap_or (given_to is_state items frame.states id) (words id) ≡ state_word items carried (given_words items frame) id

-- ---- what is found in its frames, node by node

-- the first constraint that does not hold in a frame
abbrev pub first_violated : List Item → Frame → Option ℕ
first_violated items f = position_from (λ a. not (f a == 1)) 0 (nodes_of is_constraint items)

-- the first frame in which one does not hold, by which does not in each; frames are counted from k on
abbrev pub breach_from : {F : Type 0} → (F → Option ℕ) → ℕ → List F → Option Violation
breach_from violated k [] = None
breach_from violated k (f ∷ fs) = violated_at k (violated f) (breach_from violated (suc k) fs)

-- a node is 1 in no frame
abbrev pub never_1 : List Frame → ℕ → Bool
never_1 fs a = list_all (λ f. not (f a == 1)) fs

-- the first claimed bad property that is 1 in no frame; their nodes are counted from i on
abbrev pub first_unreached : List ℕ → List Frame → ℕ → List ℕ → Option ℕ
first_unreached claims fs i [] = None
first_unreached claims fs i (a ∷ more) = if list_any (λ c. c == i) claims && never_1 fs a then Some i else first_unreached claims fs (suc i) more

-- a number is in the set that flags stand for
abbrev pub is_set : List Bool → ℕ → Bool
is_set flags k = slice_index_or flags k false

-- a flag for each of some nodes is set where it was set before, or where the node is 1 in a frame
abbrev pub RisesIn : List ℕ → Frame → List Bool → List Bool → Type 0
RisesIn nodes f before after = (i : ℕ) → i < length nodes → is_set after i ≡ (is_set before i || (f (slice_index nodes i) == 1))

-- the same of some frames
abbrev pub RisesAmong : List ℕ → List Frame → List Bool → List Bool → Type 0
RisesAmong nodes fs before after = (i : ℕ) → i < length nodes → is_set after i ≡ (is_set before i || not (never_1 fs (slice_index nodes i)))

-- no flag is set
abbrev pub NoneIsSet : List Bool → Type 0
NoneIsSet flags = (i : ℕ) → is_set flags i ≡ false

-- flags are set at the indices of some pairs, and at no others
abbrev pub IsFlagged : List Bool → List (ℕ × ℕ) → Type 0
IsFlagged flags list = (k : ℕ) → is_set flags k ≡ list_any (λ p. p.0 == k) list

-- flags are set at the numbers that are claimed, and at no others
abbrev pub AreClaimed : List Bool → List ℕ → Type 0
AreClaimed flags claims = (i : ℕ) → is_set flags i ≡ list_any (λ c. c == i) claims
