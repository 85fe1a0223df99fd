-- Which texts are witnesses over a model, and what they say ("Btor2, BtorMC and Boolector 3.0", witness format). This project's own: one claims line, no
-- bit left undetermined, which assignments may be missing and what is meant then, and the parts of free states in later frames.
use Rattle.std.specs.Prelude.{◌≡◌, ◌≢◌, ℕ, suc, ◌<◌, ◌≤◌, ◌^◌, Bool, true, false, not, ◌&&◌, ◌==◌, List, [], ◌∷◌, ◌++◌, Option, Some, None, IfSome, codes, decimal, map, reverse, length, filter, All, slice_index, slice_index_or, if◌then◌else◌}
use Rattle.std.specs.List.{list_any}
use Rattle.base.specs.Word.{bits}
use Rattle.base.specs.Lines.{text_of_lines, IsLine}
use Rattle.btor2.specs.declared.item.Item.{Item}
use Rattle.btor2.specs.declared.item.Body.{Body}
use Rattle.btor2.specs.Items.{is_input, is_state, is_bad, is_free}
use Rattle.btor2.specs.Trace.{bits_of}
use Rattle.btor2.specs.Symbols.{is_symbol}
pub use Rattle.btor2.specs.Symbols.{is_comment}

-- What a witness needs to know of a model: how many bad properties it has, the widths of its states and of its inputs, and which of the states are free,
-- in file order.
pub record Shape : Type 0 where
  pub bads : ℕ
  pub states : List ℕ
  pub free : List Bool
  pub inputs : List ℕ

-- the widths of the nodes of a kind
abbrev pub widths_of : (Body → Bool) → List Item → List ℕ
widths_of kind items = map (λ x. bits_of items x.id) (filter (λ x. kind x.body) items)

-- for each state whether it is free
abbrev pub free_of : List Item → List Bool
free_of items = map (λ x. is_free items x.id) (filter (λ x. is_state x.body) items)

abbrev pub shape_of : List Item → Shape
shape_of items =
    record {
      bads = length (filter (λ x. is_bad x.body) items);
      states = widths_of is_state items;
      free = free_of items;
      inputs = widths_of is_input items;
    }

-- the state with an index is there and free, and there is such a state
abbrev pub is_free_index : Shape → ℕ → Bool
is_free_index shape i = slice_index_or shape.free i false

abbrev pub has_free : Shape → Bool
has_free shape = list_any (λ b. b) shape.free

-- A word given to a state or an input, by its index; the name has no meaning.
pub record Assignment : Type 0 where
  pub index : ℕ
  pub word : ℕ
  pub symbol : Option (List ℕ)

-- What a witness says of one frame: the words that it gives to states, where it has a part for them, and those that it gives to inputs. In the first
-- frame any state may have one, in a later frame a free state alone.
pub record Parts : Type 0 where
  pub states : Option (List Assignment)
  pub inputs : List Assignment

-- What a witness says: the bad properties that it claims, and the parts of its frames.
pub record Witness : Type 0 where
  pub claims : List ℕ
  pub frames : List Parts

-- ---- how each part is written, byte by byte

-- the binary digits of a word, the highest first
abbrev pub digit : Bool → ℕ
digit b = if b then 49 else 48

abbrev pub binary : ℕ → ℕ → List ℕ
binary width word = map digit (reverse (bits width word))

abbrev pub symbol_part : Option (List ℕ) → List ℕ
symbol_part None = []
symbol_part (Some symbol) = 32 ∷ symbol

-- `<index> <value>` and, with a space between, a symbol
abbrev pub assignment_line : List ℕ → Assignment → List ℕ
assignment_line widths a = decimal a.index ++ 32 ∷ binary (slice_index widths a.index) a.word ++ symbol_part a.symbol

-- `b<i>`, with one space between
abbrev pub claim : ℕ → List ℕ
claim i = 98 ∷ decimal i

abbrev pub claims_line : List ℕ → List ℕ
claims_line [] = []
claims_line (i ∷ []) = claim i
claims_line (i ∷ j ∷ more) = claim i ++ 32 ∷ claims_line (j ∷ more)

-- the line `#<k>` and the words of states
abbrev pub states_lines : List ℕ → ℕ → Option (List Assignment) → List (List ℕ)
states_lines widths k None = []
states_lines widths k (Some list) = (35 ∷ decimal k) ∷ map (assignment_line widths) list

-- for frames from k on: the part of states, where there is one, the line `@<k>` and the inputs' words
abbrev pub frame_lines : Shape → ℕ → List Parts → List (List ℕ)
frame_lines shape k [] = []
frame_lines shape k (parts ∷ more) =
    states_lines shape.states k parts.states ++ ((64 ∷ decimal k) ∷ (map (assignment_line shape.inputs) parts.inputs ++ frame_lines shape (suc k) more))

-- all lines: comments, the status, the claims, the frames and the end
abbrev pub witness_lines : Shape → List (List ℕ) → Witness → List (List ℕ)
witness_lines shape comments w = comments ++ (codes "sat" ∷ (claims_line w.claims ∷ (frame_lines shape 0 w.frames ++ codes "." ∷ [])))

-- ---- what may be written

-- no number stands twice
abbrev pub are_distinct : List ℕ → Bool
are_distinct [] = true
are_distinct (x ∷ xs) = not (list_any (λ y. y == x) xs) && are_distinct xs

-- an assignment of a node that is there, by a word of its width
pub record IsAssignment (widths : List ℕ) (a : Assignment) : Type 0 where
  pub index : a.index < length widths
  pub word : a.word < 2 ^ slice_index widths a.index
  pub symbol : IfSome a.symbol (λ bytes. is_symbol bytes ≡ true)

-- the assignments of one part: no node has two
pub record IsPart (widths : List ℕ) (list : List Assignment) : Type 0 where
  pub each : All (IsAssignment widths) list
  pub distinct : are_distinct (map (λ a. a.index) list) ≡ true

-- the states' words in a later frame: there is a free state, and all of them are of free states
pub record IsFreePart (shape : Shape) (list : List Assignment) : Type 0 where
  pub some : has_free shape ≡ true
  pub part : IsPart shape.states list
  pub free : All (λ a. is_free_index shape a.index ≡ true) list

-- the parts of a frame: that of states, where there is one, is as it may be there
pub record AreParts (shape : Shape) (MayBe : List Assignment → Type 0) (parts : Parts) : Type 0 where
  pub states : IfSome parts.states MayBe
  pub inputs : IsPart shape.inputs parts.inputs

-- there is a first frame, and any number of later ones
abbrev pub AreFrames : Shape → List Parts → Type 0
AreFrames shape [] = ⊥
AreFrames shape (first ∷ later) = AreParts shape (IsPart shape.states) first × All (AreParts shape (IsFreePart shape)) later

-- what a witness may say over a model of this shape
pub record IsWitness (shape : Shape) (w : Witness) : Type 0 where
  pub some_claim : w.claims ≢ []
  pub claims : All (λ i. i < shape.bads) w.claims
  pub distinct : are_distinct w.claims ≡ true
  pub frames : AreFrames shape w.frames

-- The most lines of a witness.
abbrev pub most_lines : ℕ
most_lines = 2 ^ 62

-- a text says this: it is the lines of the witness, behind any comments
pub record Says (shape : Shape) (text : List ℕ) (w : Witness) : Type 0 where
  pub comments : List (List ℕ)
  pub lines : All IsLine comments
  pub marked : All (λ line. is_comment line ≡ true) comments
  pub whole : text ≡ text_of_lines (witness_lines shape comments w)
  pub valid : IsWitness shape w
  pub few : length (witness_lines shape comments w) ≤ most_lines
