-- Frames and traces of a model ("Btor2, BtorMC and Boolector 3.0", semantics of sequential models).
-- A frame is a function from ids to words, and means something at nodes with a value. In each frame the words of the inputs and of the free states are
-- given anew; the words of the other states are carried from the frame before.
use Rattle.std.specs.Prelude.{◌≡◌, ℕ, ◌<◌, ◌^◌, true, false, List, [], ◌∷◌, Option, Some, IfSome, option_map, unwrap_or, is_some, if◌then◌else◌}
use Rattle.std.specs.List.{AllByRecursion, AllZip}
use Rattle.base.specs.Operator.{unary_value, binary_value, ite_value, slice_value, uext_value, sext_value, concat_value}
use Rattle.btor2.specs.declared.item.Item.{Item}
use Rattle.btor2.specs.declared.item.Body.{Body}
use Rattle.btor2.specs.declared.item.Body.TheVariants as body
use Rattle.btor2.specs.Items.{node_width, constant_word, constant_of, next_value, is_free}

abbrev pub Frame : Type 0
Frame = ℕ → ℕ

-- the width of a node
abbrev pub bits_of : List Item → ℕ → ℕ
bits_of items id = unwrap_or (node_width items id) 0

-- the word of a state in a frame: a free one has the word that is given, any other the word that is carried
abbrev pub state_word : List Item → Frame → Frame → ℕ → ℕ
state_word items state input id = if is_free items id then input id else state id

-- The word that a line gives its node in a frame, where `state` has the words that are carried and `input` those that are given:
-- a leaf has its word of these, a constant its value, an operator what it gives for its operands' words.
abbrev pub line_word : List Item → Frame → Frame → Frame → ℕ → Body → Option ℕ
line_word items state input f id (body.Input s) = Some (input id)
line_word items state input f id (body.State s) = Some (state_word items state input id)
line_word items state input f id (body.Uext s a by) = Some (uext_value (f a))
line_word items state input f id (body.Sext s a by) = Some (sext_value (bits_of items a) (f a) by)
line_word items state input f id (body.Slice s a u l) = Some (slice_value (f a) u l)
line_word items state input f id (body.Unary op s a) = Some (unary_value op (bits_of items a) (f a))
line_word items state input f id (body.Binary op s a b) = Some (binary_value op (bits_of items a) (f a) (f b))
line_word items state input f id (body.Concat s a b) = Some (concat_value (f a) (bits_of items b) (f b))
line_word items state input f id (body.Ite s c t e) = Some (ite_value (f c) (f t) (f e))
line_word items state input f id b = constant_word (bits_of items id) b

-- what a line says of a frame: its node has the word that the line gives it
abbrev pub LineHolds : List Item → Frame → Frame → Frame → ℕ → Body → Type 0
LineHolds items state input f id b = IfSome (line_word items state input f id b) (λ w. f id ≡ w)

-- a frame of a model from carried words and given words: each line holds
abbrev pub IsFrame : List Item → Frame → Frame → Frame → Type 0
IsFrame items state input f = AllByRecursion (λ (x : Item). LineHolds items state input f x.id x.body) items

-- the words that are carried into the frame after f: each state has the word of its next node
abbrev pub next_state : List Item → Frame → Frame
next_state items f id = unwrap_or (option_map f (next_value items id)) 0

-- a trace: as many frames as there are given words for, each from the state that the one before leaves
abbrev pub IsTrace : List Item → Frame → List Frame → List Frame → Type 0
IsTrace items state [] [] = Unit {0}
IsTrace items state [] (f ∷ fs) = ⊥
IsTrace items state (input ∷ inputs) [] = ⊥
IsTrace items state (input ∷ inputs) (f ∷ fs) = IsFrame items state input f × IsTrace items (next_state items f) inputs fs

-- a word that is given, to an input or a free state, is below 2 to its width
abbrev pub InputFits : List Item → Frame → ℕ → Body → Type 0
InputFits items input id (body.Input s) = input id < 2 ^ bits_of items id
InputFits items input id (body.State s) = is_free items id ≡ true → input id < 2 ^ bits_of items id
InputFits items input id _ = Unit {0}

-- so is a word that is carried, by any other state
abbrev pub StateFits : List Item → Frame → ℕ → Body → Type 0
StateFits items state id (body.State s) = is_free items id ≡ false → state id < 2 ^ bits_of items id
StateFits items state id _ = Unit {0}

-- what an init line asks of the initial words: the state has the word of the constant
abbrev pub InitHolds : List Item → Frame → Body → Type 0
InitHolds items state (body.Init s t v) = constant_of items v ≡ Some (state t)
InitHolds items state _ = Unit {0}

-- words for the inputs and the free states of one frame
abbrev pub IsInput : List Item → Frame → Type 0
IsInput items input = AllByRecursion (λ (x : Item). InputFits items input x.id x.body) items

-- words for the states that are carried, and those of them that agree with the init lines
abbrev pub IsState : List Item → Frame → Type 0
IsState items state = AllByRecursion (λ (x : Item). StateFits items state x.id x.body) items

pub record IsInitial (items : List Item) (state : Frame) : Type 0 where
  pub fits : IsState items state
  pub inits : AllByRecursion (λ (x : Item). InitHolds items state x.body) items

-- two frames have the same word at each node with a value, and two traces the same frames
abbrev pub SameFrame : List Item → Frame → Frame → Type 0
SameFrame items f g = (id : ℕ) → is_some (node_width items id) ≡ true → f id ≡ g id

abbrev pub SameTrace : List Item → List Frame → List Frame → Type 0
SameTrace items fs gs = AllZip (SameFrame items) fs gs
