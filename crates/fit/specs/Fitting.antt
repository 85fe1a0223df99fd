-- A list of items with words of any width is fitted into one with narrower words: a node of the first is a list of nodes of the second, its pieces, the lowest
-- first, whose words one behind the other are the node's word ("Btor2, BtorMC and Boolector 3.0", table of operators: `concat` puts words one behind the other).
-- Both lists have one meaning, that of `Trace.antt` of `btor2`, which bounds no width. The second is a model of words of up to the greatest width that is read;
-- that it is one of the profile says `IsFit` of `fitting`.
use Rattle.std.specs.Prelude.{◌≡◌, ℕ, ◌+◌, Bool, true, false, ◌||◌, List, [], ◌∷◌, ◌++◌, map, flat_map, filter, Option, Some, None, is_some, unwrap_or}
use Rattle.std.specs.List.{AllByRecursion, AllZip}
use Rattle.base.specs.Operator.{concat_value}
use Rattle.btor2.specs.declared.item.Item.{Item}
use Rattle.btor2.specs.declared.item.Body.{Body}
use Rattle.btor2.specs.declared.item.Body.TheVariants as body
use Rattle.btor2.specs.Items.{find_item, names_state, is_free, is_input, is_bad, is_constraint, is_free_state, is_carried_state, constant_of, init_value, init_word, next_value}
use Rattle.btor2.specs.Check.{operand_is_missing}
use Rattle.btor2.specs.Trace.{Frame, bits_of, LineHolds, IsFrame, IsTrace, IsInput, IsState}
use Rattle.btor2.specs.Reachability.{nodes_of, model_shows}
use Rattle.wide.specs.WideModels.{greatest_width, IsWideModel}

-- of each node of the wide list, by its id, the ids of its pieces in the narrow one, the lowest first
abbrev pub Layout : Type 0
Layout = ℕ → List ℕ

-- the word that pieces make in a frame, each of a width by its id
abbrev pub pieces_word : (ℕ → ℕ) → Frame → List ℕ → ℕ
pieces_word width g [] = 0
pieces_word width g (p ∷ ps) = concat_value (pieces_word width g ps) (width p) (g p)

-- how many bits they have together
abbrev pub pieces_width : (ℕ → ℕ) → List ℕ → ℕ
pieces_width width [] = 0
pieces_width width (p ∷ ps) = pieces_width width ps + width p

-- the frame of the wide list that a frame of the narrow one makes
abbrev pub joined : List Item → Layout → Frame → Frame
joined narrow layout g id = pieces_word (bits_of narrow) g (layout id)

-- the leaves whose words are given anew in each frame, inputs and free states, and those whose words are carried from frame to frame, in file order
abbrev pub is_given : List Item → Item → Bool
is_given items x = is_input x.body || is_free_state items x

abbrev pub ids_of : (Item → Bool) → List Item → List ℕ
ids_of kind xs = map (λ x. x.id) (filter kind xs)

abbrev pub given_ids : List Item → List ℕ
given_ids items = ids_of (is_given items) items

abbrev pub carried_ids : List Item → List ℕ
carried_ids items = ids_of (is_carried_state items) items

-- whether a body is an output line
abbrev pub is_output : Body → Bool
is_output (body.Output a) = true
is_output _ = false

-- each item names earlier nodes that have a value
abbrev pub NamesEarlierAfter : List Item → List Item → Type 0
NamesEarlierAfter before [] = Unit {0}
NamesEarlierAfter before (x ∷ xs) = (operand_is_missing before x.body ≡ false) × NamesEarlierAfter (before ++ x ∷ []) xs

-- a leaf is as wide as its pieces are together
abbrev pub HasWidthOfPieces : List Item → Layout → List Item → ℕ → Type 0
HasWidthOfPieces wide layout narrow id = bits_of wide id ≡ pieces_width (bits_of narrow) (layout id)

-- a line of the wide list is carried by the narrow one: in each frame of the narrow list, from words that fit, the line holds of the words that the pieces make
abbrev pub Carries : List Item → Layout → List Item → Item → Type 0
Carries wide layout narrow x =
    (state input g : Frame) → IsState narrow state → IsInput narrow input → IsFrame narrow state input g
    → LineHolds wide (joined narrow layout state) (joined narrow layout input) (joined narrow layout g) x.id x.body

-- the words that the states of a list begin with, 0 where there is no init line
abbrev pub init_words : List Item → Frame
init_words items id = unwrap_or (init_word items id) 0

-- what an init line of the wide list asks its state to be, init lines of the narrow one ask of the state's pieces
abbrev pub InitIsCarried : List Item → Layout → List Item → Body → Type 0
InitIsCarried wide layout narrow (body.Init s t v) =
    AllByRecursion (λ p. is_some (init_word narrow p) ≡ true) (layout t) × (constant_of wide v ≡ Some (joined narrow layout (init_words narrow) t))
InitIsCarried wide layout narrow _ = Unit {0}

-- a state without an init line has pieces without one
abbrev pub AbsenceIsCarried : List Item → Layout → List Item → ℕ → Type 0
AbsenceIsCarried wide layout narrow id = init_value wide id ≡ None → AllByRecursion (λ p. init_value narrow p ≡ None) (layout id)

-- the pieces of a state take the pieces of its next node, and none where it has none
abbrev pub next_pieces : Layout → Option ℕ → List ℕ → List (Option ℕ)
next_pieces layout None ps = map (λ p. None) ps
next_pieces layout (Some v) ps = map (λ q. Some q) (layout v)

abbrev pub NextIsByPieces : List Item → Layout → List Item → ℕ → Type 0
NextIsByPieces wide layout narrow id = map (next_value narrow) (layout id) ≡ next_pieces layout (next_value wide id) (layout id)

-- nodes of the narrow list make the word of a node of the wide one: in each frame of the narrow list, from words that fit, that which its pieces make
abbrev pub MakesNode : Layout → List Item → ℕ → List ℕ → Type 0
MakesNode layout narrow v nodes =
    (state input g : Frame) → IsState narrow state → IsInput narrow input → IsFrame narrow state input g → pieces_word (bits_of narrow) g nodes ≡ joined narrow layout g v

-- more widely, the pieces of a state take nodes that make the word of its next node, and none where it has none
abbrev pub TakesNext : Layout → List Item → Option ℕ → List ℕ → Type 0
TakesNext layout narrow None ps = map (next_value narrow) ps ≡ map (λ p. None) ps
TakesNext layout narrow (Some v) ps = (nodes : List ℕ) × (map (next_value narrow) ps ≡ map (λ q. Some q) nodes) × MakesNode layout narrow v nodes

abbrev pub NextIsCarried : List Item → Layout → List Item → ℕ → Type 0
NextIsCarried wide layout narrow id = TakesNext layout narrow (next_value wide id) (layout id)

-- the outputs of the narrow list, in file order, are nodes that make the words of the outputs of the wide one, one behind the other
abbrev pub OutputsAreCarried : List Item → Layout → List Item → Type 0
OutputsAreCarried wide layout narrow =
    (nodes : List (List ℕ)) × (flat_map (λ ps. ps) nodes ≡ nodes_of is_output narrow) × AllZip (MakesNode layout narrow) (nodes_of is_output wide) nodes

-- A list is fitted into one with narrower words, by a layout.
pub record IsFittingOf (wide : List Item) (layout : Layout) (narrow : List Item) : Type 0 where
  -- the one names earlier nodes alone, the other is a model
  pub ordered : NamesEarlierAfter [] wide
  pub well_formed : IsWideModel greatest_width narrow
  -- the leaves of the narrow list are the pieces of the leaves of the wide one, in file order, and no others
  pub given : flat_map layout (given_ids wide) ≡ given_ids narrow
  pub carried : flat_map layout (carried_ids wide) ≡ carried_ids narrow
  pub given_widths : AllByRecursion (HasWidthOfPieces wide layout narrow) (given_ids wide)
  pub carried_widths : AllByRecursion (HasWidthOfPieces wide layout narrow) (carried_ids wide)
  -- each line is carried, as are init lines and next lines
  pub lines : AllByRecursion (Carries wide layout narrow) wide
  pub inits : AllByRecursion (λ x. InitIsCarried wide layout narrow x.body) wide
  pub no_other_inits : AllByRecursion (AbsenceIsCarried wide layout narrow) (carried_ids wide)
  pub nexts : AllByRecursion (NextIsCarried wide layout narrow) (carried_ids wide)
  -- outputs show the words of outputs
  pub outputs : OutputsAreCarried wide layout narrow
  -- the nodes of bad properties and of constraints are one piece each
  pub bads : map layout (nodes_of is_bad wide) ≡ map (λ p. p ∷ []) (nodes_of is_bad narrow)
  pub constraints : map layout (nodes_of is_constraint wide) ≡ map (λ p. p ∷ []) (nodes_of is_constraint narrow)

-- a piece of an input is an input, and a piece of a state a state that is free or not, as the other is
abbrev pub IsInputPiece : List Item → ℕ → Type 0
IsInputPiece narrow p = (y : Item) × (find_item narrow p ≡ Some y) × (is_input y.body ≡ true)

abbrev pub IsStatePiece : List Item → Bool → ℕ → Type 0
IsStatePiece narrow free p = (names_state narrow p ≡ true) × (is_free narrow p ≡ free)

-- ---- traces of both

-- words that fit are given over the narrow list, and make those that are given over the wide one
abbrev pub MakesInput : List Item → Layout → List Item → Frame → Frame → Type 0
MakesInput wide layout narrow i j = IsInput narrow j × AllByRecursion (λ k. joined narrow layout j k ≡ i k) (given_ids wide)

-- so of the words that states begin with
abbrev pub MakesState : List Item → Layout → List Item → Frame → Frame → Type 0
MakesState wide layout narrow s t = IsState narrow t × AllByRecursion (λ k. joined narrow layout t k ≡ s k) (carried_ids wide)

-- a trace of the narrow list from given words that shows the same
abbrev pub ShownBelow : List Item → List Item → Frame → List Frame → List Frame → Type 0
ShownBelow wide narrow t inputs fs = (gs : List Frame) × IsTrace narrow t inputs gs × (map (model_shows narrow) gs ≡ map (model_shows wide) fs)
