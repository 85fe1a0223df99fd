-- What stands while the lines of a list with words of any width are fitted one after the other: of each line so far, whatever lines follow, and of all together.
use Rattle.std.specs.Prelude.{◌≡◌, ℕ, ◌^◌, ◌≤◌, Bool, true, false, ◌&&◌, ◌||◌, nat_le, nat_lt, List, [], ◌∷◌, ◌++◌, map, flat_map, Option, Some, None, IfSome, is_some, unwrap_or, option_and_then}
use Rattle.std.specs.List.{AllByRecursion, AllZip}
use Rattle.btor2.specs.declared.item.Item.{Item}
use Rattle.btor2.specs.declared.item.Body.{Body}
use Rattle.btor2.specs.declared.item.Body.TheVariants as body
use Rattle.btor2.specs.Items.{find_item, named_sort, node_sort, sort_bits, sort_width, constant_word, constant_of, names_state, is_input, is_state, is_bad, is_constraint, is_free, init_value, init_word, next_value}
use Rattle.btor2.specs.Check.{IsWellFormed, sort_is_missing, operand_is_missing, state_is_none, slice_is_out_of_range, widths_differ, constant_fits, init_is_not_constant, is_second_init, is_second_next}
use Rattle.btor2.specs.Trace.{Frame, line_word}
use Rattle.btor2.specs.Lists.{of_kind}
use Rattle.btor2.specs.Reachability.{nodes_of}
use Rattle.fit.specs.Fitting.{Layout, ids_of, is_output, IsInputPiece, Carries, init_words, NamesEarlierAfter}
use Rattle.pieces.specs.declared.node.Node.{Node}
use Rattle.pieces.specs.Nodes.{word_of, bits_in, MakesWord}
use Rattle.pieces.specs.Cuts.{widths, IsCut, IsWord}
use Rattle.pieces.specs.Constants.{AreConstants}
use Rattle.fitting.specs.Names.{IsNamed, word_names, shown_names, names_of}

-- what is kept of a wide list by its ids: the widths of sorts, and the nodes of words, the lowest first
pub record Table : Type 0 where
  pub sorts : ℕ → Option ℕ
  pub words : ℕ → List Node

abbrev pub node_ids : List Node → List ℕ
node_ids ps = map (λ (p : Node). p.id) ps

abbrev pub layout_by : (ℕ → List Node) → Layout
layout_by words id = node_ids (words id)

-- the frame of the wide list that a frame of the narrow one makes
abbrev pub words_in : (ℕ → List Node) → Frame → Frame
words_in words g id = word_of g (words id)

-- the words of constant nodes
abbrev pub constant_words : List Item → Frame
constant_words items id = unwrap_or (constant_of items id) 0

-- ---- lines that can be fitted

-- the greatest width of a word
abbrev pub most_bits : ℕ
most_bits = 4294967295

-- a sort's width is 1 to the greatest
abbrev pub HasWidth : Body → Type 0
HasWidth b = IfSome (sort_bits b) (λ n. (1 ≤ n) × (n ≤ most_bits))

-- a constant fits a sort of n bits as in a model of the profile, by any number of hexadecimal digits
abbrev pub constant_fits_word : ℕ → Body → Bool
constant_fits_word n (body.Consth s d v) = nat_le 1 d && (nat_lt v (2 ^ n) && nat_lt v (16 ^ d))
constant_fits_word n b = constant_fits n b

-- A line of a list whose words may be so wide, after the lines before it: the rows of a model of the profile, but for those of the width of a sort, of the number of
-- hexadecimal digits, of the number of items, and of justice lines.
pub record IsSoundLine (wide : List Item) (x : Item) : Type 0 where
  pub fresh : find_item wide x.id ≡ None
  pub sort : sort_is_missing wide x.body ≡ false
  pub operands : operand_is_missing wide x.body ≡ false
  pub state : state_is_none wide x.body ≡ false
  pub width : HasWidth x.body
  pub slice : slice_is_out_of_range wide x.body ≡ false
  pub widths : widths_differ wide x.body ≡ false
  pub constant : constant_fits_word (unwrap_or (option_and_then (sort_width wide) (named_sort x.body)) 0) x.body ≡ true
  pub init : init_is_not_constant wide x.body ≡ false
  pub first_init : is_second_init wide x.body ≡ false
  pub first_next : is_second_next wide x.body ≡ false

-- nodes have the width of a line, and in each frame the word that it gives for the words of its operands
pub record IsWordOfLine (wide : List Item) (words : ℕ → List Node) (narrow : List Item) (x : Item) (rs : List Node) : Type 0 where
  pub bits : ℕ
  pub value : Frame → ℕ
  pub sort : ℕ
  pub names : node_sort x.body ≡ Some sort
  pub wide_sort : sort_width wide sort ≡ Some bits
  pub makes : MakesWord narrow bits value rs
  pub cut : IsCut 64 (widths rs)
  pub says : (state input g : Frame) → line_word (wide ++ x ∷ []) state input (words_in words g) x.id x.body ≡ Some (value g)

-- ---- what stands of a line

-- lists and a table go on where others end: what the table has of earlier lines stays
pub record GoesOn (wide : List Item) (table : Table) (narrow wide' : List Item) (table' : Table) (narrow' : List Item) : Type 0 where
  pub more : List Item
  pub wide_is : wide' ≡ wide ++ more
  pub lines : List Item
  pub narrow_is : narrow' ≡ narrow ++ lines
  pub sorts : (id : ℕ) → is_some (find_item wide id) ≡ true → table'.sorts id ≡ table.sorts id
  pub words : (id : ℕ) → is_some (find_item wide id) ≡ true → table'.words id ≡ table.words id

-- a line that is no state's is carried, whatever lines follow
abbrev pub IsSettled : List Item → Table → List Item → Item → Type 0
IsSettled wide table narrow x =
    (wide' : List Item) (table' : Table) (narrow' : List Item) → GoesOn wide table narrow wide' table' narrow' → IsWellFormed narrow' → is_state x.body ≡ false
    → Carries wide' (layout_by table'.words) narrow' x

-- the table has the nodes of a word, of the width of its sort
pub record HasWord (wide : List Item) (words : ℕ → List Node) (narrow : List Item) (id sort : ℕ) : Type 0 where
  pub bits : ℕ
  pub width : sort_width wide sort ≡ Some bits
  pub word : IsWord narrow (words id)
  pub has_bits : bits_in (words id) ≡ bits

-- nodes of constants make a word
pub record AreConstantsOf (narrow : List Item) (w : ℕ) (ps : List Node) : Type 0 where
  pub constants : AreConstants narrow ps
  pub word : word_of (constant_words narrow) ps ≡ w

-- the nodes of a state begin with the words of constants, which make that of the init line's node
abbrev pub InitIsMade : List Item → (ℕ → List Node) → List Item → Body → Type 0
InitIsMade wide words narrow (body.Init s t v) =
    AllByRecursion (λ (p : Node). is_some (init_word narrow p.id) ≡ true) (words t) × (constant_of wide v ≡ Some (word_of (init_words narrow) (words t)))
InitIsMade wide words narrow _ = Unit {0}

-- the nodes of a state take those of its next node
abbrev pub TakesNode : List Item → Node → Node → Type 0
TakesNode narrow p q = next_value narrow p.id ≡ Some q.id

abbrev pub NextIsMade : (ℕ → List Node) → List Item → Body → Type 0
NextIsMade words narrow (body.Next s t v) = AllZip (TakesNode narrow) (words t) (words v)
NextIsMade words narrow _ = Unit {0}

abbrev pub is_leaf : Item → Bool
is_leaf x = is_input x.body || is_state x.body

-- nodes have names
abbrev pub HaveNames : List Item → List Node → List (Option (List ℕ)) → Type 0
HaveNames narrow ps names = AllZip (λ (p : Node) (name : Option (List ℕ)). IsNamed narrow p.id name) ps names

pub record LineStands (wide : List Item) (table : Table) (narrow : List Item) (x : Item) : Type 0 where
  pub found : find_item wide x.id ≡ Some x
  pub sort : IfSome (sort_bits x.body) (λ n. (table.sorts x.id ≡ Some n) × ((1 ≤ n) × (n ≤ most_bits)))
  pub value : IfSome (node_sort x.body) (HasWord wide table.words narrow x.id)
  pub constant : IfSome (constant_word (bits_in (table.words x.id)) x.body) (λ w. AreConstantsOf narrow w (table.words x.id))
  pub state : is_state x.body ≡ true → AllByRecursion (λ (p : Node). names_state narrow p.id ≡ true) (table.words x.id)
  pub input : is_input x.body ≡ true → AllByRecursion (λ (p : Node). IsInputPiece narrow p.id) (table.words x.id)
  pub names : is_leaf x ≡ true → HaveNames narrow (table.words x.id) (word_names x.symbol (widths (table.words x.id)))
  pub init : InitIsMade wide table.words narrow x.body
  pub next : NextIsMade table.words narrow x.body
  pub settled : IsSettled wide table narrow x

-- ---- what stands of all

abbrev pub leaf_ids : List Item → List ℕ
leaf_ids items = ids_of is_leaf items

-- a leaf of which no line says what it is at first, or what it takes next, has pieces of which no line does
abbrev pub Lacks : (List Item → ℕ → Option ℕ) → List Item → (ℕ → List Node) → List Item → ℕ → Type 0
Lacks says wide words narrow id = says wide id ≡ None → AllByRecursion (λ (p : Node). says narrow p.id ≡ None) (words id)

-- A list is fitted so far: by a table into a narrow list.
pub record IsFitted (wide : List Item) (table : Table) (narrow : List Item) : Type 0 where
  pub ordered : NamesEarlierAfter [] wide
  pub stand : AllByRecursion (LineStands wide table narrow) wide
  pub owned : (id : ℕ) → names_state wide id ≡ false → is_free wide id ≡ true
  pub leaves : flat_map (layout_by table.words) (leaf_ids wide) ≡ leaf_ids narrow
  pub no_inits : AllByRecursion (Lacks init_value wide table.words narrow) (leaf_ids wide)
  pub no_nexts : AllByRecursion (Lacks next_value wide table.words narrow) (leaf_ids wide)
  pub outputs : flat_map (layout_by table.words) (nodes_of is_output wide) ≡ nodes_of is_output narrow
  pub bads : map (layout_by table.words) (nodes_of is_bad wide) ≡ map (λ p. p ∷ []) (nodes_of is_bad narrow)
  pub constraints : map (layout_by table.words) (nodes_of is_constraint wide) ≡ map (λ p. p ∷ []) (nodes_of is_constraint narrow)
  pub output_names : flat_map (shown_names (λ a. widths (table.words a))) (of_kind is_output wide) ≡ names_of is_output narrow
  pub bad_names : names_of is_bad wide ≡ names_of is_bad narrow
  pub constraint_names : names_of is_constraint wide ≡ names_of is_constraint narrow
