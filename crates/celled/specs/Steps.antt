-- The lines that the list with cells gets for a line.
use Rattle.std.specs.Prelude.{◌≡◌, ℕ, zero, suc, ◌+◌, ◌*◌, ◌<◌, ◌==◌, if◌then◌else◌, Bool, true, List, [], ◌∷◌, ◌++◌, length, take, get_or, Option, Some, None, unwrap_or}
use Rattle.std.specs.List.{AllByRecursion}
use Rattle.btor2.specs.declared.item.Item.{Item}
use Rattle.btor2.specs.declared.item.Body.{Body}
use Rattle.btor2.specs.declared.item.Body.TheVariants as body
use Rattle.btor2.specs.Items.{find_item, sort_width, node_width, width_of_body, constant_of, init_word, init_value, next_value, names_state, is_input, is_state}
use Rattle.full.specs.Cells.{read_value}
use Rattle.full.specs.Gives.{GivesWord}
use Rattle.fit.specs.Fitting.{pieces_word}
use Rattle.fitting.specs.Fitted.{is_leaf}
use Rattle.fitting.specs.Models.{input_ids, state_ids}
use Rattle.fitting.specs.Steps.{leaf_body}
use Rattle.cells.specs.Lines.{named, is_plain, ArePlain}
use Rattle.celled.specs.Celled.{IsWordOfCells}
use Rattle.celled.specs.Names.{cell_symbol}
use Rattle.celled.specs.Spots.{Spots, ids_from}
use Rattle.celled.specs.declared.table.Spot.{Spot}
use Rattle.celled.specs.Split.{IsSplit}

-- the lines before one and behind it, and the cells of the leaves before it
pub record At : Type 0 where
  pub front : List Item
  pub after : List Item
  pub inputs : List ℕ
  pub states : List ℕ

-- the cells of a line of a kind
abbrev pub size_by : (Body → Bool) → Item → ℕ → List ℕ
size_by kind x size = if kind x.body then size ∷ [] else []

-- a leaf is a word of cells of so many bits
abbrev pub HasSize : List Item → Item → ℕ → Type 0
HasSize front x size = is_leaf x ≡ true → IsWordOfCells (unwrap_or (width_of_body front x.body) 0) size

-- a line with one cell stays as it is: a leaf whose cells are as wide as it is, and the init and the next line of one cell
abbrev pub IsSingle : List Item → Spots → ℕ → Body → Type 0
IsSingle front t size (body.Input s) = sort_width front s ≡ Some size
IsSingle front t size (body.State s) = sort_width front s ≡ Some size
IsSingle front t size (body.Init s id v) = t.count id ≡ 1
IsSingle front t size (body.Next s id v) = t.count id ≡ 1
IsSingle front t size _ = Unit {0}

-- the list goes on by a line whose cells, if it is a leaf, have so many bits
abbrev pub IsSplitOn : At → Item → ℕ → Spots → List Item → Type 0
IsSplitOn at x size t celled = IsSplit (at.front ++ x ∷ []) t celled (at.inputs ++ size_by is_input x size) (at.states ++ size_by is_state x size)

-- the init line of a state of several cells, by the line of a constant and where the state stands
abbrev pub IsInitBy : List Item → Spots → Body → Item → Spot → ℕ → Type 0
IsInitBy front t (body.Init s id v) constant spot width =
    (find_item front v ≡ Some constant) × (spot.first ≡ t.first id) × (spot.count ≡ t.count id) × ((spot.count ≡ 1) → ⊥) × (node_width front id ≡ Some width)
IsInitBy front t _ constant spot width = ⊥

-- its next line, by the node of the word that it takes
abbrev pub IsNextBy : List Item → Spots → Body → ℕ → Spot → ℕ → Type 0
IsNextBy front t (body.Next s id v) node spot width =
    (t.node v ≡ node) × (spot.first ≡ t.first id) × (spot.count ≡ t.count id) × ((spot.count ≡ 1) → ⊥) × (node_width front id ≡ Some width)
IsNextBy front t _ node spot width = ⊥

-- ---- one line

-- a line is added
pub record IsPut (old new : List Item) (id : ℕ) (symbol : Option (List ℕ)) (b : Body) : Type 0 where
  pub is : new ≡ old ++ named id symbol b ∷ []
  pub next : id ≡ length old + 1
  pub fresh : find_item old id ≡ None

-- a line with an id stands somewhere now, and the others where they stood
pub record IsSpotted (t t' : Spots) (id node first count line : ℕ) : Type 0 where
  pub node_at : (k : ℕ) → t'.node k ≡ (if k == id then node else t.node k)
  pub first_at : (k : ℕ) → t'.first k ≡ (if k == id then first else t.first k)
  pub count_at : (k : ℕ) → t'.count k ≡ (if k == id then count else t.count k)
  pub line_at : (k : ℕ) → t'.line k ≡ (if k == id then line else t.line k)

-- ---- lists that go on

-- by plain lines
pub record GrowsPlain (old new : List Item) : Type 0 where
  pub more : List Item
  pub is : new ≡ old ++ more
  pub plain : ArePlain more

-- ---- the cells of a leaf

-- so many inputs, or states, of a sort, from an id on, with the names of cells from an index on
abbrev pub cell_lines : Bool → ℕ → Option (List ℕ) → ℕ → ℕ → ℕ → List Item
cell_lines input s symbol id index zero = []
cell_lines input s symbol id index (suc n) = named id (cell_symbol symbol index) (leaf_body input s) ∷ cell_lines input s symbol (suc id) (suc index) n

-- an array is added: its cells behind plain lines, and behind them plain lines, of which one has its whole word
pub record IsArray (old new : List Item) (input : Bool) (symbol : Option (List ℕ)) (node first count size : ℕ) : Type 0 where
  pub before : List Item
  pub grows : GrowsPlain old before
  pub sort : ℕ
  pub width : sort_width before sort ≡ Some size
  pub is_first : first ≡ length before + 1
  pub behind : GrowsPlain (before ++ cell_lines input sort symbol first 0 count) new
  pub whole : GivesWord new (count * size) (λ g. pieces_word (λ p. size) g (ids_from first count)) node

-- nodes have so many bits each
abbrev pub HaveSize : List Item → ℕ → List ℕ → Type 0
HaveSize items size ps = AllByRecursion (λ p. node_width items p ≡ Some size) ps

-- ---- the init lines of cells

-- a plain line, or an init line of one of some cells
abbrev pub IsInitOf : ℕ → ℕ → Body → Type 0
IsInitOf first count (body.Init s p c) = (i : ℕ) × (i < count) × (p ≡ first + i)
IsInitOf first count b = is_plain b ≡ true

-- so many cells have init lines, by the words of the cells of a number
pub record InitsPut (old new : List Item) (first count size number : ℕ) : Type 0 where
  pub more : List Item
  pub is : new ≡ old ++ more
  pub quiet : AllByRecursion (λ (y : Item). IsInitOf first count y.body) more
  pub begins : (i : ℕ) → i < count → init_word new (first + i) ≡ Some (read_value size number i)

-- a state without an init line, and cells that are
abbrev pub IsOpen : List Item → ℕ → Type 0
IsOpen items p = (names_state items p ≡ true) × (init_value items p ≡ None)

abbrev pub AreOpen : List Item → ℕ → ℕ → Type 0
AreOpen items first count = (i : ℕ) → i < count → IsOpen items (first + i)

-- a constant of so many bits is added, and the init line of a state by one
pub record ConstantPut (old new : List Item) (id size word : ℕ) : Type 0 where
  pub sort : ℕ
  pub is : new ≡ old ++ named id None (body.Const sort size word) ∷ []
  pub fresh : find_item old id ≡ None
  pub width : node_width new id ≡ Some size
  pub says : constant_of new id ≡ Some word

pub record InitPut (old new : List Item) (p word : ℕ) : Type 0 where
  pub constant : Item
  pub plain : is_plain constant.body ≡ true
  pub id : ℕ
  pub sort : ℕ
  pub value : ℕ
  pub is : new ≡ old ++ constant ∷ named id None (body.Init sort p value) ∷ []
  pub begins : init_word new p ≡ Some word

-- ---- their next lines

-- a plain line, or a next line of one of some cells
abbrev pub IsNextOf : ℕ → ℕ → Body → Type 0
IsNextOf first count (body.Next s p q) = (i : ℕ) × (i < count) × (p ≡ first + i)
IsNextOf first count b = is_plain b ≡ true

-- a node has the word of a cell of a node
pub record TakesCell (items : List Item) (p size v index : ℕ) : Type 0 where
  pub node : ℕ
  pub next : next_value items p ≡ Some node
  pub word : GivesWord items size (λ g. read_value size (g v) index) node

-- so many cells have next lines, by the words of the cells of a node
pub record NextsPut (old new : List Item) (first count size v : ℕ) : Type 0 where
  pub more : List Item
  pub is : new ≡ old ++ more
  pub quiet : AllByRecursion (λ (y : Item). IsNextOf first count y.body) more
  pub takes : (i : ℕ) → i < count → TakesCell new (first + i) size v i

-- a state without a next line, and cells that are
abbrev pub IsLoose : List Item → ℕ → Type 0
IsLoose items p = (names_state items p ≡ true) × (next_value items p ≡ None)

abbrev pub AreLoose : List Item → ℕ → ℕ → Type 0
AreLoose items first count = (i : ℕ) → i < count → IsLoose items (first + i)

-- the next line of a state is added, behind plain lines
pub record NextPut (old new : List Item) (p size v index : ℕ) : Type 0 where
  pub before : List Item
  pub grows : GrowsPlain old before
  pub id : ℕ
  pub sort : ℕ
  pub value : ℕ
  pub is : new ≡ before ++ named id None (body.Next sort p value) ∷ []
  pub takes : TakesCell new p size v index

-- ---- the cells of the leaves, in file order

-- the bits of a cell of a line behind so many inputs and states
abbrev pub SizeIs : Body → List ℕ → List ℕ → ℕ → ℕ → ℕ → Type 0
SizeIs (body.Input s) inputs states i j size = size ≡ get_or inputs i 0
SizeIs (body.State s) inputs states i j size = size ≡ get_or states j 0
SizeIs _ inputs states i j size = Unit {0}

-- how many there are with it
abbrev pub SeenBy : Body → ℕ → ℕ → ℕ → ℕ → Type 0
SeenBy (body.Input s) i j i' j' = (i' ≡ i + 1) × (j' ≡ j)
SeenBy (body.State s) i j i' j' = (i' ≡ i) × (j' ≡ j + 1)
SeenBy _ i j i' j' = (i' ≡ i) × (j' ≡ j)

-- the lines before a place are written, and so many inputs and states are among them
pub record IsSplitTo (wide : List Item) (inputs states : List ℕ) (place i j : ℕ) (t : Spots) (celled : List Item) : Type 0 where
  pub split : IsSplit (take place wide) t celled (take i inputs) (take j states)
  pub inputs_before : i ≡ length (input_ids (take place wide))
  pub states_before : j ≡ length (state_ids (take place wide))
