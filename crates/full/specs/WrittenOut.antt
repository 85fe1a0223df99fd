-- A model written out as a list of wide items: without arrays, operands with a minus, and inits that are no constants.
-- Both lists have their own meaning, that of `Runs.antt` and that of `Trace.antt` of `btor2`, which bounds no width.
use Rattle.std.specs.Prelude.{◌≡◌, ℕ, ◌%◌, ◌^◌, if◌then◌else◌, Bool, true, false, List, [], ◌∷◌, ◌++◌, map, Option, Some, None, IfSome, is_some, ◌==◌, ◌⊎◌}
use Rattle.std.specs.List.{AllByRecursion, AllZip}
use Rattle.btor2.specs.declared.item.Item.{Item}
use Rattle.btor2.specs.declared.item.Body.{Body}
use Rattle.btor2.specs.declared.item.Body.TheVariants as body
use Rattle.btor2.specs.Items.{find_item, node_sort, operands, names_state, is_input, is_state, is_bad, is_constraint, constant_of, init_value, init_word, next_value}
use Rattle.btor2.specs.Trace.{Frame, bits_of, IsFrame, IsInput, IsState}
use Rattle.btor2.specs.Lists.{of_kind}
use Rattle.btor2.specs.Reachability.{nodes_of}
use Rattle.wide.specs.WideModels.{greatest_width, IsWideModel}
use Rattle.full.specs.Lines.{Operand, Says, form, FullLine, full_nodes, full_ids, width_of, AtInit, AtNext, init_of, next_of}
use Rattle.full.specs.Agreement.{names_full_state, IsFullModel}
use Rattle.full.specs.Runs.{operand_word, first_word, LineSays}

-- Where the parts of a model stand in the wide list: the node that has the word of each node; the state of each state; of each leaf of the wide list, the leaf
-- of the model whose it is; and the state of one bit that is 1 in the first frame alone, where there is one.
pub record Places : Type 0 where
  pub node : ℕ → ℕ
  pub leaf : ℕ → ℕ
  pub source : ℕ → ℕ
  pub first : Option ℕ

-- the frame of the model that a frame of the wide list makes
abbrev pub read_by : Places → Frame → Frame
read_by p g id = g (p.node id)

-- something holds of each frame of the wide list from words that fit
abbrev pub InFrames : List Item → (Frame → Type 0) → Type 0
InFrames wide Of = (state input g : Frame) → IsState wide state → IsInput wide input → IsFrame wide state input g → Of g

-- a line of the model is carried: it holds in each such frame, of the words that the frame makes
abbrev pub IsCarried : List FullLine → Places → List Item → FullLine → Type 0
IsCarried full p wide x = InFrames wide (λ g. LineSays full (read_by p g) x.id x.says)

-- a node of the wide list has the word of an operand, and the word that a state begins with
abbrev pub HasWord : List FullLine → Places → List Item → Operand → ℕ → Type 0
HasWord full p wide o w = InFrames wide (λ g. g w ≡ operand_word full (read_by p g) o)

abbrev pub HasFirstWord : List FullLine → Places → List Item → ℕ → Operand → ℕ → Type 0
HasFirstWord full p wide id o w = InFrames wide (λ g. g w ≡ first_word full (read_by p g) id o)

-- ---- leaves

-- the item with an id says this
abbrev pub Stands : List Item → ℕ → Body → Type 0
Stands wide w b = (x : Item) × (find_item wide w ≡ Some x) × (x.body ≡ b)

-- an input is one, of as many bits, and no other's
abbrev pub InputIsWritten : List FullLine → Places → List Item → ℕ → Type 0
InputIsWritten full p wide id = ((s : ℕ) × Stands wide (p.node id) (body.Input s)) × (bits_of wide (p.node id) ≡ width_of full id) × (p.source (p.node id) ≡ id)

-- A state has a state of as many bits, no other's and not the one that is 1 in the first frame alone. Without an init line the node of its word is that state, and has no init line;
-- without a next line that state has none.
pub record StateIsWritten (full : List FullLine) (p : Places) (wide : List Item) (id : ℕ) : Type 0 where
  pub state : names_state wide (p.leaf id) ≡ true
  pub bits : bits_of wide (p.leaf id) ≡ width_of full id
  pub own : p.source (p.leaf id) ≡ id
  pub other : IfSome p.first (λ w. (p.leaf id == w) ≡ false)
  pub no_init : init_of full id ≡ None → (p.node id ≡ p.leaf id) × (init_value wide (p.leaf id) ≡ None)
  pub no_next : next_of full id ≡ None → next_value wide (p.leaf id) ≡ None

-- what the line of a leaf asks for
abbrev pub LeafIsWritten : List FullLine → Places → List Item → ℕ → Says → Type 0
LeafIsWritten full p wide id (form (body.Input s) minuses) = InputIsWritten full p wide id
LeafIsWritten full p wide id (form (body.State s) minuses) = StateIsWritten full p wide id
LeafIsWritten full p wide id _ = Unit {0}

-- a state of the wide list is that of a state, or the one that is 1 in the first frame alone
abbrev pub IsNoOther : List FullLine → Places → ℕ → Body → Type 0
IsNoOther full p w (body.State s) = (p.first ≡ Some w) ⊎ ((names_full_state full (p.source w) ≡ true) × (p.leaf (p.source w) ≡ w))
IsNoOther full p w _ = Unit {0}

-- ---- init and next lines

-- a state with an init line as it is: its node is its state, which begins with a constant that is the word of the init's value in each frame, and has a next line
pub record IsAsItIs (full : List FullLine) (p : Places) (wide : List Item) (id : ℕ) (o : Operand) : Type 0 where
  pub same : p.node id ≡ p.leaf id
  pub word : ℕ
  pub begins : init_word wide (p.leaf id) ≡ Some word
  pub constant : InFrames wide (λ g. first_word full (read_by p g) id o ≡ word)
  pub goes_on : is_some (next_value wide (p.leaf id)) ≡ true

-- a state with an init line by its first word: its node is a choice, by whether the frame is the first, of a node that has the init's word and of its state, which has no init line
pub record IsByFirstWord (full : List FullLine) (p : Places) (wide : List Item) (id : ℕ) (o : Operand) : Type 0 where
  pub first : ℕ
  pub sort : ℕ
  pub value : ℕ
  pub is_first : p.first ≡ Some first
  pub chooses : Stands wide (p.node id) (body.Ite sort first value (p.leaf id))
  pub word : HasFirstWord full p wide id o value
  pub begins_open : init_value wide (p.leaf id) ≡ None

-- in one of these two ways
abbrev pub InitIsWritten : List FullLine → Places → List Item → ℕ → Operand → Type 0
InitIsWritten full p wide id o = IsAsItIs full p wide id o ⊎ IsByFirstWord full p wide id o

-- the state of a next line takes a node that has the word of the line's value
abbrev pub NextIsWritten : List FullLine → Places → List Item → ℕ → Operand → Type 0
NextIsWritten full p wide id o = (w : ℕ) × (next_value wide (p.leaf id) ≡ Some w) × HasWord full p wide o w

-- ---- the state that is 1 in the first frame alone

-- a choice by it is one of the first word of a state and of its state
abbrev pub IsChoice : List FullLine → Places → List Item → ℕ → ℕ → Type 0
IsChoice full p wide v w =
    (id : ℕ) × (o : Operand) × (names_full_state full id ≡ true) × (init_of full id ≡ Some o) × (w ≡ p.leaf id) × HasFirstWord full p wide id o v

-- no node is made of it but by such a choice
abbrev pub OnlyChooses : List FullLine → Places → List Item → ℕ → Body → Type 0
OnlyChooses full p wide first (body.Ite s c v w) = ((v == first) ≡ false) × ((w == first) ≡ false) × ((c == first) ≡ true → IsChoice full p wide v w)
OnlyChooses full p wide first b = is_some (node_sort b) ≡ true → AllByRecursion (λ a. (a == first) ≡ false) (operands b)

-- A state of one bit that is 1 in the first frame alone: it begins with 1 and takes 0, and serves such choices alone.
pub record IsFirstAlone (full : List FullLine) (p : Places) (wide : List Item) (first : ℕ) : Type 0 where
  pub state : (s : ℕ) × Stands wide first (body.State s)
  pub bit : bits_of wide first ≡ 1
  pub begins : init_word wide first ≡ Some 1
  pub next : (w : ℕ) × (next_value wide first ≡ Some w) × (constant_of wide w ≡ Some 0)
  pub only : AllByRecursion (λ (x : Item). OnlyChooses full p wide first x.body) wide

-- ---- the whole

-- whether a body is an output line
abbrev pub is_output : Body → Bool
is_output (body.Output a) = true
is_output _ = false

-- an id, where there is one
abbrev pub one_id : Option ℕ → List ℕ
one_id None = []
one_id (Some w) = w ∷ []

-- A model is written out as a list of wide items.
pub record IsWrittenOut (full : List FullLine) (p : Places) (wide : List Item) : Type 0 where
  -- both are models
  pub agrees : IsFullModel full
  pub well_formed : IsWideModel greatest_width wide
  -- each line is carried
  pub lines : AllByRecursion (IsCarried full p wide) full
  -- the inputs are the inputs, and the states those of the states, in file order, with one more behind them for the first frame
  pub inputs : map p.node (full_ids is_input full) ≡ map (λ (x : Item). x.id) (of_kind is_input wide)
  pub states : map p.leaf (full_ids is_state full) ++ one_id p.first ≡ map (λ (x : Item). x.id) (of_kind is_state wide)
  pub leaves : AllByRecursion (λ (x : FullLine). LeafIsWritten full p wide x.id x.says) full
  pub no_others : AllByRecursion (λ (x : Item). IsNoOther full p x.id x.body) wide
  pub first : IfSome p.first (IsFirstAlone full p wide)
  -- init lines and next lines
  pub inits : AllByRecursion (λ (x : FullLine). AtInit (InitIsWritten full p wide) x.says) full
  pub nexts : AllByRecursion (λ (x : FullLine). AtNext (NextIsWritten full p wide) x.says) full
  -- bad properties, constraints and outputs, in file order
  pub bads : AllZip (HasWord full p wide) (full_nodes is_bad full) (nodes_of is_bad wide)
  pub constraints : AllZip (HasWord full p wide) (full_nodes is_constraint full) (nodes_of is_constraint wide)
  pub outputs : AllZip (HasWord full p wide) (full_nodes is_output full) (nodes_of is_output wide)

-- ---- the words of the leaves

-- the words that a frame of the model gives the leaves of the wide list: that of the leaf whose each is, cut to its width
abbrev pub leaf_words : Places → List Item → Frame → Frame
leaf_words p wide f w = f (p.source w) % 2 ^ bits_of wide w

-- a frame with a word put at an id
abbrev pub put : Frame → ℕ → ℕ → Frame
put f id word k = if k == id then word else f k

-- such words, with a bit for the state that is 1 in the first frame alone
abbrev pub started : Option ℕ → Frame → ℕ → Frame
started None f bit = f
started (Some w) f bit = put f w bit

-- the words that the states begin with, where a list of frames is met: those of the leaves in the first of them
abbrev pub BeginsAs : Places → List Item → Frame → List Frame → Type 0
BeginsAs p wide state [] = Unit {0}
BeginsAs p wide state (f ∷ more) = state ≡ started p.first (leaf_words p wide f) 1
