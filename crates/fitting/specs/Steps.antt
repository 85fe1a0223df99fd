-- The lines that the narrow list gets for a leaf, an init line, a next line and an output.
use Rattle.std.specs.Prelude.{◌≡◌, ℕ, nat_eq, Bool, true, false, List, [], ◌∷◌, ◌++◌, Option, Some, None, is_some}
use Rattle.std.specs.List.{AllByRecursion, AllZip}
use Rattle.btor2.specs.declared.item.Item.{Item}
use Rattle.btor2.specs.declared.item.Body.{Body}
use Rattle.btor2.specs.declared.item.Body.TheVariants as body
use Rattle.btor2.specs.Items.{find_item, is_input, is_state, init_value, init_word, next_value}
use Rattle.btor2.specs.Reachability.{nodes_of}
use Rattle.fit.specs.Fitting.{is_output, init_words}
use Rattle.pieces.specs.declared.node.Node.{Node}
use Rattle.pieces.specs.Lines.{is_plain}
use Rattle.pieces.specs.Nodes.{word_of}
use Rattle.fitting.specs.Names.{names_of}
use Rattle.fitting.specs.Fitted.{node_ids, constant_words, HaveNames, TakesNode, leaf_ids}

-- whether a body is that of an input, or of a state
abbrev pub is_leaf_of : Bool → Body → Bool
is_leaf_of true b = is_input b
is_leaf_of false b = is_state b

abbrev pub leaf_body : Bool → ℕ → Body
leaf_body true s = body.Input s
leaf_body false s = body.State s

abbrev pub IsLeafOf : Bool → List Item → ℕ → Type 0
IsLeafOf input items id = (y : Item) × (find_item items id ≡ Some y) × (is_leaf_of input y.body ≡ true)

-- plain lines, and those of a form
abbrev pub adds_leaf : Body → Bool
adds_leaf (body.Input s) = true
adds_leaf (body.State s) = true
adds_leaf b = is_plain b

abbrev pub adds_init : Body → Bool
adds_init (body.Init s t v) = true
adds_init b = is_plain b

abbrev pub adds_next : Body → Bool
adds_next (body.Next s t v) = true
adds_next b = is_plain b

abbrev pub adds_output : Body → Bool
adds_output (body.Output a) = true
adds_output b = is_plain b

-- a list goes on where another ends
pub record IsLonger (old new : List Item) : Type 0 where
  pub more : List Item
  pub is : new ≡ old ++ more

-- no node has an id
abbrev pub IsOther : List Node → ℕ → Type 0
IsOther ps id = AllByRecursion (λ (p : Node). nat_eq id p.id ≡ false) ps

-- each node has an id of its own
abbrev pub AreApart : List Node → Type 0
AreApart [] = Unit {0}
AreApart (p ∷ ps) = AllByRecursion (λ (q : Node). nat_eq q.id p.id ≡ false) ps × AreApart ps

-- new leaves with their names, beside plain lines
pub record AddsLeaves (input : Bool) (old new : List Item) (ps : List Node) (names : List (Option (List ℕ))) : Type 0 where
  pub more : List Item
  pub is : new ≡ old ++ more
  pub quiet : AllByRecursion (λ (y : Item). adds_leaf y.body ≡ true) more
  pub ids : leaf_ids more ≡ node_ids ps
  pub kinds : AllByRecursion (λ (p : Node). IsLeafOf input new p.id) ps
  pub fresh : AllByRecursion (λ (p : Node). find_item old p.id ≡ None) ps
  pub named : HaveNames new ps names

-- init lines of states, by the words of constants
pub record AddsInits (old new : List Item) (ps vs : List Node) : Type 0 where
  pub more : List Item
  pub is : new ≡ old ++ more
  pub quiet : AllByRecursion (λ (y : Item). adds_init y.body ≡ true) more
  pub others : (id : ℕ) → IsOther ps id → init_value more id ≡ None
  pub begins : AllByRecursion (λ (p : Node). is_some (init_word new p.id) ≡ true) ps
  pub word : word_of (init_words new) ps ≡ word_of (constant_words new) vs

-- next lines of states
pub record AddsNexts (old new : List Item) (ps vs : List Node) : Type 0 where
  pub more : List Item
  pub is : new ≡ old ++ more
  pub quiet : AllByRecursion (λ (y : Item). adds_next y.body ≡ true) more
  pub others : (id : ℕ) → IsOther ps id → next_value more id ≡ None
  pub takes : AllZip (TakesNode new) ps vs

-- outputs with their names
pub record AddsOutputs (old new : List Item) (ps : List Node) (names : List (Option (List ℕ))) : Type 0 where
  pub more : List Item
  pub is : new ≡ old ++ more
  pub quiet : AllByRecursion (λ (y : Item). adds_output y.body ≡ true) more
  pub nodes : nodes_of is_output more ≡ node_ids ps
  pub named : names_of is_output more ≡ names

-- the lines before one, and its id and name
pub record Place : Type 0 where
  pub wide : List Item
  pub id : ℕ
  pub symbol : Option (List ℕ)

-- the lines before that of a constant, and what it is and its name
pub record ConstantPlace : Type 0 where
  pub wide : List Item
  pub symbol : Option (List ℕ)
  pub body : Body
