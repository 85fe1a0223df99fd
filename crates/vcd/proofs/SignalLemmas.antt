-- The nodes that signals show.
use Rattle.std.proofs.Common.{◌≡◌, ℕ, ◌+◌, ◌<◌, Bool, true, false, cond, not, ◌&&◌, ◌||◌, List, [], ◌∷◌, ◌++◌, Option, Some, None, All, length, map, filter, flat_map, take, get_or, is_some, unwrap_or, option_map, slice_get, option_and_then, refl, sym, ap, ◌∙◌, append_assoc, ◌⊎◌, inl, inr}
use Rattle.std.proofs.lemmas.Bool.{and_parts}
use Rattle.std.proofs.lemmas.Grind.{take_at_read}
use Rattle.std.proofs.lemmas.List.{map-append}
use Rattle.std.proofs.lemmas.List.Elements.{filter-append, All-nil, All-cons, All-append}
use Rattle.btor2.specs.declared.item.Item.{Item}
use Rattle.btor2.specs.declared.item.Body.{Body}
use Rattle.btor2.specs.declared.item.Body.TheVariants as body
use Rattle.btor2.specs.Items.{node_width, operands, width_of_body, is_input, is_state, is_bad, is_constraint, position_of}
use Rattle.btor2.specs.Check.{IsWellFormed}
use Rattle.btor2.specs.Trace.{Frame}
use Rattle.btor2.proofs.AcceptedLemmas.{Each}
use Rattle.btor2.proofs.ModelLemmas.{node_width-at}
use Rattle.runs.specs.Frames.{has_value}
use Rattle.runs.proofs.PlaceLemmas.{operands_of, width_there, no_place}
use Rattle.runs.proofs.PlaceLemmas.{node_place as node_place_of}
use Rattle.vcd.specs.declared.scope.Scope.{Scope}
use Rattle.vcd.specs.declared.scope.Scope.TheVariants as scope
use Rattle.vcd.specs.declared.scope.Shown.{Shown}
use Rattle.vcd.specs.Signals.{is_output_line, is_in, node_by, shown_node, scopes, signals_in, signals}
use Rattle.vcd.specs.declared.signals.Signal.{Signal}
use Rattle.vcd.specs.Stands.{told_word}

-- a line that names the node that it shows
abbrev names_node : Body → Bool
names_node b = is_bad b || (is_constraint b || is_output_line b)

input_has : (b : Body) → is_input b ≡ true → has_value b ≡ true
input_has (body.Input s) h = refl
input_has _ h = absurd cc

state_has : (b : Body) → is_state b ≡ true → has_value b ≡ true
state_has (body.State s) h = refl
state_has _ h = absurd cc

bad_names : (b : Body) → is_bad b ≡ true → names_node b ≡ true
bad_names (body.Bad a) h = refl
bad_names _ h = absurd cc

constraint_names : (b : Body) → is_constraint b ≡ true → names_node b ≡ true
constraint_names (body.Constraint a) h = refl
constraint_names _ h = absurd cc

output_names : (b : Body) → is_output_line b ≡ true → names_node b ≡ true
output_names (body.Output a) h = refl
output_names _ h = absurd cc

-- a line of a scope has a value or names a node
has_or_names : (s : Shown) (c : Scope) (x : Item) → is_in s c x ≡ true → (has_value x.body ≡ true) ⊎ (names_node x.body ≡ true)
has_or_names s scope.Inputs x h = inl (input_has x.body h)
has_or_names s scope.States x h = inl (state_has x.body h)
has_or_names s scope.Bads x h = inr (bad_names x.body h)
has_or_names s scope.Constraints x h = inr (constraint_names x.body h)
has_or_names s scope.Outputs x h = inr (output_names x.body h)
has_or_names s scope.Nodes x h = inl (and_parts (has_value x.body) _ h).0

own_node : (id : ℕ) (b : Body) → has_value b ≡ true → node_by id b ≡ id
own_node id (body.Bad a) h = absurd cc
own_node id (body.Constraint a) h = absurd cc
own_node id (body.Output a) h = absurd cc
own_node id _ h = refl

named_there : (items : List Item) (id : ℕ) (b : Body) → names_node b ≡ true → Each (λ a. is_some (node_width items a) ≡ true) (operands b) → is_some (node_width items (node_by id b)) ≡ true
named_there items id (body.Bad a) h each = each.0
named_there items id (body.Constraint a) h each = each.0
named_there items id (body.Output a) h each = each.0
named_there items id _ h each = absurd cc

-- the node that a line of a scope shows is there
pub shown_there : (items : List Item) (s : Shown) (c : Scope) (place : ℕ) (x : Item) → IsWellFormed items → slice_get items place ≡ Some x → is_in s c x ≡ true → is_some (node_width items (shown_node x)) ≡ true
shown_there items s c place x w at is =
    elim (has_or_names s c x is) [
      | inl has ↦
          ap (λ (id : ℕ). is_some (node_width items id)) (own_node x.id x.body has)
          ∙ (ap is_some (node_width-at items place x w at ∙ sym (ap (λ (o : Option Item). option_and_then (λ (y : Item). width_of_body items y.body) o) at)) ∙ (width_there items place x w at ∙ has))
      | inr names ↦ named_there items x.id x.body names (operands_of items place x x.body w at refl)
    ]

-- no node with a value is none that is shown
pub no_value : (a b : Bool) → a ≡ false → false ≡ (a && b)
no_value a b e = sym (ap (λ (x : Bool). x && b) e)

pub a_leaf : (a l b : Bool) → l ≡ true → false ≡ (a && (not l && b))
a_leaf true l b e = sym (ap (λ (x : Bool). not x && b) e)
a_leaf false l b e = refl

-- the items of a list that pass a test, item by item
pub filter_more : (test : Item → Bool) (g : Item → Signal) (i : ℕ) (items : List Item) (x d : Item) (before after : List Signal) → i < length items → x ≡ get_or items i d
    → after ≡ before ++ map g (filter test (x ∷ [])) → (start : List Signal) → before ≡ start ++ map g (filter test (take i items)) → after ≡ start ++ map g (filter test (take (i + 1) items))
filter_more test g i items x d before after lt e is start was =
    let more : take (i + 1) items ≡ take i items ++ x ∷ [] = (take_at_read items i d lt).1 ∙ ap (λ (y : Item). take i items ++ y ∷ []) (sym e) in
    is ∙ (ap (λ (l : List Signal). l ++ map g (filter test (x ∷ []))) was
    ∙ (append_assoc start (map g (filter test (take i items))) (map g (filter test (x ∷ [])))
    ∙ ap (λ (l : List Signal). start ++ l) (sym (ap (λ (l : List Item). map g (filter test l)) more ∙ (ap (map g) (filter-append test (take i items) (x ∷ [])) ∙ map-append g (filter test (take i items)) (filter test (x ∷ [])))))))

-- the word that is told of a node that is there
pub told_at : (items : List Item) (f : Frame) (id : ℕ) → is_some (node_width items id) ≡ true → told_word items f (unwrap_or (position_of items id) 0) ≡ f id
told_at items f id there = by (position_of items id) refl
  where
    by : (o : Option ℕ) → position_of items id ≡ o → told_word items f (unwrap_or o 0) ≡ f id
    by None e = absurd (no_place items id there e)
    by (Some place) e =
        let node = node_place_of items id place there e in
        ap (λ (o : Option ℕ). unwrap_or (cond (is_some o) (option_map (λ (x : Item). f x.id) (slice_get items place)) None) 0) node.width
        ∙ (ap (λ (o : Option Item). unwrap_or (option_map (λ (x : Item). f x.id) o) 0) node.at ∙ ap f node.own)

slice_get-at : (before : List Item) (x : Item) (rest : List Item) → slice_get (before ++ x ∷ rest) (length before) ≡ Some x
slice_get-at [] x rest = refl
slice_get-at (b ∷ before) x rest = slice_get-at before x rest

-- all signals are there
abbrev There : List Item → Item → Type 0
There items x = is_some (node_width items (shown_node x)) ≡ true

with_first : (items : List Item) (test : Item → Bool) (x : Item) (rest : List Item) → (test x ≡ true → There items x) → All (There items) (filter test rest) → All (There items) (filter test (x ∷ rest))
with_first items test x rest there later = by (test x) refl
  where
    by : (b : Bool) → test x ≡ b → All (There items) (cond b (x ∷ filter test rest) (filter test rest))
    by true is = All-cons (There items) x (filter test rest) (there is) later
    by false is = later

each_there : (items : List Item) (s : Shown) (c : Scope) (before rest : List Item) → IsWellFormed items → items ≡ before ++ rest → All (There items) (filter (is_in s c) rest)
each_there items s c before [] w e = All-nil (There items)
each_there items s c before (x ∷ rest) w e =
    with_first items (is_in s c) x rest (λ is. shown_there items s c (length before) x w (ap (λ (l : List Item). slice_get l (length before)) e ∙ slice_get-at before x rest) is)
    (each_there items s c (before ++ x ∷ []) rest w (e ∙ sym (append_assoc before (x ∷ []) rest)))

all_in : (items : List Item) (s : Shown) (cs : List Scope) → IsWellFormed items → All (There items) (flat_map (signals_in s items) cs)
all_in items s [] w = All-nil (There items)
all_in items s (c ∷ cs) w = All-append (There items) (signals_in s items c) (flat_map (signals_in s items) cs) (each_there items s c [] items w refl) (all_in items s cs w)

pub all_there : (items : List Item) (s : Shown) → IsWellFormed items → All (λ x. is_some (node_width items (shown_node x)) ≡ true) (signals s items)
all_there items s w = all_in items s scopes w
