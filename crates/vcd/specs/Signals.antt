-- The signals of a value change dump of a model: which lines are shown, in which scope, and the words that they show (this project's).
use Rattle.std.specs.Prelude.{ℕ, Bool, false, true, not, ◌&&◌, ◌||◌, List, [], ◌∷◌, is_some, unwrap_or, codes, filter, flat_map, length, take}
use Rattle.std.specs.List.{list_any}
use Rattle.std.specs.Str.{bytes_eq}
use Rattle.btor2.specs.declared.item.Item.{Item}
use Rattle.btor2.specs.declared.item.Body.{Body}
use Rattle.btor2.specs.declared.item.Body.TheVariants as body
use Rattle.btor2.specs.Items.{is_input, is_state, is_bad, is_constraint, position_of}
use Rattle.btor2.specs.Trace.{Frame, bits_of}
use Rattle.runs.specs.Frames.{has_value, is_leaf}
use Rattle.vcd.specs.declared.scope.Scope.{Scope}
use Rattle.vcd.specs.declared.scope.Scope.TheVariants as scope
use Rattle.vcd.specs.declared.scope.Shown.{Shown}
use Rattle.vcd.specs.declared.scope.Shown.TheVariants as shown
use Rattle.vcd.specs.Names.{plain_name, ends_in_number, with_id, escaped}

abbrev pub is_output_line : Body → Bool
is_output_line (body.Output a) = true
is_output_line _ = false

-- all other nodes are shown, and not only those that have a symbol
abbrev pub shows_all : Shown → Bool
shows_all shown.Named = false
shows_all shown.All = true

-- the lines of a scope: in the last are the nodes that are neither inputs nor states
abbrev pub is_in : Shown → Scope → Item → Bool
is_in s scope.Inputs x = is_input x.body
is_in s scope.States x = is_state x.body
is_in s scope.Bads x = is_bad x.body
is_in s scope.Constraints x = is_constraint x.body
is_in s scope.Outputs x = is_output_line x.body
is_in s scope.Nodes x = has_value x.body && (not (is_leaf x.body) && (shows_all s || is_some x.symbol))

abbrev pub scope_name : Scope → List ℕ
scope_name scope.Inputs = codes "inputs"
scope_name scope.States = codes "states"
scope_name scope.Bads = codes "bad"
scope_name scope.Constraints = codes "constraints"
scope_name scope.Outputs = codes "outputs"
scope_name scope.Nodes = codes "nodes"

-- the scopes, in their order
abbrev pub scopes : List Scope
scopes = scope.Inputs ∷ scope.States ∷ scope.Bads ∷ scope.Constraints ∷ scope.Outputs ∷ scope.Nodes ∷ []

-- the signals of a scope, in file order, and all signals
abbrev pub signals_in : Shown → List Item → Scope → List Item
signals_in s items c = filter (is_in s c) items

abbrev pub signals : Shown → List Item → List Item
signals s items = flat_map (signals_in s items) scopes

-- ---- names

-- the signals of a scope that stand before a line, and the line's plain name there
abbrev pub signals_before : Shown → List Item → Scope → Item → List Item
signals_before s items c x = signals_in s (take (unwrap_or (position_of items x.id) 0) items) c

abbrev pub plain_name_in : Shown → List Item → Scope → Item → List ℕ
plain_name_in s items c x = plain_name c (length (signals_before s items c x)) x

-- an earlier signal of the scope has the plain name
abbrev pub is_named_before : Shown → List Item → Scope → Item → Bool
is_named_before s items c x = list_any (λ y. bytes_eq (plain_name_in s items c x) (plain_name_in s items c y)) (signals_before s items c x)

-- a signal is told apart where an earlier one of the scope has its plain name, or that could be the name of one that is told apart
abbrev pub is_told_apart : Shown → List Item → Scope → Item → Bool
is_told_apart s items c x = is_named_before s items c x || ends_in_number (plain_name_in s items c x)

-- the name of a signal of a scope
abbrev pub signal_name : Shown → List Item → Scope → Item → List ℕ
signal_name s items c x = escaped (with_id (is_told_apart s items c x) x.id (plain_name_in s items c x))

-- ---- words

-- the node whose word a line shows: that which a property or an output names, and else its own
abbrev pub node_by : ℕ → Body → ℕ
node_by id (body.Bad a) = a
node_by id (body.Constraint a) = a
node_by id (body.Output a) = a
node_by id _ = id

abbrev pub shown_node : Item → ℕ
shown_node x = node_by x.id x.body

-- its width, and its word in a frame
abbrev pub signal_width : List Item → Item → ℕ
signal_width items x = bits_of items (shown_node x)

abbrev pub signal_word : Frame → Item → ℕ
signal_word f x = f (shown_node x)
