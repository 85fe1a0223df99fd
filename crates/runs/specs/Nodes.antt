-- The operators of a run, with their operands as places in the list of now-values, and what they give from that list.
use Rattle.std.specs.Prelude.{ℕ, ◌+◌, ◌^◌, ◌<◌, ◌≤◌, List, [], ◌∷◌, Option, Some, None, IfSome, length, map, option_map, unwrap_or, slice_index, slice_set}
use Rattle.base.specs.Operator.{unary_value, binary_value, ite_value, slice_value, uext_value, sext_value, concat_value}
use Rattle.btor2.specs.declared.item.Item.{Item}
use Rattle.btor2.specs.declared.item.Body.{Body}
use Rattle.btor2.specs.declared.item.Body.TheVariants as body
use Rattle.btor2.specs.Items.{constant_of_body}
use Rattle.btor2.specs.Trace.{bits_of}
use Rattle.runs.specs.declared.nodes.Node.{Node}
use Rattle.runs.specs.declared.nodes.Operator.{Operator}
use Rattle.runs.specs.declared.nodes.Operator.TheVariants as operator
use Rattle.runs.specs.declared.nodes.Single.{Single}
use Rattle.runs.specs.declared.nodes.Single.TheVariants as single
use Rattle.runs.specs.declared.nodes.Wider.{Wider}
use Rattle.runs.specs.declared.nodes.Wider.TheVariants as wider
use Rattle.runs.specs.declared.nodes.Pair.{Pair}
use Rattle.runs.specs.declared.nodes.Pair.TheVariants as pair
use Rattle.runs.specs.Frames.{has_value, kind_rank}
use Rattle.runs.specs.Run.{property_at}

-- the place of the node with an id among the now-values
abbrev pub slot : List Item → ℕ → ℕ
slot items id = kind_rank has_value items id

-- the slot of the node that the property at a place names
abbrev pub property_slot : List Item → ℕ → ℕ
property_slot items place = slot items (unwrap_or (property_at items place) 0)

-- the operator of a line that has one
abbrev pub operator_of : List Item → Body → Option Operator
operator_of items (body.Uext s a by) = Some (operator.Single (single.Wider (wider.Uext (bits_of items a) (slot items a) by)))
operator_of items (body.Sext s a by) = Some (operator.Single (single.Wider (wider.Sext (bits_of items a) (slot items a) by)))
operator_of items (body.Slice s a u l) = Some (operator.Single (single.Slice (bits_of items a) (slot items a) u l))
operator_of items (body.Unary op s a) = Some (operator.Single (single.Unary op (bits_of items a) (slot items a)))
operator_of items (body.Binary op s a b) = Some (operator.Pair (pair.Binary op (bits_of items a) (slot items a) (slot items b)))
operator_of items (body.Concat s a b) = Some (operator.Pair (pair.Concat (bits_of items a) (slot items a) (bits_of items b) (slot items b)))
operator_of items (body.Ite s c t e) = Some (operator.Ite (bits_of items t) (slot items c) (slot items t) (slot items e))
operator_of items b = None

-- the nodes of some lines that are operators, each with its own place
abbrev pub with_node : ℕ → Option Operator → List Node → List Node
with_node place None nodes = nodes
with_node place (Some o) nodes = record { place = place; operator = o } ∷ nodes

abbrev pub run_nodes : List Item → List Item → List Node
run_nodes items [] = []
run_nodes items (x ∷ xs) = with_node (slot items x.id) (operator_of items x.body) (run_nodes items xs)

-- the word that a constant gives, and 0 for other lines
abbrev pub standing_word : List Item → Body → ℕ
standing_word items b = unwrap_or (constant_of_body items b) 0

-- the word that an operator gives from a list of now-values
abbrev pub wider_value : Wider → List ℕ → ℕ
wider_value (wider.Uext w a by) values = uext_value (slice_index values a)
wider_value (wider.Sext w a by) values = sext_value w (slice_index values a) by

abbrev pub single_value : Single → List ℕ → ℕ
single_value (single.Unary op w a) values = unary_value op w (slice_index values a)
single_value (single.Slice w a u l) values = slice_value (slice_index values a) u l
single_value (single.Wider o) values = wider_value o values

abbrev pub pair_value : Pair → List ℕ → ℕ
pair_value (pair.Binary op w a b) values = binary_value op w (slice_index values a) (slice_index values b)
pair_value (pair.Concat m a n b) values = concat_value (slice_index values a) n (slice_index values b)

abbrev pub operator_value : Operator → List ℕ → ℕ
operator_value (operator.Single o) values = single_value o values
operator_value (operator.Pair o) values = pair_value o values
operator_value (operator.Ite w c t e) values = ite_value (slice_index values c) (slice_index values t) (slice_index values e)

-- a place of a list that has a word of so many bits
abbrev pub IsWordAt : List ℕ → ℕ → ℕ → Type 0
IsWordAt values w a = (a < length values) × (slice_index values a < 2 ^ w)

-- the operands of an operator are there, and fit
abbrev pub WiderFits : Wider → List ℕ → Type 0
WiderFits (wider.Uext w a by) values = IsWordAt values w a × (w + by ≤ 64)
WiderFits (wider.Sext w a by) values = IsWordAt values w a × (w + by ≤ 64)

abbrev pub SingleFits : Single → List ℕ → Type 0
SingleFits (single.Unary op w a) values = IsWordAt values w a
SingleFits (single.Slice w a u l) values = IsWordAt values w a × (l ≤ u) × (u < w)
SingleFits (single.Wider o) values = WiderFits o values

abbrev pub PairHasWords : Pair → List ℕ → Type 0
PairHasWords (pair.Binary op w a b) values = IsWordAt values w a × IsWordAt values w b
PairHasWords (pair.Concat m a n b) values = IsWordAt values m a × IsWordAt values n b × (m + n ≤ 64)

abbrev pub OperatorFits : Operator → List ℕ → Type 0
OperatorFits (operator.Single o) values = SingleFits o values
OperatorFits (operator.Pair o) values = PairHasWords o values
OperatorFits (operator.Ite w c t e) values = IsWordAt values 1 c × IsWordAt values w t × IsWordAt values w e

-- the now-values after some nodes have given their words, one after another
abbrev pub settled_values : List Node → List ℕ → List ℕ
settled_values [] values = values
settled_values (n ∷ ns) values = settled_values ns (slice_set values n.place (operator_value n.operator values))

-- each of them and its operands are there, and fit, when it gives its word
abbrev pub NodesFit : List Node → List ℕ → Type 0
NodesFit [] values = Unit {0}
NodesFit (n ∷ ns) values = (n.place < length values) × OperatorFits n.operator values × NodesFit ns (slice_set values n.place (operator_value n.operator values))

-- the words at some places of a list
abbrev pub words_at : List ℕ → List ℕ → List ℕ
words_at values places = map (slice_index values) places

-- the word at a place of a list, where there is a place, else 0; and a place that is in a list, where there is one
abbrev pub word_where : List ℕ → Option ℕ → ℕ
word_where values place = unwrap_or (option_map (slice_index values) place) 0

abbrev pub IsInside : ℕ → Option ℕ → Type 0
IsInside n place = IfSome place (λ p. p < n)
