-- Which forms are fitted, what each asks of the words that it names, and which word it gives for them.
use Rattle.std.specs.Prelude.{◌≡◌, ℕ, ◌+◌, ◌-◌, ◌^◌, ◌<◌, ◌≤◌, Bool, true, false, List, Option, Some, None}
use Rattle.base.specs.Widths.{unary_width, binary_width, is_of_bits}
use Rattle.base.specs.Operator.{unary_value, binary_value, ite_value, slice_value, uext_value, sext_value, concat_value}
use Rattle.btor2.specs.declared.item.Item.{Item}
use Rattle.btor2.specs.declared.item.Body.{Body}
use Rattle.btor2.specs.declared.item.Body.TheVariants as body
use Rattle.btor2.specs.Trace.{Frame}
use Rattle.pieces.specs.declared.node.Node.{Node}
use Rattle.pieces.specs.Nodes.{word_of, bits_in}
use Rattle.pieces.specs.Cuts.{IsWord}
use Rattle.pieces.specs.Kept.{IsShort}
use Rattle.fitting.specs.declared.unfitted.Unfitted.{Unfitted}
use Rattle.fitting.specs.declared.unfitted.Unfitted.TheVariants as unfitted

abbrev pub IsBit : ℕ → Type 0
IsBit a = a < 2

-- lines of operators
abbrev pub is_operator : Body → Bool
is_operator (body.Uext s a by) = true
is_operator (body.Sext s a by) = true
is_operator (body.Slice s a u l) = true
is_operator (body.Unary op s a) = true
is_operator (body.Binary op s a b) = true
is_operator (body.Concat s a b) = true
is_operator (body.Ite s c t e) = true
is_operator _ = false

-- lines of constants
abbrev pub is_constant_line : Body → Bool
is_constant_line (body.Zero s) = true
is_constant_line (body.One s) = true
is_constant_line (body.Ones s) = true
is_constant_line (body.Const s d v) = true
is_constant_line (body.Constd s v) = true
is_constant_line (body.Consth s d v) = true
is_constant_line _ = false

-- what a line of an operator asks of the words that it names
abbrev pub IsReady : List Item → (ℕ → List Node) → Body → Type 0
IsReady narrow words (body.Uext s a by) = IsWord narrow (words a) × (bits_in (words a) + by < 2 ^ 63)
IsReady narrow words (body.Sext s a by) = IsWord narrow (words a) × (bits_in (words a) + by < 2 ^ 63)
IsReady narrow words (body.Slice s a u l) = IsWord narrow (words a) × ((l ≤ u) × (u < bits_in (words a)))
IsReady narrow words (body.Unary op s a) = IsWord narrow (words a)
IsReady narrow words (body.Binary op s a b) =
    IsWord narrow (words a) × (IsWord narrow (words b) × ((bits_in (words a) ≡ bits_in (words b)) × ((is_of_bits op ≡ true → bits_in (words a) ≡ 1) × (bits_in (words a) < 2 ^ 61))))
IsReady narrow words (body.Concat s a b) = IsWord narrow (words a) × (IsWord narrow (words b) × (bits_in (words a) + bits_in (words b) < 2 ^ 63))
IsReady narrow words (body.Ite s c t e) =
    IsWord narrow (words c) × (IsWord narrow (words t) × (IsWord narrow (words e) × ((bits_in (words c) ≡ 1) × (bits_in (words t) ≡ bits_in (words e)))))
IsReady narrow words _ = ⊥

-- how many bits it gives
abbrev pub form_width : (ℕ → List Node) → Body → ℕ
form_width words (body.Uext s a by) = bits_in (words a) + by
form_width words (body.Sext s a by) = bits_in (words a) + by
form_width words (body.Slice s a u l) = u - l + 1
form_width words (body.Unary op s a) = unary_width op (bits_in (words a))
form_width words (body.Binary op s a b) = binary_width op (bits_in (words a))
form_width words (body.Concat s a b) = bits_in (words a) + bits_in (words b)
form_width words (body.Ite s c t e) = bits_in (words t)
form_width words _ = 0

-- and which word, in a frame
abbrev pub form_value : (ℕ → List Node) → Body → Frame → ℕ
form_value words (body.Uext s a by) g = uext_value (word_of g (words a))
form_value words (body.Sext s a by) g = sext_value (bits_in (words a)) (word_of g (words a)) by
form_value words (body.Slice s a u l) g = slice_value (word_of g (words a)) u l
form_value words (body.Unary op s a) g = unary_value op (bits_in (words a)) (word_of g (words a))
form_value words (body.Binary op s a b) g = binary_value op (bits_in (words a)) (word_of g (words a)) (word_of g (words b))
form_value words (body.Concat s a b) g = concat_value (word_of g (words a)) (bits_in (words b)) (word_of g (words b))
form_value words (body.Ite s c t e) g = ite_value (word_of g (words c)) (word_of g (words t)) (word_of g (words e))
form_value words _ g = 0

-- why a line that can be fitted is not, by its form
abbrev pub form_fault : Body → Option Unfitted
form_fault (body.Fair a) = Some unfitted.Fair
form_fault (body.Justice nodes) = Some unfitted.Justice
form_fault _ = None

-- why a line is not fitted: its form, or what is wanting in the narrow list
abbrev pub IsRefused : Body → List Item → Unfitted → Type 0
IsRefused b narrow (unfitted.Short e) = (form_fault b ≡ None) × IsShort narrow e
IsRefused b narrow e = form_fault b ≡ Some e
