-- Which items a model refuses, and why: the rows of one table, of which the first that applies is answered.
use Rattle.std.specs.Prelude.{◌≡◌, ℕ, Bool, true, false, not, ◌&&◌, ◌||◌, List, [], ◌∷◌, ◌++◌, ◌+◌, ◌-◌, ◌^◌, length, drop, pos, neg_ℤ, int_le, int_lt, option_and_then, Option, Some, None, Result, Ok, Err, ◌==◌, nat_le, nat_lt, if◌then◌else◌, is_some, is_none, unwrap_or, ◌⊎◌}
use Rattle.std.specs.List.{list_all}
use Rattle.std.specs.Option.{option_map_or}
use Rattle.base.specs.Widths.{unary_width, binary_width, is_of_bits}
use Rattle.btor2.specs.declared.item.Item.{Item}
use Rattle.btor2.specs.declared.item.Body.{Body}
use Rattle.btor2.specs.declared.item.Body.TheVariants as body
use Rattle.btor2.specs.declared.fault.PushFault.{PushFault}
use Rattle.btor2.specs.declared.fault.PushFault.TheVariants as fault
use Rattle.btor2.specs.Items.{named_sort, operands, find_item, sort_width, node_width, constant_of, names_state, init_value, next_value}

-- the greatest number of items, and the greatest id
abbrev pub most_items : ℕ
most_items = 1048576

abbrev pub greatest_id : ℕ
greatest_id = 4294967295

-- the id is none, or above the greatest
unfoldable pub id_is_out_of_range : Item → Bool
id_is_out_of_range x = not (nat_le 1 x.id && nat_le x.id greatest_id)

-- an earlier item has the id
unfoldable pub id_is_taken : List Item → Item → Bool
id_is_taken items x = is_some (find_item items x.id)

-- the sort that it names is no earlier sort
unfoldable pub sort_is_missing : List Item → Body → Bool
sort_is_missing items b = option_map_or (λ s. is_none (sort_width items s)) (named_sort b) false

-- an operand is no earlier node with a value
unfoldable pub operand_is_missing : List Item → Body → Bool
operand_is_missing items b = not (list_all (λ a. is_some (node_width items a)) (operands b))

-- the first operand of an init or a next is no state
unfoldable pub state_is_none : List Item → Body → Bool
state_is_none items (body.Init s t v) = not (names_state items t)
state_is_none items (body.Next s t v) = not (names_state items t)
state_is_none items _ = false

-- a sort's width is not 1 to 64
unfoldable pub width_is_out_of_range : Body → Bool
width_is_out_of_range (body.Sort n) = not (nat_le 1 n && nat_le n 64)
width_is_out_of_range _ = false

-- the bits of a slice are not those of a node of this width: not l ≤ u < width
abbrev pub is_no_slice : ℕ → ℕ → ℕ → Bool
is_no_slice n u l = not (nat_le l u && nat_lt u n)

unfoldable pub slice_is_out_of_range : List Item → Body → Bool
slice_is_out_of_range items (body.Slice s a u l) = is_no_slice (unwrap_or (node_width items a) 0) u l
slice_is_out_of_range items _ = false

-- The widths that a form asks for, given the width of its sort and those of its operands by their ids: one line for each form,
-- and for the operators of one and of two operands by the widths of what they give.
abbrev pub widths_agree : (ℕ → ℕ) → (ℕ → ℕ) → Body → Bool
widths_agree sort node (body.Uext s a by) = sort s == node a + by
widths_agree sort node (body.Sext s a by) = sort s == node a + by
widths_agree sort node (body.Slice s a u l) = sort s == u - l + 1
widths_agree sort node (body.Unary op s a) = sort s == unary_width op (node a)
widths_agree sort node (body.Binary op s a b) =
    (node a == node b) && ((not (is_of_bits op) || (node a == 1)) && (sort s == binary_width op (node a)))
widths_agree sort node (body.Concat s a b) = sort s == node a + node b
widths_agree sort node (body.Ite s c t e) = (node c == 1) && ((sort s == node t) && (sort s == node e))
widths_agree sort node (body.Init s t v) = (sort s == node t) && (sort s == node v)
widths_agree sort node (body.Next s t v) = (sort s == node t) && (sort s == node v)
widths_agree sort node (body.Bad a) = node a == 1
widths_agree sort node (body.Constraint a) = node a == 1
widths_agree sort node (body.Fair a) = node a == 1
widths_agree sort node (body.Justice nodes) = list_all (λ a. node a == 1) nodes
widths_agree sort node _ = true

unfoldable pub widths_differ : List Item → Body → Bool
widths_differ items b = not (widths_agree (λ s. unwrap_or (sort_width items s) 0) (λ a. unwrap_or (node_width items a) 0) b)

-- A constant fits a sort of n bits: as many binary digits as n; a decimal from -2 ^ (n - 1) to 2 ^ n - 1; 1 to 16 hexadecimal
-- digits. Its value is a word of n bits, and none above what its digits can say.
abbrev pub constant_fits : ℕ → Body → Bool
constant_fits n (body.Const s d v) = (d == n) && nat_lt v (2 ^ d)
constant_fits n (body.Constd s v) = int_le (neg_ℤ (pos (2 ^ (n - 1)))) v && int_lt v (pos (2 ^ n))
constant_fits n (body.Consth s d v) = nat_le 1 d && (nat_le d 16 && (nat_lt v (2 ^ n) && nat_lt v (16 ^ d)))
constant_fits n _ = true

unfoldable pub constant_does_not_fit : List Item → Body → Bool
constant_does_not_fit items b = not (constant_fits (unwrap_or (option_and_then (sort_width items) (named_sort b)) 0) b)

-- the value of an init is no constant node
unfoldable pub init_is_not_constant : List Item → Body → Bool
init_is_not_constant items (body.Init s t v) = is_none (constant_of items v)
init_is_not_constant items _ = false

-- the state has an init already, or a next
unfoldable pub is_second_init : List Item → Body → Bool
is_second_init items (body.Init s t v) = is_some (init_value items t)
is_second_init items _ = false

unfoldable pub is_second_next : List Item → Body → Bool
is_second_next items (body.Next s t v) = is_some (next_value items t)
is_second_next items _ = false

-- a justice line names no node
unfoldable pub justice_is_empty : Body → Bool
justice_is_empty (body.Justice []) = true
justice_is_empty _ = false

-- the first row whose test is true
abbrev pub first_row : List (Bool × PushFault) → Option PushFault
first_row [] = None
first_row (row ∷ rows) = if row.0 then Some row.1 else first_row rows

-- the rows in their order, each with its test of an item after the items before it
abbrev pub table : List Item → Item → List (Bool × PushFault)
table items x =
    (nat_le most_items (length items), fault.TooManyItems)
    ∷ (id_is_out_of_range x, fault.IdOutOfRange)
    ∷ (id_is_taken items x, fault.IdTaken)
    ∷ (sort_is_missing items x.body, fault.NoSuchSort)
    ∷ (operand_is_missing items x.body, fault.NoSuchNode)
    ∷ (state_is_none items x.body, fault.NotAState)
    ∷ (width_is_out_of_range x.body, fault.WidthOutOfRange)
    ∷ (slice_is_out_of_range items x.body, fault.SliceOutOfRange)
    ∷ (widths_differ items x.body, fault.SortMismatch)
    ∷ (constant_does_not_fit items x.body, fault.ConstantDoesNotFit)
    ∷ (init_is_not_constant items x.body, fault.InitNotConstant)
    ∷ (is_second_init items x.body, fault.SecondInit)
    ∷ (is_second_next items x.body, fault.SecondNext)
    ∷ (justice_is_empty x.body, fault.JusticeEmpty)
    ∷ []

-- the rows of what an item says, behind those of its own id
abbrev pub said_rows : List Item → Body → List (Bool × PushFault)
said_rows items b = drop 3 (table items (record { id = 0; symbol = None; body = b }))

-- the refusal of an item after the items before it, if there is one
unfoldable pub refusal : List Item → Item → Option PushFault
refusal items x = first_row (table items x)

-- the items that follow others are refused nowhere, each after those before it
abbrev pub IsWellFormedAfter : List Item → List Item → Type 0
IsWellFormedAfter before [] = Unit {0}
IsWellFormedAfter before (x ∷ xs) = (refusal before x ≡ None) × IsWellFormedAfter (before ++ x ∷ []) xs

-- a model: each item is accepted after those before it
abbrev pub IsWellFormed : List Item → Type 0
IsWellFormed items = IsWellFormedAfter [] items

-- a push answers the first refusal that applies, and for an item that none applies to nothing, or want of memory
abbrev pub AnswersRefusal : Result (Unit {0}) PushFault → Option PushFault → Type 0
AnswersRefusal (Ok u) r = r ≡ None
AnswersRefusal (Err e) r = (r ≡ Some e) ⊎ ((r ≡ None) × (e ≡ fault.NoMemory))

-- a test answers a refusal, if there is one
abbrev pub Refuses : Result (Unit {0}) PushFault → Option PushFault → Type 0
Refuses (Ok u) r = r ≡ None
Refuses (Err e) r = r ≡ Some e
