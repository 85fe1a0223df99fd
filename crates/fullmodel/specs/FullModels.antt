-- Which lines a model refuses, and why: the rows of one table, of which the first that applies is answered
-- ("Btor2, BtorMC and Boolector 3.0", table of operators, in the terms of `Agreement.antt` of `full`).
use Rattle.std.specs.Prelude.{◌≡◌, ℕ, ◌+◌, ◌-◌, ◌*◌, ◌^◌, Bool, true, false, not, ◌&&◌, ◌||◌, List, [], ◌∷◌, ◌++◌, length, Option, Some, None, Result, Ok, Err, ◌==◌, nat_le, if◌then◌else◌, is_some, is_none, unwrap_or, ◌⊎◌, zip}
use Rattle.std.specs.List.{list_all}
use Rattle.std.specs.Option.{option_map_or}
use Rattle.base.specs.declared.operators.Binary.{Binary}
use Rattle.base.specs.declared.operators.Binary.TheVariants as binary
use Rattle.base.specs.Widths.{unary_width, binary_width, is_of_bits}
use Rattle.btor2.specs.declared.item.Body.{Body}
use Rattle.btor2.specs.declared.item.Body.TheVariants as body
use Rattle.btor2.specs.declared.fault.PushFault.{PushFault}
use Rattle.btor2.specs.declared.fault.PushFault.TheVariants as push
use Rattle.btor2.specs.Items.{named_sort, operands}
use Rattle.btor2.specs.Check.{most_items, greatest_id, is_no_slice, justice_is_empty}
use Rattle.wide.specs.WideModels.{greatest_width, width_is_above, constant_fits_within}
use Rattle.full.specs.Lines.{Says, form, array_sort, read, write, FullLine, Sort, words, arrays, find_line, sort_at, sort_of_node, is_form, init_of, next_of}
use Rattle.full.specs.Agreement.{is_words, element_sort, names_full_state, first_is_plain}
use Rattle.fullmodel.specs.declared.fault.LineFault.{LineFault}
use Rattle.fullmodel.specs.declared.fault.LineFault.TheVariants as fault

-- ---- sorts

-- the width of a sort of words, and 0 of any other
abbrev pub width_in : Option Sort → ℕ
width_in (Some (words n)) = n
width_in _ = 0

-- the sort of an array's indices
abbrev pub index_sort : Option Sort → Option Sort
index_sort (Some (arrays k n)) = Some (words k)
index_sort _ = None

-- both are there, and one sort
abbrev pub same_sort : Option Sort → Option Sort → Bool
same_sort (Some (words n)) (Some (words m)) = n == m
same_sort (Some (arrays k n)) (Some (arrays l m)) = (k == l) && (n == m)
same_sort _ _ = false

-- words of one bit
abbrev pub is_bit : Option Sort → Bool
is_bit (Some (words n)) = n == 1
is_bit _ = false

-- sorts of index and element from which a sort of arrays is made: words, and an array has at most the greatest width
abbrev pub makes_arrays : Option Sort → Option Sort → Bool
makes_arrays (Some (words k)) (Some (words n)) = nat_le (2 ^ k * n) greatest_width
makes_arrays _ _ = false

-- ---- rows

-- the nodes that a line names, from left to right, and which of them stand with a minus
abbrev pub ids_of : Says → List ℕ
ids_of (form b minuses) = operands b
ids_of (array_sort index element) = []
ids_of (read s array index) = array ∷ index.id ∷ []
ids_of (write s array index word) = array ∷ index.id ∷ word.id ∷ []

abbrev pub minuses_of : Says → List Bool
minuses_of (form b minuses) = minuses
minuses_of (array_sort index element) = []
minuses_of (read s array index) = false ∷ index.minus ∷ []
minuses_of (write s array index word) = false ∷ index.minus ∷ word.minus ∷ []

-- the id is none, or above the greatest
unfoldable pub id_is_out_of_range : ℕ → Bool
id_is_out_of_range id = not (nat_le 1 id && nat_le id greatest_id)

-- an earlier line has the id
unfoldable pub id_is_taken : List FullLine → ℕ → Bool
id_is_taken lines id = is_some (find_line lines id)

-- a sort that it names is no earlier sort
unfoldable pub sort_is_missing : List FullLine → Says → Bool
sort_is_missing lines (form b minuses) = option_map_or (λ s. is_none (sort_at lines s)) (named_sort b) false
sort_is_missing lines (array_sort index element) = is_none (sort_at lines index) || is_none (sort_at lines element)
sort_is_missing lines (read s array index) = is_none (sort_at lines s)
sort_is_missing lines (write s array index word) = is_none (sort_at lines s)

-- an operand is no earlier node with a value
unfoldable pub operand_is_missing : List FullLine → Says → Bool
operand_is_missing lines b = not (list_all (λ a. is_some (sort_of_node lines a)) (ids_of b))

-- the first operand of an init or a next is no state
unfoldable pub state_is_none : List FullLine → Says → Bool
state_is_none lines (form (body.Init s t v) minuses) = not (names_full_state lines t)
state_is_none lines (form (body.Next s t v) minuses) = not (names_full_state lines t)
state_is_none lines _ = false

-- the state of an init or a next stands with a minus
unfoldable pub state_has_minus : Says → Bool
state_has_minus (form (body.Init s t v) minuses) = not (first_is_plain minuses)
state_has_minus (form (body.Next s t v) minuses) = not (first_is_plain minuses)
state_has_minus _ = false

-- each of some nodes that stands with a minus is a word
abbrev pub minuses_at_words : List FullLine → List ℕ → List Bool → Bool
minuses_at_words lines ids minuses = list_all (λ (p : ℕ × Bool). not p.1 || is_words (sort_of_node lines p.0)) (zip ids minuses)

unfoldable pub minus_is_at_array : List FullLine → Says → Bool
minus_is_at_array lines b = not (minuses_at_words lines (ids_of b) (minuses_of b))

-- a sort's width is not 1 to the greatest
unfoldable pub width_is_out_of_range : Says → Bool
width_is_out_of_range b = is_form (width_is_above greatest_width) b

-- a sort of arrays of these sorts of index and element is none
unfoldable pub is_no_array_sort : List FullLine → Says → Bool
is_no_array_sort lines (array_sort index element) = not (makes_arrays (sort_at lines index) (sort_at lines element))
is_no_array_sort lines _ = false

-- the bits of a slice are not those of the word that it is of
abbrev pub is_no_slice_of : Option Sort → ℕ → ℕ → Bool
is_no_slice_of (Some (words n)) u l = is_no_slice n u l
is_no_slice_of _ u l = false

unfoldable pub slice_is_out_of_range : List FullLine → Says → Bool
slice_is_out_of_range lines (form (body.Slice s a u l) minuses) = is_no_slice_of (sort_of_node lines a) u l
slice_is_out_of_range lines _ = false

-- ---- sorts of forms

-- the operators that take arrays, too
abbrev pub is_equality : Binary → Bool
is_equality binary.Eq = true
is_equality binary.Neq = true
is_equality _ = false

-- an operator of two operands takes their sorts, and gives that of its own
abbrev pub binary_agrees : Binary → Option Sort → Option Sort → Option Sort → Bool
binary_agrees op s a b =
    if is_equality op then is_bit s && same_sort a b
    else (is_words s && (is_words a && is_words b))
    && ((width_in a == width_in b) && ((not (is_of_bits op) || (width_in a == 1)) && (width_in s == binary_width op (width_in a))))

-- The sorts that a form asks for, given sorts and the sorts of nodes by their ids: one line for each form.
abbrev pub sorts_agree : (ℕ → Option Sort) → (ℕ → Option Sort) → Body → Bool
sorts_agree sort node (body.Sort n) = true
sorts_agree sort node (body.Input s) = true
sorts_agree sort node (body.State s) = true
sorts_agree sort node (body.Uext s a by) = (is_words (sort s) && is_words (node a)) && (width_in (sort s) == width_in (node a) + by)
sorts_agree sort node (body.Sext s a by) = (is_words (sort s) && is_words (node a)) && (width_in (sort s) == width_in (node a) + by)
sorts_agree sort node (body.Slice s a u l) = (is_words (sort s) && is_words (node a)) && (width_in (sort s) == u - l + 1)
sorts_agree sort node (body.Unary op s a) = (is_words (sort s) && is_words (node a)) && (width_in (sort s) == unary_width op (width_in (node a)))
sorts_agree sort node (body.Binary op s a b) = binary_agrees op (sort s) (node a) (node b)
sorts_agree sort node (body.Concat s a b) = (is_words (sort s) && (is_words (node a) && is_words (node b))) && (width_in (sort s) == width_in (node a) + width_in (node b))
sorts_agree sort node (body.Ite s c t e) = is_bit (node c) && (same_sort (node t) (sort s) && same_sort (node e) (sort s))
sorts_agree sort node (body.Init s t v) = same_sort (node t) (sort s) && (same_sort (node v) (sort s) || same_sort (node v) (element_sort (sort s)))
sorts_agree sort node (body.Next s t v) = same_sort (node t) (sort s) && same_sort (node v) (sort s)
sorts_agree sort node (body.Bad a) = is_bit (node a)
sorts_agree sort node (body.Constraint a) = is_bit (node a)
sorts_agree sort node (body.Fair a) = is_bit (node a)
sorts_agree sort node (body.Output a) = true
sorts_agree sort node (body.Justice nodes) = list_all (λ a. is_bit (node a)) nodes
sorts_agree sort node b = is_words (sort (unwrap_or (named_sort b) 0))

-- the sorts of what is read of an array, and of what is written into one
abbrev pub read_agrees : Option Sort → Option Sort → Option Sort → Bool
read_agrees s array index = same_sort s (element_sort array) && same_sort index (index_sort array)

abbrev pub write_agrees : Option Sort → Option Sort → Option Sort → Option Sort → Bool
write_agrees s array index word = same_sort s array && (same_sort index (index_sort array) && same_sort word (element_sort array))

unfoldable pub sorts_differ : List FullLine → Says → Bool
sorts_differ lines (form b minuses) = not (sorts_agree (sort_at lines) (sort_of_node lines) b)
sorts_differ lines (array_sort index element) = false
sorts_differ lines (read s array index) = not (read_agrees (sort_at lines s) (sort_of_node lines array) (sort_of_node lines index.id))
sorts_differ lines (write s array index word) = not (write_agrees (sort_at lines s) (sort_of_node lines array) (sort_of_node lines index.id) (sort_of_node lines word.id))

-- a constant does not fit its sort
unfoldable pub constant_does_not_fit : List FullLine → Says → Bool
constant_does_not_fit lines (form b minuses) = not (constant_fits_within greatest_width (width_in (sort_at lines (unwrap_or (named_sort b) 0))) b)
constant_does_not_fit lines _ = false

-- the state has an init already, or a next
unfoldable pub is_second_init : List FullLine → Says → Bool
is_second_init lines (form (body.Init s t v) minuses) = is_some (init_of lines t)
is_second_init lines _ = false

unfoldable pub is_second_next : List FullLine → Says → Bool
is_second_next lines (form (body.Next s t v) minuses) = is_some (next_of lines t)
is_second_next lines _ = false

-- ---- the table

-- the first row whose test is true
abbrev pub first_fault : List (Bool × LineFault) → Option LineFault
first_fault [] = None
first_fault (row ∷ rows) = if row.0 then Some row.1 else first_fault rows

-- the rows of how many lines there are, and of a line's own id
abbrev pub id_rows : List FullLine → ℕ → List (Bool × LineFault)
id_rows lines id =
    (nat_le most_items (length lines), fault.Push push.TooManyItems)
    ∷ (id_is_out_of_range id, fault.Push push.IdOutOfRange)
    ∷ (id_is_taken lines id, fault.Push push.IdTaken)
    ∷ []

-- the rows of what a line says
abbrev pub said_rows : List FullLine → Says → List (Bool × LineFault)
said_rows lines b =
    (sort_is_missing lines b, fault.Push push.NoSuchSort)
    ∷ (operand_is_missing lines b, fault.Push push.NoSuchNode)
    ∷ (state_is_none lines b, fault.Push push.NotAState)
    ∷ (state_has_minus b, fault.NegativeOperand)
    ∷ (minus_is_at_array lines b, fault.NegativeOperand)
    ∷ (width_is_out_of_range b, fault.Push push.WidthOutOfRange)
    ∷ (is_no_array_sort lines b, fault.ArraySort)
    ∷ (slice_is_out_of_range lines b, fault.Push push.SliceOutOfRange)
    ∷ (sorts_differ lines b, fault.Push push.SortMismatch)
    ∷ (constant_does_not_fit lines b, fault.Push push.ConstantDoesNotFit)
    ∷ (is_second_init lines b, fault.Push push.SecondInit)
    ∷ (is_second_next lines b, fault.Push push.SecondNext)
    ∷ (is_form justice_is_empty b, fault.Push push.JusticeEmpty)
    ∷ []

-- the rows in their order, each with its test of a line after the lines before it
abbrev pub line_table : List FullLine → FullLine → List (Bool × LineFault)
line_table lines x = id_rows lines x.id ++ said_rows lines x.says

-- the refusal of a line after the lines before it, if there is one
unfoldable pub line_refusal : List FullLine → FullLine → Option LineFault
line_refusal lines x = first_fault (line_table lines x)

-- lines that follow others are refused nowhere, each after those before it
abbrev pub IsAcceptedAfter : List FullLine → List FullLine → Type 0
IsAcceptedAfter before [] = Unit {0}
IsAcceptedAfter before (x ∷ xs) = (line_refusal before x ≡ None) × IsAcceptedAfter (before ++ x ∷ []) xs

abbrev pub IsAccepted : List FullLine → Type 0
IsAccepted lines = IsAcceptedAfter [] lines

-- a push answers the first refusal that applies, and for a line that none applies to nothing, or want of memory
abbrev pub AnswersLine : Result (Unit {0}) LineFault → Option LineFault → Type 0
AnswersLine (Ok u) r = r ≡ None
AnswersLine (Err e) r = (r ≡ Some e) ⊎ ((r ≡ None) × (e ≡ fault.Push push.NoMemory))

-- a test answers a refusal, if there is one
abbrev pub RefusesLine : Result (Unit {0}) LineFault → Option LineFault → Type 0
RefusesLine (Ok u) r = r ≡ None
RefusesLine (Err e) r = r ≡ Some e
