-- Widths and gate bounds of well-formed lists.
use Rattle.std.proofs.Common.{◌≡◌, ℕ, ◌+◌, ◌*◌, ◌^◌, ◌<◌, ◌≤◌, nat_lt, Bool, true, false, cond, List, [], ◌∷◌, length, Option, Some, None, is_some, unwrap_or, option_and_then, slice_get, take, get_or, sum_by, not, ◌&&◌, refl, sym, ap, subst, ◌∙◌, arith}
use Rattle.std.proofs.Math.Nat.{mul-le-mul_left}
use Rattle.std.proofs.lemmas.Bool.{false≢true}
use Rattle.std.proofs.lemmas.Option.{slice_get_read}
use Rattle.std.proofs.lemmas.List.{take_all}
use Rattle.std.proofs.lemmas.List.Sums.{count_by-le-length, sum_by-le, sum_by_more, sum_by_more_le, sum_by-cons}
use Rattle.base.specs.declared.operators.Unary.{Unary}
use Rattle.base.specs.declared.operators.Unary.TheVariants as unary
use Rattle.base.specs.declared.operators.Binary.{Binary}
use Rattle.base.specs.declared.operators.Binary.TheVariants as binary
use Rattle.base.specs.Widths.{is_reduction, is_test}
use Rattle.gates.specs.Bound.{log_up, unary_bound, binary_bound}
use Rattle.btor2.specs.declared.item.Item.{Item}
use Rattle.btor2.specs.declared.item.Body.{Body}
use Rattle.btor2.specs.declared.item.Body.TheVariants as body
use Rattle.btor2.specs.Items.{position_of, node_sort, sort_width, width_of_body, node_width, is_state, is_free, is_free_state, is_carried_state}
use Rattle.btor2.specs.Lists.{width_at}
use Rattle.btor2.specs.Check.{IsWellFormed}
use Rattle.btor2.specs.Trace.{bits_of}
use Rattle.btor2.specs.Leaves.{kind_width}
use Rattle.btor2.proofs.AppendLemmas.{is_some_from, sort_width-append, node_width-append}
use Rattle.btor2.proofs.AcceptedLemmas.{BodyIsAccepted}
use Rattle.btor2.proofs.ModelLemmas.{IsIn, IsIn-from_place, IsAccepted-at, node_width-range, few_items}
use Rattle.btor2.proofs.LeafLemmas.{bits_of-at, bits_of-most}
use Rattle.btor2.proofs.LookUps.{position_found, no_item}
use Rattle.blast.specs.Cost.{line_cost, cost, input_width, state_width, given_width, carried_width}
use Rattle.blast.specs.Leaves.{by_body}

-- the width at the place of an id is that of its node
pub width_at-position : (items : List Item) (id k : ℕ) → position_of items id ≡ Some k → width_at items k ≡ node_width items id
width_at-position items id k h = ap (option_and_then (λ (y : Item). width_of_body items y.body)) (position_found items id k h)

-- a node with a value has a place
pub no_node : (items : List Item) (id : ℕ) → position_of items id ≡ None → is_some (node_width items id) ≡ false
no_node items id h = ap (λ (o : Option Item). is_some (option_and_then (λ (y : Item). width_of_body items y.body) o)) (no_item items id h)

-- no operator takes more gates than this
square_most : (n : ℕ) → n ≤ 64 → n * n ≤ 4096
square_most n h = omega (arith, mul-le-mul_left n h)

logged_most : (n : ℕ) → n ≤ 64 → n * log_up n ≤ 384
logged_most n h = omega (arith, mul-le-mul_left n (count_by-le-length (λ k. nat_lt (2 ^ k) n) (0 ∷ 1 ∷ 2 ∷ 3 ∷ 4 ∷ 5 ∷ [])))

unary_most : (op : Unary) (n : ℕ) → n ≤ 64 → unary_bound op n ≤ 262144
unary_most unary.Not n h = omega arith
unary_most _ n h = omega arith

binary_most : (op : Binary) (n : ℕ) → n ≤ 64 → binary_bound op n ≤ 262144
binary_most binary.Sll n h = omega (arith, logged_most n h)
binary_most binary.Srl n h = omega (arith, logged_most n h)
binary_most binary.Sra n h = omega (arith, logged_most n h)
binary_most _ n h = omega (arith, square_most n h)

pub line_cost-most : (items : List Item) (b : Body) → IsWellFormed items → line_cost items b ≤ 262144
line_cost-most items (body.Unary op s a) w = unary_most op (bits_of items a) (bits_of-most items a w)
line_cost-most items (body.Binary op s a b) w = binary_most op (bits_of items a) (bits_of-most items a w)
line_cost-most items (body.Ite s c t e) w = omega (arith, bits_of-most items t w)
line_cost-most items _ w = omega arith

pub cost-small : (items : List Item) → IsWellFormed items → cost items < 2 ^ 39
cost-small items w = omega (arith, few_items items w, sum_by-le (λ (x : Item). line_cost items x.body) 262144 items (λ k d below. line_cost-most items (get_or items k d).body w))

-- an operand of a line: a node, and as wide as the line where its operator does not change the width
pub record IsOperandOf (items : List Item) (x : Item) (a : ℕ) (changed : Bool) : Type 0 where
  pub there : is_some (node_width items a) ≡ true
  pub kept : changed ≡ false → bits_of items x.id ≡ bits_of items a

-- from what the lines before say of the operand and of the line's sort
operand_of : (items : List Item) (k : ℕ) (x : Item) (i : IsIn items x) (s a n : ℕ) (changed : Bool) → IsWellFormed items → slice_get items k ≡ Some x → node_sort x.body ≡ Some s
    → node_width i.before a ≡ Some n → sort_width i.before s ≡ Some (cond changed 1 n) → IsOperandOf items x a changed
operand_of items k x i s a n changed w at sorted node sort =
    let read = λ (o : Option ℕ). unwrap_or o 0 in
    let there : node_width items a ≡ Some n = ap (λ (l : List Item). node_width l a) i.splits ∙ node_width-append i.before (x ∷ i.after) a n node in
    let wide : sort_width items s ≡ Some (cond changed 1 n) = ap (λ (l : List Item). sort_width l s) i.splits ∙ sort_width-append i.before (x ∷ i.after) s (cond changed 1 n) sort in
    let own : bits_of items x.id ≡ cond changed 1 n = sym (bits_of-at items k x w at) ∙ ap read (ap (option_and_then (λ (y : Item). width_of_body items y.body)) at ∙ ap (option_and_then (sort_width items)) sorted ∙ wide) in
    record {
      there = is_some_from (node_width items a) n there;
      kept = λ same. own ∙ ap (λ (b : Bool). cond b 1 n) same ∙ sym (ap read there);
    }

pub unary_operand : (items : List Item) (k : ℕ) (x : Item) (op : Unary) (s a : ℕ) → IsWellFormed items → slice_get items k ≡ Some x → x.body ≡ body.Unary op s a → IsOperandOf items x a (is_reduction op)
unary_operand items k x op s a w at is =
    let i = (IsIn-from_place items k x at).0 in
    let says = subst (BodyIsAccepted i.before) is (IsAccepted-at items x w i).says in
    operand_of items k x i s a says.0 (is_reduction op) w at (ap node_sort is) says.1 says.2

pub binary_operand : (items : List Item) (k : ℕ) (x : Item) (op : Binary) (s a b : ℕ) → IsWellFormed items → slice_get items k ≡ Some x → x.body ≡ body.Binary op s a b → IsOperandOf items x a (is_test op)
binary_operand items k x op s a b w at is =
    let i = (IsIn-from_place items k x at).0 in
    let says = subst (BodyIsAccepted i.before) is (IsAccepted-at items x w i).says in
    operand_of items k x i s a says.0 (is_test op) w at (ap node_sort is) says.1 says.3

pub ite_operand : (items : List Item) (k : ℕ) (x : Item) (s c t e : ℕ) → IsWellFormed items → slice_get items k ≡ Some x → x.body ≡ body.Ite s c t e → IsOperandOf items x t false
ite_operand items k x s c t e w at is =
    let i = (IsIn-from_place items k x at).0 in
    let says = subst (BodyIsAccepted i.before) is (IsAccepted-at items x w i).says in
    operand_of items k x i s t says.0 false w at (ap node_sort is) says.2 says.4

-- the width of a node is at least 1
pub bits_of-least : (items : List Item) (id : ℕ) → IsWellFormed items → is_some (node_width items id) ≡ true → 1 ≤ bits_of items id
bits_of-least items id w there = least (node_width items id) refl there
  where
    least : (o : Option ℕ) → node_width items id ≡ o → is_some o ≡ true → 1 ≤ unwrap_or o 0
    least (Some n) e h = (node_width-range items id n w e).0
    least None e h = absurd (false≢true h)

-- a sum so far, with the next item's part
pub sum_step : {A : Type 0} (f : A → ℕ) (xs : List A) (i total n : ℕ) (x : A) → i < length xs → x ≡ get_or xs i x → total ≡ sum_by f (take i xs) → n ≡ f x
    → (total + n ≡ sum_by f (take (i + 1) xs)) × (total + n ≤ sum_by f xs)
sum_step f xs i total n x h is sum own =
    let next : n ≡ f (get_or xs i x) = own ∙ ap f is in
    (omega (arith, sum_by_more f xs i x h), omega (arith, sum_by_more_le f xs i x h))

pub sum_whole : {A : Type 0} (f : A → ℕ) (xs ys : List A) (i total : ℕ) → length xs ≤ i → xs ≡ ys → total ≡ sum_by f (take i xs) → total ≡ sum_by f ys
sum_whole f xs ys i total h same sum = sum ∙ ap (sum_by f) (take_all i xs h ∙ same)

-- the item that a list gives at a place, in an equal list
pub item_read : (xs ys : List Item) (i : ℕ) (x : Item) → xs ≡ ys → i < length xs → x ≡ get_or xs i x → slice_get ys i ≡ Some x
item_read xs ys i x same h is = rw (← same) (slice_get_read xs (length xs) i x refl h is)

-- each state is free or carried
pub states_width : (items xs : List Item) → kind_width items (is_free_state items) xs + kind_width items (is_carried_state items) xs ≡ kind_width items (by_body is_state) xs
states_width items [] = refl
states_width items (x ∷ xs) =
    omega (
      arith,
      states_width items xs,
      parts (is_state x.body) (is_free items x.id) (bits_of items x.id),
      sum_by-cons (λ (y : Item). cond (is_free_state items y) (bits_of items y.id) 0) x xs,
      sum_by-cons (λ (y : Item). cond (is_carried_state items y) (bits_of items y.id) 0) x xs,
      sum_by-cons (λ (y : Item). cond (is_state y.body) (bits_of items y.id) 0) x xs,
    )
  where
    parts : (b c : Bool) (n : ℕ) → cond (b && c) n 0 + cond (b && not c) n 0 ≡ cond b n 0
    parts true true n = omega arith
    parts true false n = omega arith
    parts false c n = refl

-- so the bits that are given and those that are carried are those of the inputs and of the states
pub leaves_width : (items : List Item) → given_width items + carried_width items ≡ input_width items + state_width items
leaves_width items = omega (arith, states_width items items)
