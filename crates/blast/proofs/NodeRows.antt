-- The rows of a model so far, and one row more: one lemma for each form.
use Rattle.std.proofs.Common.{◌≡◌, ℕ, zero, suc, ◌+◌, ◌*◌, ◌≤◌, Bool, true, false, not, ◌||◌, ◌&&◌, ◌==◌, ◌<◌, cond, List, [], ◌∷◌, ◌++◌, length, Option, Some, unwrap_or, option_and_then, slice_get, get_or, take, map, sum_by, ◌⊎◌, inl, inr, refl, sym, ap, ap₂, subst, ◌∙◌, arith, length-append, add-one, ⊎_elim}
use Rattle.std.specs.List.{range_with_len}
use Rattle.std.proofs.lemmas.Option.{none-some, same_Some, slice_get_within, get_or_from_slice_get}
use Rattle.std.proofs.lemmas.Bool.Decides.{nat_tests}
use Rattle.std.proofs.lemmas.List.{take_at, take_all, take_more, map_push, length-map}
use Rattle.std.proofs.lemmas.List.Sums.{sum_by_more, sum_by_more_le, sum_by-take-le}
use Rattle.base.specs.Word.{bits}
use Rattle.base.specs.Operator.{unary_value, binary_value}
use Rattle.base.specs.Widths.{is_of_bits, unary_width, binary_width}
use Rattle.base.specs.declared.operators.Unary.{Unary}
use Rattle.base.specs.declared.operators.Binary.{Binary}
use Rattle.btor2.specs.declared.item.Item.{Item}
use Rattle.btor2.specs.declared.item.Body.{Body}
use Rattle.btor2.specs.declared.item.Body.TheVariants as body
use Rattle.btor2.specs.Items.{width_of_body, sort_width, is_input, is_state, is_free, is_free_state, is_carried_state, node_width}
use Rattle.btor2.specs.Lists.{places, is_free_at}
use Rattle.btor2.specs.Check.{IsWellFormed}
use Rattle.btor2.specs.Trace.{Frame, bits_of, LineHolds}
use Rattle.btor2.specs.Leaves.{kind_width}
use Rattle.btor2.proofs.AppendLemmas.{sort_width-append, node_width-append}
use Rattle.btor2.proofs.AcceptedLemmas.{BodyIsAccepted}
use Rattle.btor2.proofs.ModelLemmas.{IsIn-from_place, IsAccepted-at, IsIn}
use Rattle.btor2.proofs.LeafLemmas.{bits_of-at, free_at}
use Rattle.base.specs.Literal.{Valuation}
use Rattle.aiger.specs.Net.{Net, variables, bits_from}
use Rattle.aiger.proofs.NetLemmas.{length-bits_from, bits_from-append}
use Rattle.gates.specs.Bound.{unary_bound, binary_bound}
use Rattle.gates.specs.Made.{Grows}
use Rattle.gates.proofs.GrowthLemmas.{Grows-refl, Grows-trans, variables-grown}
use Rattle.blast.specs.Leaves.{by_body, given_by_kind, leaf_bits, input_bits}
use Rattle.blast.specs.Cost.{line_cost, cost, input_width, given_width, bound}
use Rattle.blast.specs.declared.nodes.NextLeaf.{NextLeaf}
use Rattle.blast.specs.Reads.{Together, RowReads, leaves_only, LowersNodes}
use Rattle.blast.specs.Table.{MakesNode, MakesRow, IsOperand, cost_among, next_leaf, next_after, LowersFront}
use Rattle.blast.proofs.WidthLemmas.{leaves_width}
use Rattle.blast.proofs.NodeLemmas.{MakesRow-from_node, MakesNode-variables, length-leaves, leaf_variables, same_parts, length-range, LineHolds-at, IsOperand-from_front, RowsRead-later}

-- The rows so far.

-- one more place of a range
pub range-push : (start count : ℕ) → range_with_len start (count + 1) ≡ range_with_len start count ++ (start + count) ∷ []
range-push start count = ap (range_with_len start) (add-one count) ∙ more start count
  where
    more : (start count : ℕ) → range_with_len start (suc count) ≡ range_with_len start count ++ (start + count) ∷ []
    more start zero = ap (λ (k : ℕ). k ∷ []) (omega arith)
    more start (suc count) =
        ap (λ (l : List ℕ). start ∷ l) (more (start + 1) count ∙ ap (λ (k : ℕ). range_with_len (start + 1) count ++ k ∷ []) (omega arith))

-- the literals of one variable more
pub variables-push : (first count : ℕ) (row row' : List ℕ) → row ≡ map (λ i. 2 * (first + i)) (range_with_len 0 count) → row' ≡ row ++ (2 * (first + count)) ∷ [] → row' ≡ map (λ i. 2 * (first + i)) (range_with_len 0 (count + 1))
variables-push first count row row' is is' =
    is' ∙ ap (λ (l : List ℕ). l ++ (2 * (first + count)) ∷ []) is ∙ sym (map_push (λ i. 2 * (first + i)) (range_with_len 0 count) count)
    ∙ ap (map (λ i. 2 * (first + i))) (ap (λ (k : ℕ). range_with_len 0 count ++ k ∷ []) (omega arith) ∙ sym (range-push 0 count))

pub length-variables : (first count : ℕ) (row : List ℕ) → row ≡ map (λ i. 2 * (first + i)) (range_with_len 0 count) → length row ≡ count
length-variables first count row is = ap length is ∙ length-map (range_with_len 0 count) (λ i. 2 * (first + i)) ∙ length-range 0 count

-- an item stands behind as many as its place counts
pub record Stands (items : List Item) (place : ℕ) (x : Item) : Type 0 where
  pub before : List Item
  pub after : List Item
  pub splits : items ≡ before ++ x ∷ after
  pub front : take place items ≡ before
  pub many : length before ≡ place

pub Stands-from_place : (items : List Item) (place : ℕ) (x : Item) → slice_get items place ≡ Some x → Stands items place x
Stands-from_place items place x at =
    let there = IsIn-from_place items place x at in
    let w = there.0 in
    record {
      before = w.before;
      after = w.after;
      splits = w.splits;
      front = ap (take place) w.splits ∙ take_at w.before (x ∷ w.after) place there.1;
      many = there.1;
    }

-- a sum over one item more, which is within the whole sum
among-more : (g : Item → ℕ) (items : List Item) (place : ℕ) (x : Item) → slice_get items place ≡ Some x
    → (sum_by g (take (place + 1) items) ≡ sum_by g (take place items) + g x) × (sum_by g (take place items) + g x ≤ sum_by g items)
among-more g items place x at =
    let within = slice_get_within items place x at in
    let same : g (get_or items place x) ≡ g x = ap g (get_or_from_slice_get items place x x at) in
    (omega (arith, sum_by_more g items place x within), omega (arith, sum_by_more_le g items place x within))

-- the gates of one line more still fit
pub line_fits : (items : List Item) (place : ℕ) (n : Net) (rows : List (List ℕ)) (next : NextLeaf) (x : Item) → LowersFront items place n rows next → slice_get items place ≡ Some x → bound items ≤ 1073741824
    → variables n + line_cost items x.body ≤ 1073741824
line_fits items place n rows next x front at fits =
    let more = among-more (λ (y : Item). line_cost items y.body) items place x at in
    let made = variables-grown (leaves_only items) n (cost_among items (take place items)) front.grows in
    omega (arith, more.1, made.1, leaves_width items)

-- the bits that are given are those of the inputs and those of the free states
given_parts : (items : List Item) (input : Frame) (v : Valuation) → bits_from 1 (given_width items) v ≡ input_bits items input
    → (bits_from 1 (input_width items) v ≡ given_by_kind (by_body is_input) (leaf_bits items input) items)
    × (bits_from (1 + input_width items) (kind_width items (is_free_state items) items) v ≡ given_by_kind (is_free_state items) (leaf_bits items input) items)
given_parts items input v e =
    same_parts (bits_from 1 (input_width items) v) (bits_from (1 + input_width items) (kind_width items (is_free_state items) items) v) (given_by_kind (by_body is_input) (leaf_bits items input) items) (given_by_kind (is_free_state items) (leaf_bits items input) items)
    (sym (bits_from-append 1 (input_width items) (kind_width items (is_free_state items) items) v) ∙ e)
    (length-bits_from 1 (input_width items) v ∙ sym (length-leaves items (by_body is_input) input items))

-- a leaf's row: it is one of a kind whose bits are so many variables from a first one on, and `own` has its word in a frame
MakesRow-leaf : (items : List Item) (place : ℕ) (n : Net) (x : Item) (kind : Item → Bool) (first next : ℕ) (row : List ℕ) (own : Frame → Frame → Frame) → IsWellFormed items → slice_get items place ≡ Some x → kind x ≡ true
    → 0 < first → first + kind_width items kind items ≤ suc (variables n) → next ≡ first + kind_width items kind (take place items) → row ≡ map (λ i. 2 * (next + i)) (range_with_len 0 (bits_of items x.id))
    → ((state input f : Frame) (v : Valuation) → Together items n state input f v → (bits_from first (kind_width items kind items) v ≡ given_by_kind kind (leaf_bits items (own state input)) items) × (f x.id ≡ own state input x.id))
    → MakesRow items n n x row
MakesRow-leaf items place n x kind first next row own w at is_kind some room is_next row_is reads =
    let there = Stands-from_place items place x at in
    let starts : next ≡ first + kind_width items kind there.before = is_next ∙ ap (λ (l : List Item). first + kind_width items kind l) there.front in
    let more = among-more (λ (y : Item). cond (kind y) (bits_of items y.id) 0) items place x at in
    let part : cond (kind x) (bits_of items x.id) 0 ≡ bits_of items x.id = ap (λ (b : Bool). cond b (bits_of items x.id) 0) is_kind in
    let wide : unwrap_or (width_of_body items x.body) 0 ≡ bits_of items x.id =
    sym (ap (λ (o : Option ℕ). unwrap_or o 0) (ap (option_and_then (λ (y : Item). width_of_body items y.body)) at)) ∙ bits_of-at items place x w at in
    MakesRow-from_node items n n x 0 (bits_of items x.id) (λ f. f x.id) row (omega arith) wide (λ state inp f h. refl)
    (MakesNode-variables items n next (bits_of items x.id) (λ f. f x.id) row (omega arith) (omega (arith, more.1, part)) row_is
    (λ state inp f v t.
    let says = reads state inp f v t in
    ap (λ (k : ℕ). bits_from k (bits_of items x.id) v) starts ∙ leaf_variables items there.before there.after x kind (own state inp) v first there.splits is_kind says.0 ∙ ap (bits (bits_of items x.id)) (sym says.1)))

-- an input's row
pub MakesRow-input : (items : List Item) (place : ℕ) (n : Net) (rows : List (List ℕ)) (next : NextLeaf) (x : Item) (s : ℕ) (row : List ℕ) → IsWellFormed items → LowersFront items place n rows next → slice_get items place ≡ Some x
    → x.body ≡ body.Input s → row ≡ map (λ i. 2 * (next.input + i)) (range_with_len 0 (bits_of items x.id)) → MakesRow items n n x row
MakesRow-input items place n rows next x s row w front at is row_is =
    MakesRow-leaf items place n x (by_body is_input) 1 next.input row (λ state input. input) w at (ap is_input is) (omega arith) (omega (arith, front.grows.inputs)) (ap (λ (l : NextLeaf). l.input) front.leaves ∙ omega arith) row_is
    (λ state inp f v t.
    let given : bits_from 1 (given_width items) v ≡ input_bits items inp = ap (λ (k : ℕ). bits_from 1 k v) (sym front.grows.inputs) ∙ t.inputs in
    ((given_parts items inp v given).0, subst (LineHolds items state inp f x.id) is (LineHolds-at items state inp f items place x t.frame at)))

-- a state's row
pub MakesRow-state : (items : List Item) (place : ℕ) (n : Net) (rows : List (List ℕ)) (next : NextLeaf) (x : Item) (s : ℕ) (row : List ℕ) → IsWellFormed items → LowersFront items place n rows next → slice_get items place ≡ Some x
    → x.body ≡ body.State s → row ≡ map (λ i. 2 * (cond (is_free items x.id) next.free next.carried + i)) (range_with_len 0 (bits_of items x.id)) → MakesRow items n n x row
MakesRow-state items place n rows next x s row w front at is row_is = by (is_free items x.id) refl row_is
  where
    word_of : (b : Bool) → is_free items x.id ≡ b → (state inp f : Frame) (v : Valuation) → Together items n state inp f v → f x.id ≡ cond b (inp x.id) (state x.id)
    word_of b e state inp f v t = subst (LineHolds items state inp f x.id) is (LineHolds-at items state inp f items place x t.frame at) ∙ ap (λ (c : Bool). cond c (inp x.id) (state x.id)) e

    by : (b : Bool) → is_free items x.id ≡ b → row ≡ map (λ i. 2 * (cond b next.free next.carried + i)) (range_with_len 0 (bits_of items x.id)) → MakesRow items n n x row
    by true e row_is =
        MakesRow-leaf items place n x (is_free_state items) (1 + input_width items) next.free row (λ state input. input) w at (ap₂ ◌&&◌ (ap is_state is) e) (omega arith) (omega (arith, front.grows.inputs)) (ap (λ (l : NextLeaf). l.free) front.leaves ∙ omega arith) row_is
        (λ state inp f v t.
        let given : bits_from 1 (given_width items) v ≡ input_bits items inp = ap (λ (k : ℕ). bits_from 1 k v) (sym front.grows.inputs) ∙ t.inputs in
        ((given_parts items inp v given).1, word_of true e state inp f v t))
    by false e row_is =
        MakesRow-leaf items place n x (is_carried_state items) (suc (given_width items)) next.carried row (λ state input. state) w at (ap₂ (λ (b c : Bool). b && not c) (ap is_state is) e) (omega arith)
        (omega (arith, front.grows.inputs, front.grows.latches)) (ap (λ (l : NextLeaf). l.carried) front.leaves ∙ omega arith) row_is
        (λ state inp f v t. (ap₂ (λ (i l : ℕ). bits_from (suc i) l v) (sym front.grows.inputs) (sym front.grows.latches) ∙ t.latches, word_of false e state inp f v t))

-- Operands and sorts of a line in a well-formed list.

pub operand_at : (items : List Item) (place : ℕ) (n : Net) (rows : List (List ℕ)) (next : NextLeaf) (x : Item) (a width : ℕ) → IsWellFormed items → LowersFront items place n rows next → (there : (w : IsIn items x) × (length w.before ≡ place))
    → node_width there.0.before a ≡ Some width → IsOperand items n rows a × (bits_of items a ≡ width)
operand_at items place n rows next x a width w front there node = (
  IsOperand-from_front items there.0.before (x ∷ there.0.after) n rows a width w there.0.splits node (front.all ∙ sym there.1) front.reads,
  ap (λ (l : List Item). bits_of l a) there.0.splits ∙ ap (λ (o : Option ℕ). unwrap_or o 0) (node_width-append there.0.before (x ∷ there.0.after) a width node),
)

pub sort_at : (items : List Item) (x : Item) (s width : ℕ) → (i : IsIn items x) → sort_width i.before s ≡ Some width → sort_width items s ≡ Some width
sort_at items x s width i h = ap (λ (l : List Item). sort_width l s) i.splits ∙ sort_width-append i.before (x ∷ i.after) s width h

pub sort_wide : (items : List Item) (s width : ℕ) → sort_width items s ≡ Some width → unwrap_or (sort_width items s) 0 ≡ width
sort_wide items s width h = ap (λ (o : Option ℕ). unwrap_or o 0) h

-- the row of a line of a form from what the form makes
pub MakesRow-form : (items : List Item) (place : ℕ) (old new : Net) (x : Item) (b : Body) (width : ℕ) (value : Frame → ℕ) (row : List ℕ) → slice_get items place ≡ Some x → x.body ≡ b → unwrap_or (width_of_body items b) 0 ≡ width
    → ((state input f : Frame) → LineHolds items state input f x.id b → f x.id ≡ value f) → MakesNode items old new (line_cost items b) width value row → MakesRow items old new x row
MakesRow-form items place old new x b width value row at is wide says m =
    let same : line_cost items x.body ≡ line_cost items b = ap (line_cost items) is in
    MakesRow-from_node items old new x (line_cost items b) width value row (omega (arith, same)) (ap (λ (c : Body). unwrap_or (width_of_body items c) 0) is ∙ wide)
    (λ state input f h. says state input f (subst (LineHolds items state input f x.id) is (LineHolds-at items state input f items place x h at))) m

-- and its gates fit
pub form_fits : (items : List Item) (place : ℕ) (n : Net) (rows : List (List ℕ)) (next : NextLeaf) (x : Item) (b : Body) → LowersFront items place n rows next → slice_get items place ≡ Some x → bound items ≤ 1073741824 → x.body ≡ b
    → variables n + line_cost items b ≤ 1073741824
form_fits items place n rows next x b front at fits is = subst (λ (c : Body). variables n + line_cost items c ≤ 1073741824) is (line_fits items place n rows next x front at fits)

-- what a line of one operand is in a well-formed list
pub record UnaryStands (items : List Item) (n : Net) (rows : List (List ℕ)) (op : Unary) (s a : ℕ) : Type 0 where
  pub operand : IsOperand items n rows a
  pub wide : unwrap_or (sort_width items s) 0 ≡ unary_width op (bits_of items a)

pub UnaryStands-at : (items : List Item) (place : ℕ) (n : Net) (rows : List (List ℕ)) (next : NextLeaf) (x : Item) (op : Unary) (s a : ℕ) → IsWellFormed items → LowersFront items place n rows next → slice_get items place ≡ Some x
    → x.body ≡ body.Unary op s a → UnaryStands items n rows op s a
UnaryStands-at items place n rows next x op s a w front at is =
    let there = IsIn-from_place items place x at in
    let says = subst (BodyIsAccepted there.0.before) is (IsAccepted-at items x w there.0).says in
    let of_a = operand_at items place n rows next x a says.0 w front there says.1 in
    record {
      operand = of_a.0;
      wide = sort_wide items s (unary_width op says.0) (sort_at items x s (unary_width op says.0) there.0 says.2) ∙ ap (unary_width op) (sym of_a.1);
    }

pub MakesRow-unary : (items : List Item) (place : ℕ) (old new : Net) (rows : List (List ℕ)) (next : NextLeaf) (x : Item) (op : Unary) (s a : ℕ) (row : List ℕ) → IsWellFormed items → LowersFront items place old rows next → slice_get items place ≡ Some x
    → x.body ≡ body.Unary op s a → MakesNode items old new (unary_bound op (bits_of items a)) (unary_width op (bits_of items a)) (λ f. unary_value op (bits_of items a) (f a)) row → MakesRow items old new x row
MakesRow-unary items place old new rows next x op s a row w front at is m =
    MakesRow-form items place old new x (body.Unary op s a) (unary_width op (bits_of items a)) (λ f. unary_value op (bits_of items a) (f a)) row at is (UnaryStands-at items place old rows next x op s a w front at is).wide (λ state input f h. h) m

-- a number that is tested to be one
is_one : (n : ℕ) → (n == 1) ≡ true → n ≡ 1
is_one n h = grind (arith, nat_tests)

-- what a line of two operands is in a well-formed list
pub record BinaryStands (items : List Item) (n : Net) (rows : List (List ℕ)) (op : Binary) (s a b : ℕ) : Type 0 where
  pub left : IsOperand items n rows a
  pub right : IsOperand items n rows b
  pub equal : bits_of items b ≡ bits_of items a
  pub of_bits : is_of_bits op ≡ true → bits_of items a ≡ 1
  pub wide : unwrap_or (sort_width items s) 0 ≡ binary_width op (bits_of items a)

pub BinaryStands-at : (items : List Item) (place : ℕ) (n : Net) (rows : List (List ℕ)) (next : NextLeaf) (x : Item) (op : Binary) (s a b : ℕ) → IsWellFormed items → LowersFront items place n rows next → slice_get items place ≡ Some x
    → x.body ≡ body.Binary op s a b → BinaryStands items n rows op s a b
BinaryStands-at items place n rows next x op s a b w front at is =
    let there = IsIn-from_place items place x at in
    let says = subst (BodyIsAccepted there.0.before) is (IsAccepted-at items x w there.0).says in
    let of_a = operand_at items place n rows next x a says.0 w front there says.1 in
    let of_b = operand_at items place n rows next x b says.0 w front there says.2 in
    record {
      left = of_a.0;
      right = of_b.0;
      equal = of_b.1 ∙ sym of_a.1;
      of_bits = λ single. let one : (not true || (says.0 == 1)) ≡ true = rw single at says.4 in of_a.1 ∙ is_one says.0 one;
      wide = sort_wide items s (binary_width op says.0) (sort_at items x s (binary_width op says.0) there.0 says.3) ∙ ap (binary_width op) (sym of_a.1);
    }

pub MakesRow-binary : (items : List Item) (place : ℕ) (old new : Net) (rows : List (List ℕ)) (next : NextLeaf) (x : Item) (op : Binary) (s a b : ℕ) (row : List ℕ) → IsWellFormed items → LowersFront items place old rows next → slice_get items place ≡ Some x
    → x.body ≡ body.Binary op s a b → MakesNode items old new (binary_bound op (bits_of items a)) (binary_width op (bits_of items a)) (λ f. binary_value op (bits_of items a) (f a) (f b)) row → MakesRow items old new x row
MakesRow-binary items place old new rows next x op s a b row w front at is m =
    MakesRow-form items place old new x (body.Binary op s a b) (binary_width op (bits_of items a)) (λ f. binary_value op (bits_of items a) (f a) (f b)) row at is (BinaryStands-at items place old rows next x op s a b w front at is).wide (λ state input f h. h) m

-- What the next leaf has.

pub next_same : (i f c s i' f' c' s' : ℕ) → i ≡ i' → f ≡ f' → c ≡ c' → s ≡ s'
    → (let l : NextLeaf = record { input = i; free = f; carried = c; state = s } in l) ≡ record { input = i'; free = f'; carried = c'; state = s' }
next_same i f c s i' f' c' s' p q r t = rw (p, q, r, t) refl

-- the places of two lists
pub places-append : (list : Body → Bool) (n : ℕ) (xs ys : List Item) → places list n (xs ++ ys) ≡ places list n xs ++ places list (n + length xs) ys
places-append list n [] ys = ap (λ (k : ℕ). places list k ys) (omega arith)
places-append list n (x ∷ xs) ys = by (list x.body) (places-append list (suc n) xs ys ∙ ap (λ (k : ℕ). places list (suc n) xs ++ places list k ys) (omega arith))
  where
    by : (b : Bool) → places list (suc n) (xs ++ ys) ≡ places list (suc n) xs ++ places list (n + suc (length xs)) ys
        → cond b (n ∷ places list (suc n) (xs ++ ys)) (places list (suc n) (xs ++ ys)) ≡ cond b (n ∷ places list (suc n) xs) (places list (suc n) xs) ++ places list (n + suc (length xs)) ys
    by true e = ap (λ (l : List ℕ). n ∷ l) e
    by false e = e

-- one item more
pub states_more : (items : List Item) (place : ℕ) (x : Item) → slice_get items place ≡ Some x
    → length (places is_state 0 (take (place + 1) items)) ≡ length (places is_state 0 (take place items)) + cond (is_state x.body) 1 0
states_more items place x at =
    let within = slice_get_within items place x at in
    let whole : take (place + 1) items ≡ take place items ++ x ∷ [] = take_more items place x within ∙ ap (λ (y : Item). take place items ++ y ∷ []) (get_or_from_slice_get items place x x at) in
    ap (λ (l : List Item). length (places is_state 0 l)) whole ∙ ap length (places-append is_state 0 (take place items) (x ∷ []))
    ∙ length-append (places is_state 0 (take place items)) (places is_state (0 + length (take place items)) (x ∷ [])) ∙ ap (λ (k : ℕ). length (places is_state 0 (take place items)) + k) (one (is_state x.body))
  where
    one : (b : Bool) → length (cond b ((0 + length (take place items)) ∷ []) []) ≡ cond b 1 0
    one true = refl
    one false = refl

-- what a leaf more changes
leaf_step : (items : List Item) (id : ℕ) (b : Body) (free : Bool) (i f c s base given w : ℕ)
    → (let l : NextLeaf = record { input = suc (i + cond (is_input b) w 0); free = suc (base + (f + cond (is_state b && free) w 0)); carried = suc (given + (c + cond (is_state b && not free) w 0)); state = s + cond (is_state b) 1 0 } in l)
    ≡ (cond (is_input b) (record { input = suc i + w; free = suc (base + f); carried = suc (given + c); state = s })
    (cond (is_state b) (cond free (record { input = suc i; free = suc (base + f) + w; carried = suc (given + c); state = suc s }) (record { input = suc i; free = suc (base + f); carried = suc (given + c) + w; state = suc s }))
    (record { input = suc i; free = suc (base + f); carried = suc (given + c); state = s })))
leaf_step items id (body.Input t) free i f c s base given w = next_same _ _ _ _ _ _ _ _ (omega arith) (omega arith) (omega arith) (omega arith)
leaf_step items id (body.State t) true i f c s base given w = next_same _ _ _ _ _ _ _ _ (omega arith) (omega arith) (omega arith) (omega arith)
leaf_step items id (body.State t) false i f c s base given w = next_same _ _ _ _ _ _ _ _ (omega arith) (omega arith) (omega arith) (omega arith)
leaf_step items id _ free i f c s base given w = next_same _ _ _ _ _ _ _ _ (omega arith) (omega arith) (omega arith) (omega arith)

pub next_leaf-more : (items : List Item) (place : ℕ) (x : Item) → slice_get items place ≡ Some x → next_leaf items (take (place + 1) items) ≡ next_after items x (next_leaf items (take place items))
next_leaf-more items place x at =
    let ins = among-more (λ (y : Item). cond (is_input y.body) (bits_of items y.id) 0) items place x at in
    let frees = among-more (λ (y : Item). cond (is_free_state items y) (bits_of items y.id) 0) items place x at in
    let carrieds = among-more (λ (y : Item). cond (is_carried_state items y) (bits_of items y.id) 0) items place x at in
    next_same _ _ _ _ _ _ _ _ (ap suc ins.0) (ap (λ (k : ℕ). suc (input_width items + k)) frees.0) (ap (λ (k : ℕ). suc (given_width items + k)) carrieds.0) (states_more items place x at)
    ∙ leaf_step items x.id x.body (is_free items x.id) (kind_width items (by_body is_input) (take place items)) (kind_width items (is_free_state items) (take place items)) (kind_width items (is_carried_state items) (take place items))
    (length (places is_state 0 (take place items))) (input_width items) (given_width items) (bits_of items x.id)

-- the next variables are those of a circuit that is small enough
pub record AreSmall (next : NextLeaf) : Type 0 where
  pub input : next.input ≤ 1073741825
  pub free : next.free ≤ 1073741825
  pub carried : next.carried ≤ 1073741825

pub AreSmall-from_bound : (items : List Item) (place : ℕ) (next : NextLeaf) → next ≡ next_leaf items (take place items) → bound items ≤ 1073741824 → AreSmall next
AreSmall-from_bound items place next e h =
    let leaves = leaves_width items in
    record {
      input = omega (arith, ap (λ (l : NextLeaf). l.input) e, sum_by-take-le (λ (y : Item). cond (is_input y.body) (bits_of items y.id) 0) items place);
      free = omega (arith, ap (λ (l : NextLeaf). l.free) e, leaves, sum_by-take-le (λ (y : Item). cond (is_free_state items y) (bits_of items y.id) 0) items place);
      carried = omega (arith, ap (λ (l : NextLeaf). l.carried) e, leaves, sum_by-take-le (λ (y : Item). cond (is_carried_state items y) (bits_of items y.id) 0) items place);
    }

-- the number of states before a state is its place among them
pub record IsNextState (items : List Item) (place k : ℕ) : Type 0 where
  pub within : k < length (places is_state 0 items)
  pub at : get_or (places is_state 0 items) k 0 ≡ place
  pub few : k ≤ length items

IsNextState-split : (ps qs : List ℕ) (place k : ℕ) → k ≡ length ps → (k < length (ps ++ place ∷ qs)) × (get_or (ps ++ place ∷ qs) k 0 ≡ place)
IsNextState-split ps qs place k e = (omega (arith, length-append ps (place ∷ qs)), ap (λ (j : ℕ). get_or (ps ++ place ∷ qs) j 0) e ∙ here ps)
  where
    here : (rs : List ℕ) → get_or (rs ++ place ∷ qs) (length rs) 0 ≡ place
    here [] = refl
    here (r ∷ rs) = here rs

pub length-places : (list : Body → Bool) (n : ℕ) (xs : List Item) → length (places list n xs) ≤ length xs
length-places list n [] = omega arith
length-places list n (x ∷ xs) = by (list x.body) (length-places list (suc n) xs)
  where
    by : (b : Bool) → length (places list (suc n) xs) ≤ length xs → length (cond b (n ∷ places list (suc n) xs) (places list (suc n) xs)) ≤ suc (length xs)
    by true h = omega arith
    by false h = omega arith

pub IsNextState-from_front : (items : List Item) (place : ℕ) (x : Item) (next : NextLeaf) → slice_get items place ≡ Some x → is_state x.body ≡ true → next ≡ next_leaf items (take place items) → IsNextState items place next.state
IsNextState-from_front items place x next at is e =
    let there = Stands-from_place items place x at in
    let count : next.state ≡ length (places is_state 0 there.before) = ap (λ (l : NextLeaf). l.state) e ∙ ap (λ (l : List Item). length (places is_state 0 l)) there.front in
    let whole : places is_state 0 items ≡ places is_state 0 there.before ++ place ∷ places is_state (suc place) there.after =
    ap (places is_state 0) there.splits ∙ places-append is_state 0 there.before (x ∷ there.after) ∙ ap (λ (k : ℕ). places is_state 0 there.before ++ places is_state k (x ∷ there.after)) (omega (arith, there.many))
    ∙ ap (λ (b : Bool). places is_state 0 there.before ++ cond b (place ∷ places is_state (suc place) there.after) (places is_state (suc place) there.after)) is in
    let split = IsNextState-split (places is_state 0 there.before) (places is_state (suc place) there.after) place next.state count in
    let within : next.state < length (places is_state 0 items) = omega (arith, ap length whole, split.0) in
    record { within = within; at = ap (λ (l : List ℕ). get_or l next.state 0) whole ∙ split.1; few = omega (arith, length-places is_state 0 items) }

-- whether that state is free
pub IsNextState-free : (items : List Item) (place k : ℕ) (x : Item) (b : Bool) → IsNextState items place k → slice_get items place ≡ Some x → b ≡ is_free_at items (get_or (places is_state 0 items) k 0) → is_free items x.id ≡ b
IsNextState-free items place k x b n at e = sym (e ∙ ap (is_free_at items) n.at ∙ free_at items place x at)

-- what the leaf behind a state has
pub after_state : (items : List Item) (x : Item) (next : NextLeaf) (b : Bool) → is_state x.body ≡ true → is_free items x.id ≡ b
    → next_after items x next ≡ cond b (record next { free = next.free + bits_of items x.id; state = suc next.state }) (record next { carried = next.carried + bits_of items x.id; state = suc next.state })
after_state items x next b is free = rw (no_input x.body is, is, free) refl
  where
    no_input : (b : Body) → is_state b ≡ true → is_input b ≡ false
    no_input (body.Input s) h = absurd (cc)
    no_input _ h = refl

-- a place of a list with one more element: an earlier one, or the last
place_cases : {A : Type 0} (xs : List A) (y r : A) (k : ℕ) → slice_get (xs ++ y ∷ []) k ≡ Some r → (slice_get xs k ≡ Some r) ⊎ ((k ≡ length xs) × (y ≡ r))
place_cases [] y r zero h = inr (refl, same_Some y r h)
place_cases [] y r (suc k) h = absurd (none-some r h)
place_cases (x ∷ xs) y r zero h = inl h
place_cases (x ∷ xs) y r (suc k) h = ⊎_elim (λ e. inl e) (λ e. inr (ap suc e.0, e.1)) (place_cases xs y r k h)

-- a row more
pub LowersFront-push : (items : List Item) (place : ℕ) (old new : Net) (rows rows' : List (List ℕ)) (next next' : NextLeaf) (x : Item) (row : List ℕ) → LowersFront items place old rows next → slice_get items place ≡ Some x
    → MakesRow items old new x row → rows' ≡ rows ++ row ∷ [] → next' ≡ next_after items x next → LowersFront items (place + 1) new rows' next'
LowersFront-push items place old new rows rows' next next' x row front at m is is_next =
    let costs = among-more (λ (y : Item). line_cost items y.body) items place x at in
    let kept = RowsRead-later items old new (line_cost items x.body) rows m.grows front.reads in
    record {
      all = ap length is ∙ omega (arith, length-append rows (row ∷ []), front.all);
      reads = λ k y r in_items in_rows.
          ⊎_elim
          (λ earlier. kept k y r in_items earlier)
          (λ last.
          let here : k ≡ place = last.0 ∙ front.all in
          let same : x ≡ y = same_Some x y (sym at ∙ ap (slice_get items) (sym here) ∙ in_items) in
          subst (λ (z : Item). RowReads items new z r) same (subst (RowReads items new x) last.1 m.reads))
          (place_cases rows row r k (ap (λ (l : List (List ℕ)). slice_get l k) (sym is) ∙ in_rows));
      grows = subst (Grows (leaves_only items) new) (sym costs.0) (Grows-trans (leaves_only items) old new (cost_among items (take place items)) (line_cost items x.body) front.grows m.grows);
      leaves = is_next ∙ ap (next_after items x) front.leaves ∙ sym (next_leaf-more items place x at);
    }

-- no row yet
pub LowersFront-start : (items : List Item) (n : Net) (rows : List (List ℕ)) (next : NextLeaf) → n ≡ leaves_only items → rows ≡ [] → next.input ≡ 1 → next.free ≡ 1 + input_width items → next.carried ≡ 1 + given_width items → next.state ≡ 0
    → LowersFront items 0 n rows next
LowersFront-start items n rows next is none input free carried state =
    record {
      all = ap length none;
      reads = λ k y r in_items in_rows. absurd (none-some r (sym (ap (λ (l : List (List ℕ)). slice_get l k) none) ∙ in_rows));
      grows = subst (λ (m : Net). Grows (leaves_only items) m 0) (sym is) (Grows-refl (leaves_only items) 0);
      leaves = next_same next.input next.free next.carried next.state _ _ _ _ input (omega arith) (omega arith) state;
    }

-- all rows
pub LowersNodes-from_front : (items : List Item) (old n : Net) (place : ℕ) (rows : List (List ℕ)) (next : NextLeaf) → old ≡ leaves_only items → place ≡ length items → LowersFront items place n rows next → LowersNodes items old n rows
LowersNodes-from_front items old n place rows next is all front =
    let whole : take place items ≡ items = take_all place items (omega arith) in
    record {
      all = front.all ∙ all;
      reads = front.reads;
      grows = subst (λ (m : Net). Grows m n (cost items)) (sym is) (subst (Grows (leaves_only items) n) (ap (cost_among items) whole) front.grows);
    }
