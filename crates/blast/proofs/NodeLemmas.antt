-- The rows of nodes: what stays as gates are added, and what each form makes.
use Rattle.std.proofs.Common.{◌≡◌, ℕ, zero, suc, ◌+◌, ◌*◌, ◌<◌, ◌≤◌, Bool, true, cond, List, [], ◌∷◌, ◌++◌, length, Option, Some, None, IfSome, unwrap_or, option_and_then, slice_get, get_or, take, drop, map, All, refl, sym, ap, ap₂, subst, ◌∙◌, arith, length-append, append_assoc}
use Rattle.std.specs.List.{range_with_len, AllByRecursion}
use Rattle.std.proofs.lemmas.Option.{none-some, same_Some, slice_get-get_or}
use Rattle.std.proofs.lemmas.List.{take_at, drop_at, length-map}
use Rattle.std.proofs.lemmas.List.Elements.{All-nil, All-cons, All-map}
use Rattle.std.proofs.lemmas.List.Sums.{sum_by-append, sum_by-cons}
use Rattle.base.specs.Word.{word, bits}
use Rattle.base.specs.Operator.{unary_value, binary_value, ite_value}
use Rattle.base.specs.Widths.{unary_width, binary_width}
use Rattle.base.specs.declared.operators.Unary.{Unary}
use Rattle.base.specs.declared.operators.Binary.{Binary}
use Rattle.base.proofs.BitLemmas.{length-bits, word-bits, bits-word_of_length}
use Rattle.btor2.specs.declared.item.Item.{Item}
use Rattle.btor2.specs.Items.{find_item, position_of, width_of_body, node_width}
use Rattle.btor2.specs.Check.{IsWellFormed}
use Rattle.btor2.specs.Trace.{Frame, bits_of, LineHolds, IsFrame}
use Rattle.btor2.specs.Leaves.{kind_width}
use Rattle.btor2.proofs.AppendLemmas.{is_some_from, then_parts, node_width-append}
use Rattle.btor2.proofs.ModelLemmas.{IsIn-from_find, node_width-at, node_width-range, position_of-at}
use Rattle.base.specs.Literal.{Valuation, literal_value}
use Rattle.aiger.specs.Net.{Net, variables, IsDefined, bits_from}
use Rattle.aiger.proofs.NetLemmas.{length-bits_from, bits_from-append, bits_from-literals}
use Rattle.gates.specs.Bound.{unary_bound, binary_bound, ite_bound}
use Rattle.gates.specs.Made.{Grows, MakesWord, word_value}
use Rattle.gates.proofs.GrowthLemmas.{Grows-refl, Grows-weaker, Satisfies-earlier, All-defined-grown}
use Rattle.blast.specs.Leaves.{given_by_kind, leaf_bits}
use Rattle.blast.specs.Cost.{line_cost}
use Rattle.blast.specs.Reads.{Together, ReadsWord, RowsRead}
use Rattle.blast.specs.Table.{MakesNode, MakesRow, IsOperand}
use Rattle.blast.proofs.KindBlocks.{length-of_kind}
use Rattle.btor2.proofs.TraceLemmas.{words_fit_frame}

-- What stays as gates are added.

-- what goes together with later gates goes together with the earlier ones
pub Together-earlier : (items : List Item) (old new : Net) (most : ℕ) → Grows old new most → (state input f : Frame) (v : Valuation) → Together items new state input f v → Together items old state input f v
Together-earlier items old new most g state input f v t =
    record {
      frame = t.frame;
      state_fits = t.state_fits;
      input_fits = t.input_fits;
      satisfied = Satisfies-earlier old new most g v t.satisfied;
      inputs = ap (λ (k : ℕ). bits_from 1 k v) (sym g.inputs) ∙ t.inputs;
      latches = ap₂ (λ (i l : ℕ). bits_from (suc i) l v) (sym g.inputs) (sym g.latches) ∙ t.latches;
    }

pub ReadsWord-later : (items : List Item) (old new : Net) (most : ℕ) → Grows old new most → (id width : ℕ) (row : List ℕ) → ReadsWord items old id width row → ReadsWord items new id width row
ReadsWord-later items old new most g id width row r =
    record {
      wide = r.wide;
      defined = All-defined-grown old new most g row r.defined;
      bits = λ state input f v t. r.bits state input f v (Together-earlier items old new most g state input f v t);
    }

RowReads-later : (items : List Item) (old new : Net) (most id : ℕ) (row : List ℕ) (o : Option ℕ) → Grows old new most → IfSome o (λ width. ReadsWord items old id width row) → IfSome o (λ width. ReadsWord items new id width row)
RowReads-later items old new most id row None g r = tt
RowReads-later items old new most id row (Some width) g r = ReadsWord-later items old new most g id width row r

pub RowsRead-later : (items : List Item) (old new : Net) (most : ℕ) (rows : List (List ℕ)) → Grows old new most → RowsRead items old rows → RowsRead items new rows
RowsRead-later items old new most rows g r place x row at is =
    RowReads-later items old new most x.id row (width_of_body items x.body) g (r place x row at is)

-- The row of an item from what its form makes.

reads_some : (items : List Item) (n : Net) (id width : ℕ) (row : List ℕ) (o : Option ℕ) → unwrap_or o 0 ≡ width → ReadsWord items n id width row → IfSome o (λ k. ReadsWord items n id k row)
reads_some items n id width row None e r = tt
reads_some items n id width row (Some k) e r = subst (λ (j : ℕ). ReadsWord items n id j row) (sym e) r

-- what an item's line says of a frame, from what all lines say
pub LineHolds-at : (items : List Item) (state input f : Frame) (lines : List Item) (k : ℕ) (x : Item) → AllByRecursion (λ (x : Item). LineHolds items state input f x.id x.body) lines → slice_get lines k ≡ Some x → LineHolds items state input f x.id x.body
LineHolds-at items state input f [] k x h at = absurd (none-some x at)
LineHolds-at items state input f (y ∷ ys) zero x h at = subst (λ (z : Item). LineHolds items state input f z.id z.body) (same_Some y x at) h.0
LineHolds-at items state input f (y ∷ ys) (suc k) x h at = LineHolds-at items state input f ys k x h.1 at

-- a line's form: the value that it gives its node
pub MakesRow-from_node : (items : List Item) (old new : Net) (x : Item) (most width : ℕ) (value : Frame → ℕ) (row : List ℕ)
    → most ≤ line_cost items x.body → unwrap_or (width_of_body items x.body) 0 ≡ width
    → ((state input f : Frame) → IsFrame items state input f → f x.id ≡ value f)
    → MakesNode items old new most width value row → MakesRow items old new x row
MakesRow-from_node items old new x most width value row le wide says m =
    record {
      grows = Grows-weaker old new most (line_cost items x.body) le m.grows;
      reads = reads_some items new x.id width row (width_of_body items x.body) wide (record {
        wide = m.wide;
        defined = m.defined;
        bits = λ state input f v t. m.bits state input f v t ∙ ap (bits width) (sym (says state input f t.frame));
      });
    }

-- Operands.

-- a node of a width, of which a front has the width, is an operand of the front's rows
pub IsOperand-from_front : (items before after : List Item) (n : Net) (rows : List (List ℕ)) (id width : ℕ) → IsWellFormed items → items ≡ before ++ after → node_width before id ≡ Some width → length rows ≡ length before
    → RowsRead items n rows → IsOperand items n rows id
IsOperand-from_front items before after n rows id width w splits node many reads =
    let whole : node_width items id ≡ Some width = ap (λ (l : List Item). node_width l id) splits ∙ node_width-append before after id width node in
    let item = then_parts (λ (x : Item). width_of_body before x.body) (find_item before id) width node in
    let y = item.0 in
    let stands = IsIn-from_find before id y item.1 in
    let k = length stands.0.before in
    let in_items : items ≡ stands.0.before ++ y ∷ (stands.0.after ++ after) = splits ∙ ap (λ (l : List Item). l ++ after) stands.0.splits ∙ append_assoc stands.0.before (y ∷ stands.0.after) after in
    let at : slice_get items k ≡ Some y = ap (λ (l : List Item). slice_get l k) in_items ∙ get_at stands.0.before y (stands.0.after ++ after) in
    let below : k < length before = omega (arith, ap length stands.0.splits, length-append stands.0.before (y ∷ stands.0.after)) in
    let row = get_or rows k [] in
    let has : slice_get rows k ≡ Some row = slice_get-get_or rows k [] (omega arith) in
    let place : position_of items id ≡ Some k = ap (position_of items) stands.1 ∙ position_of-at items k y w at in
    let body_width : width_of_body items y.body ≡ Some width = sym (node_width-at items k y w at) ∙ ap (node_width items) (sym stands.1) ∙ whole in
    let range = node_width-range items id width w whole in
    let number : bits_of items id ≡ width = ap (λ (o : Option ℕ). unwrap_or o 0) whole in
    let read : ReadsWord items n y.id width row = subst (λ (o : Option ℕ). IfSome o (λ j. ReadsWord items n y.id j row)) body_width (reads k y row at has) in
    record {
      row = row;
      at = ap (option_and_then (slice_get rows)) place ∙ has;
      there = is_some_from (node_width items id) width whole;
      some = omega (arith, number, range.0);
      most = omega (arith, number, range.1);
      reads = subst (λ (j : ℕ). ReadsWord items n id j row) (sym number) (subst (λ (i : ℕ). ReadsWord items n i width row) (sym stands.1) read);
    }
  where
    get_at : (xs : List Item) (y : Item) (ys : List Item) → slice_get (xs ++ y ∷ ys) (length xs) ≡ Some y
    get_at [] y ys = refl
    get_at (x ∷ xs) y ys = get_at xs y ys

-- an operand's row reads as its word
pub word_of_operand : (items : List Item) (n : Net) (rows : List (List ℕ)) (id : ℕ) → IsWellFormed items → (a : IsOperand items n rows id) → (state input f : Frame) (v : Valuation) → Together items n state input f v → word_value v a.row ≡ f id
word_of_operand items n rows id w a state input f v t =
    ap word (a.reads.bits state input f v t) ∙ word-bits (bits_of items id) (f id) (words_fit_frame items state input f w t.state_fits t.input_fits t.frame id a.there)

-- Operators.

-- a row that reads as a word of its length has the word's bits
pub bits_of_word : (v : Valuation) (row : List ℕ) (width value : ℕ) → length row ≡ width → word_value v row ≡ value → map (literal_value v) row ≡ bits width value
bits_of_word v row width value wide is =
    sym (bits-word_of_length width (map (literal_value v) row) (length-map row (literal_value v) ∙ wide)) ∙ ap (bits width) is

-- a row made as a word that is the node's in each frame
MakesNode-from_word : (items : List Item) (old new : Net) (most width : ℕ) (made : Valuation → ℕ) (value : Frame → ℕ) (row : List ℕ) → MakesWord old new most width made row
    → ((state input f : Frame) (v : Valuation) → Together items old state input f v → made v ≡ value f) → MakesNode items old new most width value row
MakesNode-from_word items old new most width made value row m is =
    record {
      grows = m.grows;
      wide = m.wide;
      defined = m.defined;
      bits = λ state input f v t. bits_of_word v row width (value f) m.wide (m.means v t.satisfied ∙ is state input f v (Together-earlier items old new most m.grows state input f v t));
    }

-- an operator of one operand
pub MakesNode-unary : (items : List Item) (old new : Net) (rows : List (List ℕ)) (op : Unary) (id : ℕ) (a row : List ℕ) → IsWellFormed items → (o : IsOperand items old rows id) → Some o.row ≡ Some a
    → MakesWord old new (unary_bound op (length a)) (unary_width op (length a)) (λ v. unary_value op (length a) (word_value v a)) row
    → MakesNode items old new (unary_bound op (bits_of items id)) (unary_width op (bits_of items id)) (λ f. unary_value op (bits_of items id) (f id)) row
MakesNode-unary items old new rows op id a row w o same m =
    let n = bits_of items id in
    let is : o.row ≡ a = same_Some o.row a same in
    let wide : bits_of items id ≡ length a = sym o.reads.wide ∙ ap length is in
    MakesNode-from_word items old new (unary_bound op n) (unary_width op n) (λ v. unary_value op n (word_value v o.row)) (λ f. unary_value op n (f id)) row (rw (wide, is) m)
    (λ state input f v t. ap (unary_value op n) (word_of_operand items old rows id w o state input f v t))

-- an operator of two operands
pub MakesNode-binary : (items : List Item) (old new : Net) (rows : List (List ℕ)) (op : Binary) (x y : ℕ) (a b row : List ℕ) → IsWellFormed items → (o : IsOperand items old rows x) → (p : IsOperand items old rows y) → Some o.row ≡ Some a → Some p.row ≡ Some b
    → MakesWord old new (binary_bound op (length a)) (binary_width op (length a)) (λ v. binary_value op (length a) (word_value v a) (word_value v b)) row
    → MakesNode items old new (binary_bound op (bits_of items x)) (binary_width op (bits_of items x)) (λ f. binary_value op (bits_of items x) (f x) (f y)) row
MakesNode-binary items old new rows op x y a b row w o p same_a same_b m =
    let n = bits_of items x in
    let is_a : o.row ≡ a = same_Some o.row a same_a in
    let is_b : p.row ≡ b = same_Some p.row b same_b in
    let wide : bits_of items x ≡ length a = sym o.reads.wide ∙ ap length is_a in
    MakesNode-from_word items old new (binary_bound op n) (binary_width op n) (λ v. binary_value op n (word_value v o.row) (word_value v p.row)) (λ f. binary_value op n (f x) (f y)) row (rw (wide, is_b, is_a) m)
    (λ state input f v t. ap₂ (binary_value op n) (word_of_operand items old rows x w o state input f v t) (word_of_operand items old rows y w p state input f v t))

-- a choice
pub MakesNode-ite : (items : List Item) (old new : Net) (rows : List (List ℕ)) (x y z : ℕ) (c a b row : List ℕ) → IsWellFormed items → (q : IsOperand items old rows x) → (o : IsOperand items old rows y) → (p : IsOperand items old rows z)
    → Some q.row ≡ Some c → Some o.row ≡ Some a → Some p.row ≡ Some b
    → MakesWord old new (ite_bound (length a)) (length a) (λ v. ite_value (word_value v c) (word_value v a) (word_value v b)) row
    → MakesNode items old new (ite_bound (bits_of items y)) (bits_of items y) (λ f. ite_value (f x) (f y) (f z)) row
MakesNode-ite items old new rows x y z c a b row w q o p same_c same_a same_b m =
    let n = bits_of items y in
    let is_c : q.row ≡ c = same_Some q.row c same_c in
    let is_a : o.row ≡ a = same_Some o.row a same_a in
    let is_b : p.row ≡ b = same_Some p.row b same_b in
    let wide : bits_of items y ≡ length a = sym o.reads.wide ∙ ap length is_a in
    MakesNode-from_word items old new (ite_bound n) n (λ v. ite_value (word_value v q.row) (word_value v o.row) (word_value v p.row)) (λ f. ite_value (f x) (f y) (f z)) row (rw (wide, is_c, is_b, is_a) m)
    (λ state input f v t.
    ap (λ (i : ℕ). ite_value i (word_value v o.row) (word_value v p.row)) (word_of_operand items old rows x w q state input f v t)
    ∙ ap₂ (ite_value (f x)) (word_of_operand items old rows y w o state input f v t) (word_of_operand items old rows z w p state input f v t))

-- Leaves.

-- the items of a kind, of two lists
of_kind-append : {A : Type 0} → (kind : Item → Bool) (give : Item → List A) (xs ys : List Item) → given_by_kind kind give (xs ++ ys) ≡ given_by_kind kind give xs ++ given_by_kind kind give ys
of_kind-append kind give [] ys = refl
of_kind-append {A} kind give (x ∷ xs) ys =
    ap (λ (l : List A). cond (kind x) (give x) [] ++ l) (of_kind-append kind give xs ys) ∙ sym (append_assoc (cond (kind x) (give x) []) (given_by_kind kind give xs) (given_by_kind kind give ys))

pub length-leaves : (items : List Item) (kind : Item → Bool) (f : Frame) (xs : List Item) → length (given_by_kind kind (leaf_bits items f) xs) ≡ kind_width items kind xs
length-leaves items kind f xs = length-of_kind items kind (leaf_bits items f) xs (λ x. length-bits (bits_of items x.id) (f x.id))

-- the middle parts of two equal lists that are cut at equal lengths
same_middle : (a b c x y z : List Bool) → a ++ (b ++ c) ≡ x ++ (y ++ z) → length a ≡ length x → length b ≡ length y → b ≡ y
same_middle a b c x y z e front middle =
    let rest : b ++ c ≡ y ++ z = sym (drop_at a (b ++ c) (length a) refl) ∙ ap (drop (length a)) e ∙ drop_at x (y ++ z) (length a) (sym front) in
    sym (take_at b c (length b) refl) ∙ ap (take (length b)) rest ∙ take_at y z (length b) (sym middle)

-- the variables of a leaf are its bits
pub leaf_variables : (items before after : List Item) (x : Item) (kind : Item → Bool) (f : Frame) (v : Valuation) (first : ℕ) → items ≡ before ++ x ∷ after → kind x ≡ true
    → bits_from first (kind_width items kind items) v ≡ given_by_kind kind (leaf_bits items f) items
    → bits_from (first + kind_width items kind before) (bits_of items x.id) v ≡ leaf_bits items f x
leaf_variables items before after x kind f v first splits is_kind whole =
    let m = kind_width items kind before in
    let w = bits_of items x.id in
    let r = kind_width items kind after in
    let give = leaf_bits items f in
    let own : cond (kind x) (give x) [] ≡ give x = ap (λ (b : Bool). cond b (give x) []) is_kind in
    let right : given_by_kind kind give items ≡ given_by_kind kind give before ++ (give x ++ given_by_kind kind give after) =
    ap (given_by_kind kind give) splits ∙ of_kind-append kind give before (x ∷ after) ∙ ap (λ (l : List Bool). given_by_kind kind give before ++ (l ++ given_by_kind kind give after)) own in
    let number : kind_width items kind items ≡ m + (w + r) =
    ap (kind_width items kind) splits ∙ sum_by-append (λ (y : Item). cond (kind y) (bits_of items y.id) 0) before (x ∷ after)
    ∙ ap (λ (k : ℕ). m + k) (sum_by-cons (λ (y : Item). cond (kind y) (bits_of items y.id) 0) x after ∙ ap (λ (b : Bool). cond b w 0 + r) is_kind) in
    let left : bits_from first (kind_width items kind items) v ≡ bits_from first m v ++ (bits_from (first + m) w v ++ bits_from (first + m + w) r v) =
    ap (λ (k : ℕ). bits_from first k v) number ∙ bits_from-append first m (w + r) v ∙ ap (λ (l : List Bool). bits_from first m v ++ l) (bits_from-append (first + m) w r v) in
    same_middle (bits_from first m v) (bits_from (first + m) w v) (bits_from (first + m + w) r v) (given_by_kind kind give before) (give x) (given_by_kind kind give after)
    (sym left ∙ whole ∙ right)
    (length-bits_from first m v ∙ sym (length-leaves items kind f before))
    (length-bits_from (first + m) w v ∙ sym (length-bits w (f x.id)))

-- the parts of two equal lists of which the first parts are as long
pub same_parts : {A : Type 0} (a b x y : List A) → a ++ b ≡ x ++ y → length a ≡ length x → (a ≡ x) × (b ≡ y)
same_parts a b x y e front = (
  sym (take_at a b (length a) refl) ∙ ap (take (length a)) e ∙ take_at x y (length a) (sym front),
  sym (drop_at a b (length a) refl) ∙ ap (drop (length a)) e ∙ drop_at x y (length a) (sym front),
)

-- the literals of variables say their bits
literals_of : (v : Valuation) (first count : ℕ) → 0 < first → map (literal_value v) (map (λ i. 2 * (first + i)) (range_with_len 0 count)) ≡ bits_from first count v
literals_of v first count h = twice (range_with_len 0 count) ∙ bits_from-literals first 0 count v h ∙ ap (λ (k : ℕ). bits_from k count v) (omega arith)
  where
    twice : (is : List ℕ) → map (literal_value v) (map (λ i. 2 * (first + i)) is) ≡ map (λ i. literal_value v (2 * (first + i))) is
    twice [] = refl
    twice (i ∷ is) = ap (λ (l : List Bool). literal_value v (2 * (first + i)) ∷ l) (twice is)

pub length-range : (start count : ℕ) → length (range_with_len start count) ≡ count
length-range start zero = refl
length-range start (suc count) = ap suc (length-range (start + 1) count)

defined_range : (n : Net) (first start count : ℕ) → first + start + count ≤ suc (variables n) → All (λ i. IsDefined n (2 * (first + i))) (range_with_len start count)
defined_range n first start zero h = All-nil (λ i. IsDefined n (2 * (first + i)))
defined_range n first start (suc count) h =
    All-cons (λ i. IsDefined n (2 * (first + i))) start (range_with_len (start + 1) count) (omega arith) (defined_range n first (start + 1) count (omega arith))

-- a leaf's row is that of its variables
pub MakesNode-variables : (items : List Item) (n : Net) (first width : ℕ) (value : Frame → ℕ) (row : List ℕ) → 0 < first → first + width ≤ suc (variables n) → row ≡ map (λ i. 2 * (first + i)) (range_with_len 0 width)
    → ((state input f : Frame) (v : Valuation) → Together items n state input f v → bits_from first width v ≡ bits width (value f))
    → MakesNode items n n 0 width value row
MakesNode-variables items n first width value row some small is reads =
    rw is (record {
      grows = Grows-refl n 0;
      wide = length-map (range_with_len 0 width) (λ i. 2 * (first + i)) ∙ length-range 0 width;
      defined = All-map (IsDefined n) (λ i. 2 * (first + i)) (range_with_len 0 width) (defined_range n first 0 width (omega arith));
      bits = λ state input f v t. literals_of v first width some ∙ reads state input f v t;
    })
