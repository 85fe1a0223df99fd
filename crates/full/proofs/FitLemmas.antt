-- In a frame of a model each node's word is below 2 to its width.
use Rattle.std.proofs.Common.{◌≡◌, ℕ, zero, suc, ◌+◌, ◌-◌, ◌*◌, ◌^◌, ◌<◌, ◌≤◌, Bool, true, false, cond, ◌&&◌, nat_eq, nat_lt, eqb-true, List, [], ◌∷◌, ◌++◌, map, Option, Some, None, is_some, IfSome, unwrap_or, option_map, option_and_then, append_assoc, append-nil, refl, sym, ap, ap₂, subst, ◌∙◌, ⊎_elim, pow_pos, arith}
use Rattle.std.specs.List.{AllByRecursion}
use Rattle.std.proofs.lemmas.Option.{none-some, same_Some}
use Rattle.std.proofs.lemmas.Bool.{and_parts, leb-true, ltb-true}
use Rattle.std.proofs.Math.Nat.{pow-suc}
use Rattle.base.specs.declared.operators.Unary.TheVariants as unary
use Rattle.base.specs.Operator.{unary_value}
use Rattle.base.specs.Widths.{unary_width, binary_width}
use Rattle.base.proofs.SignedLaws.{wrapped_below}
use Rattle.base.proofs.ValueLaws.{unary_below, binary_below, ite_below, slice_below, wider_below, concat_below}
use Rattle.btor2.specs.declared.item.Body.{Body}
use Rattle.btor2.specs.declared.item.Body.TheVariants as body
use Rattle.btor2.specs.Items.{node_sort, named_sort, sort_bits, operands}
use Rattle.btor2.specs.Check.{widths_agree}
use Rattle.btor2.specs.Trace.{Frame}
use Rattle.btor2.proofs.AppendLemmas.{then_parts, some_of, is_some_from}
use Rattle.wide.specs.WideModels.{greatest_width, constant_fits_within}
use Rattle.full.specs.Lines.{Operand, Says, form, array_sort, read, write, FullLine, with_minuses, operands_of, second, Sort, words, arrays, sort_size, find_line, line_bits, bits_at, line_sort, sort_at, sort_named, sort_of, sort_of_node, size_of, width_of, AtNext}
use Rattle.full.specs.Agreement.{WidthsAgree, SaysAgree, LineAgrees, IsFullAfter, IsFullModel}
use Rattle.full.specs.Cells.{write_value}
use Rattle.full.specs.Runs.{word_by, operand_word, at_place, widths_by_place, words_by_place, word_of_line, LineSays, IsFullFrame}
use Rattle.full.proofs.ListLemmas.{all_with}
use Rattle.full.proofs.FullLookUps.{find_cases, found_has, node_found, sort_on, node_on, each_found, AreNodes}
use Rattle.full.proofs.CellLemmas.{read_below, write_below}
use Rattle.full.proofs.FullFrames.{WordThere, word_there}

-- ---- each sort has a bit

abbrev HasBits : ℕ → Says → Type 0
HasBits id b = (n : ℕ) → line_bits b ≡ Some n → 1 ≤ n

line_has_bits : (before : List FullLine) (id : ℕ) (b : Says) → SaysAgree before b → HasBits id b
line_has_bits before id (form (body.Sort m) minuses) h n e = subst (λ (k : ℕ). 1 ≤ k) (same_Some m n e) (leb-true 1 m h.0)
line_has_bits before id (form _ minuses) h n e = absurd (none-some n e)
line_has_bits before id _ h n e = absurd (none-some n e)

have_bits : (before rest : List FullLine) → IsFullAfter before rest → AllByRecursion (λ (x : FullLine). HasBits x.id x.says) rest
have_bits before [] w = tt
have_bits before (x ∷ xs) w = (line_has_bits before x.id x.says w.0.agrees, have_bits (before ++ x ∷ []) xs w.1)

bits_least : (lines : List FullLine) (id n : ℕ) → IsFullModel lines → bits_at lines id ≡ Some n → 1 ≤ n
bits_least lines id n w e =
    let found = then_parts (λ (x : FullLine). line_bits x.says) (find_line lines id) n e in
    found_has HasBits lines id found.0 found.1 (have_bits [] lines w) n found.2

map_parts : {A B : Type 0} (f : A → B) (o : Option A) (v : B) → option_map f o ≡ Some v → (x : A) × (o ≡ Some x) × (f x ≡ v)
map_parts f None v h = absurd (none-some v h)
map_parts f (Some x) v h = (x, refl, same_Some (f x) v h)

product_least : (k n : ℕ) → 1 ≤ n → 1 ≤ 2 ^ k * n
product_least k n h = grind (arith, pow_pos k)

line_sort_least : (lines : List FullLine) (b : Says) (z : Sort) → IsFullModel lines → (line_bits b ≡ line_bits b → (n : ℕ) → line_bits b ≡ Some n → 1 ≤ n) → line_sort lines b ≡ Some z → 1 ≤ sort_size z
line_sort_least lines (form b minuses) z w own e =
    let parts = map_parts (λ n. words n) (sort_bits b) z e in subst (λ (s : Sort). 1 ≤ sort_size s) parts.2 (own refl parts.0 parts.1)
line_sort_least lines (array_sort i e) z w own h =
    let index = then_parts (λ k. option_map (λ n. arrays k n) (bits_at lines e)) (bits_at lines i) z h in
    let element = map_parts (λ n. arrays index.0 n) (bits_at lines e) z index.2 in
    subst (λ (s : Sort). 1 ≤ sort_size s) element.2 (product_least index.0 element.0 (bits_least lines e element.0 w element.1))
line_sort_least lines _ z w own e = absurd (none-some z e)

sort_least : (lines : List FullLine) (id : ℕ) (z : Sort) → IsFullModel lines → sort_at lines id ≡ Some z → 1 ≤ sort_size z
sort_least lines id z w e =
    let found = then_parts (λ (x : FullLine). line_sort lines x.says) (find_line lines id) z e in
    line_sort_least lines found.0.says z w (λ u. found_has HasBits lines id found.0 found.1 (have_bits [] lines w)) found.2

pub width_least : (lines : List FullLine) (id : ℕ) → IsFullModel lines → is_some (sort_of_node lines id) ≡ true → 1 ≤ width_of lines id
width_least lines id w there =
    let sort = some_of (sort_of_node lines id) there in
    let found = then_parts (λ (x : FullLine). sort_of lines x.says) (find_line lines id) sort.0 sort.1 in
    let name = then_parts (sort_at lines) (sort_named found.0.says) sort.0 found.2 in
    subst (λ (o : Option Sort). 1 ≤ size_of o) (sym sort.1) (sort_least lines name.0 sort.0 w name.2)

-- ---- the word of a form

-- the first of some nodes has a bit
abbrev FirstLeast : (ℕ → ℕ) → List ℕ → Type 0
FirstLeast node [] = Unit {0}
FirstLeast node (a ∷ more) = 1 ≤ node a

one_below : (n : ℕ) → 1 ≤ n → 1 < 2 ^ n
one_below zero h = absurd (omega arith)
one_below (suc n) h = omega (arith, pow-suc 2 n, pow_pos n)

digits_below : (n d v : ℕ) → (nat_eq d n && nat_lt v (2 ^ d)) ≡ true → v < 2 ^ n
digits_below n d v h =
    let both = and_parts (nat_eq d n) (nat_lt v (2 ^ d)) h in
    subst (λ (k : ℕ). v < 2 ^ k) (eqb-true d n both.0) (ltb-true v (2 ^ d) both.1)

hex_below : (n v : ℕ) (a b c : Bool) → (a && (b && (nat_lt v (2 ^ n) && c))) ≡ true → v < 2 ^ n
hex_below n v a b c h =
    let most = and_parts a _ h in
    let value = and_parts b _ most.1 in
    ltb-true v (2 ^ n) (and_parts (nat_lt v (2 ^ n)) c value.1).0

wider : (v m n : ℕ) → m ≡ n → v < 2 ^ m → v < 2 ^ n
wider v m n e h = subst (λ (k : ℕ). v < 2 ^ k) e h

form_fits : (sort node word : ℕ → ℕ) (n : ℕ) (b : Body) → 1 ≤ n → IfSome (node_sort b) (λ s. sort s ≡ n) → FirstLeast node (operands b)
    → widths_agree sort node b ≡ true → constant_fits_within greatest_width n b ≡ true → ((k : ℕ) → word k < 2 ^ at_place (map node (operands b)) k)
    → IfSome (word_by n (at_place (map node (operands b))) word b) (λ w. w < 2 ^ n)
form_fits sort node word n (body.Zero s) least is first agree fits h = pow_pos n
form_fits sort node word n (body.One s) least is first agree fits h = one_below n least
form_fits sort node word n (body.Ones s) least is first agree fits h = omega (arith, pow_pos n)
form_fits sort node word n (body.Const s d v) least is first agree fits h = digits_below n d v fits
form_fits sort node word n (body.Constd s v) least is first agree fits h = wrapped_below n v
form_fits sort node word n (body.Consth s d v) least is first agree fits h = hex_below n v _ _ _ fits
form_fits sort node word n (body.Uext s a by) least is first agree fits h =
    subst (λ (k : ℕ). word 0 < 2 ^ k) (sym (eqb-true (sort s) (node a + by) agree) ∙ is) (wider_below (node a) (word 0) by (h 0))
form_fits sort node word n (body.Sext s a by) least is first agree fits h =
    wider _ _ n (sym (eqb-true (sort s) (node a + by) agree) ∙ is) (wrapped_below (node a + by) _)
form_fits sort node word n (body.Slice s a u l) least is first agree fits h =
    wider _ _ n (sym (eqb-true (sort s) (u - l + 1) agree) ∙ is) (slice_below (word 0) u l)
form_fits sort node word n (body.Unary op s a) least is first agree fits h =
    wider _ _ n (sym (eqb-true (sort s) (unary_width op (node a)) agree) ∙ is) (unary_below op (node a) (word 0) first (h 0))
form_fits sort node word n (body.Binary op s a b) least is first agree fits h =
    let same = and_parts (nat_eq (node a) (node b)) _ agree in
    let gives = and_parts _ (nat_eq (sort s) (binary_width op (node a))) same.1 in
    wider _ _ n (sym (eqb-true (sort s) (binary_width op (node a)) gives.1) ∙ is)
    (binary_below op (node a) (word 0) (word 1) first (h 0) (subst (λ (k : ℕ). word 1 < 2 ^ k) (sym (eqb-true (node a) (node b) same.0)) (h 1)))
form_fits sort node word n (body.Concat s a b) least is first agree fits h =
    wider _ _ n (sym (eqb-true (sort s) (node a + node b) agree) ∙ is) (concat_below (node a) (node b) (word 0) (word 1) (h 0) (h 1))
form_fits sort node word n (body.Ite s c t e) least is first agree fits h =
    let widths = and_parts (nat_eq (node c) 1) _ agree in
    let pair = and_parts (nat_eq (sort s) (node t)) (nat_eq (sort s) (node e)) widths.1 in
    ite_below n (word 0) (word 1) (word 2)
    (subst (λ (k : ℕ). word 1 < 2 ^ k) (sym (eqb-true (sort s) (node t) pair.0) ∙ is) (h 1))
    (subst (λ (k : ℕ). word 2 < 2 ^ k) (sym (eqb-true (sort s) (node e) pair.1) ∙ is) (h 2))
form_fits sort node word n _ least is first agree fits h = tt

-- ---- operands

operand_below : (lines : List FullLine) (f : Frame) (o : Operand) → f o.id < 2 ^ width_of lines o.id → operand_word lines f o < 2 ^ width_of lines o.id
operand_below lines f o h = by o.minus
  where
    by : (b : Bool) → cond b (unary_value unary.Not (width_of lines o.id) (f o.id)) (f o.id) < 2 ^ width_of lines o.id
    by true = omega (arith, pow_pos (width_of lines o.id))
    by false = h

by_place : (word width : Operand → ℕ) (os : List Operand) → AllByRecursion (λ o. word o < 2 ^ width o) os → (k : ℕ) → at_place (map word os) k < 2 ^ at_place (map width os) k
by_place word width [] h k = pow_pos 0
by_place word width (o ∷ os) h zero = h.0
by_place word width (o ∷ os) h (suc k) = by_place word width os h.1 k

ids_of : (node : ℕ → ℕ) (ids : List ℕ) (minuses : List Bool) → map (λ (o : Operand). node o.id) (with_minuses ids minuses) ≡ map node ids
ids_of node [] minuses = refl
ids_of node (a ∷ more) [] = ap (λ (l : List ℕ). node a ∷ l) (ids_of node more [])
ids_of node (a ∷ more) (m ∷ minuses) = ap (λ (l : List ℕ). node a ∷ l) (ids_of node more minuses)

all_ids : (P : ℕ → Type 0) (ids : List ℕ) (minuses : List Bool) → AllByRecursion (λ (o : Operand). P o.id) (with_minuses ids minuses) → AllByRecursion P ids
all_ids P [] minuses h = tt
all_ids P (a ∷ more) [] h = (h.0, all_ids P more [] h.1)
all_ids P (a ∷ more) (m ∷ minuses) h = (h.0, all_ids P more minuses h.1)

-- ---- one line

-- what a line before more says of sorts and nodes, it says in the whole list
sort_same : (lines before more : List FullLine) (id : ℕ) → lines ≡ before ++ more → is_some (sort_at before id) ≡ true → sort_at before id ≡ sort_at lines id
sort_same lines before more id e there =
    let sort = some_of (sort_at before id) there in sort.1 ∙ sym (ap (λ (l : List FullLine). sort_at l id) e ∙ sort_on before more id sort.0 sort.1)

pub node_same : (lines before more : List FullLine) (id : ℕ) → lines ≡ before ++ more → is_some (sort_of_node before id) ≡ true → sort_of_node before id ≡ sort_of_node lines id
node_same lines before more id e there =
    let sort = some_of (sort_of_node before id) there in sort.1 ∙ sym (ap (λ (l : List FullLine). sort_of_node l id) e ∙ node_on before more id sort.0 sort.1)

map_same : (f g : ℕ → ℕ) (ids : List ℕ) → AllByRecursion (λ a. f a ≡ g a) ids → map f ids ≡ map g ids
map_same f g [] h = refl
map_same f g (a ∷ more) h = ap₂ ◌∷◌ h.0 (map_same f g more h.1)

-- the widths of a form's operands are those that the lines before it give
widths_same : (lines before more : List FullLine) (ids : List ℕ) (minuses : List Bool) → lines ≡ before ++ more → AreNodes before (with_minuses ids minuses)
    → map (λ (o : Operand). width_of lines o.id) (with_minuses ids minuses) ≡ map (width_of before) ids
widths_same lines before more ids minuses e there =
    ids_of (width_of lines) ids minuses
    ∙ sym (map_same (width_of before) (width_of lines) ids (all_with (λ a. is_some (sort_of_node before a) ≡ true) (λ a. width_of before a ≡ width_of lines a) ids
    (λ a h. ap size_of (node_same lines before more a e h)) (all_ids (λ a. is_some (sort_of_node before a) ≡ true) ids minuses there)))

first_least : (lines before more : List FullLine) (ids : List ℕ) → IsFullModel lines → lines ≡ before ++ more → AllByRecursion (λ a. is_some (sort_of_node before a) ≡ true) ids → FirstLeast (width_of before) ids
first_least lines before more [] w e there = tt
first_least lines before more (a ∷ rest) w e there =
    let same = node_same lines before more a e there.0 in
    subst (λ (k : ℕ). 1 ≤ k) (sym (ap size_of same)) (width_least lines a w (ap is_some (sym same) ∙ there.0))

-- a node has the sort that its line names
own_sort : (lines : List FullLine) (x : FullLine) → find_line lines x.id ≡ Some x → sort_of_node lines x.id ≡ sort_of lines x.says
own_sort lines x e = ap (option_and_then (λ (y : FullLine). sort_of lines y.says)) e

widths_by : (before : List FullLine) (b : Body) → is_some (node_sort b) ≡ true → WidthsAgree before b → widths_agree (λ k. size_of (sort_at before k)) (width_of before) b ≡ true
widths_by before (body.Init s t v) node h = absurd (cc)
widths_by before (body.Slice s a u l) node h = h.0
widths_by before _ node h = h

name_of : (b : Body) (s : ℕ) → node_sort b ≡ Some s → named_sort b ≡ Some s
name_of (body.Init t u v) s e = absurd (none-some s e)
name_of (body.Next t u v) s e = absurd (none-some s e)
name_of b s e = e

form_below : (lines before more : List FullLine) (f : Frame) (x : FullLine) (b : Body) (minuses : List Bool) → x.says ≡ form b minuses → IsFullModel lines → lines ≡ before ++ more → LineAgrees before x
    → find_line lines x.id ≡ Some x → is_some (node_sort b) ≡ true → ((k : ℕ) → words_by_place lines f (form b minuses) k < 2 ^ widths_by_place lines (form b minuses) k)
    → IfSome (word_of_line lines f x.id (form b minuses)) (λ w. w < 2 ^ width_of lines x.id)
form_below lines before more f x b minuses says w e agrees found node fits =
    let name = some_of (node_sort b) node in
    let there : is_some (sort_at before name.0) ≡ true = subst (λ (o : Option ℕ). IfSome o (λ s. is_some (sort_at before s) ≡ true)) (ap sort_named says ∙ name.1) agrees.sort in
    let nodes = subst (λ (z : Says). AreNodes before (operands_of z)) says agrees.nodes in
    let width : width_of lines x.id ≡ size_of (sort_at before name.0) =
    ap size_of (own_sort lines x found ∙ ap (sort_of lines) says ∙ ap (option_and_then (sort_at lines)) name.1 ∙ sym (sort_same lines before more name.0 e there)) in
    let list : map (λ (o : Operand). width_of lines o.id) (operands_of (form b minuses)) ≡ map (width_of before) (operands b) = widths_same lines before more (operands b) minuses e nodes in
    let least : 1 ≤ width_of lines x.id = width_least lines x.id w (ap is_some (own_sort lines x found ∙ ap (sort_of lines) says ∙ ap (option_and_then (sort_at lines)) name.1 ∙ sym (sort_same lines before more name.0 e there)) ∙ there) in
    let said = subst (SaysAgree before) says agrees.agrees in
    let constant : constant_fits_within greatest_width (width_of lines x.id) b ≡ true =
    subst (λ (n : ℕ). constant_fits_within greatest_width n b ≡ true) (ap (λ (o : Option ℕ). size_of (sort_at before (unwrap_or o 0))) (name_of b name.0 name.1) ∙ sym width) said.2 in
    subst (λ (l : List ℕ). IfSome (word_by (width_of lines x.id) (at_place l) (words_by_place lines f (form b minuses)) b) (λ v. v < 2 ^ width_of lines x.id)) (sym list)
    (form_fits (λ k. size_of (sort_at before k)) (width_of before) (words_by_place lines f (form b minuses)) (width_of lines x.id) b least
    (subst (λ (o : Option ℕ). IfSome o (λ s. size_of (sort_at before s) ≡ width_of lines x.id)) (sym name.1) (sym width))
    (first_least lines before more (operands b) w e (all_ids (λ a. is_some (sort_of_node before a) ≡ true) (operands b) minuses nodes))
    (widths_by before b node said.1) constant
    (λ k. subst (λ (l : List ℕ). words_by_place lines f (form b minuses) k < 2 ^ at_place l k) list (fits k)))

abbrev OperandsFit : List FullLine → Frame → List Operand → Type 0
OperandsFit lines f os = AllByRecursion (λ (o : Operand). f o.id < 2 ^ width_of lines o.id) os

words_below : (lines : List FullLine) (f : Frame) (os : List Operand) → OperandsFit lines f os → AllByRecursion (λ (o : Operand). operand_word lines f o < 2 ^ width_of lines o.id) os
words_below lines f os h = all_with (λ (o : Operand). f o.id < 2 ^ width_of lines o.id) (λ (o : Operand). operand_word lines f o < 2 ^ width_of lines o.id) os (operand_below lines f) h

same_below : (o : Option ℕ) (x n : ℕ) → is_some o ≡ true → IfSome o (λ w. x ≡ w) → IfSome o (λ w. w < 2 ^ n) → x < 2 ^ n
same_below None x n there h k = absurd (cc)
same_below (Some w) x n there h k = subst (λ (y : ℕ). y < 2 ^ n) (sym h) k

width_is : (lines : List FullLine) (id : ℕ) (z : Sort) → sort_of_node lines id ≡ Some z → width_of lines id ≡ sort_size z
width_is lines id z e = ap size_of e

form_line : (lines before more : List FullLine) (f : Frame) (x : FullLine) (b : Body) (minuses : List Bool) → x.says ≡ form b minuses → IsFullModel lines → lines ≡ before ++ more → LineAgrees before x
    → find_line lines x.id ≡ Some x → is_some (node_sort b) ≡ true → OperandsFit lines f (operands_of (form b minuses)) → is_some (word_of_line lines f x.id (form b minuses)) ≡ true
    → IfSome (word_of_line lines f x.id (form b minuses)) (λ w. f x.id ≡ w) → f x.id < 2 ^ width_of lines x.id
form_line lines before more f x b minuses says w e agrees found node fits there h =
    same_below (word_of_line lines f x.id (form b minuses)) (f x.id) (width_of lines x.id) there h
    (form_below lines before more f x b minuses says w e agrees found node
    (by_place (operand_word lines f) (λ (o : Operand). width_of lines o.id) (operands_of (form b minuses)) (words_below lines f (operands_of (form b minuses)) fits)))

line_below : (lines before more : List FullLine) (f : Frame) (x : FullLine) (b : Says) → x.says ≡ b → IsFullModel lines → lines ≡ before ++ more → LineAgrees before x → find_line lines x.id ≡ Some x
    → is_some (sort_named b) ≡ true → WordThere lines f x.id b → OperandsFit lines f (operands_of b) → LineSays lines f x.id b → f x.id < 2 ^ width_of lines x.id
line_below lines before more f x (form (body.Input s) m) says w e agrees found node there fits h = h
line_below lines before more f x (form (body.State s) m) says w e agrees found node there fits h = h
line_below lines before more f x (form b m) says w e agrees found node there fits h = form_line lines before more f x b m says w e agrees found node fits there h
line_below lines before more f x (array_sort i t) says w e agrees found node there fits h = absurd (cc)
line_below lines before more f x (read s a i) says w e agrees found node there fits h =
    subst (λ (v : ℕ). v < 2 ^ width_of lines x.id) (sym h) (read_below (width_of lines x.id) (f a) (operand_word lines f i))
line_below lines before more f x (write s a i v) says w e agrees found node there fits h =
    let said = subst (SaysAgree before) says agrees.agrees in
    let k = said.0 in
    let n = said.1 in
    let own : width_of lines x.id ≡ 2 ^ k * n =
    ap size_of (own_sort lines x found ∙ ap (sort_of lines) says ∙ sym (sort_same lines before more s e (is_some_from (sort_at before s) (arrays k n) said.2)) ∙ said.2) in
    let array : width_of lines a ≡ 2 ^ k * n = ap size_of (sym (node_same lines before more a e (is_some_from (sort_of_node before a) (arrays k n) said.3)) ∙ said.3) in
    let index : width_of lines i.id ≡ k = ap size_of (sym (node_same lines before more i.id e (is_some_from (sort_of_node before i.id) (words k) said.4)) ∙ said.4) in
    let word : width_of lines v.id ≡ n = ap size_of (sym (node_same lines before more v.id e (is_some_from (sort_of_node before v.id) (words n) said.5)) ∙ said.5) in
    let here : operand_word lines f i < 2 ^ k = wider _ _ k index (operand_below lines f i fits.1.0) in
    let old : f a < 2 ^ (2 ^ k * n) = wider _ _ (2 ^ k * n) array fits.0 in
    let new : operand_word lines f v < 2 ^ n = wider _ _ n word (operand_below lines f v fits.1.1.0) in
    let written : write_value n (f a) (operand_word lines f i) (operand_word lines f v) < 2 ^ (2 ^ k * n) = write_below (2 ^ k) n (f a) (operand_word lines f i) (operand_word lines f v) here old new in
    let same : write_value (width_of lines v.id) (f a) (operand_word lines f i) (operand_word lines f v) ≡ write_value n (f a) (operand_word lines f i) (operand_word lines f v) =
    ap (λ (m : ℕ). write_value m (f a) (operand_word lines f i) (operand_word lines f v)) word in
    subst (λ (y : ℕ). y < 2 ^ width_of lines x.id) (sym (h ∙ same)) (wider _ _ (width_of lines x.id) (sym own) written)

-- ---- all lines

abbrev WordsFit : List FullLine → List FullLine → Frame → Type 0
WordsFit lines before f = (id : ℕ) (y : FullLine) → find_line before id ≡ Some y → is_some (sort_named y.says) ≡ true → f id < 2 ^ width_of lines id

node_fits : (lines before : List FullLine) (f : Frame) (id : ℕ) → WordsFit lines before f → is_some (sort_of_node before id) ≡ true → f id < 2 ^ width_of lines id
node_fits lines before f id fits h = let found = node_found before id h in fits id found.0 found.1 found.2

fits_from : (lines : List FullLine) (f : Frame) (before rest : List FullLine) → IsFullModel lines → lines ≡ before ++ rest → IsFullAfter before rest → AllByRecursion (λ (x : FullLine). find_line lines x.id ≡ Some x) rest
    → AllByRecursion (λ (x : FullLine). LineSays lines f x.id x.says) rest → WordsFit lines before f → WordsFit lines (before ++ rest) f
fits_from lines f before [] whole e w found h fits = rw append-nil fits
fits_from lines f before (x ∷ xs) whole e w found h fits =
    let nodes = all_with (λ (o : Operand). is_some (sort_of_node before o.id) ≡ true) (λ (o : Operand). f o.id < 2 ^ width_of lines o.id) (operands_of x.says) (λ o there. node_fits lines before f o.id fits there) w.0.nodes in
    let own : is_some (sort_named x.says) ≡ true → f x.id < 2 ^ width_of lines x.id =
    λ node. line_below lines before (x ∷ xs) f x x.says refl whole e w.0 found.0 node (word_there lines f x.id x.says node) nodes h.0 in
    let more : WordsFit lines (before ++ x ∷ []) f =
    λ id y at node. ⊎_elim (λ old. fits id y old node) (λ last. subst (λ (k : ℕ). f k < 2 ^ width_of lines k) (sym last.0) (own (ap (λ (z : FullLine). is_some (sort_named z.says)) last.1 ∙ node))) (find_cases before x id y at) in
    rw append_assoc at (fits_from lines f (before ++ x ∷ []) xs whole (e ∙ sym (append_assoc before (x ∷ []) xs)) w.1 found.1 h.1 more)

pub words_fit : (lines : List FullLine) (f : Frame) → IsFullModel lines → IsFullFrame lines f → (id : ℕ) → is_some (sort_of_node lines id) ≡ true → f id < 2 ^ width_of lines id
words_fit lines f w h id there = node_fits lines lines f id (fits_from lines f [] lines w refl w (each_found lines w) h (λ j y e node. absurd (none-some y e))) there

-- ---- what a state takes next fits

abbrev NextFits : List FullLine → Frame → ℕ → Operand → Type 0
NextFits lines f t o = operand_word lines f o < 2 ^ width_of lines t

second_is : (v : ℕ) (minuses : List Bool) → (second v minuses).id ≡ v
second_is v [] = refl
second_is v (m ∷ []) = refl
second_is v (m ∷ n ∷ more) = refl

next_fits_at : (lines before more : List FullLine) (f : Frame) (b : Says) → lines ≡ before ++ more → AreNodes before (operands_of b) → SaysAgree before b
    → ((id : ℕ) → is_some (sort_of_node lines id) ≡ true → f id < 2 ^ width_of lines id) → AtNext (NextFits lines f) b
next_fits_at lines before more f (form (body.Next s t v) minuses) e nodes agrees fits =
    let o = second v minuses in
    let ids = all_ids (λ a. is_some (sort_of_node before a) ≡ true) (t ∷ v ∷ []) minuses nodes in
    let same : sort_of_node lines o.id ≡ sort_of_node lines t =
    ap (sort_of_node lines) (second_is v minuses) ∙ sym (node_same lines before more v e ids.1.0) ∙ agrees.0.1 ∙ sym agrees.0.0 ∙ node_same lines before more t e ids.0 in
    let there : is_some (sort_of_node lines o.id) ≡ true = ap (λ (a : ℕ). is_some (sort_of_node lines a)) (second_is v minuses) ∙ ap is_some (sym (node_same lines before more v e ids.1.0)) ∙ ids.1.0 in
    wider _ _ (width_of lines t) (ap size_of same) (operand_below lines f o (fits o.id there))
next_fits_at lines before more f _ e nodes agrees fits = tt

nexts_fit_from : (lines : List FullLine) (f : Frame) (before rest : List FullLine) → lines ≡ before ++ rest → IsFullAfter before rest → ((id : ℕ) → is_some (sort_of_node lines id) ≡ true → f id < 2 ^ width_of lines id)
    → AllByRecursion (λ (x : FullLine). AtNext (NextFits lines f) x.says) rest
nexts_fit_from lines f before [] e w fits = tt
nexts_fit_from lines f before (x ∷ xs) e w fits =
    (next_fits_at lines before (x ∷ xs) f x.says e w.0.nodes w.0.agrees fits, nexts_fit_from lines f (before ++ x ∷ []) xs (e ∙ sym (append_assoc before (x ∷ []) xs)) w.1 fits)

pub nexts_fit : (lines : List FullLine) (f : Frame) → IsFullModel lines → IsFullFrame lines f → AllByRecursion (λ (x : FullLine). AtNext (λ t o. operand_word lines f o < 2 ^ width_of lines t) x.says) lines
nexts_fit lines f w h = nexts_fit_from lines f [] lines refl w (words_fit lines f w h)
