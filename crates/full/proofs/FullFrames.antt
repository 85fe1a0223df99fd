-- Frames of a model go by the words of its leaves alone.
use Rattle.std.proofs.Common.{◌≡◌, ℕ, Bool, true, cond, nat_eq, List, [], ◌∷◌, ◌++◌, map, Option, Some, None, is_some, IfSome, append_assoc, append-nil, refl, sym, ap, ap₂, subst, ◌∙◌, ⊎_elim}
use Rattle.std.specs.List.{AllByRecursion}
use Rattle.std.proofs.lemmas.Option.{none-some}
use Rattle.base.specs.declared.operators.Unary.TheVariants as unary
use Rattle.base.specs.Operator.{unary_value}
use Rattle.btor2.specs.declared.item.Body.{Body}
use Rattle.btor2.specs.declared.item.Body.TheVariants as body
use Rattle.btor2.specs.Trace.{Frame}
use Rattle.full.specs.Lines.{Operand, Says, form, array_sort, read, write, FullLine, operands_of, find_line, sort_named, sort_of_node, width_of, full_nodes}
use Rattle.full.specs.Agreement.{IsFullAfter, IsFullModel}
use Rattle.full.specs.Cells.{read_value, write_value}
use Rattle.full.specs.Runs.{word_by, operand_word, first_word, in_each_cell, at_place, widths_by_place, word_of_line, LineSays, LeafSame, IsFullFrame, SameAtNodes, full_values}
use Rattle.full.proofs.ListLemmas.{all_with}
use Rattle.full.proofs.FullLookUps.{find_cases, node_found, AreNodes, each_nodes, kind_nodes}

-- ---- one line

pub same_operand : (lines : List FullLine) (f g : Frame) (o : Operand) → f o.id ≡ g o.id → operand_word lines f o ≡ operand_word lines g o
same_operand lines f g o e = ap (λ (w : ℕ). cond o.minus (unary_value unary.Not (width_of lines o.id) w) w) e

same_operands : (lines : List FullLine) (f g : Frame) (os : List Operand) → AllByRecursion (λ (o : Operand). f o.id ≡ g o.id) os → map (operand_word lines f) os ≡ map (operand_word lines g) os
same_operands lines f g [] h = refl
same_operands lines f g (o ∷ os) h = ap₂ ◌∷◌ (same_operand lines f g o h.0) (same_operands lines f g os h.1)

-- frames with the same words at the operands of a line are given the same word by it
pub same_word : (lines : List FullLine) (f g : Frame) (id : ℕ) (b : Says) → AllByRecursion (λ (o : Operand). f o.id ≡ g o.id) (operands_of b) → word_of_line lines f id b ≡ word_of_line lines g id b
same_word lines f g id (form b minuses) h =
    ap (λ (l : List ℕ). word_by (width_of lines id) (widths_by_place lines (form b minuses)) (at_place l) b) (same_operands lines f g (operands_of (form b minuses)) h)
same_word lines f g id (array_sort i e) h = refl
same_word lines f g id (read s a i) h = ap₂ (λ (v w : ℕ). Some (read_value (width_of lines id) v w)) h.0 (same_operand lines f g i h.1.0)
same_word lines f g id (write s a i v) h =
    ap₂ (λ (x y : ℕ). Some (write_value (width_of lines v.id) x y (operand_word lines f v))) h.0 (same_operand lines f g i h.1.0)
    ∙ ap (λ (z : ℕ). Some (write_value (width_of lines v.id) (g a) (operand_word lines g i) z)) (same_operand lines f g v h.1.1.0)

one_word : (o p : Option ℕ) (x y : ℕ) → is_some o ≡ true → o ≡ p → IfSome o (λ w. x ≡ w) → IfSome p (λ w. y ≡ w) → x ≡ y
one_word None p x y there e h k = absurd (cc)
one_word (Some w) p x y there e h k = h ∙ sym (subst (λ (q : Option ℕ). IfSome q (λ w. y ≡ w)) (sym e) k)

-- a node's line that is no leaf gives it a word
abbrev pub WordThere : List FullLine → Frame → ℕ → Says → Type 0
WordThere lines f id (form (body.Input s) minuses) = Unit {0}
WordThere lines f id (form (body.State s) minuses) = Unit {0}
WordThere lines f id b = is_some (word_of_line lines f id b) ≡ true

pub word_there : (lines : List FullLine) (f : Frame) (id : ℕ) (b : Says) → is_some (sort_named b) ≡ true → WordThere lines f id b
word_there lines f id (form (body.Sort n) m) h = h
word_there lines f id (form (body.Input s) m) h = tt
word_there lines f id (form (body.State s) m) h = tt
word_there lines f id (form (body.Init s t v) m) h = h
word_there lines f id (form (body.Next s t v) m) h = h
word_there lines f id (form (body.Bad a) m) h = h
word_there lines f id (form (body.Constraint a) m) h = h
word_there lines f id (form (body.Fair a) m) h = h
word_there lines f id (form (body.Output a) m) h = h
word_there lines f id (form (body.Justice nodes) m) h = h
word_there lines f id (form _ m) h = refl
word_there lines f id (array_sort i e) h = h
word_there lines f id (read s a i) h = refl
word_there lines f id (write s a i v) h = refl

own_same : (lines : List FullLine) (f g : Frame) (id : ℕ) (b : Says) → WordThere lines f id b → word_of_line lines f id b ≡ word_of_line lines g id b → LeafSame f g id b → LineSays lines f id b → LineSays lines g id b → f id ≡ g id
own_same lines f g id (form (body.Input s) m) there e leaf h k = leaf
own_same lines f g id (form (body.State s) m) there e leaf h k = leaf
own_same lines f g id b there e leaf h k = one_word (word_of_line lines f id b) (word_of_line lines g id b) (f id) (g id) there e h k

-- ---- all lines

abbrev SameNodes : List FullLine → Frame → Frame → Type 0
SameNodes lines f g = (id : ℕ) (y : FullLine) → find_line lines id ≡ Some y → is_some (sort_named y.says) ≡ true → f id ≡ g id

node_same : (lines : List FullLine) (f g : Frame) (id : ℕ) → SameNodes lines f g → is_some (sort_of_node lines id) ≡ true → f id ≡ g id
node_same lines f g id same h = let found = node_found lines id h in same id found.0 found.1 found.2

same_from : (lines : List FullLine) (f g : Frame) (before rest : List FullLine) → IsFullAfter before rest
    → AllByRecursion (λ (x : FullLine). LeafSame f g x.id x.says) rest → AllByRecursion (λ (x : FullLine). LineSays lines f x.id x.says) rest → AllByRecursion (λ (x : FullLine). LineSays lines g x.id x.says) rest
    → SameNodes before f g → SameNodes (before ++ rest) f g
same_from lines f g before [] w leaves h k same = rw append-nil same
same_from lines f g before (x ∷ xs) w leaves h k same =
    let nodes = all_with (λ (o : Operand). is_some (sort_of_node before o.id) ≡ true) (λ (o : Operand). f o.id ≡ g o.id) (operands_of x.says) (λ o there. node_same before f g o.id same there) w.0.nodes in
    let word = same_word lines f g x.id x.says nodes in
    let own : is_some (sort_named x.says) ≡ true → f x.id ≡ g x.id = λ node. own_same lines f g x.id x.says (word_there lines f x.id x.says node) word leaves.0 h.0 k.0 in
    let more : SameNodes (before ++ x ∷ []) f g =
    λ id y found node. ⊎_elim (λ e. same id y e node) (λ e. ap f e.0 ∙ own (ap (λ (z : FullLine). is_some (sort_named z.says)) e.1 ∙ node) ∙ ap g (sym e.0)) (find_cases before x id y found) in
    rw append_assoc at (same_from lines f g (before ++ x ∷ []) xs w.1 leaves.1 h.1 k.1 more)

-- two frames with the same words at the leaves have one word at each node
pub frame_by_leaves : (lines : List FullLine) (f g : Frame) → IsFullModel lines → AllByRecursion (λ (x : FullLine). LeafSame f g x.id x.says) lines → IsFullFrame lines f → IsFullFrame lines g
    → (id : ℕ) → is_some (sort_of_node lines id) ≡ true → f id ≡ g id
frame_by_leaves lines f g w leaves h k id there = node_same lines f g id (same_from lines f g [] lines w leaves h k (λ j y e node. absurd (none-some y e))) there

-- ---- what goes by the words of the nodes

pub first_word_same : (lines : List FullLine) (f g : Frame) (t : ℕ) (o : Operand) → f o.id ≡ g o.id → first_word lines f t o ≡ first_word lines g t o
first_word_same lines f g t o e = ap (in_each_cell (sort_of_node lines t) (sort_of_node lines o.id)) (same_operand lines f g o e)

values_among : (lines : List FullLine) (f g : Frame) (os : List Operand) → SameAtNodes lines f g → AreNodes lines os → map (λ (o : Operand). nat_eq (operand_word lines f o) 1) os ≡ map (λ (o : Operand). nat_eq (operand_word lines g o) 1) os
values_among lines f g [] same h = refl
values_among lines f g (o ∷ os) same h = ap₂ ◌∷◌ (ap (λ (w : ℕ). nat_eq w 1) (same_operand lines f g o (same o.id h.0))) (values_among lines f g os same h.1)

pub values_same : (lines : List FullLine) (f g : Frame) (kind : Body → Bool) → IsFullModel lines → SameAtNodes lines f g → full_values kind lines f ≡ full_values kind lines g
values_same lines f g kind w same = values_among lines f g (full_nodes kind lines) same (kind_nodes lines lines kind (each_nodes lines w))
