-- Lists with lines without a value behind them: inits, nexts, properties and outputs.
use Rattle.std.proofs.Common.{◌≡◌, ℕ, Bool, true, false, cond, List, [], ◌∷◌, ◌++◌, flat_map, Option, Some, None, append_assoc, append-nil, refl, sym, ap, ◌∙◌}
use Rattle.std.specs.List.{AllZip}
use Rattle.std.specs.Option.{option_or}
use Rattle.btor2.specs.declared.item.Item.{Item}
use Rattle.btor2.specs.declared.item.Body.{Body}
use Rattle.btor2.specs.Items.{operands, init_for, init_value, next_for, next_value}
use Rattle.btor2.specs.Lists.{of_kind}
use Rattle.btor2.specs.Reachability.{nodes_of}
use Rattle.full.specs.Lines.{Operand, FullLine, operands_of, is_form, lines_of, full_nodes, init_by, next_by, init_of, next_of}
use Rattle.cells.specs.Lines.{named}

-- ---- choices

or_assoc : {A : Type 0} (a b c : Option A) → option_or (option_or a b) c ≡ option_or a (option_or b c)
or_assoc None b c = refl
or_assoc (Some x) b c = refl

or_none : {A : Type 0} (a : Option A) → option_or a None ≡ a
or_none None = refl
or_none (Some x) = refl

-- ---- lists one behind the other

pub inits_joined : (xs ys : List Item) (id : ℕ) → init_value (xs ++ ys) id ≡ option_or (init_value xs id) (init_value ys id)
inits_joined [] ys id = refl
inits_joined (x ∷ xs) ys id = ap (option_or (init_for id x.body)) (inits_joined xs ys id) ∙ sym (or_assoc (init_for id x.body) (init_value xs id) (init_value ys id))

pub nexts_joined : (xs ys : List Item) (id : ℕ) → next_value (xs ++ ys) id ≡ option_or (next_value xs id) (next_value ys id)
nexts_joined [] ys id = refl
nexts_joined (x ∷ xs) ys id = ap (option_or (next_for id x.body)) (nexts_joined xs ys id) ∙ sym (or_assoc (next_for id x.body) (next_value xs id) (next_value ys id))

pub nodes_joined : (kind : Body → Bool) (xs ys : List Item) → nodes_of kind (xs ++ ys) ≡ nodes_of kind xs ++ nodes_of kind ys
nodes_joined kind [] ys = refl
nodes_joined kind (x ∷ xs) ys = by (kind x.body) (nodes_joined kind xs ys)
  where
    by : (b : Bool) → nodes_of kind (xs ++ ys) ≡ nodes_of kind xs ++ nodes_of kind ys
        → flat_map (λ (y : Item). operands y.body) (cond b (x ∷ of_kind kind (xs ++ ys)) (of_kind kind (xs ++ ys))) ≡ flat_map (λ (y : Item). operands y.body) (cond b (x ∷ of_kind kind xs) (of_kind kind xs)) ++ nodes_of kind ys
    by true h = ap (λ (l : List ℕ). operands x.body ++ l) h ∙ sym (append_assoc (operands x.body) (nodes_of kind xs) (nodes_of kind ys))
    by false h = h

pub full_joined : (kind : Body → Bool) (xs ys : List FullLine) → full_nodes kind (xs ++ ys) ≡ full_nodes kind xs ++ full_nodes kind ys
full_joined kind [] ys = refl
full_joined kind (x ∷ xs) ys = by (is_form kind x.says) (full_joined kind xs ys)
  where
    by : (b : Bool) → full_nodes kind (xs ++ ys) ≡ full_nodes kind xs ++ full_nodes kind ys
        → flat_map (λ (y : FullLine). operands_of y.says) (cond b (x ∷ lines_of kind (xs ++ ys)) (lines_of kind (xs ++ ys))) ≡ flat_map (λ (y : FullLine). operands_of y.says) (cond b (x ∷ lines_of kind xs) (lines_of kind xs)) ++ full_nodes kind ys
    by true h = ap (λ (l : List Operand). operands_of x.says ++ l) h ∙ sym (append_assoc (operands_of x.says) (full_nodes kind xs) (full_nodes kind ys))
    by false h = h

pub init_joined : (xs ys : List FullLine) (id : ℕ) → init_of (xs ++ ys) id ≡ option_or (init_of xs id) (init_of ys id)
init_joined [] ys id = refl
init_joined (x ∷ xs) ys id = ap (option_or (init_by id x.says)) (init_joined xs ys id) ∙ sym (or_assoc (init_by id x.says) (init_of xs id) (init_of ys id))

pub next_joined : (xs ys : List FullLine) (id : ℕ) → next_of (xs ++ ys) id ≡ option_or (next_of xs id) (next_of ys id)
next_joined [] ys id = refl
next_joined (x ∷ xs) ys id = ap (option_or (next_by id x.says)) (next_joined xs ys id) ∙ sym (or_assoc (next_by id x.says) (next_of xs id) (next_of ys id))

pub zip_joined : {A B : Type 0} (P : A → B → Type 0) (xs more : List A) (ys rest : List B) → AllZip P xs ys → AllZip P more rest → AllZip P (xs ++ more) (ys ++ rest)
zip_joined P [] more [] rest h k = k
zip_joined P [] more (y ∷ ys) rest h k = absurd h
zip_joined P (x ∷ xs) more [] rest h k = absurd h
zip_joined P (x ∷ xs) more (y ∷ ys) rest h k = (h.0, zip_joined P xs more ys rest h.1 k)

-- ---- one line behind

-- the last line of a list is of a kind, or not
pub node_behind : (kind : Body → Bool) (items : List Item) (id : ℕ) (symbol : Option (List ℕ)) (b : Body) → kind b ≡ true → nodes_of kind (items ++ named id symbol b ∷ []) ≡ nodes_of kind items ++ operands b
node_behind kind items id symbol b h =
    nodes_joined kind items (named id symbol b ∷ [])
    ∙ ap (λ (l : List ℕ). nodes_of kind items ++ l) (ap (λ (c : Bool). flat_map (λ (y : Item). operands y.body) (cond c (named id symbol b ∷ []) [])) h ∙ append-nil (operands b))

pub no_node_behind : (kind : Body → Bool) (items : List Item) (id : ℕ) (symbol : Option (List ℕ)) (b : Body) → kind b ≡ false → nodes_of kind (items ++ named id symbol b ∷ []) ≡ nodes_of kind items
no_node_behind kind items id symbol b h =
    nodes_joined kind items (named id symbol b ∷ [])
    ∙ ap (λ (l : List ℕ). nodes_of kind items ++ l) (ap (λ (c : Bool). flat_map (λ (y : Item). operands y.body) (cond c (named id symbol b ∷ []) [])) h) ∙ append-nil (nodes_of kind items)

pub full_behind : (kind : Body → Bool) (lines : List FullLine) (x : FullLine) → is_form kind x.says ≡ true → full_nodes kind (lines ++ x ∷ []) ≡ full_nodes kind lines ++ operands_of x.says
full_behind kind lines x h =
    full_joined kind lines (x ∷ [])
    ∙ ap (λ (l : List Operand). full_nodes kind lines ++ l) (ap (λ (c : Bool). flat_map (λ (y : FullLine). operands_of y.says) (cond c (x ∷ []) [])) h ∙ append-nil (operands_of x.says))

pub no_full_behind : (kind : Body → Bool) (lines : List FullLine) (x : FullLine) → is_form kind x.says ≡ false → full_nodes kind (lines ++ x ∷ []) ≡ full_nodes kind lines
no_full_behind kind lines x h =
    full_joined kind lines (x ∷ [])
    ∙ ap (λ (l : List Operand). full_nodes kind lines ++ l) (ap (λ (c : Bool). flat_map (λ (y : FullLine). operands_of y.says) (cond c (x ∷ []) [])) h) ∙ append-nil (full_nodes kind lines)

pub init_behind : (items : List Item) (id : ℕ) (symbol : Option (List ℕ)) (b : Body) (w : ℕ) → init_value (items ++ named id symbol b ∷ []) w ≡ option_or (init_value items w) (init_for w b)
init_behind items id symbol b w = inits_joined items (named id symbol b ∷ []) w ∙ ap (option_or (init_value items w)) (or_none (init_for w b))

pub next_behind : (items : List Item) (id : ℕ) (symbol : Option (List ℕ)) (b : Body) (w : ℕ) → next_value (items ++ named id symbol b ∷ []) w ≡ option_or (next_value items w) (next_for w b)
next_behind items id symbol b w = nexts_joined items (named id symbol b ∷ []) w ∙ ap (option_or (next_value items w)) (or_none (next_for w b))

pub init_of_behind : (lines : List FullLine) (x : FullLine) (id : ℕ) → init_of (lines ++ x ∷ []) id ≡ option_or (init_of lines id) (init_by id x.says)
init_of_behind lines x id = init_joined lines (x ∷ []) id ∙ ap (option_or (init_of lines id)) (or_none (init_by id x.says))

pub next_of_behind : (lines : List FullLine) (x : FullLine) (id : ℕ) → next_of (lines ++ x ∷ []) id ≡ option_or (next_of lines id) (next_by id x.says)
next_of_behind lines x id = next_joined lines (x ∷ []) id ∙ ap (option_or (next_of lines id)) (or_none (next_by id x.says))
