-- The places of nodes, and what a run's lists have there.
use Rattle.std.proofs.Common.{◌≡◌, ℕ, zero, suc, ◌+◌, ◌-◌, ◌<◌, Bool, true, false, List, [], ◌∷◌, ◌++◌, length, map, get_or, slice_get, Option, Some, None, is_some, option_and_then, unwrap_or, refl, sym, ap, subst, ◌∙◌, arith}
use Rattle.std.proofs.lemmas.Option.{none-some, get_or_from_slice_get}
use Rattle.std.proofs.lemmas.Bool.{true≢false}
use Rattle.std.proofs.lemmas.List.{length-map, get_or-map}
use Rattle.base.specs.Widths.{unary_width, binary_width}
use Rattle.btor2.specs.declared.item.Item.{Item}
use Rattle.btor2.specs.declared.item.Body.{Body}
use Rattle.btor2.specs.declared.item.Body.TheVariants as body
use Rattle.btor2.specs.Items.{find_item, position_of, node_sort, sort_width, node_width, width_of_body, operands}
use Rattle.btor2.specs.Check.{IsWellFormed}
use Rattle.btor2.specs.Lists.{width_at}
use Rattle.btor2.specs.Trace.{bits_of}
use Rattle.btor2.proofs.AppendLemmas.{some_of, then_parts, is_some_from, sort_width-append, node_width-append}
use Rattle.btor2.proofs.AcceptedLemmas.{Each, HasWidth, BodyIsAccepted}
use Rattle.btor2.proofs.ModelLemmas.{IsIn-from_find, IsIn-from_place, IsAccepted-at}
use Rattle.runs.specs.Frames.{has_value}
use Rattle.runs.specs.Nodes.{slot}
use Rattle.btor2.proofs.LookUps.{position_found, no_item}

-- an item at a place is inside the list
pub place_inside : {A : Type 0} (list : List A) (k : ℕ) (x : A) → slice_get list k ≡ Some x → k < length list
place_inside [] k x h = absurd (none-some x h)
place_inside (y ∷ ys) zero x h = omega arith
place_inside (y ∷ ys) (suc k) x h = omega (arith, place_inside ys k x h)

-- what a list of numbers, one for each item, has at an item's place
pub map_read : {A : Type 0} (f : A → ℕ) (list : List A) (k : ℕ) (x : A) → slice_get list k ≡ Some x → get_or (map f list) k 0 ≡ f x
map_read f list k x h = get_or-map f list k x 0 (place_inside list k x h) ∙ ap f (get_or_from_slice_get list k x x h)

-- the place of a node with an id
pub record NodePlace (items : List Item) (id place : ℕ) : Type 0 where
  pub item : Item
  pub at : slice_get items place ≡ Some item
  pub inside : place < length items
  pub own : item.id ≡ id
  pub width : width_at items place ≡ Some (bits_of items id)

pub node_place : (items : List Item) (id place : ℕ) → is_some (node_width items id) ≡ true → position_of items id ≡ Some place → NodePlace items id place
node_place items id place there e =
    let width = some_of (node_width items id) there in
    let parts = then_parts (λ (x : Item). width_of_body items x.body) (find_item items id) width.0 width.1 in
    let at : slice_get items place ≡ Some parts.0 = position_found items id place e ∙ parts.1 in
    let bits : bits_of items id ≡ width.0 = ap (λ (o : Option ℕ). unwrap_or o 0) width.1 in
    record {
      item = parts.0;
      at = at;
      inside = place_inside items place parts.0 at;
      own = sym (IsIn-from_find items id parts.0 parts.1).1;
      width = ap (option_and_then (λ (x : Item). width_of_body items x.body)) at ∙ parts.2 ∙ ap (λ (n : ℕ). Some n) (sym bits);
    }

pub no_place : (items : List Item) (id : ℕ) → is_some (node_width items id) ≡ true → position_of items id ≡ None → ⊥
no_place items id there e =
    let width = some_of (node_width items id) there in
    let parts = then_parts (λ (x : Item). width_of_body items x.body) (find_item items id) width.0 width.1 in
    none-some parts.0 (sym (no_item items id e) ∙ parts.1)

-- the slot that is kept for a place
pub slot_read : (items : List Item) (slots : List ℕ) (id place : ℕ) → slots ≡ map (λ (x : Item). slot items x.id) items → NodePlace items id place → get_or slots place 0 ≡ slot items id
slot_read items slots id place kept p =
    ap (λ (l : List ℕ). get_or l place 0) kept ∙ map_read (λ (x : Item). slot items x.id) items place p.item p.at ∙ ap (slot items) p.own

pub slots_length : (items : List Item) (slots : List ℕ) → slots ≡ map (λ (x : Item). slot items x.id) items → length slots ≡ length items
slots_length items slots kept = ap length kept ∙ length-map items (λ (x : Item). slot items x.id)

-- The operands of a line that stands in a well-formed list are nodes of it.

each_there : (before more : List Item) (ids : List ℕ) → Each (HasWidth before) ids → Each (λ a. is_some (node_width (before ++ more) a) ≡ true) ids
each_there before more [] h = tt
each_there before more (a ∷ ids) h =
    (is_some_from (node_width (before ++ more) a) h.0.0 (node_width-append before more a h.0.0 h.0.1), each_there before more ids h.1)

pub operands_there : (items : List Item) (place : ℕ) (x : Item) → IsWellFormed items → slice_get items place ≡ Some x → Each (λ a. is_some (node_width items a) ≡ true) (operands x.body)
operands_there items place x w at =
    let there = (IsIn-from_place items place x at).0 in
    let accepted = IsAccepted-at items x w there in
    subst (λ (l : List Item). Each (λ a. is_some (node_width l a) ≡ true) (operands x.body)) (sym there.splits) (each_there there.before (x ∷ there.after) (operands x.body) accepted.nodes)

-- those of a line of a known form
pub operands_of : (items : List Item) (place : ℕ) (x : Item) (b : Body) → IsWellFormed items → slice_get items place ≡ Some x → x.body ≡ b → Each (λ a. is_some (node_width items a) ≡ true) (operands b)
operands_of items place x b w at is = subst (λ (c : Body). Each (λ a. is_some (node_width items a) ≡ true) (operands c)) is (operands_there items place x w at)

-- A line has a width where it has a value.

sort_there : (before after : List Item) (s n : ℕ) → sort_width before s ≡ Some n → is_some (sort_width (before ++ after) s) ≡ true
sort_there before after s n h = is_some_from (sort_width (before ++ after) s) n (sort_width-append before after s n h)

pub value_width : (before after : List Item) (b : Body) → has_value b ≡ true → BodyIsAccepted before b → is_some (width_of_body (before ++ after) b) ≡ true
value_width before after (body.Input s) has says = sort_there before after s says.0 says.1
value_width before after (body.State s) has says = sort_there before after s says.0 says.1
value_width before after (body.Zero s) has says = sort_there before after s says.0 says.1
value_width before after (body.One s) has says = sort_there before after s says.0 says.1
value_width before after (body.Ones s) has says = sort_there before after s says.0 says.1
value_width before after (body.Const s d v) has says = sort_there before after s says.0 says.1
value_width before after (body.Constd s v) has says = sort_there before after s says.0 says.1
value_width before after (body.Consth s d v) has says = sort_there before after s says.0 says.1
value_width before after (body.Uext s a by) has says = sort_there before after s (says.0 + by) says.2
value_width before after (body.Sext s a by) has says = sort_there before after s (says.0 + by) says.2
value_width before after (body.Slice s a u l) has says = sort_there before after s (u - l + 1) says.2
value_width before after (body.Unary op s a) has says = sort_there before after s (unary_width op says.0) says.2
value_width before after (body.Binary op s a b) has says = sort_there before after s (binary_width op says.0) says.3
value_width before after (body.Concat s a b) has says = sort_there before after s (says.0 + says.1) says.4
value_width before after (body.Ite s c t e) has says = sort_there before after s says.0 says.4
value_width before after _ has says = absurd (cc)

no_width : (f : ℕ → Option ℕ) (o : Option ℕ) → is_some o ≡ false → is_some (option_and_then f o) ≡ false
no_width f None h = refl
no_width f (Some s) h = absurd (true≢false h)

pub width_there : (items : List Item) (place : ℕ) (x : Item) → IsWellFormed items → slice_get items place ≡ Some x → is_some (width_at items place) ≡ has_value x.body
width_there items place x w at = ap (λ (o : Option Item). is_some (option_and_then (λ (y : Item). width_of_body items y.body) o)) at ∙ by (has_value x.body) refl
  where
    by : (b : Bool) → has_value x.body ≡ b → is_some (width_of_body items x.body) ≡ b
    by true has =
        let there = (IsIn-from_place items place x at).0 in
        subst (λ (l : List Item). is_some (width_of_body l x.body) ≡ true) (sym there.splits) (value_width there.before (x ∷ there.after) x.body has (IsAccepted-at items x w there).says)
    by false none = no_width (sort_width items) (node_sort x.body) none
