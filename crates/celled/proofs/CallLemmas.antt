-- What a line finds in the lines before it.
use Rattle.std.proofs.Common.{◌≡◌, ℕ, zero, suc, ◌<◌, true, ◌||◌, List, [], ◌∷◌, ◌++◌, length, Some, None, is_some, option_and_then, slice_get, append_assoc, refl, sym, ap, subst, ◌∙◌, arith}
use Rattle.std.proofs.lemmas.Option.{none-some}
use Rattle.btor2.specs.declared.item.Item.{Item}
use Rattle.btor2.specs.declared.item.Body.{Body}
use Rattle.btor2.specs.declared.item.Body.TheVariants as body
use Rattle.btor2.specs.Items.{find_item, node_sort, sort_width, node_width, width_of_body, constant_of_body, is_input, is_state}
use Rattle.btor2.proofs.AppendLemmas.{find_item-append, node_width-append, sort_width-append, then_parts, some_of, is_some_from}
use Rattle.wide.specs.WideModels.{greatest_width, wide_refusal, IsWideModel}
use Rattle.wide.specs.declared.constant.Spelling.{Spelling}
use Rattle.wide.specs.declared.constant.Spelling.TheVariants as spelling
use Rattle.wide.specs.Lines.{constant_body}
use Rattle.fitting.specs.Fitted.{is_leaf}
use Rattle.cells.proofs.PlaceLemmas.{found_last}
use Rattle.celled.specs.Spots.{Spots}
use Rattle.celled.specs.Split.{IsSplit}
use Rattle.celled.specs.Steps.{IsSingle, IsInitBy, IsNextBy}
use Rattle.celled.specs.declared.table.Spot.{Spot}
use Rattle.celled.proofs.StandLemmas.{goes_same, fresh_in, stands_at}
use Rattle.celled.proofs.CopyLemmas.{init_said, next_said}
use Rattle.celled.proofs.CopiedLemmas.{sort_of_line}

get_front : (xs ys : List Item) (k : ℕ) (y : Item) → slice_get xs k ≡ Some y → slice_get (xs ++ ys) k ≡ Some y
get_front [] ys k y e = absurd (none-some y e)
get_front (x ∷ xs) ys zero y e = e
get_front (x ∷ xs) ys (suc k) y e = get_front xs ys k y e

get_within : (xs : List Item) (k : ℕ) (y : Item) → slice_get xs k ≡ Some y → k < length xs
get_within [] k y e = absurd (none-some y e)
get_within (x ∷ xs) zero y e = omega arith
get_within (x ∷ xs) (suc k) y e = let less = get_within xs k y e in omega (arith, less)

-- the line of an init line's constant
pub record Constant (front wide : List Item) (t : Spots) (v : ℕ) : Type 0 where
  pub item : Item
  pub found : find_item front v ≡ Some item
  pub at : slice_get wide (t.line v) ≡ Some item
  pub within : t.line v < length wide

pub constant_place : (front wide : List Item) (t : Spots) (celled : List Item) (inputs states : List ℕ) (x : Item) (after : List Item) (s id v : ℕ) → IsSplit front t celled inputs states → IsWideModel greatest_width celled → wide_refusal greatest_width front x ≡ None → x.body ≡ body.Init s id v
    → wide ≡ front ++ x ∷ after → Constant front wide t v
constant_place front wide t celled inputs states x after s id v h m accepted e is =
    let said = init_said front x s id v accepted e in
    let parts = then_parts (λ (y : Item). constant_of_body front y.body) (find_item front v) said.constant said.word in
    let at = stands_at front t celled front t celled v parts.0 h.stand (goes_same front t celled h.wide_model m) parts.1 in
    let line : slice_get front (t.line v) ≡ Some parts.0 = ap (λ (k : ℕ). slice_get front (t.line k)) at.1 ∙ at.0.line in
    let place : slice_get wide (t.line v) ≡ Some parts.0 = ap (λ (l : List Item). slice_get l (t.line v)) is ∙ get_front front (x ∷ after) (t.line v) parts.0 line in
    record { item = parts.0; found = parts.1; at = place; within = get_within wide (t.line v) parts.0 place }

-- a node of the lines before is one of all
pub node_of_all : (front wide : List Item) (x : Item) (after : List Item) (id : ℕ) → wide ≡ front ++ x ∷ after → is_some (node_width front id) ≡ true → is_some (node_width wide id) ≡ true
node_of_all front wide x after id is there =
    let own = some_of (node_width front id) there in
    ap (λ (l : List Item). is_some (node_width l id)) is ∙ is_some_from (node_width (front ++ x ∷ after) id) own.0 (node_width-append front (x ∷ after) id own.0 own.1)

node_before : (front wide : List Item) (x : Item) (after : List Item) (id width : ℕ) → wide ≡ front ++ x ∷ after → is_some (node_width front id) ≡ true → node_width wide id ≡ Some width → node_width front id ≡ Some width
node_before front wide x after id width is there e =
    let own = some_of (node_width front id) there in
    own.1 ∙ sym (node_width-append front (x ∷ after) id own.0 own.1) ∙ ap (λ (l : List Item). node_width l id) (sym is) ∙ e

pub init_node : (front wide : List Item) (x : Item) (after : List Item) (s id v : ℕ) → wide_refusal greatest_width front x ≡ None → x.body ≡ body.Init s id v → wide ≡ front ++ x ∷ after → is_some (node_width wide id) ≡ true
init_node front wide x after s id v accepted e is = node_of_all front wide x after id is (init_said front x s id v accepted e).there

pub next_node : (front wide : List Item) (x : Item) (after : List Item) (s id v : ℕ) → wide_refusal greatest_width front x ≡ None → x.body ≡ body.Next s id v → wide ≡ front ++ x ∷ after → is_some (node_width wide id) ≡ true
next_node front wide x after s id v accepted e is = node_of_all front wide x after id is (next_said front x s id v accepted e).there

pub init_is_by : (front wide : List Item) (t : Spots) (x : Item) (after : List Item) (s id v : ℕ) (c : Constant front wide t v) (constant : Item) (spot : Spot) (width k : ℕ) → wide_refusal greatest_width front x ≡ None → x.body ≡ body.Init s id v → wide ≡ front ++ x ∷ after → slice_get wide k ≡ Some constant → k ≡ t.line v
    → spot.first ≡ t.first id → spot.count ≡ t.count id → (spot.count ≡ 1 → ⊥) → node_width wide id ≡ Some width → IsInitBy front t x.body constant spot width
init_is_by front wide t x after s id v c constant spot width k accepted e is at line first count several own =
    let same : c.item ≡ constant = some_item c.item constant (sym c.at ∙ ap (slice_get wide) (sym line) ∙ at) in
    subst (λ (b : Body). IsInitBy front t b constant spot width) (sym e)
    (c.found ∙ ap (λ (y : Item). Some y) same, first, count, several, node_before front wide x after id width is (init_said front x s id v accepted e).there own)
  where
    some_item : (y z : Item) → Some y ≡ Some z → y ≡ z
    some_item y z e = cc

pub next_is_by : (front wide : List Item) (t : Spots) (x : Item) (after : List Item) (s id v node : ℕ) (spot : Spot) (width : ℕ) → wide_refusal greatest_width front x ≡ None → x.body ≡ body.Next s id v → wide ≡ front ++ x ∷ after → node ≡ t.node v
    → spot.first ≡ t.first id → spot.count ≡ t.count id → (spot.count ≡ 1 → ⊥) → node_width wide id ≡ Some width → IsNextBy front t x.body node spot width
next_is_by front wide t x after s id v node spot width accepted e is value first count several own =
    subst (λ (b : Body). IsNextBy front t b node spot width) (sym e)
    (sym value, first, count, several, node_before front wide x after id width is (next_said front x s id v accepted e).there own)

-- ---- leaves

pub leaf_sort : (b : Body) → (is_input b || is_state b) ≡ true → (s : ℕ) × (node_sort b ≡ Some s)
leaf_sort (body.Input s) h = (s, refl)
leaf_sort (body.State s) h = (s, refl)
leaf_sort _ h = absurd (cc)

-- a leaf's width
pub record LeafWidth (front wide : List Item) (x : Item) : Type 0 where
  pub width : ℕ
  pub own : width_of_body front x.body ≡ Some width
  pub all : node_width wide x.id ≡ Some width

pub leaf_width : (front wide : List Item) (x : Item) (after : List Item) → wide_refusal greatest_width front x ≡ None → wide ≡ front ++ x ∷ after → is_leaf x ≡ true → LeafWidth front wide x
leaf_width front wide x after accepted is leaf =
    let sort = leaf_sort x.body leaf in
    let width = sort_of_line front x sort.0 accepted sort.1 in
    let own : width_of_body front x.body ≡ Some width.0 = ap (option_and_then (sort_width front)) sort.1 ∙ width.1 in
    let whole : wide ≡ (front ++ x ∷ []) ++ after = is ∙ sym (append_assoc front (x ∷ []) after) in
    let found : find_item wide x.id ≡ Some x = ap (λ (l : List Item). find_item l x.id) whole ∙ find_item-append (front ++ x ∷ []) after x.id x (found_last front x.id x.symbol x.body (fresh_in front x accepted)) in
    let later : sort_width wide sort.0 ≡ Some width.0 = ap (λ (l : List Item). sort_width l sort.0) is ∙ sort_width-append front (x ∷ after) sort.0 width.0 width.1 in
    record {
      width = width.0;
      own = own;
      all = ap (option_and_then (λ (y : Item). width_of_body wide y.body)) found ∙ ap (option_and_then (sort_width wide)) sort.1 ∙ later;
    }

pub leaf_there : (front wide : List Item) (x : Item) (after : List Item) → wide_refusal greatest_width front x ≡ None → wide ≡ front ++ x ∷ after → is_leaf x ≡ true → is_some (node_width wide x.id) ≡ true
leaf_there front wide x after accepted is leaf = let w = leaf_width front wide x after accepted is leaf in is_some_from (node_width wide x.id) w.width w.all

pub leaf_width_is : (front wide : List Item) (x : Item) (after : List Item) (width : ℕ) → wide_refusal greatest_width front x ≡ None → wide ≡ front ++ x ∷ after → is_leaf x ≡ true → node_width wide x.id ≡ Some width → width_of_body front x.body ≡ Some width
leaf_width_is front wide x after width accepted is leaf e = let w = leaf_width front wide x after accepted is leaf in w.own ∙ sym w.all ∙ e

-- ---- constants in digits

pub constant_single : (front : List Item) (t : Spots) (size : ℕ) (how : Spelling) (s count v : ℕ) → IsSingle front t size (constant_body how s count v)
constant_single front t size spelling.Binary s count v = tt
constant_single front t size spelling.Decimal s count v = tt
constant_single front t size spelling.Negative s count v = tt
constant_single front t size spelling.Hexadecimal s count v = tt
