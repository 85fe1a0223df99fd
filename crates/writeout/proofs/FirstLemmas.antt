-- The lines of the state that is 1 in the first frame alone.
use Rattle.std.proofs.Common.{◌≡◌, ℕ, ◌+◌, true, false, List, [], ◌∷◌, ◌++◌, length, Option, Some, None, option_and_then, append_assoc, refl, sym, ap, subst, ◌∙◌}
use Rattle.btor2.specs.declared.item.Item.{Item}
use Rattle.btor2.specs.declared.item.Body.{Body}
use Rattle.btor2.specs.declared.item.Body.TheVariants as body
use Rattle.btor2.specs.Items.{find_item, node_sort, node_width, sort_width, width_of_body, constant_word, constant_of_body, constant_of, names_state, init_value, next_value}
use Rattle.btor2.specs.Check.{slice_is_out_of_range}
use Rattle.btor2.proofs.AppendLemmas.{find_item-after, sort_width-append, node_width-append, constant_of-append}
use Rattle.btor2.proofs.ModelLemmas.{find_item-own}
use Rattle.btor2.proofs.ConstantLemmas.{init_value-after}
use Rattle.wide.specs.WideModels.{greatest_width, IsWideModel}
use Rattle.full.specs.WrittenOut.{Stands}
use Rattle.full.proofs.PlaceLemmas.{stands_as_state}
use Rattle.cells.specs.Lines.{named, Extends}
use Rattle.writeout.specs.Putting.{AddsFirst, HasNoNexts}
use Rattle.writeout.proofs.LeafLemmas.{next_value-after, no_inits_of, no_nexts_of}
use Rattle.writeout.proofs.LongerLemmas.{stands_on}

-- ---- a line behind a list

pub line_found : (old new : List Item) (a : ℕ) (symbol : Option (List ℕ)) (b : Body) → new ≡ old ++ named a symbol b ∷ [] → find_item old a ≡ None → find_item new a ≡ Some (named a symbol b)
line_found old new a symbol b e fresh = ap (λ (l : List Item). find_item l a) e ∙ find_item-after old (named a symbol b ∷ []) a fresh ∙ find_item-own (named a symbol b) []

pub line_stands : (old new : List Item) (a : ℕ) (symbol : Option (List ℕ)) (b : Body) → new ≡ old ++ named a symbol b ∷ [] → find_item old a ≡ None → Stands new a b
line_stands old new a symbol b e fresh = (named a symbol b, line_found old new a symbol b e fresh, refl)

pub line_body_width : (old new : List Item) (a s n : ℕ) (symbol : Option (List ℕ)) (b : Body) → new ≡ old ++ named a symbol b ∷ [] → node_sort b ≡ Some s → sort_width old s ≡ Some n → width_of_body new b ≡ Some n
line_body_width old new a s n symbol b e sort width =
    ap (option_and_then (sort_width new)) sort ∙ ap (λ (l : List Item). sort_width l s) e ∙ sort_width-append old (named a symbol b ∷ []) s n width

pub line_width : (old new : List Item) (a s n : ℕ) (symbol : Option (List ℕ)) (b : Body) → new ≡ old ++ named a symbol b ∷ [] → find_item old a ≡ None → node_sort b ≡ Some s → sort_width old s ≡ Some n → node_width new a ≡ Some n
line_width old new a s n symbol b e fresh sort width =
    ap (option_and_then (λ (x : Item). width_of_body new x.body)) (line_found old new a symbol b e fresh) ∙ line_body_width old new a s n symbol b e sort width

pub line_constant : (old new : List Item) (a s n : ℕ) (symbol : Option (List ℕ)) (b : Body) → new ≡ old ++ named a symbol b ∷ [] → find_item old a ≡ None → node_sort b ≡ Some s → sort_width old s ≡ Some n → constant_of new a ≡ constant_word n b
line_constant old new a s n symbol b e fresh sort width =
    ap (option_and_then (λ (x : Item). constant_of_body new x.body)) (line_found old new a symbol b e fresh) ∙ ap (option_and_then (λ (w : ℕ). constant_word w b)) (line_body_width old new a s n symbol b e sort width)

-- what is had stays
pub sort_still : (old new more : List Item) (s n : ℕ) → new ≡ old ++ more → sort_width old s ≡ Some n → sort_width new s ≡ Some n
sort_still old new more s n e h = ap (λ (l : List Item). sort_width l s) e ∙ sort_width-append old more s n h

pub width_still : (old new more : List Item) (a n : ℕ) → new ≡ old ++ more → node_width old a ≡ Some n → node_width new a ≡ Some n
width_still old new more a n e h = ap (λ (l : List Item). node_width l a) e ∙ node_width-append old more a n h

pub constant_still : (old new more : List Item) (a n : ℕ) → new ≡ old ++ more → constant_of old a ≡ Some n → constant_of new a ≡ Some n
constant_still old new more a n e h = ap (λ (l : List Item). constant_of l a) e ∙ constant_of-append old more a n h

pub stands_still : (old new more : List Item) (a : ℕ) (b : Body) → new ≡ old ++ more → Stands old a b → Stands new a b
stands_still old new more a b e h = subst (λ (l : List Item). Stands l a b) (sym e) (stands_on old more a b h)

pub no_slice_one : (items : List Item) (s : ℕ) → slice_is_out_of_range items (body.One s) ≡ false
unfolding slice_is_out_of_range
no_slice_one items s = refl

pub no_slice_zero : (items : List Item) (s : ℕ) → slice_is_out_of_range items (body.Zero s) ≡ false
unfolding slice_is_out_of_range
no_slice_zero items s = refl

-- ---- the lines one by one

-- the list behind the sort, and behind each of its first lines
pub record Three (l0 l1 l2 l3 : List Item) (a sort one nil : ℕ) : Type 0 where
  pub e1 : l1 ≡ l0 ++ named a None (body.State sort) ∷ []
  pub e2 : l2 ≡ l1 ++ named one None (body.One sort) ∷ []
  pub e3 : l3 ≡ l2 ++ named nil None (body.Zero sort) ∷ []
  pub f1 : find_item l0 a ≡ None
  pub f2 : find_item l1 one ≡ None
  pub f3 : find_item l2 nil ≡ None
  pub width : sort_width l0 sort ≡ Some 1

-- what stands then
pub record Stood (l : List Item) (a sort one nil : ℕ) : Type 0 where
  pub sorted : sort_width l sort ≡ Some 1
  pub stands : Stands l a (body.State sort)
  pub names : names_state l a ≡ true
  pub width : node_width l a ≡ Some 1
  pub is_one : constant_of l one ≡ Some 1
  pub one_width : node_width l one ≡ Some 1
  pub is_zero : constant_of l nil ≡ Some 0
  pub zero_width : node_width l nil ≡ Some 1

pub three_stand : (l0 l1 l2 l3 : List Item) (a sort one nil : ℕ) → Three l0 l1 l2 l3 a sort one nil → Stood l3 a sort one nil
three_stand l0 l1 l2 l3 a sort one nil h =
    let w1 = sort_still l0 l1 (named a None (body.State sort) ∷ []) sort 1 h.e1 h.width in
    let w2 = sort_still l1 l2 (named one None (body.One sort) ∷ []) sort 1 h.e2 w1 in
    let w3 = sort_still l2 l3 (named nil None (body.Zero sort) ∷ []) sort 1 h.e3 w2 in
    let s1 = line_stands l0 l1 a None (body.State sort) h.e1 h.f1 in
    let s2 = stands_still l1 l2 (named one None (body.One sort) ∷ []) a (body.State sort) h.e2 s1 in
    let s3 = stands_still l2 l3 (named nil None (body.Zero sort) ∷ []) a (body.State sort) h.e3 s2 in
    let n1 = line_width l0 l1 a sort 1 None (body.State sort) h.e1 h.f1 refl h.width in
    let n2 = width_still l1 l2 (named one None (body.One sort) ∷ []) a 1 h.e2 n1 in
    let c2 = line_constant l1 l2 one sort 1 None (body.One sort) h.e2 h.f2 refl w1 in
    let o2 = line_width l1 l2 one sort 1 None (body.One sort) h.e2 h.f2 refl w1 in
    record {
      sorted = w3;
      stands = s3;
      names = stands_as_state l3 a sort s3;
      width = width_still l2 l3 (named nil None (body.Zero sort) ∷ []) a 1 h.e3 n2;
      is_one = constant_still l2 l3 (named nil None (body.Zero sort) ∷ []) one 1 h.e3 c2;
      one_width = width_still l2 l3 (named nil None (body.Zero sort) ∷ []) one 1 h.e3 o2;
      is_zero = line_constant l2 l3 nil sort 1 None (body.Zero sort) h.e3 h.f3 refl w2;
      zero_width = line_width l2 l3 nil sort 1 None (body.Zero sort) h.e3 h.f3 refl w2;
    }

pub stood_on : (l new more : List Item) (a sort one nil : ℕ) → new ≡ l ++ more → Stood l a sort one nil → Stood new a sort one nil
stood_on l new more a sort one nil e h =
    let s = stands_still l new more a (body.State sort) e h.stands in
    record {
      sorted = sort_still l new more sort 1 e h.sorted;
      stands = s;
      names = stands_as_state new a sort s;
      width = width_still l new more a 1 e h.width;
      is_one = constant_still l new more one 1 e h.is_one;
      one_width = width_still l new more one 1 e h.one_width;
      is_zero = constant_still l new more nil 0 e h.is_zero;
      zero_width = width_still l new more nil 1 e h.zero_width;
    }

-- no init line yet, and no next line
one_no_init : (old new : List Item) (a id : ℕ) (b : Body) → new ≡ old ++ named a None b ∷ [] → init_value (named a None b ∷ []) id ≡ None → init_value old id ≡ None → init_value new id ≡ None
one_no_init old new a id b e own h = ap (λ (l : List Item). init_value l id) e ∙ init_value-after old (named a None b ∷ []) id h ∙ own

one_no_next : (old new : List Item) (a id : ℕ) (b : Body) → new ≡ old ++ named a None b ∷ [] → next_value (named a None b ∷ []) id ≡ None → next_value old id ≡ None → next_value new id ≡ None
one_no_next old new a id b e own h = ap (λ (l : List Item). next_value l id) e ∙ next_value-after old (named a None b ∷ []) id h ∙ own

pub three_no_init : (old l0 l1 l2 l3 : List Item) (a sort one nil id : ℕ) → HasNoNexts old → Extends old l0 [] → Three l0 l1 l2 l3 a sort one nil → init_value l3 id ≡ None
three_no_init old l0 l1 l2 l3 a sort one nil id none more h =
    one_no_init l2 l3 nil id (body.Zero sort) h.e3 refl (one_no_init l1 l2 one id (body.One sort) h.e2 refl (one_no_init l0 l1 a id (body.State sort) h.e1 refl
    (ap (λ (l : List Item). init_value l id) more.is ∙ init_value-after old more.more id (none id).0 ∙ no_inits_of more.more id more.plain)))

pub three_no_next : (old l0 l1 l2 l3 l4 : List Item) (a sort one nil i id : ℕ) → HasNoNexts old → Extends old l0 [] → Three l0 l1 l2 l3 a sort one nil → l4 ≡ l3 ++ named i None (body.Init sort a one) ∷ [] → next_value l4 id ≡ None
three_no_next old l0 l1 l2 l3 l4 a sort one nil i id none more h e4 =
    one_no_next l3 l4 i id (body.Init sort a one) e4 refl
    (one_no_next l2 l3 nil id (body.Zero sort) h.e3 refl (one_no_next l1 l2 one id (body.One sort) h.e2 refl (one_no_next l0 l1 a id (body.State sort) h.e1 refl
    (ap (λ (l : List Item). next_value l id) more.is ∙ next_value-after old more.more id (none id).1 ∙ no_nexts_of more.more id more.plain))))

step : (l0 l new xs : List Item) (y : Item) → l ≡ l0 ++ xs → new ≡ l ++ y ∷ [] → new ≡ l0 ++ (xs ++ y ∷ [])
step l0 l new xs y e f = f ∙ ap (λ (k : List Item). k ++ y ∷ []) e ∙ append_assoc l0 xs (y ∷ [])

-- all of them
pub adds_first : (old l0 l1 l2 l3 l4 l5 : List Item) (a sort one nil i j : ℕ) → Extends old l0 [] → IsWideModel greatest_width l0 → a ≡ length l0 + 1 → Three l0 l1 l2 l3 a sort one nil
    → l4 ≡ l3 ++ named i None (body.Init sort a one) ∷ [] → l5 ≡ l4 ++ named j None (body.Next sort a nil) ∷ [] → AddsFirst old l5 a
adds_first old l0 l1 l2 l3 l4 l5 a sort one nil i j more model id h e4 e5 =
    let stood = stood_on l4 l5 (named j None (body.Next sort a nil) ∷ []) a sort one nil e5 (stood_on l3 l4 (named i None (body.Init sort a one) ∷ []) a sort one nil e4 (three_stand l0 l1 l2 l3 a sort one nil h)) in
    let first = named a None (body.State sort) in
    let second = named one None (body.One sort) in
    let third = named nil None (body.Zero sort) in
    let fourth = named i None (body.Init sort a one) in
    let fifth = named j None (body.Next sort a nil) in
    record {
      before = l0;
      extends = more;
      model = model;
      fresh = h.f1;
      id = id;
      sort = sort;
      one = one;
      zero = nil;
      i = i;
      j = j;
      is = step l0 l4 l5 (first ∷ second ∷ third ∷ fourth ∷ []) fifth
          (step l0 l3 l4 (first ∷ second ∷ third ∷ []) fourth (step l0 l2 l3 (first ∷ second ∷ []) third (step l0 l1 l2 (first ∷ []) second h.e1 h.e2) h.e3) e4) e5;
      stands = stood.stands;
      width = stood.width;
      is_one = stood.is_one;
      is_zero = stood.is_zero;
    }
