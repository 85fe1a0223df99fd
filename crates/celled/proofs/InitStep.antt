-- A list goes on by the init lines of the cells of a state.
use Rattle.std.proofs.Common.{◌≡◌, ℕ, zero, suc, ◌+◌, ◌*◌, ◌/◌, ◌%◌, ◌^◌, ◌<◌, ◌≤◌, Bool, true, false, cond, not, ◌&&◌, ◌||◌, nat_le, nat_lt, List, [], ◌∷◌, ◌++◌, flat_map, length, Option, Some, None, IfSome, is_some, is_none, unwrap_or, option_and_then, slice_get, refl, sym, ap, ap₂, subst, ◌∙◌, arith, eq-eqb}
use Rattle.std.specs.List.{AllByRecursion, AllZip}
use Rattle.std.specs.Option.{option_or, option_map_or}
use Rattle.std.proofs.lemmas.Option.{none-some, same_Some}
use Rattle.std.proofs.lemmas.Bool.{and_parts}
use Rattle.std.proofs.lemmas.Bool.Decides.{nat_tests}
use Rattle.std.proofs.Math.Nat.{mul-div_cancel_left}
use Rattle.btor2.specs.declared.item.Item.{Item}
use Rattle.btor2.specs.declared.item.Body.{Body}
use Rattle.btor2.specs.declared.item.Body.TheVariants as body
use Rattle.btor2.specs.Items.{find_item, node_sort, named_sort, sort_bits, sort_width, node_width, width_of_body, constant_word, constant_of_body, constant_of, names_state, is_input, is_state, is_bad, is_constraint, init_value, init_word}
use Rattle.btor2.specs.Check.{id_is_out_of_range, greatest_id, sort_is_missing}
use Rattle.btor2.specs.Trace.{bits_of, line_word}
use Rattle.btor2.proofs.AppendLemmas.{node_width-append, sort_width-append, names_state-append, constant_of-append, then_parts, some_of, is_some_from}
use Rattle.btor2.proofs.ModelLemmas.{IsIn-from_find}
use Rattle.wide.specs.WideModels.{greatest_width, wide_refusal, constant_fits_within, constant_is_above, IsWideModel}
use Rattle.wide.proofs.GrowLemmas.{tests_false, refusal_at, model_push}
use Rattle.full.specs.Cells.{read_value}
use Rattle.full.proofs.ListLemmas.{all_with}
use Rattle.fit.specs.Fitting.{is_output, pieces_word, init_words, InitIsCarried}
use Rattle.fit.proofs.LineLemmas.{carries_no_word}
use Rattle.fit.proofs.ModelLemmas.{init_width}
use Rattle.fitting.specs.Fitted.{constant_fits_word, is_leaf, leaf_ids}
use Rattle.fitting.specs.Forms.{is_constant_line}
use Rattle.fitting.specs.Models.{input_ids, state_ids}
use Rattle.writeout.specs.Faults.{is_live_body}
use Rattle.writeout.proofs.LateLemmas.{inits_joined}
use Rattle.cells.proofs.KeptLemmas.{node_range}
use Rattle.cells.specs.Lines.{IsAmong}
use Rattle.celled.specs.Celled.{HasCells}
use Rattle.celled.specs.Spots.{Spots, layout_by, ids_from}
use Rattle.celled.specs.Split.{GoesOn, Settled, HasWord, NextIsTaken, Stands, IsOwned, IsSplit}
use Rattle.celled.specs.Steps.{size_by, IsInitBy, IsInitOf, InitsPut, IsSpotted, HaveSize, AreOpen}
use Rattle.celled.specs.declared.table.Spot.{Spot}
use Rattle.celled.proofs.CellLemmas.{all_ids_from, at_ids_from, word_of_cells}
use Rattle.celled.proofs.GrowLemmas.{init_word_on}
use Rattle.celled.proofs.StandLemmas.{AllStand, goes_same, goes_back, fresh_in, spotted_same, layout_same, known_at, cells_open, cells_named, among_from}
use Rattle.celled.proofs.CopyLemmas.{init_said}
use Rattle.celled.proofs.CopiedLemmas.{own_spot, own_there, line_at, node_found}
use Rattle.celled.proofs.OnLemmas.{Step}
use Rattle.celled.proofs.ArrayOwn.{IsQuiet, shows_nothing, no_leaves, same_widths, bits_are}

-- ---- what is known of the line

pub record InitBy (front : List Item) (t : Spots) (b : Body) (constant : Item) (spot : Spot) (width : ℕ) : Type 0 where
  pub s : ℕ
  pub id : ℕ
  pub v : ℕ
  pub is : b ≡ body.Init s id v
  pub found : find_item front v ≡ Some constant
  pub first : spot.first ≡ t.first id
  pub count : spot.count ≡ t.count id
  pub several : spot.count ≡ 1 → ⊥
  pub wide : node_width front id ≡ Some width

pub init_by : (front : List Item) (t : Spots) (b : Body) (constant : Item) (spot : Spot) (width : ℕ) → IsInitBy front t b constant spot width → InitBy front t b constant spot width
init_by front t (body.Init s id v) constant spot width h = record { s = s; id = id; v = v; is = refl; found = h.0; first = h.1; count = h.2; several = h.3; wide = h.4 }
init_by front t _ constant spot width h = absurd h

-- the cells of a state: how many they are, and how wide
pub record StateCells (front : List Item) (t : Spots) (celled : List Item) (id width : ℕ) : Type 0 where
  pub size : ℕ
  pub together : t.count id * size ≡ width
  pub cells : HaveSize celled size (layout_by t id)
  pub some : 1 ≤ size
  pub many : 1 ≤ t.count id
  pub each : width / t.count id ≡ size
  pub least : 1 ≤ width
  pub most : width ≤ greatest_width
  pub fits : t.first id + t.count id ≤ 2 ^ 32

factors : (a b w : ℕ) → a * b ≡ w → 1 ≤ w → (1 ≤ a) × (1 ≤ b)
factors zero b w e h = absurd (omega (arith, e, h))
factors (suc a) zero w e h = absurd (omega (arith, e, h))
factors (suc a) (suc b) w e h = (omega arith, omega arith)

id_small : (x : Item) → id_is_out_of_range x ≡ false → x.id ≤ greatest_id
unfolding id_is_out_of_range
id_small x h = grind (arith, nat_tests, h)

found_small : (items : List Item) (p n : ℕ) → IsWideModel greatest_width items → node_width items p ≡ Some n → p ≤ greatest_id
found_small items p n m e =
    let parts = then_parts (λ (x : Item). width_of_body items x.body) (find_item items p) n e in
    let at = IsIn-from_find items p parts.0 parts.1 in
    let rows = tests_false greatest_width at.0.before parts.0 (refusal_at greatest_width at.0.before at.0.after parts.0 (subst (IsWideModel greatest_width) at.0.splits m)) in
    subst (λ (k : ℕ). k ≤ greatest_id) (sym at.1) (id_small parts.0 rows.1.0)

cells_fit : (items : List Item) (size first count : ℕ) → IsWideModel greatest_width items → 1 ≤ count → HaveSize items size (ids_from first count) → first + count ≤ 2 ^ 32
cells_fit items size first zero m some h = absurd (omega (arith, some))
cells_fit items size first (suc n) m some h =
    let last = found_small items (first + n) size m (at_ids_from (λ p. node_width items p ≡ Some size) first (suc n) n h (omega arith)) in
    omega (arith, last)

pub state_cells : (front : List Item) (t : Spots) (celled : List Item) (id width : ℕ) → IsWideModel greatest_width front → IsWideModel greatest_width celled → AllStand front t celled → node_width front id ≡ Some width → StateCells front t celled id width
state_cells front t celled id width w m stand e =
    let k = known_at front t celled front t celled id stand (goes_same front t celled w m) (is_some_from (node_width front id) width e) in
    let same : k.has.bits ≡ width = same_Some k.has.bits width (sym k.has.node ∙ k.in_celled ∙ sym k.in_front ∙ e) in
    let together : t.count id * k.has.size ≡ width = k.has.together ∙ same in
    let range = node_range front id width w e in
    let parts = factors (t.count id) k.has.size width together range.0 in
    record {
      size = k.has.size;
      together = together;
      cells = k.has.cells;
      some = parts.1;
      many = parts.0;
      each = ap (λ (n : ℕ). n / t.count id) (sym together) ∙ mul-div_cancel_left k.has.size parts.0;
      least = range.0;
      most = range.1;
      fits = cells_fit celled k.has.size (t.first id) (t.count id) m parts.0 k.has.cells;
    }

-- ---- the constant

is_constant_by : (n k : ℕ) (b : Body) → constant_word n b ≡ Some k → is_constant_line b ≡ true
is_constant_by n k (body.Zero s) e = refl
is_constant_by n k (body.One s) e = refl
is_constant_by n k (body.Ones s) e = refl
is_constant_by n k (body.Const s d v) e = refl
is_constant_by n k (body.Constd s v) e = refl
is_constant_by n k (body.Consth s d v) e = refl
is_constant_by n k _ e = absurd (none-some k e)

fits_word : (n : ℕ) (b : Body) → constant_fits_within greatest_width n b ≡ true → constant_fits_word n b ≡ true
fits_word n (body.Consth s d v) h =
    let least = and_parts (nat_le 1 d) _ h in
    let most = and_parts (nat_le (4 * d) 1048579) (nat_lt v (2 ^ n) && nat_lt v (16 ^ d)) least.1 in
    ap₂ ◌&&◌ least.0 most.1
fits_word n (body.Const s d v) h = h
fits_word n (body.Constd s v) h = h
fits_word n _ h = refl

not_above : (items : List Item) (b : Body) → constant_is_above greatest_width items b ≡ false → constant_fits_within greatest_width (unwrap_or (option_and_then (sort_width items) (named_sort b)) 0) b ≡ true
unfolding constant_is_above
not_above items b h = by _ h
  where
    by : (c : Bool) → not c ≡ false → c ≡ true
    by true h = refl
    by false h = absurd (cc)

sort_is_there : (items : List Item) (b : Body) (s : ℕ) → sort_is_missing items b ≡ false → named_sort b ≡ Some s → is_some (sort_width items s) ≡ true
unfolding sort_is_missing
sort_is_there items b s h e = there (sort_width items s) (ap (λ (o : Option ℕ). option_map_or (λ (k : ℕ). is_none (sort_width items k)) o false) (sym e) ∙ h)
  where
    there : (o : Option ℕ) → is_none o ≡ false → is_some o ≡ true
    there None h = absurd (cc)
    there (Some n) h = refl

named_node : (b : Body) (s : ℕ) → node_sort b ≡ Some s → named_sort b ≡ Some s
named_node (body.Init t u v) s e = absurd (none-some s e)
named_node (body.Next t u v) s e = absurd (none-some s e)
named_node b s e = e

pub record ConstantLine (front : List Item) (constant : Item) (v width : ℕ) : Type 0 where
  pub form : is_constant_line constant.body ≡ true
  pub fits : constant_fits_word width constant.body ≡ true
  pub word : ℕ
  pub says : constant_word width constant.body ≡ Some word
  pub of : constant_of front v ≡ Some word

pub constant_line : (front : List Item) (x constant : Item) (s id v width : ℕ) → IsWideModel greatest_width front → wide_refusal greatest_width front x ≡ None → x.body ≡ body.Init s id v → find_item front v ≡ Some constant → node_width front id ≡ Some width → ConstantLine front constant v width
constant_line front x constant s id v width w accepted e found wide =
    let said = init_said front x s id v accepted e in
    let own : constant_of_body front constant.body ≡ Some said.constant = sym (ap (option_and_then (λ (y : Item). constant_of_body front y.body)) found) ∙ said.word in
    let parts = then_parts (λ (m : ℕ). constant_word m constant.body) (width_of_body front constant.body) said.constant own in
    let sort = then_parts (sort_width front) (node_sort constant.body) parts.0 parts.1 in
    let in_front : node_width front v ≡ Some parts.0 = ap (option_and_then (λ (y : Item). width_of_body front y.body)) found ∙ parts.1 in
    let line : init_value (x ∷ []) id ≡ Some v = ap (λ (b : Body). init_value (record { id = x.id; symbol = x.symbol; body = b } ∷ []) id) e ∙ ap (λ (b : Bool). option_or (cond b (Some v) None) None) (eq-eqb id id refl) in
    let value : init_value (front ++ x ∷ []) id ≡ Some v = inits_joined front (x ∷ []) id ∙ ap₂ option_or said.first line in
    let both = init_width (front ++ x ∷ []) id v (model_push greatest_width front x w accepted) value in
    let same : parts.0 ≡ width = same_Some parts.0 width (sym (node_width-append front (x ∷ []) v parts.0 in_front) ∙ both.of_value ∙ sym both.of_state ∙ node_width-append front (x ∷ []) id width wide) in
    let at = IsIn-from_find front v constant found in
    let rows = tests_false greatest_width at.0.before constant (refusal_at greatest_width at.0.before at.0.after constant (subst (IsWideModel greatest_width) at.0.splits w)) in
    let named = named_node constant.body sort.0 sort.1 in
    let there = some_of (sort_width at.0.before sort.0) (sort_is_there at.0.before constant.body sort.0 rows.1.1.1.0 named) in
    let later : sort_width front sort.0 ≡ Some there.0 = ap (λ (l : List Item). sort_width l sort.0) at.0.splits ∙ sort_width-append at.0.before (constant ∷ at.0.after) sort.0 there.0 there.1 in
    let bits : there.0 ≡ width = same_Some there.0 parts.0 (sym later ∙ sort.2) ∙ same in
    let width_there : unwrap_or (option_and_then (sort_width at.0.before) (named_sort constant.body)) 0 ≡ width =
    ap (λ (o : Option ℕ). unwrap_or (option_and_then (sort_width at.0.before) o) 0) named ∙ ap (λ (o : Option ℕ). unwrap_or o 0) there.1 ∙ bits in
    record {
      form = is_constant_by parts.0 said.constant constant.body parts.2;
      fits = subst (λ (n : ℕ). constant_fits_word n constant.body ≡ true) width_there (fits_word _ constant.body (not_above at.0.before constant.body rows.1.1.1.1.1.1.1.1.1.0));
      word = said.constant;
      says = ap (λ (n : ℕ). constant_word n constant.body) (sym same) ∙ parts.2;
      of = said.word;
    }

-- ---- what the call needs

pub cells_unset : (front : List Item) (t : Spots) (celled : List Item) (inputs states : List ℕ) (x : Item) (s id v : ℕ) → IsSplit front t celled inputs states → IsWideModel greatest_width celled → wide_refusal greatest_width front x ≡ None → x.body ≡ body.Init s id v
    → AreOpen celled (t.first id) (t.count id)
cells_unset front t celled inputs states x s id v h m accepted e i less =
    let said = init_said front x s id v accepted e in
    let named = cells_named front t celled front t celled id h.stand (goes_same front t celled h.wide_model m) said.state in (
      at_ids_from (λ p. names_state celled p ≡ true) (t.first id) (t.count id) i named less,
      cells_open front t celled inputs states id (t.first id + i) h m said.state (among_from (t.first id) (t.count id) i less) said.first,
    )

-- ---- what stands

pub record Begun (front : List Item) (t : Spots) (celled : List Item) (x : Item) (s id v width number : ℕ) (t' : Spots) (celled' : List Item) (place : ℕ) : Type 0 where
  pub wide_model : IsWideModel greatest_width front
  pub model : IsWideModel greatest_width celled
  pub stand : AllStand front t celled
  pub accepted : wide_refusal greatest_width front x ≡ None
  pub is : x.body ≡ body.Init s id v
  pub wide : node_width front id ≡ Some width
  pub word : constant_of front v ≡ Some (number % 2 ^ width)
  pub put : InitsPut celled celled' (t.first id) (t.count id) (width / t.count id) number
  pub spots : IsSpotted t t' x.id 0 0 0 place
  pub at : length front ≡ place

pub cut_whole : (n w k size count : ℕ) → k ≡ count * size → w ≡ k → n / 2 ^ (size * 0) % 2 ^ (count * size) ≡ n % 2 ^ w
cut_whole n w k size count e d =
    let nothing : size * 0 ≡ 0 = omega arith in
    ap₂ (λ (i j : ℕ). n / 2 ^ i % 2 ^ j) nothing (sym e ∙ sym d) ∙ ap (λ (m : ℕ). m % 2 ^ w) (whole n)
  where
    whole : (n : ℕ) → n / 2 ^ 0 ≡ n
    whole n = omega arith

begun_init : (front : List Item) (t : Spots) (celled : List Item) (x : Item) (s id v width number : ℕ) (t' : Spots) (celled' : List Item) (place : ℕ) (w : List Item) (u : Spots) (n : List Item) → Begun front t celled x s id v width number t' celled' place → GoesOn (front ++ x ∷ []) t' celled' w u n → GoesOn front t celled w u n
    → InitIsCarried w (layout_by u) n (body.Init s id v)
begun_init front t celled x s id v width number t' celled' place w u n c g back =
    let cells = state_cells front t celled id width c.wide_model c.model c.stand c.wide in
    let size = cells.size in
    let count = t.count id in
    let first = t.first id in
    let found = node_found front id (is_some_from (node_width front id) width c.wide) in
    let layout : layout_by u id ≡ ids_from first count = ap₂ ids_from (back.first id found) (back.count id found) in
    let begins : (i : ℕ) → i < count → init_word n (first + i) ≡ Some (read_value size number i) =
    λ i less. ap (λ (l : List Item). init_word l (first + i)) g.is ∙ init_word_on celled' g.more (first + i) (read_value size number i) (subst (λ (m : ℕ). init_word celled' (first + i) ≡ Some (read_value m number i)) cells.each (c.put.begins i less)) in
    let widths : HaveSize n size (ids_from first count) =
    subst (λ (l : List Item). HaveSize l size (ids_from first count)) (sym back.is) (all_with (λ p. node_width celled p ≡ Some size) (λ p. node_width (celled ++ back.more) p ≡ Some size) (ids_from first count) (λ p e. node_width-append celled back.more p size e) cells.cells) in
    let word : pieces_word (λ p. size) (init_words n) (ids_from first count) ≡ number % 2 ^ width =
    word_of_cells size number (init_words n) first 0 count (λ i less. ap (λ (o : Option ℕ). unwrap_or o 0) (begins i less) ∙ ap (read_value size number) (omega arith)) ∙ cut_whole number width (count * size) size count refl (sym cells.together) in (
      subst (AllByRecursion (λ p. is_some (init_word n p) ≡ true)) (sym layout) (all_ids_from (λ p. is_some (init_word n p) ≡ true) first count (λ i less. is_some_from (init_word n (first + i)) (read_value size number i) (begins i less))),
      ap (λ (l : List Item). constant_of l v) back.wide_is ∙ constant_of-append front back.lines v (number % 2 ^ width) c.word
          ∙ ap (λ (k : ℕ). Some k) (sym (ap (pieces_word (bits_of n) (init_words n)) layout ∙ same_widths (bits_of n) size (init_words n) (ids_from first count) (bits_are n size (ids_from first count) widths) ∙ word)),
    )

begun_stands : (front : List Item) (t : Spots) (celled : List Item) (x : Item) (s id v width number : ℕ) (t' : Spots) (celled' : List Item) (place : ℕ) → Begun front t celled x s id v width number t' celled' place → Settled (front ++ x ∷ []) t' celled' (Stands x)
begun_stands front t celled x s id v width number t' celled' place c w u n g =
    let fresh = fresh_in front x c.accepted in
    let there = own_there front x fresh in
    let line : u.line x.id ≡ length front = g.line x.id there ∙ c.spots.line_at x.id ∙ own_spot x.id place (t.line x.id) ∙ sym c.at in
    let back = goes_back front x t t' celled celled' c.put.more w u n c.put.is (spotted_same front t t' x.id 0 0 0 place fresh c.spots) g in
    let to : (P : Body → Type 0) → P (body.Init s id v) → P x.body = λ P h. subst P (sym c.is) h in
    record {
      line = ap₂ slice_get g.wide_is line ∙ line_at front x g.lines;
      sort = to (λ b. IfSome (sort_bits b) (λ k. sort_width n (u.node x.id) ≡ Some k)) tt;
      value = to (λ b. IfSome (node_sort b) (HasWord w u n x.id)) tt;
      constant = to (λ b. IfSome (constant_word (bits_of w x.id) b) (λ k. constant_of n (u.node x.id) ≡ Some k)) tt;
      carried = λ other. carries_no_word w n (layout_by u) x (λ state input f. to (λ b. line_word w state input f x.id b ≡ None) refl);
      leaf = λ is. absurd (no_leaf (to (λ b. (is_input b || is_state b) ≡ false) refl) is);
      names = λ is. absurd (no_leaf (to (λ b. (is_input b || is_state b) ≡ false) refl) is);
      init = to (InitIsCarried w (layout_by u) n) (begun_init front t celled x s id v width number t' celled' place w u n c g back);
      next = to (NextIsTaken u n) tt;
    }
  where
    no_leaf : is_leaf x ≡ false → is_leaf x ≡ true → ⊥
    no_leaf e h = let d : false ≡ true = sym e ∙ h in cc

-- ---- the step

init_quiet : (first count : ℕ) (b : Body) → IsInitOf first count b → IsQuiet b
init_quiet first count (body.Init s p c) h = (refl, refl, refl, refl)
init_quiet first count (body.Bad a) h = absurd (cc)
init_quiet first count (body.Constraint a) h = absurd (cc)
init_quiet first count (body.Output a) h = absurd (cc)
init_quiet first count (body.Fair a) h = absurd (cc)
init_quiet first count (body.Justice nodes) h = absurd (cc)
init_quiet first count _ h = (refl, refl, refl, refl)

init_no_leaf : (first count : ℕ) (b : Body) → IsInitOf first count b → (is_input b || is_state b) ≡ false
init_no_leaf first count (body.Input s) h = absurd (cc)
init_no_leaf first count (body.State s) h = absurd (cc)
init_no_leaf first count _ h = refl

init_owned : (front : List Item) (t : Spots) (id first count : ℕ) (b : Body) → names_state front id ≡ true → is_some (init_value front id) ≡ true → layout_by t id ≡ ids_from first count → IsInitOf first count b → IsOwned front t b
init_owned front t id first count (body.Init s p c) names some layout h = (id, names, subst (IsAmong p) (sym layout) (subst (λ (q : ℕ). IsAmong q (ids_from first count)) (sym h.2) (among_from first count h.0 h.1)), some)
init_owned front t id first count (body.Next s p c) names some layout h = absurd (cc)
init_owned front t id first count _ names some layout h = tt

pub begun_step : (front : List Item) (t : Spots) (celled : List Item) (x : Item) (s id v width number : ℕ) (t' : Spots) (celled' : List Item) (place k : ℕ) → Begun front t celled x s id v width number t' celled' place → Step front t celled x k t' celled'
begun_step front t celled x s id v width number t' celled' place k c =
    let more = c.put.more in
    let first = t.first id in
    let count = t.count id in
    let same = spotted_same front t t' x.id 0 0 0 place (fresh_in front x c.accepted) c.spots in
    let said = init_said front x s id v c.accepted c.is in
    let found = node_found front id said.there in
    let line : init_value (x ∷ []) id ≡ Some v = ap (λ (b : Body). init_value (record { id = x.id; symbol = x.symbol; body = b } ∷ []) id) c.is ∙ ap (λ (b : Bool). option_or (cond b (Some v) None) None) (eq-eqb id id refl) in
    let value : init_value (front ++ x ∷ []) id ≡ Some v = inits_joined front (x ∷ []) id ∙ ap₂ option_or said.first line in
    let quiet = all_with (λ (y : Item). IsInitOf first count y.body) (λ (y : Item). IsQuiet y.body) more (λ y q. init_quiet first count y.body q) c.put.quiet in
    let to : (P : Body → Type 0) → P (body.Init s id v) → P x.body = λ P h. subst P (sym c.is) h in
    record {
      accepted = c.accepted;
      more = more;
      is = c.put.is;
      same = same;
      own = begun_stands front t celled x s id v width number t' celled' place c;
      inputs = λ w u n g. to (λ b. AllZip (HasCells (layout_by u) n) (input_ids (record { id = x.id; symbol = x.symbol; body = b } ∷ [])) (size_by is_input (record { id = x.id; symbol = x.symbol; body = b }) k)) tt;
      states = λ w u n g. to (λ b. AllZip (HasCells (layout_by u) n) (state_ids (record { id = x.id; symbol = x.symbol; body = b } ∷ [])) (size_by is_state (record { id = x.id; symbol = x.symbol; body = b }) k)) tt;
      leaves = to (λ b. flat_map (layout_by t') (leaf_ids (record { id = x.id; symbol = x.symbol; body = b } ∷ [])) ≡ []) refl
          ∙ sym (no_leaves more (all_with (λ (y : Item). IsInitOf first count y.body) (λ (y : Item). is_leaf y ≡ false) more (λ y q. init_no_leaf first count y.body q) c.put.quiet));
      owners = all_with (λ (y : Item). IsInitOf first count y.body) (λ (y : Item). IsOwned (front ++ x ∷ []) t' y.body) more
          (λ y q. init_owned (front ++ x ∷ []) t' id first count y.body (names_state-append front (x ∷ []) id said.state) (is_some_from (init_value (front ++ x ∷ []) id) v value) (layout_same t t' id (same.first id found) (same.count id found)) q) c.put.quiet;
      bads = shows_nothing is_bad x t' more (to (λ b. is_bad b ≡ false) refl) (all_with (λ (y : Item). IsQuiet y.body) (λ (y : Item). is_bad y.body ≡ false) more (λ y q. q.0) quiet);
      constraints = shows_nothing is_constraint x t' more (to (λ b. is_constraint b ≡ false) refl) (all_with (λ (y : Item). IsQuiet y.body) (λ (y : Item). is_constraint y.body ≡ false) more (λ y q. q.1) quiet);
      outputs = shows_nothing is_output x t' more (to (λ b. is_output b ≡ false) refl) (all_with (λ (y : Item). IsQuiet y.body) (λ (y : Item). is_output y.body ≡ false) more (λ y q. q.2) quiet);
      forms = λ none. all_with (λ (y : Item). IsQuiet y.body) (λ (y : Item). is_live_body y.body ≡ false) more (λ y q. q.3) quiet;
    }

-- ---- what is known of a spot

pub record SpotCells (celled : List Item) (first count width : ℕ) : Type 0 where
  pub some : 1 ≤ width / count
  pub many : 1 ≤ count
  pub most : count * (width / count) ≤ greatest_width
  pub whole : count * (width / count) ≡ width
  pub fits : first + count ≤ 2 ^ 32
  pub cells : HaveSize celled (width / count) (ids_from first count)
  pub least : 1 ≤ width
  pub width_most : width ≤ greatest_width

pub spot_cells : (front : List Item) (t : Spots) (celled : List Item) (id width : ℕ) → StateCells front t celled id width → SpotCells celled (t.first id) (t.count id) width
spot_cells front t celled id width h =
    let each = h.each in
    let whole : t.count id * (width / t.count id) ≡ width = ap (λ (n : ℕ). t.count id * n) each ∙ h.together in
    record {
      some = subst (λ (n : ℕ). 1 ≤ n) (sym each) h.some;
      many = h.many;
      most = subst (λ (n : ℕ). n ≤ greatest_width) (sym whole) h.most;
      whole = whole;
      fits = h.fits;
      cells = subst (λ (n : ℕ). HaveSize celled n (layout_by t id)) (sym each) h.cells;
      least = h.least;
      width_most = h.most;
    }

pub spot_at : (front : List Item) (t : Spots) (celled : List Item) (id width first count : ℕ) → IsWideModel greatest_width front → IsWideModel greatest_width celled → AllStand front t celled → node_width front id ≡ Some width → first ≡ t.first id → count ≡ t.count id → SpotCells celled first count width
spot_at front t celled id width first count w m stand e f k =
    subst (λ (n : ℕ). SpotCells celled n count width) (sym f) (subst (λ (n : ℕ). SpotCells celled (t.first id) n width) (sym k) (spot_cells front t celled id width (state_cells front t celled id width w m stand e)))
