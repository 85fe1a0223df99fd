-- The init and next lines of cells, one after the other.
use Rattle.std.proofs.Common.{◌≡◌, ℕ, zero, suc, ◌+◌, ◌-◌, ◌*◌, ◌/◌, ◌^◌, ◌<◌, ◌≤◌, Bool, true, false, cond, ⊎_elim, nat_eq, eq-eqb, eqb-true, lt-ltb, List, [], ◌∷◌, ◌++◌, Some, None, option_and_then, append_assoc, refl, sym, ap, ap₂, subst, ◌∙◌, arith, pow_pos}
use Rattle.std.specs.Option.{option_or}
use Rattle.std.proofs.lemmas.Nat.{mod_below}
use Rattle.std.proofs.Math.Nat.{mul-le-mul_right}
use Rattle.std.proofs.lemmas.Bool.{cases_lt, false_from_ne_true}
use Rattle.base.specs.Operator.{slice_value}
use Rattle.btor2.specs.declared.item.Item.{Item}
use Rattle.btor2.specs.declared.item.Body.{Body}
use Rattle.btor2.specs.declared.item.Body.TheVariants as body
use Rattle.btor2.specs.Items.{find_item, sort_width, node_width, names_state, constant_of, init_value, init_word, next_value}
use Rattle.btor2.specs.Check.{sort_is_missing, operand_is_missing, state_is_none, slice_is_out_of_range, widths_differ, init_is_not_constant, is_second_init, is_second_next, justice_is_empty}
use Rattle.btor2.proofs.AppendLemmas.{node_width-append, sort_width-append, names_state-append, constant_of-append}
use Rattle.wide.specs.WideModels.{width_is_above, constant_is_above}
use Rattle.full.specs.Cells.{read_value}
use Rattle.full.specs.Gives.{GivesWord}
use Rattle.full.proofs.GivesLemmas.{gives_kept, gives_same}
use Rattle.full.proofs.HalfLemmas.{cell_is_slice}
use Rattle.full.proofs.ListLemmas.{all_with, all_join}
use Rattle.writeout.proofs.LateLemmas.{inits_joined, nexts_joined}
use Rattle.cells.specs.Kept.{IsSound}
use Rattle.cells.specs.Lines.{named, is_plain, Extends}
use Rattle.cells.proofs.PlaceLemmas.{found_last, width_last}
use Rattle.cells.proofs.SoundLemmas.{sound_init, sound_next}
use Rattle.celled.specs.Spots.{ids_from}
use Rattle.celled.specs.Steps.{GrowsPlain, HaveSize, IsInitOf, InitsPut, IsOpen, AreOpen, ConstantPut, InitPut, IsNextOf, TakesCell, NextsPut, IsLoose, AreLoose, NextPut}
use Rattle.celled.proofs.CellLemmas.{at_ids_from}
use Rattle.celled.proofs.GrowLemmas.{grows_by, node_grown, sort_grown, state_grown, init_grown, next_grown, init_word_on, none_or, plain_init}
use Rattle.fitting.proofs.GrowLemmas.{next_value-append}

-- ---- constants of cells

pub sound_const : (items : List Item) (s n v : ℕ) → sort_width items s ≡ Some n → v < 2 ^ n → IsSound items (body.Const s n v)
unfolding IsSound sort_is_missing operand_is_missing state_is_none width_is_above slice_is_out_of_range widths_differ constant_is_above init_is_not_constant is_second_init is_second_next justice_is_empty
sound_const items s n v sort fits = rw (sort, eq-eqb n n refl, lt-ltb v (2 ^ n) fits) refl

pub cell_fits : (n a i : ℕ) → read_value n a i < 2 ^ n
cell_fits n a i = mod_below (a / 2 ^ (n * i)) (2 ^ n) (pow_pos n)

pub constant_put : (old new : List Item) (id s n v : ℕ) → sort_width old s ≡ Some n → new ≡ old ++ named id None (body.Const s n v) ∷ [] → find_item old id ≡ None → ConstantPut old new id n v
constant_put old new id s n v sort is fresh =
    let line : Item = named id None (body.Const s n v) in
    let width : node_width (old ++ line ∷ []) id ≡ Some n = width_last old id n None (body.Const s n v) fresh sort in
    let on : sort_width (old ++ line ∷ []) s ≡ Some n = sort_width-append old (line ∷ []) s n sort in
    record {
      sort = s;
      is = is;
      fresh = fresh;
      width = ap (λ (l : List Item). node_width l id) is ∙ width;
      says = ap (λ (l : List Item). constant_of l id) is ∙ rw (found_last old id None (body.Const s n v) fresh, on) refl;
    }

-- ---- the init line of a cell

mid_grows : (old mid : List Item) (id n word : ℕ) → ConstantPut old mid id n word → GrowsPlain old mid
mid_grows old mid id n word c = record { more = named id None (body.Const c.sort n word) ∷ []; is = c.is; plain = (refl, tt) }

pub init_sound : (old mid : List Item) (id s n p word : ℕ) → ConstantPut old mid id n word → sort_width old s ≡ Some n → node_width old p ≡ Some n → IsOpen old p → IsSound mid (body.Init s p id)
init_sound old mid id s n p word c sort width unset =
    let g = mid_grows old mid id n word c in
    sound_init mid s p id n word (state_grown old mid p g unset.0) c.says (init_grown old mid p g unset.1) (sort_grown old mid s n g sort) (node_grown old mid p n g width) c.width

pub init_put : (old mid new : List Item) (id s n p word last : ℕ) → ConstantPut old mid id n word → IsOpen old p → new ≡ mid ++ named last None (body.Init s p id) ∷ [] → InitPut old new p word
init_put old mid new id s n p word last c unset is =
    let g = mid_grows old mid id n word c in
    let line : Item = named last None (body.Init s p id) in
    let own : init_value (line ∷ []) p ≡ Some id = ap (λ (b : Bool). option_or (cond b (Some id) None) None) (eq-eqb p p refl) in
    let value : init_value new p ≡ Some id = ap (λ (l : List Item). init_value l p) is ∙ inits_joined mid (line ∷ []) p ∙ ap₂ option_or (init_grown old mid p g unset.1) own in
    let says : constant_of new id ≡ Some word = ap (λ (l : List Item). constant_of l id) is ∙ constant_of-append mid (line ∷ []) id word c.says in
    record {
      constant = named id None (body.Const c.sort n word);
      plain = refl;
      id = last;
      sort = s;
      value = id;
      is = is ∙ ap (λ (l : List Item). l ++ line ∷ []) c.is ∙ append_assoc old (named id None (body.Const c.sort n word) ∷ []) (line ∷ []);
      begins = ap (option_and_then (constant_of new)) value ∙ says;
    }

-- the width of a cell
pub node_at : (items : List Item) (size first count i : ℕ) → HaveSize items size (ids_from first count) → i < count → node_width items (first + i) ≡ Some size
node_at items size first count i h less = at_ids_from (λ p. node_width items p ≡ Some size) first count i h less

-- ---- all init lines of an array's cells

plain_quiet : (first count : ℕ) (b : Body) → is_plain b ≡ true → IsInitOf first count b
plain_quiet first count (body.Init s t v) h = absurd (cc)
plain_quiet first count _ h = h

pub inits_begin : (old mid : List Item) (first size number : ℕ) → Extends old mid [] → InitsPut old mid first 0 size number
inits_begin old mid first size number e =
    record {
      more = e.more;
      is = e.is;
      quiet = all_with (λ (y : Item). is_plain y.body ≡ true) (λ (y : Item). IsInitOf first 0 y.body) e.more (λ y plain. plain_quiet first 0 y.body plain) e.plain;
      begins = λ i less. absurd (omega (arith, less));
    }

pub size_within : (count size most : ℕ) → 1 ≤ count → count * size ≤ most → size ≤ most
size_within zero size most h k = absurd (omega (arith, h))
size_within (suc n) size most h k = omega (arith, k)

pub cell_within : (index count size most : ℕ) → index < count → count * size ≤ most → size * index + size ≤ most
cell_within index count size most h k =
    let up : (index + 1) * size ≤ count * size = mul-le-mul_right size (omega (arith, h)) in
    let e : (index + 1) * size ≡ size * index + size = grind arith in
    omega (arith, up, k, e)

-- one more line
wider_init : (first few many : ℕ) (b : Body) → few ≤ many → IsInitOf first few b → IsInitOf first many b
wider_init first few many (body.Init s p c) le h = (h.0, omega (arith, le, h.1), h.2)
wider_init first few many (body.Sort n) le h = h
wider_init first few many (body.Input s) le h = h
wider_init first few many (body.State s) le h = h
wider_init first few many (body.Next s p c) le h = h
wider_init first few many _ le h = h

size_on : (old more : List Item) (size : ℕ) (ps : List ℕ) → HaveSize old size ps → HaveSize (old ++ more) size ps
size_on old more size ps h = all_with (λ p. node_width old p ≡ Some size) (λ p. node_width (old ++ more) p ≡ Some size) ps (λ p e. node_width-append old more p size e) h

pub sizes_on : (old more new : List Item) (size : ℕ) (ps : List ℕ) → new ≡ old ++ more → HaveSize old size ps → HaveSize new size ps
sizes_on old more new size ps e h = subst (λ (l : List Item). HaveSize l size ps) (sym e) (size_on old more size ps h)

pub sort_on : (old more new : List Item) (s n : ℕ) → new ≡ old ++ more → sort_width old s ≡ Some n → sort_width new s ≡ Some n
sort_on old more new s n e h = ap (λ (l : List Item). sort_width l s) e ∙ sort_width-append old more s n h

pub node_on : (old more new : List Item) (a n : ℕ) → new ≡ old ++ more → node_width old a ≡ Some n → node_width new a ≡ Some n
node_on old more new a n e h = ap (λ (l : List Item). node_width l a) e ∙ node_width-append old more a n h

pub inits_step : (old mid new : List Item) (first index size number : ℕ) → InitsPut old mid first index size number → InitPut mid new (first + index) (read_value size number index) → InitsPut old new first (index + 1) size number
inits_step old mid new first index size number h p =
    let lines : List Item = p.constant ∷ named p.id None (body.Init p.sort (first + index) p.value) ∷ [] in
    record {
      more = h.more ++ lines;
      is = p.is ∙ ap (λ (l : List Item). l ++ lines) h.is ∙ append_assoc old h.more lines;
      quiet = all_join (λ (y : Item). IsInitOf first (index + 1) y.body) h.more lines
          (all_with (λ (y : Item). IsInitOf first index y.body) (λ (y : Item). IsInitOf first (index + 1) y.body) h.more (λ y q. wider_init first index (index + 1) y.body (omega arith) q) h.quiet)
          (plain_quiet first (index + 1) p.constant.body p.plain, ((index, omega arith, refl), tt));
      begins = λ i less. ⊎_elim
          (λ before. ap (λ (l : List Item). init_word l (first + i)) p.is ∙ init_word_on mid lines (first + i) (read_value size number i) (h.begins i before))
          (λ (same : index ≤ i). let is : i ≡ index = omega (arith, less, same) in subst (λ (k : ℕ). init_word new (first + k) ≡ Some (read_value size number k)) (sym is) p.begins)
          (cases_lt i index);
    }

other_id : (i k first : ℕ) → (i ≡ k → ⊥) → nat_eq (first + i) (first + k) ≡ false
other_id i k first h = false_from_ne_true (nat_eq (first + i) (first + k)) (λ e. h (omega (arith, eqb-true (first + i) (first + k) e)))

own_none : (x y : Item) (p : ℕ) → is_plain x.body ≡ true → init_value (y ∷ []) p ≡ None → init_value (x ∷ y ∷ []) p ≡ None
own_none x y p plain e = inits_joined (x ∷ []) (y ∷ []) p ∙ none_or _ _ (plain_init p (x ∷ []) (plain, tt)) e

pub open_step : (old new : List Item) (first index count word : ℕ) → InitPut old new (first + index) word → ((i : ℕ) → index ≤ i → i < count → IsOpen old (first + i)) → (i : ℕ) → index + 1 ≤ i → i < count → IsOpen new (first + i)
open_step old new first index count word p rest i after less =
    let line : Item = named p.id None (body.Init p.sort (first + index) p.value) in
    let lines : List Item = p.constant ∷ line ∷ [] in
    let before = rest i (omega (arith, after)) less in
    let own : init_value (line ∷ []) (first + i) ≡ None = ap (λ (b : Bool). option_or (cond b (Some p.value) None) None) (other_id i index first (λ e. omega (arith, e, after))) in (
      ap (λ (l : List Item). names_state l (first + i)) p.is ∙ names_state-append old lines (first + i) before.0,
      ap (λ (l : List Item). init_value l (first + i)) p.is ∙ inits_joined old lines (first + i) ∙ none_or _ _ before.1 (own_none p.constant line (first + i) p.plain own),
    )

pub opens_first : (old mid : List Item) (first count : ℕ) → Extends old mid [] → AreOpen old first count → (i : ℕ) → 0 ≤ i → i < count → IsOpen mid (first + i)
opens_first old mid first count e h i least less =
    let g = grows_by old mid [] e in
    (state_grown old mid (first + i) g (h i less).0, init_grown old mid (first + i) g (h i less).1)

pub init_lines_of : (old new : List Item) (p word : ℕ) → InitPut old new p word → (more : List Item) × (new ≡ old ++ more)
init_lines_of old new p word h = (h.constant ∷ named h.id None (body.Init h.sort p h.value) ∷ [], h.is)

-- ---- the next line of a cell

pub next_sound : (old mid : List Item) (s p v n : ℕ) → GrowsPlain old mid → sort_width old s ≡ Some n → node_width old p ≡ Some n → IsLoose old p → node_width mid v ≡ Some n → IsSound mid (body.Next s p v)
next_sound old mid s p v n g sort width loose value =
    sound_next mid s p v n (state_grown old mid p g loose.0) (next_grown old mid p g loose.1) (sort_grown old mid s n g sort) (node_grown old mid p n g width) value

cell_gives : (items : List Item) (n index a v low : ℕ) → 1 ≤ n → low ≡ n * index → GivesWord items (low + n - 1 - low + 1) (λ g. slice_value (g a) (low + n - 1) low) v → GivesWord items n (λ g. read_value n (g a) index) v
cell_gives items n index a v low least is h =
    let bits : low + n - 1 - low + 1 ≡ n = omega (arith, least) in
    let same : GivesWord items n (λ g. slice_value (g a) (low + n - 1) low) v = subst (λ (k : ℕ). GivesWord items k (λ g. slice_value (g a) (low + n - 1) low) v) bits h in
    gives_same items n (λ g. slice_value (g a) (low + n - 1) low) (λ g. read_value n (g a) index) v same
    (λ more w state input g states inputs frame. ap (λ (k : ℕ). slice_value (g a) (k + n - 1) k) is ∙ sym (cell_is_slice n (g a) index least))

pub slice_is_cell : (items : List Item) (n index a v low : ℕ) → 1 ≤ n → low ≡ n * index → GivesWord items (low + n - 1 - low + 1) (λ g. slice_value (g a) (low + n - 1) low) v → GivesWord items n (λ g. read_value n (g a) index) v
slice_is_cell items n index a v low least is h = cell_gives items n index a v low least is h

pub next_put : (old mid new : List Item) (s n p a index v last : ℕ) → GrowsPlain old mid → IsLoose old p → GivesWord mid n (λ g. read_value n (g a) index) v → new ≡ mid ++ named last None (body.Next s p v) ∷ [] → NextPut old new p n a index
next_put old mid new s n p a index v last g loose word is =
    let line : Item = named last None (body.Next s p v) in
    let own : next_value (line ∷ []) p ≡ Some v = ap (λ (b : Bool). option_or (cond b (Some v) None) None) (eq-eqb p p refl) in
    record {
      before = mid;
      grows = g;
      id = last;
      sort = s;
      value = v;
      is = is;
      takes = record {
        node = v;
        next = ap (λ (l : List Item). next_value l p) is ∙ nexts_joined mid (line ∷ []) p ∙ ap₂ option_or (next_grown old mid p g loose.1) own;
        word = subst (λ (l : List Item). GivesWord l n (λ g. read_value n (g a) index) v) (sym is) (gives_kept mid (line ∷ []) n (λ g. read_value n (g a) index) v word);
      };
    }

-- ---- all next lines of an array's cells

plain_quiet_next : (first count : ℕ) (b : Body) → is_plain b ≡ true → IsNextOf first count b
plain_quiet_next first count (body.Next s t v) h = absurd (cc)
plain_quiet_next first count _ h = h

pub nexts_begin : (old mid : List Item) (first size v : ℕ) → Extends old mid [] → NextsPut old mid first 0 size v
nexts_begin old mid first size v e =
    record {
      more = e.more;
      is = e.is;
      quiet = all_with (λ (y : Item). is_plain y.body ≡ true) (λ (y : Item). IsNextOf first 0 y.body) e.more (λ y plain. plain_quiet_next first 0 y.body plain) e.plain;
      takes = λ i less. absurd (omega (arith, less));
    }

wider_next : (first few many : ℕ) (b : Body) → few ≤ many → IsNextOf first few b → IsNextOf first many b
wider_next first few many (body.Next s p c) le h = (h.0, omega (arith, le, h.1), h.2)
wider_next first few many (body.Sort n) le h = h
wider_next first few many (body.Input s) le h = h
wider_next first few many (body.State s) le h = h
wider_next first few many (body.Init s p c) le h = h
wider_next first few many _ le h = h

takes_on : (old more new : List Item) (p size v index : ℕ) → new ≡ old ++ more → TakesCell old p size v index → TakesCell new p size v index
takes_on old more new p size v index e h =
    record {
      node = h.node;
      next = ap (λ (l : List Item). next_value l p) e ∙ next_value-append old more p h.node h.next;
      word = subst (λ (l : List Item). GivesWord l size (λ g. read_value size (g v) index) h.node) (sym e) (gives_kept old more size (λ g. read_value size (g v) index) h.node h.word);
    }

next_lines : (old new : List Item) (p size v index : ℕ) (h : NextPut old new p size v index) → new ≡ old ++ (h.grows.more ++ named h.id None (body.Next h.sort p h.value) ∷ [])
next_lines old new p size v index h = h.is ∙ ap (λ (l : List Item). l ++ named h.id None (body.Next h.sort p h.value) ∷ []) h.grows.is ∙ append_assoc old h.grows.more (named h.id None (body.Next h.sort p h.value) ∷ [])

pub next_lines_of : (old new : List Item) (p size v index : ℕ) → NextPut old new p size v index → (more : List Item) × (new ≡ old ++ more)
next_lines_of old new p size v index h = (h.grows.more ++ named h.id None (body.Next h.sort p h.value) ∷ [], next_lines old new p size v index h)

pub nexts_step : (old mid new : List Item) (first index size v : ℕ) → NextsPut old mid first index size v → NextPut mid new (first + index) size v index → NextsPut old new first (index + 1) size v
nexts_step old mid new first index size v h p =
    let line : Item = named p.id None (body.Next p.sort (first + index) p.value) in
    let lines : List Item = p.grows.more ++ line ∷ [] in
    let is : new ≡ mid ++ lines = next_lines mid new (first + index) size v index p in
    record {
      more = h.more ++ lines;
      is = is ∙ ap (λ (l : List Item). l ++ lines) h.is ∙ append_assoc old h.more lines;
      quiet = all_join (λ (y : Item). IsNextOf first (index + 1) y.body) h.more lines
          (all_with (λ (y : Item). IsNextOf first index y.body) (λ (y : Item). IsNextOf first (index + 1) y.body) h.more (λ y q. wider_next first index (index + 1) y.body (omega arith) q) h.quiet)
          (all_join (λ (y : Item). IsNextOf first (index + 1) y.body) p.grows.more (line ∷ [])
          (all_with (λ (y : Item). is_plain y.body ≡ true) (λ (y : Item). IsNextOf first (index + 1) y.body) p.grows.more (λ y plain. plain_quiet_next first (index + 1) y.body plain) p.grows.plain)
          ((index, omega arith, refl), tt));
      takes = λ i less. ⊎_elim
          (λ before. takes_on mid lines new (first + i) size v i is (h.takes i before))
          (λ (same : index ≤ i). let here : i ≡ index = omega (arith, less, same) in subst (λ (k : ℕ). TakesCell new (first + k) size v k) (sym here) p.takes)
          (cases_lt i index);
    }

pub loose_step : (old new : List Item) (first index count size v : ℕ) → NextPut old new (first + index) size v index → ((i : ℕ) → index ≤ i → i < count → IsLoose old (first + i)) → (i : ℕ) → index + 1 ≤ i → i < count → IsLoose new (first + i)
loose_step old new first index count size v p rest i after less =
    let line : Item = named p.id None (body.Next p.sort (first + index) p.value) in
    let before = rest i (omega (arith, after)) less in
    let own : next_value (line ∷ []) (first + i) ≡ None = ap (λ (b : Bool). option_or (cond b (Some p.value) None) None) (other_id i index first (λ e. omega (arith, e, after))) in (
      ap (λ (l : List Item). names_state l (first + i)) p.is ∙ names_state-append p.before (line ∷ []) (first + i) (state_grown old p.before (first + i) p.grows before.0),
      ap (λ (l : List Item). next_value l (first + i)) p.is ∙ nexts_joined p.before (line ∷ []) (first + i) ∙ none_or _ _ (next_grown old p.before (first + i) p.grows before.1) own,
    )

pub loose_first : (old mid : List Item) (first count : ℕ) → Extends old mid [] → AreLoose old first count → (i : ℕ) → 0 ≤ i → i < count → IsLoose mid (first + i)
loose_first old mid first count e h i least less =
    let g = grows_by old mid [] e in
    (state_grown old mid (first + i) g (h i less).0, next_grown old mid (first + i) g (h i less).1)
