-- The lines of a whole list, one after the other.
use Rattle.std.proofs.Common.{◌≡◌, ℕ, suc, ◌+◌, ◌*◌, ◌^◌, ◌<◌, ◌≤◌, Bool, true, false, cond, ◌&&◌, nat_eq, eq-eqb, nat_le, nat_lt, leb-true, List, [], ◌∷◌, ◌++◌, length, get_or, take, drop, map, Some, None, unwrap_or, option_and_then, refl, sym, ap, subst, ◌∙◌, arith}
use Rattle.std.proofs.Math.Seq.{drop-cons}
use Rattle.std.proofs.lemmas.Bool.{and_parts, not-false}
use Rattle.std.proofs.lemmas.Option.{none-some}
use Rattle.std.proofs.lemmas.List.{take-append-drop, map-append}
use Rattle.btor2.specs.declared.item.Item.{Item}
use Rattle.btor2.specs.declared.item.Body.{Body}
use Rattle.btor2.specs.declared.item.Body.TheVariants as body
use Rattle.btor2.specs.Items.{find_item, named_sort, node_sort, sort_width}
use Rattle.btor2.specs.Check.{id_is_taken, IsWellFormed}
use Rattle.btor2.proofs.AppendLemmas.{none_of}
use Rattle.wide.specs.declared.constant.Line.{Line}
use Rattle.wide.specs.declared.constant.Spelling.{Spelling}
use Rattle.wide.specs.declared.constant.Spelling.TheVariants as spelling
use Rattle.wide.specs.Lines.{item_of, items_of, constant_body}
use Rattle.wide.specs.WideModels.{greatest_width, width_is_above, constant_fits_within, constant_is_above, IsWideModel}
use Rattle.wide.proofs.GrowLemmas.{tests_false, refusal_at}
use Rattle.pieces.specs.declared.shortage.Shortage.TheVariants as shortage
use Rattle.fitting.specs.declared.unfitted.Unfitted.{Unfitted}
use Rattle.fitting.specs.declared.unfitted.Unfitted.TheVariants as unfitted
use Rattle.fitting.specs.Faults.{fault_of}
use Rattle.fitting.specs.Fitted.{HasWidth, constant_fits_word, Table, IsSoundLine, IsFitted}
use Rattle.fitting.specs.Forms.{form_fault, is_constant_line, IsRefused}
use Rattle.fitting.specs.Models.{IsUnfitLine}
use Rattle.fitting.specs.Steps.{IsLonger}
use Rattle.fitting.proofs.ConstantLemmas.{fits_sort}
use Rattle.fitting.proofs.DigitLemmas.{constant_is, constant_node, constant_named}
use Rattle.fitting.proofs.FitterLemmas.{sort_of}

-- ---- what a wide model says of its lines

fresh_id : (items : List Item) (x : Item) → id_is_taken items x ≡ false → find_item items x.id ≡ None
unfolding id_is_taken
fresh_id items x h = none_of (find_item items x.id) h

has_width : (b : Body) → width_is_above greatest_width b ≡ false → HasWidth b
unfolding width_is_above
has_width (body.Sort n) h =
    let both = and_parts (nat_le 1 n) (nat_le n greatest_width) (not-false _ h) in
    let most = leb-true n greatest_width both.1 in
    (leb-true 1 n both.0, omega (arith, most))
has_width _ h = tt

some_digits : (a b c : Bool) → (a && (b && c)) ≡ true → (a && c) ≡ true
some_digits true true c h = h
some_digits true false c h = absurd (cc)
some_digits false b c h = absurd (cc)

fits_within : (n : ℕ) (b : Body) → constant_fits_within greatest_width n b ≡ true → constant_fits_word n b ≡ true
fits_within n (body.Consth s d v) h = some_digits (nat_le 1 d) (nat_le (4 * d) (greatest_width + 3)) (nat_lt v (2 ^ n) && nat_lt v (16 ^ d)) h
fits_within n (body.Const s d v) h = h
fits_within n (body.Constd s v) h = h
fits_within n _ h = refl

fits_greatest : (items : List Item) (b : Body) → constant_is_above greatest_width items b ≡ false → constant_fits_word (unwrap_or (option_and_then (sort_width items) (named_sort b)) 0) b ≡ true
unfolding constant_is_above
fits_greatest items b h = fits_within (unwrap_or (option_and_then (sort_width items) (named_sort b)) 0) b (not-false _ h)

-- each line can be fitted
sound_line : (before after : List Item) (x : Item) → IsWideModel greatest_width (before ++ x ∷ after) → IsSoundLine before x
sound_line before after x h =
    let rows = tests_false greatest_width before x (refusal_at greatest_width before after x h) in
    record {
      fresh = fresh_id before x rows.1.1.0;
      sort = rows.1.1.1.0;
      operands = rows.1.1.1.1.0;
      state = rows.1.1.1.1.1.0;
      width = has_width x.body rows.1.1.1.1.1.1.0;
      slice = rows.1.1.1.1.1.1.1.0;
      widths = rows.1.1.1.1.1.1.1.1.0;
      constant = fits_greatest before x.body rows.1.1.1.1.1.1.1.1.1.0;
      init = rows.1.1.1.1.1.1.1.1.1.1.0;
      first_init = rows.1.1.1.1.1.1.1.1.1.1.1.0;
      first_next = rows.1.1.1.1.1.1.1.1.1.1.1.1.0;
    }

-- ---- the lines so far

map_same : (xs : List Line) → map (λ (x : Line). x) xs ≡ xs
map_same [] = refl
map_same (x ∷ xs) = ap (λ (l : List Line). x ∷ l) (map_same xs)

-- a list goes on by the line that comes next
at_turn : (all xs : List Line) (x : Line) → map (λ (y : Line). y) xs ≡ take (length xs) all → (length xs < length all) × (x ≡ get_or all (length xs) x) → all ≡ xs ++ x ∷ drop (suc (length xs)) all
at_turn all xs x so_far turn =
    sym (take-append-drop (length xs) all) ∙ ap (λ (l : List Line). l ++ drop (length xs) all) (sym so_far ∙ map_same xs)
    ∙ ap (λ (l : List Line). xs ++ l) (drop-cons all (length xs) x turn.0 ∙ ap (λ (y : Line). y ∷ drop (suc (length xs)) all) (sym turn.1))

items_at : (all xs : List Line) (x : Line) (items : List Item) → map item_of all ≡ items → map (λ (y : Line). y) xs ≡ take (length xs) all → (length xs < length all) × (x ≡ get_or all (length xs) x)
    → items ≡ items_of xs ++ item_of x ∷ items_of (drop (suc (length xs)) all)
items_at all xs x items is so_far turn = sym is ∙ ap items_of (at_turn all xs x so_far turn) ∙ map-append item_of xs (x ∷ drop (suc (length xs)) all)

-- and once all have come
pub items_all : (all xs : List Line) (items : List Item) → map item_of all ≡ items → map (λ (y : Line). y) xs ≡ all → items_of xs ≡ items
items_all all xs items is ended = ap items_of (sym (map_same xs) ∙ ended) ∙ is

-- ---- the lines before one

-- those before the first with an id
abbrev pub front_of : ℕ → List Item → List Item
front_of id [] = []
front_of id (y ∷ ys) = cond (nat_eq id y.id) [] (y ∷ front_of id ys)

front_is : (xs ys : List Item) (x : Item) → find_item xs x.id ≡ None → front_of x.id (xs ++ x ∷ ys) ≡ xs
front_is [] ys x h = ap (λ (b : Bool). cond b [] (x ∷ front_of x.id ys)) (eq-eqb x.id x.id refl)
front_is (y ∷ xs) ys x h =
    elim (nat_eq x.id y.id) as (λ b. cond b (Some y) (find_item xs x.id) ≡ None → cond b [] (y ∷ front_of x.id (xs ++ x ∷ ys)) ≡ y ∷ xs) [
      | true ↦ λ e. absurd (none-some y (sym e))
      | false ↦ λ e. ap (λ (l : List Item). y ∷ l) (front_is xs ys x e)
    ] h

-- where the next line stands
pub record IsNextLine (items : List Item) (xs : List Line) (x : Line) : Type 0 where
  pub after : List Item
  pub is : items ≡ items_of xs ++ item_of x ∷ after
  pub front : front_of (item_of x).id items ≡ items_of xs
  pub sound : IsSoundLine (items_of xs) (item_of x)

pub next_line : (all xs : List Line) (x : Line) (items : List Item) → map item_of all ≡ items → IsWideModel greatest_width items → map (λ (y : Line). y) xs ≡ take (length xs) all → (length xs < length all) × (x ≡ get_or all (length xs) x) → IsNextLine items xs x
next_line all xs x items is model so_far turn =
    let after = items_of (drop (suc (length xs)) all) in
    let at = items_at all xs x items is so_far turn in
    let sound = sound_line (items_of xs) after (item_of x) (subst (IsWideModel greatest_width) at model) in
    record { after = after; is = at; front = ap (front_of (item_of x).id) at ∙ front_is (items_of xs) after (item_of x) sound.fresh; sound = sound }

pub items_more : (xs : List Line) (x : Line) → items_of (xs ++ x ∷ []) ≡ items_of xs ++ item_of x ∷ []
items_more xs x = map-append item_of xs (x ∷ [])

-- ---- lines that are not fitted

pub unfit_by : (wide : List Item) (x : Item) (table : Table) (narrow full : List Item) (e : Unfitted) → IsFitted wide table narrow → IsLonger narrow full → IsWellFormed full → IsRefused x.body full e → IsUnfitLine (fault_of x.id e) wide x
unfit_by wide x table narrow full unfitted.Justice fitted longer well h = (refl, h)
unfit_by wide x table narrow full unfitted.Fair fitted longer well h = (refl, h)
unfit_by wide x table narrow full (unfitted.Short shortage.TooManyItems) fitted longer well h =
    (refl, (h.0, record { table = table; narrow = narrow; fitted = fitted; full = full; longer = longer; well_formed = well; most = h.1 }))
unfit_by wide x table narrow full (unfitted.Short shortage.NoMemory) fitted longer well h = tt

pub constant_form : (p : Spelling) (s count v : ℕ) → form_fault (constant_body p s count v) ≡ None
constant_form spelling.Binary s count v = refl
constant_form spelling.Decimal s count v = refl
constant_form spelling.Negative s count v = refl
constant_form spelling.Hexadecimal s count v = refl

-- the sort of a constant
pub record HasSort (wide : List Item) (b : Body) (s width : ℕ) : Type 0 where
  pub node : node_sort b ≡ Some s
  pub line : is_constant_line b ≡ true
  pub is : sort_width wide s ≡ Some width
  pub least : 1 ≤ width
  pub fits : constant_fits_word width b ≡ true

pub has_sort : (wide : List Item) (table : Table) (narrow : List Item) (x : Item) (p : Spelling) (s count v width : ℕ) → IsFitted wide table narrow → IsSoundLine wide x → x.body ≡ constant_body p s count v → width ≡ unwrap_or (table.sorts s) 0
    → HasSort wide x.body s width
has_sort wide table narrow x p s count v width fitted sound is kept =
    let named : named_sort x.body ≡ Some s = ap named_sort is ∙ constant_named p s count v in
    let sort = sort_of wide table narrow x.body s fitted named sound.sort in
    let same : sort.bits ≡ width = sym (kept ∙ sort.kept) in
    record {
      node = ap node_sort is ∙ constant_node p s count v;
      line = ap is_constant_line is ∙ constant_is p s count v;
      is = sort.is ∙ ap (λ (n : ℕ). Some n) same;
      least = subst (λ (n : ℕ). 1 ≤ n) same sort.least;
      fits = subst (λ (n : ℕ). constant_fits_word n x.body ≡ true) (sort.own ∙ same) (fits_sort wide x.body s named sound.constant);
    }
