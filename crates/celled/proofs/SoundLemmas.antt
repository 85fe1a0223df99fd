-- A line over the sorts and nodes of the list with cells is refused by no row where the line itself is not.
use Rattle.std.proofs.Common.{◌≡◌, ℕ, ◌+◌, ◌-◌, false, not, ◌&&◌, ◌||◌, ◌==◌, List, [], ◌∷◌, map, Option, Some, None, IfSome, is_some, is_none, unwrap_or, option_and_then, option_map, refl, ap, ap₂, ◌∙◌}
use Rattle.std.specs.List.{AllByRecursion, list_all}
use Rattle.std.specs.Option.{option_map_or}
use Rattle.base.specs.Widths.{unary_width, binary_width, is_of_bits}
use Rattle.btor2.specs.declared.item.Item.{Item}
use Rattle.btor2.specs.declared.item.Body.{Body}
use Rattle.btor2.specs.declared.item.Body.TheVariants as body
use Rattle.btor2.specs.Items.{named_sort, operands, sort_width, node_width}
use Rattle.btor2.specs.Check.{sort_is_missing, operand_is_missing, state_is_none, is_no_slice, slice_is_out_of_range, widths_agree, widths_differ, init_is_not_constant, is_second_init, is_second_next, justice_is_empty}
use Rattle.btor2.specs.Trace.{bits_of}
use Rattle.wide.specs.WideModels.{greatest_width, width_is_above, constant_fits_within, constant_is_above, wide_refusal}
use Rattle.wide.proofs.GrowLemmas.{tests_false}
use Rattle.cells.specs.Kept.{IsSound}
use Rattle.celled.specs.Split.{renamed}

-- ---- renamed forms

pub renamed_sort : (to : ℕ → ℕ) (b : Body) → named_sort (renamed to b) ≡ option_map to (named_sort b)
renamed_sort to (body.Sort n) = refl
renamed_sort to (body.Input s) = refl
renamed_sort to (body.State s) = refl
renamed_sort to (body.Zero s) = refl
renamed_sort to (body.One s) = refl
renamed_sort to (body.Ones s) = refl
renamed_sort to (body.Const s d v) = refl
renamed_sort to (body.Constd s v) = refl
renamed_sort to (body.Consth s d v) = refl
renamed_sort to (body.Uext s a by) = refl
renamed_sort to (body.Sext s a by) = refl
renamed_sort to (body.Slice s a u l) = refl
renamed_sort to (body.Unary op s a) = refl
renamed_sort to (body.Binary op s a b) = refl
renamed_sort to (body.Concat s a b) = refl
renamed_sort to (body.Ite s c t e) = refl
renamed_sort to (body.Init s t v) = refl
renamed_sort to (body.Next s t v) = refl
renamed_sort to (body.Bad a) = refl
renamed_sort to (body.Constraint a) = refl
renamed_sort to (body.Fair a) = refl
renamed_sort to (body.Output a) = refl
renamed_sort to (body.Justice nodes) = refl

pub renamed_operands : (to : ℕ → ℕ) (b : Body) → operands (renamed to b) ≡ map to (operands b)
renamed_operands to (body.Sort n) = refl
renamed_operands to (body.Input s) = refl
renamed_operands to (body.State s) = refl
renamed_operands to (body.Zero s) = refl
renamed_operands to (body.One s) = refl
renamed_operands to (body.Ones s) = refl
renamed_operands to (body.Const s d v) = refl
renamed_operands to (body.Constd s v) = refl
renamed_operands to (body.Consth s d v) = refl
renamed_operands to (body.Uext s a by) = refl
renamed_operands to (body.Sext s a by) = refl
renamed_operands to (body.Slice s a u l) = refl
renamed_operands to (body.Unary op s a) = refl
renamed_operands to (body.Binary op s a b) = refl
renamed_operands to (body.Concat s a b) = refl
renamed_operands to (body.Ite s c t e) = refl
renamed_operands to (body.Init s t v) = refl
renamed_operands to (body.Next s t v) = refl
renamed_operands to (body.Bad a) = refl
renamed_operands to (body.Constraint a) = refl
renamed_operands to (body.Fair a) = refl
renamed_operands to (body.Output a) = refl
renamed_operands to (body.Justice nodes) = refl

renamed_agree : (to : ℕ → ℕ) (sort sort' node node' : ℕ → ℕ) (b : Body) → IfSome (named_sort b) (λ s. sort' (to s) ≡ sort s) → AllByRecursion (λ a. node' (to a) ≡ node a) (operands b)
    → widths_agree sort' node' (renamed to b) ≡ widths_agree sort node b
renamed_agree to sort sort' node node' (body.Uext s a by) e h = ap₂ (λ (m n : ℕ). m == n + by) e h.0
renamed_agree to sort sort' node node' (body.Sext s a by) e h = ap₂ (λ (m n : ℕ). m == n + by) e h.0
renamed_agree to sort sort' node node' (body.Slice s a u l) e h = ap (λ (m : ℕ). m == u - l + 1) e
renamed_agree to sort sort' node node' (body.Unary op s a) e h = ap₂ (λ (m n : ℕ). m == unary_width op n) e h.0
renamed_agree to sort sort' node node' (body.Binary op s a b) e h =
    ap₂ (λ (m n : ℕ). (n == node' (to b)) && ((not (is_of_bits op) || (n == 1)) && (m == binary_width op n))) e h.0
    ∙ ap (λ (k : ℕ). (node a == k) && ((not (is_of_bits op) || (node a == 1)) && (sort s == binary_width op (node a)))) h.1.0
renamed_agree to sort sort' node node' (body.Concat s a b) e h = ap₂ (λ (m n : ℕ). m == n + node' (to b)) e h.0 ∙ ap (λ (k : ℕ). sort s == node a + k) h.1.0
renamed_agree to sort sort' node node' (body.Ite s c t u) e h =
    ap₂ (λ (m n : ℕ). (n == 1) && ((m == node' (to t)) && (m == node' (to u)))) e h.0
    ∙ ap₂ (λ (j k : ℕ). (node c == 1) && ((sort s == j) && (sort s == k))) h.1.0 h.1.1.0
renamed_agree to sort sort' node node' (body.Init s t v) e h = ap₂ (λ (m n : ℕ). (m == n) && (m == node' (to v))) e h.0 ∙ ap (λ (k : ℕ). (sort s == node t) && (sort s == k)) h.1.0
renamed_agree to sort sort' node node' (body.Next s t v) e h = ap₂ (λ (m n : ℕ). (m == n) && (m == node' (to v))) e h.0 ∙ ap (λ (k : ℕ). (sort s == node t) && (sort s == k)) h.1.0
renamed_agree to sort sort' node node' (body.Bad a) e h = ap (λ (n : ℕ). n == 1) h.0
renamed_agree to sort sort' node node' (body.Constraint a) e h = ap (λ (n : ℕ). n == 1) h.0
renamed_agree to sort sort' node node' (body.Fair a) e h = ap (λ (n : ℕ). n == 1) h.0
renamed_agree to sort sort' node node' (body.Justice nodes) e h = each nodes h
  where
    each : (ids : List ℕ) → AllByRecursion (λ a. node' (to a) ≡ node a) ids → list_all (λ a. node' a == 1) (map to ids) ≡ list_all (λ a. node a == 1) ids
    each [] h = refl
    each (a ∷ more) h = ap₂ ◌&&◌ (ap (λ (n : ℕ). n == 1) h.0) (each more h.1)
renamed_agree to sort sort' node node' (body.Sort n) e h = refl
renamed_agree to sort sort' node node' (body.Input s) e h = refl
renamed_agree to sort sort' node node' (body.State s) e h = refl
renamed_agree to sort sort' node node' (body.Zero s) e h = refl
renamed_agree to sort sort' node node' (body.One s) e h = refl
renamed_agree to sort sort' node node' (body.Ones s) e h = refl
renamed_agree to sort sort' node node' (body.Const s d v) e h = refl
renamed_agree to sort sort' node node' (body.Constd s v) e h = refl
renamed_agree to sort sort' node node' (body.Consth s d v) e h = refl
renamed_agree to sort sort' node node' (body.Output a) e h = refl

renamed_fits : (to : ℕ → ℕ) (most n : ℕ) (b : Body) → constant_fits_within most n (renamed to b) ≡ constant_fits_within most n b
renamed_fits to most n (body.Const s d v) = refl
renamed_fits to most n (body.Constd s v) = refl
renamed_fits to most n (body.Consth s d v) = refl
renamed_fits to most n (body.Sort k) = refl
renamed_fits to most n (body.Input s) = refl
renamed_fits to most n (body.State s) = refl
renamed_fits to most n (body.Zero s) = refl
renamed_fits to most n (body.One s) = refl
renamed_fits to most n (body.Ones s) = refl
renamed_fits to most n (body.Uext s a by) = refl
renamed_fits to most n (body.Sext s a by) = refl
renamed_fits to most n (body.Slice s a u l) = refl
renamed_fits to most n (body.Unary op s a) = refl
renamed_fits to most n (body.Binary op s a b) = refl
renamed_fits to most n (body.Concat s a b) = refl
renamed_fits to most n (body.Ite s c t e) = refl
renamed_fits to most n (body.Init s t v) = refl
renamed_fits to most n (body.Next s t v) = refl
renamed_fits to most n (body.Bad a) = refl
renamed_fits to most n (body.Constraint a) = refl
renamed_fits to most n (body.Fair a) = refl
renamed_fits to most n (body.Output a) = refl
renamed_fits to most n (body.Justice nodes) = refl

-- ---- the rows

-- what the list has of what a line names
pub record Carried (front celled : List Item) (to : ℕ → ℕ) (b : Body) : Type 0 where
  pub sort : IfSome (named_sort b) (λ s. sort_width celled (to s) ≡ sort_width front s)
  pub nodes : AllByRecursion (λ a. node_width celled (to a) ≡ node_width front a) (operands b)
  pub states : state_is_none celled (renamed to b) ≡ false
  pub init : init_is_not_constant celled (renamed to b) ≡ false
  pub first_init : is_second_init celled (renamed to b) ≡ false
  pub first_next : is_second_next celled (renamed to b) ≡ false

sort_row : (front celled : List Item) (to : ℕ → ℕ) (b : Body) → IfSome (named_sort b) (λ s. sort_width celled (to s) ≡ sort_width front s) → sort_is_missing front b ≡ false → sort_is_missing celled (renamed to b) ≡ false
unfolding sort_is_missing
sort_row front celled to b e h = ap (λ (o : Option ℕ). option_map_or (λ s. is_none (sort_width celled s)) o false) (renamed_sort to b) ∙ by (named_sort b) e h
  where
    by : (o : Option ℕ) → IfSome o (λ s. sort_width celled (to s) ≡ sort_width front s) → option_map_or (λ s. is_none (sort_width front s)) o false ≡ false → option_map_or (λ s. is_none (sort_width celled s)) (option_map to o) false ≡ false
    by None e h = refl
    by (Some s) e h = ap is_none e ∙ h

operand_row : (front celled : List Item) (to : ℕ → ℕ) (b : Body) → AllByRecursion (λ a. node_width celled (to a) ≡ node_width front a) (operands b) → operand_is_missing front b ≡ false → operand_is_missing celled (renamed to b) ≡ false
unfolding operand_is_missing
operand_row front celled to b e h = ap (λ (l : List ℕ). not (list_all (λ a. is_some (node_width celled a)) l)) (renamed_operands to b) ∙ ap not (each (operands b) e) ∙ h
  where
    each : (ids : List ℕ) → AllByRecursion (λ a. node_width celled (to a) ≡ node_width front a) ids → list_all (λ a. is_some (node_width celled a)) (map to ids) ≡ list_all (λ a. is_some (node_width front a)) ids
    each [] h = refl
    each (a ∷ more) h = ap₂ ◌&&◌ (ap is_some h.0) (each more h.1)

width_row : (to : ℕ → ℕ) (b : Body) → width_is_above greatest_width b ≡ false → width_is_above greatest_width (renamed to b) ≡ false
unfolding width_is_above
width_row to (body.Sort n) h = h
width_row to (body.Input s) h = refl
width_row to (body.State s) h = refl
width_row to (body.Zero s) h = refl
width_row to (body.One s) h = refl
width_row to (body.Ones s) h = refl
width_row to (body.Const s d v) h = refl
width_row to (body.Constd s v) h = refl
width_row to (body.Consth s d v) h = refl
width_row to (body.Uext s a by) h = refl
width_row to (body.Sext s a by) h = refl
width_row to (body.Slice s a u l) h = refl
width_row to (body.Unary op s a) h = refl
width_row to (body.Binary op s a b) h = refl
width_row to (body.Concat s a b) h = refl
width_row to (body.Ite s c t e) h = refl
width_row to (body.Init s t v) h = refl
width_row to (body.Next s t v) h = refl
width_row to (body.Bad a) h = refl
width_row to (body.Constraint a) h = refl
width_row to (body.Fair a) h = refl
width_row to (body.Output a) h = refl
width_row to (body.Justice nodes) h = refl

slice_row : (front celled : List Item) (to : ℕ → ℕ) (b : Body) → AllByRecursion (λ a. node_width celled (to a) ≡ node_width front a) (operands b) → slice_is_out_of_range front b ≡ false → slice_is_out_of_range celled (renamed to b) ≡ false
unfolding slice_is_out_of_range
slice_row front celled to (body.Slice s a u l) e h = ap (λ (o : Option ℕ). is_no_slice (unwrap_or o 0) u l) e.0 ∙ h
slice_row front celled to (body.Sort n) e h = refl
slice_row front celled to (body.Input s) e h = refl
slice_row front celled to (body.State s) e h = refl
slice_row front celled to (body.Zero s) e h = refl
slice_row front celled to (body.One s) e h = refl
slice_row front celled to (body.Ones s) e h = refl
slice_row front celled to (body.Const s d v) e h = refl
slice_row front celled to (body.Constd s v) e h = refl
slice_row front celled to (body.Consth s d v) e h = refl
slice_row front celled to (body.Uext s a by) e h = refl
slice_row front celled to (body.Sext s a by) e h = refl
slice_row front celled to (body.Unary op s a) e h = refl
slice_row front celled to (body.Binary op s a b) e h = refl
slice_row front celled to (body.Concat s a b) e h = refl
slice_row front celled to (body.Ite s c t u) e h = refl
slice_row front celled to (body.Init s t v) e h = refl
slice_row front celled to (body.Next s t v) e h = refl
slice_row front celled to (body.Bad a) e h = refl
slice_row front celled to (body.Constraint a) e h = refl
slice_row front celled to (body.Fair a) e h = refl
slice_row front celled to (body.Output a) e h = refl
slice_row front celled to (body.Justice nodes) e h = refl

all_bits : (front celled : List Item) (to : ℕ → ℕ) (ids : List ℕ) → AllByRecursion (λ a. node_width celled (to a) ≡ node_width front a) ids → AllByRecursion (λ a. bits_of celled (to a) ≡ bits_of front a) ids
all_bits front celled to [] h = tt
all_bits front celled to (a ∷ more) h = (ap (λ (o : Option ℕ). unwrap_or o 0) h.0, all_bits front celled to more h.1)

if_bits : (front celled : List Item) (to : ℕ → ℕ) (o : Option ℕ) → IfSome o (λ s. sort_width celled (to s) ≡ sort_width front s) → IfSome o (λ s. unwrap_or (sort_width celled (to s)) 0 ≡ unwrap_or (sort_width front s) 0)
if_bits front celled to None h = tt
if_bits front celled to (Some s) h = ap (λ (o : Option ℕ). unwrap_or o 0) h

widths_row : (front celled : List Item) (to : ℕ → ℕ) (b : Body) → IfSome (named_sort b) (λ s. sort_width celled (to s) ≡ sort_width front s) → AllByRecursion (λ a. node_width celled (to a) ≡ node_width front a) (operands b) → widths_differ front b ≡ false → widths_differ celled (renamed to b) ≡ false
unfolding widths_differ
widths_row front celled to b e k h =
    ap not (renamed_agree to (λ s. unwrap_or (sort_width front s) 0) (λ s. unwrap_or (sort_width celled s) 0) (bits_of front) (bits_of celled) b (if_bits front celled to (named_sort b) e) (all_bits front celled to (operands b) k)) ∙ h

constant_row : (front celled : List Item) (to : ℕ → ℕ) (b : Body) → IfSome (named_sort b) (λ s. sort_width celled (to s) ≡ sort_width front s) → constant_is_above greatest_width front b ≡ false → constant_is_above greatest_width celled (renamed to b) ≡ false
unfolding constant_is_above
constant_row front celled to b e h =
    ap not (renamed_fits to greatest_width (unwrap_or (option_and_then (sort_width celled) (named_sort (renamed to b))) 0) b
    ∙ ap (λ (o : Option ℕ). constant_fits_within greatest_width (unwrap_or (option_and_then (sort_width celled) o) 0) b) (renamed_sort to b)
    ∙ by (named_sort b) e) ∙ h
  where
    by : (o : Option ℕ) → IfSome o (λ s. sort_width celled (to s) ≡ sort_width front s)
        → constant_fits_within greatest_width (unwrap_or (option_and_then (sort_width celled) (option_map to o)) 0) b ≡ constant_fits_within greatest_width (unwrap_or (option_and_then (sort_width front) o) 0) b
    by None e = refl
    by (Some s) e = ap (λ (o : Option ℕ). constant_fits_within greatest_width (unwrap_or o 0) b) e

justice_row : (to : ℕ → ℕ) (b : Body) → justice_is_empty b ≡ false → justice_is_empty (renamed to b) ≡ false
unfolding justice_is_empty
justice_row to (body.Justice []) h = h
justice_row to (body.Justice (a ∷ more)) h = refl
justice_row to (body.Sort n) h = refl
justice_row to (body.Input s) h = refl
justice_row to (body.State s) h = refl
justice_row to (body.Zero s) h = refl
justice_row to (body.One s) h = refl
justice_row to (body.Ones s) h = refl
justice_row to (body.Const s d v) h = refl
justice_row to (body.Constd s v) h = refl
justice_row to (body.Consth s d v) h = refl
justice_row to (body.Uext s a by) h = refl
justice_row to (body.Sext s a by) h = refl
justice_row to (body.Slice s a u l) h = refl
justice_row to (body.Unary op s a) h = refl
justice_row to (body.Binary op s a b) h = refl
justice_row to (body.Concat s a b) h = refl
justice_row to (body.Ite s c t e) h = refl
justice_row to (body.Init s t v) h = refl
justice_row to (body.Next s t v) h = refl
justice_row to (body.Bad a) h = refl
justice_row to (body.Constraint a) h = refl
justice_row to (body.Fair a) h = refl
justice_row to (body.Output a) h = refl

pub renamed_sound : (front celled : List Item) (to : ℕ → ℕ) (x : Item) → wide_refusal greatest_width front x ≡ None → Carried front celled to x.body → IsSound celled (renamed to x.body)
unfolding IsSound
renamed_sound front celled to x accepted h =
    let rows = tests_false greatest_width front x accepted in
    let b = x.body in
    rw (
      sort_row front celled to b h.sort rows.1.1.1.0,
      operand_row front celled to b h.nodes rows.1.1.1.1.0,
      h.states,
      width_row to b rows.1.1.1.1.1.1.0,
      slice_row front celled to b h.nodes rows.1.1.1.1.1.1.1.0,
      widths_row front celled to b h.sort h.nodes rows.1.1.1.1.1.1.1.1.0,
      constant_row front celled to b h.sort rows.1.1.1.1.1.1.1.1.1.0,
      h.init,
      h.first_init,
      h.first_next,
      justice_row to b rows.1.1.1.1.1.1.1.1.1.1.1.1.1.0,
    ) refl
