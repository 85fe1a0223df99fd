-- The numbers of an item that no row refuses are small: sorts and operands are ids of earlier items, and widths are at most the greatest.
use Rattle.std.proofs.Common.{◌≡◌, ℕ, ◌+◌, ◌≤◌, true, false, nat_le, nat_lt, ◌==◌, List, [], ◌∷◌, Option, Some, None, is_some, is_none, unwrap_or, refl, ap, subst, arith}
use Rattle.std.specs.List.{list_all}
use Rattle.std.specs.Option.{option_map_or}
use Rattle.std.proofs.lemmas.Bool.{and_parts, eqb-true, leb-true, ltb-true, not-false}
use Rattle.btor2.specs.declared.item.Item.{Item}
use Rattle.btor2.specs.declared.item.Body.{Body}
use Rattle.btor2.specs.declared.item.Body.TheVariants as body
use Rattle.btor2.specs.Items.{find_item, sort_bits, sort_width, width_of_body, node_width, named_sort, operands}
use Rattle.btor2.specs.Check.{id_is_out_of_range, sort_is_missing, operand_is_missing, slice_is_out_of_range, widths_agree, widths_differ}
use Rattle.btor2.proofs.AppendLemmas.{then_parts, some_of}
use Rattle.btor2.proofs.AcceptedLemmas.{Each}
use Rattle.btor2.proofs.ModelLemmas.{IsIn-from_find}
use Rattle.btor2text.proofs.BoundLemmas.{IsId, BodyFits}
use Rattle.wide.specs.WideModels.{greatest_width, width_is_above, wide_refusal, IsWideModel}
use Rattle.wide.proofs.GrowLemmas.{tests_false, refusal_at, sort_range}

-- the ids that a body names are ids, and its other numbers are small
abbrev pub WideBodyFits : Body → Type 0
WideBodyFits (body.Sort n) = n ≤ 1048576
WideBodyFits (body.Const s d v) = IsId s
WideBodyFits (body.Constd s v) = IsId s
WideBodyFits (body.Consth s d v) = IsId s
WideBodyFits (body.Uext s a w) = IsId s × IsId a × (w ≤ 1048576)
WideBodyFits (body.Sext s a w) = IsId s × IsId a × (w ≤ 1048576)
WideBodyFits (body.Slice s a u l) = IsId s × IsId a × (u ≤ 1048576) × (l ≤ 1048576)
WideBodyFits b = BodyFits b

pub record WideFits (x : Item) : Type 0 where
  pub id : IsId x.id
  pub body : WideBodyFits x.body

-- what names an item is its id
range : (x : Item) → id_is_out_of_range x ≡ false → IsId x.id
unfolding id_is_out_of_range
range x h =
    let both = and_parts (nat_le 1 x.id) (nat_le x.id 4294967295) (not-false _ h) in
    (leb-true 1 x.id both.0, leb-true x.id 4294967295 both.1)

found_is_id : (items : List Item) (id : ℕ) (x : Item) → IsWideModel greatest_width items → find_item items id ≡ Some x → IsId id
found_is_id items id x h e =
    let there = IsIn-from_find items id x e in
    let w = there.0 in
    let own = range x (tests_false greatest_width w.before x (refusal_at greatest_width w.before w.after x (subst (IsWideModel greatest_width) w.splits h))).1.0 in
    (omega (arith, own.0, there.1), omega (arith, own.1, there.1))

sort_is_id : (items : List Item) (s n : ℕ) → IsWideModel greatest_width items → sort_width items s ≡ Some n → IsId s
sort_is_id items s n h has = let found = then_parts (λ (x : Item). sort_bits x.body) (find_item items s) n has in found_is_id items s found.0 h found.1

node_is_id : (items : List Item) (a : ℕ) → IsWideModel greatest_width items → is_some (node_width items a) ≡ true → IsId a
node_is_id items a h has =
    let width = some_of (node_width items a) has in
    let found = then_parts (λ (x : Item). width_of_body items x.body) (find_item items a) width.0 width.1 in
    found_is_id items a found.0 h found.1

node_range : (items : List Item) (a : ℕ) → IsWideModel greatest_width items → is_some (node_width items a) ≡ true → unwrap_or (node_width items a) 0 ≤ 1048576
node_range items a h has =
    let width = some_of (node_width items a) has in
    let found = then_parts (λ (x : Item). width_of_body items x.body) (find_item items a) width.0 width.1 in
    let sort = then_parts (sort_width items) _ width.0 found.2 in
    let most = (sort_range greatest_width items sort.0 width.0 h sort.2).1 in
    omega (arith, most, ap (λ (o : Option ℕ). unwrap_or o 0) width.1)

-- the facts of a body
record Says (items : List Item) (b : Body) : Type 0 where
  sort : option_map_or (λ s. is_none (sort_width items s)) (named_sort b) false ≡ false
  nodes : list_all (λ a. is_some (node_width items a)) (operands b) ≡ true
  width : width_is_above greatest_width b ≡ false
  slice : slice_is_out_of_range items b ≡ false
  widths : widths_agree (λ s. unwrap_or (sort_width items s) 0) (λ a. unwrap_or (node_width items a) 0) b ≡ true

there : (o : Option ℕ) → is_none o ≡ false → (n : ℕ) × (o ≡ Some n)
there None h = absurd (cc)
there (Some n) h = (n, refl)

module _ (items : List Item) (h : IsWideModel greatest_width items) where
  sort_id : (s : ℕ) → is_none (sort_width items s) ≡ false → IsId s
  sort_id s e = let n = there (sort_width items s) e in sort_is_id items s n.0 h n.1

  ids : (nodes : List ℕ) → list_all (λ a. is_some (node_width items a)) nodes ≡ true → Each IsId nodes
  ids [] e = tt
  ids (a ∷ more) e =
      let both = and_parts (is_some (node_width items a)) (list_all (λ k. is_some (node_width items k)) more) e in
      (node_is_id items a h both.0, ids more both.1)

  first : (a : ℕ) (more : List ℕ) → list_all (λ k. is_some (node_width items k)) (a ∷ more) ≡ true → is_some (node_width items a) ≡ true
  first a more e = (and_parts (is_some (node_width items a)) (list_all (λ k. is_some (node_width items k)) more) e).0

  by_range : (s a w : ℕ) → is_none (sort_width items s) ≡ false → (unwrap_or (sort_width items s) 0 == unwrap_or (node_width items a) 0 + w) ≡ true → w ≤ 1048576
  by_range s a w sort agree =
      let n = there (sort_width items s) sort in
      let most = (sort_range greatest_width items s n.0 h n.1).1 in
      omega (arith, most, ap (λ (o : Option ℕ). unwrap_or o 0) n.1, eqb-true _ _ agree)

  body_fits : (b : Body) → Says items b → WideBodyFits b
  unfolding width_is_above slice_is_out_of_range
  body_fits (body.Sort n) p =
      let both = and_parts (nat_le 1 n) (nat_le n greatest_width) (not-false _ p.width) in
      leb-true n greatest_width both.1
  body_fits (body.Input s) p = sort_id s p.sort
  body_fits (body.State s) p = sort_id s p.sort
  body_fits (body.Zero s) p = sort_id s p.sort
  body_fits (body.One s) p = sort_id s p.sort
  body_fits (body.Ones s) p = sort_id s p.sort
  body_fits (body.Const s d v) p = sort_id s p.sort
  body_fits (body.Constd s v) p = sort_id s p.sort
  body_fits (body.Consth s d v) p = sort_id s p.sort
  body_fits (body.Uext s a w) p = (sort_id s p.sort, (ids (a ∷ []) p.nodes).0, by_range s a w p.sort p.widths)
  body_fits (body.Sext s a w) p = (sort_id s p.sort, (ids (a ∷ []) p.nodes).0, by_range s a w p.sort p.widths)
  body_fits (body.Slice s a u l) p =
      let both = and_parts (nat_le l u) (nat_lt u (unwrap_or (node_width items a) 0)) (not-false _ p.slice) in
      let most = node_range items a h (first a [] p.nodes) in
      let low = leb-true l u both.0 in
      let high = ltb-true u (unwrap_or (node_width items a) 0) both.1 in
      (sort_id s p.sort, (ids (a ∷ []) p.nodes).0, omega (arith, most, high), omega (arith, most, high, low))
  body_fits (body.Unary op s a) p = (sort_id s p.sort, (ids (a ∷ []) p.nodes).0)
  body_fits (body.Binary op s a b) p = let each = ids (a ∷ b ∷ []) p.nodes in (sort_id s p.sort, each.0, each.1.0)
  body_fits (body.Concat s a b) p = let each = ids (a ∷ b ∷ []) p.nodes in (sort_id s p.sort, each.0, each.1.0)
  body_fits (body.Ite s c t e) p = let each = ids (c ∷ t ∷ e ∷ []) p.nodes in (sort_id s p.sort, each.0, each.1.0, each.1.1.0)
  body_fits (body.Init s t v) p = let each = ids (t ∷ v ∷ []) p.nodes in (sort_id s p.sort, each.0, each.1.0)
  body_fits (body.Next s t v) p = let each = ids (t ∷ v ∷ []) p.nodes in (sort_id s p.sort, each.0, each.1.0)
  body_fits (body.Bad a) p = (ids (a ∷ []) p.nodes).0
  body_fits (body.Constraint a) p = (ids (a ∷ []) p.nodes).0
  body_fits (body.Fair a) p = (ids (a ∷ []) p.nodes).0
  body_fits (body.Output a) p = (ids (a ∷ []) p.nodes).0
  body_fits (body.Justice nodes) p = ids nodes p.nodes

pub accepted_fits : (items : List Item) (x : Item) → IsWideModel greatest_width items → wide_refusal greatest_width items x ≡ None → WideFits x
unfolding sort_is_missing operand_is_missing widths_differ
accepted_fits items x h r =
    let rows = tests_false greatest_width items x r in
    let says = rows.1.1.1 in
    record {
      id = range x rows.1.0;
      body = body_fits items h x.body (record { sort = says.0; nodes = not-false _ says.1.0; width = says.1.1.1.0; slice = says.1.1.1.1.0; widths = not-false _ says.1.1.1.1.1.0 });
    }
