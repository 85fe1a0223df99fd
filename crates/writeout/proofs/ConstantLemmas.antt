-- Constants that have the first words of states.
use Rattle.std.proofs.Common.{◌≡◌, ◌⊎◌, inl, inr, ℕ, suc, zero, ◌+◌, ◌-◌, ◌*◌, ◌^◌, ◌≤◌, Bool, true, false, true≢false, cond, nat_eq, eqb-true, List, [], ◌∷◌, ◌++◌, Option, Some, None, is_some, unwrap_or, option_map, option_and_then, refl, sym, ap, ap₂, subst, ◌∙◌, arith}
use Rattle.std.proofs.lemmas.Option.{same_Some}
use Rattle.std.proofs.lemmas.Nat.{pow-add, pow_pos}
use Rattle.base.specs.declared.operators.Unary.TheVariants as unary
use Rattle.base.specs.Operator.{ones, unary_value}
use Rattle.btor2.specs.declared.item.Item.{Item}
use Rattle.btor2.specs.declared.item.Body.{Body}
use Rattle.btor2.specs.declared.item.Body.TheVariants as body
use Rattle.btor2.specs.Items.{find_item, node_width, node_sort, sort_width, width_of_body, constant_of, constant_of_body, constant_word}
use Rattle.btor2.specs.Check.{slice_is_out_of_range}
use Rattle.btor2.proofs.AppendLemmas.{width_of_body-append}
use Rattle.full.specs.Lines.{Operand, Says, form, FullLine, Sort, words, arrays, find_line, size_of, sort_of_node, width_of, init_of, next_of}
use Rattle.full.specs.Agreement.{is_words, element_sort, IsFullModel}
use Rattle.full.specs.Cells.{repeat_value}
use Rattle.full.specs.Runs.{at_place, operand_word, first_word, in_each_cell, LineSays}
use Rattle.full.specs.WrittenOut.{InFrames, read_by}
use Rattle.full.proofs.FullLookUps.{each_found}
use Rattle.cells.specs.Lines.{named}
use Rattle.writeout.specs.declared.way.Kind.{Kind}
use Rattle.writeout.specs.declared.way.Kind.TheVariants as kind
use Rattle.writeout.specs.declared.way.Way.{Way}
use Rattle.writeout.specs.declared.way.Way.TheVariants as way
use Rattle.writeout.specs.Ways.{kind_by, kind_of_form, kind_of, kind_at, way_by, way_with, way_of}
use Rattle.writeout.specs.Needs.{place_of}
use Rattle.writeout.specs.Nodes.{IsConstantOf, LineStands, NodesStand}
use Rattle.writeout.specs.Writings.{Writing, Settled, with_items, Grows}
use Rattle.writeout.specs.Leaves.{node_at}
use Rattle.writeout.specs.LateLines.{HasItsNode, IsFirstConstant}
use Rattle.writeout.proofs.PlaceLemmas.{NodeLine, node_line}
use Rattle.writeout.proofs.GrowLemmas.{settled_on}
use Rattle.writeout.proofs.NeedLemmas.{all_get}

-- ---- a constant behind a list

pub constant_last : (items : List Item) (id : ℕ) (symbol : Option (List ℕ)) (b : Body) (s n v : ℕ) → find_item (items ++ named id symbol b ∷ []) id ≡ Some (named id symbol b) → node_sort b ≡ Some s → sort_width items s ≡ Some n
    → constant_word n b ≡ Some v → constant_of (items ++ named id symbol b ∷ []) id ≡ Some v
constant_last items id symbol b s n v found sort width word =
    ap (option_and_then (λ (x : Item). constant_of_body (items ++ named id symbol b ∷ []) x.body)) found
    ∙ ap (option_and_then (λ m. constant_word m b)) (width_of_body-append items (named id symbol b ∷ []) b n (ap (option_and_then (sort_width items)) sort ∙ width)) ∙ word

pub width_last : (items : List Item) (id : ℕ) (symbol : Option (List ℕ)) (b : Body) (s n : ℕ) → find_item (items ++ named id symbol b ∷ []) id ≡ Some (named id symbol b) → node_sort b ≡ Some s → sort_width items s ≡ Some n
    → node_width (items ++ named id symbol b ∷ []) id ≡ Some n
width_last items id symbol b s n found sort width =
    ap (option_and_then (λ (x : Item). width_of_body (items ++ named id symbol b ∷ []) x.body)) found
    ∙ width_of_body-append items (named id symbol b ∷ []) b n (ap (option_and_then (sort_width items)) sort ∙ width)

pub no_slice_ones : (items : List Item) (s : ℕ) → slice_is_out_of_range items (body.Ones s) ≡ false
unfolding slice_is_out_of_range
no_slice_ones items s = refl

-- ---- one word in each cell

pub repeat_zero : (n c : ℕ) → repeat_value n c 0 ≡ 0
repeat_zero n zero = refl
repeat_zero n (suc c) = ap (λ (v : ℕ). v * 2 ^ n + 0) (repeat_zero n c) ∙ omega arith

some_power : (n : ℕ) → 1 ≤ 2 ^ n
some_power n = omega (arith, pow_pos n)

ones_beside : (p q : ℕ) → 1 ≤ p → 1 ≤ q → (p - 1) * q + (q - 1) ≡ p * q - 1
ones_beside zero q h k = absurd (omega (arith, h))
ones_beside (suc p) zero h k = absurd (omega (arith, k))
ones_beside (suc p) (suc q) h k =
    let first : suc p - 1 ≡ p = omega arith in
    let second : suc q - 1 ≡ q = omega arith in
    let both : p * suc q + q ≡ suc p * suc q - 1 = omega arith in
    ap₂ (λ (a b : ℕ). a * suc q + b) first second ∙ both

pub repeat_ones : (n c : ℕ) → repeat_value n c (ones n) ≡ ones (c * n)
repeat_ones n zero = let none : zero * n ≡ 0 = omega arith in sym (ap ones none)
repeat_ones n (suc c) =
    let bits : c * n + n ≡ suc c * n = omega arith in
    ap (λ (v : ℕ). v * 2 ^ n + ones n) (repeat_ones n c) ∙ ones_beside (2 ^ (c * n)) (2 ^ n) (some_power (c * n)) (some_power n)
    ∙ ap (λ (v : ℕ). v - 1) (sym (pow-add 2 (c * n) n)) ∙ ap ones bits

-- the word of an element's sort, or of its own, as one of a sort
sort_same : (s : Option Sort) (v : ℕ) → in_each_cell s s v ≡ v
sort_same None v = refl
sort_same (Some (words n)) v = refl
sort_same (Some (arrays k n)) v = refl

pub cells_zero : (s t : Option Sort) → (t ≡ s) ⊎ (t ≡ element_sort s) → in_each_cell s t 0 ≡ 0
cells_zero s t (inl same) = ap (λ (o : Option Sort). in_each_cell s o 0) same ∙ sort_same s 0
cells_zero None t (inr e) = refl
cells_zero (Some (words n)) t (inr e) = refl
cells_zero (Some (arrays k n)) t (inr e) = ap (λ (o : Option Sort). in_each_cell (Some (arrays k n)) o 0) e ∙ repeat_zero n (2 ^ k)

pub cells_ones : (s t : Option Sort) → (t ≡ s) ⊎ (t ≡ element_sort s) → is_words s ≡ false → is_some t ≡ true → in_each_cell s t (ones (size_of t)) ≡ ones (size_of s)
cells_ones s t (inl same) none there = ap (λ (o : Option Sort). in_each_cell s o (ones (size_of o))) same ∙ sort_same s (ones (size_of s))
cells_ones None t (inr e) none there = absurd (true≢false (sym there ∙ ap is_some e))
cells_ones (Some (words n)) t (inr e) none there = absurd (true≢false none)
cells_ones (Some (arrays k n)) t (inr e) none there = ap (λ (o : Option Sort). in_each_cell (Some (arrays k n)) o (ones (size_of o))) e ∙ repeat_ones n (2 ^ k)

pub words_same : (s t : Option Sort) (v : ℕ) → (t ≡ s) ⊎ (t ≡ element_sort s) → is_words s ≡ true → is_some t ≡ true → (t ≡ s) × (in_each_cell s t v ≡ v)
words_same s t v (inl same) is there = (same, ap (λ (o : Option Sort). in_each_cell s o v) same ∙ sort_same s v)
words_same None t v (inr e) is there = absurd (true≢false (sym is))
words_same (Some (words n)) t v (inr e) is there = absurd (true≢false (sym there ∙ ap is_some e))
words_same (Some (arrays k n)) t v (inr e) is there = absurd (true≢false (sym is))

-- ---- ways

-- a state is written with an init line, of a way
pub record IsAsItIs (full : List FullLine) (id : ℕ) (o : Operand) (y : Way) : Type 0 where
  pub minus : o.minus ≡ false
  pub by : way_by (kind_at full o.id) (is_words (sort_of_node full id)) ≡ y

pub way_as : (full : List FullLine) (id : ℕ) (o : Operand) (y : Way) → way_of full id ≡ y → init_of full id ≡ Some o → (y ≡ way.First → ⊥) → IsAsItIs full id o y
unfolding way_of
way_as full id o y e init other = by (next_of full id) o.minus refl (sym (ap (λ (i : Option Operand). way_with full id i (next_of full id)) init) ∙ e)
  where
    by : (n : Option Operand) (m : Bool) → o.minus ≡ m → way_with full id (Some o) n ≡ y → IsAsItIs full id o y
    by None m minus h = absurd (other (sym h))
    by (Some v) true minus h = absurd (other (sym h ∙ ap (λ (b : Bool). cond b way.First (way_by (kind_at full o.id) (is_words (sort_of_node full id)))) minus))
    by (Some v) false minus h = record { minus = minus; by = sym (ap (λ (b : Bool). cond b way.First (way_by (kind_at full o.id) (is_words (sort_of_node full id)))) minus) ∙ h }

by_constant : (k : Kind) (b : Bool) → way_by k b ≡ way.Constant → (b ≡ true) × (k ≡ kind.Neither → ⊥)
by_constant kind.Zero true h = (refl, λ e. absurd (cc))
by_constant kind.Ones true h = (refl, λ e. absurd (cc))
by_constant kind.Other true h = (refl, λ e. absurd (cc))
by_constant kind.Zero false h = absurd (cc)
by_constant kind.Ones false h = absurd (cc)
by_constant kind.Other false h = absurd (cc)
by_constant kind.Neither b h = absurd (cc)

by_zeros : (k : Kind) (b : Bool) → way_by k b ≡ way.Zeros → (b ≡ false) × (k ≡ kind.Zero)
by_zeros kind.Zero false h = (refl, refl)
by_zeros kind.Zero true h = absurd (cc)
by_zeros kind.Ones true h = absurd (cc)
by_zeros kind.Ones false h = absurd (cc)
by_zeros kind.Other true h = absurd (cc)
by_zeros kind.Other false h = absurd (cc)
by_zeros kind.Neither b h = absurd (cc)

by_ones : (k : Kind) (b : Bool) → way_by k b ≡ way.Ones → (b ≡ false) × (k ≡ kind.Ones)
by_ones kind.Ones false h = (refl, refl)
by_ones kind.Ones true h = absurd (cc)
by_ones kind.Zero true h = absurd (cc)
by_ones kind.Zero false h = absurd (cc)
by_ones kind.Other true h = absurd (cc)
by_ones kind.Other false h = absurd (cc)
by_ones kind.Neither b h = absurd (cc)

-- ---- the line of a constant

-- what is known of a constant's form of a width
record IsConstantForm (n : ℕ) (b : Body) : Type 0 where
  there : is_some (constant_word 0 b) ≡ true
  word : ℕ
  is : constant_word n b ≡ Some word
  zeros : kind_of_form n b ≡ kind.Zero → word ≡ 0
  ones : kind_of_form n b ≡ kind.Ones → word ≡ ones n

kind_zero : (v : ℕ) (a b : Bool) → nat_eq v 0 ≡ a → kind_by a b ≡ kind.Zero → v ≡ 0
kind_zero v true b e h = eqb-true v 0 e
kind_zero v false true e h = absurd (cc)
kind_zero v false false e h = absurd (cc)

kind_ones : (v w : ℕ) (a b : Bool) → nat_eq v w ≡ b → kind_by a b ≡ kind.Ones → v ≡ w
kind_ones v w true b e h = absurd (cc)
kind_ones v w false true e h = eqb-true v w e
kind_ones v w false false e h = absurd (cc)

-- of any width it is one
constant_any : (n : ℕ) (b : Body) → is_some (constant_word n b) ≡ is_some (constant_word 0 b)
constant_any n (body.Zero s) = refl
constant_any n (body.One s) = refl
constant_any n (body.Ones s) = refl
constant_any n (body.Const s d v) = refl
constant_any n (body.Constd s v) = refl
constant_any n (body.Consth s d v) = refl
constant_any n _ = refl

constant_form : (n : ℕ) (b : Body) → (kind_of_form n b ≡ kind.Neither → ⊥) → IsConstantForm n b
constant_form n b h = by (constant_word n b) refl
  where
    Kind_with : Option ℕ → Kind
    Kind_with o = unwrap_or (option_map (λ v. kind_by (nat_eq v 0) (nat_eq v (ones n))) o) kind.Neither

    by : (o : Option ℕ) → constant_word n b ≡ o → IsConstantForm n b
    by None e = absurd (h (ap Kind_with e))
    by (Some v) e = record {
      there = sym (constant_any n b) ∙ ap is_some e;
      word = v;
      is = e;
      zeros = λ k. kind_zero v (nat_eq v 0) (nat_eq v (ones n)) refl (sym (ap Kind_with e) ∙ k);
      ones = λ k. kind_ones v (ones n) (nat_eq v 0) (nat_eq v (ones n)) refl (sym (ap Kind_with e) ∙ k);
    }

-- a frame has the word of a constant's line
constant_says : (full : List FullLine) (f : ℕ → ℕ) (id v : ℕ) (b : Body) (minuses : List Bool) → is_some (constant_word 0 b) ≡ true → constant_word (width_of full id) b ≡ Some v → LineSays full f id (form b minuses) → f id ≡ v
constant_says full f id v (body.Zero s) minuses there e h = h ∙ same_Some _ v e
constant_says full f id v (body.One s) minuses there e h = h ∙ same_Some _ v e
constant_says full f id v (body.Ones s) minuses there e h = h ∙ same_Some _ v e
constant_says full f id v (body.Const s d u) minuses there e h = h ∙ same_Some _ v e
constant_says full f id v (body.Constd s u) minuses there e h = h ∙ same_Some _ v e
constant_says full f id v (body.Consth s d u) minuses there e h = h ∙ same_Some _ v e
constant_says full f id v _ minuses there e h = absurd (cc)

plain_word : (full : List FullLine) (f : ℕ → ℕ) (o : Operand) → o.minus ≡ false → operand_word full f o ≡ f o.id
plain_word full f o minus = ap (λ (b : Bool). cond b (unary_value unary.Not (width_of full o.id) (f o.id)) (f o.id)) minus

form_of : (n : ℕ) (b : Says) → (kind_of n b ≡ kind.Neither → ⊥) → (c : Body) × (minuses : List Bool) × (b ≡ form c minuses)
form_of n (form c minuses) h = (c, minuses, refl)
form_of n _ h = absurd (h refl)

-- the value of an init is a constant, whose node is one of the same word
pub record ConstantStands (full : List FullLine) (w : Writing) (o : Operand) : Type 0 where
  pub word : ℕ
  pub node : constant_of w.items (node_at full w o.id) ≡ Some word
  pub width : node_width w.items (node_at full w o.id) ≡ Some (width_of full o.id)
  pub value : Settled full w (λ p wide. InFrames wide (λ g. operand_word full (read_by p g) o ≡ word))
  pub zeros : kind_at full o.id ≡ kind.Zero → word ≡ 0
  pub ones : kind_at full o.id ≡ kind.Ones → word ≡ ones (width_of full o.id)

pub constant_stands : (full : List FullLine) (w : Writing) (o : Operand) → IsFullModel full → NodesStand full w → HasItsNode full w o → o.minus ≡ false → (kind_at full o.id ≡ kind.Neither → ⊥) → ConstantStands full w o
constant_stands full w o m h has minus constant = record {
  word = known.word;
  node = own word;
  width = line.width ∙ ap (λ (i : ℕ). Some (width_of full i)) (sym at.same);
  value = λ p wide g state input f is given frame.
      plain_word full (read_by p f) o minus
      ∙ ap (λ (i : ℕ). f (p.node i)) at.same
      ∙ constant_says full (read_by p f) at.line.id known.word parts.0 parts.1 known.there word
      (subst (λ (b : Says). LineSays full (read_by p f) at.line.id b) parts.2 (line.carried p wide g (g.nodes (place_of full o.id) at.line at.at has.given) state input f is given frame));
  zeros = λ e. known.zeros (sym kinds ∙ e);
  ones = λ e. known.ones (sym kinds ∙ e);
}
  where
    at : NodeLine full o.id
    at = node_line full o.id has.there

    line : LineStands full w at.line (at_place w.leaves (place_of full o.id)) (at_place w.nodes (place_of full o.id))
    line = h.lines (place_of full o.id) at.line at.at has.given

    found : find_line full o.id ≡ Some at.line
    found = ap (find_line full) at.same ∙ all_get (λ (y : FullLine). find_line full y.id ≡ Some y) full (place_of full o.id) at.line (each_found full m) at.at

    kind_line : kind_at full o.id ≡ kind_of (width_of full o.id) at.line.says
    kind_line = ap (λ (l : Option FullLine). unwrap_or (option_map (λ (x : FullLine). kind_of (width_of full o.id) x.says) l) kind.Neither) found

    parts : (c : Body) × (minuses : List Bool) × (at.line.says ≡ form c minuses)
    parts = form_of (width_of full o.id) at.line.says (λ e. constant (kind_line ∙ e))

    kinds : kind_at full o.id ≡ kind_of_form (width_of full o.id) parts.0
    kinds = kind_line ∙ ap (kind_of (width_of full o.id)) parts.2

    known : IsConstantForm (width_of full o.id) parts.0
    known = constant_form (width_of full o.id) parts.0 (λ e. constant (kinds ∙ e))

    word : constant_word (width_of full at.line.id) parts.0 ≡ Some known.word
    word = ap (λ (i : ℕ). constant_word (width_of full i) parts.0) (sym at.same) ∙ known.is

    own : {v : ℕ} → constant_word (width_of full at.line.id) parts.0 ≡ Some v → constant_of w.items (node_at full w o.id) ≡ Some v
    own e = (let c : IsConstantOf full w at.line.id (form parts.0 parts.1) (at_place w.nodes (place_of full o.id)) = subst (λ (b : Says). IsConstantOf full w at.line.id b (at_place w.nodes (place_of full o.id))) parts.2 line.constant in c known.there) ∙ e

-- ---- the constants that states begin with

pub constant_first : (full : List FullLine) (w : Writing) (id : ℕ) (o : Operand) → IsFullModel full → NodesStand full w → HasItsNode full w o → init_of full id ≡ Some o → way_of full id ≡ way.Constant
    → (sort_of_node full o.id ≡ sort_of_node full id) ⊎ (sort_of_node full o.id ≡ element_sort (sort_of_node full id)) → IsFirstConstant full w id o (node_at full w o.id)
constant_first full w id o m h has init is sorts =
    let reads : IsAsItIs full id o way.Constant = way_as full id o way.Constant is init (λ e. absurd (cc)) in
    let by = by_constant (kind_at full o.id) (is_words (sort_of_node full id)) reads.by in
    let own = constant_stands full w o m h has reads.minus by.1 in
    let same = words_same (sort_of_node full id) (sort_of_node full o.id) own.word sorts by.0 has.there in
    record {
      word = own.word;
      begins = own.node;
      width = own.width ∙ ap (λ (s : Option Sort). Some (size_of s)) same.0;
      constant = λ p wide g state input f is given frame. ap (in_each_cell (sort_of_node full id) (sort_of_node full o.id)) (own.value p wide g state input f is given frame) ∙ same.1;
    }

pub zeros_first : (full : List FullLine) (w : Writing) (items : List Item) (id : ℕ) (o : Operand) (a : ℕ) → IsFullModel full → NodesStand full w → HasItsNode full w o → init_of full id ≡ Some o → way_of full id ≡ way.Zeros
    → (sort_of_node full o.id ≡ sort_of_node full id) ⊎ (sort_of_node full o.id ≡ element_sort (sort_of_node full id)) → Grows full w items
    → constant_of items a ≡ Some 0 → node_width items a ≡ Some (width_of full id) → IsFirstConstant full (with_items w items) id o a
zeros_first full w items id o a m h has init is sorts grows none width =
    let reads : IsAsItIs full id o way.Zeros = way_as full id o way.Zeros is init (λ e. absurd (cc)) in
    let by = by_zeros (kind_at full o.id) (is_words (sort_of_node full id)) reads.by in
    let own = constant_stands full w o m h has reads.minus (λ e. let apart : kind.Zero ≡ kind.Neither = sym by.1 ∙ e in absurd (cc)) in
    record {
      word = 0;
      begins = none;
      width = width;
      constant = settled_on full w items (λ p wide. InFrames wide (λ g. first_word full (read_by p g) id o ≡ 0)) grows
          (λ p wide g state input f is given frame.
          ap (in_each_cell (sort_of_node full id) (sort_of_node full o.id)) (own.value p wide g state input f is given frame ∙ own.zeros by.1) ∙ cells_zero (sort_of_node full id) (sort_of_node full o.id) sorts);
    }

pub ones_first : (full : List FullLine) (w : Writing) (items : List Item) (id : ℕ) (o : Operand) (a : ℕ) → IsFullModel full → NodesStand full w → HasItsNode full w o → init_of full id ≡ Some o → way_of full id ≡ way.Ones
    → (sort_of_node full o.id ≡ sort_of_node full id) ⊎ (sort_of_node full o.id ≡ element_sort (sort_of_node full id)) → Grows full w items
    → constant_of items a ≡ Some (ones (width_of full id)) → node_width items a ≡ Some (width_of full id) → IsFirstConstant full (with_items w items) id o a
ones_first full w items id o a m h has init is sorts grows all width =
    let reads : IsAsItIs full id o way.Ones = way_as full id o way.Ones is init (λ e. absurd (cc)) in
    let by = by_ones (kind_at full o.id) (is_words (sort_of_node full id)) reads.by in
    let own = constant_stands full w o m h has reads.minus (λ e. let apart : kind.Ones ≡ kind.Neither = sym by.1 ∙ e in absurd (cc)) in
    record {
      word = ones (width_of full id);
      begins = all;
      width = width;
      constant = settled_on full w items (λ p wide. InFrames wide (λ g. first_word full (read_by p g) id o ≡ ones (width_of full id))) grows
          (λ p wide g state input f is given frame.
          ap (in_each_cell (sort_of_node full id) (sort_of_node full o.id)) (own.value p wide g state input f is given frame ∙ own.ones by.1) ∙ cells_ones (sort_of_node full id) (sort_of_node full o.id) sorts by.0 has.there);
    }
