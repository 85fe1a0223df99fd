-- What a list gets by one line without a value, and that no row refuses it.
use Rattle.std.proofs.Common.{◌≡◌, ◌⊎◌, inl, inr, ℕ, true, cond, eq-eqb, Bool, false, List, [], ◌∷◌, ◌++◌, Option, Some, None, is_some, refl, sym, ap, subst, ◌∙◌}
use Rattle.std.specs.List.{AllByRecursion}
use Rattle.btor2.specs.declared.item.Item.{Item}
use Rattle.btor2.specs.declared.item.Body.{Body}
use Rattle.btor2.specs.declared.item.Body.TheVariants as body
use Rattle.btor2.specs.Items.{find_item, node_width, node_sort, sort_width, constant_of, constant_word, names_state, init_value, next_value, operands}
use Rattle.btor2.proofs.AppendLemmas.{find_item-after, constant_of-append}
use Rattle.btor2.proofs.ConstantLemmas.{init_value-after}
use Rattle.full.specs.Lines.{Operand, FullLine, Sort, find_line, size_of, sort_of_node, width_of, init_of, next_of}
use Rattle.full.specs.Agreement.{is_words, element_sort, names_full_state}
use Rattle.full.specs.Runs.{first_word}
use Rattle.full.specs.WrittenOut.{InFrames, read_by, HasWord}
use Rattle.full.proofs.PlaceLemmas.{named_is}
use Rattle.cells.specs.Lines.{named, is_plain, Extends}
use Rattle.writeout.specs.declared.way.Way.TheVariants as way
use Rattle.writeout.specs.declared.way.Kind.{Kind}
use Rattle.writeout.specs.declared.way.Kind.TheVariants as kind
use Rattle.writeout.specs.Ways.{kind_at, way_by, way_with, way_of}
use Rattle.writeout.specs.Needs.{place_of}
use Rattle.writeout.specs.Writings.{Writing, IsOther, with_items, Grows}
use Rattle.writeout.specs.Nodes.{OperandStands, NodesStand}
use Rattle.writeout.specs.Leaves.{leaf_at}
use Rattle.writeout.specs.LateLines.{TakesInit, TakesNext, IsFirstConstant, PutBehind, IsInitOf, IsNextOf, InitIsPut}
use Rattle.writeout.proofs.GrowLemmas.{settled_on, operand_on, grows_on, nodes_on, width_on}
use Rattle.writeout.proofs.StepLemmas.{extends_grows, line_grows}
use Rattle.writeout.proofs.EndLemmas.{state_line}
use Rattle.writeout.proofs.LeafLemmas.{next_value-after, no_inits_of, no_nexts_of}
use Rattle.writeout.proofs.ConstantLemmas.{constant_last, width_last}

-- ---- states

pub state_there : (full : List FullLine) (id : ℕ) → names_full_state full id ≡ true → is_some (find_line full id) ≡ true
state_there full id names = ap is_some (named_is (find_line full id) names).1

-- the state of a state
pub record LeafKnown (full : List FullLine) (w : Writing) (id : ℕ) : Type 0 where
  pub state : names_state w.items (leaf_at full w id) ≡ true
  pub width : node_width w.items (leaf_at full w id) ≡ Some (width_of full id)

pub leaf_known : (full : List FullLine) (w : Writing) (id : ℕ) → NodesStand full w → names_full_state full id ≡ true → LeafKnown full w id
leaf_known full w id h names =
    let line = state_line full id names in
    let leaf = h.leaves (place_of full id) line.line line.at line.state in
    record { state = leaf.state; width = leaf.width ∙ ap (λ (i : ℕ). Some (width_of full i)) (sym line.same) }

init_free : (full : List FullLine) (w : Writing) (items : List Item) (leaf : ℕ) → Grows full w items → init_value w.items leaf ≡ None → init_value items leaf ≡ None
init_free full w items leaf g free = ap (λ (l : List Item). init_value l leaf) g.is ∙ init_value-after w.items g.more leaf free ∙ no_inits_of g.more leaf g.plain

next_free : (full : List FullLine) (w : Writing) (items : List Item) (leaf : ℕ) → Grows full w items → next_value w.items leaf ≡ None → next_value items leaf ≡ None
next_free full w items leaf g free = ap (λ (l : List Item). next_value l leaf) g.is ∙ next_value-after w.items g.more leaf free ∙ no_nexts_of g.more leaf g.plain

-- a sort more
sort_grows : (full : List FullLine) (w : Writing) (items : List Item) → NodesStand full w → Extends w.items items [] → Grows full w items
sort_grows full w items h e = extends_grows full w items [] h tt e

-- ---- a next line

pub record NextIsSound (items : List Item) (t v n : ℕ) : Type 0 where
  pub state : names_state items t ≡ true
  pub free : next_value items t ≡ None
  pub width : node_width items t ≡ Some n
  pub value : node_width items v ≡ Some n

pub next_sound : (full : List FullLine) (w : Writing) (one two : List Item) (t : ℕ) (o : Operand) (leaf a n : ℕ) → TakesNext full w t o → Grows full w one → NodesStand full (with_items w one) → OperandStands full (with_items w one) o a
    → Extends one two [] → leaf ≡ leaf_at full w t → n ≡ width_of full t → NextIsSound two leaf a n
next_sound full w one two t o leaf a n takes grows stands has e is width =
    let sort = sort_grows full (with_items w one) two stands e in
    let known = leaf_known full (with_items w two) t (nodes_on full (with_items w one) two sort stands) takes.state in
    record {
      state = ap (names_state two) is ∙ known.state;
      free = ap (next_value two) is ∙ next_free full w two (leaf_at full w t) (grows_on full w one two grows sort) takes.free;
      width = ap (node_width two) is ∙ known.width ∙ ap (λ (m : ℕ). Some m) (sym width);
      value = (operand_on full (with_items w one) two o a sort has).width ∙ ap (λ (s : Option Sort). Some (size_of s)) takes.sorts ∙ ap (λ (m : ℕ). Some m) (sym width);
    }

pub next_put : (full : List FullLine) (w : Writing) (one two items : List Item) (t : ℕ) (o : Operand) (id s leaf a : ℕ) (symbol : Option (List ℕ)) → Grows full w one → NodesStand full (with_items w one) → OperandStands full (with_items w one) o a
    → Extends one two [] → leaf ≡ leaf_at full w t → items ≡ two ++ named id symbol (body.Next s leaf a) ∷ [] → PutBehind full w items (IsNextOf full o (leaf_at full w t))
next_put full w one two items t o id s leaf a symbol grows stands has e is put =
    let sort = sort_grows full (with_items w one) two stands e in
    record {
      between = two;
      grows = grows_on full w one two grows sort;
      id = id;
      symbol = symbol;
      says = body.Next s leaf a;
      is = put;
      late = refl;
      of = record { sort = s; node = a; is = ap (λ (l : ℕ). body.Next s l a) is; word = settled_on full (with_items w one) two (λ p wide. HasWord full p wide o a) sort has.word };
    }

-- ---- an init line

pub record InitIsSound (items : List Item) (t v n word : ℕ) : Type 0 where
  pub state : names_state items t ≡ true
  pub constant : constant_of items v ≡ Some word
  pub free : init_value items t ≡ None
  pub width : node_width items t ≡ Some n
  pub value : node_width items v ≡ Some n

constant_grows : (full : List FullLine) (w : Writing) (items : List Item) (a v : ℕ) → Grows full w items → constant_of w.items a ≡ Some v → constant_of items a ≡ Some v
constant_grows full w items a v g h = ap (λ (l : List Item). constant_of l a) g.is ∙ constant_of-append w.items g.more a v h

pub init_sound : (full : List FullLine) (w : Writing) (two : List Item) (t : ℕ) (o : Operand) (leaf a n : ℕ) → TakesInit full w t o → NodesStand full w → (c : IsFirstConstant full w t o a) → Extends w.items two [] → leaf ≡ leaf_at full w t → n ≡ width_of full t
    → InitIsSound two leaf a n c.word
init_sound full w two t o leaf a n takes stands c e is width =
    let sort = sort_grows full w two stands e in
    let known = leaf_known full (with_items w two) t (nodes_on full w two sort stands) takes.state in
    record {
      state = ap (names_state two) is ∙ known.state;
      constant = constant_grows full w two a c.word sort c.begins;
      free = ap (init_value two) is ∙ init_free full w two (leaf_at full w t) sort takes.free;
      width = ap (node_width two) is ∙ known.width ∙ ap (λ (m : ℕ). Some m) (sym width);
      value = width_on full w two a (width_of full t) sort c.width ∙ ap (λ (m : ℕ). Some m) (sym width);
    }

pub init_put : (full : List FullLine) (w : Writing) (two items : List Item) (t : ℕ) (o : Operand) (id s leaf a : ℕ) (symbol : Option (List ℕ)) → NodesStand full w → IsFirstConstant full w t o a → Extends w.items two [] → leaf ≡ leaf_at full w t
    → items ≡ two ++ named id symbol (body.Init s leaf a) ∷ [] → PutBehind full w items (IsInitOf full t o (leaf_at full w t))
init_put full w two items t o id s leaf a symbol stands c e is put =
    let sort = sort_grows full w two stands e in
    record {
      between = two;
      grows = sort;
      id = id;
      symbol = symbol;
      says = body.Init s leaf a;
      is = put;
      late = refl;
      of = record {
        sort = s;
        node = a;
        is = ap (λ (l : ℕ). body.Init s l a) is;
        word = c.word;
        begins = constant_grows full w two a c.word sort c.begins;
        constant = settled_on full w two (λ p wide. InFrames wide (λ g. first_word full (read_by p g) t o ≡ c.word)) sort c.constant;
      };
    }

-- behind lines of nodes
pub put_later : (full : List FullLine) (w : Writing) (one items : List Item) (t : ℕ) (o : Operand) → Grows full w one → PutBehind full (with_items w one) items (IsInitOf full t o (leaf_at full w t)) → PutBehind full w items (IsInitOf full t o (leaf_at full w t))
put_later full w one items t o g put = record {
  between = put.between;
  grows = grows_on full w one put.between g put.grows;
  id = put.id;
  symbol = put.symbol;
  says = put.says;
  is = put.is;
  late = put.late;
  of = put.of;
}

pub takes_later : (full : List FullLine) (w : Writing) (one : List Item) (t : ℕ) (o : Operand) → Grows full w one → TakesInit full w t o → TakesInit full (with_items w one) t o
takes_later full w one t o g takes = record {
  state = takes.state;
  init = takes.init;
  value = record { there = takes.value.there; given = takes.value.given };
  sorts = takes.sorts;
  free = init_free full w one (leaf_at full w t) g takes.free;
}

-- a state that takes an init has a sort
pub init_sorted : (full : List FullLine) (w : Writing) (t : ℕ) (o : Operand) → TakesInit full w t o → is_some (sort_of_node full t) ≡ true
init_sorted full w t o takes = by (sort_of_node full t) takes.sorts
  where
    by : (s : Option Sort) → (sort_of_node full o.id ≡ s) ⊎ (sort_of_node full o.id ≡ element_sort s) → is_some s ≡ true
    by (Some s) h = refl
    by None (inl e) = sym (ap is_some e) ∙ takes.value.there
    by None (inr e) = sym (ap is_some e) ∙ takes.value.there

pub next_sorted : (full : List FullLine) (w : Writing) (t : ℕ) (o : Operand) → TakesNext full w t o → is_some (sort_of_node full t) ≡ true
next_sorted full w t o takes = ap is_some (sym takes.sorts) ∙ takes.value.there

-- ---- a constant

found_last : (items : List Item) (id : ℕ) (symbol : Option (List ℕ)) (b : Body) → find_item items id ≡ None → find_item (items ++ named id symbol b ∷ []) id ≡ Some (named id symbol b)
found_last items id symbol b none = find_item-after items (named id symbol b ∷ []) id none ∙ ap (λ (c : Bool). cond c (Some (named id symbol b)) None) (eq-eqb id id refl)

pub constant_put : (two items : List Item) (id : ℕ) (symbol : Option (List ℕ)) (b : Body) (s n m v : ℕ) → items ≡ two ++ named id symbol b ∷ [] → find_item two id ≡ None → node_sort b ≡ Some s → sort_width two s ≡ Some n → n ≡ m → constant_word m b ≡ Some v
    → constant_of items id ≡ Some v
constant_put two items id symbol b s n m v e none sort width same word =
    ap (λ (l : List Item). constant_of l id) e ∙ constant_last two id symbol b s n v (found_last two id symbol b none) sort width (ap (λ (k : ℕ). constant_word k b) same ∙ word)

pub width_put : (two items : List Item) (id : ℕ) (symbol : Option (List ℕ)) (b : Body) (s n m : ℕ) → items ≡ two ++ named id symbol b ∷ [] → find_item two id ≡ None → node_sort b ≡ Some s → sort_width two s ≡ Some n → n ≡ m
    → node_width items id ≡ Some m
width_put two items id symbol b s n m e none sort width same =
    ap (λ (l : List Item). node_width l id) e ∙ width_last two id symbol b s n (found_last two id symbol b none) sort width ∙ ap (λ (k : ℕ). Some k) same

pub constant_put_grows : (full : List FullLine) (w : Writing) (two items : List Item) (id : ℕ) (symbol : Option (List ℕ)) (b : Body) → NodesStand full w → Extends w.items two [] → items ≡ two ++ named id symbol b ∷ [] → is_plain b ≡ true → operands b ≡ [] → Grows full w items
constant_put_grows full w two items id symbol b stands e is plain none =
    grows_on full w two items (sort_grows full w two stands e)
    (line_grows full (with_items w two) items id symbol b is plain (subst (λ (l : List ℕ). AllByRecursion (IsOther w.first) l) (sym none) tt))

-- ---- the ways

-- the way of a state with an init line is another than that without one
with_init : (full : List FullLine) (t : ℕ) (o : Operand) (n : Option Operand) → way_with full t (Some o) n ≡ way.Open → ⊥
with_init full t o None e = absurd (cc)
with_init full t o (Some v) e = by o.minus (kind_at full o.id) (is_words (sort_of_node full t)) e
  where
    by : (m : Bool) (k : Kind) (b : Bool) → cond m way.First (way_by k b) ≡ way.Open → ⊥
    by true k b e = absurd (cc)
    by false kind.Zero true e = absurd (cc)
    by false kind.Zero false e = absurd (cc)
    by false kind.Ones true e = absurd (cc)
    by false kind.Ones false e = absurd (cc)
    by false kind.Other true e = absurd (cc)
    by false kind.Other false e = absurd (cc)
    by false kind.Neither b e = absurd (cc)

open_not : (full : List FullLine) (t : ℕ) (o : Operand) → init_of full t ≡ Some o → way_of full t ≡ way.Open → ⊥
unfolding way_of
open_not full t o init e = with_init full t o (next_of full t) (sym (ap (λ (i : Option Operand). way_with full t i (next_of full t)) init) ∙ e)

pub put_open : (full : List FullLine) (w : Writing) (items : List Item) (t : ℕ) (o : Operand) → TakesInit full w t o → (way_of full t ≡ way.Open) ⊎ (way_of full t ≡ way.First) → items ≡ w.items → InitIsPut full w items t o
put_open full w items t o takes (inl none) same = absurd (open_not full t o takes.init none)
put_open full w items t o takes (inr first) same = record { by_first = λ e. same; by_constant = λ other. absurd (other first) }

pub put_constant : (full : List FullLine) (w : Writing) (items : List Item) (t : ℕ) (o : Operand) → (way_of full t ≡ way.First → ⊥) → PutBehind full w items (IsInitOf full t o (leaf_at full w t)) → InitIsPut full w items t o
put_constant full w items t o other put = record { by_first = λ first. absurd (other first); by_constant = λ not_first. put }
