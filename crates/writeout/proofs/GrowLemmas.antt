-- What stands of a writing stands when it grows.
use Rattle.std.proofs.lemmas.List.{length-set, get_or-set_same, get_or-set_other}
use Rattle.std.proofs.lemmas.Bool.Decides.{eqb_tells}
use Rattle.std.proofs.lemmas.Option.{unwrap_or-slice_get, slice_get_within, same_Some}
use Rattle.std.proofs.Common.{◌≢◌, ◌⊎◌, inl, inr, subst₂, ◌≡◌, ℕ, ◌<◌, true, false, List, [], ◌++◌, length, slice_get, set, Some, append_assoc, append-nil, sym, ap, subst, ◌∙◌, eqb}
use Rattle.btor2.specs.declared.item.Item.{Item}
use Rattle.btor2.specs.Items.{node_width}
use Rattle.full.specs.Lines.{Operand, Says, form, FullLine, width_of}
use Rattle.full.specs.Runs.{at_place}
use Rattle.full.specs.WrittenOut.{Places, OnlyChooses, HasWord}
use Rattle.full.proofs.ListLemmas.{all_join}
use Rattle.cells.specs.Lines.{is_plain}
use Rattle.writeout.specs.Writings.{Writing, IsGiven, HasAt, GoesOn, Settled, with_items, Grows}
use Rattle.writeout.specs.Nodes.{OperandStands, IsConstantOf, LineStands, LeafStands, NodesStand}
use Rattle.writeout.proofs.LongerLemmas.{Longer, goes_back, settled_longer, width_longer, leaf_longer, nodes_longer}

-- ---- lists that a writing may come to

-- what a writing grows by is lines behind it
longer : (full : List FullLine) (w : Writing) (items : List Item) → Grows full w items → Longer full w items
longer full w items g = record { more = g.more; is = g.is; only = g.only }

pub settled_on : (full : List FullLine) (w : Writing) (items : List Item) (Of : Places → List Item → Type 0) → Grows full w items → Settled full w Of → Settled full (with_items w items) Of
settled_on full w items Of g h = settled_longer full w items Of (longer full w items g) h

pub grows_by_nothing : (full : List FullLine) (w : Writing) → Grows full w w.items
grows_by_nothing full w = record { more = []; is = sym (append-nil w.items); plain = tt; only = λ given p wide g. tt }

pub grows_on : (full : List FullLine) (w : Writing) (items later : List Item) → Grows full w items → Grows full (with_items w items) later → Grows full w later
grows_on full w items later g h = record {
  more = g.more ++ h.more;
  is = h.is ∙ ap (λ (l : List Item). l ++ h.more) g.is ∙ append_assoc w.items g.more h.more;
  plain = all_join (λ (y : Item). is_plain y.body ≡ true) g.more h.more g.plain h.plain;
  only = λ given p wide on.
      all_join (λ (y : Item). OnlyChooses full p wide w.first y.body) g.more h.more
      (g.only given p wide (goes_back full (with_items w items) later h.more p wide h.is on))
      (h.only given p wide on);
}

-- ---- what stands

pub width_on : (full : List FullLine) (w : Writing) (items : List Item) (a n : ℕ) → Grows full w items → node_width w.items a ≡ Some n → node_width items a ≡ Some n
width_on full w items a n g e = width_longer full w items a n (longer full w items g) e

pub operand_on : (full : List FullLine) (w : Writing) (items : List Item) (o : Operand) (a : ℕ) → Grows full w items → OperandStands full w o a → OperandStands full (with_items w items) o a
operand_on full w items o a g h = record {
  width = width_on full w items a (width_of full o.id) g h.width;
  word = settled_on full w items (λ p wide. HasWord full p wide o a) g h.word;
  other = h.other;
}

pub leaf_on : (full : List FullLine) (w : Writing) (items : List Item) (x : FullLine) (leaf : ℕ) → Grows full w items → LeafStands full w x leaf → LeafStands full (with_items w items) x leaf
leaf_on full w items x leaf g h = leaf_longer full w items x leaf (longer full w items g) h

pub nodes_on : (full : List FullLine) (w : Writing) (items : List Item) → Grows full w items → NodesStand full w → NodesStand full (with_items w items)
nodes_on full w items g h = nodes_longer full w items (longer full w items g) h

-- ---- a node at a place

-- a list of numbers keeps those that it has
abbrev pub Keeps : List ℕ → List ℕ → Type 0
Keeps old new = (k : ℕ) → IsGiven (at_place old k) → at_place new k ≡ at_place old k

has_by : (full : List FullLine) (place : ℕ → ℕ) (old new : List ℕ) → Keeps old new → HasAt full place new → HasAt full place old
has_by full place old new keeps h k x is given = h k x is (subst (λ (n : ℕ). IsGiven n) (sym (keeps k given)) given) ∙ keeps k given

pub goes_with : (full : List FullLine) (w : Writing) (nodes : List ℕ) (p : Places) (wide : List Item) → Keeps w.nodes nodes → GoesOn full (record w { nodes = nodes }) p wide → GoesOn full w p wide
goes_with full w nodes p wide keeps g = record {
  more = g.more;
  is = g.is;
  model = g.model;
  nodes = has_by full p.node w.nodes nodes keeps g.nodes;
  leaves = g.leaves;
  first = g.first;
}

pub operand_with : (full : List FullLine) (w : Writing) (nodes : List ℕ) (o : Operand) (a : ℕ) → Keeps w.nodes nodes → OperandStands full w o a → OperandStands full (record w { nodes = nodes }) o a
operand_with full w nodes o a keeps h = record { width = h.width; word = λ p wide g. h.word p wide (goes_with full w nodes p wide keeps g); other = h.other }

pub line_with : (full : List FullLine) (w : Writing) (nodes : List ℕ) (x : FullLine) (leaf a : ℕ) → Keeps w.nodes nodes → LineStands full w x leaf a → LineStands full (record w { nodes = nodes }) x leaf a
line_with full w nodes x leaf a keeps h = record {
  width = h.width;
  carried = λ p wide g. h.carried p wide (goes_with full w nodes p wide keeps g);
  other = h.other;
  constant = constant_with full w nodes x.id x.says a h.constant;
  state = λ is. record {
    as_it_is = (h.state is).as_it_is;
    by_first = λ by o init.
        let own = (h.state is).by_first by o init in
        record { sort = own.sort; value = own.value; chooses = own.chooses; word = λ p wide g. own.word p wide (goes_with full w nodes p wide keeps g) };
  };
}
  where
    constant_with : (full : List FullLine) (w : Writing) (nodes : List ℕ) (id : ℕ) (b : Says) (a : ℕ) → IsConstantOf full w id b a → IsConstantOf full (record w { nodes = nodes }) id b a
    constant_with full w nodes id (form b minuses) a h = h
    constant_with full w nodes id _ a h = tt

-- the number at a place, of a list with one set
pub set_here : (numbers : List ℕ) (k n : ℕ) → k < length numbers → at_place (set numbers k n) k ≡ n
set_here numbers k n h = unwrap_or-slice_get (set numbers k n) k 0 ∙ get_or-set_same numbers k n 0 h

pub set_there : (numbers : List ℕ) (k j n : ℕ) → (j ≡ k → ⊥) → at_place (set numbers k n) j ≡ at_place numbers j
set_there numbers k j n h = unwrap_or-slice_get (set numbers k n) j 0 ∙ get_or-set_other numbers k j n 0 h ∙ sym (unwrap_or-slice_get numbers j 0)

given_not : (n m : ℕ) → IsGiven n → m ≡ 0 → n ≡ m → ⊥
given_not n m h e same = let zero_given : IsGiven 0 = subst (λ (k : ℕ). IsGiven k) (same ∙ e) h in absurd (cc)

pub keeps_set : (numbers : List ℕ) (k n : ℕ) → at_place numbers k ≡ 0 → Keeps numbers (set numbers k n)
keeps_set numbers k n none j given = set_there numbers k j n (λ same. given_not (at_place numbers j) (at_place numbers k) given none (ap (at_place numbers) same))

-- the line at a place has a node
pub nodes_set : (full : List FullLine) (w : Writing) (k : ℕ) (x : FullLine) (a : ℕ) → slice_get full k ≡ Some x → at_place w.nodes k ≡ 0 → LineStands full w x (at_place w.leaves k) a → NodesStand full w
    → NodesStand full (record w { nodes = set w.nodes k a })
nodes_set full w k x a is none own h = record {
  nodes_length = length-set w.nodes k a ∙ h.nodes_length;
  leaves_length = h.leaves_length;
  lines = λ j y at given. by j y at given (eqb_tells j k);
  leaves = λ j y at state.
      let leaf = h.leaves j y at state in
      record { given = leaf.given; width = leaf.width; state = leaf.state; other = leaf.other; first = leaf.first };
  first = λ given. record { width = (h.first given).width; within = (h.first given).within };
  only = λ given p wide g. h.only given p wide (goes_with full w (set w.nodes k a) p wide keeps g);
}
  where
    keeps : Keeps w.nodes (set w.nodes k a)
    keeps = keeps_set w.nodes k a none

    within : k < length w.nodes
    within = subst (λ (n : ℕ). k < n) (sym h.nodes_length) (slice_get_within full k x is)

    by : (j : ℕ) (y : FullLine) → slice_get full j ≡ Some y → IsGiven (at_place (set w.nodes k a) j) → ((eqb j k ≡ true) × (j ≡ k)) ⊎ ((eqb j k ≡ false) × (j ≢ k)) → LineStands full (record w { nodes = set w.nodes k a }) y (at_place w.leaves j) (at_place (set w.nodes k a) j)
    by j y at given (inl pair) =
        let same : j ≡ k = pair.1 in
        let here : at_place (set w.nodes k a) j ≡ a = ap (at_place (set w.nodes k a)) same ∙ set_here w.nodes k a within in
        let line : y ≡ x = same_Some y x (sym at ∙ ap (slice_get full) same ∙ is) in
        let own' = line_with full w (set w.nodes k a) x (at_place w.leaves k) a keeps own in
        subst (λ (n : ℕ). LineStands full (record w { nodes = set w.nodes k a }) y (at_place w.leaves j) n) (sym here)
        (subst₂ (λ (z : FullLine) (i : ℕ). LineStands full (record w { nodes = set w.nodes k a }) z (at_place w.leaves i) a) (sym line) (sym same) own')
    by j y at given (inr pair) =
        let there = set_there w.nodes k j a pair.1 in
        let old = h.lines j y at (subst (λ (n : ℕ). IsGiven n) there given) in
        subst (λ (n : ℕ). LineStands full (record w { nodes = set w.nodes k a }) y (at_place w.leaves j) n) (sym there)
        (line_with full w (set w.nodes k a) y (at_place w.leaves j) (at_place w.nodes j) keeps old)
