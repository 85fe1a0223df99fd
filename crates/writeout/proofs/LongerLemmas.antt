-- What stands of a writing stands when any lines follow that make nothing of the state that is 1 in the first frame alone but choices.
use Rattle.std.proofs.Common.{◌≡◌, ℕ, ◌+◌, ◌≤◌, true, List, ◌++◌, length, Some, is_some, append_assoc, length-append, refl, sym, ap, subst, ◌∙◌, arith}
use Rattle.std.specs.List.{AllByRecursion}
use Rattle.btor2.specs.declared.item.Item.{Item}
use Rattle.btor2.specs.declared.item.Body.{Body}
use Rattle.btor2.specs.declared.item.Body.TheVariants as body
use Rattle.btor2.specs.Items.{node_width, names_state, constant_of, constant_word}
use Rattle.btor2.proofs.AppendLemmas.{find_item-append, node_width-append, names_state-append, constant_of-append, some_of}
use Rattle.full.specs.Lines.{Operand, Says, form, FullLine, width_of}
use Rattle.full.specs.Runs.{at_place}
use Rattle.full.specs.WrittenOut.{Places, Stands, OnlyChooses, IsCarried, HasFirstWord}
use Rattle.full.proofs.ListLemmas.{all_join}
use Rattle.writeout.specs.Writings.{Writing, GoesOn, Settled, with_items, OnlyChoose}
use Rattle.writeout.specs.Nodes.{IsChosen, IsConstantOf, LineStands, LeafStands, FirstStands, NodesStand}

-- ---- lists that a writing may come to

pub goes_back : (full : List FullLine) (w : Writing) (items more : List Item) (p : Places) (wide : List Item) → items ≡ w.items ++ more → GoesOn full (with_items w items) p wide → GoesOn full w p wide
goes_back full w items more p wide e g = record {
  more = more ++ g.more;
  is = g.is ∙ ap (λ (l : List Item). l ++ g.more) e ∙ append_assoc w.items more g.more;
  model = g.model;
  nodes = g.nodes;
  leaves = g.leaves;
  first = g.first;
}

pub stands_on : (items more : List Item) (a : ℕ) (b : Body) → Stands items a b → Stands (items ++ more) a b
stands_on items more a b h = (h.0, find_item-append items more a h.0 h.1, h.2)

-- the word of a constant by any width
pub constant_there : (m n : ℕ) (b : Body) → is_some (constant_word m b) ≡ true → is_some (constant_word n b) ≡ true
constant_there m n (body.Zero s) h = refl
constant_there m n (body.One s) h = refl
constant_there m n (body.Ones s) h = refl
constant_there m n (body.Const s d v) h = refl
constant_there m n (body.Constd s v) h = refl
constant_there m n (body.Consth s d v) h = refl
constant_there m n (body.Sort k) h = h
constant_there m n (body.Input s) h = h
constant_there m n (body.State s) h = h
constant_there m n (body.Uext s a by) h = h
constant_there m n (body.Sext s a by) h = h
constant_there m n (body.Slice s a u l) h = h
constant_there m n (body.Unary op s a) h = h
constant_there m n (body.Binary op s a b) h = h
constant_there m n (body.Concat s a b) h = h
constant_there m n (body.Ite s c t e) h = h
constant_there m n (body.Init s t v) h = h
constant_there m n (body.Next s t v) h = h
constant_there m n (body.Bad a) h = h
constant_there m n (body.Constraint a) h = h
constant_there m n (body.Fair a) h = h
constant_there m n (body.Output a) h = h
constant_there m n (body.Justice ns) h = h

-- ---- what stands

-- lines behind those of a writing
pub record Longer (full : List FullLine) (w : Writing) (items : List Item) : Type 0 where
  pub more : List Item
  pub is : items ≡ w.items ++ more
  pub only : OnlyChoose full (with_items w items) more

pub settled_longer : (full : List FullLine) (w : Writing) (items : List Item) (Of : Places → List Item → Type 0) → Longer full w items → Settled full w Of → Settled full (with_items w items) Of
settled_longer full w items Of g h p wide on = h p wide (goes_back full w items g.more p wide g.is on)

pub width_longer : (full : List FullLine) (w : Writing) (items : List Item) (a n : ℕ) → Longer full w items → node_width w.items a ≡ Some n → node_width items a ≡ Some n
width_longer full w items a n g e = subst (λ (l : List Item). node_width l a ≡ Some n) (sym g.is) (node_width-append w.items g.more a n e)

chosen_longer : (full : List FullLine) (w : Writing) (items : List Item) (id : ℕ) (o : Operand) (leaf a : ℕ) → Longer full w items → IsChosen full w id o leaf a → IsChosen full (with_items w items) id o leaf a
chosen_longer full w items id o leaf a g h = record {
  sort = h.sort;
  value = h.value;
  chooses = subst (λ (l : List Item). Stands l a (body.Ite h.sort w.first h.value leaf)) (sym g.is) (stands_on w.items g.more a (body.Ite h.sort w.first h.value leaf) h.chooses);
  word = settled_longer full w items (λ p wide. HasFirstWord full p wide id o h.value) g h.word;
}

constant_longer : (full : List FullLine) (w : Writing) (items : List Item) (id a : ℕ) (b : Says) → Longer full w items → IsConstantOf full w id b a → IsConstantOf full (with_items w items) id b a
constant_longer full w items id a (form b minuses) g h = λ there.
    let n = width_of full id in
    let word = some_of (constant_word n b) (constant_there 0 n b there) in
    subst (λ (l : List Item). constant_of l a ≡ constant_word n b) (sym g.is) (constant_of-append w.items g.more a word.0 (h there ∙ word.1) ∙ sym word.1)
constant_longer full w items id a _ g h = tt

line_longer : (full : List FullLine) (w : Writing) (items : List Item) (x : FullLine) (leaf a : ℕ) → Longer full w items → LineStands full w x leaf a → LineStands full (with_items w items) x leaf a
line_longer full w items x leaf a g h = record {
  width = width_longer full w items a (width_of full x.id) g h.width;
  carried = settled_longer full w items (λ p wide. p.node x.id ≡ a → IsCarried full p wide x) g h.carried;
  other = h.other;
  constant = constant_longer full w items x.id a x.says g h.constant;
  state = λ is. record {
    as_it_is = (h.state is).as_it_is;
    by_first = λ by o init. chosen_longer full w items x.id o leaf a g ((h.state is).by_first by o init);
  };
}

pub leaf_longer : (full : List FullLine) (w : Writing) (items : List Item) (x : FullLine) (leaf : ℕ) → Longer full w items → LeafStands full w x leaf → LeafStands full (with_items w items) x leaf
leaf_longer full w items x leaf g h = record {
  given = h.given;
  width = width_longer full w items leaf (width_of full x.id) g h.width;
  state = subst (λ (l : List Item). names_state l leaf ≡ true) (sym g.is) (names_state-append w.items g.more leaf h.state);
  other = h.other;
  first = h.first;
}

within_longer : (a b n : ℕ) → n ≤ a → n ≤ a + b
within_longer a b n h = omega arith

first_longer : (full : List FullLine) (w : Writing) (items : List Item) → Longer full w items → FirstStands w → FirstStands (with_items w items)
first_longer full w items g h = record {
  width = width_longer full w items w.first 1 g h.width;
  within = subst (λ (n : ℕ). w.first ≤ n) (sym (ap length g.is ∙ length-append w.items g.more)) (within_longer (length w.items) (length g.more) w.first h.within);
}

only_longer : (full : List FullLine) (w : Writing) (items : List Item) → Longer full w items → OnlyChoose full w w.items → OnlyChoose full (with_items w items) items
only_longer full w items g h given p wide on =
    subst (λ (l : List Item). AllByRecursion (λ (y : Item). OnlyChooses full p wide w.first y.body) l) (sym g.is)
    (all_join (λ (y : Item). OnlyChooses full p wide w.first y.body) w.items g.more
    (h given p wide (goes_back full w items g.more p wide g.is on))
    (g.only given p wide on))

pub nodes_longer : (full : List FullLine) (w : Writing) (items : List Item) → Longer full w items → NodesStand full w → NodesStand full (with_items w items)
nodes_longer full w items g h = record {
  nodes_length = h.nodes_length;
  leaves_length = h.leaves_length;
  lines = λ k x is given. line_longer full w items x (at_place w.leaves k) (at_place w.nodes k) g (h.lines k x is given);
  leaves = λ k x is state. leaf_longer full w items x (at_place w.leaves k) g (h.leaves k x is state);
  first = λ given. first_longer full w items g (h.first given);
  only = only_longer full w items g h.only;
}
