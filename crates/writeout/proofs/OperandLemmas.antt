-- Which nodes have the words of operands.
use Rattle.std.proofs.Common.{◌≡◌, ℕ, Bool, true, false, not, List, Some, is_some, Result, Ok, Err, IfOk, sym, ap, subst, ◌∙◌}
use Rattle.base.specs.declared.operators.Unary.TheVariants as unary
use Rattle.base.specs.Operator.{unary_value}
use Rattle.btor2.specs.declared.item.Item.{Item}
use Rattle.btor2.specs.Items.{node_width}
use Rattle.btor2.specs.Trace.{Frame}
use Rattle.full.specs.Lines.{operand, plain, FullLine, find_line, sort_of_node, width_of}
use Rattle.full.specs.Runs.{at_place}
use Rattle.full.specs.Gives.{GivesWord}
use Rattle.full.specs.WrittenOut.{Places, HasWord}
use Rattle.full.proofs.GivesLemmas.{gives_kept, plain_operand, minus_operand}
use Rattle.cells.specs.Lines.{IsNew}
use Rattle.writeout.specs.Needs.{place_of}
use Rattle.writeout.specs.Writings.{Writing, IsGiven, IsOther, GoesOn, with_items}
use Rattle.writeout.specs.Nodes.{OperandStands, LineStands, NodesStand}
use Rattle.writeout.proofs.PlaceLemmas.{NodeLine, node_line}
use Rattle.writeout.proofs.StepLemmas.{new_is_other}

-- ---- results

pub ok_with : {A E : Type 0} (P Q : A → Type 0) (r : Result A E) → ((x : A) → P x → Q x) → IfOk r P → IfOk r Q
ok_with P Q (Ok x) f h = f x h
ok_with P Q (Err e) f h = tt

pub ok_with₂ : {A E : Type 0} (P Q R : A → Type 0) (r : Result A E) → ((x : A) → P x → Q x → R x) → IfOk r P → IfOk r Q → IfOk r R
ok_with₂ P Q R (Ok x) f h k = f x h k
ok_with₂ P Q R (Err e) f h k = tt

pub ok_any : {A E : Type 0} (P : Type 0) (r : Result A E) → P → IfOk r (λ x. P)
ok_any P (Ok x) h = h
ok_any P (Err e) h = tt

-- ---- lists that go on

pub gives_on : (full : List FullLine) (w : Writing) (p : Places) (wide : List Item) (bits : ℕ) (value : Frame → ℕ) (r : ℕ) → GoesOn full w p wide → GivesWord w.items bits value r → GivesWord wide bits value r
gives_on full w p wide bits value r g h = subst (λ (l : List Item). GivesWord l bits value r) (sym g.is) (gives_kept w.items g.more bits value r h)

-- ---- the line of an operand

-- it has a node that stands
pub record OperandLine (full : List FullLine) (w : Writing) (id a : ℕ) : Type 0 where
  pub width : node_width w.items a ≡ Some (width_of full id)
  pub other : IsOther w.first a
  pub place : (p : Places) (wide : List Item) (items : List Item) → GoesOn full (with_items w items) p wide → p.node id ≡ a

pub operand_line : (full : List FullLine) (w : Writing) (id a : ℕ) → NodesStand full w → is_some (sort_of_node full id) ≡ true → IsGiven (at_place w.nodes (place_of full id))
    → (is_some (find_line full id) ≡ true → a ≡ at_place w.nodes (place_of full id)) → OperandLine full w id a
operand_line full w id a h node given is = record {
  width = subst (λ (n : ℕ). node_width w.items n ≡ Some (width_of full id)) (sym here) (line.width ∙ ap (λ (i : ℕ). Some (width_of full i)) (sym own.same));
  other = subst (λ (n : ℕ). IsOther w.first n) (sym here) line.other;
  place = λ p wide items g. ap p.node own.same ∙ g.nodes (place_of full id) own.line own.at given ∙ sym here;
}
  where
    own : NodeLine full id
    own = node_line full id node

    here : a ≡ at_place w.nodes (place_of full id)
    here = is own.there

    line : LineStands full w own.line (at_place w.leaves (place_of full id)) (at_place w.nodes (place_of full id))
    line = h.lines (place_of full id) own.line own.at given

pub plain_stands : (full : List FullLine) (w : Writing) (id a : ℕ) → OperandLine full w id a → OperandStands full w (plain id) a
plain_stands full w id a h = record {
  width = h.width;
  word = λ p wide g. subst (HasWord full p wide (plain id)) (h.place p wide w.items g) (plain_operand full p wide id);
  other = h.other;
}

pub plainly_stands : (full : List FullLine) (w : Writing) (id a : ℕ) (minus : Bool) → not minus ≡ true → OperandLine full w id a → OperandStands full w (operand id minus) a
plainly_stands full w id a true h line = absurd (cc)
plainly_stands full w id a false h line = plain_stands full w id a line

pub minus_stands : (full : List FullLine) (w : Writing) (items : List Item) (id a bits : ℕ) (minus : Bool) (r : ℕ) → not minus ≡ false → NodesStand full w → OperandLine full w id a → bits ≡ width_of full id
    → GivesWord items bits (λ g. unary_value unary.Not bits (g a)) r → IsNew w.items items r → OperandStands full (with_items w items) (operand id minus) r
minus_stands full w items id a bits false r neg h line same gives new = absurd (cc)
minus_stands full w items id a bits true r neg h line same gives new = record {
  width = gives.width ∙ ap (λ (n : ℕ). Some n) same;
  word = λ p wide g.
      minus_operand full p wide id bits r g.model (sym same)
      (subst (λ (n : ℕ). GivesWord wide bits (λ g. unary_value unary.Not bits (g n)) r) (sym (line.place p wide items g)) (gives_on full (with_items w items) p wide bits (λ g. unary_value unary.Not bits (g a)) r g gives));
  other = new_is_other full w r h new.0;
}
