-- A line without a value by what is read of it.
use Rattle.std.proofs.Common.{◌≡◌, ℕ, suc, zero, ◌+◌, ◌<◌, Bool, true, false, List, [], ◌∷◌, length, map, get_or, slice_get, take, Some, is_some, Vec, Global, refl, sym, ap, subst, ◌∙◌, arith}
use Rattle.btor2.specs.declared.item.Item.{Item}
use Rattle.btor2.specs.declared.item.Body.{Body}
use Rattle.btor2.specs.declared.item.Body.TheVariants as body
use Rattle.btor2.specs.Items.{operands}
use Rattle.full.specs.Lines.{Operand, operand, form, FullLine, is_form, words, sort_of_node, find_line}
use Rattle.full.specs.Agreement.{IsFullModel}
use Rattle.fullmodel.specs.declared.line.Line.{Line}
use Rattle.fullmodel.specs.declared.line.Says.{Says as Kept}
use Rattle.fullmodel.specs.declared.line.Says.TheVariants as kept
use Rattle.fullmodel.specs.Lines.{says_of, line_of}
use Rattle.wide.specs.declared.constant.Spelling.{Spelling}
use Rattle.wide.specs.declared.constant.Spelling.TheVariants as spelling
use Rattle.wide.specs.Lines.{constant_body, number_of_digits}
use Rattle.full.specs.Runs.{at_place}
use Rattle.writeout.specs.declared.way.Way.TheVariants as way
use Rattle.writeout.specs.Ways.{way_of}
use Rattle.writeout.specs.Forms.{minus_at}
use Rattle.writeout.specs.Needs.{place_of}
use Rattle.writeout.specs.Writings.{Writing, with_items}
use Rattle.writeout.specs.Nodes.{NodesStand}
use Rattle.writeout.specs.Leaves.{leaf_at}
use Rattle.writeout.specs.LateLines.{is_late, StandsAt, HasItsNode, TakesInit, TakesNext, IsFirstConstant, PutBehind, IsNextOf, IsShown, InitIsPut}
use Rattle.writeout.proofs.PlaceLemmas.{node_line}
use Rattle.writeout.proofs.ConstantLemmas.{constant_first}
use Rattle.writeout.proofs.ReadyLemmas.{init_ready, next_ready, shown_ready}
use Rattle.writeout.proofs.DoneLemmas.{init_done, next_done, bad_done, constraint_done, output_done}

-- ---- the line at a place

line_got : (lines : List Line) (k : ℕ) (d x : Line) → k < length (map line_of lines) → x ≡ get_or lines k d → slice_get (map line_of lines) k ≡ Some (line_of x)
line_got [] k d x h e = absurd (omega (arith, h))
line_got (y ∷ ys) zero d x h e = ap (λ (z : Line). Some (line_of z)) (sym e)
line_got (y ∷ ys) (suc k) d x h e = line_got ys k d x (omega (arith, h)) e

pub line_at : (full : List FullLine) (lines : List Line) (k : ℕ) (x : Line) → map line_of lines ≡ full → k < length full → x ≡ get_or lines k x → slice_get full k ≡ Some (line_of x)
line_at full lines k x same within is = subst (λ (l : List FullLine). slice_get l k ≡ Some (line_of x)) same (line_got lines k x x (subst (λ (l : List FullLine). k < length l) (sym same) within) is)

-- a line of a form, with an operand of it
pub record FormAt (full : List FullLine) (k : ℕ) (x : FullLine) (b : Body) (minuses : List Bool) : Type 0 where
  pub model : IsFullModel full
  pub is : slice_get full k ≡ Some x
  pub says : x.says ≡ form b minuses

pub record OperandBy (o : Operand) (v : ℕ) (minuses : List Bool) (place : ℕ) : Type 0 where
  pub is : o ≡ operand v (minus_at minuses place)

-- ---- what each asks for

pub init_takes : (full : List FullLine) (w : Writing) (k : ℕ) (x : FullLine) (s t v : ℕ) (minuses : List Bool) (o : Operand) → FormAt full k x (body.Init s t v) minuses → OperandBy o v minuses 1 → StandsAt full (take k full) w → TakesInit full w t o
init_takes full w k x s t v minuses o at by h = subst (λ (p : Operand). TakesInit full w t p) (sym by.is) (init_ready full w k x s t v minuses at.model h at.is at.says)

pub next_takes : (full : List FullLine) (w : Writing) (k : ℕ) (x : FullLine) (s t v : ℕ) (minuses : List Bool) (o : Operand) → FormAt full k x (body.Next s t v) minuses → OperandBy o v minuses 1 → StandsAt full (take k full) w → TakesNext full w t o
next_takes full w k x s t v minuses o at by h = subst (λ (p : Operand). TakesNext full w t p) (sym by.is) (next_ready full w k x s t v minuses at.model h at.is at.says)

pub shown_has : (full : List FullLine) (w : Writing) (k : ℕ) (x : FullLine) (b : Body) (a : ℕ) (minuses : List Bool) (o : Operand) → FormAt full k x b minuses → operands b ≡ a ∷ [] → OperandBy o a minuses 0 → StandsAt full (take k full) w → HasItsNode full w o
shown_has full w k x b a minuses o at only by h = subst (λ (p : Operand). HasItsNode full w p) (sym by.is) (shown_ready full (take k full) w k x b a minuses at.model h at.is at.says only)

pub bit_by : (full : List FullLine) (a : ℕ) (minuses : List Bool) (o : Operand) → OperandBy o a minuses 0 → sort_of_node full a ≡ Some (words 1) → sort_of_node full o.id ≡ Some (words 1)
bit_by full a minuses o by h = ap (λ (p : Operand). sort_of_node full p.id) by.is ∙ h

-- ---- what stands then

pub init_stands : (full : List FullLine) (w : Writing) (items : List Item) (k : ℕ) (x : FullLine) (s t v : ℕ) (minuses : List Bool) (o : Operand) → FormAt full k x (body.Init s t v) minuses → OperandBy o v minuses 1 → StandsAt full (take k full) w
    → InitIsPut full w items t o → StandsAt full (take (k + 1) full) (with_items w items)
init_stands full w items k x s t v minuses o at by h put = init_done full w items k x s t v minuses at.model at.is at.says h (subst (λ (p : Operand). InitIsPut full w items t p) by.is put)

pub next_stands : (full : List FullLine) (w : Writing) (items : List Item) (k : ℕ) (x : FullLine) (s t v : ℕ) (minuses : List Bool) (o : Operand) → FormAt full k x (body.Next s t v) minuses → OperandBy o v minuses 1 → StandsAt full (take k full) w
    → PutBehind full w items (IsNextOf full o (leaf_at full w t)) → StandsAt full (take (k + 1) full) (with_items w items)
next_stands full w items k x s t v minuses o at by h put =
    next_done full w items k x s t v minuses at.model at.is at.says h (subst (λ (p : Operand). PutBehind full w items (IsNextOf full p (leaf_at full w t))) by.is put)

pub bad_stands : (full : List FullLine) (w : Writing) (items : List Item) (k : ℕ) (x : FullLine) (a : ℕ) (minuses : List Bool) (o : Operand) → FormAt full k x (body.Bad a) minuses → OperandBy o a minuses 0 → StandsAt full (take k full) w
    → PutBehind full w items (IsShown full o (λ n. body.Bad n)) → StandsAt full (take (k + 1) full) (with_items w items)
bad_stands full w items k x a minuses o at by h put = bad_done full w items k x a minuses at.is at.says h (subst (λ (p : Operand). PutBehind full w items (IsShown full p (λ n. body.Bad n))) by.is put)

pub constraint_stands : (full : List FullLine) (w : Writing) (items : List Item) (k : ℕ) (x : FullLine) (a : ℕ) (minuses : List Bool) (o : Operand) → FormAt full k x (body.Constraint a) minuses → OperandBy o a minuses 0 → StandsAt full (take k full) w
    → PutBehind full w items (IsShown full o (λ n. body.Constraint n)) → StandsAt full (take (k + 1) full) (with_items w items)
constraint_stands full w items k x a minuses o at by h put = constraint_done full w items k x a minuses at.is at.says h (subst (λ (p : Operand). PutBehind full w items (IsShown full p (λ n. body.Constraint n))) by.is put)

pub output_stands : (full : List FullLine) (w : Writing) (items : List Item) (k : ℕ) (x : FullLine) (a : ℕ) (minuses : List Bool) (o : Operand) → FormAt full k x (body.Output a) minuses → OperandBy o a minuses 0 → StandsAt full (take k full) w
    → PutBehind full w items (IsShown full o (λ n. body.Output n)) → StandsAt full (take (k + 1) full) (with_items w items)
output_stands full w items k x a minuses o at by h put = output_done full w items k x a minuses at.is at.says h (subst (λ (p : Operand). PutBehind full w items (IsShown full p (λ n. body.Output n))) by.is put)

-- ---- the node of an init's value

pub constant_node : (full : List FullLine) (w : Writing) (t : ℕ) (o : Operand) (a : ℕ) → IsFullModel full → NodesStand full w → TakesInit full w t o → (is_some (find_line full o.id) ≡ true → a ≡ at_place w.nodes (place_of full o.id))
    → way_of full t ≡ way.Constant → IsFirstConstant full w t o a
constant_node full w t o a m h takes is constant =
    subst (λ (n : ℕ). IsFirstConstant full w t o n) (sym (is (node_line full o.id takes.value.there).there)) (constant_first full w t o m h takes.value takes.init constant takes.sorts)

-- ---- lines that say nothing here

pub no_late_body : (b : Body) → ((s t v : ℕ) → b ≡ body.Init s t v → ⊥) → ((s t v : ℕ) → b ≡ body.Next s t v → ⊥) → ((a : ℕ) → b ≡ body.Bad a → ⊥) → ((a : ℕ) → b ≡ body.Constraint a → ⊥) → ((a : ℕ) → b ≡ body.Output a → ⊥)
    → is_late b ≡ false
no_late_body (body.Init s t v) init next bad constraint output = absurd (init s t v refl)
no_late_body (body.Next s t v) init next bad constraint output = absurd (next s t v refl)
no_late_body (body.Bad a) init next bad constraint output = absurd (bad a refl)
no_late_body (body.Constraint a) init next bad constraint output = absurd (constraint a refl)
no_late_body (body.Output a) init next bad constraint output = absurd (output a refl)
no_late_body _ init next bad constraint output = refl

constant_late : (p : Spelling) (s count n : ℕ) → is_late (constant_body p s count n) ≡ false
constant_late spelling.Binary s count n = refl
constant_late spelling.Decimal s count n = refl
constant_late spelling.Negative s count n = refl
constant_late spelling.Hexadecimal s count n = refl

pub no_late_form : (x : Kept) → ((b : Body) (minuses : Vec Bool Global) → x ≡ kept.Form b minuses → ⊥) → is_form is_late (says_of x) ≡ false
no_late_form (kept.Form b minuses) h = absurd (h b minuses refl)
no_late_form (kept.Constant s p count number) h = constant_late p s count (number_of_digits number.items)
no_late_form (kept.ArraySort index element) h = refl
no_late_form (kept.Read s array index) h = refl
no_late_form (kept.Write s array index word) h = refl
