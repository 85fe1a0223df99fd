-- The cells of the leaves of a model are such as a list is split by that it is written out as.
use Rattle.std.proofs.Common.{◌≡◌, ℕ, Bool, true, false, cond, List, [], ◌∷◌, ◌++◌, map, Option, Some, None, IfSome, option_and_then, refl, sym, ap, subst, ◌∙◌, arith}
use Rattle.std.specs.List.{AllByRecursion, AllZip}
use Rattle.btor2.specs.declared.item.Item.{Item}
use Rattle.btor2.specs.declared.item.Body.{Body}
use Rattle.btor2.specs.declared.item.Body.TheVariants as body
use Rattle.btor2.specs.Items.{is_input, is_state}
use Rattle.btor2.specs.Trace.{bits_of}
use Rattle.fitting.specs.Models.{input_ids, state_ids}
use Rattle.full.specs.Lines.{Says, form, FullLine, Sort, words, arrays, find_line, is_form, lines_of, full_ids, sort_of, size_of, width_of}
use Rattle.full.specs.WrittenOut.{Places, one_id, LeafIsWritten, IsFirstAlone, IsWrittenOut}
use Rattle.full.proofs.ListLemmas.{all_with, all_both}
use Rattle.full.proofs.FullLookUps.{each_found}
use Rattle.celled.specs.Celled.{IsWordOfCells, AreCells}
use Rattle.celled.specs.Written.{cell_bits, leaf_cells}

word_of_cells : (s : Option Sort) → IsWordOfCells (size_of s) (cell_bits s)
word_of_cells (Some (words n)) = (0, omega arith)
word_of_cells (Some (arrays k n)) = (k, refl)
word_of_cells None = (0, omega arith)

-- a leaf that has as many bits as the value of its line
abbrev HasBits : List FullLine → List Item → (ℕ → ℕ) → FullLine → Type 0
HasBits full wide place x = bits_of wide (place x.id) ≡ size_of (sort_of full x.says)

kind_cells : (full : List FullLine) (wide : List Item) (place : ℕ → ℕ) (kind : Body → Bool) (xs : List FullLine) → AllByRecursion (λ (x : FullLine). is_form kind x.says ≡ true → HasBits full wide place x) xs
    → AllZip (λ id n. IsWordOfCells (bits_of wide id) n) (map place (full_ids kind xs)) (map (λ (x : FullLine). cell_bits (sort_of full x.says)) (lines_of kind xs))
kind_cells full wide place kind [] h = tt
kind_cells full wide place kind (x ∷ xs) h = by (is_form kind x.says) refl (kind_cells full wide place kind xs h.1)
  where
    by : (b : Bool) → is_form kind x.says ≡ b → AllZip (λ id n. IsWordOfCells (bits_of wide id) n) (map place (full_ids kind xs)) (map (λ (x : FullLine). cell_bits (sort_of full x.says)) (lines_of kind xs))
        → AllZip (λ id n. IsWordOfCells (bits_of wide id) n) (map place (map (λ (y : FullLine). y.id) (cond b (x ∷ lines_of kind xs) (lines_of kind xs)))) (map (λ (x : FullLine). cell_bits (sort_of full x.says)) (cond b (x ∷ lines_of kind xs) (lines_of kind xs)))
    by true e rest = (subst (λ (n : ℕ). IsWordOfCells n (cell_bits (sort_of full x.says))) (sym (h.0 e)) (word_of_cells (sort_of full x.says)), rest)
    by false e rest = rest

pub own_width : (full : List FullLine) (x : FullLine) → find_line full x.id ≡ Some x → width_of full x.id ≡ size_of (sort_of full x.says)
own_width full x e = ap (λ (o : Option FullLine). size_of (option_and_then (λ (y : FullLine). sort_of full y.says) o)) e

pub input_at : (full : List FullLine) (p : Places) (wide : List Item) (id : ℕ) (b : Says) → is_form is_input b ≡ true → LeafIsWritten full p wide id b → bits_of wide (p.node id) ≡ width_of full id
input_at full p wide id (form (body.Input s) minuses) is h = h.1
input_at full p wide id (form _ minuses) is h = absurd (cc)
input_at full p wide id _ is h = absurd (cc)

pub state_at : (full : List FullLine) (p : Places) (wide : List Item) (id : ℕ) (b : Says) → is_form is_state b ≡ true → LeafIsWritten full p wide id b → bits_of wide (p.leaf id) ≡ width_of full id
state_at full p wide id (form (body.State s) minuses) is h = h.bits
state_at full p wide id (form _ minuses) is h = absurd (cc)
state_at full p wide id _ is h = absurd (cc)

zip_join : {A B : Type 0} (P : A → B → Type 0) (as' more : List A) (bs rest : List B) → AllZip P as' bs → AllZip P more rest → AllZip P (as' ++ more) (bs ++ rest)
zip_join P [] more [] rest h k = k
zip_join P [] more (b ∷ bs) rest h k = absurd h
zip_join P (a ∷ as') more [] rest h k = absurd h
zip_join P (a ∷ as') more (b ∷ bs) rest h k = (h.0, zip_join P as' more bs rest h.1 k)

first_cells : (full : List FullLine) (p : Places) (wide : List Item) (o : Option ℕ) → IfSome o (IsFirstAlone full p wide) → AllZip (λ id n. IsWordOfCells (bits_of wide id) n) (one_id o) (map (λ w. 1) (one_id o))
first_cells full p wide None h = tt
first_cells full p wide (Some w) h = ((0, h.bit ∙ omega arith), tt)

module _ (full : List FullLine) (p : Places) (wide : List Item) (h : IsWrittenOut full p wide) where
  known : AllByRecursion (λ (x : FullLine). (find_line full x.id ≡ Some x) × LeafIsWritten full p wide x.id x.says) full
  known = all_both (λ (x : FullLine). find_line full x.id ≡ Some x) (λ (x : FullLine). LeafIsWritten full p wide x.id x.says) full (each_found full h.agrees) h.leaves

  pub inputs_are_cells : AreCells wide (input_ids wide) (leaf_cells is_input full)
  inputs_are_cells =
      subst (λ (ids : List ℕ). AreCells wide ids (leaf_cells is_input full)) h.inputs
      (kind_cells full wide p.node is_input full
      (all_with (λ (x : FullLine). (find_line full x.id ≡ Some x) × LeafIsWritten full p wide x.id x.says) (λ (x : FullLine). is_form is_input x.says ≡ true → HasBits full wide p.node x) full
      (λ x both is. input_at full p wide x.id x.says is both.1 ∙ own_width full x both.0) known))

  pub states_are_cells : AreCells wide (state_ids wide) (leaf_cells is_state full ++ map (λ w. 1) (one_id p.first))
  states_are_cells =
      subst (λ (ids : List ℕ). AreCells wide ids (leaf_cells is_state full ++ map (λ w. 1) (one_id p.first))) h.states
      (zip_join (λ id n. IsWordOfCells (bits_of wide id) n) (map p.leaf (full_ids is_state full)) (one_id p.first) (leaf_cells is_state full) (map (λ w. 1) (one_id p.first))
      (kind_cells full wide p.leaf is_state full
      (all_with (λ (x : FullLine). (find_line full x.id ≡ Some x) × LeafIsWritten full p wide x.id x.says) (λ (x : FullLine). is_form is_state x.says ≡ true → HasBits full wide p.leaf x) full
      (λ x both is. state_at full p wide x.id x.says is both.1 ∙ own_width full x both.0) known))
      (first_cells full p wide p.first h.first))
