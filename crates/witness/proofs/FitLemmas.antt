-- What is read over a model fits it.
use Rattle.std.proofs.Common.{◌≡◌, ℕ, ◌<◌, ◌≤◌, ◌==◌, Bool, true, false, List, [], ◌∷◌, ◌++◌, length, set, inl, inr, sym, ap, ◌∙◌, arith}
use Rattle.std.specs.List.{list_any}
use Rattle.std.proofs.lemmas.Bool.{cases_eq, eq-eqb, ne_eqb}
use Rattle.std.proofs.lemmas.List.{length-map, get_or-set_same, get_or-set_other}
use Rattle.std.proofs.lemmas.List.Folds.{list_any-append}
use Rattle.std.proofs.Math.Bool.{or-true, or-false}
use Rattle.std.proofs.lemmas.List.Sums.{length-filter, count_by-le-length}
use Rattle.btor2.specs.declared.item.Item.{Item}
use Rattle.btor2.specs.declared.item.Body.{Body}
use Rattle.btor2.specs.Items.{is_bad, is_input, is_state}
use Rattle.btor2.specs.Check.{IsWellFormed}
use Rattle.btor2.specs.Trace.{bits_of}
use Rattle.btor2.proofs.ModelLemmas.{few_items}
use Rattle.witness.specs.Texts.{shape_of}
use Rattle.witness.specs.Fits.{is_set}
use Rattle.btor2.specs.Lists.{of_kind}
use Rattle.witness.proofs.ReadLemmas.{IsSmall}

-- of a kind there are no more items than in all
few_of : (kind : Body → Bool) (items : List Item) → length (of_kind kind items) ≤ length items
few_of kind items = omega (arith, length-filter (λ (x : Item). kind x.body) items, count_by-le-length (λ (x : Item). kind x.body) items)

-- a model's shape is small
pub shape_is_small : (items : List Item) → IsWellFormed items → IsSmall (shape_of items)
shape_is_small items w =
    record {
      bads = omega (arith, few_of is_bad items, few_items items w);
      states = omega (arith, few_of is_state items, few_items items w, length-map (of_kind is_state items) (λ (x : Item). bits_of items x.id));
      inputs = omega (arith, few_of is_input items, few_items items w, length-map (of_kind is_input items) (λ (x : Item). bits_of items x.id));
    }

-- a flag more is set, at the number of one more
pub flagged_more : {A : Type 0} (number : A → ℕ) (flags : List Bool) (list : List A) (a : A) → number a < length flags → ((k : ℕ) → is_set flags k ≡ list_any (λ x. number x == k) list)
    → (k : ℕ) → is_set (set flags (number a) true) k ≡ list_any (λ x. number x == k) (list ++ a ∷ [])
flagged_more number flags list a inside flagged k =
    sym
    (list_any-append (λ x. number x == k) list (a ∷ [])
    ∙ elim (cases_eq k (number a)) [
      | inl same ↦ rw (eq-eqb (number a) k (sym same)) (or-true (list_any (λ x. number x == k) list) ∙ sym (ap (is_set (set flags (number a) true)) same ∙ get_or-set_same flags (number a) true false inside))
      | inr other ↦
          rw (ne_eqb (number a) k (λ e. other (sym e)))
          (or-false (list_any (λ x. number x == k) list) ∙ (sym (flagged k) ∙ sym (get_or-set_other flags (number a) k true false other)))
    ])
