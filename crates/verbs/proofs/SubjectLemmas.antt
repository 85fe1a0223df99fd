-- The item with a number among those of a kind, by the list of their places.
use Rattle.std.proofs.Common.{◌≡◌, ℕ, zero, suc, Bool, true, false, cond, List, [], ◌∷◌, ◌++◌, Some, length, length-append, append_assoc, option_and_then, slice_get, refl, sym, ap, ◌∙◌, arith}
use Rattle.btor2.specs.declared.item.Item.{Item}
use Rattle.btor2.specs.declared.item.Body.{Body}
use Rattle.btor2.specs.Lists.{places, of_kind}
use Rattle.btor2.proofs.LeafLemmas.{item_behind}
use Rattle.verbs.specs.Subjects.{numbered_item}

numbered_from : (test : Body → Bool) (whole before xs : List Item) (at k : ℕ) → whole ≡ before ++ xs → length before ≡ at → slice_get (of_kind test xs) k ≡ option_and_then (slice_get whole) (slice_get (places test at xs) k)
numbered_from test whole before [] at k is e = refl
numbered_from test whole before (x ∷ xs) at k is e =
    by (test x.body) k (λ j. numbered_from test whole (before ++ x ∷ []) xs (suc at) j (is ∙ sym (append_assoc before (x ∷ []) xs)) (omega (arith, e, length-append before (x ∷ []))))
  where
    here : slice_get whole at ≡ Some x
    here = ap (λ (l : List Item). slice_get l at) is ∙ item_behind before xs x at e

    by : (b : Bool) (k : ℕ) → ((j : ℕ) → slice_get (of_kind test xs) j ≡ option_and_then (slice_get whole) (slice_get (places test (suc at) xs) j))
        → slice_get (cond b (x ∷ of_kind test xs) (of_kind test xs)) k ≡ option_and_then (slice_get whole) (slice_get (cond b (at ∷ places test (suc at) xs) (places test (suc at) xs)) k)
    by true zero rest = sym here
    by true (suc k) rest = rest k
    by false k rest = rest k

pub numbered : (test : Body → Bool) (items : List Item) (list : List ℕ) (k : ℕ) → list ≡ places test 0 items → numbered_item test items k ≡ option_and_then (slice_get items) (slice_get list k)
numbered test items list k e = numbered_from test items [] items 0 k refl refl ∙ ap (λ (l : List ℕ). option_and_then (slice_get items) (slice_get l k)) (sym e)
