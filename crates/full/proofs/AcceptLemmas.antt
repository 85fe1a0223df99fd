-- A list of wide items is a model where computing says so.
use Rattle.std.proofs.Common.{◌≡◌, Bool, true, ◌&&◌, List, [], ◌∷◌, ◌++◌, Option, Some, None, is_none, refl}
use Rattle.std.proofs.lemmas.Bool.{and_parts}
use Rattle.btor2.specs.declared.item.Item.{Item}
use Rattle.btor2.specs.declared.fault.PushFault.{PushFault}
use Rattle.wide.specs.WideModels.{greatest_width, wide_refusal, IsWideAfter}

abbrev pub are_accepted : List Item → List Item → Bool
are_accepted before [] = true
are_accepted before (x ∷ xs) = is_none (wide_refusal greatest_width before x) && are_accepted (before ++ x ∷ []) xs

none_from : (o : Option PushFault) → is_none o ≡ true → o ≡ None
none_from None h = refl
none_from (Some e) h = absurd (cc)

pub accepted_by : (before rest : List Item) → are_accepted before rest ≡ true → IsWideAfter greatest_width before rest
accepted_by before [] h = tt
accepted_by before (x ∷ xs) h = let parts = and_parts (is_none (wide_refusal greatest_width before x)) _ h in (none_from (wide_refusal greatest_width before x) parts.0, accepted_by (before ++ x ∷ []) xs parts.1)
