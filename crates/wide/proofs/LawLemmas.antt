-- The models of the profile are those of 64 bits.
use Rattle.std.proofs.Common.{◌≡◌, ℕ, ◌*◌, ◌^◌, Bool, not, ◌&&◌, nat_le, nat_lt, List, [], ◌∷◌, ◌++◌, take, drop, Option, Some, None, unwrap_or, option_and_then, refl, sym, ap, ap₂, ◌∙◌, arith}
use Rattle.std.proofs.lemmas.Bool.Decides.{nat_tests}
use Rattle.btor2.specs.declared.item.Item.{Item}
use Rattle.btor2.specs.declared.item.Body.{Body}
use Rattle.btor2.specs.declared.item.Body.TheVariants as body
use Rattle.btor2.specs.declared.fault.PushFault.{PushFault}
use Rattle.btor2.specs.declared.fault.PushFault.TheVariants as fault
use Rattle.btor2.specs.Items.{named_sort, sort_width}
use Rattle.btor2.specs.Check.{refusal, first_row, table, IsWellFormed, IsWellFormedAfter, width_is_out_of_range, constant_does_not_fit, constant_fits}
use Rattle.wide.specs.WideModels.{width_is_above, constant_fits_within, constant_is_above, wide_table, wide_refusal, IsWideAfter, IsWideModel}

same_width : (b : Body) → width_is_above 64 b ≡ width_is_out_of_range b
unfolding width_is_above width_is_out_of_range
same_width (body.Sort n) = refl
same_width _ = refl

four_times : (d : ℕ) → nat_le (4 * d) 67 ≡ nat_le d 16
four_times d = grind (arith, nat_tests)

same_fit : (n : ℕ) (b : Body) → constant_fits_within 64 n b ≡ constant_fits n b
same_fit n (body.Consth s d v) = ap (λ (c : Bool). nat_le 1 d && (c && (nat_lt v (2 ^ n) && nat_lt v (16 ^ d)))) (four_times d)
same_fit n _ = refl

same_constant : (items : List Item) (b : Body) → constant_is_above 64 items b ≡ constant_does_not_fit items b
unfolding constant_is_above constant_does_not_fit
same_constant items b = ap not (same_fit (unwrap_or (option_and_then (sort_width items) (named_sort b)) 0) b)

pub same_refusal : (items : List Item) (x : Item) → wide_refusal 64 items x ≡ refusal items x
unfolding wide_refusal refusal
same_refusal items x =
    ap₂ (λ (b c : Bool). first_row (take 6 (table items x) ++ (b, fault.WidthOutOfRange) ∷ take 2 (drop 7 (table items x)) ++ (c, fault.ConstantDoesNotFit) ∷ drop 10 (table items x)))
    (same_width x.body) (same_constant items x.body)

wide_after : (before rest : List Item) → IsWellFormedAfter before rest → IsWideAfter 64 before rest
wide_after before [] h = tt
wide_after before (x ∷ xs) h = (same_refusal before x ∙ h.0, wide_after (before ++ x ∷ []) xs h.1)

pub models_are : (items : List Item) → IsWellFormed items → IsWideModel 64 items
models_are items h = wide_after [] items h
