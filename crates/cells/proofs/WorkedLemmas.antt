-- Worked rows.
use Rattle.std.proofs.Common.{◌≡◌, true≢false, List, [], ◌∷◌, ◌++◌, inl, inr, ⊎_elim, refl, sym, subst, arith}
use Rattle.std.proofs.lemmas.Option.{none-some}
use Rattle.base.specs.declared.operators.Unary.TheVariants as unary
use Rattle.btor2.specs.declared.item.Item.{Item}
use Rattle.btor2.specs.declared.item.Body.TheVariants as body
use Rattle.btor2.specs.declared.fault.PushFault.TheVariants as fault
use Rattle.btor2.specs.Check.{sort_is_missing, operand_is_missing, state_is_none, slice_is_out_of_range, widths_differ, init_is_not_constant, is_second_init, is_second_next, justice_is_empty}
use Rattle.btor2.specs.Worked.{line}
use Rattle.wide.specs.WideModels.{width_is_above, constant_is_above}
use Rattle.cells.specs.Kept.{IsSound}
use Rattle.cells.specs.Lines.{ArePlain, NameOnly, IsNumbered, Extends}
use Rattle.cells.specs.Worked.{one_input}

abbrev negation : Item
negation = line 3 (body.Unary unary.Not 1 2)

abbrev leaf : Item
leaf = line 3 (body.Input 1)

pub negated : Extends one_input (one_input ++ negation ∷ []) (2 ∷ [])
negated = record { more = negation ∷ []; is = refl; plain = (refl, tt); names = ((inr (inl refl), tt), tt) }

-- what follows is one line
one_more : (x : Item) (more : List Item) → one_input ++ x ∷ [] ≡ one_input ++ more → x ∷ [] ≡ more
one_more x more e = cc

pub not_handed : Extends one_input (one_input ++ negation ∷ []) [] → ⊥
not_handed e =
    let names = subst (NameOnly 2 []) (sym (one_more negation e.more e.is)) e.names in
    ⊎_elim (λ behind. absurd (omega (arith, behind))) (λ among. absurd among) names.0.0

pub no_leaf : Extends one_input (one_input ++ leaf ∷ []) [] → ⊥
no_leaf e =
    let plain = subst ArePlain (sym (one_more leaf e.more e.is)) e.plain in
    true≢false (sym plain.0)

pub numbered : IsNumbered one_input
numbered = (refl, (refl, tt))

pub not_numbered : IsNumbered (line 2 (body.Sort 1) ∷ []) → ⊥
not_numbered h = let other = h.0 in absurd (omega (arith, other))

pub sound : IsSound [] (body.Sort 1)
unfolding IsSound sort_is_missing operand_is_missing state_is_none width_is_above slice_is_out_of_range widths_differ constant_is_above init_is_not_constant is_second_init is_second_next justice_is_empty
sound = refl

pub not_sound : IsSound [] (body.Input 1) → ⊥
unfolding IsSound sort_is_missing
not_sound h = none-some fault.NoSuchSort (sym h)
