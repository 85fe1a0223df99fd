use Rattle.std.proofs.Common.{◌≡◌, ◌<◌, List, length, slice_get, Some, ap, sym, refl, ◌∙◌, arith}
use Rattle.std.proofs.lemmas.Bool.Decides.{nat_tests}
use Rattle.std.proofs.lemmas.Option.{slice_get_read}
use Rattle.btor2.specs.declared.item.Item.{Item}
use Rattle.runs.proofs.PlaceLemmas.{operands_of}
use Rattle.runs.proofs.PropertyLemmas.{property_inside, property_stands, property_cases, slot_of_property}
use Rattle.runs.proofs.resolving.property_slot.Goals as goal
use Rattle.runs.proofs.resolving.property_slot.Goals.{In-Some}

-- the item at the place
at_place : (c : In-Some) → slice_get c.args.model.now c.args.place ≡ Some c.in-Some.item.now
at_place c =
    let inside : c.args.place < length c.items.result.now = grind (arith, nat_tests, c.in-Some.ensures.lookup.0) in
    ap (λ (l : List Item). slice_get l c.args.place) (sym c.items.ensures.items) ∙ slice_get_read c.items.result.now _ c.args.place c.in-Some.item.now refl inside c.in-Some.ensures.lookup.1

pub operand-requires-clause-there : goal.operand-requires-clause-there
operand-requires-clause-there c =
    (operands_of c.args.model.now c.args.place c.in-Some.item.now _ c.items.ensures.well_formed (at_place (goal.at.operand-requires-clause-there c).In-Some) c.in-Bad.is).0

pub operand-requires-in-Constraint-clause-there : goal.operand-requires-in-Constraint-clause-there
operand-requires-in-Constraint-clause-there c =
    (operands_of c.args.model.now c.args.place c.in-Some.item.now _ c.items.ensures.well_formed (at_place (goal.at.operand-requires-in-Constraint-clause-there c).In-Some) c.in-Constraint.is).0

pub unreachable-requires : goal.unreachable-requires
unreachable-requires c =
    property_cases c.in-Some.item.now.body (property_stands c.args.model.now c.args.place c.in-Some.item.now (at_place (goal.at.unreachable-requires c).In-Some) c.requires.property) c.in_default.not-Bad c.in_default.not-Constraint

pub unreachable-requires-in-None : goal.unreachable-requires-in-None
unreachable-requires-in-None c =
    let inside = property_inside c.args.model.now c.args.place c.requires.property in
    let same = ap (λ (l : List Item). length l) c.items.ensures.items in
    grind (arith, nat_tests, c.in-None.ensures.lookup, inside, same)

pub returns-in-Bad : goal.returns-in-Bad
returns-in-Bad c = c.operand.ensures.place ∙ slot_of_property c.args.model.now c.args.place c.in-Some.item.now _ (at_place (goal.at.returns-in-Bad c).In-Some) c.in-Bad.is refl

pub returns-in-Constraint : goal.returns-in-Constraint
returns-in-Constraint c =
    c.operand-in-Constraint.ensures.place ∙ slot_of_property c.args.model.now c.args.place c.in-Some.item.now _ (at_place (goal.at.returns-in-Constraint c).In-Some) c.in-Constraint.is refl
