use Rattle.std.proofs.Common.{refl, ◌≡◌, ℕ, ◌+◌, List, [], ◌∷◌, ◌++◌, map, length, ap, ◌∙◌, arith, length-append}
use Rattle.std.proofs.lemmas.List.{length-map}
use Rattle.std.specs.List.{position}
use Rattle.aigerlists.specs.Loose.{Loose, IsLoose}
use Rattle.aigerlists.specs.declared.loose.LatchLine.{LatchLine}
use Rattle.aigerlists.specs.Renumbering.{alone}
use Rattle.aigerlists.specs.Numbering.{is_unknown}
use Rattle.aigerlists.proofs.UndefinedLemmas.{unknown_nexts, few_justice, are_used_lines}
use Rattle.aigerlists.proofs.loose.Loose.undefined_with.Goals as goal

pub or_unknown-unknown-requires-4 : goal.or_unknown-unknown-requires-4
or_unknown-unknown-requires-4 c =
    let valid : IsLoose c.args.self.now = c.latches-count.ensures.valid in
    omega (arith, ap length c.latches-count.ensures.items, ap length c.outputs-2.ensures.items, ap length c.bads-2.ensures.items, ap length c.constraints-2.ensures.items, ap length c.justice_literals.ensures.items, few_justice c.args.self.now valid, valid.few.defined, valid.few.sections.outputs, valid.few.sections.bads, valid.few.sections.constraints)

pub or_unknown-unknown-requires-5 : goal.or_unknown-unknown-requires-5
or_unknown-unknown-requires-5 c =
    let valid : IsLoose c.args.self.now = c.latches-count.ensures.valid in
    omega (arith, ap length c.latches-count.ensures.items, ap length c.outputs-2.ensures.items, ap length c.bads-2.ensures.items, ap length c.constraints-2.ensures.items, ap length c.justice_literals-2.ensures.items, ap length c.fair.ensures.items, few_justice c.args.self.now valid, valid.few.defined, valid.few.sections.outputs, valid.few.sections.bads, valid.few.sections.constraints, valid.few.sections.fair)

pub or_unknown_gate-requires : goal.or_unknown_gate-requires
or_unknown_gate-requires c =
    let valid : IsLoose c.args.self.now = c.latches-count.ensures.valid in
    omega (arith, ap length c.latches-count.ensures.items, ap length c.outputs-2.ensures.items, ap length c.bads-2.ensures.items, ap length c.constraints-2.ensures.items, ap length c.justice_literals-2.ensures.items, ap length c.fair-2.ensures.items, few_justice c.args.self.now valid, valid.few.defined, valid.few.sections.outputs, valid.few.sections.bads, valid.few.sections.constraints, valid.few.sections.fair)

pub returns : goal.returns
returns c =
    let l : Loose = c.args.self.now in
    let a : List (List ℕ) = map (λ (line : LatchLine). line.next ∷ []) c.latches.result.now in
    let n0 : length c.latches-count.result.now ≡ length a = omega (arith, length-map c.latches.result.now (λ (line : LatchLine). line.next ∷ []), ap length c.latches.ensures.items, ap length c.latches-count.ensures.items) in
    let r0 = c.unknown_next-unknown.ensures ∙ unknown_nexts l c.latches.result.now in
    let b : List (List ℕ) = a ++ map alone c.outputs.result.now in
    let n1 : length c.latches-count.result.now + length c.outputs-2.result.now ≡ length b = omega (arith, n0, length-append a (map alone c.outputs.result.now), length-map c.outputs.result.now alone, ap length c.outputs.ensures.items, ap length c.outputs-2.ensures.items) in
    let r1 = c.or_unknown-unknown.ensures a r0 n0 in
    let d : List (List ℕ) = b ++ map alone c.bads.result.now in
    let n2 : length c.latches-count.result.now + length c.outputs-2.result.now + length c.bads-2.result.now ≡ length d = omega (arith, n1, length-append b (map alone c.bads.result.now), length-map c.bads.result.now alone, ap length c.bads.ensures.items, ap length c.bads-2.ensures.items) in
    let r2 = c.or_unknown-unknown-2.ensures b r1 n1 in
    let e : List (List ℕ) = d ++ map alone c.constraints.result.now in
    let n3 : length c.latches-count.result.now + length c.outputs-2.result.now + length c.bads-2.result.now + length c.constraints-2.result.now ≡ length e = omega (arith, n2, length-append d (map alone c.constraints.result.now), length-map c.constraints.result.now alone, ap length c.constraints.ensures.items, ap length c.constraints-2.ensures.items) in
    let r3 = c.or_unknown-unknown-3.ensures d r2 n2 in
    let f : List (List ℕ) = e ++ map alone c.justice_literals.result.now in
    let n4 : length c.latches-count.result.now + length c.outputs-2.result.now + length c.bads-2.result.now + length c.constraints-2.result.now + length c.justice_literals-2.result.now ≡ length f = omega (arith, n3, length-append e (map alone c.justice_literals.result.now), length-map c.justice_literals.result.now alone, ap length c.justice_literals.ensures.items, ap length c.justice_literals-2.ensures.items) in
    let r4 = c.or_unknown-unknown-4.ensures e r3 n3 in
    let g : List (List ℕ) = f ++ map alone c.fair.result.now in
    let n5 : length c.latches-count.result.now + length c.outputs-2.result.now + length c.bads-2.result.now + length c.constraints-2.result.now + length c.justice_literals-2.result.now + length c.fair-2.result.now ≡ length g = omega (arith, n4, length-append f (map alone c.fair.result.now), length-map c.fair.result.now alone, ap length c.fair.ensures.items, ap length c.fair-2.ensures.items) in
    let r5 = c.or_unknown-unknown-5.ensures f r4 n4 in
    let r6 = c.or_unknown_gate.ensures g r5 n5 in
    r6 ∙ ap (position (is_unknown l)) (are_used_lines l c.latches.result.now c.outputs.result.now c.bads.result.now c.constraints.result.now c.justice_literals.result.now c.fair.result.now c.args.gates.now c.args.gates.now c.latches.ensures.items c.outputs.ensures.items c.bads.ensures.items c.constraints.ensures.items c.justice_literals.ensures.items c.fair.ensures.items refl)
