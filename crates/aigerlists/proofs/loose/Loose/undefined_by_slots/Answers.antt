use Rattle.std.proofs.Common.{◌≡◌, ℕ, List, length, nat_le, sym, ap, ◌∙◌}
use Rattle.std.specs.List.{list_all}
use Rattle.aigerlists.specs.declared.loose.GateLine.{GateLine}
use Rattle.aigerlists.specs.Loose.{Loose}
use Rattle.aigerlists.proofs.UndefinedLemmas.{undefined_by_slots}
use Rattle.aigerlists.proofs.loose.Loose.undefined_by_slots.Goals as goal

pub returns-then-are_within : goal.returns-then-are_within
returns-then-are_within c =
    let l : Loose = c.args.self.now in
    let slots : List ℕ = c.args.slots.now in
    let few : length c.gates.result.now ≡ length l.gates = ap (λ (lines : List GateLine). length lines) c.gates.ensures.items in
    c.undefined_with.ensures
    ∙ undefined_by_slots l
    (ap (λ (xs : List ℕ). list_all (λ slot. nat_le slot (length l.gates)) xs) (sym c.requires) ∙ (ap (λ (most : ℕ). list_all (λ slot. nat_le slot most) slots) (sym few) ∙ (sym c.are_within.ensures ∙ c.if-are_within.true)))
