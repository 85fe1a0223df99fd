use Rattle.std.proofs.Common.{◌≡◌, length, ap, sym, ◌∙◌}
use Rattle.std.specs.List.{flat_map}
use Rattle.base.proofs.RowLemmas.{all_values, lengths_by_ends}
use Rattle.base.proofs.rows.Rows.with_values.Goals as goal

pub invariant_of-result : goal.invariant_of-result
invariant_of-result g c =
    let ends : c.in_ok-ends.ends.items ≡ c.self.inside.ends.items = c.in_ok-ends.ensures ∙ c.deref.ensures.value in
    let as_many : length c.args.values.items ≡ length c.self.inside.values.items = c.requires ∙ ap length (ap (flat_map (λ row. row)) (sym c.self.view_is) ∙ all_values c.self.inside.ends.items c.self.inside.values.items c.self.invariant) in
    rw (ends, as_many) c.self.invariant

pub returns-clause-values : goal.returns-clause-values
returns-clause-values g c =
    let ends : c.in_ok-ends.ends.items ≡ c.self.inside.ends.items = c.in_ok-ends.ensures ∙ c.deref.ensures.value in
    let as_many : length c.args.values.items ≡ length c.self.inside.values.items = c.requires ∙ ap length (ap (flat_map (λ row. row)) (sym c.self.view_is) ∙ all_values c.self.inside.ends.items c.self.inside.values.items c.self.invariant) in
    rw ends (all_values c.self.inside.ends.items c.args.values.items (rw as_many c.self.invariant))

pub returns-clause-lengths : goal.returns-clause-lengths
returns-clause-lengths g c =
    let ends : c.in_ok-ends.ends.items ≡ c.self.inside.ends.items = c.in_ok-ends.ensures ∙ c.deref.ensures.value in
    let as_many : length c.args.values.items ≡ length c.self.inside.values.items = c.requires ∙ ap length (ap (flat_map (λ row. row)) (sym c.self.view_is) ∙ all_values c.self.inside.ends.items c.self.inside.values.items c.self.invariant) in
    rw (← c.self.view_is, ends) (lengths_by_ends 0 c.self.inside.ends.items c.self.inside.values.items c.args.values.items c.self.invariant as_many)
