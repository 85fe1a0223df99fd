use Rattle.std.proofs.Common.{◌≡◌, length, ap, ◌∙◌, sym, Result, Ok, Err, IfOk, List, map}
use Rattle.std.specs.List.{flat_map}
use Rattle.base.proofs.RowLemmas.{all_values, rows_alike}
use Rattle.base.proofs.rows.Rows.copy.Goals as goal

pub with_values-requires : goal.with_values-requires
with_values-requires g c = rw (← c.self.view_is, c.in_ok-values.ensures, c.deref.ensures.value) (ap length (sym (all_values c.self.inside.ends.items c.self.inside.values.items c.self.invariant)))

pub returns : goal.returns
returns g c =
    let values : flat_map (λ row. row) c.args.self.now ≡ c.in_ok-values.values.items = ap (flat_map (λ row. row)) (sym c.self.view_is) ∙ all_values c.self.inside.ends.items c.self.inside.values.items c.self.invariant ∙ sym c.deref.ensures.value ∙ sym c.in_ok-values.ensures in
    alike c.with_values.result c.args.self.now c.in_ok-values.values.items values c.with_values.ensures.values c.with_values.ensures.lengths
  where
    alike : {T E : Type 0} (r : Result (List (List T)) E) (rows : List (List T)) (values : List T) → flat_map (λ row. row) rows ≡ values
        → IfOk r (λ x. flat_map (λ row. row) x ≡ values) → IfOk r (λ x. map length x ≡ map length rows) → IfOk r (λ x. x ≡ rows)
    alike (Ok x) rows values e v h = rows_alike x rows (v ∙ sym e) h
    alike (Err x) rows values e v h = tt
