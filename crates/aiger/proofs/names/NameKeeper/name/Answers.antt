use Rattle.std.proofs.Common.{◌≡◌, None, Some, ap, map, refl, sym, ◌∙◌, ℕ, Vec, Global}
use Rattle.std.proofs.lemmas.Map.Made.{lookup-map_values}
use Rattle.std.specs.BTreeMap.{is_at}
use Rattle.std.specs.Map.{lookup}
use Rattle.aiger.specs.Names.{place_cmp}
use Rattle.aiger.specs.FlatNames.{at_places}
use Rattle.aiger.proofs.PlacedNameLemmas.{lookup-other, lookup-in_order}
use Rattle.aiger.proofs.names.NameKeeper.name.Goals as goal

pub returns-in-Some : goal.returns-in-Some
returns-in-Some c =
    let here : lookup (is_at (place_cmp (c.rank_of.result, c.args.position))) (map (λ e. (e.0, e.1.items)) c.self.inside.others.entries) ≡ Some c.as_slice.result.now = rw (lookup-map_values (λ (v : Vec ℕ Global). v.items), ← c.in-Some.ensures.value) (ap Some (sym c.as_slice.ensures.value)) in
    rw (← c.self.view_is, ← c.rank_of.ensures) (sym (lookup-other (c.rank_of.result, c.args.position) (at_places c.self.inside.in_order) (map (λ e. (e.0, e.1.items)) c.self.inside.others.entries) c.as_slice.result.now here))

pub returns-in-None : goal.returns-in-None
returns-in-None c =
    let none : lookup (is_at (place_cmp (c.rank_of.result, c.args.position))) (map (λ e. (e.0, e.1.items)) c.self.inside.others.entries) ≡ None = rw (lookup-map_values (λ (v : Vec ℕ Global). v.items), ← c.in-None.ensures.value) refl in
    rw (← c.self.view_is, ← c.rank_of.ensures) (c.name_in_order.ensures ∙ sym (lookup-in_order (c.rank_of.result, c.args.position) (at_places c.self.inside.in_order) (map (λ e. (e.0, e.1.items)) c.self.inside.others.entries) none))
