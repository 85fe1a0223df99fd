use Rattle.std.proofs.Common.{ℕ, List, map, ap, ◌∙◌}
use Rattle.aiger.specs.FlatNames.{at_places, with_flat_names}
use Rattle.aiger.proofs.NameLemmas.{shown_alike, same_entry}
use Rattle.aiger.proofs.names.NameKeeper.copy.Goals as goal

pub returns : goal.returns
returns c =
    ap (λ (names : List (ℕ × List ℕ)). with_flat_names (at_places names) (map (λ e. (e.0, e.1.items)) c.in_ok-others.others.entries)) c.in_ok-in_order.ensures
    ∙ (ap (with_flat_names (at_places c.self.inside.in_order)) (shown_alike (λ e. (e.0, e.1.items)) _ (λ x y r. same_entry x.0.0 x.0.1 y.0.0 y.0.1 x.1.items y.1.items r.0.0 r.0.1 r.1.0) c.self.inside.others.entries c.in_ok-others.others.entries c.in_ok-others.ensures.cases)
    ∙ c.self.view_is)
