use Rattle.std.proofs.Common.{◌≡◌, nat_eq, IfSome, slice_get, ap, subst, ◌∙◌}
use Rattle.std.specs.List.{position}
use Rattle.std.specs.HashMap.{keys}
use Rattle.std.proofs.lemmas.Iterator.Adapters.{position_from-zero}
use Rattle.full.specs.Lines.{find_line}
use Rattle.fullmodel.specs.Lines.{lines_in}
use Rattle.fullmodel.proofs.EntryLemmas.{found_at}
use Rattle.fullmodel.proofs.model.FullModel.position.Goals as goal

pub returns-clause-found : goal.returns-clause-found
returns-clause-found c =
    let xs = lines_in c.self.inside.lines.items in
    let place = c.get_index_of.ensures.index ∙ ap (λ n. position (nat_eq n) (keys c.self.inside.entries)) c.from.ensures ∙ ap (position (nat_eq c.args.id)) c.self.invariant.ids ∙ position_from-zero (nat_eq c.args.id) _ in
    subst (λ l. IfSome c.get_index_of.result (λ p. find_line l c.args.id ≡ slice_get l p)) c.self.view_is (found_at xs c.args.id c.get_index_of.result place)
