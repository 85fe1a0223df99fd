use Rattle.std.proofs.Common.{◌≡◌, nat_eq, [], ◌∷◌, ap, ◌∙◌}
use Rattle.std.specs.Map.{keys_of}
use Rattle.std.proofs.lemmas.List.{map-append}
use Rattle.indexmap.proofs.CallerLemmas.{insert_entry-new}
use Rattle.fullmodel.proofs.model.push.add_entry.Goals as goal

pub returns-clause-last : goal.returns-clause-last
returns-clause-last c =
    ap keys_of (c.in-Ok.ensures.entries ∙ insert_entry-new nat_eq c.args.entries.now c.args.id c.args.entry c.requires.new) ∙ map-append (λ e. e.0) c.args.entries.now.entries ((c.args.id, c.args.entry) ∷ [])
