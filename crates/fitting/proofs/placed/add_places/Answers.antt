use Rattle.std.proofs.Common.{ℕ, List, ◌∷◌, [], ◌++◌, ◌∙◌, sym, ap, subst₂}
use Rattle.std.specs.List.{AllZip}
use Rattle.btor2.specs.declared.item.Item.{Item}
use Rattle.pieces.specs.declared.node.Node.{Node}
use Rattle.fitting.specs.Fitted.{node_ids}
use Rattle.fitting.specs.Laid.{HasPlace, AreThere}
use Rattle.fitting.specs.Tables.{table_of}
use Rattle.fitting.proofs.PlaceLemmas.{words_there, laid, no_memory}
use Rattle.fitting.proofs.placed.add_places.Goals as goal

pub node_places-requires : goal.node_places-requires
node_places-requires g c =
    let f = c.args.fitter.now in
    subst₂ (λ (items : List Item) (ps : List Node). AreThere items ps) (sym c.model.ensures) (sym c.word.ensures) (words_there g.wide (table_of f) f.maker c.args.node c.requires.0 c.requires.1)

pub returns-in_default-clause-refused : goal.returns-in_default-clause-refused
returns-in_default-clause-refused g c = no_memory g.wide c.args.node c.requires.1

pub returns-in-Ok-push-clause-laid : goal.returns-in-Ok-push-clause-laid
returns-in-Ok-push-clause-laid g c =
    let f = c.args.fitter.now in
    let at = subst₂ (λ (items : List Item) (ps : List Node). AllZip (HasPlace items) (node_ids ps) c.in-Ok.row.items) c.model.ensures c.word.ensures c.in-Ok.ensures in
    (c.in-Ok.row.items, c.in-Ok-push.ensures.ok ∙ ap (λ (row : List ℕ). c.args.places.now ++ row ∷ []) c.as_slice.ensures.value, laid g.wide (table_of f) f.maker c.args.node c.in-Ok.row.items c.requires.0 c.requires.1 at)

pub returns-clause-refused : goal.returns-clause-refused
returns-clause-refused g c = no_memory g.wide c.args.node c.requires.1
