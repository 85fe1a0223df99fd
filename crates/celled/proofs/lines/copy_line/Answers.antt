use Rattle.std.proofs.Common.{ℕ, subst}
use Rattle.wide.specs.Lines.{item_of}
use Rattle.celled.specs.Spots.{spots_of}
use Rattle.celled.specs.Steps.{IsSpotted}
use Rattle.celled.proofs.SoundLemmas.{renamed_sound}
use Rattle.celled.proofs.CopyLemmas.{carried_facts}
use Rattle.celled.proofs.OnLemmas.{split_on}
use Rattle.celled.proofs.CopyStep.{copied_step}
use Rattle.celled.proofs.lines.copy_line.Goals as goal

pub put_copy-requires : goal.put_copy-requires
put_copy-requires g c =
    let t = spots_of c.args.table.now in
    let x = item_of c.args.line.now in
    renamed_sound g.at.front c.args.maker.now t.node x c.requires.1.0
    (carried_facts g.at.front c.args.maker.now t g.at.inputs g.at.states x c.args.size c.requires.0 c.know_list.ensures.model c.requires.1.0 c.requires.1.1.1)

pub returns : goal.returns
returns g c =
    let front = g.at.front in
    let t = spots_of c.args.table.now in
    let t' = spots_of c.put.new.self in
    let x = item_of c.args.line.now in
    let a = c.in_ok-node.node in
    let spots : IsSpotted t t' x.id a a 1 c.args.place = subst (λ (k : ℕ). IsSpotted t t' k a a 1 c.args.place) c.id_of.ensures (record {
      node_at = c.in_ok-put.ensures.node;
      first_at = c.in_ok-put.ensures.first;
      count_at = c.in_ok-put.ensures.count;
      line_at = c.in_ok-put.ensures.line;
    }) in
    split_on front t c.args.maker.now g.at.inputs g.at.states x c.args.size t' c.put_copy.new.maker c.requires.0
    (copied_step front t c.args.maker.now x a t' c.put_copy.new.maker c.args.place g.at.inputs g.at.states c.args.size
    (record {
      wide_model = c.requires.0.wide_model;
      model = c.know_list.ensures.model;
      stand = c.requires.0.stand;
      accepted = c.requires.1.0;
      put = c.in_ok-node.ensures;
      spots = spots;
      at = c.requires.1.1.0;
    })
    (record { split = c.requires.0; single = c.requires.1.1.1 }))
