use Rattle.std.proofs.Common.{◌≡◌, ℕ, None, true, is_some, subst, sym, ap, ◌∙◌}
use Rattle.full.specs.Lines.{sort_of_node, width_of}
use Rattle.writeout.specs.Tables.{writing}
use Rattle.writeout.specs.Nodes.{IsMade}
use Rattle.writeout.proofs.LineLemmas.{form_valued}
use Rattle.writeout.proofs.OperandLemmas.{ok_with}
use Rattle.writeout.proofs.NodeLemmas.{FormReady, ready_sound, ready_made, made_behind}
use Rattle.writeout.proofs.nodes.form_node.Goals as goal

pub sort-requires-clause-least : goal.sort-requires-clause-least
sort-requires-clause-least g c =
    c.width.ensures.least (subst (λ (n : ℕ). is_some (sort_of_node c.args.full.now n) ≡ true) c.requires.1.1.1.1.0 (form_valued c.args.full.now g.line c.args.body.now c.args.minuses.now c.know.ensures.model c.requires.1.1.1.0 c.requires.1.1.1.1.1.0 c.requires.1.0))

pub put-requires-clause-sound : goal.put-requires-clause-sound
put-requires-clause-sound g c =
    let w = writing c.args.tables.now c.form_operands.new.maker in
    let three = c.in_ok-three.three in
    let ready : FormReady c.args.full.now w g.line c.args.body.now c.args.minuses.now three.x three.y three.z = record {
      model = c.know.ensures.model;
      line = c.requires.1.1.1.0;
      says = c.requires.1.1.1.1.1.0;
      value = c.requires.1.0;
      stands = c.in_ok-three.ensures.stands;
      at0 = c.in_ok-three.ensures.x;
      at1 = c.in_ok-three.ensures.y;
      at2 = c.in_ok-three.ensures.z;
    } in
    ready_sound c.args.full.now w c.sort.new.self g.line c.args.body.now c.renamed.result c.args.minuses.now c.in_ok-sort.sort c.width.result three.x three.y three.z ready c.sort.ensures.extends c.in_ok-sort.ensures.sort
    (c.width.ensures.width ∙ ap (width_of c.args.full.now) (sym c.requires.1.1.1.1.0)) c.renamed.ensures

pub returns : goal.returns
returns g c =
    let w = writing c.args.tables.now c.form_operands.new.maker in
    let three = c.in_ok-three.three in
    let ready : FormReady c.args.full.now w g.line c.args.body.now c.args.minuses.now three.x three.y three.z = record {
      model = c.know.ensures.model;
      line = c.requires.1.1.1.0;
      says = c.requires.1.1.1.1.1.0;
      value = c.requires.1.0;
      stands = c.in_ok-three.ensures.stands;
      at0 = c.in_ok-three.ensures.x;
      at1 = c.in_ok-three.ensures.y;
      at2 = c.in_ok-three.ensures.z;
    } in
    ok_with _ (λ r. (leaf : ℕ) → IsMade c.args.full.now (writing c.args.tables.now c.args.maker.now) c.put.new.self g.line leaf r) c.put.result
    (λ id put leaf.
    made_behind c.args.full.now (writing c.args.tables.now c.args.maker.now) c.form_operands.new.maker c.put.new.self g.line leaf id c.in_ok-three.ensures.grows
    (ready_made c.args.full.now w c.sort.new.self c.put.new.self g.line c.args.body.now c.renamed.result c.args.minuses.now c.in_ok-sort.sort c.width.result three.x three.y three.z id None ready c.sort.ensures.extends c.in_ok-sort.ensures.sort
    (c.width.ensures.width ∙ ap (width_of c.args.full.now) (sym c.requires.1.1.1.1.0)) c.renamed.ensures put leaf))
    c.put.ensures.line
