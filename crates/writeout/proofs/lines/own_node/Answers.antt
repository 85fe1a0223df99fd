use Rattle.std.proofs.Common.{◌≡◌, ℕ, None, true, is_some, subst, sym, ap, ◌∙◌, []}
use Rattle.wide.specs.Lines.{constant_body, number_of_digits}
use Rattle.full.specs.Lines.{sort_of_node, width_of}
use Rattle.writeout.specs.Tables.{writing}
use Rattle.writeout.specs.Nodes.{IsMade}
use Rattle.writeout.proofs.LineLemmas.{form_valued}
use Rattle.writeout.proofs.OperandLemmas.{ok_with}
use Rattle.writeout.proofs.NodeLemmas.{ready_sound, ready_made}
use Rattle.writeout.proofs.WholeLemmas.{constant_value, constant_ready, constant_renamed}
use Rattle.writeout.proofs.lines.own_node.Goals as goal

pub sort-requires-clause-least : goal.sort-requires-clause-least
sort-requires-clause-least g c =
    let b = constant_body c.args.spelling c.requires.1.1.1.0 c.args.count (number_of_digits c.args.number.items) in
    c.width.ensures.least (subst (λ (n : ℕ). is_some (sort_of_node c.args.full.now n) ≡ true) c.requires.1.1.0
    (form_valued c.args.full.now g.line b [] c.know.ensures.model c.requires.1.0 c.requires.1.1.1.1 (constant_value c.args.spelling c.requires.1.1.1.0 c.args.count (number_of_digits c.args.number.items))))

pub put_constant-requires : goal.put_constant-requires
put_constant-requires g c =
    let w = writing c.args.tables.now c.args.maker.now in
    let v = number_of_digits c.args.number.items in
    let b = constant_body c.args.spelling c.requires.1.1.1.0 c.args.count v in
    ready_sound c.args.full.now w c.sort.new.self g.line b (constant_body c.args.spelling c.in_ok-sort.sort c.args.count v) [] c.in_ok-sort.sort c.width.result 0 0 0
    (constant_ready c.args.full.now w g.line c.args.spelling c.requires.1.1.1.0 c.args.count v c.know.ensures.model c.requires.1.0 c.requires.1.1.1.1 c.requires.0) c.sort.ensures.extends c.in_ok-sort.ensures.sort
    (c.width.ensures.width ∙ ap (width_of c.args.full.now) (sym c.requires.1.1.0)) (constant_renamed c.args.spelling c.in_ok-sort.sort c.requires.1.1.1.0 c.args.count v)

pub returns : goal.returns
returns g c =
    let w = writing c.args.tables.now c.args.maker.now in
    let v = number_of_digits c.args.number.items in
    let b = constant_body c.args.spelling c.requires.1.1.1.0 c.args.count v in
    ok_with _ (λ r. (leaf : ℕ) → IsMade c.args.full.now w c.put_constant.new.self g.line leaf r) c.put_constant.result
    (λ id put leaf.
    ready_made c.args.full.now w c.sort.new.self c.put_constant.new.self g.line b (constant_body c.args.spelling c.in_ok-sort.sort c.args.count v) [] c.in_ok-sort.sort c.width.result 0 0 0 id None
    (constant_ready c.args.full.now w g.line c.args.spelling c.requires.1.1.1.0 c.args.count v c.know.ensures.model c.requires.1.0 c.requires.1.1.1.1 c.requires.0) c.sort.ensures.extends c.in_ok-sort.ensures.sort
    (c.width.ensures.width ∙ ap (width_of c.args.full.now) (sym c.requires.1.1.0)) (constant_renamed c.args.spelling c.in_ok-sort.sort c.requires.1.1.1.0 c.args.count v) put leaf)
    c.put_constant.ensures.line
