use Rattle.std.proofs.Common.{◌≡◌, ℕ, None, true, is_some, subst, sym, ap, ◌∙◌, Some}
use Rattle.full.specs.Lines.{sort_of_node, width_of, init_of}
use Rattle.fullmodel.specs.Lines.{operand_of}
use Rattle.writeout.specs.declared.way.Way.TheVariants as way
use Rattle.writeout.specs.Nodes.{IsMade, FirstWordStands}
use Rattle.writeout.specs.Tables.{writing}
use Rattle.writeout.specs.Ways.{way_of}
use Rattle.writeout.proofs.EndLemmas.{state_valued}
use Rattle.writeout.proofs.LineLemmas.{line_valued}
use Rattle.writeout.proofs.OperandLemmas.{ok_with}
use Rattle.writeout.proofs.NodeLemmas.{made_behind}
use Rattle.writeout.proofs.ChoiceLemmas.{init_agrees, init_node, ChoiceReady, choice_sound, choice_made}
use Rattle.writeout.proofs.choices.choice_by.Goals as goal

pub first_word-requires-clause-node : goal.first_word-requires-clause-node
first_word-requires-clause-node g c = init_node c.args.full.now c.args.id (operand_of c.args.value) c.know.ensures.model c.requires.1.1.1.1.1.1.0

pub first_word-requires-clause-agrees : goal.first_word-requires-clause-agrees
first_word-requires-clause-agrees g c = init_agrees c.args.full.now c.args.id (operand_of c.args.value) c.know.ensures.model c.requires.1.1.1.1.1.1.0

pub sort-requires-clause-least : goal.sort-requires-clause-least
sort-requires-clause-least g c =
    let x = g.at.line in
    c.width.ensures.least (subst (λ (n : ℕ). is_some (sort_of_node c.args.full.now n) ≡ true) c.requires.1.1.0 (line_valued c.args.full.now x c.know.ensures.model (record { place = g.at.place; at = c.requires.1.0 }) (state_valued x.says c.requires.1.1.1.0)))

pub put-requires-clause-sound : goal.put-requires-clause-sound
put-requires-clause-sound g c =
    let w = writing c.args.tables.now c.first_word.new.maker in
    let x = g.at.line in
    let full = c.args.full.now in
    let o = operand_of c.args.value in
    let id = sym c.requires.1.1.0 in
    let ready : ChoiceReady full w x g.at.place c.args.leaf o c.in_ok-v.v = record {
      model = c.know.ensures.model;
      stands = c.in_ok-v.ensures.stands;
      at = c.requires.1.0;
      state = c.requires.1.1.1.0;
      by_first = subst (λ (n : ℕ). way_of full n ≡ way.First) id c.requires.1.1.1.1.0;
      is_leaf = c.requires.1.1.1.1.1.0;
      init = subst (λ (n : ℕ). init_of full n ≡ Some o) id c.requires.1.1.1.1.1.1.0;
      first = subst (λ (n : ℕ). FirstWordStands full w n o c.in_ok-v.v) id c.in_ok-v.ensures.value;
    } in
    choice_sound full w c.sort.new.self x g.at.place c.args.leaf c.in_ok-sort.sort c.width.result o c.in_ok-v.v ready c.sort.ensures.extends c.in_ok-sort.ensures.sort (c.width.ensures.width ∙ ap (width_of full) id)

pub returns : goal.returns
returns g c =
    let w = writing c.args.tables.now c.first_word.new.maker in
    let x = g.at.line in
    let full = c.args.full.now in
    let o = operand_of c.args.value in
    let id = sym c.requires.1.1.0 in
    let ready : ChoiceReady full w x g.at.place c.args.leaf o c.in_ok-v.v = record {
      model = c.know.ensures.model;
      stands = c.in_ok-v.ensures.stands;
      at = c.requires.1.0;
      state = c.requires.1.1.1.0;
      by_first = subst (λ (n : ℕ). way_of full n ≡ way.First) id c.requires.1.1.1.1.0;
      is_leaf = c.requires.1.1.1.1.1.0;
      init = subst (λ (n : ℕ). init_of full n ≡ Some o) id c.requires.1.1.1.1.1.1.0;
      first = subst (λ (n : ℕ). FirstWordStands full w n o c.in_ok-v.v) id c.in_ok-v.ensures.value;
    } in
    ok_with _ (IsMade full (writing c.args.tables.now c.args.maker.now) c.put.new.self x c.args.leaf) c.put.result
    (λ r put.
    made_behind full (writing c.args.tables.now c.args.maker.now) c.first_word.new.maker c.put.new.self x c.args.leaf r c.in_ok-v.ensures.grows
    (choice_made full w c.sort.new.self c.put.new.self x g.at.place c.args.leaf c.in_ok-sort.sort c.width.result o c.in_ok-v.v r None ready c.sort.ensures.extends c.in_ok-sort.ensures.sort (c.width.ensures.width ∙ ap (width_of full) id) put))
    c.put.ensures.line
