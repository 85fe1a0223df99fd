use Rattle.std.proofs.Common.{◌≡◌, ℕ, Some, ap, sym, ◌∙◌}
use Rattle.std.proofs.lemmas.Result.{on_ok_weaker}
use Rattle.aiger.specs.declared.circuit.Section.{Section}
use Rattle.aiger.specs.Circuit.{name_of, with_name}
use Rattle.engine_form.specs.Moves.{new_section}
use Rattle.engine_form.proofs.MoveLemmas.{name_is_good, name_moved}
use Rattle.engine_form.proofs.moves.move_name.Goals as goal

pub give_name-requires-clause-name : goal.give_name-requires-clause-name
give_name-requires-clause-name c =
    let at : name_of c.args.circuit.now c.args.section c.args.position ≡ Some c.in-Some.name.now = sym c.in-Some.ensures.name in
    name_is_good c.args.circuit.now c.args.section c.args.position c.in-Some.name.now c.in-Some.ensures.valid at

pub returns-in-Some-clause-names : goal.returns-in-Some-clause-names
returns-in-Some-clause-names c =
    let circuit = c.args.circuit.now in
    let name = c.in-Some.name.now in
    let at : name_of circuit c.args.section c.args.position ≡ Some name = sym c.in-Some.ensures.name in
    on_ok_weaker c.give_name.result
    (λ is.
    name_moved circuit c.args.made.now c.give_name.new.made c.args.section c.args.position name c.requires.there c.requires.names at
    (is ∙ ap (λ (s : Section). with_name c.args.made.now s c.new_position.result name) c.new_section.ensures ∙ ap (λ (k : ℕ). with_name c.args.made.now (new_section c.args.section) k name) c.new_position.ensures))
    c.give_name.ensures
