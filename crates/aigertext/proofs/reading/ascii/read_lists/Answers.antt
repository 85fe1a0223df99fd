use Rattle.std.proofs.Common.{◌+◌, ◌*◌, subst, sym, inl, inr}
use Rattle.std.proofs.lemmas.Result.{err_from_is_err_and}
use Rattle.aigerlists.specs.Loose.{with_gate_line}
use Rattle.aigertext.specs.Passes.{WasToBeRead}
use Rattle.aigertext.specs.AsciiReading.{lists_of_file, onto_lists, gate_of_line}
use Rattle.aigertext.proofs.PassLemmas.{reads_stop, stops_then, reads_then, stopped}
use Rattle.aigertext.proofs.PassOverLemmas.{no_names, gates_left, gates_stop}
use Rattle.aigertext.proofs.reading.ascii.read_lists.Goals as goal

pub returns-in_err-rest : goal.returns-in_err-rest
unfolding lists_of_file
returns-in_err-rest c =
    stopped _ _ _ _ (err_from_is_err_and c.from_residual.result c.from_residual.ensures.1) (reads_stop _ _ _ (rw c.requires.empty at c.in_err-rest.ensures))

pub returns-in_err-rest-2 : goal.returns-in_err-rest-2
unfolding lists_of_file
returns-in_err-rest-2 c =
    stopped _ _ _ _ (err_from_is_err_and c.from_residual-in_err-rest-2.result c.from_residual-in_err-rest-2.ensures.1) (stops_then _ _ _ _ (rw c.requires.empty at c.in_ok-rest.ensures) (reads_stop _ _ _ c.in_err-rest-2.ensures))

pub set_properties-requires-clause-unnamed : goal.set_properties-requires-clause-unnamed
set_properties-requires-clause-unnamed c =
    no_names c.args.counts.now c.args.text.now _ _ c.args.lists.now c.push_definitions.new.lists c.push_definitions-2.new.lists _ _ c.requires.empty c.in_ok-rest.ensures c.in_ok-rest-2.ensures

pub returns-in_err-rest-3 : goal.returns-in_err-rest-3
unfolding lists_of_file
returns-in_err-rest-3 c =
    stopped _ _ _ _ (err_from_is_err_and c.from_residual-in_err-rest-3.result c.from_residual-in_err-rest-3.ensures.1) (stops_then _ _ _ _ (rw c.requires.empty at c.in_ok-rest.ensures)
    (stops_then _ _ _ _ c.in_ok-rest-2.ensures
    (elim c.in_err-rest-3.ensures [
      | inl full ↦ inl full
      | inr stops ↦
          inr (gates_stop c.args.counts.now c.push_definitions-2.new.lists _ (λ l t. onto_lists (gate_of_line (2 * c.args.counts.now.variables + 1)) with_gate_line l c.args.counts.now.gates t) _ stops)
    ])))

pub returns : goal.returns
unfolding lists_of_file
returns c =
    reads_then _ _ _ _ _ (rw c.requires.empty at c.in_ok-rest.ensures)
    (reads_then _ _ _ _ _ c.in_ok-rest-2.ensures
    (subst (WasToBeRead (λ x. (c.push_definitions-3.new.lists, x.now)) c.push_definitions-3.result)
    (sym (gates_left c.args.counts.now c.push_definitions-2.new.lists c.set_properties.new.lists _ _ (λ l t. onto_lists (gate_of_line (2 * c.args.counts.now.variables + 1)) with_gate_line l c.args.counts.now.gates t) c.in_ok-rest-3.ensures))
    c.push_definitions-3.ensures))
