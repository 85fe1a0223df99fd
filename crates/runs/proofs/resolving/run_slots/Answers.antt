use Rattle.std.proofs.Common.{◌∙◌}
use Rattle.btor2.specs.Items.{is_state, is_input, is_bad, is_constraint}
use Rattle.runs.proofs.PropertyLemmas.{bad_is_property, constraint_is_property, properties_there, properties_slots}
use Rattle.runs.proofs.StartLemmas.{picked_inside, picked_slots}
use Rattle.runs.proofs.resolving.run_slots.Goals as goal

pub picked-requires : goal.picked-requires
picked-requires c = picked_inside is_state c.args.model.now c.args.slots.now c.states.result.now c.requires.slots c.states.ensures

pub picked-requires-2 : goal.picked-requires-2
picked-requires-2 c = picked_inside is_input c.args.model.now c.args.slots.now c.inputs.result.now c.requires.slots c.inputs.ensures

pub property_slots-requires-clause-properties : goal.property_slots-requires-clause-properties
property_slots-requires-clause-properties c = properties_there is_bad c.args.model.now c.bads.result.now bad_is_property c.bads.ensures

pub property_slots-requires-2-clause-properties : goal.property_slots-requires-2-clause-properties
property_slots-requires-2-clause-properties c = properties_there is_constraint c.args.model.now c.constraints.result.now constraint_is_property c.constraints.ensures

pub returns : goal.returns
returns c =
    record {
      are_states = c.in_ok-states.ensures ∙ picked_slots is_state c.args.model.now c.args.slots.now c.states.result.now c.requires.slots c.states.ensures;
      are_inputs = c.in_ok-inputs.ensures ∙ picked_slots is_input c.args.model.now c.args.slots.now c.inputs.result.now c.requires.slots c.inputs.ensures;
      are_nexts = c.in_ok-nexts.ensures;
      are_bads = c.in_ok-bads.ensures ∙ properties_slots is_bad c.args.model.now c.bads.result.now bad_is_property c.bads.ensures;
      are_constraints = c.in_ok-constraints.ensures ∙ properties_slots is_constraint c.args.model.now c.constraints.result.now constraint_is_property c.constraints.ensures;
    }
