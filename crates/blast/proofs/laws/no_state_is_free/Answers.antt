use Rattle.btor2.specs.Items.{is_input}
use Rattle.blast.specs.Leaves.{by_body, given_by_kind, leaf_bits, leaf_names, leaf_resets}
use Rattle.blast.proofs.CarriedAlone.{given_alone, carried_alone, given_width_alone, carried_width_alone}
use Rattle.blast.proofs.laws.no_state_is_free.Goals as goal

pub returns-clause-input_bits : goal.returns-clause-input_bits
returns-clause-input_bits c items h f = given_alone items (leaf_bits items f) (given_by_kind (by_body is_input) (leaf_bits items f) items) h

pub returns-clause-state_bits : goal.returns-clause-state_bits
returns-clause-state_bits c items h f = carried_alone items (leaf_bits items f) h

pub returns-clause-input_names : goal.returns-clause-input_names
returns-clause-input_names c items h = given_alone items (leaf_names items) (given_by_kind (by_body is_input) (leaf_names items) items) h

pub returns-clause-state_names : goal.returns-clause-state_names
returns-clause-state_names c items h = carried_alone items (leaf_names items) h

pub returns-clause-given_width : goal.returns-clause-given_width
returns-clause-given_width c = given_width_alone

pub returns-clause-carried_width : goal.returns-clause-carried_width
returns-clause-carried_width c = carried_width_alone

pub returns-clause-resets : goal.returns-clause-resets
returns-clause-resets c items h = carried_alone items (leaf_resets items) h
