use Rattle.std.proofs.Common.{refl}
use Rattle.btor2.specs.Check.{refusal, id_is_out_of_range, id_is_taken, sort_is_missing, operand_is_missing, state_is_none, width_is_out_of_range, widths_differ, init_is_not_constant, is_second_init, is_second_next, slice_is_out_of_range, constant_does_not_fit, justice_is_empty}
use Rattle.btor2.proofs.laws.worked_free_states.Goals as goal

pub returns-clause-open_ends_is_model : goal.returns-clause-open_ends_is_model
unfolding refusal id_is_out_of_range id_is_taken sort_is_missing operand_is_missing state_is_none width_is_out_of_range widths_differ init_is_not_constant is_second_init is_second_next slice_is_out_of_range constant_does_not_fit justice_is_empty
returns-clause-open_ends_is_model c = (refl, (refl, (refl, (refl, (refl, (refl, (refl, tt)))))))
