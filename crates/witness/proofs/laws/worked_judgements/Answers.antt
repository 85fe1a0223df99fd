use Rattle.std.proofs.Common.{refl}
use Rattle.std.specs.Fmt.{digits}
use Rattle.btor2.specs.Check.{refusal, id_is_out_of_range, id_is_taken, sort_is_missing, operand_is_missing, state_is_none, width_is_out_of_range, slice_is_out_of_range, widths_differ, constant_does_not_fit, init_is_not_constant, is_second_init, is_second_next, justice_is_empty}
use Rattle.base.specs.Decimals.{is_decimal, capped_value, number_of}
use Rattle.witness.specs.Readings.{next_line, reading}
use Rattle.witness.specs.Admits.{claims_at, value_of, assignment_at, state_assignment_at, admit}
use Rattle.witness.proofs.WorkedLemmas.{two_frames_judged, one_frame_judged, follows_judged, does_not_follow_judged, constraint_judged}
use Rattle.witness.proofs.laws.worked_judgements.Goals as goal

pub returns : goal.returns
unfolding digits reading next_line admit claims_at assignment_at value_of number_of capped_value is_decimal state_assignment_at refusal id_is_out_of_range id_is_taken sort_is_missing operand_is_missing state_is_none width_is_out_of_range slice_is_out_of_range widths_differ constant_does_not_fit init_is_not_constant is_second_init is_second_next justice_is_empty
returns c =
    record {
      accepted = two_frames_judged;
      other_init = λ fs t. refl;
      not_reached = one_frame_judged;
      unsat = refl;
      unknown = refl;
      malformed = refl;
      follows = follows_judged;
      does_not_follow = does_not_follow_judged;
      constrained_is_model = (refl, (refl, (refl, (refl, (refl, (refl, (refl, (refl, tt))))))));
      violated = constraint_judged;
    }
