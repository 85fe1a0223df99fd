use Rattle.std.proofs.Common.{refl}
use Rattle.std.specs.Fmt.{digits}
use Rattle.base.specs.Decimals.{is_decimal, capped_value, number_of}
use Rattle.witness.specs.Readings.{next_line, reading}
use Rattle.witness.specs.BitAdmits.{bit_admit}
use Rattle.witness.proofs.BitWorkedLemmas.{toggles_judged, does_not_toggle_judged, violation_judged, free_judged, input_judged}
use Rattle.witness.proofs.bit_laws.worked_bit_judgements.Goals as goal

pub returns : goal.returns
unfolding digits reading next_line bit_admit number_of capped_value is_decimal
returns c =
    record {
      accepted = toggles_judged;
      other_initial = λ vs t. refl;
      not_reached = does_not_toggle_judged;
      violated = violation_judged;
      free = free_judged;
      no_claim = refl;
      no_claim_whatever_follows = refl;
      unended_status = refl;
      malformed = refl;
      last_frame = input_judged;
    }
