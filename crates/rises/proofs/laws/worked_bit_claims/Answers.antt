use Rattle.std.proofs.Common.{◌∷◌, [], None, ap}
use Rattle.base.specs.Decimals.{is_decimal, capped_value, number_of}
use Rattle.witness.specs.Readings.{next_line, reading}
use Rattle.witness.specs.BitAdmits.{bit_admit}
use Rattle.rises.proofs.WorkedLemmas.{input_rises, input_never}
use Rattle.rises.proofs.laws.worked_bit_claims.Goals as goal

pub returns : goal.returns
unfolding reading next_line bit_admit number_of capped_value is_decimal
returns c =
    record {
      rises = λ vs t. ap (λ o. None ∷ o ∷ []) (input_rises vs t);
      never = λ vs t. ap (λ o. o ∷ None ∷ []) (input_never vs t);
    }
