use Rattle.std.proofs.Common.{◌≡◌, [], ◌∷◌, refl, length}
use Rattle.std.proofs.Math.Dec.{lit<, lit≤}
use Rattle.std.proofs.lemmas.List.Elements.{All-from_recursion}
use Rattle.std.specs.Fmt.{digits}
use Rattle.base.specs.Decimals.{is_decimal, capped_value, number_of}
use Rattle.witness.specs.Readings.{next_line, reading}
use Rattle.witness.specs.BitAdmits.{bit_admit}
use Rattle.witness.specs.Worked.{toggles_once}
use Rattle.witness.proofs.BitReadLemmas.{all_bits_read}
use Rattle.witness.proofs.bit_laws.worked_bit_readings.Goals as goal

pub returns : goal.returns
unfolding digits reading next_line bit_admit number_of capped_value is_decimal
returns c =
    record {
      read = (all_bits_read toggles_once, (refl, refl));
      said = record {
        whole = refl;
        valid =
            record {
              claim = lit< tt;
              initial = refl;
              some_frame = λ e. cc;
              frames = All-from_recursion (λ bits. length bits ≡ 0) ([] ∷ [] ∷ []) (refl, (refl, tt));
            };
        few = lit≤ tt;
      };
      whole = (refl, refl);
      unended = (refl, refl);
      behind_fault = (refl, refl);
      half_a_frame = (refl, refl);
    }
