use Rattle.std.proofs.Common.{[], ◌∷◌, ◌++◌, codes, refl, rules, arith, inr}
use Rattle.std.specs.List.Sorted.{IsStrictlySortedBy}
use Rattle.std.proofs.lemmas.List.Elements.{All-nil}
use Rattle.std.specs.Fmt.{digits}
use Rattle.base.specs.Decimals.{is_decimal, capped_value, number_of}
use Rattle.aiger.specs.Circuit.{IsCircuit, IsNamed, HasFew, HasDefined, net}
use Rattle.aigertext.specs.declared.fault.Why.TheVariants as why
use Rattle.aigertext.specs.Worked.{one_output}
use Rattle.deltas.specs.Deltas.{number_at}
use Rattle.aigertext.specs.Reading.{binary_at, properties_at, name_on, section_with_letter, gate_at, delta_at, size_of, next_fields, literal_on, header_fields, header_form, fitting, counts_of}
use Rattle.aigertext.specs.AsciiReading.{AnswersText}
use Rattle.aigertext.proofs.StandsLemmas.{stands-read, not_stopped}
use Rattle.aigertext.proofs.laws.worked_binary_spellings.Goals as goal

is_circuit : IsCircuit one_output
unfolding IsStrictlySortedBy
is_circuit =
    let few : HasFew one_output = search rules in
    let defined : HasDefined (net one_output) one_output = search rules in
    record {
      small = omega arith;
      few = few;
      ordered = (omega arith, omega arith, tt);
      defined = defined;
      names = record { sorted = tt; named = All-nil (IsNamed one_output) };
    }

pub returns-clause-spelled_out : goal.returns-clause-spelled_out
unfolding digits
returns-clause-spelled_out c =
    record {
      header = codes "aig 3 2 0 1 1 0 0\n";
      is_header = record { kept = 0 ∷ 0 ∷ []; dropped = 2; counts = refl; spelled = refl };
      latches = [];
      are_latches = refl;
      end = codes "c\nany";
      is_end = record { given = []; names = refl; comment = codes "c\nany"; is_comment = inr (codes "any", refl); spelled = refl };
      valid = is_circuit;
      whole = refl;
    }

pub returns-clause-unended : goal.returns-clause-unended
unfolding AnswersText binary_at properties_at name_on section_with_letter gate_at delta_at number_at size_of next_fields literal_on header_fields header_form fitting counts_of number_of capped_value is_decimal
returns-clause-unended c = λ t. not_stopped one_output (record { left = 1; why = why.Truncated }) (stands-read (codes "aig 3 2 0 1 1\n6\n" ++ 2 ∷ 2 ∷ codes "c") one_output t)

pub returns-clause-too_long : goal.returns-clause-too_long
unfolding AnswersText binary_at properties_at name_on section_with_letter gate_at delta_at number_at size_of next_fields literal_on header_fields header_form fitting counts_of number_of capped_value is_decimal
returns-clause-too_long c = λ t. not_stopped one_output (record { left = 3; why = why.DeltaNotShortest }) (stands-read (codes "aig 3 2 0 1 1\n6\n" ++ 130 ∷ 0 ∷ 2 ∷ []) one_output t)
