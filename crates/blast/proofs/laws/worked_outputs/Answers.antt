use Rattle.std.proofs.Common.{[], ◌∷◌, codes, refl, rules, arith}
use Rattle.std.specs.Fmt.{digits}
use Rattle.std.specs.List.Sorted.{IsStrictlySortedBy}
use Rattle.std.proofs.lemmas.List.Elements.{All-nil, All-cons}
use Rattle.btor2.specs.Check.{refusal, id_is_out_of_range, id_is_taken, sort_is_missing, operand_is_missing, state_is_none, width_is_out_of_range, widths_differ, init_is_not_constant, is_second_init, is_second_next, slice_is_out_of_range, constant_does_not_fit, justice_is_empty}
use Rattle.aiger.specs.declared.circuit.Section.TheVariants as section
use Rattle.aiger.specs.Circuit.{IsNamed, HasFew, HasDefined, net}
use Rattle.blast.specs.Worked.{inverter_circuit, keeper_circuit}
use Rattle.blast.proofs.WorkedLowering.{inverter_lowered, keeper_lowered, bit_is_name}
use Rattle.blast.proofs.laws.worked_outputs.Goals as goal

pub returns-clause-inverter_is_model : goal.returns-clause-inverter_is_model
unfolding refusal id_is_out_of_range id_is_taken sort_is_missing operand_is_missing state_is_none width_is_out_of_range widths_differ init_is_not_constant is_second_init is_second_next slice_is_out_of_range constant_does_not_fit justice_is_empty
returns-clause-inverter_is_model c = (refl, (refl, (refl, (refl, tt))))

pub returns-clause-keeper_is_model : goal.returns-clause-keeper_is_model
unfolding refusal id_is_out_of_range id_is_taken sort_is_missing operand_is_missing state_is_none width_is_out_of_range widths_differ init_is_not_constant is_second_init is_second_next slice_is_out_of_range constant_does_not_fit justice_is_empty
returns-clause-keeper_is_model c = (refl, (refl, (refl, (refl, (refl, (refl, tt))))))

pub returns-clause-inverter_is_circuit : goal.returns-clause-inverter_is_circuit
unfolding IsStrictlySortedBy
returns-clause-inverter_is_circuit c =
    let few : HasFew inverter_circuit = search rules in
    let defined : HasDefined (net inverter_circuit) inverter_circuit = search rules in
    let n0 : IsNamed inverter_circuit ((0, 0), codes "x[0]") = record { section = section.Input; is_section = refl; position = omega arith; name = bit_is_name 120 48 (omega arith, omega arith) (omega arith, omega arith) } in
    let n1 : IsNamed inverter_circuit ((0, 1), codes "x[1]") = record { section = section.Input; is_section = refl; position = omega arith; name = bit_is_name 120 49 (omega arith, omega arith) (omega arith, omega arith) } in
    let n2 : IsNamed inverter_circuit ((2, 0), codes "y[0]") = record { section = section.Output; is_section = refl; position = omega arith; name = bit_is_name 121 48 (omega arith, omega arith) (omega arith, omega arith) } in
    let n3 : IsNamed inverter_circuit ((2, 1), codes "y[1]") = record { section = section.Output; is_section = refl; position = omega arith; name = bit_is_name 121 49 (omega arith, omega arith) (omega arith, omega arith) } in
    record {
      small = omega arith;
      few = few;
      ordered = tt;
      defined = defined;
      names = record {
        sorted = ((refl, (refl, (refl, tt))), ((refl, (refl, tt)), ((refl, tt), (tt, tt))));
        named = All-cons (IsNamed inverter_circuit) ((0, 0), codes "x[0]") (((0, 1), codes "x[1]") ∷ ((2, 0), codes "y[0]") ∷ ((2, 1), codes "y[1]") ∷ []) n0 (All-cons (IsNamed inverter_circuit) ((0, 1), codes "x[1]") (((2, 0), codes "y[0]") ∷ ((2, 1), codes "y[1]") ∷ []) n1 (All-cons (IsNamed inverter_circuit) ((2, 0), codes "y[0]") (((2, 1), codes "y[1]") ∷ []) n2 (All-cons (IsNamed inverter_circuit) ((2, 1), codes "y[1]") ([]) n3 (All-nil (IsNamed inverter_circuit)))));
      };
    }

pub returns-clause-keeper_is_circuit : goal.returns-clause-keeper_is_circuit
unfolding IsStrictlySortedBy
returns-clause-keeper_is_circuit c =
    let few : HasFew keeper_circuit = search rules in
    let defined : HasDefined (net keeper_circuit) keeper_circuit = search rules in
    let n0 : IsNamed keeper_circuit ((1, 0), codes "s[0]") = record { section = section.Latch; is_section = refl; position = omega arith; name = bit_is_name 115 48 (omega arith, omega arith) (omega arith, omega arith) } in
    let n1 : IsNamed keeper_circuit ((1, 1), codes "s[1]") = record { section = section.Latch; is_section = refl; position = omega arith; name = bit_is_name 115 49 (omega arith, omega arith) (omega arith, omega arith) } in
    record {
      small = omega arith;
      few = few;
      ordered = tt;
      defined = defined;
      names = record {
        sorted = ((refl, tt), (tt, tt));
        named = All-cons (IsNamed keeper_circuit) ((1, 0), codes "s[0]") (((1, 1), codes "s[1]") ∷ []) n0 (All-cons (IsNamed keeper_circuit) ((1, 1), codes "s[1]") ([]) n1 (All-nil (IsNamed keeper_circuit)));
      };
    }

pub returns-clause-inverter : goal.returns-clause-inverter
returns-clause-inverter c = inverter_lowered (returns-clause-inverter_is_model c) (returns-clause-inverter_is_circuit c)

pub returns-clause-keeper : goal.returns-clause-keeper
returns-clause-keeper c = keeper_lowered (returns-clause-keeper_is_model c) (returns-clause-keeper_is_circuit c)

pub returns-clause-names : goal.returns-clause-names
unfolding digits
returns-clause-names c = refl
