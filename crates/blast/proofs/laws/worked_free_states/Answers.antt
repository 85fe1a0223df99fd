use Rattle.std.proofs.Common.{[], ◌∷◌, codes, refl, rules, arith}
use Rattle.std.specs.List.Sorted.{IsStrictlySortedBy}
use Rattle.std.proofs.lemmas.List.Elements.{All-nil, All-cons}
use Rattle.btor2.specs.Check.{refusal, id_is_out_of_range, id_is_taken, sort_is_missing, operand_is_missing, state_is_none, width_is_out_of_range, widths_differ, init_is_not_constant, is_second_init, is_second_next, slice_is_out_of_range, constant_does_not_fit, justice_is_empty}
use Rattle.aiger.specs.declared.circuit.Section.TheVariants as section
use Rattle.aiger.specs.Circuit.{IsNamed, HasFew, HasDefined, net}
use Rattle.blast.specs.Worked.{follower_circuit, input_circuit}
use Rattle.blast.proofs.WorkedLowering.{bit_is_name}
use Rattle.blast.proofs.laws.worked_free_states.Goals as goal

pub returns-clause-follower_is_model : goal.returns-clause-follower_is_model
unfolding refusal id_is_out_of_range id_is_taken sort_is_missing operand_is_missing state_is_none width_is_out_of_range widths_differ init_is_not_constant is_second_init is_second_next slice_is_out_of_range constant_does_not_fit justice_is_empty
returns-clause-follower_is_model c = (refl, (refl, (refl, (refl, (refl, (refl, tt))))))

pub returns-clause-alone_is_model : goal.returns-clause-alone_is_model
unfolding refusal id_is_out_of_range id_is_taken sort_is_missing operand_is_missing state_is_none width_is_out_of_range widths_differ init_is_not_constant is_second_init is_second_next slice_is_out_of_range constant_does_not_fit justice_is_empty
returns-clause-alone_is_model c = (refl, (refl, tt))

pub returns-clause-follower_is_circuit : goal.returns-clause-follower_is_circuit
unfolding IsStrictlySortedBy
returns-clause-follower_is_circuit c =
    let few : HasFew follower_circuit = search rules in
    let defined : HasDefined (net follower_circuit) follower_circuit = search rules in
    let x : IsNamed follower_circuit ((0, 0), codes "x[0]") = record { section = section.Input; is_section = refl; position = omega arith; name = bit_is_name 120 48 (omega arith, omega arith) (omega arith, omega arith) } in
    let f : IsNamed follower_circuit ((0, 1), codes "f[0]") = record { section = section.Input; is_section = refl; position = omega arith; name = bit_is_name 102 48 (omega arith, omega arith) (omega arith, omega arith) } in
    let s : IsNamed follower_circuit ((1, 0), codes "s[0]") = record { section = section.Latch; is_section = refl; position = omega arith; name = bit_is_name 115 48 (omega arith, omega arith) (omega arith, omega arith) } in
    record {
      small = omega arith;
      few = few;
      ordered = tt;
      defined = defined;
      names = record {
        sorted = ((refl, (refl, tt)), ((refl, tt), (tt, tt)));
        named = All-cons (IsNamed follower_circuit) ((0, 0), codes "x[0]") (((0, 1), codes "f[0]") ∷ ((1, 0), codes "s[0]") ∷ []) x
            (All-cons (IsNamed follower_circuit) ((0, 1), codes "f[0]") (((1, 0), codes "s[0]") ∷ []) f (All-cons (IsNamed follower_circuit) ((1, 0), codes "s[0]") [] s (All-nil (IsNamed follower_circuit))));
      };
    }

pub returns-clause-input_is_circuit : goal.returns-clause-input_is_circuit
unfolding IsStrictlySortedBy
returns-clause-input_is_circuit c =
    let few : HasFew input_circuit = search rules in
    let defined : HasDefined (net input_circuit) input_circuit = search rules in
    record {
      small = omega arith;
      few = few;
      ordered = tt;
      defined = defined;
      names = record { sorted = tt; named = All-nil (IsNamed input_circuit) };
    }
