-- Small circuits and those that have their outputs as bad properties, worked out by hand.
use Rattle.std.proofs.Common.{◌≡◌, ◌≢◌, ℕ, zero, suc, ◌+◌, ◌<◌, refl, arith}
use Rattle.aiger.specs.declared.circuit.Section.{Section}
use Rattle.aiger.specs.declared.circuit.Section.TheVariants as section
use Rattle.aiger.specs.Circuit.{IsCircuit, section_count, name_of}
use Rattle.engine_form.specs.Outputs.{HasOutputsAsBads}
use Rattle.engine_form.specs.Worked.{conjunction, conjunction_bad, named_circuit, named_bad}

pub conjunction_has : IsCircuit conjunction → IsCircuit conjunction_bad → HasOutputsAsBads conjunction conjunction_bad
conjunction_has c d =
    record {
      original = c;
      circuit = d;
      inputs = refl;
      latches = refl;
      gates = refl;
      constraints = refl;
      justice = refl;
      fair = refl;
      bads = refl;
      no_outputs = refl;
      names = λ s k apart inside. refl;
      output_names = λ k inside. refl;
    }

pub named_has : IsCircuit named_circuit → IsCircuit named_bad → HasOutputsAsBads named_circuit named_bad
named_has c d =
    record {
      original = c;
      circuit = d;
      inputs = refl;
      latches = refl;
      gates = refl;
      constraints = refl;
      justice = refl;
      fair = refl;
      bads = refl;
      no_outputs = refl;
      names = kept;
      output_names = moved;
    }
  where
    kept : (s : Section) (k : ℕ) → s ≢ section.Output → k < section_count s named_circuit → name_of named_bad s k ≡ name_of named_circuit s k
    kept section.Input k apart inside = refl
    kept section.Latch k apart inside = refl
    kept section.Output k apart inside = absurd (apart refl)
    kept section.Bad zero apart inside = refl
    kept section.Bad (suc k) apart inside = absurd (omega arith)
    kept section.Constraint k apart inside = refl
    kept section.Justice k apart inside = refl
    kept section.Fair k apart inside = refl

    moved : (k : ℕ) → k < 1 → name_of named_bad section.Bad (1 + k) ≡ name_of named_circuit section.Output k
    moved zero inside = refl
    moved (suc k) inside = absurd (omega arith)
