use Rattle.std.proofs.Common.{length, map}
use Rattle.aiger.specs.Reachability.{circuit_shows}
use Rattle.witness.specs.Reached.{bit_claimed}
use Rattle.rises.proofs.RiseLemmas.{length-rises}
use Rattle.rises.proofs.LawLemmas.{accepted_bits, other_rises}
use Rattle.rises.proofs.laws.accepted_bit_claims_rise.Goals as goal

pub returns : goal.returns
returns c =
    record {
      claimed = accepted_bits;
      others = λ circuit text vs k other inside. other_rises (bit_claimed circuit text) (map (circuit_shows circuit) vs) (length circuit.bads) k inside other;
      many = λ circuit text vs. length-rises (bit_claimed circuit text) (map (circuit_shows circuit) vs) 0 (length circuit.bads);
    }
