-- A fresh circuit is a circuit.
use Rattle.std.proofs.Common.{rules, ℕ, ◌+◌, ◌≤◌, All, arith}
use Rattle.std.proofs.lemmas.List.{length-replicate}
use Rattle.std.proofs.lemmas.List.Elements.{All-nil, All-replicate}
use Rattle.std.specs.List.Sorted.{IsStrictlySortedBy}
use Rattle.aiger.specs.declared.circuit.Latch.{Latch}
use Rattle.aiger.specs.Limits.{greatest_count}
use Rattle.aiger.specs.Net.{IsDefined}
use Rattle.aiger.specs.Circuit.{Circuit, IsCircuit, IsNamed, HasFew, net, fresh_circuit, fresh_latch}

pub IsCircuit-fresh : (inputs latches : ℕ) → inputs + latches ≤ greatest_count → IsCircuit (fresh_circuit inputs latches)
unfolding IsStrictlySortedBy
IsCircuit-fresh inputs latches h =
    let c : Circuit = fresh_circuit inputs latches in
    let few : HasFew c = search rules in
    record {
      small = omega (arith, length-replicate latches fresh_latch, h);
      few = few;
      ordered = tt;
      defined = record {
        nexts = All-replicate (λ (l : Latch). IsDefined (net c) l.next) latches fresh_latch (omega arith);
        outputs = All-nil (IsDefined (net c));
        bads = All-nil (IsDefined (net c));
        constraints = All-nil (IsDefined (net c));
        justice = All-nil (All (IsDefined (net c)));
        fair = All-nil (IsDefined (net c));
      };
      names = record { sorted = tt; named = All-nil (IsNamed c) };
    }
