-- What a run of a circuit keeps.
use Rattle.std.specs.Prelude.{◌≡◌, ℕ, ◌+◌, ◌<◌, ◌≤◌, Bool, true, false, List, length, map, slice_index, slice_index_or}
use Rattle.base.specs.Literal.{literal_value, valuation_of}
use Rattle.aiger.specs.Net.{variables, Satisfies, net_input_bits, latch_bits}
use Rattle.aiger.specs.Circuit.{Circuit, IsCircuit, net}
use Rattle.runs.specs.declared.bit_run.BitRun.TheInside.{Inside}
use Rattle.runs.specs.declared.arranging.Arrangement.{Arrangement}
use Rattle.runs.specs.Arranging.{IsArrangementOf, placed, placed_valuation}
use Rattle.runs.specs.CircuitRun.{CircuitRun}

-- what contracts see of a run
abbrev pub circuit_run_of : Inside → CircuitRun
circuit_run_of r =
    record {
      circuit = r.circuit.now;
      latches = latch_bits (net r.circuit.now) (valuation_of r.bits);
      inputs = net_input_bits (net r.circuit.now) (valuation_of r.bits);
      settled = r.settled;
      steps = r.tally;
    }

-- bits stand at the places from a first one on of a list of bytes, each the lowest of its byte, and all others are as before
pub record IsPut (given : List Bool) (first : ℕ) (old new : List ℕ) : Type 0 where
  pub put : (k : ℕ) → k < length given → valuation_of new (first + k) ≡ slice_index_or given k false
  pub below : (p : ℕ) → p < first → valuation_of new p ≡ valuation_of old p
  pub above : (p : ℕ) → first + length given ≤ p → valuation_of new p ≡ valuation_of old p
  pub as_many : length new ≡ length old

-- bytes stand at the places from a first one on, and all others are as before
pub record IsCopied (given : List ℕ) (first : ℕ) (old new : List ℕ) : Type 0 where
  pub put : (k : ℕ) → k < length given → slice_index_or new (first + k) 0 ≡ slice_index_or given k 0
  pub below : (p : ℕ) → p < first → slice_index_or new p 0 ≡ slice_index_or old p 0
  pub above : (p : ℕ) → first + length given ≤ p → slice_index_or new p 0 ≡ slice_index_or old p 0
  pub as_many : length new ≡ length old

-- the bits of the first so many literals are taken
abbrev pub AreTaken : List ℕ → List ℕ → ℕ → List ℕ → Type 0
AreTaken literals bits count taken = (k : ℕ) → k < count → valuation_of taken k ≡ literal_value (valuation_of bits) (slice_index literals k)

-- The bits of 0 and of each variable at their places, and room for each latch's next one; the bits satisfy the gates where the run is settled.
pub record KeepsBits (c : Circuit) (a : Arrangement) (nexts bits next_bits : List ℕ) (settled : Bool) : Type 0 where
  pub valid : IsCircuit c
  pub arranged : IsArrangementOf c a
  pub are_nexts : nexts ≡ map (λ l. placed a.places l.next) c.latches
  pub many : length bits ≡ variables (net c) + 1
  pub many_latches : length next_bits ≡ length c.latches
  pub constant : valuation_of bits 0 ≡ false
  pub gates : settled ≡ true → Satisfies (net c) (placed_valuation a.places bits)

abbrev pub IsCircuitRun : Inside → Type 0
IsCircuitRun r = KeepsBits r.circuit.now r.arrangement r.nexts r.bits r.next_bits r.settled
