-- The frame that is computed is one, and so is the trace.
use Rattle.std.proofs.Common.{◌≡◌, ℕ, suc, ◌+◌, ◌<◌, Bool, false, ◌&&◌, List, [], ◌∷◌, length, All, refl, ap, sym, ◌∙◌, arith}
use Rattle.std.proofs.lemmas.Bool.Decides.{nat_tests}
use Rattle.std.proofs.lemmas.List.{length-map}
use Rattle.std.proofs.lemmas.List.Elements.{All-head, All-tail}
use Rattle.aiger.specs.declared.circuit.Gate.{Gate}
use Rattle.aiger.specs.declared.circuit.Latch.{Latch}
use Rattle.base.specs.Literal.{Valuation, literal_value}
use Rattle.aiger.specs.Net.{SatisfiesFrom, AreOrderedFrom, bits_from}
use Rattle.aiger.specs.Circuit.{Circuit, IsCircuit}
use Rattle.aiger.specs.Trace.{IsCircuitFrame, IsCircuitTrace, next_latch_bits}
use Rattle.aiger.proofs.TraceLemmas.{AgreeBelow, literal_value-agree, bits_from-agree}
use Rattle.restore.specs.Frames.{with_bit, with_bits, with_gates, frame_of, trace_from}

bit-same : (v : Valuation) (k : ℕ) (b : Bool) → with_bit v k b k ≡ b
bit-same v k b = grind (arith, nat_tests)

bit-below : (v : Valuation) (k : ℕ) (b : Bool) (j : ℕ) → j < k → with_bit v k b j ≡ v j
bit-below v k b j h = grind (arith, nat_tests)

bits-below : (first : ℕ) (bits : List Bool) (v : Valuation) (k : ℕ) → k < first → with_bits first bits v k ≡ v k
unfolding with_bits
bits-below first [] v k h = refl
bits-below first (b ∷ bits) v k h = bits-below (suc first) bits (with_bit v first b) k (omega arith) ∙ bit-below v first b k h

-- bits that are put are there
bits_from-bits : (first : ℕ) (bits : List Bool) (v : Valuation) → bits_from first (length bits) (with_bits first bits v) ≡ bits
unfolding with_bits
bits_from-bits first [] v = refl
bits_from-bits first (b ∷ bits) v =
    let h : with_bits (suc first) bits (with_bit v first b) first ≡ b = bits-below (suc first) bits (with_bit v first b) first (omega arith) ∙ bit-same v first b in
    let t : bits_from (suc first) (length bits) (with_bits (suc first) bits (with_bit v first b)) ≡ bits = bits_from-bits (suc first) bits (with_bit v first b) in
    cc

abbrev gate_bit : Gate → Valuation → Bool
gate_bit g v = literal_value v g.rhs0 && literal_value v g.rhs1

gates-below : (first : ℕ) (gates : List Gate) (v : Valuation) (k : ℕ) → k < first → with_gates first gates v k ≡ v k
unfolding with_gates
gates-below first [] v k h = refl
gates-below first (g ∷ gates) v k h = gates-below (suc first) gates (with_bit v first (gate_bit g v)) k (omega arith) ∙ bit-below v first (gate_bit g v) k h

-- gates that are in order have their bits
gates-satisfied : (first : ℕ) (gates : List Gate) (v : Valuation) → AreOrderedFrom first gates → SatisfiesFrom first gates (with_gates first gates v)
unfolding with_gates
gates-satisfied first [] v o = tt
gates-satisfied first (g ∷ gates) v o =
    let w : Valuation = with_gates (suc first) gates (with_bit v first (gate_bit g v)) in
    let agree : AgreeBelow first w v = λ k low high. gates-below first (g ∷ gates) v k high in
    let a : literal_value w g.rhs0 ≡ literal_value v g.rhs0 = literal_value-agree first w v g.rhs0 agree o.0 in
    let b : literal_value w g.rhs1 ≡ literal_value v g.rhs1 = literal_value-agree first w v g.rhs1 agree (omega (arith, o.0, o.1)) in
    let h : w first ≡ gate_bit g v = gates-below (suc first) gates (with_bit v first (gate_bit g v)) first (omega arith) ∙ bit-same v first (gate_bit g v) in
    (h ∙ cc, gates-satisfied (suc first) gates (with_bit v first (gate_bit g v)) o.2)

pub frame_is : (c : Circuit) (state input : List Bool) → IsCircuit c → length state ≡ length c.latches → length input ≡ c.inputs → IsCircuitFrame c state input (frame_of c state input)
unfolding frame_of
frame_is c state input valid s i =
    let inner : Valuation = with_bits 1 input (λ k. false) in
    let base : Valuation = with_bits (suc c.inputs) state inner in
    let first : ℕ = suc (c.inputs + length c.latches) in
    let v : Valuation = with_gates first c.gates base in
    let e : bits_from 1 c.inputs v ≡ bits_from 1 c.inputs inner = bits_from-agree 1 c.inputs v inner (λ k low high. gates-below first c.gates base k (omega arith) ∙ bits-below (suc c.inputs) state inner k (omega arith)) in
    let f : bits_from (suc c.inputs) (length c.latches) v ≡ bits_from (suc c.inputs) (length c.latches) base = bits_from-agree (suc c.inputs) (length c.latches) v base (λ k low high. gates-below first c.gates base k (omega arith)) in
    record {
      gates = gates-satisfied first c.gates base valid.ordered;
      inputs = e ∙ (ap (λ n. bits_from 1 n inner) (sym i) ∙ bits_from-bits 1 input (λ k. false));
      latches = f ∙ (ap (λ n. bits_from (suc c.inputs) n base) (sym s) ∙ bits_from-bits (suc c.inputs) state inner);
    }

pub trace_is : (c : Circuit) (state : List Bool) (inputs : List (List Bool)) → IsCircuit c → length state ≡ length c.latches → All (λ input. length input ≡ c.inputs) inputs → IsCircuitTrace c state inputs (trace_from c state inputs)
trace_is c state [] valid s all = tt
trace_is c state (input ∷ inputs) valid s all =
    let v : Valuation = frame_of c state input in
    let n : length (next_latch_bits c v) ≡ length c.latches = length-map c.latches (λ (latch : Latch). literal_value v latch.next) in (
      frame_is c state input valid s (All-head (λ (x : List Bool). length x ≡ c.inputs) input inputs all),
      trace_is c (next_latch_bits c v) inputs valid n (All-tail (λ (x : List Bool). length x ≡ c.inputs) input inputs all),
    )
