-- What the calls of a run of a circuit keep, and what they make of its bits.
use Rattle.std.proofs.Common.{◌≡◌, ℕ, suc, ◌+◌, ◌<◌, ◌≤◌, Bool, true, false, List, length, map, get_or, set, replicate, All, refl, sym, ap, subst, ◌∙◌, arith}
use Rattle.std.proofs.lemmas.List.{length-map, length-set, length-replicate, get_or-map, get_or-replicate, get_or-set_other}
use Rattle.std.proofs.lemmas.List.Elements.{All-from_get_or}
use Rattle.aiger.specs.declared.circuit.Latch.{Latch}
use Rattle.aiger.specs.declared.circuit.Reset.TheVariants.{Zero}
use Rattle.base.specs.Literal.{Valuation, variable, literal_value, bit_of, valuation_of, IsAnd}
use Rattle.aiger.specs.Limits.{greatest_count}
use Rattle.aiger.specs.Net.{variables, IsDefined, SatisfiesFrom, net_input_bits, latch_bits}
use Rattle.aiger.specs.Circuit.{Circuit, IsCircuit, net}
use Rattle.aiger.specs.Trace.{IsCircuitFrame, SameCircuitFrame, next_latch_bits}
use Rattle.aiger.proofs.TraceLemmas.{literal_value-agree, bits_from-agree, SameFrame-from_bits}
use Rattle.runs.specs.declared.arranging.Arrangement.{Arrangement}
use Rattle.runs.specs.Arranging.{first_gate, run_gates, IsArrangementOf, left_operand, right_operand, place_of, placed, placed_valuation}
use Rattle.runs.specs.CircuitRun.{CircuitRun, reset_bit, reset_bits, no_inputs}
use Rattle.runs.specs.CircuitHolds.{KeepsBits, IsCopied, IsPut}
use Rattle.runs.proofs.ArrangingLemmas.{variable-placed, placed-says, place_inside, have_bits}
use Rattle.runs.proofs.BitPassLemmas.{bits_from-is, bits_from-set, satisfies_at}

-- runs with equal parts are equal
pub circuit_run_same : (c : Circuit) (latches latches' inputs inputs' : List Bool) (settled : Bool) (steps steps' : ℕ) → latches ≡ latches' → inputs ≡ inputs' → steps ≡ steps'
    → let a : CircuitRun = record { circuit = c; latches = latches; inputs = inputs; settled = settled; steps = steps } in let b : CircuitRun = record { circuit = c; latches = latches'; inputs = inputs'; settled = settled; steps = steps' } in a ≡ b
circuit_run_same c latches latches' inputs inputs' settled steps steps' l i s = rw (l, i, s) refl

-- the bits of the latches, and of the inputs
abbrev pub latches_in : Circuit → List ℕ → List Bool
latches_in c bits = latch_bits (net c) (valuation_of bits)

abbrev pub inputs_in : Circuit → List ℕ → List Bool
inputs_in c bits = net_input_bits (net c) (valuation_of bits)

pub inputs_agree : (c : Circuit) (bits bits' : List ℕ) → ((p : ℕ) → 1 ≤ p → p ≤ c.inputs → valuation_of bits' p ≡ valuation_of bits p) → inputs_in c bits' ≡ inputs_in c bits
inputs_agree c bits bits' same = bits_from-agree 1 c.inputs (valuation_of bits') (valuation_of bits) (λ p low high. same p low (omega arith))

pub latches_agree : (c : Circuit) (bits bits' : List ℕ) → ((p : ℕ) → c.inputs < p → p ≤ c.inputs + length c.latches → valuation_of bits' p ≡ valuation_of bits p) → latches_in c bits' ≡ latches_in c bits
latches_agree c bits bits' same = bits_from-agree (suc c.inputs) (length c.latches) (valuation_of bits') (valuation_of bits) (λ p low high. same p (omega arith) (omega arith))

-- variables of a circuit have places in a run
pub place_defined : (c : Circuit) (a : Arrangement) → IsArrangementOf c a → (l : ℕ) → IsDefined (net c) l → place_of a.places (variable l) < variables (net c) + 1
place_defined c a is l d = let inside = place_inside (first_gate c) c.gates a.places (run_gates c a) (omega arith) is (variable l) (omega arith) in omega arith

module _ (c : Circuit) (a : Arrangement) (nexts bits next_bits : List ℕ) (settled : Bool) (k : KeepsBits c a nexts bits next_bits settled) where
  -- a literal of the circuit is one of the list
  pub placed_inside : (l : ℕ) → IsDefined (net c) l → variable (placed a.places l) < length bits
  placed_inside l d = omega (arith, k.many, variable-placed a.places l, place_defined c a k.arranged l d)

  -- and its place is small
  pub place_small : (l : ℕ) → IsDefined (net c) l → place_of a.places (variable l) ≤ greatest_count
  place_small l d = omega (arith, k.valid.small, place_defined c a k.arranged l d)

  pub many_nexts : length nexts ≡ length c.latches
  many_nexts = ap length k.are_nexts ∙ length-map c.latches (λ (l : Latch). placed a.places l.next)

  next_at : (j : ℕ) (d : Latch) → j < length c.latches → get_or nexts j 0 ≡ placed a.places (get_or c.latches j d).next
  next_at j d h = ap (λ (l : List ℕ). get_or l j 0) k.are_nexts ∙ get_or-map (λ (l : Latch). placed a.places l.next) c.latches j d 0 h

  pub nexts_inside : All (λ l. variable l < length bits) nexts
  nexts_inside =
      All-from_get_or (λ l. variable l < length bits) nexts 0 (λ j h.
      let d : Latch = record { next = 0; reset = Zero } in
      let within : j < length c.latches = omega (arith, many_nexts) in
      subst (λ (l : ℕ). variable l < length bits) (sym (next_at j d within)) (placed_inside (get_or c.latches j d).next (k.valid.defined.nexts j d within)))

  -- inputs and latches stay at their numbers
  stays : (v : ℕ) → v < first_gate c → placed_valuation a.places bits v ≡ valuation_of bits v
  stays v h = ap (valuation_of bits) (k.arranged.below v h)

  -- its bit is that of the frame that the run is in
  pub literal_now : settled ≡ true → (v : Valuation) → IsCircuitFrame c (latches_in c bits) (inputs_in c bits) v → (l : ℕ) → IsDefined (net c) l → literal_value (valuation_of bits) (placed a.places l) ≡ literal_value v l
  literal_now done v frame l d =
      let placed_bits : Valuation = placed_valuation a.places bits in
      let own : IsCircuitFrame c (latches_in c bits) (inputs_in c bits) placed_bits =
      record {
        gates = k.gates done;
        inputs = bits_from-agree 1 c.inputs placed_bits (valuation_of bits) (λ p low high. stays p (omega arith));
        latches = bits_from-agree (suc c.inputs) (length c.latches) placed_bits (valuation_of bits) (λ p low high. stays p (omega arith));
      } in
      let same : SameCircuitFrame c placed_bits v = SameFrame-from_bits c (latches_in c bits) (inputs_in c bits) placed_bits v k.valid own frame in
      placed-says a.places bits l k.constant (k.arranged.below 0 (omega arith)) ∙ literal_value-agree (suc (variables (net c))) placed_bits v l (λ p low high. same p low (omega arith)) (omega arith)

  -- bits set for latches, or for inputs
  pub record AfterSet (bits' : List ℕ) (latches' inputs' : List Bool) : Type 0 where
    pub keeps : KeepsBits c a nexts bits' next_bits false
    pub latches : latches_in c bits' ≡ latches'
    pub inputs : inputs_in c bits' ≡ inputs'

  set_keeps : (place b : ℕ) → 0 < place → KeepsBits c a nexts (set bits place b) next_bits false
  set_keeps place b above =
      record {
        valid = k.valid;
        arranged = k.arranged;
        are_nexts = k.are_nexts;
        many = length-set bits place b ∙ k.many;
        many_latches = k.many_latches;
        constant = ap bit_of (get_or-set_other bits place 0 b 0 (omega arith)) ∙ k.constant;
        gates = λ e. absurd (cc);
      }

  pub set_latch_keeps : (j place b : ℕ) → j < length c.latches → place ≡ 1 + c.inputs + j → AfterSet (set bits place b) (set (latches_in c bits) j (bit_of b)) (inputs_in c bits)
  set_latch_keeps j place b inside at =
      record {
        keeps = set_keeps place b (omega arith);
        latches = bits_from-set (suc c.inputs) (length c.latches) bits j place b (omega arith) inside (omega (arith, k.many));
        inputs = inputs_agree c bits (set bits place b) (λ p low high. ap bit_of (get_or-set_other bits place p b 0 (omega arith)));
      }

  pub set_input_keeps : (j place b : ℕ) → j < c.inputs → place ≡ 1 + j → AfterSet (set bits place b) (latches_in c bits) (set (inputs_in c bits) j (bit_of b))
  set_input_keeps j place b inside at =
      record {
        keeps = set_keeps place b (omega arith);
        latches = latches_agree c bits (set bits place b) (λ p low high. ap bit_of (get_or-set_other bits place p b 0 (omega arith)));
        inputs = bits_from-set 1 c.inputs bits j place b (omega arith) inside (omega (arith, k.many));
      }

  put_keeps : (given : List Bool) (first : ℕ) (bits' : List ℕ) → 0 < first → IsPut given first bits bits' → KeepsBits c a nexts bits' next_bits false
  put_keeps given first bits' above put =
      record {
        valid = k.valid;
        arranged = k.arranged;
        are_nexts = k.are_nexts;
        many = put.as_many ∙ k.many;
        many_latches = k.many_latches;
        constant = put.below 0 above ∙ k.constant;
        gates = λ e. absurd (cc);
      }

  pub put_latches_keeps : (given : List Bool) (first : ℕ) (bits' : List ℕ) → first ≡ 1 + c.inputs → length given ≡ length c.latches → IsPut given first bits bits' → AfterSet bits' given (inputs_in c bits)
  put_latches_keeps given first bits' at many put =
      record {
        keeps = put_keeps given first bits' (omega arith) put;
        latches = bits_from-is (suc c.inputs) (length c.latches) (valuation_of bits') given many (λ j within. let same : suc c.inputs + j ≡ first + j = omega arith in ap (valuation_of bits') same ∙ put.put j (omega arith));
        inputs = inputs_agree c bits bits' (λ p low high. put.below p (omega arith));
      }

  pub put_inputs_keeps : (given : List Bool) (bits' : List ℕ) → length given ≡ c.inputs → IsPut given 1 bits bits' → AfterSet bits' (latches_in c bits) given
  put_inputs_keeps given bits' many put =
      record {
        keeps = put_keeps given 1 bits' (omega arith) put;
        latches = latches_agree c bits bits' (λ p low high. put.above p (omega arith));
        inputs = bits_from-is 1 c.inputs (valuation_of bits') given many (λ j within. put.put j (omega arith));
      }

  -- the gates given their bits
  pub record AfterSettle (bits' : List ℕ) : Type 0 where
    pub keeps : KeepsBits c a nexts bits' next_bits true
    pub latches : latches_in c bits' ≡ latches_in c bits
    pub inputs : inputs_in c bits' ≡ inputs_in c bits

  pub settle_keeps : (first : ℕ) (bits' : List ℕ) → first ≡ first_gate c → ((j : ℕ) → j < length (run_gates c a) → IsAnd (valuation_of bits') (first + j) (left_operand (run_gates c a) j) (right_operand (run_gates c a) j)) → ((p : ℕ) → p < first → get_or bits' p 0 ≡ get_or bits p 0) → length bits' ≡ length bits
      → AfterSettle bits'
  settle_keeps first bits' at gates others many =
      let place : first_gate c ≡ suc (c.inputs + length c.latches) = omega arith in
      let constant : valuation_of bits' 0 ≡ false = ap bit_of (others 0 (omega arith)) ∙ k.constant in
      let placed_bits : Valuation = placed_valuation a.places bits' in
      let own : SatisfiesFrom (first_gate c) c.gates placed_bits =
      satisfies_at (first_gate c) c.gates placed_bits (have_bits (first_gate c) c.gates a.places (run_gates c a) (omega arith) k.arranged bits' constant
      (λ j h. subst (λ (n : ℕ). IsAnd (valuation_of bits') (n + j) (left_operand (run_gates c a) j) (right_operand (run_gates c a) j)) at (gates j h))) in
      record {
        keeps = record {
          valid = k.valid;
          arranged = k.arranged;
          are_nexts = k.are_nexts;
          many = many ∙ k.many;
          many_latches = k.many_latches;
          constant = constant;
          gates = λ e. subst (λ (n : ℕ). SatisfiesFrom n c.gates placed_bits) place own;
        };
        latches = latches_agree c bits bits' (λ p low high. ap bit_of (others p (omega arith)));
        inputs = inputs_agree c bits bits' (λ p low high. ap bit_of (others p (omega arith)));
      }

  -- the latches moved and the inputs cleared: `put` are the bits between
  pub record AfterAdvance (next_bits' bits' : List ℕ) : Type 0 where
    pub keeps : KeepsBits c a nexts bits' next_bits' false
    pub latches : (v : Valuation) → IsCircuitFrame c (latches_in c bits) (inputs_in c bits) v → latches_in c bits' ≡ next_latch_bits c v
    pub inputs : inputs_in c bits' ≡ no_inputs c

  pub advance_keeps : settled ≡ true → (next_bits' put bits' : List ℕ) (first : ℕ) → first ≡ 1 + c.inputs
      → ((j : ℕ) → j < length nexts → valuation_of next_bits' j ≡ literal_value (valuation_of bits) (get_or nexts j 0)) → length next_bits' ≡ length next_bits
      → IsCopied next_bits' first bits put
      → ((j : ℕ) → j < c.inputs → valuation_of bits' (1 + j) ≡ false) → ((p : ℕ) → c.inputs < p → get_or bits' p 0 ≡ get_or put p 0) → get_or bits' 0 0 ≡ get_or put 0 0 → length bits' ≡ length put
      → AfterAdvance next_bits' bits'
  advance_keeps done next_bits' put bits' first at taken as_many is cleared others constant many' =
      record {
        keeps = record {
          valid = k.valid;
          arranged = k.arranged;
          are_nexts = k.are_nexts;
          many = many' ∙ is.as_many ∙ k.many;
          many_latches = as_many ∙ k.many_latches;
          constant = ap bit_of (constant ∙ is.below 0 (omega arith)) ∙ k.constant;
          gates = λ e. absurd (cc);
        };
        latches = λ v frame.
            bits_from-is (suc c.inputs) (length c.latches) (valuation_of bits') (next_latch_bits c v) (length-map c.latches (λ (l : Latch). literal_value v l.next)) (λ j within.
            let d : Latch = get_or c.latches j (record { next = 0; reset = Zero }) in
            let same : suc c.inputs + j ≡ first + j = omega arith in
            ap bit_of (others (suc c.inputs + j) (omega arith)) ∙ ap (valuation_of put) same ∙ ap bit_of (is.put j (omega (arith, as_many, k.many_latches))) ∙ taken j (omega (arith, many_nexts)) ∙ ap (literal_value (valuation_of bits)) (next_at j d within)
            ∙ literal_now done v frame (get_or c.latches j d).next (k.valid.defined.nexts j d within)
            ∙ sym (get_or-map (λ (l : Latch). literal_value v l.next) c.latches j d false within));
        inputs = bits_from-is 1 c.inputs (valuation_of bits') (no_inputs c) (length-replicate c.inputs false) (λ j within. cleared j within ∙ sym (get_or-replicate c.inputs j false false within));
      }

-- The bits of a new run: 0 each, and then those of the resets.
pub record Starts (c : Circuit) (a : Arrangement) (nexts next_bits bits : List ℕ) : Type 0 where
  pub keeps : KeepsBits c a nexts bits next_bits false
  pub latches : latches_in c bits ≡ reset_bits c.latches
  pub inputs : inputs_in c bits ≡ no_inputs c

pub starts : (c : Circuit) (a : Arrangement) (nexts blank next_bits bits : List ℕ) (first : ℕ) → IsCircuit c → IsArrangementOf c a → nexts ≡ map (λ l. placed a.places l.next) c.latches → first ≡ 1 + c.inputs → blank ≡ replicate (variables (net c) + 1) 0
    → ((j : ℕ) (d : Latch) → j < length c.latches → valuation_of next_bits j ≡ reset_bit (get_or c.latches j d).reset) → length next_bits ≡ length c.latches
    → IsCopied next_bits first blank bits → Starts c a nexts next_bits bits
starts c a nexts blank next_bits bits first valid arranged are_nexts at are_false taken as_many put =
    let are_zero : (p : ℕ) → p < first → valuation_of bits p ≡ false =
    λ p h. ap bit_of (put.below p h ∙ ap (λ (l : List ℕ). get_or l p 0) are_false ∙ get_or-replicate (variables (net c) + 1) p 0 0 (omega arith)) in
    record {
      keeps = record {
        valid = valid;
        arranged = arranged;
        are_nexts = are_nexts;
        many = put.as_many ∙ ap length are_false ∙ length-replicate (variables (net c) + 1) 0;
        many_latches = as_many;
        constant = are_zero 0 (omega arith);
        gates = λ e. absurd (cc);
      };
      latches = bits_from-is (suc c.inputs) (length c.latches) (valuation_of bits) (reset_bits c.latches) (length-map c.latches (λ (l : Latch). reset_bit l.reset)) (λ j within.
          let d : Latch = get_or c.latches j (record { next = 0; reset = Zero }) in
          let same : suc c.inputs + j ≡ first + j = omega arith in
          ap (valuation_of bits) same ∙ ap bit_of (put.put j (omega (arith, as_many))) ∙ taken j d within ∙ sym (get_or-map (λ (l : Latch). reset_bit l.reset) c.latches j d false within));
      inputs = bits_from-is 1 c.inputs (valuation_of bits) (no_inputs c) (length-replicate c.inputs false) (λ j within. are_zero (1 + j) (omega arith) ∙ sym (get_or-replicate c.inputs j false false within));
    }
