-- Traces of the worked circuits, and what is judged of them.
use Rattle.std.proofs.Common.{◌≡◌, true, false, List, [], ◌∷◌, length, map, refl}
use Rattle.base.specs.Literal.{Valuation}
use Rattle.aiger.specs.Circuit.{Circuit}
use Rattle.aiger.specs.Trace.{IsCircuitTrace}
use Rattle.aiger.specs.Reachability.{circuit_shows}
use Rattle.aiger.specs.Worked.{toggler}
use Rattle.witness.specs.declared.judgement.Judgement.TheVariants as judgement
use Rattle.witness.specs.BitTexts.{BitWitness}
use Rattle.witness.specs.declared.judgement.Judgement.{Judgement}
use Rattle.witness.specs.Judgements.{verdict}
use Rattle.witness.specs.BitJudgements.{first_reset_differing}
use Rattle.witness.specs.Worked.{constrained_circuit, kept_latches, one_input, toggles_once}

-- what is judged of a witness by a trace
abbrev pub bits_judged : Circuit → BitWitness → List Valuation → Judgement
bits_judged c w vs = verdict (first_reset_differing 0 c.latches w.initial) (w.claim ∷ []) (length c.bads) (map (circuit_shows c) vs)

-- the latch is 0 in the first frame and 1 in the second
pub toggles_judged : (vs : List Valuation) → IsCircuitTrace toggler (false ∷ []) ([] ∷ [] ∷ []) vs → judgement.Accepted 2 ≡ bits_judged toggler toggles_once vs
toggles_judged [] t = absurd t
toggles_judged (v ∷ []) t = absurd t.1
toggles_judged (v ∷ w ∷ []) t =
    let first : v 1 ≡ false = cc (t.0.latches) in
    let second : w 1 ≡ true = cc (t.1.0.latches) in
    rw (first, second) refl
toggles_judged (v ∷ w ∷ u ∷ vs) t = absurd t.1.1

abbrev pub one_frame_of_toggler : BitWitness
one_frame_of_toggler = record { claim = 0; initial = false ∷ []; frames = [] ∷ [] }

pub does_not_toggle_judged : (vs : List Valuation) → IsCircuitTrace toggler (false ∷ []) ([] ∷ []) vs → judgement.NotReached 0 ≡ bits_judged toggler one_frame_of_toggler vs
does_not_toggle_judged [] t = absurd t
does_not_toggle_judged (v ∷ []) t =
    let first : v 1 ≡ false = cc (t.0.latches) in
    rw first refl
does_not_toggle_judged (v ∷ w ∷ vs) t = absurd t.1

-- the constraint holds in the first frame, and fails in the second
pub violation_judged : (vs : List Valuation) → IsCircuitTrace constrained_circuit (false ∷ []) ([] ∷ [] ∷ []) vs → judgement.Violated 1 0 ≡ bits_judged constrained_circuit toggles_once vs
violation_judged [] t = absurd t
violation_judged (v ∷ []) t = absurd t.1
violation_judged (v ∷ w ∷ []) t =
    let first : v 1 ≡ false = cc (t.0.latches) in
    let second : w 1 ≡ true = cc (t.1.0.latches) in
    rw (first, second) refl
violation_judged (v ∷ w ∷ u ∷ vs) t = absurd t.1.1

abbrev pub second_is_one : BitWitness
second_is_one = record { claim = 0; initial = false ∷ true ∷ []; frames = [] ∷ [] }

-- the second latch is 1
pub free_judged : (vs : List Valuation) → IsCircuitTrace kept_latches (false ∷ true ∷ []) ([] ∷ []) vs → judgement.Accepted 1 ≡ bits_judged kept_latches second_is_one vs
free_judged [] t = absurd t
free_judged (v ∷ []) t =
    let second : v 2 ≡ true = cc (t.0.latches) in
    rw second refl
free_judged (v ∷ w ∷ vs) t = absurd t.1

abbrev pub input_is_last : BitWitness
input_is_last = record { claim = 0; initial = []; frames = (false ∷ []) ∷ (true ∷ []) ∷ [] }

-- the input is 1 in the second frame
pub input_judged : (vs : List Valuation) → IsCircuitTrace one_input [] ((false ∷ []) ∷ (true ∷ []) ∷ []) vs → judgement.Accepted 2 ≡ bits_judged one_input input_is_last vs
input_judged [] t = absurd t
input_judged (v ∷ []) t = absurd t.1
input_judged (v ∷ w ∷ []) t =
    let first : v 1 ≡ false = cc (t.0.inputs) in
    let second : w 1 ≡ true = cc (t.1.0.inputs) in
    rw (first, second) refl
input_judged (v ∷ w ∷ u ∷ vs) t = absurd t.1.1
