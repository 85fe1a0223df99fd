-- A text has one judgement over a circuit: the circuit has one trace, and a judgement looks only at its literals.
use Rattle.std.proofs.Common.{◌≡◌, ℕ, suc, Bool, List, [], ◌∷◌, length, map, refl, sym, ap, ap₂, ◌∙◌, arith}
use Rattle.std.specs.List.{AllByRecursion}
use Rattle.std.proofs.lemmas.List.Elements.{recursion_from_All}
use Rattle.base.specs.Lines.{whole_lines}
use Rattle.base.specs.Literal.{Valuation, literal_value}
use Rattle.aiger.specs.Net.{variables, IsDefined}
use Rattle.aiger.specs.Circuit.{Circuit, IsCircuit, net}
use Rattle.aiger.specs.Trace.{SameCircuitFrame, SameCircuitTrace}
use Rattle.aiger.proofs.TraceLemmas.{literal_value-agree, trace_exists, trace_unique}
use Rattle.aiger.specs.Reachability.{circuit_shows}
use Rattle.witness.specs.declared.judgement.Judgement.{Judgement}
use Rattle.witness.specs.BitTexts.{BitWitness, IsBitWitness}
use Rattle.witness.specs.BitAdmits.{BitRead, read_bit_text, bit_witness_of}
use Rattle.witness.specs.BitJudgements.{makes_no_bit_claim, JudgesBits, BitJudges, first_reset_differing}
use Rattle.witness.proofs.BitReadLemmas.{bit_read_says}
use Rattle.witness.proofs.JudgedLemmas.{some_judged, judged_once}
use Rattle.witness.specs.Judgements.{verdict}

-- ---- traces that are the same show the same

-- a literal that is defined says the same in the same frames
pub same_bit : (c : Circuit) (v w : Valuation) (l : ℕ) → SameCircuitFrame c v w → IsDefined (net c) l → literal_value v l ≡ literal_value w l
same_bit c v w l same defined =
    literal_value-agree (suc (variables (net c))) v w l (λ k low high. same k low (omega arith)) (omega (arith, defined))

bits_same : (c : Circuit) (v w : Valuation) (ls : List ℕ) → SameCircuitFrame c v w → AllByRecursion (IsDefined (net c)) ls → map (literal_value v) ls ≡ map (literal_value w) ls
bits_same c v w [] same defined = refl
bits_same c v w (l ∷ ls) same defined = ap₂ (λ (b : Bool) (bs : List Bool). b ∷ bs) (same_bit c v w l same defined.0) (bits_same c v w ls same defined.1)

-- what each frame says of literals is the same
said_same : {A : Type 0} (says : Valuation → A) (c : Circuit) (vs ws : List Valuation) → ((v w : Valuation) → SameCircuitFrame c v w → says v ≡ says w) → SameCircuitTrace c vs ws → map says vs ≡ map says ws
said_same says c [] [] each same = refl
said_same says c [] (w ∷ ws) each same = absurd same
said_same says c (v ∷ vs) [] each same = absurd same
said_same says c (v ∷ vs) (w ∷ ws) each same = ap₂ (λ x xs. x ∷ xs) (each v w same.0) (said_same says c vs ws each same.1)

-- so they show the same
pub shown_same : (c : Circuit) (vs us : List Valuation) → IsCircuit c → SameCircuitTrace c vs us → map (circuit_shows c) vs ≡ map (circuit_shows c) us
shown_same c vs us circuit same =
    let bads = recursion_from_All (IsDefined (net c)) c.bads circuit.defined.bads in
    let constraints = recursion_from_All (IsDefined (net c)) c.constraints circuit.defined.constraints in
    said_same (circuit_shows c) c vs us (λ v w alike. rw (bits_same c v w c.bads alike bads, bits_same c v w c.constraints alike constraints) refl) same

-- ---- one judgement

bits_judged : (c : Circuit) (w : BitWitness) → IsCircuit c → IsBitWitness c w → (j : Judgement) × JudgesBits c w j
bits_judged c w circuit valid =
    let trace = trace_exists c w.initial w.frames circuit valid.initial valid.frames in (
      verdict (first_reset_differing 0 c.latches w.initial) (w.claim ∷ []) (length c.bads) (map (circuit_shows c) trace.0),
      λ vs h. ap (verdict (first_reset_differing 0 c.latches w.initial) (w.claim ∷ []) (length c.bads)) (shown_same c trace.0 vs circuit (trace_unique c w.initial w.frames trace.0 vs circuit trace.1 h)),
    )

bits_judged_once : (c : Circuit) (w : BitWitness) (j k : Judgement) → IsCircuit c → IsBitWitness c w → JudgesBits c w j → JudgesBits c w k → j ≡ k
bits_judged_once c w j k circuit valid first second =
    let trace = trace_exists c w.initial w.frames circuit valid.initial valid.frames in
    first trace.0 trace.1 ∙ sym (second trace.0 trace.1)

-- a text has a judgement
pub some_bit_judgement : (c : Circuit) (text : List ℕ) → IsCircuit c → (j : Judgement) × BitJudges c text j
some_bit_judgement c text circuit =
    some_judged (λ (r : BitRead). JudgesBits c (bit_witness_of r)) (makes_no_bit_claim (whole_lines text)) (read_bit_text c text) (λ r is. bits_judged c (bit_witness_of r) circuit (bit_read_says c text r circuit is).valid)

-- and no other
pub same_bit_judgement : (c : Circuit) (text : List ℕ) (j k : Judgement) → IsCircuit c → BitJudges c text j → BitJudges c text k → j ≡ k
same_bit_judgement c text j k circuit =
    judged_once (λ (r : BitRead). JudgesBits c (bit_witness_of r)) (makes_no_bit_claim (whole_lines text)) (read_bit_text c text) j k
    (λ r is. bits_judged_once c (bit_witness_of r) j k circuit (bit_read_says c text r circuit is).valid)
