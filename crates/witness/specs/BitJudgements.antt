-- The judgement of a text over a circuit ("AIGER 1.9 and Beyond", semantics; the order of the six answers is this project's).
use Rattle.std.specs.Prelude.{◌≡◌, ℕ, suc, Bool, false, not, ◌||◌, List, [], ◌∷◌, Option, Some, None, codes, map, length, if◌then◌else◌}
use Rattle.std.specs.Str.{bytes_eq}
use Rattle.base.specs.Lines.{whole_lines}
use Rattle.aiger.specs.declared.circuit.Latch.{Latch}
use Rattle.aiger.specs.declared.circuit.Reset.{Reset}
use Rattle.aiger.specs.declared.circuit.Reset.TheVariants.{Zero, One, Free}
use Rattle.base.specs.Literal.{Valuation}
use Rattle.aiger.specs.Circuit.{Circuit}
use Rattle.aiger.specs.Trace.{IsCircuitTrace}
use Rattle.aiger.specs.Reachability.{circuit_shows}
use Rattle.witness.specs.declared.judgement.Judgement.{Judgement}
use Rattle.witness.specs.Judgements.{verdict, JudgesAs}
use Rattle.witness.specs.BitTexts.{BitWitness}
use Rattle.witness.specs.Readings.{text_read}
use Rattle.witness.specs.BitAdmits.{bit_reader, bit_witness_of}

-- ---- what is looked for

-- a bit is not that of a reset
abbrev pub differs_from_reset : Reset → Bool → Bool
differs_from_reset Zero b = b
differs_from_reset One b = not b
differs_from_reset Free b = false

-- the first latch whose bit is not that of its reset; latches are counted from k on
abbrev pub first_reset_differing : ℕ → List Latch → List Bool → Option ℕ
first_reset_differing k [] bits = None
first_reset_differing k (l ∷ ls) [] = None
first_reset_differing k (l ∷ ls) (b ∷ bs) = if differs_from_reset l.reset b then Some k else first_reset_differing (suc k) ls bs

-- ---- the judgement

-- the first line is whole, and says that there is no counterexample, or that none is known
abbrev pub makes_no_bit_claim : List (List ℕ) → Bool
makes_no_bit_claim [] = false
makes_no_bit_claim (line ∷ lines) = bytes_eq line (codes "0") || bytes_eq line (codes "2")

-- what is judged of a witness, by the circuit's one trace from its bits
abbrev pub JudgesBits : Circuit → BitWitness → Judgement → Type 0
JudgesBits c w j =
    (vs : List Valuation) → IsCircuitTrace c w.initial w.frames vs
    → j ≡ verdict (first_reset_differing 0 c.latches w.initial) (w.claim ∷ []) (length c.bads) (map (circuit_shows c) vs)

-- the judgement of a text over a circuit
abbrev pub BitJudges : Circuit → List ℕ → Judgement → Type 0
BitJudges c text j = JudgesAs (λ r. JudgesBits c (bit_witness_of r)) (makes_no_bit_claim (whole_lines text)) (text_read (bit_reader c) text) j
