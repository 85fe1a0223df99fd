-- What is known where nothing speaks against a test.
use Rattle.std.proofs.Common.{◌≡◌, ℕ, Bool, true, false, not, List, Option, None, Some, refl}
use Rattle.std.specs.Prelude.{if◌then◌else◌, nat_lt, ◌==◌, length}
use Rattle.std.proofs.lemmas.Bool.{not-false}
use Rattle.aiger.specs.Limits.{greatest_count}
use Rattle.aiger.specs.Circuit.{Circuit}
use Rattle.witness_circuits.specs.declared.fault.TestFault.{TestFault}
use Rattle.witness_circuits.specs.declared.fault.TestFault.TheVariants as fault
use Rattle.witness_circuits.specs.Mapping.{said_by_names, are_inside}
use Rattle.witness_circuits.specs.Certificate.{property_candidates}
use Rattle.witness_circuits.specs.Refusal.{test_refusal, test_bound}

-- the fifth of some refusals does not apply where none does
fifth : (a b d e f : Bool) (rest : Option TestFault)
    → (if a then Some fault.Justice else (if b then Some fault.Fair else (if d then Some fault.NoProperty else (if e then Some fault.SeveralProperties else (if f then Some fault.NoSuchLiteral else rest))))) ≡ None → f ≡ false
fifth true b d e f rest h = absurd (cc)
fifth false true d e f rest h = absurd (cc)
fifth false false true e f rest h = absurd (cc)
fifth false false false true f rest h = absurd (cc)
fifth false false false false true rest h = absurd (cc)
fifth false false false false false rest h = refl

-- the names say literals of the circuit
pub accepted_inside : (n : Option (List ℕ)) (c : Circuit) (k : ℕ) (w : Circuit) → test_refusal n c k w ≡ None → are_inside c (said_by_names n w) ≡ true
accepted_inside n c k w h =
    not-false (are_inside c (said_by_names n w))
    (fifth (nat_lt 0 (length w.justice)) (nat_lt 0 (length w.fair)) (length (property_candidates w) == 0) (nat_lt 1 (length (property_candidates w))) (not (are_inside c (said_by_names n w)))
    (if not (nat_lt k (length c.bads)) then Some fault.NoSuchBad else (if nat_lt greatest_count (test_bound c w) then Some fault.TooBig else None)) h)
