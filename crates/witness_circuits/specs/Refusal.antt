-- Which witness circuits have no test for a bad property of a circuit, and why.
use Rattle.std.specs.Prelude.{◌≡◌, ℕ, List, ◌+◌, ◌==◌, length, not, Option, Some, None, Result, Ok, Err, if◌then◌else◌, nat_lt, ◌⊎◌}
use Rattle.aiger.specs.Limits.{greatest_count}
use Rattle.aiger.specs.Circuit.{Circuit}
use Rattle.witness_circuits.specs.Mapping.{said_by_names, are_inside}
use Rattle.witness_circuits.specs.Certificate.{property_candidates}
use Rattle.witness_circuits.specs.Tests.{test_inputs, test_cost}
use Rattle.witness_circuits.specs.declared.fault.TestFault.{TestFault}
use Rattle.witness_circuits.specs.declared.fault.TestFault.TheVariants as fault

-- the variables at most of a test: its inputs, and the gates at most
abbrev pub test_bound : Circuit → Circuit → ℕ
test_bound c w = test_inputs c w + test_cost c w

-- the first refusal that applies, if any: the witness circuit has a justice property, a fairness constraint, no property, several, or a name that says a literal which
-- the circuit does not have; the circuit has no such bad property; or the test may take more variables than a circuit may have
abbrev pub test_refusal : Option (List ℕ) → Circuit → ℕ → Circuit → Option TestFault
test_refusal n c k w =
    if nat_lt 0 (length w.justice) then Some fault.Justice
    else (if nat_lt 0 (length w.fair) then Some fault.Fair
    else (if length (property_candidates w) == 0 then Some fault.NoProperty
    else (if nat_lt 1 (length (property_candidates w)) then Some fault.SeveralProperties
    else (if not (are_inside c (said_by_names n w)) then Some fault.NoSuchLiteral
    else (if not (nat_lt k (length c.bads)) then Some fault.NoSuchBad
    else (if nat_lt greatest_count (test_bound c w) then Some fault.TooBig else None))))))

-- what is answered is the first refusal that applies, and where none applies a test, or want of memory
abbrev pub AnswersTest : {T : Type 0} → Result T TestFault → Option TestFault → Type 0
AnswersTest (Ok t) r = r ≡ None
AnswersTest (Err e) r = (r ≡ Some e) ⊎ ((r ≡ None) × (e ≡ fault.NoMemory))
