-- What is printed of the refusals of a test: a number, a space and a name.
use Rattle.std.specs.Prelude.{ℕ, List, codes}
use Rattle.witness_circuits.specs.declared.fault.TestFault.{TestFault}
use Rattle.witness_circuits.specs.declared.fault.TestFault.TheVariants as fault

-- the number that is printed for a refusal
abbrev pub test_number : TestFault → ℕ
test_number fault.Justice = 210
test_number fault.Fair = 211
test_number fault.NoProperty = 212
test_number fault.SeveralProperties = 213
test_number fault.NoSuchLiteral = 214
test_number fault.NoSuchBad = 215
test_number fault.TooBig = 216
test_number fault.NoMemory = 217

-- the name that is printed for a refusal
abbrev pub test_name : TestFault → List ℕ
test_name fault.Justice = codes "Justice"
test_name fault.Fair = codes "Fair"
test_name fault.NoProperty = codes "NoProperty"
test_name fault.SeveralProperties = codes "SeveralProperties"
test_name fault.NoSuchLiteral = codes "NoSuchLiteral"
test_name fault.NoSuchBad = codes "NoSuchBad"
test_name fault.TooBig = codes "TooBig"
test_name fault.NoMemory = codes "NoMemory"
