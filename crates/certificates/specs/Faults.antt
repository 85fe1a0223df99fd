-- What is printed of what is wrong with the text of an invariant, of why it is not read, of why there is no obligation, and of why a certificate is not judged: a
-- number, a space and a name; and the line of the text that is meant.
use Rattle.std.specs.Prelude.{ℕ, List, Option, None, Some, codes}
use Rattle.engine_form.specs.Faults.{engine_fault_number as engine_number, engine_fault_name as engine_name}
use Rattle.drup.specs.Faults.{clause_number, clause_name}
use Rattle.certificates.specs.declared.why.InvariantWhy.{InvariantWhy}
use Rattle.certificates.specs.declared.why.InvariantWhy.TheVariants as why
use Rattle.certificates.specs.declared.fault.ObligationFault.{ObligationFault}
use Rattle.certificates.specs.declared.fault.ObligationFault.TheVariants as fault
use Rattle.certificates.specs.declared.claim_fault.ClaimFault.{ClaimFault}
use Rattle.certificates.specs.declared.claim_fault.ClaimFault.TheVariants as claim
use Rattle.certificates.specs.declared.certificate_fault.CertificateFault.{CertificateFault}
use Rattle.certificates.specs.declared.certificate_fault.CertificateFault.TheVariants as certificate

-- the number that is printed for what is wrong
abbrev pub invariant_why_number : InvariantWhy → ℕ
invariant_why_number why.BadInputs = 180
invariant_why_number why.BadOutputs = 181
invariant_why_number why.BadCount = 182
invariant_why_number why.BadNames = 183
invariant_why_number why.NoSuchLatch = 184
invariant_why_number why.NamedTwice = 185
invariant_why_number why.WrongNames = 186
invariant_why_number why.BadOutput = 187
invariant_why_number why.BadCube = 188
invariant_why_number why.WrongLength = 189
invariant_why_number why.HoldsAtStart = 190
invariant_why_number why.WrongCubes = 191
invariant_why_number why.BehindEnd = 192
invariant_why_number why.CutOff = 193
invariant_why_number why.NoMemory = 194
invariant_why_number why.Device = 195

-- and the name
abbrev pub invariant_why_name : InvariantWhy → List ℕ
invariant_why_name why.BadInputs = codes "BadInputs"
invariant_why_name why.BadOutputs = codes "BadOutputs"
invariant_why_name why.BadCount = codes "BadCount"
invariant_why_name why.BadNames = codes "BadNames"
invariant_why_name why.NoSuchLatch = codes "NoSuchLatch"
invariant_why_name why.NamedTwice = codes "NamedTwice"
invariant_why_name why.WrongNames = codes "WrongNames"
invariant_why_name why.BadOutput = codes "BadOutput"
invariant_why_name why.BadCube = codes "BadCube"
invariant_why_name why.WrongLength = codes "WrongLength"
invariant_why_name why.HoldsAtStart = codes "HoldsAtStart"
invariant_why_name why.WrongCubes = codes "WrongCubes"
invariant_why_name why.BehindEnd = codes "BehindEnd"
invariant_why_name why.CutOff = codes "CutOff"
invariant_why_name why.NoMemory = codes "NoMemory"
invariant_why_name why.Device = codes "Device"

-- the number that is printed for why there is no obligation
abbrev pub obligation_number : ObligationFault → ℕ
obligation_number fault.TooBig = 196
obligation_number fault.NoMemory = 197

-- and the name
abbrev pub obligation_name : ObligationFault → List ℕ
obligation_name fault.TooBig = codes "TooBig"
obligation_name fault.NoMemory = codes "NoMemory"

-- the number that is printed for why an invariant owes no formula
abbrev pub claim_number : ClaimFault → ℕ
claim_number (claim.Form e) = engine_number e
claim_number (claim.Invariant e) = invariant_why_number e.why
claim_number (claim.Obligation e) = obligation_number e

-- and the name
abbrev pub claim_name : ClaimFault → List ℕ
claim_name (claim.Form e) = engine_name e
claim_name (claim.Invariant e) = invariant_why_name e.why
claim_name (claim.Obligation e) = obligation_name e

-- the line of the invariant's text that is meant, if one is
abbrev pub claim_line : ClaimFault → Option ℕ
claim_line (claim.Form e) = None
claim_line (claim.Invariant e) = Some e.line
claim_line (claim.Obligation e) = None

-- the number that is printed for why a certificate is not judged
abbrev pub certificate_number : CertificateFault → ℕ
certificate_number (certificate.Claim e) = claim_number e
certificate_number (certificate.Judge e) = clause_number e
certificate_number certificate.Device = 198

-- and the name
abbrev pub certificate_name : CertificateFault → List ℕ
certificate_name (certificate.Claim e) = claim_name e
certificate_name (certificate.Judge e) = clause_name e
certificate_name certificate.Device = codes "Device"

-- the line of the invariant's text that is meant, if one is
abbrev pub certificate_line : CertificateFault → Option ℕ
certificate_line (certificate.Claim e) = claim_line e
certificate_line (certificate.Judge e) = None
certificate_line certificate.Device = None
