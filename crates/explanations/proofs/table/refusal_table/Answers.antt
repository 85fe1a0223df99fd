use Rattle.std.proofs.Common.{refl}
use Rattle.certificates.specs.declared.certificate_fault.CertificateFault.TheVariants as certificate
use Rattle.certificates.specs.declared.claim_fault.ClaimFault.TheVariants as claim
use Rattle.certificates.specs.declared.fault.ObligationFault.TheVariants as obligation
use Rattle.certificates.specs.declared.why.InvariantWhy.TheVariants as invariant
use Rattle.drup.specs.declared.fault.ClauseFault.TheVariants as clause
use Rattle.engine_form.specs.declared.fault.EngineFault.TheVariants as engine
use Rattle.tidy.specs.declared.fault.TidyFault.TheVariants as tidying
use Rattle.witness_circuits.specs.declared.fault.TestFault.TheVariants as test
use Rattle.explanations.proofs.table.refusal_table.Goals as goal

pub returns-clause-names : goal.returns-clause-names
returns-clause-names c = refl

pub returns-clause-engines : goal.returns-clause-engines
returns-clause-engines c engine.Justice = refl
returns-clause-engines c engine.Fair = refl
returns-clause-engines c engine.NoBad = refl
returns-clause-engines c engine.NoSuchBad = refl
returns-clause-engines c engine.TooBig = refl
returns-clause-engines c engine.NoMemory = refl

pub returns-clause-invariants : goal.returns-clause-invariants
returns-clause-invariants c invariant.BadInputs = refl
returns-clause-invariants c invariant.BadOutputs = refl
returns-clause-invariants c invariant.BadCount = refl
returns-clause-invariants c invariant.BadNames = refl
returns-clause-invariants c invariant.NoSuchLatch = refl
returns-clause-invariants c invariant.NamedTwice = refl
returns-clause-invariants c invariant.WrongNames = refl
returns-clause-invariants c invariant.BadOutput = refl
returns-clause-invariants c invariant.BadCube = refl
returns-clause-invariants c invariant.WrongLength = refl
returns-clause-invariants c invariant.HoldsAtStart = refl
returns-clause-invariants c invariant.WrongCubes = refl
returns-clause-invariants c invariant.BehindEnd = refl
returns-clause-invariants c invariant.CutOff = refl
returns-clause-invariants c invariant.NoMemory = refl
returns-clause-invariants c invariant.Device = refl

pub returns-clause-obligations : goal.returns-clause-obligations
returns-clause-obligations c obligation.TooBig = refl
returns-clause-obligations c obligation.NoMemory = refl

pub returns-clause-claims : goal.returns-clause-claims
returns-clause-claims c (claim.Form e) = returns-clause-engines c e
returns-clause-claims c (claim.Invariant e) = returns-clause-invariants c e.why
returns-clause-claims c (claim.Obligation e) = returns-clause-obligations c e

pub returns-clause-tidying : goal.returns-clause-tidying
returns-clause-tidying c tidying.Read = refl
returns-clause-tidying c tidying.Write = refl

pub returns-clause-tests : goal.returns-clause-tests
returns-clause-tests c test.Justice = refl
returns-clause-tests c test.Fair = refl
returns-clause-tests c test.NoProperty = refl
returns-clause-tests c test.SeveralProperties = refl
returns-clause-tests c test.NoSuchLiteral = refl
returns-clause-tests c test.NoSuchBad = refl
returns-clause-tests c test.TooBig = refl
returns-clause-tests c test.NoMemory = refl

pub returns-clause-certificates : goal.returns-clause-certificates
returns-clause-certificates c (certificate.Claim e) = returns-clause-claims c e
returns-clause-certificates c (certificate.Judge clause.NoMemory) = refl
returns-clause-certificates c certificate.Device = refl
