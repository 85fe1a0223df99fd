-- What the text of a witness circuit owes for a bad property of a circuit: the formula of its test; and why it owes none.
use Rattle.std.specs.Prelude.{◌≡◌, ◌⊎◌, ℕ, List, [], Option, Some, None, IfSome, Result, Err}
use Rattle.base.specs.Device.{HasRisen}
use Rattle.aiger.specs.Circuit.{Circuit}
use Rattle.aigertext.specs.AsciiReading.{IsAsciiFaultOf}
use Rattle.aigertext.specs.Spelling.{IsCircuitText}
use Rattle.aigertext.specs.declared.fault.ReadFault.{ReadFault}
use Rattle.aigertext.specs.declared.fault.Why.{Why}
use Rattle.aigertext.specs.declared.fault.Why.TheVariants as why
use Rattle.drup.specs.Formula.{Formula}
use Rattle.engine_form.specs.Refusal.{engine_refusal, AnswersForm}
use Rattle.certificates.specs.Certificates.{IsFormFor}
use Rattle.certificates.specs.Obligation.{obligation}
use Rattle.witness_circuits.specs.Mapping.{mapping_of}
use Rattle.witness_circuits.specs.Refusal.{test_refusal, AnswersTest}
use Rattle.witness_circuits.specs.Tests.{IsTestOf}
use Rattle.witness_circuits.specs.declared.witness_fault.WitnessFault.{WitnessFault}
use Rattle.witness_circuits.specs.declared.witness_fault.WitnessFault.TheVariants as witness

-- a circuit is the test of the witness circuit that a text spells, against which nothing speaks, whose names speak of the literals of the circuit's file, by its numbering
pub record IsTestedBy (n : Option (List ℕ)) (c : Circuit) (k : ℕ) (known : Option (List ℕ)) (t : Circuit) : Type 0 where
  pub witness : Circuit
  pub text : IsCircuitText known witness
  pub accepted : test_refusal n c k witness ≡ None
  pub is_test : IsTestOf c k witness (mapping_of n c witness) t

-- a formula is what the text of a witness circuit owes: the obligation of its test, of no cubes
pub record IsTestedFormula (n : Option (List ℕ)) (c : Circuit) (k : ℕ) (known : Option (List ℕ)) (f : Formula) : Type 0 where
  pub test : Circuit
  pub tested : IsTestedBy n c k known test
  pub is_obligation : f ≡ obligation test []

-- why a text owes none: it spells no circuit, and this is its first fault; or it spells one, and the first refusal of its test applies; or a growth was refused, or the source failed
abbrev pub HasNoTest : Option (List ℕ) → Circuit → ℕ → Option (List ℕ) → WitnessFault → Type 0
HasNoTest n c k known (witness.Form e) = ⊥
HasNoTest n c k known (witness.Text e) = IfSome known (λ text. (e.why ≡ why.Device) ⊎ ((e.why ≡ why.NoMemory) ⊎ IsAsciiFaultOf text e))
HasNoTest n c k known (witness.Test e) = (w : Circuit) × IsCircuitText known w × AnswersTest {T = Circuit} (Err e) (test_refusal n c k w)

-- a source's count of failures, before and after the reading of a text that ends so: one more where it failed, and else as before
abbrev pub CountsCircuitWhy : Why → ℕ → ℕ → Type 0
CountsCircuitWhy why.Device old new = HasRisen old new
CountsCircuitWhy _ old new = new ≡ old

abbrev pub CountsWitness : {T : Type 0} → Result T WitnessFault → ℕ → ℕ → Type 0
CountsWitness (Err (witness.Text e)) old new = CountsCircuitWhy e.why old new
CountsWitness _ old new = new ≡ old

-- ---- over an engine form

-- a formula is what a text owes as a witness circuit of the engine form of a circuit with this bad property alone
pub record IsTestedOverForm (c : Circuit) (k : ℕ) (known : Option (List ℕ)) (f : Formula) : Type 0 where
  pub form : Circuit
  pub is_form : IsFormFor c k form
  pub tested : IsTestedFormula None form 0 known f

-- the circuit has the engine form, and over that a text owes none
pub record HasFormWithoutTest (c : Circuit) (k : ℕ) (known : Option (List ℕ)) (e : WitnessFault) : Type 0 where
  pub form : Circuit
  pub is_form : IsFormFor c k form
  pub none : HasNoTest None form 0 known e

-- why a text owes none: the circuit has no engine form with this bad property, or over that the text owes none
abbrev pub HasNoTestOverForm : Circuit → ℕ → Option (List ℕ) → WitnessFault → Type 0
HasNoTestOverForm c k known (witness.Form e) = AnswersForm {T = Circuit} (Err e) (engine_refusal c (Some k))
HasNoTestOverForm c k known e = HasFormWithoutTest c k known e

-- something is so where there is no engine form
abbrev pub WithoutFormOfWitness : {T : Type 0} → Result T WitnessFault → Type 0 → Type 0
WithoutFormOfWitness (Err (witness.Form e)) so = so
WithoutFormOfWitness _ so = Unit {0}
