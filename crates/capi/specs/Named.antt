-- What the exported call that names refusals answers.
use Rattle.std.specs.Prelude.{◌≡◌, ◌≢◌, ℕ, ◌==◌, List, [], ◌∷◌, Option, None, Some, if◌then◌else◌}
use Rattle.aiger.specs.Refusal.{circuit_fault_name, circuit_fault_number}
use Rattle.aigerlists.specs.Renumbering.{loose_fault_name, loose_fault_number}
use Rattle.aiger.specs.declared.fault.CircuitFault.{CircuitFault}
use Rattle.aigerlists.specs.declared.fault.LooseFault.{LooseFault}
use Rattle.aigertext.specs.Whys.{circuit_why_name, circuit_why_number}
use Rattle.aigertext.specs.declared.fault.Why.{Why as CircuitWhy}
use Rattle.blast.specs.Faults.{convert_name, convert_number, lower_name, lower_number}
use Rattle.blast.specs.declared.fault.ConvertFault.{ConvertFault}
use Rattle.blast.specs.declared.fault.LowerFault.{LowerFault}
use Rattle.btor2.specs.Faults.{symbol_fault_name, symbol_fault_number}
use Rattle.btor2.specs.declared.symbol.SymbolFault.{SymbolFault}
use Rattle.btor2text.specs.Whys.{line_why_name, printed_number}
use Rattle.btor2text.specs.declared.fault.Why.{Why}
use Rattle.witness_circuits.specs.Faults.{test_name, test_number}
use Rattle.witness_circuits.specs.declared.fault.TestFault.{TestFault}
use Rattle.drup.specs.Faults.{clause_name, clause_number, formula_name, formula_number}
use Rattle.drup.specs.Printed.{proof_why_name as proof_name, proof_why_number as proof_number}
use Rattle.drup.specs.declared.fault.ClauseFault.{ClauseFault}
use Rattle.drup.specs.declared.fault.FormulaFault.{FormulaFault}
use Rattle.drup.specs.declared.why.Why.{Why as ProofWhy}
use Rattle.engine_form.specs.Faults.{engine_fault_name as engine_name, engine_fault_number as engine_number}
use Rattle.engine_form.specs.declared.fault.EngineFault.{EngineFault}
use Rattle.gates.specs.Faults.{gate_fault_name as gate_name, gate_fault_number as gate_number}
use Rattle.gates.specs.declared.fault.GateFault.{GateFault}
use Rattle.certificates.specs.Faults.{certificate_name, certificate_number, claim_name, claim_number}
use Rattle.certificates.specs.declared.certificate_fault.CertificateFault.{CertificateFault}
use Rattle.certificates.specs.declared.claim_fault.ClaimFault.{ClaimFault}
use Rattle.lift.specs.Answers.{lift_fault_name as lift_name, lift_fault_number as lift_number}
use Rattle.lift.specs.declared.fault.LiftFault.{LiftFault}
use Rattle.restore.specs.Faults.{restore_why_name as restore_name, restore_why_number as restore_number}
use Rattle.restore.specs.declared.fault.RestoreWhy.{RestoreWhy}
use Rattle.runs.specs.Faults.{new_name, new_number}
use Rattle.runs.specs.declared.fault.NewFault.{NewFault}
use Rattle.tidy.specs.Answers.{tidy_fault_name as tidy_name, tidy_fault_number as tidy_number}
use Rattle.tidy.specs.declared.fault.TidyFault.{TidyFault}
use Rattle.vcd.specs.Answers.{wave_fault_name as wave_name, wave_fault_number as wave_number}
use Rattle.vcd.specs.declared.fault.WaveFault.{WaveFault}
use Rattle.witness.specs.Answers.{judge_name, judge_number}
use Rattle.witness.specs.Printed.{why_number as witness_number, why_name as witness_name}
use Rattle.witness.specs.declared.fault.JudgeFault.{JudgeFault}
use Rattle.witness.specs.declared.why.Why.{Why as WitnessWhy}
use Rattle.explanations.specs.Explanations.{Explains}
use Rattle.explanations.specs.declared.table.Explanation.{Explanation}
use Rattle.explanations.specs.declared.table.Part.{Part}

-- the name of the first of some rows that has a number
abbrev pub name_listed : ℕ → List Explanation → Option (List ℕ)
name_listed number [] = None
name_listed number (row ∷ rows) = if row.number == number then Some row.name.now else name_listed number rows

-- a name, and without one another
abbrev pub or_name : Option (List ℕ) → Option (List ℕ) → Option (List ℕ)
or_name (Some name) other = Some name
or_name None other = other

-- the name of the first row of some parts that has a number
abbrev pub name_among : ℕ → List Part → Option (List ℕ)
name_among number [] = None
name_among number (part ∷ parts) = or_name (name_listed number part.rows.now) (name_among number parts)

-- some parts have a row of each refusal of each library, by the number and the name that the library gives it
pub record HasEach (parts : List Part) : Type 0 where
  pub models : (why : Why) → Explains parts (printed_number why) (line_why_name why)
  pub symbols : (fault : SymbolFault) → Explains parts (symbol_fault_number fault) (symbol_fault_name fault)
  pub lowerings : (fault : LowerFault) → Explains parts (lower_number fault) (lower_name fault)
  pub conversions : (fault : ConvertFault) → Explains parts (convert_number fault) (convert_name fault)
  pub runs : (fault : NewFault) → Explains parts (new_number fault) (new_name fault)
  pub judges : (fault : JudgeFault) → Explains parts (judge_number fault) (judge_name fault)
  pub witnesses : (why : WitnessWhy) → Explains parts (witness_number why) (witness_name why)
  pub gates : (fault : GateFault) → Explains parts (gate_number fault) (gate_name fault)
  pub circuits : (fault : CircuitFault) → Explains parts (circuit_fault_number fault) (circuit_fault_name fault)
  pub lists : (fault : LooseFault) → Explains parts (loose_fault_number fault) (loose_fault_name fault)
  pub liftings : (fault : LiftFault) → Explains parts (lift_number fault) (lift_name fault)
  pub engines : (fault : EngineFault) → Explains parts (engine_number fault) (engine_name fault)
  pub counterexamples : (why : RestoreWhy) → Explains parts (restore_number why) (restore_name why)
  pub dumps : (fault : WaveFault) → Explains parts (wave_number fault) (wave_name fault)
  pub texts : (why : CircuitWhy) → Explains parts (circuit_why_number why) (circuit_why_name why)
  pub proofs : (why : ProofWhy) → Explains parts (proof_number why) (proof_name why)
  pub clauses : (fault : ClauseFault) → Explains parts (clause_number fault) (clause_name fault)
  pub formulas : (fault : FormulaFault) → Explains parts (formula_number fault) (formula_name fault)
  pub claims : (fault : ClaimFault) → Explains parts (claim_number fault) (claim_name fault)
  pub tidying : (fault : TidyFault) → Explains parts (tidy_number fault) (tidy_name fault)
  pub tests : (fault : TestFault) → Explains parts (test_number fault) (test_name fault)
  pub certificates : (fault : CertificateFault) → Explains parts (certificate_number fault) (certificate_name fault)

-- some bytes are the name that the first row with a number has in a table of each refusal of each library
pub record IsRefusalName (number : ℕ) (bytes : List ℕ) : Type 0 where
  pub table : List Part
  pub has_each : HasEach table
  pub named : name_among number table ≡ Some bytes

-- no refusal of any library has a number
pub record IsOfNone (number : ℕ) : Type 0 where
  pub models : (why : Why) → printed_number why ≢ number
  pub symbols : (fault : SymbolFault) → symbol_fault_number fault ≢ number
  pub lowerings : (fault : LowerFault) → lower_number fault ≢ number
  pub conversions : (fault : ConvertFault) → convert_number fault ≢ number
  pub runs : (fault : NewFault) → new_number fault ≢ number
  pub judges : (fault : JudgeFault) → judge_number fault ≢ number
  pub witnesses : (why : WitnessWhy) → witness_number why ≢ number
  pub gates : (fault : GateFault) → gate_number fault ≢ number
  pub circuits : (fault : CircuitFault) → circuit_fault_number fault ≢ number
  pub lists : (fault : LooseFault) → loose_fault_number fault ≢ number
  pub liftings : (fault : LiftFault) → lift_number fault ≢ number
  pub engines : (fault : EngineFault) → engine_number fault ≢ number
  pub counterexamples : (why : RestoreWhy) → restore_number why ≢ number
  pub dumps : (fault : WaveFault) → wave_number fault ≢ number
  pub texts : (why : CircuitWhy) → circuit_why_number why ≢ number
  pub proofs : (why : ProofWhy) → proof_number why ≢ number
  pub clauses : (fault : ClauseFault) → clause_number fault ≢ number
  pub formulas : (fault : FormulaFault) → formula_number fault ≢ number
  pub claims : (fault : ClaimFault) → claim_number fault ≢ number
  pub tidying : (fault : TidyFault) → tidy_number fault ≢ number
  pub tests : (fault : TestFault) → test_number fault ≢ number
  pub certificates : (fault : CertificateFault) → certificate_number fault ≢ number
