-- What a command answers where a call of a library does not give what it was asked for.
use Rattle.base.specs.declared.sources.ReadAllFault.{ReadAllFault}
use Rattle.base.specs.declared.sources.ReadAllFault.TheVariants as all
use Rattle.btor2text.specs.declared.fault.ReadFault.{ReadFault}
use Rattle.btor2text.specs.declared.fault.Why.{Why}
use Rattle.btor2text.specs.declared.fault.Why.TheVariants as why
use Rattle.aigertext.specs.declared.fault.ReadFault.{ReadFault as CircuitFault}
use Rattle.aigertext.specs.declared.fault.Why.{Why as CircuitWhy}
use Rattle.aigertext.specs.declared.fault.Why.TheVariants as circuit_why
use Rattle.aiger.specs.declared.fault.CircuitFault.{CircuitFault as Made}
use Rattle.aiger.specs.declared.fault.CircuitFault.TheVariants as made
use Rattle.engine_form.specs.declared.fault.EngineFault.{EngineFault}
use Rattle.engine_form.specs.declared.fault.EngineFault.TheVariants as engine
use Rattle.blast.specs.declared.fault.LowerFault.{LowerFault}
use Rattle.blast.specs.declared.fault.LowerFault.TheVariants as lower
use Rattle.fitting.specs.declared.fault.FitFault.{FitFault}
use Rattle.fitting.specs.declared.fault.FitFault.TheVariants as fit
use Rattle.writeout.specs.declared.fault.WriteFault.TheVariants as write
use Rattle.blast.specs.declared.fault.ConvertFault.{ConvertFault}
use Rattle.blast.specs.declared.fault.ConvertFault.TheVariants as convert
use Rattle.witness.specs.declared.fault.JudgeFault.{JudgeFault}
use Rattle.witness.specs.declared.fault.JudgeFault.TheVariants as judge
use Rattle.lift.specs.declared.fault.LiftFault.{LiftFault}
use Rattle.rejoin.specs.declared.fault.UnfitFault.{UnfitFault}
use Rattle.rejoin.specs.declared.fault.UnfitFault.TheVariants as unfit
use Rattle.lift.specs.declared.fault.LiftFault.TheVariants as lift
use Rattle.restore.specs.declared.fault.RestoreWhy.{RestoreWhy}
use Rattle.restore.specs.declared.fault.RestoreWhy.TheVariants as restore_why
use Rattle.vcd.specs.declared.fault.WaveFault.{WaveFault}
use Rattle.vcd.specs.declared.fault.WaveFault.TheVariants as wave
use Rattle.vectors.specs.declared.lines.LinesFault.{LinesFault}
use Rattle.vectors.specs.declared.lines.LinesFault.TheVariants as lines
use Rattle.witness_circuits.specs.declared.fault.TestFault.TheVariants as test
use Rattle.witness_circuits.specs.declared.witness_fault.WitnessFault.{WitnessFault}
use Rattle.witness_circuits.specs.declared.witness_fault.WitnessFault.TheVariants as witness
use Rattle.certificates.specs.declared.why.InvariantFault.{InvariantFault}
use Rattle.certificates.specs.declared.why.InvariantWhy.{InvariantWhy}
use Rattle.certificates.specs.declared.why.InvariantWhy.TheVariants as invariant_why
use Rattle.certificates.specs.declared.fault.ObligationFault.{ObligationFault}
use Rattle.certificates.specs.declared.fault.ObligationFault.TheVariants as obligation
use Rattle.certificates.specs.declared.claim_fault.ClaimFault.{ClaimFault}
use Rattle.certificates.specs.declared.claim_fault.ClaimFault.TheVariants as claim
use Rattle.certificates.specs.declared.certificate_fault.CertificateFault.{CertificateFault}
use Rattle.certificates.specs.declared.certificate_fault.CertificateFault.TheVariants as certificate
use Rattle.verbs.specs.declared.refusals.Device.TheVariants as device
use Rattle.verbs.specs.declared.refusals.Fault.TheVariants as fault
use Rattle.verbs.specs.declared.refusals.Refusal.{Refusal}
use Rattle.verbs.specs.declared.refusals.Refusal.TheVariants as refusal

-- of a circuit whose outputs are taken as bad properties
abbrev pub of_outputs : Made → Refusal
of_outputs made.NoMemory = refusal.NoMemory
of_outputs e = refusal.Input (fault.Outputs e)

-- of the text of a model, by the why of its fault
abbrev pub of_reading_for : ReadFault → Why → Refusal
of_reading_for e why.Device = refusal.Failed device.First
of_reading_for e why.NoMemory = refusal.NoMemory
of_reading_for e _ = refusal.Input (fault.Model e)

-- of the text of a model
abbrev pub of_reading : ReadFault → Refusal
of_reading e = of_reading_for e e.why

-- of the text of a circuit, by the why of its fault
abbrev pub of_circuit_reading_for : CircuitFault → CircuitWhy → Refusal
of_circuit_reading_for e circuit_why.Device = refusal.Failed device.First
of_circuit_reading_for e circuit_why.NoMemory = refusal.NoMemory
of_circuit_reading_for e _ = refusal.Input (fault.Circuit e)

-- of the text of a circuit
abbrev pub of_circuit_reading : CircuitFault → Refusal
of_circuit_reading e = of_circuit_reading_for e e.why

-- of lowering a model
abbrev pub of_lowering : LowerFault → Refusal
of_lowering lower.NoMemory = refusal.NoMemory
of_lowering e = refusal.Input (fault.Lowering e)

-- of fitting a model
abbrev pub of_fitting : FitFault → Refusal
of_fitting fit.NoMemory = refusal.NoMemory
of_fitting e = refusal.Input (fault.Fitting e)

-- of fitting a list that a model was written out as: no line of the model is told
abbrev pub of_fitting_written : FitFault → Refusal
of_fitting_written fit.NoMemory = refusal.NoMemory
of_fitting_written (fit.TooManyItems id) = refusal.Input (fault.Writing write.TooManyItems)
of_fitting_written e = refusal.Input (fault.Fitting e)

-- of making an engine form
abbrev pub of_engine_form : EngineFault → Refusal
of_engine_form engine.NoMemory = refusal.NoMemory
of_engine_form e = refusal.Input (fault.Engine e)

-- of converting a text
abbrev pub of_conversion : ConvertFault → Refusal
of_conversion (convert.Read e) = of_reading e
of_conversion (convert.Lower e) = of_lowering e
of_conversion (convert.Write e) = refusal.Failed device.Output

-- of judging a witness
abbrev pub of_judging : JudgeFault → Refusal
of_judging (judge.NoNext id) = refusal.Input (fault.NoNext id)
of_judging judge.Device = refusal.Failed device.Second
of_judging judge.NoMemory = refusal.NoMemory

-- of dumping the frames of a witness
abbrev pub of_dumping : WaveFault → Refusal
of_dumping (wave.NoNext id) = refusal.Input (fault.NoNext id)
of_dumping wave.Read = refusal.Failed device.Second
of_dumping wave.Write = refusal.Failed device.Output
of_dumping wave.NoMemory = refusal.NoMemory

-- of reading the first file whole
abbrev pub of_reading_all : ReadAllFault → Refusal
of_reading_all all.Device = refusal.Failed device.First
of_reading_all all.NoMemory = refusal.NoMemory

-- of the lines of vectors
abbrev pub of_lines : LinesFault → Refusal
of_lines (lines.Bad n) = refusal.Input (fault.Vector n)
of_lines lines.NoMemory = refusal.NoMemory

-- of the text of an invariant, by the why of its fault
abbrev pub of_invariant_for : InvariantFault → InvariantWhy → Refusal
of_invariant_for e invariant_why.Device = refusal.Failed device.Second
of_invariant_for e invariant_why.NoMemory = refusal.NoMemory
of_invariant_for e _ = refusal.Second (fault.Invariant e)

-- of an obligation
abbrev pub of_obligation : ObligationFault → Refusal
of_obligation obligation.NoMemory = refusal.NoMemory
of_obligation e = refusal.Second (fault.Obligation e)

-- of the formula that an invariant owes
abbrev pub of_claim : ClaimFault → Refusal
of_claim (claim.Form e) = of_engine_form e
of_claim (claim.Invariant e) = of_invariant_for e e.why
of_claim (claim.Obligation e) = of_obligation e

-- of the formula that a witness circuit owes, by the why of its text's fault
abbrev pub of_witness_reading_for : CircuitFault → CircuitWhy → Refusal
of_witness_reading_for e circuit_why.Device = refusal.Failed device.Second
of_witness_reading_for e circuit_why.NoMemory = refusal.NoMemory
of_witness_reading_for e _ = refusal.Second (fault.Circuit e)

-- of the formula that a witness circuit owes
abbrev pub of_witness : WitnessFault → Refusal
of_witness (witness.Form e) = of_engine_form e
of_witness (witness.Text e) = of_witness_reading_for e e.why
of_witness (witness.Test test.NoMemory) = refusal.NoMemory
of_witness (witness.Test e) = refusal.Second (fault.Test e)

-- of judging a certificate
abbrev pub of_certificate : CertificateFault → Refusal
of_certificate (certificate.Claim e) = of_claim e
of_certificate (certificate.Judge e) = refusal.NoMemory
of_certificate certificate.Device = refusal.Failed device.Third

-- of a witness over a fitted model that becomes one over the model, or the other way round
abbrev pub of_unfitting : UnfitFault → Refusal
of_unfitting (unfit.NoNext id) = refusal.Input (fault.NoNext id)
of_unfitting unfit.Read = refusal.Failed device.Second
of_unfitting unfit.Write = refusal.Failed device.Output
of_unfitting unfit.NoMemory = refusal.NoMemory

-- of lifting a witness
abbrev pub of_lifting : LiftFault → Refusal
of_lifting lift.Read = refusal.Failed device.Second
of_lifting lift.Write = refusal.Failed device.Output
of_lifting lift.NoMemory = refusal.NoMemory

-- of restoring, where no line is faulty
abbrev pub of_restoring : RestoreWhy → Refusal
of_restoring restore_why.Device = refusal.Failed device.Second
of_restoring restore_why.Write = refusal.Failed device.Output
of_restoring _ = refusal.NoMemory
