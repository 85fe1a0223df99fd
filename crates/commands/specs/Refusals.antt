-- What a command says that is not done: the fault that its input has.
use Rattle.std.specs.Prelude.{ℕ, List, Option}
use Rattle.invocation.specs.declared.tasks.CertificateTask.TheVariants as certificate
use Rattle.invocation.specs.declared.tasks.CircuitTask.TheVariants as circuit
use Rattle.invocation.specs.declared.tasks.Given.TheVariants as given
use Rattle.invocation.specs.declared.tasks.Language.TheVariants as language
use Rattle.invocation.specs.declared.tasks.ModelTask.TheVariants as model
use Rattle.invocation.specs.declared.tasks.Task.{Task}
use Rattle.invocation.specs.declared.tasks.Task.TheVariants as task
use Rattle.invocation.specs.declared.tasks.TextTask.TheVariants as text
use Rattle.verbs.specs.declared.refusals.Claimed.TheVariants as claimed
use Rattle.verbs.specs.declared.refusals.Fault.{Fault}
use Rattle.verbs.specs.Asked.{IsNotFittedWith, IsNotJudgedOverWith, IsNotJudgedWith}
use Rattle.verbs.specs.Fitting.{IsNotFitted, IsNoWholeModel}
use Rattle.verbs.specs.Refusals.{IsFaultyCertificate, IsNoCircuit, IsNoModel, IsNoVectorList, IsNotCertifiable, IsNotClaimable, IsNotClaimed, IsNotForEngines, IsNotGiven, IsNotJudged, IsNotLowered}
use Rattle.verbs.specs.Outputs.{IsNotWithOutputs, IsNotWithOutputsForEngines}

-- the first text has this fault, for which a command refuses it that asks for the claim of a bad property or not
unfoldable pub RefusesTask : Task → Option (List ℕ) → Option (List ℕ) → Fault → Type 0
RefusesTask (task.Text text.Lower) asked known f = IsNotLowered known f
RefusesTask (task.Text text.Fit) asked known f = IsNotFitted known f
RefusesTask (task.Model (model.LowerForEngines choice)) asked known f = IsNotForEngines given.Model choice known f
RefusesTask (task.Model model.LowerFitted) asked known f = IsNotGiven given.Fitted known f
RefusesTask (task.Model (model.LowerFittedForEngines choice)) asked known f = IsNotForEngines given.Fitted choice known f
RefusesTask (task.Model model.CheckBtor) asked known f = IsNotJudgedWith asked known f
RefusesTask (task.Model model.Show) asked known f = IsNoModel known f
RefusesTask (task.Model model.ShowWhole) asked known f = IsNoWholeModel known f
RefusesTask (task.Model model.Cost) asked known f = IsNoModel known f
RefusesTask (task.Model model.CostFitted) asked known f = IsNotFitted known f
RefusesTask (task.Circuit circuit.AigConvert) asked known f = IsNoCircuit known f
RefusesTask (task.Circuit (circuit.ConvertForEngines choice)) asked known f = IsNotForEngines given.Circuit choice known f
RefusesTask (task.Circuit circuit.ConvertOutputs) asked known f = IsNotWithOutputs known f
RefusesTask (task.Circuit (circuit.ConvertOutputsForEngines choice)) asked known f = IsNotWithOutputsForEngines choice known f
RefusesTask (task.Circuit circuit.CheckAig) asked known f = IsNotJudgedOverWith asked known f
RefusesTask (task.Model (model.Lift language.Profile)) asked known f = IsNotClaimable given.Model known f
RefusesTask (task.Model (model.Lift language.Whole)) asked known f = IsNotClaimable given.Fitted known f
RefusesTask (task.Circuit (circuit.Restore choice)) asked known f = IsNotClaimed claimed.Found given.Circuit choice known f
RefusesTask (task.Circuit (circuit.RestoreForm choice)) asked known f = IsNotForEngines given.Circuit choice known f
RefusesTask (task.Model (model.LiftFound language.Profile choice)) asked known f = IsNotClaimed claimed.Found given.Model choice known f
RefusesTask (task.Model (model.LiftFound language.Whole choice)) asked known f = IsNotClaimed claimed.Found given.Fitted choice known f
RefusesTask (task.Model (model.LiftForm language.Profile choice)) asked known f = IsNotForEngines given.Model choice known f
RefusesTask (task.Model (model.LiftForm language.Whole choice)) asked known f = IsNotForEngines given.Fitted choice known f
RefusesTask (task.Model (model.Wave shown)) asked known f = IsNotJudged known f
RefusesTask (task.Model model.CheckFitted) asked known f = IsNotFittedWith asked known f
RefusesTask (task.Model model.Unfit) asked known f = IsNotFitted known f
RefusesTask (task.Model model.Spread) asked known f = IsNotFitted known f
RefusesTask (task.Text (text.TidyWitness pick)) asked known f = ⊥
RefusesTask (task.Text text.Vectors) asked known f = IsNoVectorList known f
RefusesTask (task.Certificate (certificate.Obligation of)) asked known f = IsNotCertifiable of.by of.given of.choice known f
RefusesTask (task.Certificate (certificate.CheckProof of form)) asked known f = IsNotCertifiable of.by of.given of.choice known f

-- the second text has this fault, for which a command refuses it
abbrev pub RefusesSecond : Task → Option (List ℕ) → Option (List ℕ) → Fault → Type 0
RefusesSecond (task.Certificate (certificate.Obligation of)) first second f = IsFaultyCertificate of.by of.given of.choice first second f
RefusesSecond (task.Certificate (certificate.CheckProof of form)) first second f = IsFaultyCertificate of.by of.given of.choice first second f
RefusesSecond _ first second f = ⊥
