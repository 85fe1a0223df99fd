-- What the exit statuses 0 and 1 of a command say.
use Rattle.std.specs.Prelude.{ℕ, Bool, true, false, not, List, Option, None, option_map}
use Rattle.std.specs.Borrow.{Bor}
use Rattle.std.specs.Io.KnownBytes.{Appends}
use Rattle.blast.specs.Conversion.{Converts}
use Rattle.verbs.specs.Circuits.{ConvertsForEngines, LowersForEngines, Rewrites, WritesFittedCircuit, WritesFittedForm}
use Rattle.verbs.specs.Fitting.{WritesFitting}
use Rattle.verbs.specs.Outputs.{ConvertsOutputs, ConvertsOutputsForEngines}
use Rattle.subcommands.specs.declared.answers.Answer.{Answer}
use Rattle.subcommands.specs.declared.answers.Answer.TheVariants as answer
use Rattle.subcommands.specs.Asked.{ChecksCircuit, ChecksFitted, ChecksModel}
use Rattle.subcommands.specs.Certificates.{CertifiesWith, WritesOwed}
use Rattle.subcommands.specs.Done.{Compares, Dumps, Judged, ShowsModel, ShowsWhole, TellsCost, TellsCostFitted, Tidies}
use Rattle.subcommands.specs.Fitted.{Spreads, Unfits}
use Rattle.subcommands.specs.Restoring.{Lifts, LiftsFitted, LiftsForm, LiftsFormFitted, LiftsFound, LiftsFoundFitted, Restores, RestoresForm}
use Rattle.invocation.specs.declared.tasks.CertificateTask.TheVariants as certificate
use Rattle.invocation.specs.declared.tasks.CircuitTask.TheVariants as circuit
use Rattle.invocation.specs.declared.tasks.Language.TheVariants as language
use Rattle.invocation.specs.declared.tasks.ModelTask.TheVariants as model
use Rattle.invocation.specs.declared.tasks.Order.{Order}
use Rattle.invocation.specs.declared.tasks.TextTask.TheVariants as text
use Rattle.invocation.specs.declared.tasks.Task.{Task}
use Rattle.invocation.specs.declared.tasks.Task.TheVariants as task

-- a name, where there is one
abbrev pub name_of : Option (Bor (List ℕ)) → Option (List ℕ)
name_of = option_map (λ name. name.now)

-- the word by which a command asks for a bad property
abbrev pub asked_of : Order → Option (List ℕ)
asked_of o = name_of o.asked

-- of a judgement only its line is written, without names or a bad property that is asked for
abbrev pub is_plain_as : Bool → Bool → Option (Bor (List ℕ)) → Bool
is_plain_as false false None = true
is_plain_as named as_json asked = false

abbrev pub is_plain : Order → Bool
is_plain o = is_plain_as o.named o.as_json o.asked

-- what a command has done of a task that answers so, as an order asks for it. Of `first`, `second` and `third` each, all bytes that were to come are known, or none are; `before` and `now` stand on standard output, `told` and `told'` on standard error
unfoldable pub Answers : Order → Task → Answer → Option (List ℕ) → Option (List ℕ) → Option (List ℕ) → Option (List ℕ) → Option (List ℕ) → Option (List ℕ) → Option (List ℕ) → Type 0
Answers o (task.Text text.Lower) answer.Done first second third before now told told' = Converts first o.form (Appends before now)
Answers o (task.Text text.Fit) answer.Done first second third before now told told' = WritesFitting first before now
Answers o (task.Model (model.LowerForEngines choice)) answer.Done first second third before now told told' = LowersForEngines first before now o.form choice
Answers o (task.Model model.LowerFitted) answer.Done first second third before now told told' = WritesFittedCircuit first before now o.form
Answers o (task.Model (model.LowerFittedForEngines choice)) answer.Done first second third before now told told' = WritesFittedForm first before now o.form choice
Answers o (task.Model model.CheckBtor) a first second third before now told told' = ChecksModel o.named o.as_json (asked_of o) first second before now told told' a
Answers o (task.Model model.Show) answer.Done first second third before now told told' = ShowsModel first before now
Answers o (task.Model model.ShowWhole) answer.Done first second third before now told told' = ShowsWhole first before now
Answers o (task.Model model.Cost) answer.Done first second third before now told told' = TellsCost first before now
Answers o (task.Model model.CostFitted) answer.Done first second third before now told told' = TellsCostFitted first before now
Answers o (task.Circuit circuit.AigConvert) answer.Done first second third before now told told' = Rewrites first before now o.form
Answers o (task.Circuit (circuit.ConvertForEngines choice)) answer.Done first second third before now told told' = ConvertsForEngines first before now o.form choice
Answers o (task.Circuit circuit.ConvertOutputs) answer.Done first second third before now told told' = ConvertsOutputs first before now o.form
Answers o (task.Circuit (circuit.ConvertOutputsForEngines choice)) answer.Done first second third before now told told' = ConvertsOutputsForEngines first before now o.form choice
Answers o (task.Text (text.TidyWitness pick)) answer.Done first second third before now told told' = Tidies pick first before now
Answers o (task.Circuit circuit.CheckAig) a first second third before now told told' = ChecksCircuit o.named o.as_json (asked_of o) first second before now told told' a
Answers o (task.Model (model.Lift language.Profile)) a first second third before now told told' = Lifts o.named first second before now told told' a
Answers o (task.Model (model.Lift language.Whole)) a first second third before now told told' = LiftsFitted o.named first second before now told told' a
Answers o (task.Model (model.Wave shown)) a first second third before now told told' = Judged (Dumps shown first second before now told told') a
Answers o (task.Model model.CheckFitted) a first second third before now told told' = ChecksFitted o.named o.as_json (asked_of o) first second before now told told' a
Answers o (task.Model model.Unfit) a first second third before now told told' = Unfits o.named first second before now told told' a
Answers o (task.Model model.Spread) a first second third before now told told' = Spreads first second before now told told' a
Answers o (task.Circuit (circuit.Restore choice)) a first second third before now told told' = Restores choice first second before now told told' a
Answers o (task.Circuit (circuit.RestoreForm choice)) a first second third before now told told' = RestoresForm choice first second before now told told' a
Answers o (task.Model (model.LiftFound language.Profile choice)) a first second third before now told told' = LiftsFound o.named choice first second before now told told' a
Answers o (task.Model (model.LiftFound language.Whole choice)) a first second third before now told told' = LiftsFoundFitted o.named choice first second before now told told' a
Answers o (task.Model (model.LiftForm language.Profile choice)) a first second third before now told told' = LiftsForm o.named choice first second before now told told' a
Answers o (task.Model (model.LiftForm language.Whole choice)) a first second third before now told told' = LiftsFormFitted o.named choice first second before now told told' a
Answers o (task.Text text.Vectors) a first second third before now told told' = Compares first before now a
Answers o (task.Certificate (certificate.Obligation of)) answer.Done first second third before now told told' = WritesOwed of first second before now
Answers o (task.Certificate (certificate.CheckProof of form)) a first second third before now told told' = CertifiesWith o.named o.as_json of form first second third before now told told' a
Answers o _ a first second third before now told told' = ⊥

-- a command has one file
unfoldable pub has_one_file : Task → Bool
has_one_file (task.Model model.CheckBtor) = false
has_one_file (task.Circuit circuit.CheckAig) = false
has_one_file (task.Model (model.Lift language)) = false
has_one_file (task.Circuit (circuit.Restore choice)) = false
has_one_file (task.Circuit (circuit.RestoreForm choice)) = false
has_one_file (task.Model (model.LiftFound language choice)) = false
has_one_file (task.Model (model.LiftForm language choice)) = false
has_one_file (task.Model (model.Wave shown)) = false
has_one_file (task.Model model.CheckFitted) = false
has_one_file (task.Model model.Unfit) = false
has_one_file (task.Model model.Spread) = false
has_one_file (task.Certificate t) = false
has_one_file _ = true

-- a command has three files
unfoldable pub has_three_files : Task → Bool
has_three_files (task.Certificate (certificate.CheckProof of form)) = true
has_three_files _ = false

-- a command that is done tells nothing on standard error
unfoldable pub is_quiet : Bool → Task → Bool
is_quiet named (task.Model (model.Lift language)) = false
is_quiet named (task.Circuit (circuit.Restore choice)) = false
is_quiet named (task.Circuit (circuit.RestoreForm choice)) = false
is_quiet named (task.Model (model.LiftFound language choice)) = false
is_quiet named (task.Model (model.LiftForm language choice)) = false
is_quiet named (task.Model (model.Wave shown)) = false
is_quiet named (task.Model model.Unfit) = false
is_quiet named (task.Model model.Spread) = false
is_quiet named (task.Model model.CheckBtor) = not named
is_quiet named (task.Model model.CheckFitted) = not named
is_quiet named (task.Circuit circuit.CheckAig) = not named
is_quiet named (task.Certificate (certificate.CheckProof of form)) = not named
is_quiet named _ = true
