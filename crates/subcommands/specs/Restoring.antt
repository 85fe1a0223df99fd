-- What is told of what is restored and lifted.
use Rattle.std.specs.Prelude.{◌≡◌, ◌++◌, ℕ, Bool, List, length, Option, Result, Ok, Err, codes, decimal}
use Rattle.std.specs.Io.KnownBytes.{Appends}
use Rattle.restore.specs.Faults.{restore_why_name, restore_why_number}
use Rattle.restore.specs.declared.fault.RestoreFault.{RestoreFault}
use Rattle.witness.specs.declared.judgement.Judgement.{Judgement}
use Rattle.full.specs.Lines.{FullLine}
use Rattle.verbs.specs.Lifting.{IsFormLifted, IsFoundLifted, IsLifted}
use Rattle.verbs.specs.LiftingFitted.{IsFormLiftedFitted, IsFoundLiftedFitted, IsLiftedFitted}
use Rattle.verbs.specs.declared.lifting_fitted.FoundLiftedFitted.{FoundLiftedFitted}
use Rattle.verbs.specs.declared.lifting_fitted.LiftedFitted.{LiftedFitted}
use Rattle.verbs.specs.declared.subjects.Subject.{Subject}
use Rattle.verbs.specs.Restoring.{IsFormRestored, IsFoundRestored}
use Rattle.verbs.specs.declared.given.Lowered.{Lowered}
use Rattle.verbs.specs.declared.lifting.FoundLifted.{FoundLifted}
use Rattle.verbs.specs.declared.lifting.Lifted.{Lifted}
use Rattle.verbs.specs.declared.restoring.FoundRestored.{FoundRestored}
use Rattle.verbs.specs.declared.restoring.Restored.{Restored}
use Rattle.verbs.specs.Subjects.{model_told, whole_told}
use Rattle.subcommands.specs.declared.answers.Answer.{Answer}
use Rattle.subcommands.specs.declared.answers.Answer.TheVariants as answer
use Rattle.subcommands.specs.Assumed.{assumed_said}
use Rattle.subcommands.specs.Done.{IsSo, judgement_line}
use Rattle.subcommands.specs.Subjects.{bad_line_said, bad_said, lifted_said, line_judged, said_by_name, subject_said, where_named}

-- the line of the first faulty line of a counterexample
abbrev pub malformed_line : RestoreFault → List ℕ
malformed_line e = codes "malformed line " ++ (decimal e.line ++ (codes ": " ++ (decimal (restore_why_number e.why) ++ (codes " " ++ (restore_why_name e.why ++ codes "\n")))))

-- ---- over a circuit

-- what was told of a counterexample, and whether it is accepted: the line of its judgement, or of its first faulty line
abbrev pub TellsRestored : Result Judgement RestoreFault → Answer → Option (List ℕ) → Option (List ℕ) → Type 0
TellsRestored (Ok j) a told told' = IsSo a j × Appends told told' (judgement_line j)
TellsRestored (Err e) a told told' = (a ≡ answer.NotAccepted) × Appends told told' (malformed_line e)

-- A counterexample over an engine form is restored, and it was told how that is judged.
pub record Restores (choice : Option ℕ) (circuit found before now told told' : Option (List ℕ)) (a : Answer) : Type 0 where
  pub restored : FoundRestored
  pub is_restored : IsFoundRestored choice circuit found before now restored
  pub tells : TellsRestored restored.told a told told'

-- A witness of an engine form is restored; and it was told how that is judged, and that the form is taken to be of all bad properties, where there are several and none is chosen.
pub record RestoresForm (choice : Option ℕ) (circuit found before now told told' : Option (List ℕ)) (a : Answer) : Type 0 where
  pub restored : Restored
  pub is_restored : IsFormRestored choice circuit found before now restored
  pub so : IsSo a restored.judgement
  pub line : Appends told told' (judgement_line restored.judgement ++ assumed_said choice (length restored.circuit.bads))

-- ---- over a model

-- what is said by name of a judgement over the circuit of a model: what it is about, and of an acceptance in which frames the claims are reached first; and nothing where names are not asked for
abbrev pub lifting_said : Bool → Lowered → List (Option ℕ) → Judgement → List ℕ
lifting_said named lowered firsts j = where_named named (said_by_name (lifted_said (model_told lowered.model) lowered.circuit) (bad_line_said (model_told lowered.model)) firsts j)

-- the same of any subject, and of a model of the whole language
abbrev pub lifting_said_of : Bool → Subject → List (Option ℕ) → Judgement → List ℕ
lifting_said_of named subject firsts j = where_named named (said_by_name (subject_said subject) (bad_said subject) firsts j)

abbrev pub lifting_fitted_said : Bool → List FullLine → List (Option ℕ) → Judgement → List ℕ
lifting_fitted_said named full firsts j = where_named named (said_by_name (line_judged (whole_told full)) (bad_line_said (whole_told full)) firsts j)

-- what was told of a counterexample, and whether it is accepted: the line of its judgement, and what is said behind it; or the line of its first faulty line
abbrev pub TellsLifted : (List (Option ℕ) → Judgement → List ℕ) → Result (Judgement × List (Option ℕ)) RestoreFault → Answer → Option (List ℕ) → Option (List ℕ) → Type 0
TellsLifted said (Ok lifted) a told told' = IsSo a lifted.0 × Appends told told' (judgement_line lifted.0 ++ said lifted.1 lifted.0)
TellsLifted said (Err e) a told told' = (a ≡ answer.NotAccepted) × Appends told told' (malformed_line e)

-- A witness of the circuit of a model is lifted; and what was told is the line of its judgement, and with names what that is about, and of an acceptance in which frames the claims are reached first.
pub record Lifts (named : Bool) (model witness before now told told' : Option (List ℕ)) (a : Answer) : Type 0 where
  pub lifted : Lifted
  pub is_lifted : IsLifted named model witness before now lifted
  pub so : IsSo a lifted.judgement
  pub lines : Appends told told' (judgement_line lifted.judgement ++ lifting_said named lifted.lowered lifted.firsts lifted.judgement)

-- A counterexample over an engine form is lifted; and it was told how it is judged, with names behind it what the judgement is about, and of an acceptance in which frame the claim is reached first.
pub record LiftsFound (named : Bool) (choice : Option ℕ) (model found before now told told' : Option (List ℕ)) (a : Answer) : Type 0 where
  pub lifted : FoundLifted
  pub is_lifted : IsFoundLifted named choice model found before now lifted
  pub tells : TellsLifted (lifting_said named lifted.lowered) lifted.told a told told'

-- A witness of an engine form is lifted; and it was told how that is judged, with names behind it what the judgement is about, and of an acceptance in which frame the claim is reached first, and that the form is taken to be of all bad properties, where there are several and none is chosen.
pub record LiftsForm (named : Bool) (choice : Option ℕ) (model found before now told told' : Option (List ℕ)) (a : Answer) : Type 0 where
  pub lifted : Lifted
  pub is_lifted : IsFormLifted named choice model found before now lifted
  pub so : IsSo a lifted.judgement
  pub lines : Appends told told' ((judgement_line lifted.judgement ++ lifting_said named lifted.lowered lifted.firsts lifted.judgement) ++ assumed_said choice (length lifted.lowered.circuit.bads))

-- ---- over a model of the whole language

-- A witness of the circuit of the fitted model is lifted; and what was told is the line of what is judged of it over the model, and with names what that is about, and of an acceptance in which frames the claims are reached first.
pub record LiftsFitted (named : Bool) (model witness before now told told' : Option (List ℕ)) (a : Answer) : Type 0 where
  pub lifted : LiftedFitted
  pub is_lifted : IsLiftedFitted named model witness before now lifted
  pub so : IsSo a lifted.judgement
  pub lines : Appends told told' (judgement_line lifted.judgement ++ lifting_fitted_said named lifted.model lifted.firsts lifted.judgement)

-- The same of a counterexample over an engine form of that circuit.
pub record LiftsFoundFitted (named : Bool) (choice : Option ℕ) (model found before now told told' : Option (List ℕ)) (a : Answer) : Type 0 where
  pub lifted : FoundLiftedFitted
  pub is_lifted : IsFoundLiftedFitted named choice model found before now lifted
  pub tells : TellsLifted (lifting_fitted_said named lifted.model) lifted.told a told told'

-- The same of a witness of an engine form; and it was told that the form is taken to be of all bad properties, where there are several and none is chosen.
pub record LiftsFormFitted (named : Bool) (choice : Option ℕ) (model found before now told told' : Option (List ℕ)) (a : Answer) : Type 0 where
  pub lifted : LiftedFitted
  pub is_lifted : IsFormLiftedFitted named choice model found before now lifted
  pub so : IsSo a lifted.judgement
  pub lines : Appends told told' ((judgement_line lifted.judgement ++ lifting_fitted_said named lifted.model lifted.firsts lifted.judgement) ++ assumed_said choice (length lifted.circuit.bads))
