-- What a counterexample over the engine form of a circuit is over the model that the circuit was made of (how the one becomes the other is this project's): what its text is restored to, lifted.
use Rattle.std.specs.Prelude.{◌≡◌, ℕ, ◌+◌, ◌≤◌, Bool, true, false, List, length, replicate, slice_set, Option, Some, None, Result, IfErr, IfOk, IfSome, OnErr, OnOk}
use Rattle.std.specs.Io.KnownBytes.{Appends}
use Rattle.base.specs.Device.{AppendsBeginning}
use Rattle.base.specs.Lines.{whole_lines}
use Rattle.btor2.specs.declared.item.Item.{Item}
use Rattle.base.specs.Literal.{Valuation}
use Rattle.aiger.specs.Circuit.{Circuit}
use Rattle.aiger.specs.Trace.{IsCircuitTrace}
use Rattle.engine_form.specs.EngineForm.{input_count, IsEngineFormOf}
use Rattle.witness.specs.declared.judgement.Judgement.{Judgement}
use Rattle.witness.specs.declared.judgement.Judgement.TheVariants as judgement
use Rattle.witness.specs.Texts.{most_lines}
use Rattle.witness.specs.Judgements.{Judges}
use Rattle.witness.specs.BitJudgements.{BitJudges}
use Rattle.rises.specs.FirstRises.{AreBitFirstRises}
use Rattle.restore.specs.declared.fault.RestoreFault.{RestoreFault}
use Rattle.restore.specs.Accepted.{FindsAgain}
use Rattle.restore.specs.Counterexample.{HasProperty, place_in, first_bad}
use Rattle.restore.specs.Faults.{is_of_text}
use Rattle.restore.specs.FormWitness.{form_restored_text, FormJudges, IsFoundAgain}
use Rattle.restore.specs.Reading.{whole, read_found}
use Rattle.restore.specs.Restored.{restored_text}
use Rattle.lift.specs.Lifted.{lifted_with}
use Rattle.lift.specs.Verdicts.{KeepsVerdictIn}

-- the lifted text, with names or without, of what the text of a counterexample is restored to, with this claim
abbrev pub engine_lifted_text : Bool → List Item → Circuit → ℕ → List ℕ → List ℕ
engine_lifted_text named items c k text = lifted_with named items c (restored_text c k text)

-- Where the text's frames make the property of an engine form of the circuit 1 in a frame, what it is lifted to is accepted over the model, with the frames up to and with the first such one, if that has no more lines than a witness may have.
abbrev pub FindsInModel : Bool → List Item → Circuit → ℕ → List ℕ → Type 0
FindsInModel named items c k text =
    (choice : Option ℕ) (d : Circuit) (given : List (List Bool)) (ws : List Valuation) (n : ℕ) → IsEngineFormOf c choice d → HasProperty choice k
    → read_found (input_count c) text ≡ whole given → length given + 4 ≤ most_lines → IsCircuitTrace d (replicate (length d.latches) false) given ws → first_bad d (place_in choice k) ws ≡ Some n
    → length (whole_lines (engine_lifted_text named items c k text)) ≤ most_lines
    → Judges items (engine_lifted_text named items c k text) (judgement.Accepted (n + 1))

-- ---- witnesses of the engine form

-- the lifted text, with names or without, of what a witness of the engine form is restored to, with all bad properties or the chosen one
abbrev pub form_lifted_text : Bool → List Item → Circuit → Option ℕ → Circuit → List ℕ → List ℕ
form_lifted_text named items c choice d text = lifted_with named items c (form_restored_text c choice d text)

-- where this is judged over the circuit of what such a text is restored to, what is judged over the model of what it is lifted to is the same verdict
abbrev pub KeepsFormVerdict : Bool → List Item → Circuit → Option ℕ → Circuit → List ℕ → Judgement → Type 0
KeepsFormVerdict named items c choice d text j =
    BitJudges c (form_restored_text c choice d text) j → KeepsVerdictIn items c (form_restored_text c choice d text) (form_lifted_text named items c choice d text) j

-- A text that is accepted over the form is found again over the circuit; and what it is lifted to is accepted over the model, with the frames up to and with the first in which the claimed property of the form is 1, if that has no more lines than a witness may have.
pub record IsFoundInModel (named : Bool) (items : List Item) (c : Circuit) (choice : Option ℕ) (d : Circuit) (text : List ℕ) : Type 0 where
  pub again : IsFoundAgain c choice d text
  pub accepted : length (whole_lines (form_lifted_text named items c choice d text)) ≤ most_lines → Judges items (form_lifted_text named items c choice d text) (judgement.Accepted (again.last + 1))

-- so it is of each text that is accepted over the form
abbrev pub FindsWitnessInModel : Bool → List Item → Circuit → Option ℕ → Circuit → List ℕ → Type 0
FindsWitnessInModel named items c choice d text = (frames : ℕ) → BitJudges d text (judgement.Accepted frames) → IsFoundInModel named items c choice d text

-- ---- what is told of a source

-- first rises, with that of one claim noted
abbrev pub noted_first : List (Option ℕ) → Option (ℕ × ℕ) → List (Option ℕ)
noted_first firsts None = firsts
noted_first firsts (Some first) = slice_set firsts first.0 (Some first.1)

-- what is told of the text of a counterexample, of which these bytes are known: a judgement, and first rises where words are lifted with names; and what was written of it
pub record LiftsRestored (r : Result (Judgement × List (Option ℕ)) RestoreFault) (named : Bool) (items : List Item) (c : Circuit) (k : ℕ) (source old new : Option (List ℕ)) : Type 0 where
  -- the judgement is that over the circuit of what the text is restored to, with which nothing is wrong
  pub judged : IfOk r (λ told. IfSome source (λ text. BitJudges c (restored_text c k text) told.0))
  -- and what stands beside it, with names, are the first rises of that text
  pub rises : named ≡ true → IfOk r (λ told. IfSome source (λ text. AreBitFirstRises c (restored_text c k text) told.1))
  pub right : OnOk r (IfSome source (λ text. (read_found (input_count c) text).fault ≡ None))
  -- what is judged of what is written over the model is the same verdict
  pub kept : IfOk r (λ told. IfSome source (λ text. KeepsVerdictIn items c (restored_text c k text) (engine_lifted_text named items c k text) told.0))
  pub written : OnOk r (IfSome source (λ text. Appends old new (engine_lifted_text named items c k text)))
  -- where the text's frames make the claimed property of an engine form 1, both are accepted, and end with the first such frame
  pub found : IfOk r (λ told. IfSome source (λ text. FindsAgain c k text told.0))
  pub in_model : OnOk r (IfSome source (λ text. FindsInModel named items c k text))
  -- a fault of the text is its own, and what the lines before it give was written; at any other a beginning was
  pub faulty : IfErr r (λ e. is_of_text e.why ≡ true → IfSome source (λ text. (read_found (input_count c) text).fault ≡ Some e))
  pub before : IfErr r (λ e. is_of_text e.why ≡ true → IfSome source (λ text. Appends old new (engine_lifted_text named items c k text)))
  pub beginning : IfErr r (λ e. is_of_text e.why ≡ false → IfSome source (λ text. AppendsBeginning old new (engine_lifted_text named items c k text)))

-- and of a witness of the engine form
pub record LiftsForm (r : Result (Judgement × List (Option ℕ)) RestoreFault) (named : Bool) (items : List Item) (c : Circuit) (choice : Option ℕ) (d : Circuit) (source old new : Option (List ℕ)) : Type 0 where
  -- the judgement is that of the text: over the form where it makes no claim or a line is faulty, else over the circuit
  pub judged : IfOk r (λ told. IfSome source (λ text. FormJudges c choice d text told.0))
  -- and what stands beside it, with names, are the first rises of what the text is restored to
  pub rises : named ≡ true → IfOk r (λ told. IfSome source (λ text. AreBitFirstRises c (form_restored_text c choice d text) told.1))
  -- what is judged of what is written over the model is the same verdict as over the circuit
  pub kept : IfOk r (λ told. IfSome source (λ text. KeepsFormVerdict named items c choice d text told.0))
  pub written : OnOk r (IfSome source (λ text. Appends old new (form_lifted_text named items c choice d text)))
  -- what is accepted over the form is found again, over the circuit and over the model
  pub found : OnOk r (IfSome source (FindsWitnessInModel named items c choice d))
  -- at a fault a beginning was written
  pub beginning : OnErr r (IfSome source (λ text. AppendsBeginning old new (form_lifted_text named items c choice d text)))
