-- What a restoring answers: the judgement of what was written, or why there is none.
use Rattle.std.specs.Prelude.{◌≡◌, ℕ, Bool, true, false, List, Option, None, Some, Result, Ok, Err}
use Rattle.std.specs.Io.KnownBytes.{Appends}
use Rattle.base.specs.Device.{HasRisen, AppendsBeginning}
use Rattle.aiger.specs.Circuit.{Circuit}
use Rattle.engine_form.specs.EngineForm.{input_count}
use Rattle.witness.specs.BitJudgements.{BitJudges}
use Rattle.witness.specs.Reached.{bits_said_in}
use Rattle.restore.specs.declared.fault.RestoreFault.{RestoreFault}
use Rattle.restore.specs.declared.fault.RestoreWhy.{RestoreWhy}
use Rattle.restore.specs.declared.fault.RestoreWhy.TheVariants as why
use Rattle.restore.specs.declared.told.Restored.{Restored}
use Rattle.restore.specs.Accepted.{IsFirstRise}
use Rattle.restore.specs.Faults.{is_of_text}
use Rattle.restore.specs.FormWitness.{read_restored_lines, form_restored_text, FormJudges}
use Rattle.restore.specs.Putting.{put_lines}
use Rattle.restore.specs.Reading.{read_found}
use Rattle.restore.specs.Restored.{restored_lines, restored_text}

-- the source failed once where that is told, the sink where that is, and else neither
abbrev pub CountsRestoreWhy : RestoreWhy → ℕ → ℕ → ℕ → ℕ → Type 0
CountsRestoreWhy why.Device read read' written written' = HasRisen read read' × (written' ≡ written)
CountsRestoreWhy why.Write read read' written written' = (read' ≡ read) × HasRisen written written'
CountsRestoreWhy _ read read' written written' = (read' ≡ read) × (written' ≡ written)

abbrev pub CountsRestore : {J : Type 0} → Result J RestoreFault → ℕ → ℕ → ℕ → ℕ → Type 0
CountsRestore (Ok j) read read' written written' = (read' ≡ read) × (written' ≡ written)
CountsRestore (Err e) read read' written written' = CountsRestoreWhy e.why read read' written written'

-- ---- a counterexample

-- what is put for all lines that a text is restored to
abbrev pub lines_put : (ℕ → List ℕ → List ℕ) → Circuit → ℕ → List ℕ → List ℕ
lines_put put c k text = put_lines put 0 (restored_lines c k (read_found (input_count c) text))

-- what is told of a text with which nothing is wrong, and of what it is restored to, for which all was written
pub record IsRestored (put : ℕ → List ℕ → List ℕ) (c : Circuit) (k : ℕ) (old new : Option (List ℕ)) (text : List ℕ) (told : Restored) : Type 0 where
  pub judged : BitJudges c (restored_text c k text) told.judgement
  pub first : IsFirstRise c (restored_text c k text) told.first
  pub right : (read_found (input_count c) text).fault ≡ None
  pub written : Appends old new (lines_put put c k text)

-- a fault of a text is its own, and what is put for what the lines before it give was written; at any other a beginning was
abbrev pub IsRestoredBut : Bool → RestoreFault → (ℕ → List ℕ → List ℕ) → Circuit → ℕ → Option (List ℕ) → Option (List ℕ) → List ℕ → Type 0
IsRestoredBut true e put c k old new text = ((read_found (input_count c) text).fault ≡ Some e) × Appends old new (lines_put put c k text)
IsRestoredBut false e put c k old new text = AppendsBeginning old new (lines_put put c k text)

abbrev pub Restores : Result Restored RestoreFault → (ℕ → List ℕ → List ℕ) → Circuit → ℕ → Option (List ℕ) → Option (List ℕ) → List ℕ → Type 0
Restores (Ok told) put c k old new text = IsRestored put c k old new text told
Restores (Err e) put c k old new text = IsRestoredBut (is_of_text e.why) e put c k old new text

-- ---- a witness of an engine form

abbrev pub form_lines_put : (ℕ → List ℕ → List ℕ) → Circuit → Option ℕ → Circuit → List ℕ → List ℕ
form_lines_put put c choice d text = put_lines put 0 (read_restored_lines c choice (bits_said_in d text))

pub record IsRestoredForm (put : ℕ → List ℕ → List ℕ) (c : Circuit) (choice : Option ℕ) (d : Circuit) (old new : Option (List ℕ)) (text : List ℕ) (told : Restored) : Type 0 where
  pub judged : FormJudges c choice d text told.judgement
  pub first : IsFirstRise c (form_restored_text c choice d text) told.first
  pub written : Appends old new (form_lines_put put c choice d text)

-- at a fault a beginning was written
abbrev pub RestoresForm : Result Restored RestoreFault → (ℕ → List ℕ → List ℕ) → Circuit → Option ℕ → Circuit → Option (List ℕ) → Option (List ℕ) → List ℕ → Type 0
RestoresForm (Ok told) put c choice d old new text = IsRestoredForm put c choice d old new text told
RestoresForm (Err e) put c choice d old new text = AppendsBeginning old new (form_lines_put put c choice d text)
