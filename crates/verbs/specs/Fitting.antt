-- What is written of a model of the whole language that is fitted into one of the profile, and why it is not.
use Rattle.std.specs.Prelude.{◌≡◌, ◌↔◌, ℕ, List, Option, Some, None, IfSome, ◌⊎◌}
use Rattle.std.specs.Io.KnownBytes.{Appends}
use Rattle.btor2.specs.declared.item.Item.{Item}
use Rattle.btor2.specs.Lists.{first_init_without_next}
use Rattle.btor2.specs.Reachability.{CanRise}
use Rattle.btor2text.specs.Spelling.{StandsFor}
use Rattle.btor2text.specs.Writing.{written}
use Rattle.fitting.specs.Models.{HaveForms, IsFit, IsUnfit}
use Rattle.fitting.specs.declared.fault.FitFault.{FitFault}
use Rattle.fitting.specs.declared.fault.FitFault.TheVariants as fit
use Rattle.full.specs.Lines.{FullLine}
use Rattle.full.specs.Plain.{plain_lines}
use Rattle.full.specs.Runs.{CanRiseFull}
use Rattle.celled.specs.Written.{IsWrittenInCells}
use Rattle.fulltext.specs.FirstFault.{IsFullFaultOf}
use Rattle.fulltext.specs.Spelling.{StandsForFull}
use Rattle.widetext.specs.Spelling.{StandsForWide}
use Rattle.writeout.specs.Faults.{IsUnwritten}
use Rattle.writeout.specs.declared.fault.WriteFault.{WriteFault}
use Rattle.writeout.specs.declared.fault.WriteFault.TheVariants as write
use Rattle.verbs.specs.declared.refusals.Fault.{Fault}
use Rattle.verbs.specs.declared.refusals.Fault.TheVariants as fault

-- A text stands for a list of items of words, each of whose states has a next or is free, and which is fitted into a model, with the names of its pieces. No line of it is of
-- justice or fairness, or it is that model.
pub record FitsWords (text : List ℕ) (lines : List FullLine) (narrow : List Item) : Type 0 where
  pub wide : List Item
  pub stands : StandsForWide text wide
  pub same : lines ≡ plain_lines wide
  pub each_has_next_or_is_free : first_init_without_next wide wide ≡ None
  pub fit : IsFit wide narrow
  pub forms : HaveForms wide ⊎ (narrow ≡ wide)

-- A model is written out as such a list, with a leaf for each cell of an array, and this is fitted.
pub record FitsWrittenOut (lines : List FullLine) (narrow : List Item) : Type 0 where
  pub wide : List Item
  pub written : IsWrittenInCells lines wide
  pub fit : IsFit wide narrow
  pub forms : HaveForms wide

-- A text stands for a model of the whole language, which is fitted into one of the profile, as it stands or written out. Its bad properties can rise exactly where those of that can.
pub record IsFitText (text : List ℕ) (narrow : List Item) : Type 0 where
  pub lines : List FullLine
  pub stands : StandsForFull text lines
  pub fits : FitsWords text lines narrow ⊎ FitsWrittenOut lines narrow
  pub rise_alike : (b : ℕ) → CanRiseFull lines b ↔ CanRise narrow b

-- a text stands for this model of the profile, each of whose states has a next or is free, or for none
abbrev pub IsProfileOf : List ℕ → Option (List Item) → Type 0
IsProfileOf text (Some items) = StandsFor text items × (first_init_without_next items items ≡ None)
IsProfileOf text None = (items : List Item) → StandsFor text items → ¬ (first_init_without_next items items ≡ None)

-- the same of a list of words
abbrev pub IsOfWords : List ℕ → Option (List Item) → Type 0
IsOfWords text (Some wide) = StandsForWide text wide × (first_init_without_next wide wide ≡ None)
IsOfWords text None = (wide : List Item) → StandsForWide text wide → ¬ (first_init_without_next wide wide ≡ None)

-- the text stands for a list of words, each of whose states has a next or is free, and for none of the profile, and this keeps it from being fitted
pub record IsUnfitText (text : List ℕ) (e : FitFault) : Type 0 where
  pub not_profile : IsProfileOf text None
  pub wide : List Item
  pub stands : StandsForWide text wide
  pub unfit : IsUnfit wide e

-- the text stands for a model of the whole language that has to be fitted, and this keeps the list that it is written out as from being fitted
pub record IsUnfitWrittenText (text : List ℕ) (e : FitFault) : Type 0 where
  pub not_profile : IsProfileOf text None
  pub lines : List FullLine
  pub stands : StandsForFull text lines
  pub wide : List Item
  pub written : IsWrittenInCells lines wide
  pub unfit : IsUnfit wide e

-- for what a model is written out as there is no room
pub record HasNoRoomWritten (lines : List FullLine) : Type 0 where
  pub wide : List Item
  pub written : IsWrittenInCells lines wide
  pub id : ℕ
  pub unfit : IsUnfit wide (fit.TooManyItems id)

-- this keeps a model from being written out, or from being fitted then
abbrev pub IsUnwrittenOrLong : List FullLine → WriteFault → Type 0
IsUnwrittenOrLong lines write.TooManyItems = IsUnwritten lines write.TooManyItems ⊎ HasNoRoomWritten lines
IsUnwrittenOrLong lines e = IsUnwritten lines e

-- the fault of a model that is not written out
abbrev pub IsWritingFault : List FullLine → Fault → Type 0
IsWritingFault lines (fault.Writing e) = IsUnwritten lines e
IsWritingFault lines _ = ⊥

-- the text stands for such a model, which has to be fitted
pub record IsUnwrittenText (text : List ℕ) (e : WriteFault) : Type 0 where
  pub not_profile : IsProfileOf text None
  pub lines : List FullLine
  pub stands : StandsForFull text lines
  pub unwritten : IsUnwrittenOrLong lines e

-- the text stands for no model of the whole language, and this is its first fault; or for one that is not fitted
abbrev pub IsNotFit : List ℕ → Fault → Type 0
IsNotFit text (fault.Model e) = IsFullFaultOf text e
IsNotFit text (fault.Fitting e) = IsUnfitText text e ⊎ IsUnfitWrittenText text e
IsNotFit text (fault.Writing e) = IsUnwrittenText text e
IsNotFit text _ = ⊥

-- the same of all that was to come
abbrev pub IsNotFitted : Option (List ℕ) → Fault → Type 0
IsNotFitted known (fault.Model e) = IfSome known (λ text. IsNotFit text (fault.Model e))
IsNotFitted known (fault.Fitting e) = IfSome known (λ text. IsNotFit text (fault.Fitting e))
IsNotFitted known (fault.Writing e) = IfSome known (λ text. IsNotFit text (fault.Writing e))
IsNotFitted known _ = ⊥

-- the first text stands for no model of the whole language, and this is its first fault
abbrev pub IsNoWholeModel : Option (List ℕ) → Fault → Type 0
IsNoWholeModel known (fault.Model e) = IfSome known (λ text. IsFullFaultOf text e)
IsNoWholeModel known _ = ⊥

-- a text of a model of the profile, each of whose states has a next or is free, is fitted into that model
abbrev pub IsKept : List ℕ → List Item → Type 0
IsKept text narrow = (items : List Item) → StandsFor text items → first_init_without_next items items ≡ None → narrow ≡ items

-- All that was to come is a text that is fitted into a model, and what was written is the writer's text of that; of a text of a model of the profile it is that model's.
pub record WritesFitting (known before now : Option (List ℕ)) : Type 0 where
  pub narrow : List Item
  pub fitted : IfSome known (λ text. IsFitText text narrow)
  pub kept : IfSome known (λ text. IsKept text narrow)
  pub appends : Appends before now (written narrow)

-- The first text is fitted into a model, whose bad properties can rise exactly where those of the model can that it stands for.
pub record FitsFirst (known : Option (List ℕ)) (narrow : List Item) : Type 0 where
  pub lines : List FullLine
  pub stands : IfSome known (λ text. StandsForFull text lines)
  pub fitted : IfSome known (λ text. IsFitText text narrow)
  pub rise_alike : (b : ℕ) → CanRiseFull lines b ↔ CanRise narrow b

-- The same, and these are the lines of that model.
pub record FitsWhole (known : Option (List ℕ)) (narrow : List Item) (full : List FullLine) : Type 0 where
  pub fits : FitsFirst known narrow
  pub lines : fits.lines ≡ full
