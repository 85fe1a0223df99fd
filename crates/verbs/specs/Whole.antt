-- Witnesses of models of the whole language: how they are judged, by the model of the profile that such a one is fitted into.
use Rattle.std.specs.Prelude.{◌≡◌, ℕ, Bool, List, Option, None, IfSome, ◌⊎◌}
use Rattle.std.specs.Io.KnownBytes.{Appends}
use Rattle.btor2.specs.declared.item.Item.{Item}
use Rattle.celled.specs.Written.{IsWrittenInCells}
use Rattle.fitting.specs.Models.{HaveForms, IsFit, IsUnfit}
use Rattle.full.specs.Lines.{FullLine}
use Rattle.fulljudge.specs.Compared.{StateWords}
use Rattle.fulljudge.specs.Judged.{HasStateWords}
use Rattle.fulljudge.specs.Judgements.{judged_by, JudgesFull}
use Rattle.fulljudge.specs.Lines.{words_text}
use Rattle.fulljudge.specs.Spreading.{KeepsSpread}
use Rattle.fullunfit.specs.Titles.{names_of}
use Rattle.fullunfit.specs.Unfitted.{KeepsFullJudgement, unfit_full_text}
use Rattle.rejoin.specs.Pieces.{joined_judgement}
use Rattle.fulljudge.specs.Shapes.{full_shape}
use Rattle.fulltext.specs.Spelling.{StandsForFull}
use Rattle.spread.specs.Spread.{IsShort, spread_text}
use Rattle.witness.specs.declared.judgement.Judgement.{Judgement}
use Rattle.witness.specs.Judgements.{Judges}
use Rattle.witness.specs.Texts.{shape_of}
use Rattle.verbs.specs.declared.refusals.Fault.{Fault}
use Rattle.verbs.specs.declared.refusals.Fault.TheVariants as fault
use Rattle.verbs.specs.declared.whole.Whole.{Whole}
use Rattle.verbs.specs.Fitting.{IsUnwrittenOrLong}
use Rattle.verbs.specs.Unfitting.{IsJudgedWide, IsSpreadWide, IsUnfittedWide}

-- The list is fitted into a model, in which the words of states stand so.
pub record IsPlacedOf (full : List FullLine) (celled : List Item) (w : IsWrittenInCells full celled) (narrow : List Item) (words : StateWords) : Type 0 where
  pub fit : IsFit celled narrow
  pub state_words : HasStateWords full w.places w.wide w.cells.layout celled narrow fit words

-- Of a model that is written out and fitted, what is needed for its witnesses.
pub record IsWholeOf (full : List FullLine) (w : Whole) : Type 0 where
  pub celled : List Item
  pub written : IsWrittenInCells full celled
  pub placed : IsPlacedOf full celled written w.narrow w.words
  pub forms : HaveForms celled
  pub shape : w.shape ≡ shape_of celled
  pub states : w.states ≡ (full_shape full).states
  pub inputs : w.inputs ≡ (full_shape full).inputs

-- a witness of at most 2^44 lines is judged so over a model
abbrev pub IsJudgedByWhole : List FullLine → Option (List ℕ) → Judgement → Type 0
IsJudgedByWhole full witness verdict = IfSome witness (λ text. IsShort text → JudgesFull full text verdict)

-- The first text is of a model of the whole language, and the second, where it has at most 2^44 lines, is judged so over it.
pub record IsJudgedWhole (model witness : Option (List ℕ)) (verdict : Judgement) : Type 0 where
  pub lines : List FullLine
  pub stands : IfSome model (λ text. StandsForFull text lines)
  pub judged : IsJudgedByWhole lines witness verdict

-- so it is, or the text is of a list with words of any width, and it is judged so over that
abbrev pub IsJudgedFitted : Option (List ℕ) → Option (List ℕ) → Judgement → Type 0
IsJudgedFitted model witness verdict = IsJudgedWide model witness verdict ⊎ IsJudgedWhole model witness verdict

-- this keeps a model from being written out, or what it is written out as from being fitted
abbrev pub IsNotWhole : List FullLine → Fault → Type 0
IsNotWhole lines (fault.Writing e) = IsUnwrittenOrLong lines e
IsNotWhole lines (fault.Fitting e) = (celled : List Item) × IsWrittenInCells lines celled × IsUnfit celled e
IsNotWhole lines _ = ⊥

-- ---- witnesses of the one, by those of the other

-- A model is written out and fitted. A witness of it of at most 2^44 lines is judged so, and what was written is the witness of the fitted model that says the same.
pub record IsSpreadByWhole (full : List FullLine) (witness before now : Option (List ℕ)) (verdict : Judgement) : Type 0 where
  pub celled : List Item
  pub narrow : List Item
  pub written_out : IsWrittenInCells full celled
  pub fit : IsFit celled narrow
  pub judged : IsJudgedByWhole full witness verdict
  pub written : IfSome witness (λ text. IsShort text → Appends before now (spread_text (shape_of celled) (words_text (full_shape full) text)))
  pub kept : IfSome witness (λ text. IsShort text → KeepsSpread (full_shape full).states (shape_of celled) narrow full text verdict)

-- What was written is the witness of the model, with names or without, that says what a witness says of the fitted model; and this is what is judged of both.
pub record IsUnfittedByWhole (named : Bool) (full : List FullLine) (witness before now : Option (List ℕ)) (verdict : Judgement) : Type 0 where
  pub celled : List Item
  pub narrow : List Item
  pub words : StateWords
  pub written_out : IsWrittenInCells full celled
  pub placed : IsPlacedOf full celled written_out narrow words
  pub judged : IfSome witness (λ text. (j : Judgement) × (Judges narrow text j × (verdict ≡ judged_by (full_shape full).states None (joined_judgement (shape_of celled) j))))
  pub written : IfSome witness (λ text. Appends before now (unfit_full_text (full_shape full).states (full_shape full).inputs (shape_of celled) (names_of full) named words narrow text))
  pub kept : IfSome witness (λ text. KeepsFullJudgement full celled (unfit_full_text (full_shape full).states (full_shape full).inputs (shape_of celled) (names_of full) named words narrow text) verdict)

-- the first text is of such a model
pub record IsSpreadWhole (model witness before now : Option (List ℕ)) (verdict : Judgement) : Type 0 where
  pub lines : List FullLine
  pub stands : IfSome model (λ text. StandsForFull text lines)
  pub spread : IsSpreadByWhole lines witness before now verdict

pub record IsUnfittedWhole (named : Bool) (model witness before now : Option (List ℕ)) (verdict : Judgement) : Type 0 where
  pub lines : List FullLine
  pub stands : IfSome model (λ text. StandsForFull text lines)
  pub unfitted : IsUnfittedByWhole named lines witness before now verdict

-- or of a list with words of any width
abbrev pub IsSpread : Option (List ℕ) → Option (List ℕ) → Option (List ℕ) → Option (List ℕ) → Judgement → Type 0
IsSpread model witness before now verdict = IsSpreadWide model witness before now verdict ⊎ IsSpreadWhole model witness before now verdict

abbrev pub IsUnfitted : Bool → Option (List ℕ) → Option (List ℕ) → Option (List ℕ) → Option (List ℕ) → Judgement → Type 0
IsUnfitted named model witness before now verdict = IsUnfittedWide named model witness before now verdict ⊎ IsUnfittedWhole named model witness before now verdict
