-- Witnesses of models with words of any width: how they are judged, by the model of the profile that such a one is fitted into, and how a witness of the one becomes
-- one of the other.
use Rattle.std.specs.Prelude.{◌≡◌, ◌⊎◌, ℕ, Bool, List, Option, Some, None, IfSome}
use Rattle.std.specs.Io.KnownBytes.{Appends}
use Rattle.btor2.specs.declared.item.Item.{Item}
use Rattle.btor2.specs.Lists.{first_init_without_next}
use Rattle.fitting.specs.Models.{HaveForms, IsFit}
use Rattle.rejoin.specs.Pieces.{joined_judgement}
use Rattle.spread.specs.Answers as spread
use Rattle.spread.specs.Spread.{IsShort, spread_text}
use Rattle.unfit.specs.Joined.{Wide}
use Rattle.unfit.specs.Naming.{names_of}
use Rattle.unfit.specs.Unfitted.{KeepsJudgement, unfit_text}
use Rattle.widetext.specs.Spelling.{StandsForWide}
use Rattle.witness.specs.declared.judgement.Judgement.{Judgement}
use Rattle.witness.specs.Texts.{shape_of}
use Rattle.witness.specs.Judgements.{Judges}
use Rattle.verbs.specs.declared.refusals.Fault.{Fault}
use Rattle.verbs.specs.declared.refusals.Fault.TheVariants as fault
use Rattle.verbs.specs.declared.unfitting.Known.{Known}
use Rattle.verbs.specs.declared.unfitting.Ready.{Ready}
use Rattle.verbs.specs.Fitting.{IsUnfitText}

-- All that was to come is a text that stands for a list with words of any width, each of whose states has a next or is free, and which is fitted into a model.
pub record IsReady (known : Option (List ℕ)) (wide narrow : List Item) : Type 0 where
  pub stands : IfSome known (λ text. StandsForWide text wide)
  pub fit : IsFit wide narrow
  pub each_has_next_or_is_free : first_init_without_next wide wide ≡ None

-- what is known of a list
pub record IsKnown (wide : List Item) (k : Known) : Type 0 where
  pub shape : k.shape ≡ shape_of wide
  pub names : k.names ≡ names_of wide

-- of a text that stands for such a list, what is needed of it for its witnesses
pub record IsReadyFor (text : List ℕ) (r : Ready) : Type 0 where
  pub wide : List Item
  pub ready : IsReady (Some text) wide r.narrow
  pub forms : HaveForms wide ⊎ (r.narrow ≡ wide)
  pub known : IsKnown wide r.known

-- what is known of a list for the witnesses that are written of it, with names or without
abbrev pub known_of : Bool → List Item → Wide
known_of named wide = record { shape = shape_of wide; names = names_of wide; named = named }

-- The first text is of such a list; and the second, where it has at most 2^44 lines, is judged so over it.
pub record IsJudgedWide (model witness : Option (List ℕ)) (verdict : Judgement) : Type 0 where
  pub wide : List Item
  pub narrow : List Item
  pub ready : IsReady model wide narrow
  pub judged : IfSome witness (λ text. IsShort text → Judges wide text verdict)

-- The same, and what was written is the witness of the fitted model that says what the second says.
pub record IsSpreadWide (model witness before now : Option (List ℕ)) (verdict : Judgement) : Type 0 where
  pub wide : List Item
  pub narrow : List Item
  pub ready : IsReady model wide narrow
  pub judged : IfSome witness (λ text. IsShort text → Judges wide text verdict)
  pub written : IfSome witness (λ text. IsShort text → Appends before now (spread_text (shape_of wide) text))
  pub kept : IfSome witness (λ text. IsShort text → spread.KeepsJudgement wide narrow text verdict)

-- The first text is of such a list; what was written is the witness of it, with names or without, that says what the second says of the fitted model; and this is what is
-- judged of both, by the words that are put together of the pieces.
pub record IsUnfittedWide (named : Bool) (model witness before now : Option (List ℕ)) (verdict : Judgement) : Type 0 where
  pub wide : List Item
  pub narrow : List Item
  pub ready : IsReady model wide narrow
  pub judged : IfSome witness (λ text. (j : Judgement) × (Judges narrow text j × (verdict ≡ joined_judgement (shape_of wide) j)))
  pub written : IfSome witness (λ text. Appends before now (unfit_text (known_of named wide) narrow text))
  pub kept : IfSome witness (λ text. KeepsJudgement wide (unfit_text (known_of named wide) narrow text) verdict)

-- a text stands for one that is not fitted
abbrev pub IsUnfitAlone : List ℕ → Fault → Type 0
IsUnfitAlone text (fault.Fitting e) = IsUnfitText text e
IsUnfitAlone text _ = ⊥
