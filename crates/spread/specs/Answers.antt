-- What is answered where no judgement is.
use Rattle.std.specs.Prelude.{◌≡◌, ℕ, Bool, true, false, List, None, Result, Ok, Err}
use Rattle.base.specs.Device.{HasRisen}
use Rattle.btor2.specs.declared.item.Item.{Item}
use Rattle.witness.specs.declared.judgement.Judgement.{Judgement}
use Rattle.fitting.specs.Models.{IsFit}
use Rattle.wide.specs.WideModels.{greatest_width, IsWideModel}
use Rattle.witness.specs.Texts.{Shape, shape_of}
use Rattle.witness.specs.Judgements.{unplayed, Judges}
use Rattle.rejoin.specs.Pieces.{joined_judgement}
use Rattle.spread.specs.Spread.{spread_text}
use Rattle.rejoin.specs.declared.fault.UnfitFault.{UnfitFault}
use Rattle.rejoin.specs.declared.fault.UnfitFault.TheVariants as fault

-- why lines are no longer taken: there are none, the source failed, a growth was refused, or the sink failed
abbrev pub StopsTaking : {T : Type 0} → Result T UnfitFault → Bool → ℕ → ℕ → Type 0
StopsTaking (Ok x) failed old new = new ≡ old
StopsTaking (Err fault.Read) failed old new = (failed ≡ false) × HasRisen old new
StopsTaking (Err fault.NoMemory) failed old new = (failed ≡ false) × (new ≡ old)
StopsTaking (Err fault.Write) failed old new = (failed ≡ true) × (new ≡ old)
StopsTaking (Err (fault.NoNext id)) failed old new = ⊥

-- What is judged of the spread text over the fitted model makes what is judged of the text, where that says a witness.
abbrev pub KeepsJudgement : List Item → List Item → List ℕ → Judgement → Type 0
KeepsJudgement wide narrow text j =
    unplayed j ≡ None → (n : Judgement) × (Judges narrow (spread_text (shape_of wide) text) n × (j ≡ joined_judgement (shape_of wide) n))

-- A shape is that of a list with words of any width, which is fitted into a model.
pub record IsOfFitted (shape : Shape) (narrow wide : List Item) : Type 0 where
  pub is_shape : shape ≡ shape_of wide
  pub model : IsWideModel greatest_width wide
  pub fit : IsFit wide narrow
