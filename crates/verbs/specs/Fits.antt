-- Models of the whole language that are fitted and lowered, with what is needed for their witnesses.
use Rattle.std.specs.Prelude.{◌≡◌, ◌⊎◌, ℕ, Bool, List, Option, Some, IfSome}
use Rattle.btor2.specs.declared.item.Item.{Item}
use Rattle.full.specs.Lines.{FullLine}
use Rattle.fulltext.specs.Spelling.{StandsForFull}
use Rattle.witness.specs.declared.judgement.Judgement.{Judgement}
use Rattle.verbs.specs.declared.fits.Fit.{Fit}
use Rattle.verbs.specs.declared.fits.Fit.TheVariants as fit
use Rattle.verbs.specs.declared.fits.LoweredFit.{LoweredFit}
use Rattle.verbs.specs.Given.{LowersFitted}
use Rattle.verbs.specs.Unfitting.{IsReadyFor, IsUnfittedWide}
use Rattle.verbs.specs.Whole.{IsUnfittedByWhole, IsWholeOf}

-- the model of the profile that a model is fitted into
abbrev pub narrow_in : Fit → List Item
narrow_in (fit.Words r) = r.narrow
narrow_in (fit.Whole w) = w.narrow

-- it is what is needed of a text that stands for these lines
abbrev pub IsFitOf : List ℕ → List FullLine → Fit → Type 0
IsFitOf text full (fit.Words r) = IsReadyFor text r
IsFitOf text full (fit.Whole w) = IsWholeOf full w

-- The first text is of a model of the whole language, which is fitted, and the circuit lowers the model that it is fitted into.
pub record IsLoweredFit (known : Option (List ℕ)) (r : LoweredFit) : Type 0 where
  pub text : IfSome known (λ all. r.text.items ≡ all)
  pub stands : StandsForFull r.text.items r.model
  pub fit : IsFitOf r.text.items r.model r.fit
  pub gives : LowersFitted known r.circuit
  pub narrow : gives.narrow ≡ narrow_in r.fit

-- What was written is the witness of the model of the first text, with names or without, that says what a witness of the fitted model says, and this is what is judged of it.
abbrev pub UnfitsInto : Bool → Option (List ℕ) → List FullLine → List Item → List ℕ → Option (List ℕ) → Option (List ℕ) → Judgement → Type 0
UnfitsInto named model full narrow witness before now j =
    ((u : IsUnfittedWide named model (Some witness) before now j) × (u.narrow ≡ narrow)) ⊎ ((u : IsUnfittedByWhole named full (Some witness) before now j) × (u.narrow ≡ narrow))

abbrev pub UnfitsWith : Bool → List ℕ → List FullLine → Fit → List ℕ → Option (List ℕ) → Option (List ℕ) → Judgement → Type 0
UnfitsWith named text full f witness before now j = UnfitsInto named (Some text) full (narrow_in f) witness before now j
