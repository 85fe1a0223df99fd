-- What is judged of a witness over a model of the whole language, by what is judged of what it is spread to.
use Rattle.std.specs.Prelude.{◌≡◌, ℕ, Option, None, List}
use Rattle.btor2.specs.declared.item.Item.{Item}
use Rattle.full.specs.Lines.{FullLine, Sort}
use Rattle.witness.specs.declared.judgement.Judgement.{Judgement}
use Rattle.witness.specs.Texts.{Shape}
use Rattle.witness.specs.Judgements.{unplayed, Judges}
use Rattle.rejoin.specs.Pieces.{joined_judgement}
use Rattle.spread.specs.Spread.{spread_text}
use Rattle.fulljudge.specs.Shapes.{full_shape}
use Rattle.fulljudge.specs.Lines.{words_text}
use Rattle.fulljudge.specs.Judgements.{judged_by}

-- What is judged of the spread text over the fitted model, and of the first words that begin with no constant, makes what is judged of the text over the model, where
-- that says a witness.
abbrev pub KeepsSpread : List Sort → Shape → List Item → List FullLine → List ℕ → Judgement → Type 0
KeepsSpread states shape narrow full text j =
    unplayed j ≡ None → (n : Judgement) × (d : Option ℕ) × (Judges narrow (spread_text shape (words_text (full_shape full) text)) n × (j ≡ judged_by states d (joined_judgement shape n)))
