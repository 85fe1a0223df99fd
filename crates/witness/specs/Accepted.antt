-- Which texts are accepted, by what they say and by what the frames of the one trace show. Of lines that are faulty, and of why, nothing is said here.
use Rattle.std.specs.Prelude.{◌≡◌, ◌↔◌, ℕ, List}
use Rattle.btor2.specs.declared.item.Item.{Item}
use Rattle.aiger.specs.Circuit.{Circuit}
use Rattle.witness.specs.declared.judgement.Judgement.{Judgement}
use Rattle.witness.specs.declared.judgement.Judgement.TheVariants as judgement
use Rattle.witness.specs.Texts.{shape_of, Witness, Says}
use Rattle.witness.specs.Judgements.{words_of, JudgesWords}
use Rattle.witness.specs.BitTexts.{BitWitness, BitSays}
use Rattle.witness.specs.BitJudgements.{JudgesBits}

-- a text is accepted over a model, with so many frames: it says a witness, and that is what is judged of this
pub record IsAcceptedText (items : List Item) (text : List ℕ) (frames : ℕ) : Type 0 where
  pub witness : Witness
  pub says : Says (shape_of items) text witness
  pub judged : JudgesWords items (words_of witness) (judgement.Accepted frames)

-- the same over a circuit
pub record IsAcceptedBitText (c : Circuit) (text : List ℕ) (frames : ℕ) : Type 0 where
  pub witness : BitWitness
  pub says : BitSays c text witness
  pub judged : JudgesBits c witness (judgement.Accepted frames)

-- what is told is that a text is accepted exactly where it is, over a model
abbrev pub AcceptsExactly : List Item → List ℕ → Judgement → Type 0
AcceptsExactly items text j = (frames : ℕ) → (j ≡ judgement.Accepted frames) ↔ IsAcceptedText items text frames

-- and over a circuit
abbrev pub BitAcceptsExactly : Circuit → List ℕ → Judgement → Type 0
BitAcceptsExactly c text j = (frames : ℕ) → (j ≡ judgement.Accepted frames) ↔ IsAcceptedBitText c text frames
