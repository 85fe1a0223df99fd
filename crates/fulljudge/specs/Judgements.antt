-- The judgement of a text over a model of the whole language, as `Judgements.antt` of `witness` has it over one of the profile.
use Rattle.std.specs.Prelude.{◌≡◌, ℕ, List, Option, Some, None, length, map, ◌⊎◌}
use Rattle.base.specs.Lines.{whole_lines}
use Rattle.btor2.specs.Items.{is_bad}
use Rattle.btor2.specs.Trace.{Frame}
use Rattle.full.specs.Lines.{FullLine, Sort, lines_of}
use Rattle.full.specs.Runs.{IsRun, full_shows}
use Rattle.witness.specs.declared.judgement.Judgement.{Judgement}
use Rattle.witness.specs.declared.judgement.Judgement.TheVariants as judgement
use Rattle.witness.specs.Readings.{text_read}
use Rattle.witness.specs.Admits.{witness_of}
use Rattle.witness.specs.Judgements.{Words, words_of, verdict, makes_no_claim, JudgesAs}
use Rattle.fulljudge.specs.Shapes.{full_shape, value_of_word}
use Rattle.fulljudge.specs.Lines.{full_reader}
use Rattle.fulljudge.specs.Told.{AreTold, FirstDiffers}

-- of a run that is as is told: a state begins otherwise than is told of it, or none does and this is what the run shows of the claims
abbrev pub SaysOfRun : List FullLine → Words → List Frame → Judgement → Type 0
SaysOfRun full w fs j =
    ((i : ℕ) × (j ≡ judgement.InitDiffers i) × FirstDiffers full w.frames fs i)
    ⊎ (((i : ℕ) → FirstDiffers full w.frames fs i → ⊥) × (j ≡ verdict None w.claims (length (lines_of is_bad full)) (map (full_shows full) fs)))

-- What is judged of what a witness says, by a run that is as it tells. Of several states that begin otherwise any may be named.
pub record IsJudged (full : List FullLine) (w : Words) (j : Judgement) : Type 0 where
  pub frames : List Frame
  pub run : IsRun full frames
  pub told : AreTold full w.frames frames
  pub says : SaysOfRun full w frames j

-- What is judged over a model, by what is judged over a list in which each word of a state of these sorts has a state: a word that differs is that of its state. Of a witness
-- whose words do not, the state is named, if there is one, of which something else is told than its init line gives.
abbrev pub judged_by : List Sort → Option ℕ → Judgement → Judgement
judged_by sorts d judgement.NoClaim = judgement.NoClaim
judged_by sorts d (judgement.Malformed line why) = judgement.Malformed line why
judged_by sorts d (judgement.InitDiffers k) = judgement.InitDiffers (value_of_word sorts k)
judged_by sorts (Some i) j = judgement.InitDiffers i
judged_by sorts None j = j

-- The judgement of a text over a model.
abbrev pub JudgesFull : List FullLine → List ℕ → Judgement → Type 0
JudgesFull full text j = JudgesAs (λ r. IsJudged full (words_of (witness_of r))) (makes_no_claim 0 (whole_lines text)) (text_read (full_reader (full_shape full)) text) j
