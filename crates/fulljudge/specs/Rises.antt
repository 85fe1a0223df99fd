-- First rises of the claims of a text over a model of the whole language, in the run by which it is judged ("Btor2, BtorMC and Boolector 3.0", semantics of witnesses;
-- that they are told is this project's).
use Rattle.std.specs.Prelude.{◌≡◌, ℕ, Bool, ◌==◌, List, Option, length, map}
use Rattle.std.specs.List.{list_any}
use Rattle.base.specs.Lines.{whole_lines}
use Rattle.btor2.specs.Items.{is_bad}
use Rattle.btor2.specs.Trace.{Frame}
use Rattle.full.specs.Lines.{FullLine, lines_of}
use Rattle.full.specs.Runs.{full_shows}
use Rattle.rises.specs.FirstRises.{first_rises_from}
use Rattle.witness.specs.declared.judgement.Judgement.{Judgement}
use Rattle.witness.specs.declared.judgement.Judgement.TheVariants as judgement
use Rattle.witness.specs.Readings.{reading, text_read}
use Rattle.witness.specs.Admits.{witness_of}
use Rattle.witness.specs.Judgements.{Words, words_of, makes_no_claim, JudgesAs}
use Rattle.fulljudge.specs.Shapes.{full_shape}
use Rattle.fulljudge.specs.Lines.{full_reader}
use Rattle.fulljudge.specs.Judgements.{IsJudged}

-- of each bad property of a model, in file order, the first of some frames in which it is 1, where it is among these claims
abbrev pub full_first_rises : List FullLine → List ℕ → List Frame → List (Option ℕ)
full_first_rises full claims fs = first_rises_from (λ k. list_any (λ c. c == k) claims) (map (full_shows full) fs) 0 (length (lines_of is_bad full))

-- What is judged of what a witness says, by a run that is as it tells; and these are the first rises of its claims in that run, unless it is judged that a state begins
-- otherwise than is told of it.
pub record IsJudgedWithRises (full : List FullLine) (w : Words) (j : Judgement) (firsts : List (Option ℕ)) : Type 0 where
  pub judged : IsJudged full w j
  pub rises : ((i : ℕ) → j ≡ judgement.InitDiffers i → ⊥) → firsts ≡ full_first_rises full w.claims judged.frames

-- The judgement of a text over a model, and beside it the first rises of its claims.
abbrev pub JudgesFullWithRises : List FullLine → List ℕ → Judgement → List (Option ℕ) → Type 0
JudgesFullWithRises full text j firsts = JudgesAs (λ r i. IsJudgedWithRises full (words_of (witness_of r)) i firsts) (makes_no_claim 0 (whole_lines text)) (text_read (full_reader (full_shape full)) text) j

-- the lines of a text before the faulty one claim the bad property at a position
abbrev pub full_claimed : List FullLine → List ℕ → ℕ → Bool
full_claimed full text k = list_any (λ c. c == k) (reading (full_reader (full_shape full)) text).read.claims
