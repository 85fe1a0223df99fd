-- A witness cut into pieces says over the fitted model what it says over the list.
use Rattle.std.proofs.Common.{◌≡◌, ℕ, ◌^◌, ◌<◌, List, [], ◌∷◌, map, Option, Some, None, IfSome, unwrap_or, option_map, refl, sym, subst}
use Rattle.std.specs.List.{AllByRecursion, AllZip}
use Rattle.std.proofs.lemmas.List.Elements.{recursion_from_All}
use Rattle.btor2.specs.declared.item.Item.{Item}
use Rattle.btor2.specs.Items.{is_input, is_state}
use Rattle.btor2.specs.Trace.{Frame, bits_of, IsState}
use Rattle.fit.specs.Fitting.{Layout, joined, given_ids, carried_ids}
use Rattle.fit.proofs.ListLemmas.{all_with, from_pieces}
use Rattle.fit.proofs.FrameLemmas.{FitAt, state_from_ids, input_from_ids}
use Rattle.witness.specs.declared.judgement.Judgement.{Judgement}
use Rattle.witness.specs.Texts.{Assignment, IsAssignment, Parts, Witness, IsPart, IsFreePart, AreParts, AreFrames, IsWitness, shape_of, widths_of}
use Rattle.witness.specs.Judgements.{pairs_of, frame_words, words_of, initial_words, given_words, JudgesWords}
use Rattle.rejoin.specs.Pieces.{split_part, split_parts, split_witness, joined_judgement}
use Rattle.fitting.specs.Models.{IsFit}
use Rattle.rejoin.specs.Alike.{FrameAlike, AreAlike}
use Rattle.rejoin.proofs.CutWordLemmas.{Make}
use Rattle.rejoin.proofs.SplitWordLemmas.{AreOf, beginning, begin_made, frame_of, give_made}
use Rattle.rejoin.proofs.AlikeLemmas.{alike_judged}

-- ---- parts

-- what a part of states has, where there is one
abbrev told : Option (List Assignment) → List Assignment
told states = unwrap_or states []

split_told : (widths : List ℕ) (states : Option (List Assignment)) → pairs_of (unwrap_or (option_map (split_part widths) states) []) ≡ pairs_of (split_part widths (told states))
split_told widths None = refl
split_told widths (Some list) = refl

-- the parts of a frame have words for nodes that are there
abbrev AreTold : List Item → Parts → Type 0
AreTold wide parts = AreOf (widths_of is_state wide) (told parts.states) × AreOf (widths_of is_input wide) parts.inputs

told_by : (wide : List Item) (MayBe : List Assignment → Type 0) (parts : Parts) → ((list : List Assignment) → MayBe list → IsPart (widths_of is_state wide) list) → AreParts (shape_of wide) MayBe parts → AreTold wide parts
told_by wide MayBe parts is h = (by parts.states h.states, recursion_from_All (IsAssignment (widths_of is_input wide)) parts.inputs h.inputs.each)
  where
    by : (o : Option (List Assignment)) → IfSome o MayBe → AreOf (widths_of is_state wide) (told o)
    by None may = tt
    by (Some list) may = recursion_from_All (IsAssignment (widths_of is_state wide)) list (is list may).each

all_told : (wide : List Item) (frames : List Parts) → AreFrames (shape_of wide) frames → AllByRecursion (AreTold wide) frames
all_told wide [] h = absurd h
all_told wide (first ∷ later) h = (
  told_by wide (IsPart (widths_of is_state wide)) first (λ list is. is) h.0,
  all_with (AreParts (shape_of wide) (IsFreePart (shape_of wide))) (AreTold wide) later (λ parts are. told_by wide (IsFreePart (shape_of wide)) parts (λ list is. is.part) are)
      (recursion_from_All (AreParts (shape_of wide) (IsFreePart (shape_of wide))) later h.1),
)

-- ---- frames

frame_alike : (wide narrow : List Item) (fit : IsFit wide narrow) (parts : Parts) → AreTold wide parts → FrameAlike wide fit.layout narrow (frame_words parts) (frame_words (split_parts (shape_of wide) parts))
frame_alike wide narrow fit parts h =
    subst (λ (states : List (ℕ × ℕ)). FrameAlike wide fit.layout narrow (frame_words parts) (frame_of states inputs)) (sym (split_told (widths_of is_state wide) parts.states)) (record {
      fits = input_from_ids narrow f (subst (FitAt narrow f) fit.fits.given (from_pieces (λ p. f p < 2 ^ bits_of narrow p) fit.layout (given_ids wide)
          (all_with (λ k. Make (bits_of narrow) f (given_words wide (frame_words parts) k) (fit.layout k)) (λ k. FitAt narrow f (fit.layout k)) (given_ids wide) (λ k make. make.1) made)));
      makes = all_with (λ k. Make (bits_of narrow) f (given_words wide (frame_words parts) k) (fit.layout k)) (λ k. joined narrow fit.layout f k ≡ given_words wide (frame_words parts) k) (given_ids wide) (λ k make. make.0) made;
    })
  where
    inputs : List (ℕ × ℕ)
    inputs = pairs_of (split_part (widths_of is_input wide) parts.inputs)

    f : Frame
    f = given_words narrow (frame_of (pairs_of (split_part (widths_of is_state wide) (told parts.states))) inputs)

    made : AllByRecursion (λ k. Make (bits_of narrow) f (given_words wide (frame_words parts) k) (fit.layout k)) (given_ids wide)
    made = give_made wide narrow fit (told parts.states) parts.inputs h.0 h.1

frames_alike : (wide narrow : List Item) (fit : IsFit wide narrow) (frames : List Parts) → AllByRecursion (AreTold wide) frames
    → AllZip (FrameAlike wide fit.layout narrow) (map frame_words frames) (map frame_words (map (split_parts (shape_of wide)) frames))
frames_alike wide narrow fit [] h = tt
frames_alike wide narrow fit (parts ∷ frames) h = (frame_alike wide narrow fit parts h.0, frames_alike wide narrow fit frames h.1)

-- ---- the whole

abbrev BeginsAlike : List Item → Layout → List Item → Frame → Frame → Type 0
BeginsAlike wide layout narrow s t = IsState narrow t × AllByRecursion (λ k. joined narrow layout t k ≡ s k) (carried_ids wide)

begin_alike : (wide narrow : List Item) (fit : IsFit wide narrow) (states : Option (List Assignment)) → AreOf (widths_of is_state wide) (told states)
    → BeginsAlike wide fit.layout narrow (beginning wide (pairs_of (told states))) (beginning narrow (pairs_of (unwrap_or (option_map (split_part (widths_of is_state wide)) states) [])))
begin_alike wide narrow fit states h =
    let made = begin_made wide narrow fit (told states) h in
    let s : Frame = beginning wide (pairs_of (told states)) in
    let t : Frame = beginning narrow (pairs_of (split_part (widths_of is_state wide) (told states))) in
    subst (λ (part : List (ℕ × ℕ)). BeginsAlike wide fit.layout narrow s (beginning narrow part)) (sym (split_told (widths_of is_state wide) states)) (
      state_from_ids narrow t (subst (FitAt narrow t) fit.fits.carried (from_pieces (λ p. t p < 2 ^ bits_of narrow p) fit.layout (carried_ids wide)
          (all_with (λ k. Make (bits_of narrow) t (s k) (fit.layout k)) (λ k. FitAt narrow t (fit.layout k)) (carried_ids wide) (λ k make. make.1) made))),
      all_with (λ k. Make (bits_of narrow) t (s k) (fit.layout k)) (λ k. joined narrow fit.layout t k ≡ s k) (carried_ids wide) (λ k make. make.0) made,
    )

first_begins : (wide narrow : List Item) (fit : IsFit wide narrow) (w : Witness) (frames : List Parts) → w.frames ≡ frames → AreFrames (shape_of wide) frames
    → BeginsAlike wide fit.layout narrow (initial_words wide (words_of w)) (initial_words narrow (words_of (split_witness (shape_of wide) w)))
first_begins wide narrow fit w [] e h = absurd h
first_begins wide narrow fit w (first ∷ later) e h =
    subst (λ (frames : List Parts). BeginsAlike wide fit.layout narrow (initial_words wide (words_of (record { claims = w.claims; frames = frames }))) (initial_words narrow (words_of (split_witness (shape_of wide) (record { claims = w.claims; frames = frames })))))
    (sym e) (begin_alike wide narrow fit first.states (all_told wide (first ∷ later) h).0.0)

pub split_alike : (wide narrow : List Item) (fit : IsFit wide narrow) (w : Witness) → IsWitness (shape_of wide) w → AreAlike wide fit.layout narrow (words_of w) (words_of (split_witness (shape_of wide) w))
split_alike wide narrow fit w valid =
    let begins = first_begins wide narrow fit w w.frames refl valid.frames in
    record {
      claims = refl;
      fits = begins.0;
      makes = begins.1;
      frames = frames_alike wide narrow fit w.frames (all_told wide w.frames valid.frames);
    }

pub split_judged : (wide narrow : List Item) (w : Witness) (j : Judgement) → IsFit wide narrow → IsWitness (shape_of wide) w → JudgesWords narrow (words_of (split_witness (shape_of wide) w)) j
    → JudgesWords wide (words_of w) (joined_judgement (shape_of wide) j)
split_judged wide narrow w j fit valid judges = alike_judged wide narrow fit (words_of w) (words_of (split_witness (shape_of wide) w)) j (split_alike wide narrow fit w valid) judges
