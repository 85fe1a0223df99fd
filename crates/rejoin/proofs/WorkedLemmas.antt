-- The worked rows: a word of 128 bits by its pieces.
use Rattle.std.proofs.Common.{◌≡◌, ℕ, ◌+◌, ◌*◌, ◌^◌, List, [], ◌∷◌, refl, arith}
use Rattle.fit.specs.Fitting.{Layout}
use Rattle.fit.specs.Worked.{wide_adder, narrow_adder, adder_layout}
use Rattle.fit.proofs.FrameLemmas.{state_from_ids, input_from_ids}
use Rattle.witness.specs.Judgements.{FrameWords, initial_words, given_words}
use Rattle.rejoin.specs.Alike.{FrameAlike, AreAlike}
use Rattle.rejoin.specs.Worked.{wide_words, piece_words}

abbrev layout : Layout
layout = adder_layout (10 ∷ 14 ∷ [])

frame_of : List (ℕ × ℕ) → FrameWords
frame_of inputs = record { states = []; inputs = inputs }

frame_alike : FrameAlike wide_adder layout narrow_adder (frame_of ((0, 2 ^ 64 + 2) ∷ [])) (frame_of ((0, 2) ∷ (1, 1) ∷ []))
unfolding frame_of
frame_alike =
    record {
      fits = input_from_ids narrow_adder (given_words narrow_adder (frame_of ((0, 2) ∷ (1, 1) ∷ []))) (omega arith, (omega arith, tt));
      makes = (refl, tt);
    }

pub alike : AreAlike wide_adder layout narrow_adder wide_words (piece_words 2 1)
unfolding frame_of
alike =
    record {
      claims = refl;
      fits = state_from_ids narrow_adder (initial_words narrow_adder (piece_words 2 1)) (omega arith, (omega arith, tt));
      makes = (refl, tt);
      frames = (frame_alike, tt);
    }

pub exchanged : AreAlike wide_adder layout narrow_adder wide_words (piece_words 1 2) → ⊥
exchanged h =
    let e : 2 * 2 ^ 64 + 1 ≡ 2 ^ 64 + 2 = h.frames.0.makes.0 in
    omega (arith, e)
