-- First rises of worked traces.
use Rattle.std.proofs.Common.{◌≡◌, ℕ, true, false, List, [], ◌∷◌, map, Some, None, refl, ap, ap₂, ◌∙◌}
use Rattle.base.specs.Operator.{unary_value, binary_value}
use Rattle.base.specs.declared.operators.Unary.TheVariants as unary
use Rattle.base.specs.declared.operators.Binary.TheVariants as binary
use Rattle.btor2.specs.Trace.{Frame, IsFrame, IsTrace, next_state}
use Rattle.btor2.specs.Reachability.{model_shows}
use Rattle.btor2.specs.Worked.{counter, toggler_model}
use Rattle.base.specs.Literal.{Valuation}
use Rattle.aiger.specs.Trace.{IsCircuitTrace as IsBitTrace}
use Rattle.aiger.specs.Reachability.{circuit_shows}
use Rattle.witness.specs.Judgements.{FrameWords, Words, initial_words, given_words, given_frames}
use Rattle.rises.specs.FirstRises.{first_rise}
use Rattle.rises.specs.Worked.{input_and_negation, either_input}

abbrev no_words : FrameWords
no_words = record { states = []; inputs = [] }

-- nothing is given, for so many frames
abbrev pub eight_frames : Words
eight_frames = record { claims = 0 ∷ []; frames = no_words ∷ no_words ∷ no_words ∷ no_words ∷ no_words ∷ no_words ∷ no_words ∷ no_words ∷ [] }

abbrev pub two_frames : Words
two_frames = record { claims = 0 ∷ []; frames = no_words ∷ no_words ∷ [] }

abbrev pub one_frame : Words
one_frame = record { claims = 0 ∷ []; frames = no_words ∷ [] }

-- a frame of the counter, by the word that is carried into it: the next one, and whether it is 3
counts_on : (s i f : Frame) (x : ℕ) → IsFrame counter s i f → s 4 ≡ x → (f 6 ≡ unary_value unary.Inc 2 x) × (f 9 ≡ binary_value binary.Eq 2 x 3)
counts_on s i f x h carried =
    let state : f 4 ≡ x = h.1.1.1.0 ∙ carried in
    (h.1.1.1.1.1.0 ∙ ap (unary_value unary.Inc 2) state, h.1.1.1.1.1.1.1.1.0 ∙ ap₂ (binary_value binary.Eq 2) state h.1.1.1.1.1.1.1.0)

pub counter_rises : (fs : List Frame) → IsTrace counter (initial_words counter eight_frames) (given_frames counter eight_frames) fs → first_rise (map (model_shows counter) fs) 0 ≡ Some 3
counter_rises [] t = absurd t
counter_rises (a ∷ []) t = absurd t.1
counter_rises (a ∷ b ∷ []) t = absurd t.1.1
counter_rises (a ∷ b ∷ c ∷ []) t = absurd t.1.1.1
counter_rises (a ∷ b ∷ c ∷ d ∷ more) t =
    let given : Frame = given_words counter no_words in
    let at_0 = counts_on (initial_words counter eight_frames) given a 0 t.0 refl in
    let at_1 = counts_on (next_state counter a) given b 1 t.1.0 at_0.0 in
    let at_2 = counts_on (next_state counter b) given c 2 t.1.1.0 at_1.0 in
    let at_3 = counts_on (next_state counter c) given d 3 t.1.1.1.0 at_2.0 in
    let zero_0 : a 9 ≡ 0 = at_0.1 in
    let zero_1 : b 9 ≡ 0 = at_1.1 in
    let zero_2 : c 9 ≡ 0 = at_2.1 in
    let one : d 9 ≡ 1 = at_3.1 in
    rw (zero_0, zero_1, zero_2, one) refl

pub toggler_rises : (fs : List Frame) → IsTrace toggler_model (initial_words toggler_model two_frames) (given_frames toggler_model two_frames) fs → first_rise (map (model_shows toggler_model) fs) 0 ≡ Some 1
toggler_rises [] t = absurd t
toggler_rises (f ∷ []) t = absurd t.1
toggler_rises (f ∷ g ∷ more) t =
    let first : f 3 ≡ 0 = t.0.1.1.0 in
    let negated : f 5 ≡ 1 = t.0.1.1.1.1.0 ∙ ap (unary_value unary.Not 1) first in
    let second : g 3 ≡ 1 = t.1.0.1.1.0 ∙ negated in
    rw (first, second) refl

pub toggler_cut : (fs : List Frame) → IsTrace toggler_model (initial_words toggler_model one_frame) (given_frames toggler_model one_frame) fs → first_rise (map (model_shows toggler_model) fs) 0 ≡ None
toggler_cut [] t = refl
toggler_cut (f ∷ []) t = let first : f 3 ≡ 0 = t.0.1.1.0 in rw first refl
toggler_cut (f ∷ g ∷ more) t = absurd t.1

-- the input is 0, and then 1
abbrev pub low_then_high : List ℕ → Words
low_then_high claims = record { claims = claims; frames = record { states = []; inputs = (0, 0) ∷ [] } ∷ record { states = []; inputs = (0, 1) ∷ [] } ∷ [] }

pub record EitherRises (fs : List Frame) : Type 0 where
  pub first : first_rise (map (model_shows input_and_negation) fs) 0 ≡ Some 1
  pub second : first_rise (map (model_shows input_and_negation) fs) 1 ≡ Some 0
  pub third : first_rise (map (model_shows input_and_negation) fs) 2 ≡ None

pub either_rises : (claims : List ℕ) (fs : List Frame) → IsTrace input_and_negation (initial_words input_and_negation (low_then_high claims)) (given_frames input_and_negation (low_then_high claims)) fs → EitherRises fs
either_rises claims [] t = absurd t
either_rises claims (f ∷ []) t = absurd t.1
either_rises claims (f ∷ g ∷ []) t =
    let low : f 2 ≡ 0 = t.0.1.0 in
    let other : f 3 ≡ 1 = t.0.1.1.0 ∙ ap (unary_value unary.Not 1) low in
    let none : f 4 ≡ 0 = t.0.1.1.1.0 in
    let high : g 2 ≡ 1 = t.1.0.1.0 in
    let again : g 4 ≡ 0 = t.1.0.1.1.1.0 in
    record { first = rw (low, high) refl; second = rw other refl; third = rw (none, again) refl }
either_rises claims (f ∷ g ∷ h ∷ fs) t = absurd t.1.1

pub three : {X : Type 0} (a b c x y z : X) → a ≡ x → b ≡ y → c ≡ z → a ∷ b ∷ c ∷ [] ≡ x ∷ y ∷ z ∷ []
three a b c x y z d e f = ap₂ (λ v w. v ∷ w) d (ap₂ (λ v w. v ∷ w ∷ []) e f)

pub input_rises : (vs : List Valuation) → IsBitTrace either_input [] ((true ∷ []) ∷ (false ∷ []) ∷ (false ∷ []) ∷ []) vs → first_rise (map (circuit_shows either_input) vs) 1 ≡ Some 1
input_rises [] t = absurd t
input_rises (v ∷ []) t = absurd t.1
input_rises (v ∷ w ∷ more) t =
    let high : v 1 ≡ true = cc (t.0.inputs) in
    let low : w 1 ≡ false = cc (t.1.0.inputs) in
    rw (high, low) refl

pub input_never : (vs : List Valuation) → IsBitTrace either_input [] ((false ∷ []) ∷ (false ∷ []) ∷ []) vs → first_rise (map (circuit_shows either_input) vs) 0 ≡ None
input_never [] t = absurd t
input_never (v ∷ []) t = absurd t.1
input_never (v ∷ w ∷ []) t =
    let low : v 1 ≡ false = cc (t.0.inputs) in
    let again : w 1 ≡ false = cc (t.1.0.inputs) in
    rw (low, again) refl
input_never (v ∷ w ∷ u ∷ vs) t = absurd t.1.1
