-- Worked traces: the words of the toggling model's frames, and what is judged of them.
use Rattle.std.proofs.Common.{◌≡◌, ℕ, List, [], ◌∷◌, length, map, Option, Some, None, option_and_then, refl, ap, ◌∙◌}
use Rattle.std.specs.List.{last_or}
use Rattle.base.specs.Operator.{unary_value}
use Rattle.base.specs.declared.operators.Unary.TheVariants as unary
use Rattle.btor2.specs.declared.item.Item.{Item}
use Rattle.btor2.specs.Items.{is_bad}
use Rattle.btor2.specs.Trace.{Frame, IsTrace}
use Rattle.btor2.specs.Reachability.{nodes_of, model_shows}
use Rattle.btor2.specs.Worked.{toggler_model, follower}
use Rattle.witness.specs.declared.judgement.Judgement.TheVariants as judgement
use Rattle.witness.specs.declared.judgement.Judgement.{Judgement}
use Rattle.witness.specs.Judgements.{FrameWords, Words, initial_words, given_frames, first_different, verdict}
use Rattle.witness.specs.Worked.{constrained}
use Rattle.witness.specs.WordPlays.{word_at}

-- a frame in which nothing is given
abbrev no_words : FrameWords
no_words = record { states = []; inputs = [] }

-- the bit is given 0, for two frames
abbrev pub two_frames : Words
two_frames = record { claims = 0 ∷ []; frames = record { states = (0, 0) ∷ []; inputs = [] } ∷ no_words ∷ [] }

-- nothing is given, for one frame
abbrev pub one_frame : Words
one_frame = record { claims = 0 ∷ []; frames = no_words ∷ [] }

-- what is judged of words by a trace
abbrev pub words_judged : List Item → Words → List Frame → Judgement
words_judged items w fs = verdict (first_different items (initial_words items w)) w.claims (length (nodes_of is_bad items)) (map (model_shows items) fs)

-- the bit negated
not_word : (f : Frame) (x : ℕ) → f 3 ≡ x → f 5 ≡ unary_value unary.Not 1 (f 3) → f 5 ≡ unary_value unary.Not 1 x
not_word f x bit is = is ∙ ap (λ (y : ℕ). unary_value unary.Not 1 y) bit

-- the bit is 0 in the first frame and 1 in the second
pub two_frames_judged : (fs : List Frame) → IsTrace toggler_model (initial_words toggler_model two_frames) (given_frames toggler_model two_frames) fs
    → judgement.Accepted 2 ≡ words_judged toggler_model two_frames fs
two_frames_judged [] t = absurd t
two_frames_judged (f ∷ []) t = absurd t.1
two_frames_judged (f ∷ g ∷ []) t =
    let first : f 3 ≡ 0 = t.0.1.1.0 in
    let negated : f 5 ≡ 1 = not_word f 0 first t.0.1.1.1.1.0 in
    let second : g 3 ≡ 1 = t.1.0.1.1.0 ∙ negated in
    rw (first, second) refl
two_frames_judged (f ∷ g ∷ h ∷ fs) t = absurd t.1.1

pub one_frame_judged : (fs : List Frame) → IsTrace toggler_model (initial_words toggler_model one_frame) (given_frames toggler_model one_frame) fs
    → judgement.NotReached 0 ≡ words_judged toggler_model one_frame fs
one_frame_judged [] t = absurd t
one_frame_judged (f ∷ []) t =
    let first : f 3 ≡ 0 = t.0.1.1.0 in
    rw first refl
one_frame_judged (f ∷ g ∷ fs) t = absurd t.1

-- the negated bit is 1 in the first frame and 0 in the second
pub constraint_judged : (fs : List Frame) → IsTrace constrained (initial_words constrained two_frames) (given_frames constrained two_frames) fs
    → judgement.Violated 1 0 ≡ words_judged constrained two_frames fs
constraint_judged [] t = absurd t
constraint_judged (f ∷ []) t = absurd t.1
constraint_judged (f ∷ g ∷ []) t =
    let first : f 3 ≡ 0 = t.0.1.1.0 in
    let negated : f 5 ≡ 1 = not_word f 0 first t.0.1.1.1.1.0 in
    let second : g 3 ≡ 1 = t.1.0.1.1.0 ∙ negated in
    let negated_again : g 5 ≡ 0 = not_word g 1 second t.1.0.1.1.1.1.0 in
    rw (negated, negated_again) refl
constraint_judged (f ∷ g ∷ h ∷ fs) t = absurd t.1.1

-- a free state is given 1 and then 0, the state that follows it 0, and the input 0
abbrev pub follows_words : Words
follows_words = record { claims = 0 ∷ []; frames = record { states = (0, 1) ∷ (1, 0) ∷ []; inputs = (0, 0) ∷ [] } ∷ record { states = (0, 0) ∷ []; inputs = (0, 0) ∷ [] } ∷ [] }

-- the state follows in the second frame
pub follows_judged : (fs : List Frame) → IsTrace follower (initial_words follower follows_words) (given_frames follower follows_words) fs → judgement.Accepted 2 ≡ words_judged follower follows_words fs
follows_judged [] t = absurd t
follows_judged (f ∷ []) t = absurd t.1
follows_judged (f ∷ g ∷ []) t =
    let free : f 2 ≡ 1 = t.0.1.0 in
    let first : f 3 ≡ 0 = t.0.1.1.0 in
    let second : g 3 ≡ 1 = t.1.0.1.1.0 ∙ free in
    rw (first, second) refl
follows_judged (f ∷ g ∷ h ∷ fs) t = absurd t.1.1

-- it is given 1 in the second frame alone
abbrev pub late_words : Words
late_words = record { claims = 0 ∷ []; frames = no_words ∷ record { states = (0, 1) ∷ []; inputs = [] } ∷ [] }

pub does_not_follow_judged : (fs : List Frame) → IsTrace follower (initial_words follower late_words) (given_frames follower late_words) fs → judgement.NotReached 0 ≡ words_judged follower late_words fs
does_not_follow_judged [] t = absurd t
does_not_follow_judged (f ∷ []) t = absurd t.1
does_not_follow_judged (f ∷ g ∷ []) t =
    let free : f 2 ≡ 0 = t.0.1.0 in
    let first : f 3 ≡ 0 = t.0.1.1.0 in
    let second : g 3 ≡ 0 = t.1.0.1.1.0 ∙ free in
    rw (first, second) refl
does_not_follow_judged (f ∷ g ∷ h ∷ fs) t = absurd t.1.1

-- ---- the word of the toggling bit in the last of one frame, and of two, in which nothing is given

abbrev word_told : List Frame → Option ℕ
word_told fs = option_and_then (λ f. word_at toggler_model f 2) (last_or None fs)

pub first_word_told : (fs : List Frame) → IsTrace toggler_model (initial_words toggler_model one_frame) (given_frames toggler_model one_frame) fs → word_told fs ≡ Some 0
first_word_told [] t = absurd t
first_word_told (f ∷ []) t =
    let first : f 3 ≡ 0 = t.0.1.1.0 in
    ap (λ (n : ℕ). Some n) first
first_word_told (f ∷ g ∷ fs) t = absurd t.1

abbrev two_empty_frames : Words
two_empty_frames = record { claims = 0 ∷ []; frames = no_words ∷ no_words ∷ [] }

pub second_word_told : (fs : List Frame) → IsTrace toggler_model (initial_words toggler_model two_empty_frames) (given_frames toggler_model two_empty_frames) fs → word_told fs ≡ Some 1
second_word_told [] t = absurd t
second_word_told (f ∷ []) t = absurd t.1
second_word_told (f ∷ g ∷ []) t =
    let first : f 3 ≡ 0 = t.0.1.1.0 in
    let negated : f 5 ≡ 1 = not_word f 0 first t.0.1.1.1.1.0 in
    let second : g 3 ≡ 1 = t.1.0.1.1.0 ∙ negated in
    ap (λ (n : ℕ). Some n) second
second_word_told (f ∷ g ∷ h ∷ fs) t = absurd t.1.1

-- no word stands at a position with no node
pub no_word_told : (o : Option Frame) → option_and_then (λ f. word_at toggler_model f 0) o ≡ None
no_word_told None = refl
no_word_told (Some f) = refl
