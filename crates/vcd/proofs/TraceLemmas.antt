-- The traces of a text's closed frames, and of its fronts.
use Rattle.std.proofs.Common.{◌≡◌, suc, List, [], ◌∷◌, ◌++◌, length, map, refl, ap, subst, ◌∙◌}
use Rattle.std.proofs.lemmas.List.{map-append, length-map}
use Rattle.btor2.specs.declared.item.Item.{Item}
use Rattle.btor2.specs.Trace.{Frame, IsTrace, next_state}
use Rattle.btor2.proofs.TraceLemmas.{trace_length}
use Rattle.witness.specs.Texts.{Parts}
use Rattle.witness.specs.Judgements.{Words, frame_words, initial_words, given_words, given_frames}

-- a trace of these frames, whatever is claimed
abbrev of_frames : List Parts → Words
of_frames closed = record { claims = []; frames = map frame_words closed }

abbrev pub IsTraceOf : List Item → List Parts → List Frame → Type 0
IsTraceOf items closed fs = IsTrace items (initial_words items (of_frames closed)) (given_frames items (of_frames closed)) fs

record Split (items : List Item) (carried : Frame) (inputs more : List Frame) (fs : List Frame) : Type 0 where
  front : List Frame
  rest : List Frame
  is : fs ≡ front ++ rest
  trace : IsTrace items carried inputs front
  many : length front ≡ length inputs
  as_many : length rest ≡ length more

split : (items : List Item) (carried : Frame) (inputs more fs : List Frame) → IsTrace items carried (inputs ++ more) fs → Split items carried inputs more fs
split items carried [] more fs t = record { front = []; rest = fs; is = refl; trace = tt; many = refl; as_many = trace_length items carried more fs t }
split items carried (i ∷ inputs) more [] t = absurd t
split items carried (i ∷ inputs) more (f ∷ fs) t =
    let s = split items (next_state items f) inputs more fs t.1 in
    record { front = f ∷ s.front; rest = s.rest; is = ap (λ (l : List Frame). f ∷ l) s.is; trace = (t.0, s.trace); many = ap suc s.many; as_many = s.as_many }

-- a trace of frames behind others, of which the front is one of those
pub record Front (items : List Item) (closed behind : List Parts) (fs : List Frame) : Type 0 where
  pub front : List Frame
  pub rest : List Frame
  pub is : fs ≡ front ++ rest
  pub trace : IsTraceOf items closed front
  pub many : length front ≡ length closed
  pub as_many : length rest ≡ length behind

pub front_of : (items : List Item) (closed behind : List Parts) (fs : List Frame) → IsTraceOf items (closed ++ behind) fs → Front items closed behind fs
front_of items [] behind fs t =
    record { front = []; rest = fs; is = refl; trace = tt; many = refl; as_many = trace_length items (initial_words items (of_frames behind)) (given_frames items (of_frames behind)) fs t ∙ (length-map (map frame_words behind) (given_words items) ∙ length-map behind frame_words) }
front_of items (x ∷ xs) behind fs t =
    let inputs : List Frame = map (given_words items) (map frame_words (x ∷ xs)) in
    let more : List Frame = map (given_words items) (map frame_words behind) in
    let joined : map (given_words items) (map frame_words ((x ∷ xs) ++ behind)) ≡ inputs ++ more =
    ap (map (given_words items)) (map-append frame_words (x ∷ xs) behind) ∙ map-append (given_words items) (map frame_words (x ∷ xs)) (map frame_words behind) in
    let s = split items (initial_words items (of_frames (x ∷ xs))) inputs more fs (subst (λ (l : List Frame). IsTrace items (initial_words items (of_frames (x ∷ xs))) l fs) joined t) in
    record {
      front = s.front;
      rest = s.rest;
      is = s.is;
      trace = s.trace;
      many = s.many ∙ (length-map (map frame_words (x ∷ xs)) (given_words items) ∙ length-map (x ∷ xs) frame_words);
      as_many = s.as_many ∙ (length-map (map frame_words behind) (given_words items) ∙ length-map behind frame_words);
    }

pub many_frames : (items : List Item) (closed : List Parts) (fs : List Frame) → IsTraceOf items closed fs → length fs ≡ length closed
many_frames items closed fs t = trace_length items (initial_words items (of_frames closed)) (given_frames items (of_frames closed)) fs t ∙ (length-map (map frame_words closed) (given_words items) ∙ length-map closed frame_words)
