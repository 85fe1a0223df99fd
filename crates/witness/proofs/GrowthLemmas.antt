-- What a line more changes of a text's closed frames and of its claims: one frame more at most, and no claim once a frame is closed.
use Rattle.std.proofs.Common.{◌≡◌, ℕ, suc, nat_le, nat_eq, Bool, true, false, cond, ◌&&◌, List, [], ◌∷◌, ◌++◌, Option, Some, None, Result, Ok, Err, IfOk, All, codes, length, length-append, map, ◌⊎◌, inl, inr, refl, sym, ap, subst, ◌∙◌, arith}
use Rattle.std.specs.Str.{bytes_eq}
use Rattle.std.specs.List.{list_any}
use Rattle.std.proofs.lemmas.Bool.{cases_Bool}
use Rattle.std.proofs.lemmas.List.{map-append, length-map}
use Rattle.std.proofs.lemmas.List.Elements.{All-nil, All-push}
use Rattle.std.proofs.lemmas.Result.{IfOk-at_ok}
use Rattle.base.specs.Lines.{whole_lines, unfinished, IsLine}
use Rattle.btor2.specs.declared.item.Item.{Item}
use Rattle.btor2.specs.Trace.{Frame, IsTrace, next_state}
use Rattle.base.specs.Literal.{Valuation}
use Rattle.aiger.specs.Circuit.{Circuit, IsCircuit}
use Rattle.aiger.specs.Trace.{IsCircuitTrace as IsBitTrace, next_latch_bits as next_bits}
use Rattle.witness.specs.declared.why.Why.{Why}
use Rattle.witness.specs.declared.why.Why.TheVariants as why
use Rattle.witness.specs.Texts.{Shape, Assignment, Parts, has_free, is_comment, shape_of, most_lines}
use Rattle.witness.specs.Readings.{Reader, Reading, one_more_line, next_line_of, next_line, lines_read, reading, so_far}
use Rattle.witness.specs.Admits.{claims_at, assignment_at, state_assignment_at, Place, AtStatus, AtClaims, AtParts, InStates, InFrame, AtEnd, Read, opens_frame, opens_states, begins_part, in_part, admit_at, admit, word_reader}
use Rattle.witness.specs.Judgements.{frame_words, initial_words, given_words, given_frames}
use Rattle.witness.specs.WordPlays.{frames_alone}
use Rattle.witness.specs.ClosedWords.{said_in, IsClosedTrace, closed_word_frames}
use Rattle.witness.specs.BitAdmits.{claim_at, bits_at, BitPlace, AtHeader, AtClaim, AtInitial, AtFirst, AtLater, AtDone, BitRead, after_frame, bit_admit_at, bit_admit, bit_reader, closed_frames}
use Rattle.witness.specs.Reached.{word_claimed, bits_said_in, IsClosedBitTrace, bit_claimed}
use Rattle.witness.proofs.StepWords.{after_claims, after_assignment, after_claim, after_initial}
use Rattle.aiger.proofs.TraceLemmas.{trace_exists}
use Rattle.witness.proofs.BitReadLemmas.{bits_are_line}
use Rattle.witness.proofs.TextEndLemmas.{whole_lines-line_end, whole_lines-part}
use Rattle.witness.proofs.ReadingLemmas.{by_test, lines_append, holds_behind}
use Rattle.btor2.proofs.TraceLemmas.{trace_length}
use Rattle.witness.proofs.ClosedLemmas.{line_closes_one}

-- what is claimed is the same, but where there is no frame
abbrev pub Alike : {F : Type 0} → List F → (ℕ → Bool) → (ℕ → Bool) → Type 0
Alike fs was now = (fs ≡ []) ⊎ ((k : ℕ) → now k ≡ was k)

-- The frames of a text with a line more, by those of the text: the same, or one more.
pub data Grows {F : Type 0} (Trace : List F → Type 0) (was now : ℕ → Bool) (before after : ℕ) (fs : List F) : Type 0 where
  Same : after ≡ before → Trace fs → Alike fs was now → Grows Trace was now before after fs
  More : (front : List F) (f : F) → fs ≡ front ++ f ∷ [] → after ≡ suc before → length front ≡ before → Trace front → Alike front was now → Grows Trace was now before after fs

-- ---- a line more, of either kind

-- what holds between what is read before and behind a line holds between what texts say
module _ {R : Type 0} (reader : Reader R) (Holds : R → Type 0) (Steps : R → R → Type 0) (same : (r : R) → Steps r r) (admits : (r next : R) (line : List ℕ) → reader.admit r line ≡ Ok next → Holds r → Steps r next)
    (holds : (r next : R) (line : List ℕ) → reader.admit r line ≡ Ok next → Holds r → Holds next) (first : Holds reader.nothing) where
  step_by : (g : Reading R) (line : List ℕ) → Holds g.read → Steps g.read (next_line reader g line).read
  unfolding next_line
  step_by g line h = by g.refused
    where
      admitted : (o : Result R Why) → reader.admit g.read line ≡ o → Steps g.read (one_more_line g o).read
      admitted (Ok next) e = admits g.read next line e h
      admitted (Err w) e = same g.read

      limit : (b : Bool) → Steps g.read (cond b (record g { refused = Some why.TooLong }) (one_more_line g (reader.admit g.read line))).read
      limit true = same g.read
      limit false = admitted (reader.admit g.read line) refl

      by : (o : Option Why) → Steps g.read (next_line_of reader g line o).read
      by (Some w) = same g.read
      by None = limit (nat_le most_lines g.admitted)

  held : (lines : List (List ℕ)) → Holds (lines_read reader lines).read
  held lines = holds_behind reader (λ (n : ℕ) (r : R). Holds r) (λ n r next line e h. holds r next line e h) (so_far 0 reader.nothing) lines first

  pub line_steps : (text bytes : List ℕ) → IsLine bytes → Steps (reading reader text).read (reading reader (text ++ (bytes ++ 10 ∷ []))).read
  unfolding reading
  line_steps text bytes line =
      let all : lines_read reader (whole_lines (text ++ (bytes ++ 10 ∷ []))) ≡ next_line reader (lines_read reader (whole_lines text)) (unfinished text ++ bytes) =
      ap (lines_read reader) (whole_lines-line_end text bytes line) ∙ lines_append reader (so_far 0 reader.nothing) (whole_lines text) ((unfinished text ++ bytes) ∷ []) in
      subst (λ (g : Reading R). Steps (lines_read reader (whole_lines text)).read g.read) (sym all) (step_by (lines_read reader (whole_lines text)) (unfinished text ++ bytes) (held (whole_lines text)))

-- ---- the claims of a text over a model

abbrev is_early : Place → Bool
is_early AtStatus = true
is_early AtClaims = true
is_early _ = false

-- no frame is closed before the claims are read
abbrev Early : Read → Type 0
Early r = is_early r.place ≡ true → r.closed ≡ []

-- the claims stay behind a frame
abbrev KeepsClaims : Read → Read → Type 0
KeepsClaims r next = (r.closed ≡ [] → ⊥) → next.claims ≡ r.claims

record Keeps (r next : Read) : Type 0 where
  early : Early next
  claims : KeepsClaims r next

later : (r next : Read) (at : Place) → next.place ≡ at → is_early at ≡ false → next.claims ≡ r.claims → Keeps r next
later r next at there other same = record { early = λ e. absurd (cc (e, ap is_early there, other)); claims = λ some. same }

part_keeps : (r : Read) (line : List ℕ) (o : Result (List Assignment) Why) → Early r → IfOk (in_part r line o) (Keeps r)
part_keeps r line o h = by_test (Keeps r) (begins_part line) _ _ (λ e. tt) (λ e. by o)
  where
    by : (o : Result (List Assignment) Why) → IfOk (after_assignment r o) (Keeps r)
    by (Ok list) = record { early = h; claims = λ some. refl }
    by (Err w) = tt

line_keeps : (shape : Shape) (r : Read) (line : List ℕ) (at : Place) → r.place ≡ at → Early r → IfOk (admit_at shape r line at) (Keeps r)
line_keeps shape r line AtStatus at h =
    by_test (Keeps r) (is_comment line) _ _ (λ e. record { early = h; claims = λ some. refl })
    (λ e. by_test (Keeps r) (bytes_eq line (codes "sat")) _ _ (λ e. record { early = λ d. h (ap is_early at); claims = λ some. refl }) (λ e. tt))
line_keeps shape r line AtClaims at h = by (claims_at shape.bads line)
  where
    by : (o : Result (List ℕ) Why) → IfOk (after_claims r o) (Keeps r)
    by (Ok claims) = record { early = λ e. absurd cc; claims = λ some. absurd (some (h (ap is_early at))) }
    by (Err w) = tt
line_keeps shape r line AtParts at h =
    by_test (Keeps r) (opens_states 0 line) _ _ (λ e. later r _ InStates refl refl refl) (λ e. by_test (Keeps r) (opens_frame 0 line) _ _ (λ e. later r _ InFrame refl refl refl) (λ e. tt))
line_keeps shape r line InStates at h =
    by_test (Keeps r) (opens_frame (length r.closed) line) _ _ (λ e. later r _ InFrame refl refl refl) (λ e. part_keeps r line (state_assignment_at shape r.closed r.open_part line) h)
line_keeps shape r line InFrame at h =
    by_test (Keeps r) (opens_frame (suc (length r.closed)) line) _ _ (λ e. later r _ InFrame refl refl refl)
    (λ e. by_test (Keeps r) (opens_states (suc (length r.closed)) line && has_free shape) _ _ (λ e. later r _ InStates refl refl refl)
    (λ e. by_test (Keeps r) (bytes_eq line (codes ".")) _ _ (λ e. later r _ AtEnd refl refl refl) (λ e. part_keeps r line (assignment_at shape.inputs r.open_part line) h)))
line_keeps shape r line AtEnd at h = tt

admitted_keeps : (shape : Shape) (r next : Read) (line : List ℕ) → admit shape r line ≡ Ok next → Early r → Keeps r next
unfolding admit
admitted_keeps shape r next line is h = IfOk-at_ok (Keeps r) is (line_keeps shape r line r.place refl h)

pub claims_kept : (items : List Item) (text bytes : List ℕ) → IsLine bytes → KeepsClaims (said_in items text) (said_in items (text ++ (bytes ++ 10 ∷ [])))
claims_kept items text bytes line =
    let shape : Shape = shape_of items in
    line_steps (word_reader shape) Early KeepsClaims (λ r some. refl) (λ r next line is h. (admitted_keeps shape r next line is h).claims) (λ r next line is h. (admitted_keeps shape r next line is h).early) (λ e. refl) text bytes line

-- ---- the frames of a text over a model

-- a trace of a frame more
record Split {F I : Type 0} (Trace : List I → List F → Type 0) (inputs : List I) (fs : List F) : Type 0 where
  front : List F
  last : F
  is : fs ≡ front ++ last ∷ []
  trace : Trace inputs front

split : (items : List Item) (state : Frame) (inputs : List Frame) (input : Frame) (fs : List Frame) → IsTrace items state (inputs ++ input ∷ []) fs → Split (IsTrace items state) inputs fs
split items state [] input [] t = absurd t
split items state [] input (f ∷ []) t = record { front = []; last = f; is = refl; trace = tt }
split items state [] input (f ∷ g ∷ fs) t = absurd t.1
split items state (i ∷ inputs) input [] t = absurd t
split items state (i ∷ inputs) input (f ∷ fs) t =
    let s = split items (next_state items f) inputs input fs t.1 in
    record { front = f ∷ s.front; last = s.last; is = ap (λ (l : List Frame). f ∷ l) s.is; trace = (t.0, s.trace) }

-- a trace of these frames, whatever is claimed
abbrev IsTraceOf : List Item → List Parts → List Frame → Type 0
IsTraceOf items closed fs = IsTrace items (initial_words items (frames_alone (map frame_words closed))) (given_frames items (frames_alone (map frame_words closed))) fs

split_words : (items : List Item) (closed : List Parts) (parts : Parts) (fs : List Frame) → IsTraceOf items (closed ++ parts ∷ []) fs → Split (IsTraceOf items) closed fs
split_words items [] parts [] t = absurd t
split_words items [] parts (f ∷ []) t = record { front = []; last = f; is = refl; trace = tt }
split_words items [] parts (f ∷ g ∷ fs) t = absurd t.1
split_words items (x ∷ xs) parts fs t =
    let inputs : List Frame = map (given_words items) (map frame_words (x ∷ xs)) in
    let joined : map (given_words items) (map frame_words ((x ∷ xs) ++ parts ∷ [])) ≡ inputs ++ given_words items (frame_words parts) ∷ [] =
    ap (map (given_words items)) (map-append frame_words (x ∷ xs) (parts ∷ [])) ∙ map-append (given_words items) (map frame_words (x ∷ xs)) (frame_words parts ∷ []) in
    let state : Frame = initial_words items (frames_alone (map frame_words (x ∷ xs))) in
    let s = split items state inputs (given_words items (frame_words parts)) fs (subst (λ (l : List Frame). IsTrace items state l fs) joined t) in
    record { front = s.front; last = s.last; is = s.is; trace = s.trace }

pub many_words : (items : List Item) (closed : List Parts) (fs : List Frame) → IsTraceOf items closed fs → length fs ≡ length closed
many_words items closed fs t =
    trace_length items (initial_words items (frames_alone (map frame_words closed))) (given_frames items (frames_alone (map frame_words closed))) fs t
    ∙ (length-map (map frame_words closed) (given_words items) ∙ length-map closed frame_words)

no_frames : {F X : Type 0} (fs : List F) (xs : List X) → length fs ≡ length xs → xs ≡ [] → fs ≡ []
no_frames [] xs e none = refl
no_frames (f ∷ fs) [] e none = absurd cc
no_frames (f ∷ fs) (x ∷ xs) e none = absurd cc

-- whether a list is empty
nothing_or : {X : Type 0} (xs : List X) → (xs ≡ []) ⊎ (xs ≡ [] → ⊥)
nothing_or [] = inl refl
nothing_or (x ∷ xs) = inr (λ e. cc)

alike_words : (items : List Item) (text bytes : List ℕ) (fs : List Frame) → IsLine bytes → IsTraceOf items (said_in items text).closed fs → Alike fs (word_claimed items text) (word_claimed items (text ++ (bytes ++ 10 ∷ [])))
alike_words items text bytes fs line t =
    elim (nothing_or (said_in items text).closed) [
      | inl none ↦ inl (no_frames fs (said_in items text).closed (many_words items (said_in items text).closed fs t) none)
      | inr some ↦ inr (λ k. ap (λ (claims : List ℕ). list_any (λ c. nat_eq c k) claims) (claims_kept items text bytes line some))
    ]

pub words_grow : (items : List Item) (text bytes : List ℕ) (fs : List Frame) → IsLine bytes → IsClosedTrace items (text ++ (bytes ++ 10 ∷ [])) fs
    → Grows (IsClosedTrace items text) (word_claimed items text) (word_claimed items (text ++ (bytes ++ 10 ∷ []))) (closed_word_frames (shape_of items) text) (closed_word_frames (shape_of items) (text ++ (bytes ++ 10 ∷ []))) fs
words_grow items text bytes fs line t =
    let closed : List Parts = (said_in items text).closed in
    elim (line_closes_one items text bytes line) [
      | inl same ↦
          let trace : IsTraceOf items closed fs = subst (λ (l : List Parts). IsTraceOf items l fs) same t in
          Same (ap length same) trace (alike_words items text bytes fs line trace)
      | inr more ↦
          let s = split_words items closed more.parts fs (subst (λ (l : List Parts). IsTraceOf items l fs) more.closed t) in
          More s.front s.last s.is (ap length more.closed ∙ (length-append closed (more.parts ∷ []) ∙ omega arith)) (many_words items closed s.front s.trace) s.trace (alike_words items text bytes s.front line s.trace)
    ]

-- ---- a text over a circuit

abbrev is_first : BitPlace → Bool
is_first AtHeader = true
is_first AtClaim = true
is_first AtInitial = true
is_first _ = false

abbrev EarlyBits : BitRead → Type 0
EarlyBits r = is_first r.place ≡ true → r.frames ≡ []

-- one frame more at most, and claim and initial bits stay behind one
record BitSteps (r next : BitRead) : Type 0 where
  early : EarlyBits next
  frames : (next.frames ≡ r.frames) ⊎ ((bits : List Bool) × (next.frames ≡ r.frames ++ bits ∷ []))
  claim : (r.frames ≡ [] → ⊥) → next.claim ≡ r.claim
  initial : (r.frames ≡ [] → ⊥) → next.initial ≡ r.initial

frame_steps : (r : BitRead) (o : Result (List Bool) Why) → IfOk (after_frame r o) (BitSteps r)
frame_steps r (Ok bits) = record { early = λ e. absurd cc; frames = inr (bits, refl); claim = λ some. refl; initial = λ some. refl }
frame_steps r (Err w) = tt

bit_line : (c : Circuit) (r : BitRead) (line : List ℕ) (at : BitPlace) → r.place ≡ at → EarlyBits r → IfOk (bit_admit_at c r line at) (BitSteps r)
bit_line c r line AtHeader at h =
    by_test (BitSteps r) (bytes_eq line (codes "1")) _ _ (λ e. record { early = λ d. h (ap is_first at); frames = inl refl; claim = λ some. refl; initial = λ some. refl }) (λ e. tt)
bit_line c r line AtClaim at h = by (claim_at (length c.bads) line)
  where
    by : (o : Result ℕ Why) → IfOk (after_claim r o) (BitSteps r)
    by (Ok i) = record { early = λ d. h (ap is_first at); frames = inl refl; claim = λ some. absurd (some (h (ap is_first at))); initial = λ some. refl }
    by (Err w) = tt
bit_line c r line AtInitial at h = by (bits_at (length c.latches) line)
  where
    by : (o : Result (List Bool) Why) → IfOk (after_initial r o) (BitSteps r)
    by (Ok bits) = record { early = λ e. absurd cc; frames = inl refl; claim = λ some. refl; initial = λ some. absurd (some (h (ap is_first at))) }
    by (Err w) = tt
bit_line c r line AtFirst at h = by_test (BitSteps r) (bytes_eq line (codes ".")) _ _ (λ e. tt) (λ e. frame_steps r (bits_at c.inputs line))
bit_line c r line AtLater at h =
    by_test (BitSteps r) (bytes_eq line (codes ".")) _ _ (λ e. record { early = λ d. absurd cc; frames = inl refl; claim = λ some. refl; initial = λ some. refl }) (λ e. frame_steps r (bits_at c.inputs line))
bit_line c r line AtDone at h = tt

bits_step : (c : Circuit) (r next : BitRead) (line : List ℕ) → bit_admit c r line ≡ Ok next → EarlyBits r → BitSteps r next
unfolding bit_admit
bits_step c r next line is h = IfOk-at_ok (BitSteps r) is (bit_line c r line r.place refl h)

-- what is early is early where it was
abbrev BitStepsFrom : BitRead → BitRead → Type 0
BitStepsFrom r next = EarlyBits r → BitSteps r next

stays_bits : (r : BitRead) → BitStepsFrom r r
stays_bits r h = record { early = h; frames = inl refl; claim = λ some. refl; initial = λ some. refl }

bits_held : (c : Circuit) (text : List ℕ) → EarlyBits (bits_said_in c text)
unfolding reading
bits_held c text =
    holds_behind (bit_reader c) (λ (n : ℕ) (r : BitRead). EarlyBits r) (λ n r next line e h. (bits_step c r next line e h).early) (so_far 0 (bit_reader c).nothing) (whole_lines text) (λ e. refl)

bits_line : (c : Circuit) (text bytes : List ℕ) → IsLine bytes → BitSteps (bits_said_in c text) (bits_said_in c (text ++ (bytes ++ 10 ∷ [])))
bits_line c text bytes line =
    line_steps (bit_reader c) EarlyBits BitStepsFrom stays_bits (λ r next line is h early. bits_step c r next line is early) (λ r next line is h. (bits_step c r next line is h).early) (λ e. refl) text bytes line (bits_held c text)

split_bits : (c : Circuit) (state : List Bool) (inputs : List (List Bool)) (input : List Bool) (vs : List Valuation) → IsBitTrace c state (inputs ++ input ∷ []) vs → Split (IsBitTrace c state) inputs vs
split_bits c state [] input [] t = absurd t
split_bits c state [] input (v ∷ []) t = record { front = []; last = v; is = refl; trace = tt }
split_bits c state [] input (v ∷ w ∷ vs) t = absurd t.1
split_bits c state (i ∷ inputs) input [] t = absurd t
split_bits c state (i ∷ inputs) input (v ∷ vs) t =
    let s = split_bits c (next_bits c v) inputs input vs t.1 in
    record { front = v ∷ s.front; last = s.last; is = ap (λ (l : List Valuation). v ∷ l) s.is; trace = (t.0, s.trace) }

pub many_bits : (c : Circuit) (state : List Bool) (frames : List (List Bool)) (vs : List Valuation) → IsBitTrace c state frames vs → length vs ≡ length frames
many_bits c state [] [] t = refl
many_bits c state [] (v ∷ vs) t = absurd t
many_bits c state (f ∷ frames) [] t = absurd t
many_bits c state (f ∷ frames) (v ∷ vs) t = ap suc (many_bits c (next_bits c v) frames vs t.1)

-- a trace from other initial bits, where they are the same or there is no frame
from_initial : (c : Circuit) (was now : List Bool) (frames : List (List Bool)) (vs : List Valuation) → ((frames ≡ [] → ⊥) → now ≡ was) → IsBitTrace c now frames vs → IsBitTrace c was frames vs
from_initial c was now [] [] same t = tt
from_initial c was now [] (v ∷ vs) same t = absurd t
from_initial c was now (f ∷ frames) vs same t = let is : now ≡ was = same (λ e. cc) in subst (λ (state : List Bool). IsBitTrace c state (f ∷ frames) vs) is t

alike_bits : (c : Circuit) (text bytes : List ℕ) (vs : List Valuation) → IsLine bytes → IsClosedBitTrace c text vs → Alike vs (bit_claimed c text) (bit_claimed c (text ++ (bytes ++ 10 ∷ [])))
alike_bits c text bytes vs line t =
    elim (nothing_or (bits_said_in c text).frames) [
      | inl none ↦ inl (no_frames vs (bits_said_in c text).frames (many_bits c (bits_said_in c text).initial (bits_said_in c text).frames vs t) none)
      | inr some ↦ inr (λ k. ap (λ (i : ℕ). nat_eq i k) ((bits_line c text bytes line).claim some))
    ]

pub bits_grow : (c : Circuit) (text bytes : List ℕ) (vs : List Valuation) → IsLine bytes → IsClosedBitTrace c (text ++ (bytes ++ 10 ∷ [])) vs
    → Grows (IsClosedBitTrace c text) (bit_claimed c text) (bit_claimed c (text ++ (bytes ++ 10 ∷ []))) (closed_frames c text) (closed_frames c (text ++ (bytes ++ 10 ∷ []))) vs
bits_grow c text bytes vs line t =
    let r : BitRead = bits_said_in c text in
    let next : BitRead = bits_said_in c (text ++ (bytes ++ 10 ∷ [])) in
    let step = bits_line c text bytes line in
    elim step.frames [
      | inl same ↦
          let trace : IsClosedBitTrace c text vs = from_initial c r.initial next.initial r.frames vs step.initial (subst (λ (frames : List (List Bool)). IsBitTrace c next.initial frames vs) same t) in
          Same (ap length same) trace (alike_bits c text bytes vs line trace)
      | inr more ↦
          let s = split_bits c next.initial r.frames more.0 vs (subst (λ (frames : List (List Bool)). IsBitTrace c next.initial frames vs) more.1 t) in
          let trace : IsClosedBitTrace c text s.front = from_initial c r.initial next.initial r.frames s.front step.initial s.trace in
          More s.front s.last s.is (ap length more.1 ∙ (length-append r.frames (more.0 ∷ []) ∙ omega arith)) (many_bits c r.initial r.frames s.front trace) trace (alike_bits c text bytes s.front line trace)
    ]

-- ---- bytes that end no line

pub bits_part : (c : Circuit) (text bytes : List ℕ) → IsLine bytes → bits_said_in c (text ++ bytes) ≡ bits_said_in c text
unfolding reading
bits_part c text bytes line = ap (λ (lines : List (List ℕ)). (lines_read (bit_reader c) lines).read) (whole_lines-part text bytes line)

-- ---- the closed frames of a text over a circuit have a trace

-- as many initial bits as latches, once they are read, and as many bits as inputs in each frame
record Counted (c : Circuit) (r : BitRead) : Type 0 where
  early : EarlyBits r
  initial : is_first r.place ≡ false → length r.initial ≡ length c.latches
  frames : All (λ (bits : List Bool). length bits ≡ c.inputs) r.frames

counted_frame : (c : Circuit) (r : BitRead) (line : List ℕ) (at : BitPlace) → r.place ≡ at → is_first at ≡ false → Counted c r → (o : Result (List Bool) Why) → bits_at c.inputs line ≡ o → IfOk (after_frame r o) (Counted c)
counted_frame c r line at there other h (Ok bits) e =
    record {
      early = λ d. absurd cc;
      initial = λ d. h.initial (ap is_first there ∙ other);
      frames = All-push (λ (b : List Bool). length b ≡ c.inputs) r.frames bits h.frames (bits_are_line c.inputs line bits e).many;
    }
counted_frame c r line at there other h (Err w) e = tt

counted_line : (c : Circuit) (r : BitRead) (line : List ℕ) (at : BitPlace) → r.place ≡ at → Counted c r → IfOk (bit_admit_at c r line at) (Counted c)
counted_line c r line AtHeader at h = by_test (Counted c) (bytes_eq line (codes "1")) _ _ (λ e. record { early = λ d. h.early (ap is_first at); initial = λ d. absurd cc; frames = h.frames }) (λ e. tt)
counted_line c r line AtClaim at h = by (claim_at (length c.bads) line)
  where
    by : (o : Result ℕ Why) → IfOk (after_claim r o) (Counted c)
    by (Ok i) = record { early = λ d. h.early (ap is_first at); initial = λ d. absurd cc; frames = h.frames }
    by (Err w) = tt
counted_line c r line AtInitial at h = by (bits_at (length c.latches) line) refl
  where
    by : (o : Result (List Bool) Why) → bits_at (length c.latches) line ≡ o → IfOk (after_initial r o) (Counted c)
    by (Ok bits) e = record { early = λ d. absurd cc; initial = λ d. (bits_are_line (length c.latches) line bits e).many; frames = h.frames }
    by (Err w) e = tt
counted_line c r line AtFirst at h = by_test (Counted c) (bytes_eq line (codes ".")) _ _ (λ e. tt) (λ e. counted_frame c r line AtFirst at refl h (bits_at c.inputs line) refl)
counted_line c r line AtLater at h =
    by_test (Counted c) (bytes_eq line (codes ".")) _ _ (λ e. record { early = λ d. absurd cc; initial = λ d. h.initial (ap is_first at); frames = h.frames }) (λ e. counted_frame c r line AtLater at refl h (bits_at c.inputs line) refl)
counted_line c r line AtDone at h = tt

counted_next : (c : Circuit) (r next : BitRead) (line : List ℕ) → bit_admit c r line ≡ Ok next → Counted c r → Counted c next
unfolding bit_admit
counted_next c r next line is h = IfOk-at_ok (Counted c) is (counted_line c r line r.place refl h)

counted_text : (c : Circuit) (text : List ℕ) → Counted c (bits_said_in c text)
unfolding reading
counted_text c text =
    holds_behind (bit_reader c) (λ (n : ℕ) (r : BitRead). Counted c r) (λ n r next line e h. counted_next c r next line e h) (so_far 0 (bit_reader c).nothing) (whole_lines text)
    (record { early = λ e. refl; initial = λ e. absurd cc; frames = All-nil (λ (bits : List Bool). length bits ≡ c.inputs) })

pub bit_trace_exists : (c : Circuit) (text : List ℕ) → IsCircuit c → (vs : List Valuation) × IsClosedBitTrace c text vs
bit_trace_exists c text circuit =
    let r : BitRead = bits_said_in c text in
    let counted = counted_text c text in
    elim (cases_Bool (is_first r.place)) [
      | inl e ↦ ([], subst (λ (frames : List (List Bool)). IsBitTrace c r.initial frames []) (sym (counted.early e)) tt)
      | inr e ↦ trace_exists c r.initial r.frames circuit (counted.initial e) counted.frames
    ]
