-- First rises that are heard of a text are its first rises over the list.
use Rattle.std.proofs.Common.{All, ◌≡◌, ℕ, ◌+◌, ◌<◌, ◌≤◌, ◌^◌, nat_eq, ◌&&◌, List, [], ◌∷◌, ◌++◌, Option, None, Result, Ok, Err, map, length, replicate, length-append, inl, inr, ◌⊎◌, refl, sym, ap, ap₂, subst, ◌∙◌, arith}
use Rattle.std.specs.List.{list_any, AllZip}
use Rattle.std.proofs.lemmas.Bool.{cases_lt}
use Rattle.std.proofs.lemmas.List.{length-map, map-append}
use Rattle.std.proofs.lemmas.List.Elements.{All-head, All-nil, All-tail, All-cons}
use Rattle.base.specs.Lines.{IsLine, text_of_lines, unfinished, whole_lines}
use Rattle.base.specs.Shown.{Shown, rises_in_some}
use Rattle.base.proofs.LineLemmas.{EachLine, lines_are_lines, lines_of_text, unfinished_of_text}
use Rattle.btor2.specs.declared.item.Item.{Item}
use Rattle.btor2.specs.Items.{is_bad}
use Rattle.btor2.specs.Reachability.{nodes_of, model_shows}
use Rattle.btor2.specs.Trace.{Frame}
use Rattle.btor2.proofs.TraceLemmas.{trace_exists}
use Rattle.fit.specs.Fitting.{Layout, MakesInput}
use Rattle.fit.proofs.LawLemmas.{trace_below}
use Rattle.fitting.specs.Models.{IsFit}
use Rattle.wide.specs.WideModels.{greatest_width, IsWideModel}
use Rattle.witness.specs.declared.why.Why.{Why}
use Rattle.witness.specs.Texts.{Shape, Parts, Witness, AreParts, IsFreePart, AreFrames, IsWitness, shape_of, most_lines}
use Rattle.witness.specs.Readings.{Reading, so_far, next_line, lines_behind, lines_read, reading}
use Rattle.witness.specs.Admits.{Read, nothing_read, admit, word_reader}
use Rattle.witness.specs.ClosedWords.{word_reading, said_in, closed_words, IsClosedTrace, closed_word_frames}
use Rattle.witness.specs.Judgements.{FrameWords, words_of, initial_words, given_words, given_frames}
use Rattle.witness.specs.Reached.{word_claimed, word_reached}
use Rattle.witness.proofs.ClosedLemmas.{front_closes}
use Rattle.witness.proofs.FitLemmas.{shape_is_small as model_is_small}
use Rattle.witness.proofs.GrowthLemmas.{Grows, Same, More, many_words}
use Rattle.witness.proofs.ReadLemmas.{IsSmall, all_read, says_read}
use Rattle.witness.proofs.ReadTextLemmas.{admitted_is_beginning}
use Rattle.witness.proofs.ReadingLemmas.{stays, lines_append, line_admitted, was_all_read}
use Rattle.rejoin.specs.Pieces.{cut_shape, split_parts, split_witness}
use Rattle.rejoin.specs.Alike.{FrameAlike}
use Rattle.rejoin.proofs.AlikeLemmas.{bad_nodes, shapes_cut}
use Rattle.rejoin.proofs.ShapeItemLemmas.{shape_is_small}
use Rattle.rejoin.proofs.SplitLemmas.{split_alike}
use Rattle.rises.specs.FirstRises.{first_rises_from, word_first_rises}
use Rattle.rises.specs.Notes.{IsNoted}
use Rattle.rises.proofs.NoteLemmas.{none_yet}
use Rattle.rises.proofs.RiseLemmas.{none_risen, alike_rises, noted_rises}
use Rattle.spread.specs.Spread.{IsShort}
use Rattle.spread.specs.Passing.{passing_lines, passing_text}
use Rattle.spread.specs.Rising.{HearsRises}
use Rattle.spread.specs.Stands.{IsWideShape}
use Rattle.spread.specs.declared.rising.RiseHearer.{RiseHearer}
use Rattle.spread.proofs.AlikeLemmas.{split_read}
use Rattle.spread.proofs.GrowthLemmas.{IsTraceOf, pieces_read, frames_grow}
use Rattle.spread.proofs.LineLemmas.{next_is}
use Rattle.spread.proofs.WideShapeLemmas.{shape_is_wide}

-- ---- lines that are heard

pub hears_none : (shape : Shape) (narrow : List Item) (h : RiseHearer) (count : ℕ) → count ≡ length (nodes_of is_bad narrow) → h.closed ≡ 0 → h.firsts ≡ replicate count None → HearsRises h shape narrow []
unfolding reading
hears_none shape narrow h count many none are =
    record {
      closed = none;
      firsts = λ fs t.
          are
          ∙ (ap (λ (n : ℕ). replicate n None) many
          ∙ (none_risen (word_claimed narrow []) 0 (length (nodes_of is_bad narrow)) ∙ ap (λ (gs : List Frame). word_first_rises narrow [] gs) (sym (none_yet narrow fs t))));
    }

module _ (shape : Shape) (narrow : List Item) (text line : List ℕ) (good : IsWideShape shape) (cut : shape_of narrow ≡ cut_shape shape) (short : IsShort (text ++ (line ++ 10 ∷ []))) (is : IsLine line) (ended : unfinished text ≡ []) (h : RiseHearer) (hears : HearsRises h shape narrow text) (number : ℕ)
    (counts : number ≡ closed_word_frames (shape_of narrow) (passing_text shape (text ++ (line ++ 10 ∷ [])))) where
  abbrev before : List ℕ
  before = passing_text shape text

  abbrev after : List ℕ
  after = passing_text shape (text ++ (line ++ 10 ∷ []))

  abbrev bads : ℕ
  bads = length (nodes_of is_bad narrow)

  abbrev Growth : List Frame → Type 0
  Growth fs = Grows (IsClosedTrace narrow before) (word_claimed narrow before) (word_claimed narrow after) (closed_word_frames (shape_of narrow) before) (closed_word_frames (shape_of narrow) after) fs

  -- a line that closes no frame
  pub hears_same : number ≡ h.closed → HearsRises h shape narrow (text ++ (line ++ 10 ∷ []))
  hears_same e = record { closed = sym e ∙ counts; firsts = λ fs t. by fs (frames_grow shape narrow text line good cut short is ended fs t) }
    where
      by : (fs : List Frame) → Growth fs → h.firsts ≡ word_first_rises narrow after fs
      by fs (Same _ trace alike) = hears.firsts fs trace ∙ alike_rises (model_shows narrow) (word_claimed narrow before) (word_claimed narrow after) fs bads alike
      by fs (More front f is grown many trace alike) = absurd (omega (arith, e, counts, hears.closed, grown))

  -- a line that closes one
  pub hears_more : (number ≡ h.closed → ⊥) → (firsts : List (Option ℕ)) → ((fs : List Frame) → IsClosedTrace narrow after fs → IsNoted (word_reached narrow after fs) h.closed h.firsts firsts)
      → HearsRises (record { firsts = firsts; closed = number }) shape narrow (text ++ (line ++ 10 ∷ []))
  hears_more ne firsts notes = record { closed = counts; firsts = λ fs t. by fs t (frames_grow shape narrow text line good cut short is ended fs t) }
    where
      by : (fs : List Frame) → IsClosedTrace narrow after fs → Growth fs → firsts ≡ word_first_rises narrow after fs
      by fs t (Same same trace alike) = absurd (ne (counts ∙ (same ∙ sym hears.closed)))
      by fs t (More front f is grown many trace alike) =
          let was : h.firsts ≡ first_rises_from (word_claimed narrow after) (map (model_shows narrow) front) 0 bads =
          hears.firsts front trace ∙ alike_rises (model_shows narrow) (word_claimed narrow before) (word_claimed narrow after) front bads alike in
          let shown : map (model_shows narrow) fs ≡ map (model_shows narrow) front ++ model_shows narrow f ∷ [] = ap (map (model_shows narrow)) is ∙ map-append (model_shows narrow) front (f ∷ []) in
          noted_rises (word_claimed narrow after) (map (model_shows narrow) front) (model_shows narrow f) bads (word_reached narrow after fs) h.closed h.firsts firsts (hears.closed ∙ (sym many ∙ sym (length-map front (model_shows narrow)))) was
          (λ k. ap (λ (l : List Shown). word_claimed narrow after k && rises_in_some k l) shown) (notes fs t)
          ∙ ap (λ (l : List Shown). first_rises_from (word_claimed narrow after) l 0 bads) (sym shown)

-- ---- the closed frames of a text are valid

-- lines that are all admitted, and what they say
record AreAdmitted (shape : Shape) (most : ℕ) (r : Read) : Type 0 where
  lines : List (List ℕ)
  each : EachLine lines
  few : length lines ≤ most
  are : lines_read (word_reader shape) lines ≡ so_far (length lines) r

each_more : (front : List (List ℕ)) (line : List ℕ) → EachLine front → IsLine line → EachLine (front ++ line ∷ [])
each_more [] line each is = (is, tt)
each_more (l ∷ front) line each is = (each.0, each_more front line each.1 is)

-- the admitted ones of lines behind some that are
admitted_front : (shape : Shape) (most : ℕ) (front lines : List (List ℕ)) (r : Read) → EachLine front → EachLine lines → length front + length lines ≤ most → most ≤ 2 ^ 44 → lines_read (word_reader shape) front ≡ so_far (length front) r
    → AreAdmitted shape most (lines_behind (word_reader shape) (so_far (length front) r) lines).read
admitted_front shape most front [] r each others few small are = record { lines = front; each = each; few = omega (arith, few); are = are }
admitted_front shape most front (line ∷ lines) r each others few small are = by (admit shape r line) refl (λ next. admitted_front shape most (front ++ line ∷ []) lines next)
  where
    room : length front < most_lines
    room = omega (arith, few, small)

    count : length (front ++ line ∷ []) ≡ length front + 1
    count = length-append front (line ∷ [])

    by : (o : Result Read Why) → admit shape r line ≡ o
        → ((next : Read) → EachLine (front ++ line ∷ []) → EachLine lines → length (front ++ line ∷ []) + length lines ≤ most → most ≤ 2 ^ 44 → lines_read (word_reader shape) (front ++ line ∷ []) ≡ so_far (length (front ++ line ∷ [])) next
        → AreAdmitted shape most (lines_behind (word_reader shape) (so_far (length (front ++ line ∷ [])) next) lines).read) → AreAdmitted shape most (lines_behind (word_reader shape) (so_far (length front) r) (line ∷ lines)).read
    by (Ok next) says others_of =
        let step = line_admitted (word_reader shape) (length front) r line next room says ∙ ap (λ (n : ℕ). so_far n next) (sym count) in
        let more = lines_append (word_reader shape) (so_far 0 nothing_read) front (line ∷ []) ∙ ap (λ (g : Reading Read). next_line (word_reader shape) g line) are ∙ step in
        subst (λ (g : Reading Read). AreAdmitted shape most (lines_behind (word_reader shape) g lines).read) (sym step) (others_of next (each_more front line each others.0) others.1 (omega (arith, count, few)) small more)
    by (Err w) says others_of =
        let stops = ap (λ (g : Reading Read). lines_behind (word_reader shape) g lines) (next_is shape (length front) r line w room says) ∙ stays (word_reader shape) (length front) r w lines in
        subst (λ (g : Reading Read). AreAdmitted shape most g.read) (sym stops) (record { lines = front; each = each; few = omega (arith, few); are = are })

all_front : {X : Type 0} (P : X → Type 0) (xs ys : List X) → All P (xs ++ ys) → All P xs
all_front P [] ys all = All-nil P
all_front P (x ∷ xs) ys all = All-cons P x xs (All-head P x (xs ++ ys) all) (all_front P xs ys (All-tail P x (xs ++ ys) all))

frames_front : (shape : Shape) (xs ys : List Parts) → AreFrames shape (xs ++ ys) → (xs ≡ [] → ⊥) → AreFrames shape xs
frames_front shape [] ys valid some = absurd (some refl)
frames_front shape (x ∷ xs) ys valid some = (valid.0, all_front (AreParts shape (IsFreePart shape)) xs ys valid.1)

module _ (wide : List Item) (small : IsSmall (shape_of wide)) (text : List ℕ) (short : IsShort text) where
  -- the lines before the faulty one begin a witness, whose first frames are those that they close
  closed_are_frames : 0 < (shape_of wide).bads → ((said_in wide text).closed ≡ [] → ⊥) → AreFrames (shape_of wide) (said_in wide text).closed
  unfolding reading
  closed_are_frames bads some =
      let reader = word_reader (shape_of wide) in
      let admitted : AreAdmitted (shape_of wide) (length (whole_lines text)) (said_in wide text) = admitted_front (shape_of wide) (length (whole_lines text)) [] (whole_lines text) nothing_read tt (lines_are_lines text) (omega arith) (omega (arith, short)) refl in
      let front : List ℕ = text_of_lines admitted.lines in
      let lines : whole_lines front ≡ admitted.lines = lines_of_text admitted.lines admitted.each in
      let all : word_reading (shape_of wide) front ≡ so_far (length admitted.lines) (said_in wide text) = ap (lines_read reader) lines ∙ admitted.are in
      let begins = admitted_is_beginning (shape_of wide) small bads front (unfinished_of_text admitted.lines) (omega (arith, ap length lines, admitted.few, short)) (ap (λ (g : Reading Read). g.admitted) all ∙ sym (ap length lines)) in
      let whole : List ℕ = front ++ text_of_lines begins.more in
      let said : said_in wide whole ≡ all_read begins.witness = was_all_read reader whole (all_read begins.witness) (says_read (shape_of wide) whole begins.witness small begins.says) in
      let grown = front_closes wide front (text_of_lines begins.more) in
      let frames : begins.witness.frames ≡ (said_in wide text).closed ++ grown.0 = sym (ap (λ (r : Read). r.closed) said) ∙ grown.1 ∙ ap (λ (g : Reading Read). g.read.closed ++ grown.0) all in
      frames_front (shape_of wide) (said_in wide text).closed grown.0 (subst (AreFrames (shape_of wide)) frames begins.says.valid.frames) some

-- ---- over the list

nothing_or : {X : Type 0} (xs : List X) → (xs ≡ []) ⊎ (xs ≡ [] → ⊥)
nothing_or [] = inl refl
nothing_or (x ∷ xs) = inr (λ e. cc)

none_of : {X : Type 0} (xs : List X) → length xs ≡ 0 → xs ≡ []
none_of [] e = refl
none_of (x ∷ xs) e = absurd (omega (arith, e))

inputs_made : (wide narrow : List Item) (layout : Layout) (ws vs : List FrameWords) → AllZip (FrameAlike wide layout narrow) ws vs → AllZip (MakesInput wide layout narrow) (map (given_words wide) ws) (map (given_words narrow) vs)
inputs_made wide narrow layout [] [] h = tt
inputs_made wide narrow layout [] (v ∷ vs) h = absurd h
inputs_made wide narrow layout (w ∷ ws) [] h = absurd h
inputs_made wide narrow layout (w ∷ ws) (v ∷ vs) h = ((h.0.fits, h.0.makes), inputs_made wide narrow layout ws vs h.1)

module _ (wide narrow : List Item) (fit : IsFit wide narrow) (good : IsWideShape (shape_of wide)) (small : IsSmall (shape_of wide)) (text : List ℕ) (short : IsShort text) (firsts : List (Option ℕ))
    (are : (gs : List Frame) → IsClosedTrace narrow (passing_text (shape_of wide) text) gs → firsts ≡ word_first_rises narrow (passing_text (shape_of wide) text) gs) where
  abbrev passed : List ℕ
  passed = passing_text (shape_of wide) text

  abbrev r : Read
  r = said_in wide text

  abbrev count : ℕ
  count = length (nodes_of is_bad wide)

  cut : shape_of narrow ≡ cut_shape (shape_of wide)
  cut = shapes_cut wide narrow fit

  pieces : said_in narrow passed ≡ split_read (shape_of wide) r
  pieces = pieces_read (shape_of wide) narrow text good cut short

  as_many : length (nodes_of is_bad narrow) ≡ count
  as_many = bad_nodes narrow ∙ ap (λ (s : Shape). s.bads) cut ∙ sym (bad_nodes wide)

  -- a trace below that shows the same
  by_trace : (fs gs : List Frame) → IsClosedTrace narrow passed gs → map (model_shows narrow) gs ≡ map (model_shows wide) fs → firsts ≡ word_first_rises wide text fs
  by_trace fs gs trace shown =
      are gs trace
      ∙ ap (λ (s : Read). first_rises_from (λ k. list_any (λ c. nat_eq c k) s.claims) (map (model_shows narrow) gs) 0 (length (nodes_of is_bad narrow))) pieces
      ∙ ap₂ (λ (l : List Shown) (n : ℕ). first_rises_from (word_claimed wide text) l 0 n) shown as_many

  closed_below : (gs : List Frame) → IsTraceOf narrow (map (split_parts (shape_of wide)) r.closed) gs → IsClosedTrace narrow passed gs
  closed_below gs trace = subst (λ (s : Read). IsTraceOf narrow s.closed gs) (sym pieces) trace

  -- first rises that are heard are those over the list
  pub rises_over : (fs : List Frame) → IsClosedTrace wide text fs → firsts ≡ word_first_rises wide text fs
  rises_over fs trace = elim (nothing_or r.closed) [ inl none ↦ unclosed none | inr some ↦ elim (cases_lt 0 count) [ inl h ↦ valid h some | inr h ↦ unclaimed (omega (arith, h)) ] ]
    where
      unclosed : r.closed ≡ [] → firsts ≡ word_first_rises wide text fs
      unclosed none =
          let no_frame : fs ≡ [] = none_of fs (many_words wide r.closed fs trace ∙ ap length none) in
          by_trace fs [] (closed_below [] (subst (λ (l : List Parts). IsTraceOf narrow (map (split_parts (shape_of wide)) l) []) (sym none) tt)) (ap (map (model_shows wide)) (sym no_frame))

      -- where there is no bad property, there is nothing to tell
      unclaimed : count ≡ 0 → firsts ≡ word_first_rises wide text fs
      unclaimed none =
          let below = trace_exists narrow (initial_words narrow (closed_words narrow passed)) (given_frames narrow (closed_words narrow passed)) fit.well_formed in
          are below.0 below.1
          ∙ ap (first_rises_from (word_claimed narrow passed) (map (model_shows narrow) below.0) 0) (as_many ∙ none) ∙ ap (first_rises_from (word_claimed wide text) (map (model_shows wide) fs) 0) (sym none)

      valid : 0 < count → (r.closed ≡ [] → ⊥) → firsts ≡ word_first_rises wide text fs
      valid h some =
          let inside : 0 < (shape_of wide).bads = subst (λ (n : ℕ). 0 < n) (bad_nodes wide) h in
          let w : Witness = record { claims = 0 ∷ []; frames = r.closed } in
          let is : IsWitness (shape_of wide) w = record { some_claim = λ e. cc; claims = All-cons (λ i. i < (shape_of wide).bads) 0 [] inside (All-nil (λ i. i < (shape_of wide).bads)); distinct = refl; frames = closed_are_frames wide small text short inside some } in
          let alike = split_alike wide narrow fit w is in
          let v = words_of (split_witness (shape_of wide) w) in
          let below = trace_below wide narrow fit.layout fit.fits (initial_words wide (words_of w)) (initial_words narrow v) (given_frames wide (words_of w)) (given_frames narrow v) fs alike.makes alike.fits (inputs_made wide narrow fit.layout (words_of w).frames v.frames alike.frames) trace in
          by_trace fs below.0 (closed_below below.0 below.1) below.2

-- what is heard of the whole lines of a text
pub told_rises : (wide narrow : List Item) → IsWideModel greatest_width wide → IsFit wide narrow → (text : List ℕ) → IsShort text → (h : RiseHearer) → HearsRises h (shape_of wide) narrow (text_of_lines (whole_lines text))
    → (fs : List Frame) → IsClosedTrace wide text fs → h.firsts ≡ word_first_rises wide text fs
told_rises wide narrow model fit text short h hears =
    rises_over wide narrow fit (shape_is_wide wide narrow model (shapes_cut wide narrow fit) (model_is_small narrow fit.well_formed)) (shape_is_small wide model) text short h.firsts
    (subst (λ (passed : List ℕ). (gs : List Frame) → IsClosedTrace narrow passed gs → h.firsts ≡ word_first_rises narrow passed gs)
    (ap (λ (ls : List (List ℕ)). text_of_lines (passing_lines (shape_of wide) (so_far 0 nothing_read) ls)) (lines_of_text (whole_lines text) (lines_are_lines text))) hears.firsts)
