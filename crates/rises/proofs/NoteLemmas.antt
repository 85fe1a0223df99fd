-- What is noted of a text while it is judged, and of its beginnings.
use Rattle.std.proofs.Common.{◌≡◌, ℕ, ◌+◌, ◌<◌, ◌≤◌, nat_eq, Bool, true, ◌&&◌, List, [], ◌∷◌, ◌++◌, Option, Some, None, option_map, map, length, length-append, append_assoc, take, slice_get, get_or, set, replicate, inl, inr, refl, sym, ap, ap₂, subst, ◌∙◌, arith}
use Rattle.std.specs.List.{list_any}
use Rattle.std.proofs.Math.Seq.{take-append_seam}
use Rattle.std.proofs.lemmas.Bool.{cases_eq, cases_lt}
use Rattle.std.proofs.lemmas.List.{length-map, map-append}
use Rattle.std.proofs.lemmas.Option.{slice_get-get_or, slice_get_past}
use Rattle.base.specs.Lines.{IsLine}
use Rattle.base.specs.Shown.{Shown, rises_in_some}
use Rattle.btor2.specs.declared.item.Item.{Item}
use Rattle.btor2.specs.Items.{is_bad}
use Rattle.btor2.specs.Trace.{Frame, IsTrace}
use Rattle.btor2.specs.Reachability.{nodes_of, model_shows}
use Rattle.base.specs.Literal.{Valuation}
use Rattle.aiger.specs.Circuit.{Circuit}
use Rattle.aiger.specs.Trace.{IsCircuitTrace as IsBitTrace}
use Rattle.aiger.specs.Reachability.{circuit_shows}
use Rattle.witness.specs.Texts.{shape_of}
use Rattle.witness.specs.Readings.{reading}
use Rattle.witness.specs.Admits.{Read, witness_of}
use Rattle.witness.specs.Judgements.{initial_words, given_frames, words_of}
use Rattle.witness.specs.ClosedWords.{IsClosedTrace, said_in, closed_word_frames}
use Rattle.witness.specs.WordStands.{StandsForWitness}
use Rattle.witness.specs.BitAdmits.{BitRead, closed_frames}
use Rattle.witness.specs.BitStands.{StandsForBits}
use Rattle.witness.specs.Reached.{word_claimed, word_reached, bits_said_in, IsClosedBitTrace, bit_claimed, bit_reached}
use Rattle.witness.proofs.ClosedLemmas.{part_closes_none}
use Rattle.witness.proofs.GrowthLemmas.{Grows, Same, More, words_grow, bits_grow, bits_part}
use Rattle.rises.specs.declared.word_noter.WordNoter.{WordNoter}
use Rattle.rises.specs.declared.bit_noter.BitNoter.{BitNoter}
use Rattle.rises.specs.FirstRises.{first_rises_from, word_first_rises, bit_first_rises}
use Rattle.rises.specs.Notes.{noted, IsNoted, NotesWords, NotesBits}
use Rattle.rises.proofs.RiseLemmas.{other_position, same_position, none_risen, alike_rises, noted_rises}

-- the first line of a text, with its end
pub line_with_end : (rest line behind : List ℕ) → rest ≡ line ++ 10 ∷ behind → take (length line + 1) rest ≡ line ++ 10 ∷ []
line_with_end rest line behind cut =
    let all : rest ≡ (line ++ 10 ∷ []) ++ behind = cut ∙ sym (append_assoc line (10 ∷ []) behind) in
    ap₂ (λ (n : ℕ) (l : List ℕ). take n l) (sym (length-append line (10 ∷ []))) all ∙ take-append_seam (line ++ 10 ∷ []) behind

-- ---- the loop over positions

pub noted_below : (reached : ℕ → Bool) (frame i : ℕ) (before now : List (Option ℕ)) (r : Bool) → i < length now → r ≡ reached i → ((k : ℕ) → i ≤ k → slice_get now k ≡ slice_get before k)
    → ((k : ℕ) → k < i → slice_get now k ≡ option_map (noted (reached k) frame) (slice_get before k))
    → (k : ℕ) → k < i + 1 → slice_get (set now i (noted r frame (get_or now i None))) k ≡ option_map (noted (reached k) frame) (slice_get before k)
noted_below reached frame i before now r inside is above below k h =
    let v : Option ℕ = noted r frame (get_or now i None) in
    elim (cases_eq k i) [
      | inl e ↦
          let here : slice_get (set now i v) i ≡ option_map (noted (reached i) frame) (slice_get before i) =
          same_position now i v inside ∙ (ap (λ (b : Bool). Some (noted b frame (get_or now i None))) is ∙ ap (option_map (noted (reached i) frame)) (sym (slice_get-get_or now i None inside) ∙ above i (omega arith))) in
          subst (λ (n : ℕ). slice_get (set now i v) n ≡ option_map (noted (reached n) frame) (slice_get before n)) (sym e) here
      | inr ne ↦ other_position now i k v ne ∙ below k (omega (arith, h, ne))
    ]

-- once all are
pub noted_all : (reached : ℕ → Bool) (frame i : ℕ) (before now : List (Option ℕ)) → length before ≤ i → ((k : ℕ) → k < i → slice_get now k ≡ option_map (noted (reached k) frame) (slice_get before k))
    → ((k : ℕ) → i ≤ k → slice_get now k ≡ slice_get before k) → IsNoted reached frame before now
noted_all reached frame i before now all below above k =
    elim (cases_lt k i) [
      | inl h ↦ below k h
      | inr h ↦ let none : slice_get before k ≡ None = slice_get_past before k (omega (arith, h, all)) in above k h ∙ (none ∙ sym (ap (option_map (noted (reached k) frame)) none))
    ]

-- ---- over a model

pub none_yet : (items : List Item) (fs : List Frame) → IsClosedTrace items [] fs → fs ≡ []
unfolding reading
none_yet items [] t = refl
none_yet items (f ∷ fs) t = absurd t

pub words_none : (items : List Item) (n : WordNoter) (count : ℕ) → count ≡ length (nodes_of is_bad items) → StandsForWitness items n.judge [] → n.firsts ≡ replicate count None → NotesWords items n []
words_none items n count many stands is =
    record {
      judge = stands;
      firsts = λ fs t.
          is
          ∙ (ap (λ (m : ℕ). replicate m None) many
          ∙ (none_risen (word_claimed items []) 0 (length (nodes_of is_bad items)) ∙ ap (λ (gs : List Frame). word_first_rises items [] gs) (sym (none_yet items fs t))));
    }

-- a trace of what lines say
abbrev IsTraceOfRead : List Item → Read → List Frame → Type 0
IsTraceOfRead items r fs = IsTrace items (initial_words items (words_of (witness_of r))) (given_frames items (words_of (witness_of r))) fs

-- bytes that end no line
pub words_part : (items : List Item) (text bytes : List ℕ) (before after : WordNoter) → IsLine bytes → NotesWords items before text → StandsForWitness items after.judge (text ++ bytes) → after.firsts ≡ before.firsts → NotesWords items after (text ++ bytes)
words_part items text bytes before after line h stands same =
    let said : said_in items (text ++ bytes) ≡ said_in items text = part_closes_none items text bytes line in
    record {
      judge = stands;
      firsts = λ fs t.
          let was : IsClosedTrace items text fs = subst (λ (r : Read). IsTraceOfRead items r fs) said t in
          same ∙ (h.firsts fs was ∙ ap (λ (r : Read). first_rises_from (λ k. list_any (λ c. nat_eq c k) r.claims) (map (model_shows items) fs) 0 (length (nodes_of is_bad items))) (sym said));
    }

-- what the frames of a trace and one more show
shown_more : {F : Type 0} (shows : F → Shown) (fs front : List F) (f : F) → fs ≡ front ++ f ∷ [] → map shows fs ≡ map shows front ++ shows f ∷ []
shown_more shows fs front f is = ap (map shows) is ∙ map-append shows front (f ∷ [])

module _ (items : List Item) (text line : List ℕ) (before after : WordNoter) (one_line : IsLine line) (h : NotesWords items before text) (stands : StandsForWitness items after.judge (text ++ (line ++ 10 ∷ [])))
    (number now : ℕ) (n : number ≡ closed_word_frames (shape_of items) text) (m : now ≡ closed_word_frames (shape_of items) (text ++ (line ++ 10 ∷ []))) where
  abbrev whole : List ℕ
  whole = text ++ (line ++ 10 ∷ [])

  abbrev bads : ℕ
  bads = length (nodes_of is_bad items)

  abbrev Growth : List Frame → Type 0
  Growth fs = Grows (IsClosedTrace items text) (word_claimed items text) (word_claimed items whole) (closed_word_frames (shape_of items) text) (closed_word_frames (shape_of items) whole) fs

  -- a line that closes no frame
  pub words_same : now ≡ number → after.firsts ≡ before.firsts → NotesWords items after whole
  words_same e same = record { judge = stands; firsts = λ fs t. by fs (words_grow items text line fs one_line t) }
    where
      by : (fs : List Frame) → Growth fs → after.firsts ≡ word_first_rises items whole fs
      by fs (Same _ trace alike) = same ∙ (h.firsts fs trace ∙ alike_rises (model_shows items) (word_claimed items text) (word_claimed items whole) fs bads alike)
      by fs (More front f is grown many trace alike) = absurd (omega (arith, e, n, m, grown))

  -- a line that closes one
  pub words_more : (now ≡ number → ⊥) → ((fs : List Frame) → IsClosedTrace items whole fs → IsNoted (word_reached items whole fs) number before.firsts after.firsts) → NotesWords items after whole
  words_more ne notes = record { judge = stands; firsts = λ fs t. by fs t (words_grow items text line fs one_line t) }
    where
      by : (fs : List Frame) → IsClosedTrace items whole fs → Growth fs → after.firsts ≡ word_first_rises items whole fs
      by fs t (Same same trace alike) = absurd (ne (m ∙ (same ∙ sym n)))
      by fs t (More front f is grown many trace alike) =
          let was : before.firsts ≡ first_rises_from (word_claimed items whole) (map (model_shows items) front) 0 bads =
          h.firsts front trace ∙ alike_rises (model_shows items) (word_claimed items text) (word_claimed items whole) front bads alike in
          let shown = shown_more (model_shows items) fs front f is in
          noted_rises (word_claimed items whole) (map (model_shows items) front) (model_shows items f) bads (word_reached items whole fs) number before.firsts after.firsts (n ∙ (sym many ∙ sym (length-map front (model_shows items)))) was
          (λ k. ap (λ (l : List Shown). word_claimed items whole k && rises_in_some k l) shown) (notes fs t)
          ∙ ap (λ (l : List Shown). first_rises_from (word_claimed items whole) l 0 bads) (sym shown)

-- ---- over a circuit

pub no_bits_yet : (c : Circuit) (vs : List Valuation) → IsClosedBitTrace c [] vs → vs ≡ []
unfolding reading
no_bits_yet c [] t = refl
no_bits_yet c (v ∷ vs) t = absurd t

pub bits_none : (noted : Bool) (c : Circuit) (n : BitNoter) (count : ℕ) → (noted ≡ true → count ≡ length c.bads) → StandsForBits c n.judge [] → n.firsts ≡ replicate count None → NotesBits noted c n []
bits_none noted c n count many stands is =
    record {
      judge = stands;
      firsts = λ on vs t.
          is
          ∙ (ap (λ (m : ℕ). replicate m None) (many on)
          ∙ (none_risen (bit_claimed c []) 0 (length c.bads) ∙ ap (λ (ws : List Valuation). bit_first_rises c [] ws) (sym (no_bits_yet c vs t))));
    }

pub bits_of_part : (noted : Bool) (c : Circuit) (text bytes : List ℕ) (before after : BitNoter) → IsLine bytes → NotesBits noted c before text → StandsForBits c after.judge (text ++ bytes) → after.firsts ≡ before.firsts → NotesBits noted c after (text ++ bytes)
bits_of_part noted c text bytes before after line h stands same =
    let said : bits_said_in c (text ++ bytes) ≡ bits_said_in c text = bits_part c text bytes line in
    record {
      judge = stands;
      firsts = λ on vs t.
          let was : IsClosedBitTrace c text vs = subst (λ (r : BitRead). IsBitTrace c r.initial r.frames vs) said t in
          same ∙ (h.firsts on vs was ∙ ap (λ (r : BitRead). first_rises_from (λ k. nat_eq r.claim k) (map (circuit_shows c) vs) 0 (length c.bads)) (sym said));
    }

module _ (noted : Bool) (c : Circuit) (text line : List ℕ) (before after : BitNoter) (one_line : IsLine line) (h : NotesBits noted c before text) (stands : StandsForBits c after.judge (text ++ (line ++ 10 ∷ []))) (number now : ℕ)
    (n : number ≡ closed_frames c text) (m : now ≡ closed_frames c (text ++ (line ++ 10 ∷ []))) where
  abbrev all : List ℕ
  all = text ++ (line ++ 10 ∷ [])

  abbrev BitGrowth : List Valuation → Type 0
  BitGrowth vs = Grows (IsClosedBitTrace c text) (bit_claimed c text) (bit_claimed c all) (closed_frames c text) (closed_frames c all) vs

  pub bits_same : now ≡ number → after.firsts ≡ before.firsts → NotesBits noted c after all
  bits_same e same = record { judge = stands; firsts = λ on vs t. by on vs (bits_grow c text line vs one_line t) }
    where
      by : noted ≡ true → (vs : List Valuation) → BitGrowth vs → after.firsts ≡ bit_first_rises c all vs
      by on vs (Same _ trace alike) = same ∙ (h.firsts on vs trace ∙ alike_rises (circuit_shows c) (bit_claimed c text) (bit_claimed c all) vs (length c.bads) alike)
      by on vs (More front v is grown many trace alike) = absurd (omega (arith, e, n, m, grown))

  pub bits_more : (now ≡ number → ⊥) → ((vs : List Valuation) → IsClosedBitTrace c all vs → IsNoted (bit_reached c all vs) number before.firsts after.firsts) → NotesBits noted c after all
  bits_more ne notes = record { judge = stands; firsts = λ on vs t. by on vs t (bits_grow c text line vs one_line t) }
    where
      by : noted ≡ true → (vs : List Valuation) → IsClosedBitTrace c all vs → BitGrowth vs → after.firsts ≡ bit_first_rises c all vs
      by on vs t (Same same trace alike) = absurd (ne (m ∙ (same ∙ sym n)))
      by on vs t (More front v is grown many trace alike) =
          let was : before.firsts ≡ first_rises_from (bit_claimed c all) (map (circuit_shows c) front) 0 (length c.bads) =
          h.firsts on front trace ∙ alike_rises (circuit_shows c) (bit_claimed c text) (bit_claimed c all) front (length c.bads) alike in
          let shown = shown_more (circuit_shows c) vs front v is in
          noted_rises (bit_claimed c all) (map (circuit_shows c) front) (circuit_shows c v) (length c.bads) (bit_reached c all vs) number before.firsts after.firsts (n ∙ (sym many ∙ sym (length-map front (circuit_shows c)))) was
          (λ k. ap (λ (l : List Shown). bit_claimed c all k && rises_in_some k l) shown) (notes vs t)
          ∙ ap (λ (l : List Shown). first_rises_from (bit_claimed c all) l 0 (length c.bads)) (sym shown)
