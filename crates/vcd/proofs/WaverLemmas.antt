-- What a waver puts for the bytes that it takes.
use Rattle.std.proofs.Common.{◌≡◌, ℕ, ◌+◌, ◌≤◌, ◌==◌, List, [], ◌∷◌, ◌++◌, Option, None, Some, length, length-append, map, take, refl, sym, ap, ap₂, subst, ◌∙◌, append_assoc, append-nil, arith, inl, inr}
use Rattle.std.specs.List.{last_or}
use Rattle.std.proofs.Math.Seq.{take-append_seam}
use Rattle.base.specs.Lines.{IsLine, text_of_lines}
use Rattle.base.specs.declared.pen.Pen.{Pen}
use Rattle.base.proofs.PenLemmas.{writes_none, writes_then}
use Rattle.btor2.specs.declared.item.Item.{Item}
use Rattle.btor2.specs.Check.{IsWellFormed}
use Rattle.btor2.specs.Trace.{Frame}
use Rattle.witness.specs.Texts.{Parts, shape_of}
use Rattle.witness.specs.Admits.{Read}
use Rattle.witness.specs.ClosedWords.{IsClosedTrace, said_in, ClosesFrame, closed_word_frames}
use Rattle.witness.specs.Readings.{reading}
use Rattle.witness.specs.WordStands.{StandsForWitness}
use Rattle.witness.proofs.ClosedLemmas.{line_closes_one, part_closes_none, front_closes}
use Rattle.vcd.specs.declared.scope.Shown.{Shown}
use Rattle.vcd.specs.declared.signals.Signal.{Signal}
use Rattle.vcd.specs.Signals.{signals}
use Rattle.vcd.specs.Dumps.{moment, end_lines, frames_text}
use Rattle.vcd.specs.Stands.{signal_of, kept_values, with_word, changes, told_word, Shows, Waver, Waves, Takes}
use Rattle.vcd.proofs.SignalLemmas.{all_there}
use Rattle.vcd.proofs.TraceLemmas.{IsTraceOf, Front, front_of, many_frames}
use Rattle.vcd.proofs.DumpLemmas.{behind_text, frames_more, frame_text, kept_behind}

-- ---- the empty text

-- no frame of it is closed
pub none_yet : (items : List Item) (fs : List Frame) → IsClosedTrace items [] fs → fs ≡ []
unfolding reading
none_yet items [] t = refl
none_yet items (f ∷ fs) t = absurd t

pub waves_none : (s : Shown) (items : List Item) (w : Waver) → IsWellFormed items → StandsForWitness items w.judge [] → w.signals ≡ map (signal_of items) (signals s items) → Waves s items w [] []
waves_none s items w well stands is = record {
  well_formed = well;
  judge = stands;
  signals = λ fs t. is ∙ sym (ap (λ (gs : List Frame). map (kept_values items (last_or None gs)) (signals s items)) (none_yet items fs t));
  frames = λ fs t. sym (ap (frames_text s items) (none_yet items fs t));
}

-- ---- texts with the same closed frames

-- a trace of a text is one of another with the same closed frames
same_trace : (items : List Item) (text other : List ℕ) (fs : List Frame) → (said_in items other).closed ≡ (said_in items text).closed → IsClosedTrace items other fs → IsClosedTrace items text fs
same_trace items text other fs same t = subst (λ (closed : List Parts). IsTraceOf items closed fs) same t

same_waves : (s : Shown) (items : List Item) (text other put : List ℕ) (before after : Waver) → (said_in items other).closed ≡ (said_in items text).closed → Waves s items before text put → StandsForWitness items after.judge other → after.signals ≡ before.signals → Waves s items after other put
same_waves s items text other put before after same h stands signals = record {
  well_formed = h.well_formed;
  judge = stands;
  signals = λ fs t. signals ∙ h.signals fs (same_trace items text other fs same t);
  frames = λ fs t. h.frames fs (same_trace items text other fs same t);
}

-- bytes that end no line
pub waves_bytes : (s : Shown) (items : List Item) (text put bytes : List ℕ) (before after : Waver) → IsLine bytes → Waves s items before text put → StandsForWitness items after.judge (text ++ bytes) → after.signals ≡ before.signals → Waves s items after (text ++ bytes) put
waves_bytes s items text put bytes before after is h stands signals = same_waves s items text (text ++ bytes) put before after (ap (λ (r : Read). r.closed) (part_closes_none items text bytes is)) h stands signals

-- what is put of a front's frames is a beginning
pub front_text : (s : Shown) (items : List Item) (w : Waver) (text put more : List ℕ) (fs : List Frame) → Waves s items w text put → IsClosedTrace items (text ++ more) fs → (rest : List ℕ) × (put ++ rest ≡ frames_text s items fs)
front_text s items w text put more fs h t =
    let longer = front_closes items text more in
    let front : Front items (said_in items text).closed longer.0 fs = front_of items (said_in items text).closed longer.0 fs (subst (λ (closed : List Parts). IsTraceOf items closed fs) longer.1 t) in (
      behind_text s items front.front front.rest,
      ap (λ (l : List ℕ). l ++ behind_text s items front.front front.rest) (h.frames front.front front.trace) ∙ sym (ap (frames_text s items) front.is ∙ frames_more s items front.front front.rest),
    )

-- ---- a line

closed_count : (items : List Item) (text : List ℕ) → closed_word_frames (shape_of items) text ≡ length (said_in items text).closed
closed_count items text = refl

-- one frame is left
one_left : (fs : List Frame) → length fs ≡ 1 → (f : Frame) × (fs ≡ f ∷ [])
one_left [] e = absurd cc
one_left (f ∷ []) e = (f, refl)
one_left (f ∷ g ∷ fs) e = absurd cc

last_behind : (fs : List Frame) (f : Frame) (o : Option Frame) → last_or o (fs ++ f ∷ []) ≡ Some f
last_behind [] f o = refl
last_behind (g ∷ fs) f o = last_behind fs f (Some g)

module _ (s : Shown) (items : List Item) (text line put : List ℕ) (before : Waver) (one_line : IsLine line) (h : Waves s items before text put)
    (after : Waver) (stands : StandsForWitness items after.judge (text ++ (line ++ 10 ∷ []))) (number now : ℕ) (n : number ≡ closed_word_frames (shape_of items) text) (m : now ≡ closed_word_frames (shape_of items) (text ++ (line ++ 10 ∷ []))) where
  abbrev whole : List ℕ
  whole = text ++ (line ++ 10 ∷ [])

  -- no frame is closed
  pub none_closed : now ≡ number → after.signals ≡ before.signals → Waves s items after whole put
  none_closed e signals =
      let same : (said_in items whole).closed ≡ (said_in items text).closed = elim (line_closes_one items text line one_line) [
        | inl same ↦ same
        | inr more ↦ absurd (omega (arith, e, n, m, closed_count items text, closed_count items whole, ap length more.closed, length-append (said_in items text).closed (more.parts ∷ [])))
      ] in
      same_waves s items text whole put before after same h stands signals

  closes : (now ≡ number → ⊥) → ClosesFrame (said_in items text) (said_in items whole)
  closes e =
      elim (line_closes_one items text line one_line) [
        | inl same ↦ absurd (e (m ∙ (ap length same ∙ sym n)))
        | inr more ↦ more
      ]

  -- a frame is closed: what the judge shows, and the frames before
  record Closed (fs : List Frame) : Type 0 where
    front : List Frame
    f : Frame
    is : fs ≡ front ++ f ∷ []
    trace : IsClosedTrace items text front
    many : length front ≡ number
    shows : Shows after.judge items f

  closed_by : (e : now ≡ number → ⊥) (fs : List Frame) → IsClosedTrace items whole fs → Closed fs
  closed_by e fs t =
      let more = closes e in
      let parts = front_of items (said_in items text).closed (more.parts ∷ []) fs (subst (λ (closed : List Parts). IsTraceOf items closed fs) more.closed t) in
      let one = one_left parts.rest parts.as_many in
      let all : fs ≡ parts.front ++ one.0 ∷ [] = parts.is ∙ ap (λ (l : List Frame). parts.front ++ l) one.1 in
      record {
        front = parts.front;
        f = one.0;
        is = all;
        trace = parts.trace;
        many = parts.many ∙ sym n;
        shows = record { text = whole; frames = fs; stands = stands; trace = t; behind = more.behind; last = ap (last_or None) all ∙ last_behind parts.front one.0 None };
      }

  -- what is put of it
  adds : (fs : List Frame) (c : Closed fs) → frames_text s items fs ≡ frames_text s items c.front ++ ((moment number ++ 10 ∷ []) ++ changes (number == 0) (told_word items c.f) before.signals)
  adds fs c =
      ap (frames_text s items) c.is
      ∙ (frames_more s items c.front (c.f ∷ [])
      ∙ (ap (λ (l : List ℕ). frames_text s items c.front ++ l) (frame_text s items c.front c.f (all_there items s h.well_formed))
      ∙ ap₂ (λ (k : ℕ) (l : List Signal). frames_text s items c.front ++ ((moment k ++ 10 ∷ []) ++ changes (k == 0) (told_word items c.f) l)) c.many (sym (h.signals c.front c.trace))))

  kept_then : ((f : Frame) → Shows after.judge items f → after.signals ≡ map (with_word (told_word items f)) before.signals) → (fs : List Frame) (c : Closed fs) → after.signals ≡ map (kept_values items (last_or None fs)) (signals s items)
  kept_then kept_of fs c =
      kept_of c.f c.shows
      ∙ (ap (map (with_word (told_word items c.f))) (h.signals c.front c.trace)
      ∙ (kept_behind items (last_or None c.front) c.f (signals s items) (all_there items s h.well_formed)
      ∙ ap (λ (o : Option Frame). map (kept_values items o) (signals s items)) (sym (ap (last_or None) c.is ∙ last_behind c.front c.f None))))

  pub one_closed : (more : List ℕ) → (now ≡ number → ⊥) → ((f : Frame) → Shows after.judge items f → more ≡ (moment number ++ 10 ∷ []) ++ changes (number == 0) (told_word items f) before.signals)
      → ((f : Frame) → Shows after.judge items f → after.signals ≡ map (with_word (told_word items f)) before.signals) → Waves s items after whole (put ++ more)
  one_closed more e puts kept_of = record {
    well_formed = h.well_formed;
    judge = stands;
    signals = λ fs t. kept_then kept_of fs (closed_by e fs t);
    frames = λ fs t.
        let c = closed_by e fs t in
        ap₂ (λ (l r : List ℕ). l ++ r) (h.frames c.front c.trace) (puts c.f c.shows) ∙ sym (adds fs c);
  }

-- ---- a piece of the witness

-- the first line of a text, with its end
pub line_with_end : (rest line behind : List ℕ) → rest ≡ line ++ 10 ∷ behind → take (length line + 1) rest ≡ line ++ 10 ∷ []
line_with_end rest line behind cut =
    let all : rest ≡ (line ++ 10 ∷ []) ++ behind = cut ∙ sym (append_assoc line (10 ∷ []) behind) in
    ap₂ (λ (n : ℕ) (l : List ℕ). take n l) (sym (length-append line (10 ∷ []))) all ∙ take-append_seam (line ++ 10 ∷ []) behind

pub line_fits : (rest line behind : List ℕ) → rest ≡ line ++ 10 ∷ behind → length line + 1 ≤ length rest
line_fits rest line behind cut = omega (arith, ap length cut, length-append line (10 ∷ behind))

pub takes_none : {K : Type 0} {written : K → Option (List ℕ)} {failures : K → ℕ} {s : K} {p : Pen} {w : Waver} → Takes written failures s s p p w w []
takes_none {w} = record {
  put = [];
  writes = writes_none;
  waves = λ shown items text put h. rw (append-nil text, append-nil put) h;
}

pub takes_more : {K : Type 0} {written : K → Option (List ℕ)} {failures : K → ℕ} {s t u : K} {p q r : Pen} {before w after : Waver} {front more : List ℕ}
    → Takes written failures s t p q before w front → Takes written failures t u q r w after more → Takes written failures s u p r before after (front ++ more)
takes_more {front} {more} one two = record {
  put = one.put ++ two.put;
  writes = writes_then one.writes two.writes;
  waves = λ shown items text put h.
      rw (← append_assoc text front more, ← append_assoc put one.put two.put) (two.waves shown items (text ++ front) (put ++ one.put) (one.waves shown items text put h));
}

-- a front of some bytes was taken, and this rest is left
pub record Took {K : Type 0} (written : K → Option (List ℕ)) (failures : K → ℕ) (s t : K) (p q : Pen) (before after : Waver) (bytes rest : List ℕ) : Type 0 where
  pub done : List ℕ
  pub all : done ++ rest ≡ bytes
  pub takes : Takes written failures s t p q before after done

pub took_none : {K : Type 0} {written : K → Option (List ℕ)} {failures : K → ℕ} {s : K} {p : Pen} {w : Waver} {bytes : List ℕ} → Took written failures s s p p w w bytes bytes
took_none = record { done = []; all = refl; takes = takes_none }

pub took_line : {K : Type 0} {written : K → Option (List ℕ)} {failures : K → ℕ} {s t u : K} {p q r : Pen} {before w after : Waver} {bytes rest behind : List ℕ} (line : List ℕ)
    → Took written failures s t p q before w bytes rest → rest ≡ line ++ 10 ∷ behind → Takes written failures t u q r w after (line ++ 10 ∷ []) → Took written failures s u p r before after bytes behind
took_line {behind} line t cut takes = record {
  done = t.done ++ (line ++ 10 ∷ []);
  all = append_assoc t.done (line ++ 10 ∷ []) behind ∙ ap (λ (l : List ℕ). t.done ++ l) (append_assoc line (10 ∷ []) behind ∙ sym cut) ∙ t.all;
  takes = takes_more t.takes takes;
}

-- what is left ends no line
pub took_all : {K : Type 0} {written : K → Option (List ℕ)} {failures : K → ℕ} {s t : K} {p q : Pen} {before w after : Waver} {bytes rest : List ℕ} → Took written failures s t p q before w bytes rest → IsLine rest
    → ((s : Shown) (items : List Item) (text put : List ℕ) → IsLine rest → Waves s items w text put → Waves s items after (text ++ rest) put) → Takes written failures s t p q before after bytes
took_all {written} {failures} {s} {t} {p} {q} {before} {w} {after} {bytes} {rest} took is bytes_taken =
    let last : Takes written failures t t q q w after rest = record {
      put = [];
      writes = writes_none;
      waves = λ shown items text put h. rw (append-nil put) (bytes_taken shown items text put is h);
    } in
    subst (Takes written failures s t p q before after) took.all (takes_more took.takes last)

-- ---- the end

-- as many frames as are closed
frames_many : (items : List Item) (text : List ℕ) (fs : List Frame) → IsClosedTrace items text fs → length fs ≡ closed_word_frames (shape_of items) text
frames_many items text fs t = many_frames items (said_in items text).closed fs t

pub end_none : (items : List Item) (text : List ℕ) (fs : List Frame) (n : ℕ) → IsClosedTrace items text fs → n ≡ closed_word_frames (shape_of items) text → n ≡ 0 → text_of_lines (end_lines fs) ≡ []
end_none items text fs n t is none = by fs (frames_many items text fs t ∙ (sym is ∙ none))
  where
    by : (gs : List Frame) → length gs ≡ 0 → text_of_lines (end_lines gs) ≡ []
    by [] e = refl
    by (g ∷ gs) e = absurd cc

pub end_some : (items : List Item) (text : List ℕ) (fs : List Frame) (n : ℕ) → IsClosedTrace items text fs → n ≡ closed_word_frames (shape_of items) text → (n ≡ 0 → ⊥) → text_of_lines (end_lines fs) ≡ moment n ++ 10 ∷ []
end_some items text fs n t is some = by fs (frames_many items text fs t ∙ sym is)
  where
    by : (gs : List Frame) → length gs ≡ n → text_of_lines (end_lines gs) ≡ moment n ++ 10 ∷ []
    by [] e = absurd (some (sym e))
    by (g ∷ gs) e = append-nil (moment (length (g ∷ gs)) ++ 10 ∷ []) ∙ ap (λ (k : ℕ). moment k ++ 10 ∷ []) e
