-- What is heard of the first frame while the lines of a text are judged.
use Rattle.std.proofs.Common.{◌≡◌, ℕ, suc, ◌<◌, Bool, true, false, cond, List, [], ◌∷◌, ◌++◌, map, length, Option, Some, None, option_and_then, Result, Ok, Err, append-nil, refl, sym, ap, subst, ◌∙◌, arith, IfOk, codes, ◌&&◌}
use Rattle.std.specs.List.{last_or}
use Rattle.std.specs.Str.{bytes_eq}
use Rattle.std.proofs.lemmas.Option.{none-some}
use Rattle.std.proofs.lemmas.Result.{IfOk-at_ok}
use Rattle.base.specs.Lines.{IsLine, unfinished}
use Rattle.btor2.specs.declared.item.Item.{Item}
use Rattle.btor2.specs.Trace.{Frame, IsTrace}
use Rattle.witness.specs.declared.why.Why.{Why}
use Rattle.witness.specs.Texts.{Shape, Assignment, Parts, is_comment, has_free, shape_of, most_lines}
use Rattle.witness.specs.Readings.{Reading, with_said, so_far, next_line}
use Rattle.witness.specs.Admits.{Place, AtStatus, AtClaims, AtParts, InStates, InFrame, AtEnd, Read, claims_at, assignment_at, state_assignment_at, begins_part, opens_frame, opens_states, admit_at, admit, word_reader}
use Rattle.witness.specs.ClosedWords.{word_reading, closed_word_frames, said_in, closed_words, IsClosedTrace, is_behind_frame, word_at, last_word}
use Rattle.witness.specs.Judgements.{FrameWords, frame_words, initial_words, given_frames}
use Rattle.witness.specs.WordStands.{WordJudge, StandsForWitness}
use Rattle.witness.proofs.ReadingLemmas.{by_test, line_admitted}
use Rattle.rejoin.specs.Pieces.{cut_shape, split_parts}
use Rattle.spread.specs.Spread.{IsShort}
use Rattle.spread.specs.Passing.{passing_text}
use Rattle.spread.specs.Stands.{IsWideShape, part_behind}
use Rattle.spread.proofs.AdmittedLemmas.{wide_is_small, part_opens}
use Rattle.spread.proofs.AlikeLemmas.{split_read}
use Rattle.spread.proofs.GrowthLemmas.{pieces_read, frames_alike}
use Rattle.spread.proofs.LineLemmas.{next_is}
use Rattle.spread.proofs.SpreaderLemmas.{next_reading, admitted_few, few}
use Rattle.fulljudge.specs.Compared.{told_more, BeginsRun, FirstWords, AwaitsFirst, HasFirst, HoldsFirst, HeardFirst, IsFound}
use Rattle.fulljudge.proofs.HearLemmas.{ClosesFirst, line_goes}

-- ---- closed frames stay

abbrev Grows : Read → Read → Type 0
Grows r next = (more : List Parts) × (next.closed ≡ r.closed ++ more)

module _ (shape : Shape) (r : Read) (line : List ℕ) where
  stay : (more : List Parts) × (r.closed ≡ r.closed ++ more)
  stay = ([], sym (append-nil r.closed))

  in_part : (o : Result (List Assignment) Why) → IfOk (with_said (λ (list : List Assignment). record r { open_part = list }) o) (Grows r)
  in_part (Ok list) = stay
  in_part (Err w) = tt

  claimed : (o : Result (List ℕ) Why) → IfOk (with_said (λ (claims : List ℕ). record r { place = AtParts; claims = claims }) o) (Grows r)
  claimed (Ok claims) = stay
  claimed (Err w) = tt

  grow_at : (at : Place) → IfOk (admit_at shape r line at) (Grows r)
  grow_at AtStatus = by_test (Grows r) (is_comment line) _ _ (λ e. stay) (λ e. by_test (Grows r) (bytes_eq line (codes "sat")) _ _ (λ d. stay) (λ d. tt))
  grow_at AtClaims = claimed (claims_at shape.bads line)
  grow_at AtParts = by_test (Grows r) (opens_states 0 line) _ _ (λ e. stay) (λ e. by_test (Grows r) (opens_frame 0 line) _ _ (λ d. stay) (λ d. tt))
  grow_at InStates =
      by_test (Grows r) (opens_frame (length r.closed) line) _ _ (λ e. stay) (λ e. by_test (Grows r) (begins_part line) _ _ (λ d. tt) (λ d. in_part (state_assignment_at shape r.closed r.open_part line)))
  grow_at InFrame =
      let k : ℕ = suc (length r.closed) in
      let last : Parts = record { states = r.states; inputs = r.open_part } in
      by_test (Grows r) (opens_frame k line) _ _ (λ e. (last ∷ [], refl))
      (λ e. by_test (Grows r) (opens_states k line && has_free shape) _ _ (λ d. (last ∷ [], refl))
      (λ d. by_test (Grows r) (bytes_eq line (codes ".")) _ _ (λ f. (last ∷ [], refl))
      (λ f. by_test (Grows r) (begins_part line) _ _ (λ g. tt) (λ g. in_part (assignment_at shape.inputs r.open_part line)))))
  grow_at AtEnd = tt

-- behind an admitted line no frame is closed, or the one that is open
closed_grow : (shape : Shape) (r next : Read) (line : List ℕ) → admit shape r line ≡ Ok next → Grows r next
unfolding admit
closed_grow shape r next line e = IfOk-at_ok (Grows r) e (grow_at shape r line r.place)

-- behind a faulty line nothing is read
refused_stays : (shape : Shape) (g : Reading Read) (line : List ℕ) (w : Why) → g.refused ≡ Some w → next_line (word_reader shape) g line ≡ g
unfolding next_line
refused_stays shape g line w e = rw e refl

-- where nothing is read behind the first frame, no word of the pieces is given behind it
behind_at : (shape : Shape) (claims : List ℕ) (first : Parts) (at : Place) → is_behind_frame (split_read shape (record { place = at; claims = claims; closed = first ∷ []; states = None; open_part = [] })) ≡ true
behind_at shape claims first AtStatus = refl
behind_at shape claims first AtClaims = refl
behind_at shape claims first AtParts = refl
behind_at shape claims first InStates = refl
behind_at shape claims first InFrame = refl
behind_at shape claims first AtEnd = refl

behind_first : (shape : Shape) (h : FirstWords) (r : Read) → ClosesFirst h r → is_behind_frame (split_read shape r) ≡ true
behind_first shape h r c =
    let closed = ap (λ (l : List Parts). record { place = r.place; claims = r.claims; closed = l; states = r.states; open_part = r.open_part }) c.is in
    let states = ap (λ (o : Option (List Assignment)). record { place = r.place; claims = r.claims; closed = c.first ∷ []; states = o; open_part = r.open_part }) c.states in
    let open_part = ap (λ (l : List Assignment). record { place = r.place; claims = r.claims; closed = c.first ∷ []; states = None; open_part = l }) c.open_part in
    ap (λ (s : Read). is_behind_frame (split_read shape s)) (closed ∙ states ∙ open_part) ∙ behind_at shape r.claims c.first r.place

-- ---- a line more

module _ (shape : Shape) (narrow : List Item) (text line : List ℕ) (good : IsWideShape shape) (cut : shape_of narrow ≡ cut_shape shape) (short : IsShort (text ++ (line ++ 10 ∷ []))) (is : IsLine line) (ended : unfinished text ≡ []) where
  abbrev whole : List ℕ
  whole = text ++ (line ++ 10 ∷ [])

  abbrev now : Reading Read
  now = word_reading shape text

  -- the line is admitted behind what is read
  record NextRead : Type 0 where
    pub none : now.refused ≡ None
    pub read : Read
    pub admits : admit shape now.read line ≡ Ok read
    pub is_read : (word_reading shape whole).read ≡ read

  next_read : (word_reading shape whole).refused ≡ None → NextRead
  next_read none = by now.refused refl
    where
      step : word_reading shape whole ≡ next_line (word_reader shape) now line
      step = next_reading shape narrow text line good cut short is ended

      room : now.admitted < most_lines
      room = omega (arith, admitted_few shape narrow text line good cut short is ended, few shape narrow text line good cut short is ended)

      refused : (next_line (word_reader shape) now line).refused ≡ None
      refused = ap (λ (g : Reading Read). g.refused) (sym step) ∙ none

      behind : now.refused ≡ None → (o : Result Read Why) → admit shape now.read line ≡ o → NextRead
      behind free (Ok read) e =
          let was : now ≡ so_far now.admitted now.read = ap (λ (o : Option Why). record { admitted = now.admitted; read = now.read; refused = o }) free in
          record {
            none = free;
            read = read;
            admits = e;
            is_read = ap (λ (g : Reading Read). g.read) (step ∙ ap (λ (g : Reading Read). next_line (word_reader shape) g line) was ∙ line_admitted (word_reader shape) now.admitted now.read line read room e);
          }
      behind free (Err w) e =
          let was : now ≡ so_far now.admitted now.read = ap (λ (o : Option Why). record { admitted = now.admitted; read = now.read; refused = o }) free in
          let stops = ap (λ (g : Reading Read). next_line (word_reader shape) g line) was ∙ next_is shape now.admitted now.read line w room e in
          absurd (none-some w (sym refused ∙ ap (λ (g : Reading Read). g.refused) stops))

      by : (o : Option Why) → now.refused ≡ o → NextRead
      by None e = behind e (admit shape now.read line) refl
      by (Some w) e = absurd (none-some w (sym refused ∙ ap (λ (g : Reading Read). g.refused) (refused_stays shape now line w e) ∙ e))

  -- where the first frame is closed, it stays
  pub stays_first : (h : FirstWords) → h.closed ≡ true → HeardFirst h shape narrow text → HeardFirst h shape narrow whole
  stays_first h closed hears none =
      let n = next_read none in
      let had : HasFirst h shape narrow now.read = subst (λ (b : Bool). HoldsFirst h b shape narrow now.read) closed (hears n.none) in
      let grown = closed_grow shape now.read n.read line n.admits in
      let has : HasFirst h shape narrow n.read = record {
        first = had.first;
        more = had.more ++ grown.0;
        is = grown.1 ∙ ap (λ (l : List Parts). l ++ grown.0) had.is;
        flags = had.flags;
        found = had.found;
      } in
      subst (λ (b : Bool). HoldsFirst h b shape narrow (word_reading shape whole).read) (sym closed) (subst (HasFirst h shape narrow) (sym n.is_read) has)

  module _ (h : FirstWords) (open' : h.closed ≡ false) (hears : HeardFirst h shape narrow text) where
    awaits : now.refused ≡ None → AwaitsFirst h now.read
    awaits none = subst (λ (b : Bool). HoldsFirst h b shape narrow now.read) open' (hears none)

    none_of : (l : List Parts) → length l ≡ 0 → l ≡ []
    none_of [] e = refl
    none_of (x ∷ l) e = absurd (omega (arith, e))

    -- no frame is closed yet
    pub goes_on_first : closed_word_frames (shape_of narrow) (passing_text shape whole) ≡ 0 → HeardFirst (told_more h line) shape narrow whole
    goes_on_first frames none =
        let n = next_read none in
        let a = awaits n.none in
        let no_frame : n.read.closed ≡ [] = none_of n.read.closed (ap (λ (r : Read). length r.closed) (sym n.is_read) ∙ sym (frames_alike shape narrow whole good cut short) ∙ frames) in
        let goes = (line_goes shape (wide_is_small shape good) h now.read line a n.read n.admits).0 no_frame in
        let awaits_more : AwaitsFirst (told_more h line) n.read = record {
          none = no_frame;
          said = goes.0;
          part = ap (λ (p : _). part_behind p line) a.part ∙ part_opens shape good.bads now.read line n.read n.admits;
          flags = goes.1;
        } in
        subst (λ (b : Bool). HoldsFirst (told_more h line) b shape narrow (word_reading shape whole).read) (sym open') (subst (AwaitsFirst (told_more h line)) (sym n.is_read) awaits_more)

    -- the first is closed
    pub closes_first : (judge : WordJudge) (d : Option ℕ) → (closed_word_frames (shape_of narrow) (passing_text shape whole) ≡ 0 → ⊥) → StandsForWitness narrow judge (passing_text shape whole)
        → ((items : List Item) (text : List ℕ) (fs : List Frame) → StandsForWitness items judge text → IsClosedTrace items text fs → IsFound (last_word items text fs) h.flags h.states h.words d)
        → HeardFirst (record h { closed = true; found = d }) shape narrow whole
    closes_first judge d frames stands compares none =
        let n = next_read none in
        let a = awaits n.none in
        let some : n.read.closed ≡ [] → ⊥ = λ e. frames (frames_alike shape narrow whole good cut short ∙ ap (λ (r : Read). length r.closed) n.is_read ∙ ap length e) in
        let closes = (line_goes shape (wide_is_small shape good) h now.read line a n.read n.admits).1 some in
        let pieces : said_in narrow (passing_text shape whole) ≡ split_read shape n.read = pieces_read shape narrow whole good cut short ∙ ap (split_read shape) n.is_read in
        let has : HasFirst (record h { closed = true; found = d }) shape narrow n.read = record {
          first = closes.first;
          more = [];
          is = closes.is;
          flags = closes.flags;
          found = λ f runs. by_frame n.read closes pieces f runs;
        } in
        subst (HasFirst (record h { closed = true; found = d }) shape narrow) (sym n.is_read) has
      where
        by_frame : (r : Read) (c : ClosesFirst h r) → said_in narrow (passing_text shape whole) ≡ split_read shape r → (f : Frame) → BeginsRun narrow (split_parts shape c.first) f → IsFound (word_at narrow f) h.flags h.states h.words d
        by_frame r c pieces f runs =
            let frames : (closed_words narrow (passing_text shape whole)).frames ≡ frame_words (split_parts shape c.first) ∷ [] =
            ap (λ (s : Read). map frame_words s.closed) pieces ∙ ap (λ (l : List Parts). map frame_words (map (split_parts shape) l)) c.is in
            let trace : IsClosedTrace narrow (passing_text shape whole) (f ∷ []) =
            subst (λ (ws : List FrameWords). IsTrace narrow (initial_words narrow (record { claims = []; frames = ws })) (given_frames narrow (record { claims = []; frames = ws })) (f ∷ [])) (sym frames) runs in
            let behind : is_behind_frame (said_in narrow (passing_text shape whole)) ≡ true = ap is_behind_frame pieces ∙ behind_first shape h r c in
            subst (λ (b : Bool). IsFound (λ node. cond b (option_and_then (λ (g : Frame). word_at narrow g node) (last_or None (f ∷ []))) None) h.flags h.states h.words d) behind (compares narrow (passing_text shape whole) (f ∷ []) stands trace)
