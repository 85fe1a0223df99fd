-- Lines of a witness over a model, admitted one after the other by what is kept of them.
use Rattle.std.proofs.Common.{◌≡◌, ℕ, suc, ◌*◌, ◌<◌, ◌≤◌, Bool, true, false, ◌&&◌, List, [], ◌∷◌, ◌++◌, Option, Result, Ok, Err, codes, map, length, unwrap_or, slice_index, slice_index_or, arith, refl, sym, ap, subst, ◌∙◌, ◌^◌}
use Rattle.std.specs.Str.{bytes_eq}
use Rattle.std.proofs.lemmas.Bool.{false_from_ne_true}
use Rattle.std.proofs.lemmas.Slice.Eq.{bytes_eq-Decides}
use Rattle.base.specs.Decimals.{number_of}
use Rattle.btor2.specs.declared.item.Item.{Item}
use Rattle.witness.specs.declared.why.Why.{Why}
use Rattle.witness.specs.declared.why.Why.TheVariants as why
use Rattle.witness.specs.declared.word_reader.Place.{Place as CodePlace}
use Rattle.witness.specs.declared.word_reader.Place.TheVariants as code
use Rattle.witness.specs.Texts.{Assignment, Parts, is_free_index, has_free, shape_of, is_comment}
use Rattle.witness.specs.Admits.{Place, AtClaims, AtParts, InStates, InFrame, AtEnd, Read, nothing_read, cut_at_space, may_name, state_assignment_at, claims_at, opens_frame, opens_states, begins_part, frame_closed, admit}
use Rattle.witness.specs.Judgements.{FrameWords, pairs_of, frame_words}
use Rattle.witness.specs.Fits.{AreClaimed}
use Rattle.std.specs.List.{list_any}
use Rattle.btor2.specs.Items.{is_state, is_bad}
use Rattle.btor2.specs.Lists.{places, is_free_at}
use Rattle.witness.specs.declared.word_claims.ClaimScan.{ClaimScan}
use Rattle.witness.specs.WordClaims.{AreClaims}
use Rattle.witness.proofs.ShapeLemmas.{free_at_places}
use Rattle.witness.specs.WordPlays.{WordPlay, IsStart, GoesOn, Plays, frame_steps, MayGive, GivesState, GivesInput, nothing_given}
use Rattle.witness.specs.WordStands.{WordReader, place_of, here_of, NoFrame, SaidAt, ClaimsAt, ReadsWords, GivesLine, is_alone}
use Rattle.witness.proofs.StepWords.{names_free, states_closed}
use Rattle.std.proofs.lemmas.List.{map-append, length-map, get_or-map, get_or_past}
use Rattle.std.proofs.lemmas.List.Elements.{All-nil, All-from_get_or, All-map}
use Rattle.runs.specs.Frames.{ids_of}
use Rattle.runs.specs.Run.{Run, first_word, more_steps}
use Rattle.std.proofs.lemmas.List.Folds.{list_any_at, list_any_none}
use Rattle.runs.proofs.RankLemmas.{length-places}

-- a line is admitted
abbrev pub Passes : List Item → Read → List ℕ → WordReader → Type 0
Passes items r line q = (next : Read) × ((admit (shape_of items) r line ≡ Ok next) × ReadsWords items q next [])

same_claims : (q : WordReader) (r : Read) (line next : List ℕ) (x : CodePlace) → is_alone (place_of x) ≡ true → ClaimsAt q r line (place_of x) → ClaimsAt q r next (place_of x)
same_claims q r line next code.Claims alone h = absurd (cc alone)
same_claims q r line next _ alone h = h

-- a line that opens no part is no line that begins with such a byte
pub not_opened : (b : ℕ) (rest line : List ℕ) → begins_part (b ∷ rest) ≡ true → begins_part line ≡ false → bytes_eq line (b ∷ rest) ≡ false
not_opened b rest line opens plain =
    false_from_ne_true (bytes_eq line (b ∷ rest)) (λ e.
    let same : line ≡ b ∷ rest = (bytes_eq-Decides line (b ∷ rest)).0 e in
    cc (sym (ap begins_part same) ∙ plain, opens))

-- what is kept, as clauses see it and by its parts
module _ (items : List Item) (r : Read) (line : List ℕ) (q old : WordReader) (same : q ≡ old) (was : ReadsWords items old r line) where
  reads : ReadsWords items q r line
  reads = subst (λ (p : WordReader). ReadsWords items p r line) (sym same) was

  is_at : (x : CodePlace) → old.place ≡ x → r.place ≡ place_of x
  is_at x e = sym was.place ∙ ap place_of e

  said_at : (x : CodePlace) → old.place ≡ x → SaidAt r (place_of x)
  said_at x e = subst (SaidAt r) (is_at x e) reads.said

  pub claims_there : (x : CodePlace) → old.place ≡ x → ClaimsAt q r line (place_of x)
  claims_there x e = subst (ClaimsAt q r line) (is_at x e) reads.claims

  pub plays_at : (x : CodePlace) → old.place ≡ x → Plays items (map frame_words r.closed) (here_of r (place_of x)) q.play
  plays_at x e = subst (λ (p : Place). Plays items (map frame_words r.closed) (here_of r p) q.play) (is_at x e) reads.play

  pub frames_are : q.play.frames ≡ length r.closed
  frames_are = reads.play.count ∙ length-map r.closed frame_words

  -- of a line that is judged by its bytes alone nothing is kept
  pub reads_of_other : (next : List ℕ) → is_alone (place_of q.place) ≡ true → ReadsWords items q r next
  reads_of_other next alone =
      record {
        free = reads.free;
        many = reads.many;
        place = reads.place;
        said = reads.said;
        claims = subst (ClaimsAt q r next) reads.place (same_claims q r line next q.place alone (claims_there q.place (ap (λ (p : WordReader). p.place) (sym same))));
        play = reads.play;
      }

  -- an assignment more in the part that is open
  given_more : (x : CodePlace) (p : WordPlay) (list : List Assignment) → old.place ≡ x → SaidAt (record r { open_part = list }) (place_of x) → ClaimsAt (record q { play = p }) (record r { open_part = list }) [] (place_of x)
      → Plays items (map frame_words r.closed) (here_of (record r { open_part = list }) (place_of x)) p → ReadsWords items (record q { play = p }) (record r { open_part = list }) []
  given_more x p list e said claims plays =
      let at = sym (is_at x e) in
      let next : Read = record r { open_part = list } in
      record {
        free = reads.free;
        many = reads.many;
        place = reads.place;
        said = subst (SaidAt next) at said;
        claims = subst (ClaimsAt (record q { play = p }) next []) at claims;
        play = subst (λ (y : Place). Plays items (map frame_words r.closed) (here_of next y) p) at plays;
      }

  -- ---- the status and the claims

  pub comment_admitted : old.place ≡ code.Status → is_comment line ≡ true → Passes items r line q
  unfolding admit
  comment_admitted e is =
      let at = is_at code.Status e in
      (r, (rw (at, is) refl, record { free = reads.free; many = reads.many; place = reads.place; said = reads.said; claims = subst (ClaimsAt q r []) (sym at) (claims_there code.Status e); play = reads.play }))

  pub sat_admitted : old.place ≡ code.Status → is_comment line ≡ false → bytes_eq line (codes "sat") ≡ true → Passes items r line (record q { place = code.Claims })
  unfolding admit
  sat_admitted e other is =
      let said : NoFrame r = said_at code.Status e in (
        record r { place = AtClaims },
        (
          rw (is_at code.Status e, other, is) refl,
          record { free = reads.free; many = reads.many; place = refl; said = record { closed = said.closed; states = said.states; open_part = said.open_part }; claims = claims_there code.Status e; play = plays_at code.Status e },
        ),
      )

  pub header_refused : old.place ≡ code.Status → is_comment line ≡ false → bytes_eq line (codes "sat") ≡ false → admit (shape_of items) r line ≡ Err why.BadHeader
  unfolding admit
  header_refused e other fails = rw (is_at code.Status e, other, fails) refl

  pub claims_refused : (w : Why) → old.place ≡ code.Claims → claims_at (shape_of items).bads line ≡ Err w → admit (shape_of items) r line ≡ Err w
  unfolding admit
  claims_refused w e is = rw (is_at code.Claims e, is) refl

  pub claims_admitted : (flags : List Bool) (list : List ℕ) → old.place ≡ code.Claims → claims_at (shape_of items).bads line ≡ Ok list → AreClaimed flags list → length flags ≡ length q.claimed → Passes items r line (record q { place = code.Parts; claimed = flags })
  unfolding admit
  claims_admitted flags list e is claimed many =
      let said : NoFrame r = said_at code.Claims e in (
        record r { place = AtParts; claims = list },
        (
          rw (is_at code.Claims e, is) refl,
          record { free = reads.free; many = many ∙ reads.many; place = refl; said = record { closed = said.closed; states = said.states; open_part = said.open_part }; claims = claimed; play = plays_at code.Claims e },
        ),
      )

  -- ---- the line behind them

  pub states_opened : old.place ≡ code.Parts → opens_states 0 line ≡ true → Passes items r line (record q { place = code.States })
  unfolding admit
  states_opened e is =
      let said : NoFrame r = said_at code.Parts e in
      let play = subst (λ (l : List Assignment). Plays items (map frame_words r.closed) (record { states = pairs_of l; inputs = [] }) q.play) (sym said.open_part) (plays_at code.Parts e) in
      (record r { place = InStates }, (rw (is_at code.Parts e, is) refl, record { free = reads.free; many = reads.many; place = refl; said = tt; claims = claims_there code.Parts e; play = play }))

  pub frame_opened : old.place ≡ code.Parts → opens_states 0 line ≡ false → opens_frame 0 line ≡ true → Passes items r line (record q { place = code.Frame })
  unfolding admit
  frame_opened e other is =
      let said : NoFrame r = said_at code.Parts e in
      let inputs = subst (λ (l : List Assignment). Plays items (map frame_words r.closed) (record { states = []; inputs = pairs_of l }) q.play) (sym said.open_part) (plays_at code.Parts e) in
      let play = subst (λ (o : Option (List Assignment)). Plays items (map frame_words r.closed) (record { states = pairs_of (unwrap_or o []); inputs = pairs_of r.open_part }) q.play) (sym said.states) inputs in
      (record r { place = InFrame }, (rw (is_at code.Parts e, other, is) refl, record { free = reads.free; many = reads.many; place = refl; said = tt; claims = claims_there code.Parts e; play = play }))

  pub parts_refused : old.place ≡ code.Parts → opens_states 0 line ≡ false → opens_frame 0 line ≡ false → admit (shape_of items) r line ≡ Err why.FrameOrder
  unfolding admit
  parts_refused e other fails = rw (is_at code.Parts e, other, fails) refl

  -- ---- a part of states

  -- what assigning a word to a state gives
  abbrev pub AssignsState : WordPlay → Result (Unit {0}) Why → Type 0
  AssignsState p result =
      (frames : List FrameWords) (before : List Assignment) → Plays q.play.items frames (record { states = pairs_of before; inputs = [] }) q.play → MayGive q.play.items frames line → GivesState q.play.items frames before line p result

  state_given : (p : WordPlay) (result : Result (Unit {0}) Why) → AssignsState p result → Plays items (map frame_words r.closed) (record { states = pairs_of r.open_part; inputs = [] }) q.play → MayGive items (map frame_words r.closed) line
      → GivesState items (map frame_words r.closed) r.open_part line p result
  state_given p result clause plays =
      subst (λ (l : List Item). Plays l (map frame_words r.closed) (record { states = pairs_of r.open_part; inputs = [] }) q.play → MayGive l (map frame_words r.closed) line → GivesState l (map frame_words r.closed) r.open_part line p result) plays.items_are
      (clause (map frame_words r.closed) r.open_part) plays

  pub states_done : old.place ≡ code.States → opens_frame (length r.closed) line ≡ true → Passes items r line (record q { place = code.Frame })
  unfolding admit
  states_done e is = (states_closed r, (rw (is_at code.States e, is) refl, record { free = reads.free; many = reads.many; place = refl; said = tt; claims = claims_there code.States e; play = plays_at code.States e }))

  pub states_refused : old.place ≡ code.States → opens_frame (length r.closed) line ≡ false → begins_part line ≡ true → admit (shape_of items) r line ≡ Err why.FrameOrder
  unfolding admit
  states_refused e other begins = rw (is_at code.States e, other, begins) refl

  -- whether an index may stand there, as it is told by the number of frames
  abbrev pub MayAssign : Bool → Type 0
  MayAssign b = (old.play.frames ≡ 0 → b ≡ true) × (0 < old.play.frames → b ≡ names_free (shape_of old.play.items) (number_of (cut_at_space line).0))

  named : (b : Bool) → MayAssign b → may_name (shape_of items) r.closed (number_of (cut_at_space line).0) ≡ b
  named b told = by r.closed (was.play.count ∙ length-map r.closed frame_words)
    where
      by : (closed : List Parts) → old.play.frames ≡ length closed → may_name (shape_of items) closed (number_of (cut_at_space line).0) ≡ b
      by [] count = sym (told.0 count)
      by (x ∷ closed) count = sym (told.1 (omega (arith, count)) ∙ ap (λ (l : List Item). names_free (shape_of l) (number_of (cut_at_space line).0)) was.play.items_are)

  pub state_refused : old.place ≡ code.States → opens_frame (length r.closed) line ≡ false → begins_part line ≡ false → MayAssign false → admit (shape_of items) r line ≡ Err why.BadIndex
  unfolding admit state_assignment_at
  state_refused e other plain fails = rw (is_at code.States e, other, plain, named false fails) refl

  pub state_more : (p : WordPlay) (result : Result (Unit {0}) Why) → old.place ≡ code.States → opens_frame (length r.closed) line ≡ false → begins_part line ≡ false → MayAssign true → AssignsState p result → GivesLine items r line (record q { play = p }) result
  unfolding admit state_assignment_at
  state_more p result e other plain free clause = by result (state_given p result clause (plays_at code.States e) (may r.closed (named true free)))
    where
      may : (closed : List Parts) → may_name (shape_of items) closed (number_of (cut_at_space line).0) ≡ true → MayGive items (map frame_words closed) line
      may [] h = refl
      may (x ∷ closed) h = h

      by : (o : Result (Unit {0}) Why) → GivesState items (map frame_words r.closed) r.open_part line p o → GivesLine items r line (record q { play = p }) o
      by (Err w) gives = rw (is_at code.States e, other, plain, named true free, gives) refl
      by (Ok u) gives = (record r { open_part = gives.0 }, (rw (is_at code.States e, other, plain, named true free, gives.1.0) refl, given_more code.States p gives.0 e tt (claims_there code.States e) gives.1.1))

  -- ---- a frame

  -- what closing the open frame gives
  abbrev pub Closes : WordPlay → Type 0
  Closes p = (frames : List FrameWords) (here : FrameWords) → Plays q.play.items frames here q.play → length frames < 2 ^ 62 → Plays q.play.items (frames ++ here ∷ []) nothing_given p

  closed_plays : (p : WordPlay) → old.place ≡ code.Frame → length r.closed < 2 ^ 62 → Closes p → Plays items (map frame_words (r.closed ++ record { states = r.states; inputs = r.open_part } ∷ [])) nothing_given p
  closed_plays p e few clause =
      let plays = plays_at code.Frame e in
      subst (λ (l : List FrameWords). Plays items l nothing_given p) (sym (map-append frame_words r.closed (record { states = r.states; inputs = r.open_part } ∷ [])))
      (subst (λ (l : List Item). Plays l (map frame_words r.closed) (here_of r InFrame) q.play → Plays l (map frame_words r.closed ++ here_of r InFrame ∷ []) nothing_given p) plays.items_are
      (λ now. clause (map frame_words r.closed) (here_of r InFrame) now (omega (arith, few, length-map r.closed frame_words))) plays)

  pub next_frame : (p : WordPlay) → old.place ≡ code.Frame → opens_frame (suc (length r.closed)) line ≡ true → length r.closed < 2 ^ 62 → Closes p → Passes items r line (record q { play = p })
  unfolding admit
  next_frame p e is few clause = (frame_closed InFrame r, (rw (is_at code.Frame e, is) refl, record { free = reads.free; many = reads.many; place = ap (λ (p : WordReader). place_of p.place) same ∙ ap place_of e; said = tt; claims = claims_there code.Frame e; play = closed_plays p e few clause }))

  pub next_states : (p : WordPlay) → old.place ≡ code.Frame → opens_frame (suc (length r.closed)) line ≡ false → (opens_states (suc (length r.closed)) line && q.has_free) ≡ true → length r.closed < 2 ^ 62 → Closes p
      → Passes items r line (record q { play = p; place = code.States })
  unfolding admit
  next_states p e other is few clause =
      let some = ap (λ (b : Bool). opens_states (suc (length r.closed)) line && b) (sym reads.free) ∙ is in
      (frame_closed InStates r, (rw (is_at code.Frame e, other, some) refl, record { free = reads.free; many = reads.many; place = refl; said = tt; claims = claims_there code.Frame e; play = closed_plays p e few clause }))

  -- no line of states follows
  abbrev pub NoStates : Type 0
  NoStates = (opens_states (suc (length r.closed)) line && q.has_free) ≡ false

  pub the_end : (p : WordPlay) → old.place ≡ code.Frame → opens_frame (suc (length r.closed)) line ≡ false → NoStates → bytes_eq line (codes ".") ≡ true → length r.closed < 2 ^ 62 → Closes p
      → Passes items r line (record q { play = p; place = code.End })
  unfolding admit
  the_end p e other none is few clause =
      let no = ap (λ (b : Bool). opens_states (suc (length r.closed)) line && b) (sym reads.free) ∙ none in
      (frame_closed AtEnd r, (rw (is_at code.Frame e, other, no, is) refl, record { free = reads.free; many = reads.many; place = refl; said = tt; claims = claims_there code.Frame e; play = closed_plays p e few clause }))

  pub frame_refused : old.place ≡ code.Frame → opens_frame (suc (length r.closed)) line ≡ false → NoStates → bytes_eq line (codes ".") ≡ false → begins_part line ≡ true → admit (shape_of items) r line ≡ Err why.FrameOrder
  unfolding admit
  frame_refused e other none fails begins =
      let no = ap (λ (b : Bool). opens_states (suc (length r.closed)) line && b) (sym reads.free) ∙ none in
      rw (is_at code.Frame e, other, no, fails, begins) refl

  pub input_more : (p : WordPlay) (result : Result (Unit {0}) Why) → old.place ≡ code.Frame → opens_frame (suc (length r.closed)) line ≡ false → NoStates → bytes_eq line (codes ".") ≡ false → begins_part line ≡ false
      → ((frames : List FrameWords) (states : List (ℕ × ℕ)) (before : List Assignment) → Plays q.play.items frames (record { states = states; inputs = pairs_of before }) q.play → GivesInput q.play.items frames states before line p result)
      → GivesLine items r line (record q { play = p }) result
  unfolding admit
  input_more p result e other none fails plain clause = by result gives
    where
      gives : GivesInput items (map frame_words r.closed) (pairs_of (unwrap_or r.states [])) r.open_part line p result
      gives =
          let plays = plays_at code.Frame e in
          subst (λ (l : List Item). Plays l (map frame_words r.closed) (here_of r InFrame) q.play → GivesInput l (map frame_words r.closed) (pairs_of (unwrap_or r.states [])) r.open_part line p result) plays.items_are
          (clause (map frame_words r.closed) (pairs_of (unwrap_or r.states [])) r.open_part) plays

      no : (opens_states (suc (length r.closed)) line && has_free (shape_of items)) ≡ false
      no = ap (λ (b : Bool). opens_states (suc (length r.closed)) line && b) (sym reads.free) ∙ none

      by : (o : Result (Unit {0}) Why) → GivesInput items (map frame_words r.closed) (pairs_of (unwrap_or r.states [])) r.open_part line p o → GivesLine items r line (record q { play = p }) o
      by (Err w) told = rw (is_at code.Frame e, other, no, fails, plain, told) refl
      by (Ok u) told = (record r { open_part = told.0 }, (rw (is_at code.Frame e, other, no, fails, plain, told.1.0) refl, given_more code.Frame p told.0 e tt (claims_there code.Frame e) told.1.1))

  pub trailing_refused : old.place ≡ code.End → admit (shape_of items) r line ≡ Err why.Trailing
  unfolding admit
  trailing_refused e = rw (is_at code.End e) refl

-- ---- free states

pub free_index : (items : List Item) (i : ℕ) → i < length (places is_state 0 items) → is_free_index (shape_of items) i ≡ is_free_at items (slice_index (places is_state 0 items) i)
free_index items i h = ap (λ (l : List Bool). slice_index_or l i false) (sym (free_at_places items)) ∙ get_or-map (is_free_at items) (places is_state 0 items) i 0 false h

pub no_free_index : (items : List Item) (i : ℕ) → length (places is_state 0 items) ≤ i → is_free_index (shape_of items) i ≡ false
no_free_index items i h = ap (λ (l : List Bool). slice_index_or l i false) (sym (free_at_places items)) ∙ get_or_past (map (is_free_at items) (places is_state 0 items)) i false (omega (arith, length-map (places is_state 0 items) (is_free_at items), h))

-- one of the states is free, or none is
pub some_free : (items : List Item) (i : ℕ) → i < length (places is_state 0 items) → is_free_at items (slice_index (places is_state 0 items) i) ≡ true → has_free (shape_of items) ≡ true
some_free items i h is = ap (list_any (λ b. b)) (sym (free_at_places items)) ∙ list_any_at (λ b. b) (map (is_free_at items) (places is_state 0 items)) i false (omega (arith, length-map (places is_state 0 items) (is_free_at items), h)) (get_or-map (is_free_at items) (places is_state 0 items) i 0 false h ∙ is)

pub none_free : (items : List Item) → ((i : ℕ) → i < length (places is_state 0 items) → is_free_at items (slice_index (places is_state 0 items) i) ≡ false) → has_free (shape_of items) ≡ false
none_free items none = ap (list_any (λ b. b)) (sym (free_at_places items)) ∙ list_any_none (λ b. b) (map (is_free_at items) (places is_state 0 items)) (All-map (λ (b : Bool). b ≡ false) (is_free_at items) (places is_state 0 items) (All-from_get_or (λ k. is_free_at items k ≡ false) (places is_state 0 items) 0 none))

-- ---- before any line

plays_start : (items : List Item) (p : WordPlay) → IsStart items p → Plays items [] nothing_given p
plays_start items p h =
    record {
      items_are = h.items_are;
      run = ap (λ (r : Run). r.items) h.run;
      fit = (record { states = record { each = All-nil _; distinct = refl }; inputs = record { each = All-nil _; distinct = refl } }, All-nil _);
      states_flagged = h.states;
      inputs_flagged = h.inputs;
      settled = open_frame;
      ahead = p.run;
      goes = subst (λ (b : Bool). GoesOn b p.run p.run) (sym open_frame) refl;
      base = p.run.states;
      many = ap (λ (r : Run). length r.states) h.run ∙ length-map (ids_of is_state items) (first_word items);
      states = refl;
      inputs = ap (λ (r : Run). r.inputs) h.run;
      count = h.frames;
      steps = ap (λ (r : Run). r.steps) h.run ∙ no_steps (frame_steps items);
      traced = record { states = ap (λ (r : Run). r.states) h.run; breach = h.breach; rose = h.rose };
    }
  where
    open_frame : p.run.settled ≡ false
    open_frame = ap (λ (r : Run). r.settled) h.run

    no_steps : (n : ℕ) → 0 ≡ more_steps (0 * n) 0
    no_steps n =
        let none : 0 * n ≡ 0 = omega arith in
        rw none refl

pub reads_start : (items : List Item) (p : WordPlay) (s : ClaimScan) (flags : List Bool) (free : Bool) → IsStart items p → AreClaims s flags [] → length flags ≡ length (places is_bad 0 items) → free ≡ has_free (shape_of items)
    → ReadsWords items (record { play = p; place = code.Status; claims = s; claimed = flags; has_free = free }) nothing_read []
reads_start items p s flags free start are many is =
    record { free = is; many = many ∙ length-places is_bad 0 items; place = refl; said = record { closed = refl; states = refl; open_part = refl }; claims = are; play = plays_start items p start }
