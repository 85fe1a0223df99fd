-- The closed frames of what goes on for a text, and those with a line more.
use Rattle.std.proofs.Common.{◌≡◌, ℕ, nat_eq, List, [], ◌∷◌, ◌++◌, Option, Some, None, Result, Ok, Err, map, length, append-nil, inl, inr, ◌⊎◌, refl, sym, ap, subst, ◌∙◌, arith, ◌<◌}
use Rattle.std.specs.List.{list_any}
use Rattle.std.proofs.lemmas.Bool.{cases_Bool}
use Rattle.std.proofs.lemmas.List.{length-map}
use Rattle.base.specs.Lines.{IsLine, text_of_lines, unfinished, whole_lines}
use Rattle.base.proofs.LineLemmas.{lines_are_lines, lines_of_text}
use Rattle.btor2.specs.declared.item.Item.{Item}
use Rattle.btor2.specs.Trace.{Frame, IsTrace}
use Rattle.witness.specs.declared.why.Why.{Why}
use Rattle.witness.specs.Texts.{Shape, Assignment, Parts, shape_of, most_lines}
use Rattle.witness.specs.Readings.{Reading, with_said, so_far, next_line, lines_behind, reading}
use Rattle.witness.specs.Admits.{Place, AtStatus, AtClaims, AtParts, InStates, InFrame, AtEnd, Read, nothing_read, may_name, admit, begins_part, word_reader}
use Rattle.witness.specs.ClosedWords.{word_reading, said_in, IsClosedTrace, closed_word_frames}
use Rattle.witness.specs.Judgements.{frame_words, initial_words, given_frames}
use Rattle.witness.specs.Reached.{word_claimed}
use Rattle.witness.specs.WordPlays.{frames_alone}
use Rattle.witness.proofs.GrowthLemmas.{Grows, Same, words_grow}
use Rattle.witness.proofs.ReadingLemmas.{line_admitted}
use Rattle.rejoin.specs.Pieces.{cut_shape, split_parts}
use Rattle.spread.specs.Spread.{IsShort}
use Rattle.spread.specs.Passing.{passing_at, passing_behind, passing_lines, passing_text}
use Rattle.spread.specs.Stands.{IsWideShape}
use Rattle.spread.proofs.AdmittedLemmas.{wide_is_small}
use Rattle.spread.proofs.AlikeLemmas.{split_read, said_in_states, anywhere, said_in_frame}
use Rattle.spread.proofs.AssignedLemmas.{plain_line, named_at}
use Rattle.spread.proofs.LineLemmas.{next_is, Passes, all_pass}
use Rattle.spread.proofs.SpreaderLemmas.{few, next_reading, next_passing, admitted_few}
use Rattle.spread.proofs.TextLemmas.{each_passing}

-- ---- what is read of a text

module _ (shape : Shape) (narrow : List Item) (text : List ℕ) (good : IsWideShape shape) (cut : shape_of narrow ≡ cut_shape shape) (short : IsShort text) where
  passes : Passes shape 0 nothing_read (word_reading shape text) (whole_lines text) (passing_lines shape (so_far 0 nothing_read) (whole_lines text))
  unfolding reading
  passes = let small = wide_is_small shape good in all_pass shape good small.states small.inputs 0 0 nothing_read (whole_lines text) (omega (arith, short)) (omega (arith, short)) refl

  -- over the fitted model the pieces of it are read
  pub pieces_read : said_in narrow (passing_text shape text) ≡ split_read shape (word_reading shape text).read
  unfolding reading
  pieces_read =
      ap (λ (s : Shape). (word_reading s (passing_text shape text)).read) cut
      ∙ ap (λ (ls : List (List ℕ)). (lines_behind (word_reader (cut_shape shape)) (so_far 0 nothing_read) ls).read)
      (lines_of_text (passing_lines shape (so_far 0 nothing_read) (whole_lines text)) (each_passing shape good (wide_is_small shape good) (so_far 0 nothing_read) (whole_lines text) (lines_are_lines text)))
      ∙ ap (λ (g : Reading Read). g.read) passes.is

  -- so as many frames are closed
  pub frames_alike : closed_word_frames (shape_of narrow) (passing_text shape text) ≡ length (word_reading shape text).read.closed
  frames_alike = ap (λ (r : Read). length r.closed) pieces_read ∙ length-map (word_reading shape text).read.closed (split_parts shape)

-- ---- a line more

-- a trace of these frames, whatever is claimed
abbrev pub IsTraceOf : List Item → List Parts → List Frame → Type 0
IsTraceOf items closed fs = IsTrace items (initial_words items (frames_alone (map frame_words closed))) (given_frames items (frames_alone (map frame_words closed))) fs

module _ (shape : Shape) (narrow : List Item) (text line : List ℕ) (good : IsWideShape shape) (cut : shape_of narrow ≡ cut_shape shape) (short : IsShort (text ++ (line ++ 10 ∷ []))) (is : IsLine line) (ended : unfinished text ≡ []) where
  abbrev whole : List ℕ
  whole = text ++ (line ++ 10 ∷ [])

  abbrev before : List ℕ
  before = passing_text shape text

  abbrev after : List ℕ
  after = passing_text shape whole

  abbrev now : Reading Read
  now = word_reading shape text

  abbrev next : Reading Read
  next = next_line (word_reader shape) now line

  abbrev Growth : List Frame → Type 0
  Growth fs = Grows (IsClosedTrace narrow before) (word_claimed narrow before) (word_claimed narrow after) (closed_word_frames (shape_of narrow) before) (closed_word_frames (shape_of narrow) after) fs

  -- the line closes no frame, and claims nothing
  record Stays (r s : Read) : Type 0 where
    closed : s.closed ≡ r.closed
    claims : s.claims ≡ r.claims

  nothing_more : Stays (said_in narrow before) (said_in narrow after) → (fs : List Frame) → IsClosedTrace narrow after fs → Growth fs
  nothing_more same fs t =
      Same (ap length same.closed) (subst (λ (l : List Parts). IsTraceOf narrow l fs) same.closed t) (inr (λ k. ap (λ (claims : List ℕ). list_any (λ c. nat_eq c k) claims) same.claims))

  -- an assignment, admitted or not
  assigned : now.refused ≡ None → (o : Result (List Assignment) Why) → admit shape now.read line ≡ with_said (λ (list : List Assignment). record now.read { open_part = list }) o → Stays now.read next.read
  assigned none o says = by o says
    where
      was : now ≡ so_far now.admitted now.read
      was = ap (λ (o : Option Why). record { admitted = now.admitted; read = now.read; refused = o }) none

      room : now.admitted < most_lines
      room = omega (arith, admitted_few shape narrow text line good cut short is ended, few shape narrow text line good cut short is ended)

      by : (o : Result (List Assignment) Why) → admit shape now.read line ≡ with_said (λ (list : List Assignment). record now.read { open_part = list }) o → Stays now.read next.read
      by (Ok list) says =
          let step = ap (λ (g : Reading Read). next_line (word_reader shape) g line) was ∙ line_admitted (word_reader shape) now.admitted now.read line (record now.read { open_part = list }) room says in
          record { closed = ap (λ (g : Reading Read). g.read.closed) step; claims = ap (λ (g : Reading Read). g.read.claims) step }
      by (Err w) says =
          let step = ap (λ (g : Reading Read). next_line (word_reader shape) g line) was ∙ next_is shape now.admitted now.read line w room says in
          record { closed = ap (λ (g : Reading Read). g.read.closed) step; claims = ap (λ (g : Reading Read). g.read.claims) step }

  -- it goes on as it stands, or is one
  goes_on : now.refused ≡ None → (at : Place) → now.read.place ≡ at → (passing_at shape at line ≡ line ∷ []) ⊎ Stays now.read next.read
  goes_on none AtStatus there = inl refl
  goes_on none AtClaims there = inl refl
  goes_on none AtParts there = inl refl
  goes_on none AtEnd there = inl refl
  goes_on none InStates there = elim (cases_Bool (begins_part line)) [ inl e ↦ inl (rw e refl) | inr e ↦ inr (assigned none (named_at (may_name shape now.read.closed) shape.states now.read.open_part line) (said_in_states shape now.read line there (plain_line line e))) ]
  goes_on none InFrame there = elim (cases_Bool (begins_part line)) [ inl e ↦ inl (rw e refl) | inr e ↦ inr (assigned none (named_at anywhere shape.inputs now.read.open_part line) (said_in_frame shape now.read line there (plain_line line e))) ]

  passing_is : after ≡ before ++ text_of_lines (passing_behind shape now.read.place line now.refused)
  passing_is = next_passing shape narrow text line good cut short is ended

  shorter : IsShort text
  shorter = omega (arith, few shape narrow text line good cut short is ended)

  -- the frames of what goes on: no more, or one
  pub frames_grow : (fs : List Frame) → IsClosedTrace narrow after fs → Growth fs
  frames_grow fs t = by now.refused refl
    where
      by_line : passing_at shape now.read.place line ≡ line ∷ [] → now.refused ≡ None → Growth fs
      by_line single none =
          let more : after ≡ before ++ (line ++ 10 ∷ []) = passing_is ∙ ap (λ (o : Option Why). before ++ text_of_lines (passing_behind shape now.read.place line o)) none ∙ ap (λ (ls : List (List ℕ)). before ++ text_of_lines ls) single ∙ ap (λ (l : List ℕ). before ++ l) (append-nil (line ++ 10 ∷ [])) in
          subst (λ (u : List ℕ). IsClosedTrace narrow u fs → Grows (IsClosedTrace narrow before) (word_claimed narrow before) (word_claimed narrow u) (closed_word_frames (shape_of narrow) before) (closed_word_frames (shape_of narrow) u) fs) (sym more) (words_grow narrow before line fs is) t

      by_assigned : Stays now.read next.read → Growth fs
      by_assigned same =
          let was = pieces_read shape narrow text good cut shorter in
          let is_read : said_in narrow after ≡ split_read shape next.read = pieces_read shape narrow whole good cut short ∙ ap (λ (g : Reading Read). split_read shape g.read) (next_reading shape narrow text line good cut short is ended) in
          nothing_more (record {
            closed = ap (λ (r : Read). r.closed) is_read ∙ ap (map (split_parts shape)) same.closed ∙ sym (ap (λ (r : Read). r.closed) was);
            claims = ap (λ (r : Read). r.claims) is_read ∙ same.claims ∙ sym (ap (λ (r : Read). r.claims) was);
          }) fs t

      by : (o : Option Why) → now.refused ≡ o → Growth fs
      by None none = elim (goes_on none now.read.place refl) [ inl single ↦ by_line single none | inr same ↦ by_assigned same ]
      by (Some w) e =
          let same : after ≡ before = passing_is ∙ ap (λ (o : Option Why). before ++ text_of_lines (passing_behind shape now.read.place line o)) e ∙ append-nil before in
          nothing_more (record { closed = ap (λ (u : List ℕ). (said_in narrow u).closed) same; claims = ap (λ (u : List ℕ). (said_in narrow u).claims) same }) fs t
