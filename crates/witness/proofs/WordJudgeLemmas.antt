-- What a judge of witnesses over a model holds: what an admitted line changes, whether there is a claim, and what it judges of a text.
use Rattle.std.proofs.Common.{◌≡◌, ℕ, suc, ◌+◌, ◌<◌, ◌≤◌, nat_le, ◌^◌, Bool, true, false, not, cond, ◌&&◌, ◌||◌, List, [], ◌∷◌, ◌++◌, None, Result, Ok, Err, IfOk, codes, length, map, append_assoc, append-nil, length-append, refl, sym, ap, ap₂, subst, ◌∙◌, arith, inl, inr, Option}
use Rattle.std.specs.Str.{bytes_eq}
use Rattle.std.proofs.lemmas.Bool.{cases_Bool, eqb-true, false_from_ne_true}
use Rattle.std.proofs.lemmas.List.{length-map, map-append}
use Rattle.std.proofs.lemmas.Slice.Eq.{bytes_eq-Decides}
use Rattle.std.proofs.lemmas.Result.{IfOk-at_ok}
use Rattle.base.specs.Lines.{whole_lines, unfinished}
use Rattle.base.proofs.DecimalLemmas.{chosen, nothing}
use Rattle.btor2.specs.declared.item.Item.{Item}
use Rattle.witness.specs.declared.why.Why.{Why}
use Rattle.witness.specs.Texts.{Shape, Assignment, Parts, has_free, is_comment, shape_of, most_lines}
use Rattle.witness.proofs.WordPlayLemmas.{goes_steps, between_behind, word_is}
use Rattle.witness.specs.Readings.{Reading, so_far, one_more_line, next_line_of, next_line, lines_behind, lines_read, reading, is_nothing}
use Rattle.witness.specs.Admits.{claims_at, assignment_at, state_assignment_at, Place, AtStatus, AtClaims, AtParts, InStates, InFrame, AtEnd, Read, nothing_read, frame_closed, opens_frame, opens_states, begins_part, in_part, admit_at, admit, word_reader, is_at_end, witness_of}
use Rattle.btor2.specs.Reachability.{nodes_of, model_shows}
use Rattle.witness.specs.Fits.{first_unreached, AreClaimed, NoneIsSet, RisesAmong}
use Rattle.witness.specs.Judgements.{frame_words, makes_no_claim, FrameWords, words_of, Words, initial_words, given_words, given_frames, verdict, JudgesWords, first_of, first_different}
use Rattle.witness.specs.WordPlays.{nothing_given, is_between, steps_of, steps_taken, WordPlay, Plays, Traced, TracedBy, frames_alone, word_at}
use Rattle.witness.specs.ClosedWords.{closed_word_frames, ClosesFrame, ClosesAtMostOne, IsClosedTrace, last_word}
use Rattle.witness.specs.Stands.{IsOfLines}
use Rattle.witness.specs.declared.word_reader.Place.TheVariants as code
use Rattle.witness.specs.WordStands.{place_of, SaidAt, WordReader, ReadsWords, GivesLine, TakesLine, is_status, CountsWords, here_of, WordJudge, word_judging, StandsForWitness, JudgesLine, JudgesLines, ClaimsAt}
use Rattle.witness.proofs.TextEndLemmas.{whole_lines-line_end, unfinished-line_end}
use Rattle.witness.proofs.ReadingLemmas.{by_test, stopped, stays, holds_behind}
use Rattle.witness.proofs.StandsLemmas.{awaits, none_awaited, ClaimsMore, line_admitted, with_bytes, line_ended}
use Rattle.witness.proofs.KeptLineLemmas.{nothing_kept}
use Rattle.witness.proofs.WordReaderLemmas.{reads_of_other}
use Rattle.std.proofs.Math.Bool.{or-false}
use Rattle.btor2.specs.Items.{is_bad}
use Rattle.btor2.specs.Trace.{Frame, IsTrace}
use Rattle.witness.specs.declared.judgement.Judgement.{Judgement}
use Rattle.witness.proofs.FrameLemmas.{as_many_frames}
use Rattle.runs.specs.Run.{IsNow}
use Rattle.witness.proofs.ReadTextLemmas.{ended}
use Rattle.witness.specs.declared.why.Why.TheVariants as why
use Rattle.witness.proofs.StepWords.{after_claims, after_assignment}
use Rattle.witness.proofs.ShownLemmas.{words_verdict}

-- ---- what an admitted line changes

record Moves (r next : Read) : Type 0 where
  status : is_status next.place ≡ true → is_status r.place ≡ true
  frames : length next.closed ≤ length r.closed + 1
  closes : ClosesAtMostOne r next
  whole : next.place ≡ AtEnd → next.closed ≡ [] → ⊥

none_behind : (frames : List Parts) (last : Parts) → frames ++ last ∷ [] ≡ [] → ⊥
none_behind [] last e = cc
none_behind (x ∷ frames) last e = cc

-- no word is given behind a frame that is closed
nothing_here : (r : Read) (at : Place) → here_of (frame_closed at r) at ≡ nothing_given
nothing_here r AtStatus = refl
nothing_here r _ = refl

closes_frame : (r : Read) (at : Place) → ClosesFrame r (frame_closed at r)
closes_frame r at =
    let last : Parts = record { states = r.states; inputs = r.open_part } in
    record {
      parts = last;
      closed = refl;
      behind = ap₂ is_between (map-append frame_words r.closed (last ∷ [])) (nothing_here r at) ∙ between_behind (map frame_words r.closed) (frame_words last);
    }

-- to another place, with the same frames
moves_to : (r next : Read) (at : Place) → next.place ≡ at → is_status at ≡ false → (at ≡ AtEnd → ⊥) → next.closed ≡ r.closed → Moves r next
moves_to r next at there other inside same =
    record {
      status = λ e. absurd (cc (e, ap is_status there, other));
      frames = omega (arith, ap length same);
      closes = inl same;
      whole = λ e none. inside (sym there ∙ e);
    }

-- at the same place
stays_at : (r next : Read) → (r.place ≡ AtEnd → ⊥) → next.place ≡ r.place → next.closed ≡ r.closed → Moves r next
stays_at r next inside there same =
    record {
      status = λ e. sym (ap is_status there) ∙ e;
      frames = omega (arith, ap length same);
      closes = inl same;
      whole = λ e none. inside (sym there ∙ e);
    }

part_moves : (r : Read) (line : List ℕ) (o : Result (List Assignment) Why) → (r.place ≡ AtEnd → ⊥) → IfOk (in_part r line o) (Moves r)
part_moves r line o inside = by_test (Moves r) (begins_part line) _ _ (λ e. tt) (λ e. by o)
  where
    by : (o : Result (List Assignment) Why) → IfOk (after_assignment r o) (Moves r)
    by (Ok list) = stays_at r _ inside refl refl
    by (Err w) = tt

frame_moves : (r : Read) (at : Place) → is_status at ≡ false → Moves r (frame_closed at r)
frame_moves r at other =
    let last : Parts = record { states = r.states; inputs = r.open_part } in
    record { status = λ s. absurd (cc (s, other)); frames = omega (arith, length-append r.closed (last ∷ [])); closes = inr (closes_frame r at); whole = λ there. none_behind r.closed last }

line_moves : (shape : Shape) (r : Read) (line : List ℕ) (at : Place) → r.place ≡ at → IfOk (admit_at shape r line at) (Moves r)
line_moves shape r line AtStatus at =
    by_test (Moves r) (is_comment line) _ _ (λ e. stays_at r r (λ end. cc (at, end)) refl refl) (λ e. by_test (Moves r) (bytes_eq line (codes "sat")) _ _ (λ e. moves_to r _ AtClaims refl refl (λ e. cc) refl) (λ e. tt))
line_moves shape r line AtClaims at = by (claims_at shape.bads line)
  where
    by : (o : Result (List ℕ) Why) → IfOk (after_claims r o) (Moves r)
    by (Ok claims) = moves_to r _ AtParts refl refl (λ e. cc) refl
    by (Err w) = tt
line_moves shape r line AtParts at =
    by_test (Moves r) (opens_states 0 line) _ _ (λ e. moves_to r _ InStates refl refl (λ e. cc) refl) (λ e. by_test (Moves r) (opens_frame 0 line) _ _ (λ e. moves_to r _ InFrame refl refl (λ e. cc) refl) (λ e. tt))
line_moves shape r line InStates at =
    by_test (Moves r) (opens_frame (length r.closed) line) _ _ (λ e. moves_to r _ InFrame refl refl (λ e. cc) refl) (λ e. part_moves r line (state_assignment_at shape r.closed r.open_part line) (λ end. cc (at, end)))
line_moves shape r line InFrame at =
    by_test (Moves r) (opens_frame (suc (length r.closed)) line) _ _ (λ e. frame_moves r InFrame refl)
    (λ e. by_test (Moves r) (opens_states (suc (length r.closed)) line && has_free shape) _ _ (λ e. frame_moves r InStates refl)
    (λ e. by_test (Moves r) (bytes_eq line (codes ".")) _ _ (λ e. frame_moves r AtEnd refl) (λ e. part_moves r line (assignment_at shape.inputs r.open_part line) (λ end. cc (at, end)))))
line_moves shape r line AtEnd at = tt

admitted_moves : (shape : Shape) (r next : Read) (line : List ℕ) → admit shape r line ≡ Ok next → Moves r next
unfolding admit
admitted_moves shape r next line h = IfOk-at_ok (Moves r) h (line_moves shape r line r.place refl)

pub line_closes : (shape : Shape) (r next : Read) (line : List ℕ) → admit shape r line ≡ Ok next → ClosesAtMostOne r next
line_closes shape r next line h = (admitted_moves shape r next line h).closes

-- ---- whether there is a claim

abbrev says_none : List ℕ → Bool
says_none line = bytes_eq line (codes "unsat") || bytes_eq line (codes "unknown")

is_awaited : (at : Place) → is_status at ≡ true → at ≡ AtStatus
is_awaited AtStatus h = refl
is_awaited _ h = absurd cc

-- a comment says nothing of a claim
silent : (line : List ℕ) → is_comment line ≡ true → says_none line ≡ false
silent [] h = absurd cc
silent (b ∷ bs) h = subst (λ (x : ℕ). says_none (x ∷ bs) ≡ false) (sym (eqb-true b 59 h)) refl

abbrev status : Read → Bool
status r = is_status r.place

-- behind the status none is awaited
moved : (shape : Shape) (g : Reading Read) (lines : List (List ℕ)) → is_status g.read.place ≡ false → awaits status (lines_behind (word_reader shape) g lines) ≡ false
moved shape g lines e =
    none_awaited status (lines_behind (word_reader shape) g lines) (holds_behind (word_reader shape) (λ (n : ℕ) (r : Read). is_status r.place ≡ false) line_more g lines e)
  where
    line_more : (n : ℕ) (r next : Read) (line : List ℕ) → admit shape r line ≡ Ok next → is_status r.place ≡ false → is_status next.place ≡ false
    line_more n r next line is other = false_from_ne_true (is_status next.place) (λ s. absurd (cc ((admitted_moves shape r next line is).status s, other)))

moved_by : (shape : Shape) (n : ℕ) (r : Read) (lines : List (List ℕ)) (o : Result Read Why) → IfOk o (λ s. is_status s.place ≡ false)
    → awaits status (lines_behind (word_reader shape) (one_more_line (so_far n r) o) lines) ≡ false
moved_by shape n r lines (Ok next) behind = moved shape (so_far (n + 1) next) lines behind
moved_by shape n r lines (Err w) behind = ap (awaits status) (stays (word_reader shape) n r w lines)

-- a first line that is no comment
status_moves : (shape : Shape) (r : Read) (line : List ℕ) → r.place ≡ AtStatus → is_comment line ≡ false → IfOk (admit shape r line) (λ s. is_status s.place ≡ false)
unfolding admit
status_moves shape r line at other = rw (at, other) (by_test (λ s. is_status s.place ≡ false) (bytes_eq line (codes "sat")) _ _ (λ d. refl) (λ d. tt))

comment_stays : (shape : Shape) (r : Read) (line : List ℕ) → r.place ≡ AtStatus → is_comment line ≡ true → admit shape r line ≡ Ok r
unfolding admit
comment_stays shape r line at is = rw (at, is) refl

-- whether there is a claim, behind a line more
claim_more : (shape : Shape) (n : ℕ) (r : Read) (lines : List (List ℕ)) (line : List ℕ) → is_status r.place ≡ true
    → makes_no_claim n (lines ++ line ∷ []) ≡ (makes_no_claim n lines || (awaits status (lines_behind (word_reader shape) (so_far n r) lines) && says_none line))
unfolding next_line
claim_more shape n r [] line at =
    rw at (elim (nat_le most_lines n) as (λ b. cond b false (cond (is_comment line) false (says_none line)) ≡ ((not b && true) && says_none line)) [
      | true ↦ refl
      | false ↦
          elim (cases_Bool (is_comment line)) [
            | inl e ↦ rw e (sym (silent line e))
            | inr e ↦ rw e refl
          ]
    ])
claim_more shape n r (l ∷ lines) line at =
    elim (nat_le most_lines n) as (λ b. cond b false (cond (is_comment l) (makes_no_claim (n + 1) (lines ++ line ∷ [])) (says_none l))
    ≡ (cond b false (cond (is_comment l) (makes_no_claim (n + 1) lines) (says_none l)) || (awaits status (lines_behind (word_reader shape) (cond b (stopped n r why.TooLong) (one_more_line (so_far n r) (admit shape r l))) lines) && says_none line))) [
      | true ↦ sym (ap (λ (g : Reading Read). awaits status g && says_none line) (stays (word_reader shape) n r why.TooLong lines))
      | false ↦
          elim (cases_Bool (is_comment l)) [
            | inl e ↦ rw (e, comment_stays shape r l (is_awaited r.place at) e) (claim_more shape (n + 1) r lines line at)
            | inr e ↦
                let none : awaits status (lines_behind (word_reader shape) (one_more_line (so_far n r) (admit shape r l)) lines) ≡ false =
                moved_by shape n r lines (admit shape r l) (status_moves shape r l (is_awaited r.place at) e) in
                rw (e, none) (sym (or-false (says_none l)))
          ]
    ]

-- a line that says that there is no claim is no status of a witness
says_not : (line : List ℕ) → says_none line ≡ true → bytes_eq line (codes "sat") ≡ false
says_not line h = false_from_ne_true (bytes_eq line (codes "sat")) (λ e. absurd (cc (h, ap says_none ((bytes_eq-Decides line (codes "sat")).0 e))))

none_is_refused : (shape : Shape) (r : Read) (line : List ℕ) → r.place ≡ AtStatus → is_comment line ≡ false → says_none line ≡ true → admit shape r line ≡ Err why.BadHeader
unfolding admit
none_is_refused shape r line at other none = rw (at, other, says_not line none) refl

-- so nothing is read then
nothing_said : (shape : Shape) (n : ℕ) (r : Read) (lines : List (List ℕ)) → r.place ≡ AtStatus → makes_no_claim n lines ≡ true → (lines_behind (word_reader shape) (so_far n r) lines).read ≡ r
unfolding next_line
nothing_said shape n r [] at h = absurd cc
nothing_said shape n r (line ∷ lines) at h =
    elim (chosen (nat_le most_lines n) false (cond (is_comment line) (makes_no_claim (n + 1) lines) (says_none line)) true h) [
      | inl e ↦ absurd (cc (e.1))
      | inr e ↦
          elim (chosen (is_comment line) (makes_no_claim (n + 1) lines) (says_none line) true e.1) [
            | inl d ↦
                let next : next_line_of (word_reader shape) (so_far n r) line None ≡ so_far (n + 1) r = rw (e.0, comment_stays shape r line at d.0) refl in
                ap (λ (g : Reading Read). (lines_behind (word_reader shape) g lines).read) next ∙ nothing_said shape (n + 1) r lines at d.1
            | inr d ↦
                let next : next_line_of (word_reader shape) (so_far n r) line None ≡ stopped n r why.BadHeader = rw (e.0, none_is_refused shape r line at d.0 d.1) refl in
                ap (λ (g : Reading Read). (lines_behind (word_reader shape) g lines).read) next ∙ ap (λ (g : Reading Read). g.read) (stays (word_reader shape) n r why.BadHeader lines)
          ]
    ]

pub nothing_is_said : (shape : Shape) (text : List ℕ) → makes_no_claim 0 (whole_lines text) ≡ true → (reading (word_reader shape) text).read ≡ nothing_read
unfolding reading
nothing_is_said shape text h = nothing_said shape 0 nothing_read (whole_lines text) refl h

pub closes_nothing : (shape : Shape) (text : List ℕ) → makes_no_claim 0 (whole_lines text) ≡ true → closed_word_frames shape text ≡ 0
unfolding reading
closes_nothing shape text h = ap (λ (r : Read). length r.closed) (nothing_is_said shape text h)

-- ---- what is held behind a line

-- as many frames at most as lines, and behind the last line one at least
abbrev InFrames : ℕ → Read → Type 0
InFrames n r = (length r.closed ≤ n) × (r.place ≡ AtEnd → r.closed ≡ [] → ⊥)

pub in_frames : (shape : Shape) (lines : List (List ℕ)) → InFrames (lines_read (word_reader shape) lines).admitted (lines_read (word_reader shape) lines).read
in_frames shape lines = holds_behind (word_reader shape) InFrames line_more (so_far 0 (word_reader shape).nothing) lines (omega arith, λ e none. cc)
  where
    line_more : (n : ℕ) (r next : Read) (line : List ℕ) → admit shape r line ≡ Ok next → InFrames n r → InFrames (n + 1) next
    line_more n r next line is h =
        let moves = admitted_moves shape r next line is in
        let grown = moves.frames in
        let before = h.0 in
        (omega (arith, grown, before), moves.whole)

pub few_frames : (items : List Item) (lines : List (List ℕ)) (line : List ℕ) (j : WordJudge) → IsOfLines (word_judging items) j lines line → j.admitted < most_lines
    → length (lines_read (word_reader (shape_of items)) lines).read.closed < 2 ^ 62
few_frames items lines line j is few =
    let count = (in_frames (shape_of items) lines).0 in
    omega (arith, count, few, is.admitted)

pub claims_more : (items : List Item) → ClaimsMore (word_judging items)
claims_more items lines line = claim_more (shape_of items) 0 nothing_read lines line refl

-- behind the claims they are known
claims_known : (q : WordReader) (r : Read) (line : List ℕ) (at : Place) → SaidAt r at → ClaimsAt q r line at → (r.closed ≡ [] → ⊥) → AreClaimed q.claimed r.claims
claims_known q r line AtStatus said claims some = absurd (some said.closed)
claims_known q r line AtClaims said claims some = absurd (some said.closed)
claims_known q r line AtParts said claims some = claims
claims_known q r line InStates said claims some = claims
claims_known q r line InFrame said claims some = claims
claims_known q r line AtEnd said claims some = claims

pub counts_of : (items : List Item) (q : WordReader) (r : Read) (line : List ℕ) → ReadsWords items q r line → CountsWords items q r
counts_of items q r line reads =
    let many : length (map frame_words r.closed) ≡ length r.closed = length-map r.closed frame_words in
    let steps : reads.play.ahead.steps ≡ steps_taken q.play.items q.play.run = goes_steps q.play.items q.play.run reads.play.ahead (reads.play.run ∙ sym reads.play.items_are) reads.play.goes in
    record {
      items_are = reads.play.items_are;
      frames = reads.play.count ∙ many;
      steps = sym steps ∙ (reads.play.steps ∙ ap (steps_of items) many);
      plays = reads.play;
      claimed = claims_known q r line r.place reads.said reads.claims;
    }

-- where no frame is closed in the line of the claims
no_frame_yet : (r : Read) (at : Place) → at ≡ AtClaims → SaidAt r at → r.closed ≡ []
no_frame_yet r AtClaims e said = said.closed
no_frame_yet r AtStatus e said = said.closed
no_frame_yet r AtParts e said = said.closed
no_frame_yet r InStates e said = absurd cc
no_frame_yet r InFrame e said = absurd cc
no_frame_yet r AtEnd e said = absurd cc

-- behind a line that is refused the same is known: what is kept changes in the line of the claims alone
pub refused_counts : (items : List Item) (old new : WordReader) (r : Read) (line : List ℕ) → ReadsWords items old r line → new.play ≡ old.play → ((old.place ≡ code.Claims → ⊥) → new ≡ old) → CountsWords items new r
refused_counts items old new r line reads same alike =
    let was : CountsWords items old r = counts_of items old r line reads in
    record {
      items_are = ap (λ (p : WordPlay). p.items) same ∙ was.items_are;
      frames = ap (λ (p : WordPlay). p.frames) same ∙ was.frames;
      steps = subst (λ (p : WordPlay). steps_taken p.items p.run ≡ steps_of items (length r.closed)) (sym same) was.steps;
      plays = subst (Plays items (map frame_words r.closed) (here_of r r.place)) (sym same) was.plays;
      claimed = λ some.
          let other : old.place ≡ code.Claims → ⊥ = λ e. some (no_frame_yet r r.place (sym reads.place ∙ ap place_of e) reads.said) in
          subst (λ (q : WordReader). AreClaimed q.claimed r.claims) (sym (alike other)) (was.claimed some);
    }

-- behind a line that is given to the reader
pub given_line : (items : List Item) (lines : List (List ℕ)) (line taken : List ℕ) (j : WordJudge) (q : WordReader) (no_claim : Bool) → IsOfLines (word_judging items) j lines taken → j.refused ≡ None → j.admitted < most_lines
    → GivesLine items (lines_read (word_reader (shape_of items)) lines).read line q (Ok tt) → no_claim ≡ (j.no_claim || (is_status (place_of j.reader.place) && says_none line))
    → IsOfLines (word_judging items) (record j { reader = q; admitted = j.admitted + 1; no_claim = no_claim }) (lines ++ line ∷ []) []
given_line items lines line taken j q no_claim is fresh few gives claims =
    line_admitted (word_judging items) (claims_more items) lines line taken j is fresh few q gives.0 no_claim (is_status (place_of j.reader.place)) gives.1.0 gives.1.1 (counts_of items q gives.0 [] gives.1.1)
    (ap is_status (is.reads fresh).place) claims

-- behind a line that was taken at its place
pub line_taken : (items : List Item) (text : List ℕ) (j : WordJudge) (q : WordReader) (all rest : List ℕ) (taken : TakesLine j.reader q all rest) → j.refused ≡ None → j.admitted < most_lines → j.line ≡ [] → StandsForWitness items j text
    → StandsForWitness items (record j { reader = q; admitted = j.admitted + 1 }) (text ++ (taken.line ++ 10 ∷ []))
line_taken items text j q all rest taken fresh few none stands =
    let line : List ℕ = taken.line in
    let lines : List (List ℕ) = whole_lines text in
    let read : Read = (lines_read (word_reader (shape_of items)) lines).read in
    let empty : unfinished text ≡ [] = nothing (unfinished text) (sym (nothing_kept (unfinished text)) ∙ ap is_nothing (sym stands.line ∙ none)) in
    let reads : ReadsWords items j.reader read line = reads_of_other items read (unfinished text) j.reader j.reader refl (stands.lines.reads fresh) line taken.alone in
    let here : IsOfLines (word_judging items) j lines line = with_bytes (word_judging items) lines (unfinished text) line j j.reader j.line stands.lines stands.lines.counts (λ _. reads) in
    let gives : GivesLine items read line q (Ok tt) = taken.gives items read reads (few_frames items lines line j here few) in
    let silent : j.no_claim ≡ (j.no_claim || (is_status (place_of j.reader.place) && says_none line)) = sym (ap (λ (b : Bool). j.no_claim || (b && says_none line)) taken.behind ∙ or-false j.no_claim) in
    line_ended (word_judging items) (text ++ (line ++ 10 ∷ [])) (lines ++ line ∷ []) (record j { reader = q; admitted = j.admitted + 1 }) (whole_lines-line_end text line taken.whole ∙ ap (λ (l : List ℕ). lines ++ (l ++ line) ∷ []) empty)
    (unfinished-line_end text line) (given_line items lines line line j q j.no_claim here fresh few gives silent) none

-- ---- a whole witness

no_words : (frames : List Parts) → map frame_words frames ≡ [] → frames ≡ []
no_words [] e = refl
no_words (x ∷ frames) e = absurd cc

traced_by : (items : List Item) (base : List ℕ) (p : WordPlay) (frames : List FrameWords) (fs : List Frame) → (frames ≡ [] → ⊥) → TracedBy items base p frames
    → IsTrace items (initial_words items (frames_alone frames)) (map (given_words items) frames) fs → Traced items frames base p fs
traced_by items base p [] fs some by t = absurd (some refl)
traced_by items base p (x ∷ frames) fs some by t = by fs t

no_flag : NoneIsSet []
no_flag i = refl

module _ (items : List Item) (q : WordReader) (r : Read) (line : List ℕ) (reads : ReadsWords items q r line) (at : r.place ≡ AtEnd) (some : r.closed ≡ [] → ⊥) (fs : List Frame)
    (trace : IsTrace items (initial_words items (words_of (witness_of r))) (given_frames items (words_of (witness_of r))) fs) where
  abbrev w : Words
  w = words_of (witness_of r)

  plays : Plays items w.frames nothing_given q.play
  plays = subst (λ (p : Place). Plays items w.frames (here_of r p) q.play) at reads.play

  claimed : AreClaimed q.claimed r.claims
  claimed = subst (ClaimsAt q r line) at reads.claims

  traced : Traced items w.frames plays.base q.play fs
  traced = traced_by items plays.base q.play w.frames fs (λ e. some (no_words r.closed e)) plays.traced trace

  -- the first claim that is not reached
  unreached : (o : Option ℕ)
      → ((claims : List ℕ) (gs : List Frame) (none : List Bool) → AreClaimed q.claimed claims → NoneIsSet none → RisesAmong (nodes_of is_bad q.play.items) gs none q.play.rose → o ≡ first_unreached claims gs 0 (nodes_of is_bad q.play.items))
      → o ≡ first_unreached r.claims fs 0 (nodes_of is_bad items)
  unreached o says =
      subst (λ (l : List Item). RisesAmong (nodes_of is_bad l) fs [] q.play.rose → o ≡ first_unreached r.claims fs 0 (nodes_of is_bad l)) plays.items_are (λ rises. says r.claims fs [] claimed no_flag rises) (traced.rose [] no_flag)

  judged_whole : (o : Option ℕ) → o ≡ first_unreached r.claims fs 0 (nodes_of is_bad items) → first_of q.play.differs q.play.breach o q.play.frames ≡ verdict (first_different items (initial_words items w)) r.claims (length (nodes_of is_bad items)) (map (model_shows items) fs)
  judged_whole o e = rw (traced.differs, traced.breach, e, plays.count ∙ as_many_frames items w fs trace) (words_verdict items (first_different items (initial_words items w)) r.claims fs)

-- ---- the judgement

abbrev pub Says : List Item → Read → Judgement → Type 0
Says items r = JudgesWords items (words_of (witness_of r))

pub ended_at : (items : List Item) (text : List ℕ) (j old : WordJudge) → j ≡ old → StandsForWitness items old text → j.refused ≡ None → is_at_end (place_of j.reader.place) ≡ is_at_end (lines_read (word_reader (shape_of items)) (whole_lines text)).read.place
ended_at items text j old same was none = let stands = subst (λ (k : WordJudge). StandsForWitness items k text) (sym same) was in ap is_at_end (stands.lines.reads none).place

-- what is judged of a whole witness
pub whole_witness : (items : List Item) (text : List ℕ) (j old : WordJudge) → j ≡ old → (o : Option ℕ) → StandsForWitness items old text → j.refused ≡ None
    → ((claims : List ℕ) (gs : List Frame) (none : List Bool) → AreClaimed j.reader.claimed claims → NoneIsSet none → RisesAmong (nodes_of is_bad j.reader.play.items) gs none j.reader.play.rose
    → o ≡ first_unreached claims gs 0 (nodes_of is_bad j.reader.play.items))
    → is_at_end (lines_read (word_reader (shape_of items)) (whole_lines text)).read.place ≡ true
    → Says items (lines_read (word_reader (shape_of items)) (whole_lines text)).read (first_of j.reader.play.differs j.reader.play.breach o j.reader.play.frames)
whole_witness items text j old same o was none says done fs t =
    let stands = subst (λ (k : WordJudge). StandsForWitness items k text) (sym same) was in
    let r : Read = (lines_read (word_reader (shape_of items)) (whole_lines text)).read in
    let reads = stands.lines.reads none in
    let at : r.place ≡ AtEnd = ended r.place done in
    let some = (in_frames (shape_of items) (whole_lines text)).1 at in
    judged_whole items j.reader r (unfinished text) reads at some fs t o (unreached items j.reader r (unfinished text) reads at some fs t o says)

-- ---- the word of a node in the frame that was closed last

pub closed_word_is : (items : List Item) (text : List ℕ) (j : WordJudge) (fs : List Frame) (node : ℕ) (o : Option ℕ) → StandsForWitness items j text → IsClosedTrace items text fs
    → ((f : Frame) → (j.reader.play.run.settled ≡ true → IsNow j.reader.play.run f) → o ≡ cond j.reader.play.run.settled (word_at j.reader.play.items f node) None) → o ≡ last_word items text fs node
unfolding reading
closed_word_is items text j fs node o stands trace says =
    let r : Read = (lines_read (word_reader (shape_of items)) (whole_lines text)).read in
    word_is items (map frame_words r.closed) (here_of r r.place) j.reader.play fs node o stands.lines.counts.plays trace says

-- ---- lines in front of a text

pub no_lines : (j : WordJudge) (text : List ℕ) → JudgesLines j j text text
no_lines j text = record { front = []; is = refl; stands = λ items before stands. subst (StandsForWitness items j) (sym (append-nil before)) stands }

pub one_line : (old new : WordJudge) (text rest : List ℕ) → JudgesLine old new text rest → JudgesLines old new text rest
one_line old new text rest line = record { front = line.line ++ 10 ∷ []; is = line.is; stands = line.stands }

pub lines_after : (old mid new : WordJudge) (text behind rest : List ℕ) → JudgesLines old mid text behind → JudgesLines mid new behind rest → JudgesLines old new text rest
lines_after old mid new text behind rest front more =
    record {
      front = front.front ++ more.front;
      is = front.is ∙ (ap (λ (l : List ℕ). front.front ++ l) more.is ∙ sym (append_assoc front.front more.front rest));
      stands = λ items before stands. subst (StandsForWitness items new) (append_assoc before front.front more.front) (more.stands items (before ++ front.front) (front.stands items before stands));
    }
