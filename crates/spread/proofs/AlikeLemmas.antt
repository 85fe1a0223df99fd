-- A line and the lines that go on for it say the same over a model and over the one that it is fitted into.
use Rattle.std.proofs.Common.{◌≡◌, ℕ, suc, ◌+◌, ◌-◌, ◌<◌, ◌≤◌, ◌^◌, Bool, true, false, cond, ◌&&◌, List, [], ◌∷◌, ◌++◌, Option, Some, None, Result, Ok, Err, IfOk, codes, decimal, length, map, option_map, inl, inr, refl, sym, ap, ap₂, subst, ◌∙◌, arith}
use Rattle.std.specs.Str.{bytes_eq}
use Rattle.std.proofs.lemmas.Bool.{cases_Bool, lt-leb}
use Rattle.std.proofs.lemmas.List.{length-map, map-append}
use Rattle.std.proofs.lemmas.Result.{IfOk-at_ok}
use Rattle.witness.specs.declared.why.Why.{Why}
use Rattle.witness.specs.Texts.{Shape, Assignment, Parts, is_free_index, has_free, is_comment, most_lines}
use Rattle.witness.specs.Readings.{so_far, with_said, next_line, lines_behind}
use Rattle.witness.specs.Admits.{Place, AtStatus, AtClaims, AtParts, InStates, InFrame, AtEnd, Read, claims_at, assignment_at, may_name, state_assignment_at, begins_part, in_part, opens_frame, opens_states, frame_closed, admit_at, admit, word_reader}
use Rattle.witness.proofs.AssignmentLemmas.{assignment_is_line, state_assignment_is_line, IsPlain}
use Rattle.witness.proofs.ReadingLemmas.{by_test, stopped, line_admitted}
use Rattle.witness.proofs.StepWords.{after_assignment, after_claims, states_closed}
use Rattle.rejoin.specs.Pieces.{cut_shape, first_piece, split_part, split_parts}
use Rattle.spread.specs.Passing.{assigned_lines, passing_at}
use Rattle.spread.specs.Stands.{IsWideShape}
use Rattle.spread.proofs.WidthLemmas.{pieces, IsPieceOf, HaveBits, said_of_piece, said_of_some}
use Rattle.spread.proofs.PieceLemmas.{AreThere}
use Rattle.spread.proofs.AssignedLemmas.{plain_line, named_at, assigned_goes, Goes}

-- the widths of the words of an open part
abbrev pub widths_in : Shape → Place → List ℕ
widths_in shape InStates = shape.states
widths_in shape _ = shape.inputs

-- what is read over the fitted model
abbrev pub split_read : Shape → Read → Read
split_read shape r =
    record {
      place = r.place;
      claims = r.claims;
      closed = map (split_parts shape) r.closed;
      states = option_map (split_part shape.states) r.states;
      open_part = split_part (widths_in shape r.place) r.open_part;
    }

-- ---- the open part has words that are there

abbrev pub Opens : Shape → Read → Place → Type 0
Opens shape r InStates = AreThere shape.states r.open_part
Opens shape r InFrame = AreThere shape.inputs r.open_part
Opens shape r AtEnd = Unit {0}
Opens shape r _ = r.open_part ≡ []

there_more : (widths : List ℕ) (before : List Assignment) (a : Assignment) → AreThere widths before → a.index < length widths → AreThere widths (before ++ a ∷ [])
there_more widths [] a there is = (is, tt)
there_more widths (b ∷ before) a there is = (there.0, there_more widths before a there.1 is)

module _ (shape : Shape) (few_states : length shape.states < 2 ^ 64) (few_inputs : length shape.inputs < 2 ^ 64) where
  abbrev StaysOpen : Read → Type 0
  StaysOpen s = Opens shape s s.place

  line_opens : (r : Read) (line : List ℕ) (at : Place) → r.place ≡ at → Opens shape r at → IfOk (admit_at shape r line at) StaysOpen
  line_opens r line AtStatus there opened = by_test StaysOpen (is_comment line) _ _ (λ e. subst (Opens shape r) (sym there) opened) (λ e. by_test StaysOpen (bytes_eq line (codes "sat")) _ _ (λ d. opened) (λ d. tt))
  line_opens r line AtClaims there opened = by (claims_at shape.bads line)
    where
      by : (o : Result (List ℕ) Why) → IfOk (after_claims r o) StaysOpen
      by (Ok claims) = opened
      by (Err w) = tt
  line_opens r line AtParts there opened =
      by_test StaysOpen (opens_states 0 line) _ _ (λ e. subst (AreThere shape.states) (sym opened) tt) (λ e. by_test StaysOpen (opens_frame 0 line) _ _ (λ d. subst (AreThere shape.inputs) (sym opened) tt) (λ d. tt))
  line_opens r line InStates there opened =
      by_test StaysOpen (opens_frame (length r.closed) line) _ _ (λ e. tt) (λ e. by_test StaysOpen (begins_part line) _ _ (λ d. tt) (λ d. by (state_assignment_at shape r.closed r.open_part line) refl))
    where
      by : (o : Result (List Assignment) Why) → state_assignment_at shape r.closed r.open_part line ≡ o → IfOk (after_assignment r o) StaysOpen
      by (Ok list) h =
          let is = (state_assignment_is_line shape r.closed r.open_part line list few_states h).0 in
          subst (Opens shape (record r { open_part = list })) (sym there) (subst (AreThere shape.states) (sym is.all) (there_more shape.states r.open_part is.assignment opened is.valid.index))
      by (Err w) h = tt
  line_opens r line InFrame there opened =
      by_test StaysOpen (opens_frame (suc (length r.closed)) line) _ _ (λ e. tt)
      (λ e. by_test StaysOpen (opens_states (suc (length r.closed)) line && has_free shape) _ _ (λ d. tt)
      (λ d. by_test StaysOpen (bytes_eq line (codes ".")) _ _ (λ f. tt) (λ f. by_test StaysOpen (begins_part line) _ _ (λ g. tt) (λ g. by (assignment_at shape.inputs r.open_part line) refl))))
    where
      by : (o : Result (List Assignment) Why) → assignment_at shape.inputs r.open_part line ≡ o → IfOk (after_assignment r o) StaysOpen
      by (Ok list) h =
          let is = assignment_is_line shape.inputs r.open_part line list few_inputs h in
          subst (Opens shape (record r { open_part = list })) (sym there) (subst (AreThere shape.inputs) (sym is.all) (there_more shape.inputs r.open_part is.assignment opened is.valid.index))
      by (Err w) h = tt
  line_opens r line AtEnd there opened = tt

  pub admitted_opens : (r next : Read) (line : List ℕ) → admit shape r line ≡ Ok next → Opens shape r r.place → Opens shape next next.place
  unfolding admit
  admitted_opens r next line h opened = IfOk-at_ok StaysOpen h (line_opens r line r.place refl opened)

-- ---- a line that goes on as it stands

tested : {R S : Type 0} (f : R → S) (b : Bool) (x y : Result R Why) (u v : Result S Why) → (b ≡ true → u ≡ with_said f x) → (b ≡ false → v ≡ with_said f y) → cond b u v ≡ with_said f (cond b x y)
tested f true x y u v one other = one refl
tested f false x y u v one other = other refl

-- in a part it opens another or ends the text
abbrev pub PassesAt : Place → List ℕ → Type 0
PassesAt InStates line = begins_part line ≡ true
PassesAt InFrame line = begins_part line ≡ true
PassesAt _ line = Unit {0}

module _ (shape : Shape) (good : IsWideShape shape) where
  abbrev cut : Shape
  cut = cut_shape shape

  moves_on : (r : Read) (at : Place) → r.open_part ≡ [] → record (split_read shape r) { place = at } ≡ split_read shape (record r { place = at })
  moves_on r at none = rw none refl

  as_many : (r : Read) → length (map (split_parts shape) r.closed) ≡ length r.closed
  as_many r = length-map r.closed (split_parts shape)

  some_free : has_free cut ≡ has_free shape
  some_free = said_of_some shape.states shape.free good.free good.states

  closes : (r : Read) (at : Place) → r.place ≡ InFrame → frame_closed at (split_read shape r) ≡ split_read shape (frame_closed at r)
  closes r at there =
      let last : Parts = record { states = r.states; inputs = r.open_part } in
      let own : record { states = option_map (split_part shape.states) r.states; inputs = split_part (widths_in shape r.place) r.open_part } ≡ split_parts shape last = rw there refl in
      let all : map (split_parts shape) r.closed ++ record { states = option_map (split_part shape.states) r.states; inputs = split_part (widths_in shape r.place) r.open_part } ∷ [] ≡ map (split_parts shape) (r.closed ++ last ∷ []) =
      ap (λ (p : Parts). map (split_parts shape) r.closed ++ p ∷ []) own ∙ sym (map-append (split_parts shape) r.closed (last ∷ [])) in
      ap (λ (closed : List Parts). record { place = at; claims = r.claims; closed = closed; states = None; open_part = [] }) all

  passes_at : (r : Read) (line : List ℕ) (at : Place) → r.place ≡ at → Opens shape r at → PassesAt at line → admit_at cut (split_read shape r) line at ≡ with_said (split_read shape) (admit_at shape r line at)
  passes_at r line AtStatus there opened passes =
      tested (split_read shape) (is_comment line) _ _ _ _ (λ e. refl) (λ e. tested (split_read shape) (bytes_eq line (codes "sat")) _ _ _ _ (λ d. ap (λ (s : Read). Ok s) (moves_on r AtClaims opened)) (λ d. refl))
  passes_at r line AtClaims there opened passes = by (claims_at shape.bads line)
    where
      by : (o : Result (List ℕ) Why) → with_said (λ (claims : List ℕ). record (split_read shape r) { place = AtParts; claims = claims }) o ≡ with_said (split_read shape) (with_said (λ (claims : List ℕ). record r { place = AtParts; claims = claims }) o)
      by (Ok claims) = ap (λ (s : Read). Ok (record s { claims = claims })) (moves_on r AtParts opened)
      by (Err w) = refl
  passes_at r line AtParts there opened passes =
      tested (split_read shape) (opens_states 0 line) _ _ _ _ (λ e. ap (λ (s : Read). Ok s) (moves_on r InStates opened))
      (λ e. tested (split_read shape) (opens_frame 0 line) _ _ _ _ (λ d. ap (λ (s : Read). Ok s) (moves_on r InFrame opened)) (λ d. refl))
  passes_at r line InStates there opened passes =
      ap (λ (n : ℕ). cond (opens_frame n line) (Ok (states_closed (split_read shape r))) (in_part (split_read shape r) line (state_assignment_at cut (map (split_parts shape) r.closed) (split_read shape r).open_part line))) (as_many r)
      ∙ tested (split_read shape) (opens_frame (length r.closed) line) _ _ _ _ (λ e. rw there refl) (λ e. rw passes refl)
  passes_at r line InFrame there opened passes =
      let part : Result Read Why = in_part (split_read shape r) line (assignment_at cut.inputs (split_read shape r).open_part line) in
      ap₂ (λ (n : ℕ) (b : Bool). cond (opens_frame (suc n) line) (Ok (frame_closed InFrame (split_read shape r))) (cond (opens_states (suc n) line && b) (Ok (frame_closed InStates (split_read shape r))) (cond (bytes_eq line (codes ".")) (Ok (frame_closed AtEnd (split_read shape r))) part))) (as_many r) some_free
      ∙ tested (split_read shape) (opens_frame (suc (length r.closed)) line) _ _ _ _ (λ e. ap (λ (s : Read). Ok s) (closes r InFrame there))
      (λ e. tested (split_read shape) (opens_states (suc (length r.closed)) line && has_free shape) _ _ _ _ (λ d. ap (λ (s : Read). Ok s) (closes r InStates there))
      (λ d. tested (split_read shape) (bytes_eq line (codes ".")) _ _ _ _ (λ f. ap (λ (s : Read). Ok s) (closes r AtEnd there)) (λ f. rw passes refl)))
  passes_at r line AtEnd there opened passes = refl

-- ---- a line of an open part

pub said_in_states : (shape : Shape) (r : Read) (line : List ℕ) → r.place ≡ InStates → IsPlain line
    → admit shape r line ≡ with_said (λ (list : List Assignment). record r { open_part = list }) (named_at (may_name shape r.closed) shape.states r.open_part line)
unfolding admit state_assignment_at
said_in_states shape r line there plain = rw (there, plain.no_frame (decimal (length r.closed)), plain.no_part) refl

-- an input may stand anywhere
abbrev pub anywhere : Option ℕ → Bool
anywhere index = true

pub said_in_frame : (shape : Shape) (r : Read) (line : List ℕ) → r.place ≡ InFrame → IsPlain line
    → admit shape r line ≡ with_said (λ (list : List Assignment). record r { open_part = list }) (named_at anywhere shape.inputs r.open_part line)
unfolding admit
said_in_frame shape r line there plain =
    let k : ℕ = suc (length r.closed) in
    rw (there, plain.no_frame (decimal k), plain.no_states (decimal k), plain.no_end, plain.no_part) refl

-- ---- one line

-- what is read behind the lines that go on for a line is what the line gives: more lines are admitted, or the first of them is refused for its why
abbrev pub GoesAlike : Shape → ℕ → Read → List (List ℕ) → Result Read Why → Type 0
GoesAlike shape k r lines (Ok next) =
    (c : ℕ) × ((0 < c) × ((c ≤ 16384) × (lines_behind (word_reader (cut_shape shape)) (so_far k (split_read shape r)) lines ≡ so_far (k + c) (split_read shape next))))
GoesAlike shape k r lines (Err w) = lines_behind (word_reader (cut_shape shape)) (so_far k (split_read shape r)) lines ≡ stopped k (split_read shape r) w

module _ (shape : Shape) (good : IsWideShape shape) (k : ℕ) (r : Read) (line : List ℕ) (room : k + 16384 ≤ most_lines) where
  abbrev narrow : Shape
  narrow = cut_shape shape

  as_it_stands : (o : Result Read Why) → admit narrow (split_read shape r) line ≡ with_said (split_read shape) o → GoesAlike shape k r (line ∷ []) o
  unfolding next_line
  as_it_stands (Ok next) h = (1, (omega arith, (omega arith, line_admitted (word_reader narrow) k (split_read shape r) line (split_read shape next) (omega (arith, room)) h)))
  as_it_stands (Err w) h = rw (lt-leb most_lines k (omega (arith, room)), h) refl

  passes : Opens shape r r.place → PassesAt r.place line → GoesAlike shape k r (line ∷ []) (admit shape r line)
  unfolding admit
  passes opened is = as_it_stands (admit shape r line) (passes_at shape good r line r.place refl opened is)

  -- a part is read at places that go by what was read of it
  abbrev in_part_of : List Assignment → Read
  in_part_of list = record (split_read shape r) { open_part = list }

  module _ (widths : List ℕ) (have : HaveBits widths) (small : length (pieces widths) < 2 ^ 64) (may may' : Option ℕ → Bool) (own : widths_in shape r.place ≡ widths)
      (same : (i j : ℕ) → i < length widths → IsPieceOf widths i j → may' (Some j) ≡ may (Some i))
      (says : (before : List Assignment) (line : List ℕ) → begins_part line ≡ false → admit narrow (in_part_of before) line ≡ with_said in_part_of (named_at may' (pieces widths) before line)) where
    put : (list : List Assignment) → in_part_of (split_part widths list) ≡ split_read shape (record r { open_part = list })
    put list = ap (λ (l : List ℕ). in_part_of (split_part l list)) (sym own)

    by_part : (lines : List (List ℕ)) (o : Result (List Assignment) Why) → Goes widths have small may may' same narrow in_part_of says k r.open_part lines o → GoesAlike shape k r lines (with_said (λ (list : List Assignment). record r { open_part = list }) o)
    by_part lines (Ok list) (c, (some, (few, is))) =
        (c, (some, (few, ap (λ (s : Read). lines_behind (word_reader narrow) (so_far k s) lines) (sym (put r.open_part)) ∙ is ∙ ap (λ (s : Read). so_far (k + c) s) (put list))))
    by_part lines (Err w) is = ap (λ (s : Read). lines_behind (word_reader narrow) (so_far k s) lines) (sym (put r.open_part)) ∙ is ∙ ap (λ (s : Read). stopped k s w) (put r.open_part)

    part_goes : AreThere widths r.open_part → begins_part line ≡ false → admit shape r line ≡ with_said (λ (list : List Assignment). record r { open_part = list }) (named_at may widths r.open_part line)
        → GoesAlike shape k r (assigned_lines widths line (assignment_at widths [] line)) (admit shape r line)
    part_goes are plain is =
        let lines : List (List ℕ) = assigned_lines widths line (assignment_at widths [] line) in
        subst (GoesAlike shape k r lines) (sym is) (by_part lines (named_at may widths r.open_part line) (assigned_goes widths have small may may' same narrow in_part_of says k r.open_part room are line))

  -- a piece of a state may stand where the state may
  same_name : (closed : List Parts) (i j : ℕ) → i < length shape.states → IsPieceOf shape.states i j → may_name narrow (map (split_parts shape) closed) (Some j) ≡ may_name shape closed (Some i)
  same_name [] i j within is = refl
  same_name (x ∷ xs) i j within is =
      let first : ℕ = first_piece shape.states i in
      let place : j ≡ first + (j - first) = omega (arith, is.least) in
      ap (is_free_index narrow) place ∙ said_of_piece shape.states shape.free i (j - first) good.free within (omega (arith, is.least, is.most))

  in_states : r.place ≡ InStates → AreThere shape.states r.open_part → begins_part line ≡ false → GoesAlike shape k r (assigned_lines shape.states line (assignment_at shape.states [] line)) (admit shape r line)
  in_states there are plain =
      part_goes shape.states good.states good.few_states (may_name shape r.closed) (may_name narrow (map (split_parts shape) r.closed)) (ap (widths_in shape) there) (same_name r.closed)
      (λ before l h. said_in_states narrow (in_part_of before) l there (plain_line l h)) are plain (said_in_states shape r line there (plain_line line plain))

  in_frame : r.place ≡ InFrame → AreThere shape.inputs r.open_part → begins_part line ≡ false → GoesAlike shape k r (assigned_lines shape.inputs line (assignment_at shape.inputs [] line)) (admit shape r line)
  in_frame there are plain =
      part_goes shape.inputs good.inputs good.few_inputs anywhere anywhere (ap (widths_in shape) there) (λ i j within is. refl)
      (λ before l h. said_in_frame narrow (in_part_of before) l there (plain_line l h)) are plain (said_in_frame shape r line there (plain_line line plain))

  at_place : (at : Place) → r.place ≡ at → Opens shape r at → GoesAlike shape k r (passing_at shape at line) (admit shape r line)
  at_place AtStatus there opened = passes (subst (Opens shape r) (sym there) opened) (subst (λ (p : Place). PassesAt p line) (sym there) tt)
  at_place AtClaims there opened = passes (subst (Opens shape r) (sym there) opened) (subst (λ (p : Place). PassesAt p line) (sym there) tt)
  at_place AtParts there opened = passes (subst (Opens shape r) (sym there) opened) (subst (λ (p : Place). PassesAt p line) (sym there) tt)
  at_place AtEnd there opened = passes (subst (Opens shape r) (sym there) opened) (subst (λ (p : Place). PassesAt p line) (sym there) tt)
  at_place InStates there opened =
      elim (cases_Bool (begins_part line)) [
        | inl e ↦ rw e (passes (subst (Opens shape r) (sym there) opened) (subst (λ (p : Place). PassesAt p line) (sym there) e))
        | inr e ↦ rw e (in_states there opened e)
      ]
  at_place InFrame there opened =
      elim (cases_Bool (begins_part line)) [
        | inl e ↦ rw e (passes (subst (Opens shape r) (sym there) opened) (subst (λ (p : Place). PassesAt p line) (sym there) e))
        | inr e ↦ rw e (in_frame there opened e)
      ]

  pub line_goes : Opens shape r r.place → GoesAlike shape k r (passing_at shape r.place line) (admit shape r line)
  line_goes opened = at_place r.place refl opened
