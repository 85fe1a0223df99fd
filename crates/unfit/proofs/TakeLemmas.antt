-- A line that is admitted: what is told by it, and what is put for it.
use Rattle.std.proofs.Common.{◌≡◌, ℕ, suc, ◌+◌, ◌<◌, ◌^◌, Bool, true, false, not, ◌&&◌, List, [], ◌∷◌, ◌++◌, Option, Some, Result, Ok, Err, IfOk, codes, decimal, length, option_map, refl, sym, ap, ap₂, subst, ◌∙◌, append_assoc, append-nil, arith}
use Rattle.std.specs.Str.{bytes_eq}
use Rattle.std.proofs.lemmas.Bool.{and_parts}
use Rattle.std.proofs.lemmas.Result.{IfOk-at_ok}
use Rattle.std.proofs.lemmas.Slice.Eq.{bytes_eq-Decides}
use Rattle.base.specs.Lines.{text_of_lines}
use Rattle.btor2.specs.declared.item.Item.{Item}
use Rattle.btor2.specs.Check.{IsWellFormed}
use Rattle.btor2.specs.Items.{is_input, is_state}
use Rattle.btor2.specs.declared.item.Body.{Body}
use Rattle.btor2.specs.Lists.{places, of_kind}
use Rattle.btor2.specs.Trace.{bits_of}
use Rattle.std.proofs.lemmas.List.{length-map}
use Rattle.btor2.specs.Symbols.{is_comment}
use Rattle.runs.proofs.RankLemmas.{length-places}
use Rattle.witness.specs.declared.why.Why.{Why}
use Rattle.witness.specs.Texts.{Shape, has_free, Assignment, Parts, claims_line, shape_of, widths_of}
use Rattle.witness.specs.Admits.{Place, AtStatus, AtClaims, AtParts, InStates, InFrame, AtEnd, Read, begins_part, opens_frame, opens_states, assignment_at, state_assignment_at, claims_at, frame_closed, admit_at, admit}
use Rattle.witness.specs.Judgements.{pairs_of}
use Rattle.witness.specs.KeptLines.{AreNarrow}
use Rattle.witness.proofs.AssignmentLemmas.{IsAssigned, assignment_is_line, state_assignment_is_line}
use Rattle.witness.proofs.ClaimLemmas.{claims_are_line}
use Rattle.witness.proofs.FitLemmas.{shape_is_small}
use Rattle.witness.proofs.ReadLemmas.{IsSmall, parts_of, was_false}
use Rattle.witness.proofs.ReadingLemmas.{by_test}
use Rattle.witness.proofs.ShapeLemmas.{widths_small}
use Rattle.witness.proofs.StepWords.{after_assignment, after_claims, states_closed}
use Rattle.unfit.specs.declared.told_pieces.Piece.{Piece}
use Rattle.unfit.specs.declared.frame.OpenPart.{OpenPart}
use Rattle.unfit.specs.declared.frame.OpenPart.TheVariants as part
use Rattle.unfit.specs.Joined.{Wide, Lined, join_frames, join_states, join_inputs, join_parts, pieces_from, state_words, input_words}
use Rattle.unfit.specs.Unfitted.{told_lines, states_lines_with, frame_lines_with, said_lines_with, join_read}
use Rattle.unfit.specs.Steps.{Frame, HoldsAt, part_at, opened_by, told_at, told_frame, untold, part_text, open_text, text_of_line, closed_frame, keeps, TellsLine, TakesAdmitted}
use Rattle.unfit.proofs.PieceLemmas.{told_more, all_untold}
use Rattle.unfit.proofs.FrameLemmas.{length-joined, joined_more, one_frame, text_put}

-- ---- words of the model have at most 64 bits

few_places : (kind : Body → Bool) (items : List Item) → length (widths_of kind items) < 2 ^ 64 → length (places kind 0 items) < 2 ^ 64
few_places kind items few = omega (arith, few, length-map {B = ℕ} (of_kind kind items) (λ x. bits_of items x.id), length-places kind 0 items)

states_narrow : (items : List Item) → IsWellFormed items → AreNarrow (shape_of items).states
states_narrow items w = widths_small is_state items w (few_places is_state items (shape_is_small items w).states)

inputs_narrow : (items : List Item) → IsWellFormed items → AreNarrow (shape_of items).inputs
inputs_narrow items w = widths_small is_input items w (few_places is_input items (shape_is_small items w).inputs)

-- ---- claims

claims_say : (claims : List ℕ) → (claims ≡ [] → ⊥) → (is_comment (claims_line claims) ≡ false) × (opened_by (claims_line claims) ≡ part.Nothing)
claims_say [] some = absurd (some refl)
claims_say (i ∷ []) some = (refl, refl)
claims_say (i ∷ j ∷ more) some = (refl, refl)

was_true : (b : Bool) → not b ≡ false → b ≡ true
was_true true h = refl
was_true false h = absurd (cc)

never : {A : Type 0} (b : Bool) → b ≡ true → b ≡ false → A
never b t f = absurd (cc)

-- ---- behind what was read at a place

module _ (u : Lined) (narrow : List Item) (well : IsWellFormed narrow) (r : Read) (line : List ℕ) (k : ℕ) (before after : Frame) (many : k ≡ length r.closed) where
  abbrev w : Wide
  w = u.wide

  abbrev shape : Shape
  shape = shape_of narrow

  abbrev joined : List Parts
  joined = join_frames w narrow 0 r.closed

  abbrev small : IsSmall shape
  small = shape_is_small narrow well

  abbrev said : Read → Place → List (List ℕ)
  said s at = said_lines_with u (join_read w narrow s) at

  abbrev SaysAt : Place → List ℕ → Read → Place → Type 0
  SaysAt at put s to = HoldsAt narrow s to after × (text_of_lines (said r at) ++ put ≡ text_of_lines (said s to))

  -- what is to be shown of what is read with the line
  abbrev Says : Place → List ℕ → Read → Type 0
  Says at put s = SaysAt at put s s.place

  is_line : (same : List ℕ) → bytes_eq line same ≡ true → line ≡ same
  is_line same e = (bytes_eq-Decides line same).0 e

  -- a line that begins so begins a part, and is no comment
  begins : (same : List ℕ) → begins_part same ≡ true → bytes_eq line same ≡ true → begins_part line ≡ true
  begins same is e = ap begins_part (is_line same e) ∙ is

  -- ---- a line that says nothing by itself

  module _ (tells : TellsLine before after line) where
    stays : before.part ≡ part.Nothing → (at : Place) → HoldsAt narrow r at before → r.place ≡ at → Says at [] r
    stays nothing at h there =
        subst (λ (to : Place). SaysAt at [] r to) (sym there)
        (subst (HoldsAt narrow r at) (sym (tells.1.0 nothing)) h, append-nil (text_of_lines (said r at)))

    told_state : (list : List Assignment) → r.place ≡ InStates → HoldsAt narrow r InStates before → IsAssigned shape.states r.open_part line list → Says InStates [] (record r { open_part = list })
    told_state list there h is =
        let a : Assignment = is.assignment in
        let now : after ≡ told_frame before part.States a.index a.word = tells.1.1 shape.states a (states_narrow narrow well) is.valid is.spelled ∙ ap (λ (p : OpenPart). told_frame before p a.index a.word) h.part in
        subst (λ (to : Place). SaysAt InStates [] (record r { open_part = list }) to) (sym there) (
          record {
            part = ap (λ (f : Frame). f.part) now ∙ h.part;
            states = ap (λ (f : Frame). f.states) now ∙ ap (λ (ps : List Piece). told_at ps a.index a.word) h.states ∙ told_more r.open_part a (state_words narrow) is.new ∙ ap (λ (l : List Assignment). pieces_from (pairs_of l) 0 (state_words narrow)) (sym is.all);
            inputs = ap (λ (f : Frame). f.inputs) now ∙ h.inputs;
            said = tt;
          },
          append-nil (text_of_lines (said r InStates)),
        )

    told_input : (list : List Assignment) → r.place ≡ InFrame → HoldsAt narrow r InFrame before → IsAssigned shape.inputs r.open_part line list → Says InFrame [] (record r { open_part = list })
    told_input list there h is =
        let a : Assignment = is.assignment in
        let now : after ≡ told_frame before part.Inputs a.index a.word = tells.1.1 shape.inputs a (inputs_narrow narrow well) is.valid is.spelled ∙ ap (λ (p : OpenPart). told_frame before p a.index a.word) h.part in
        subst (λ (to : Place). SaysAt InFrame [] (record r { open_part = list }) to) (sym there) (
          record {
            part = ap (λ (f : Frame). f.part) now ∙ h.part;
            states = ap (λ (f : Frame). f.states) now ∙ h.states;
            inputs = ap (λ (f : Frame). f.inputs) now ∙ ap (λ (ps : List Piece). told_at ps a.index a.word) h.inputs ∙ told_more r.open_part a (input_words narrow) is.new ∙ ap (λ (l : List Assignment). pieces_from (pairs_of l) 0 (input_words narrow)) (sym is.all);
            said = tt;
          },
          append-nil (text_of_lines (said r InFrame)),
        )

    kept : (at : Place) → r.place ≡ at → HoldsAt narrow r at before → keeps (part_at at) line ≡ true → IfOk (admit_at shape r line at) (Says at [])
    kept AtStatus there h keep =
        by_test (Says AtStatus []) (is_comment line) _ _ (λ e. stays h.part AtStatus h there) (λ e. never (is_comment line) keep e)
    kept AtClaims there h keep = by (claims_at shape.bads line) refl
      where
        by : (o : Result (List ℕ) Why) → claims_at shape.bads line ≡ o → IfOk (after_claims r o) (Says AtClaims [])
        by (Ok claims) is =
            let are = claims_are_line shape.bads line claims small.bads is in
            never (is_comment line) keep (ap is_comment are.spelled ∙ (claims_say claims are.some).0)
        by (Err why) is = tt
    kept AtParts there h keep =
        by_test (Says AtParts []) (opens_states 0 line) _ _ (λ e. never (is_comment line) keep (ap is_comment (is_line (35 ∷ decimal 0) e)))
        (λ e. by_test (Says AtParts []) (opens_frame 0 line) _ _ (λ d. never (is_comment line) keep (ap is_comment (is_line (64 ∷ decimal 0) d))) (λ d. tt))
    kept InStates there h keep =
        by_test (Says InStates []) (opens_frame (length r.closed) line) _ _ (λ e. never (begins_part line) (begins (64 ∷ decimal (length r.closed)) refl e) (was_false (begins_part line) keep))
        (λ e. by_test (Says InStates []) (begins_part line) _ _ (λ g. tt) (λ g. by (state_assignment_at shape r.closed r.open_part line) refl))
      where
        by : (o : Result (List Assignment) Why) → state_assignment_at shape r.closed r.open_part line ≡ o → IfOk (after_assignment r o) (Says InStates [])
        by (Ok list) is = told_state list there h (state_assignment_is_line shape r.closed r.open_part line list small.states is).0
        by (Err why) is = tt
    kept InFrame there h keep =
        by_test (Says InFrame []) (opens_frame (suc (length r.closed)) line) _ _ (λ e. never (begins_part line) (begins (64 ∷ decimal (suc (length r.closed))) refl e) plain)
        (λ e. by_test (Says InFrame []) (opens_states (suc (length r.closed)) line && has_free shape) _ _ (λ d. never (begins_part line) (begins (35 ∷ decimal (suc (length r.closed))) refl (and_parts (opens_states (suc (length r.closed)) line) (has_free shape) d).0) plain)
        (λ d. by_test (Says InFrame []) (bytes_eq line (codes ".")) _ _ (λ f. never (begins_part line) (begins (codes ".") refl f) plain)
        (λ f. by_test (Says InFrame []) (begins_part line) _ _ (λ g. tt) (λ g. by (assignment_at shape.inputs r.open_part line) refl))))
      where
        plain : begins_part line ≡ false
        plain = was_false (begins_part line) keep

        by : (o : Result (List Assignment) Why) → assignment_at shape.inputs r.open_part line ≡ o → IfOk (after_assignment r o) (Says InFrame [])
        by (Ok list) is = told_input list there h (assignment_is_line shape.inputs r.open_part line list small.inputs is)
        by (Err why) is = tt
    kept AtEnd there h keep = tt

  -- ---- a line that ends the part that is open

  module _ (put : List ℕ) (puts : put ≡ open_text u k before before.part ++ text_of_line line (opened_by line)) (opens : after ≡ record (closed_frame before before.part) { part = opened_by line }) where
    -- what is put for the line
    line_put : (next : OpenPart) → opened_by line ≡ next → put ≡ open_text u k before before.part ++ text_of_line line next
    line_put next opened = puts ∙ ap (λ (p : OpenPart). open_text u k before before.part ++ text_of_line line p) opened

    -- where no part was open, and these lines are put
    begins_at : (at : Place) (s : Read) (lines : List (List ℕ)) (next : OpenPart) → HoldsAt narrow r at before → part_at at ≡ part.Nothing → opened_by line ≡ next → text_of_line line next ≡ text_of_lines lines
        → (h : HoldsAt narrow s s.place (record before { part = opened_by line })) → said r at ++ lines ≡ said s s.place → Says at put s
    begins_at at s lines next h nothing opened are holds same =
        let none : before.part ≡ part.Nothing = h.part ∙ nothing in (
          subst (HoldsAt narrow s s.place) (sym (opens ∙ ap (λ (p : OpenPart). let f : Frame = record (closed_frame before p) { part = opened_by line } in f) none)) holds,
          text_put (said r at) [] lines (said s s.place) put (line_put next opened ∙ ap (λ (p : OpenPart). open_text u k before p ++ text_of_line line next) none ∙ are) same,
        )

    -- a line and its end
    one_line : line ++ 10 ∷ [] ≡ text_of_lines (line ∷ [])
    one_line = sym (append-nil (line ++ 10 ∷ []))

    -- the frame that is closed behind the others
    abbrev last_states : Option (List Assignment)
    last_states = option_map (join_states w narrow (length r.closed)) r.states

    abbrev last_inputs : List Assignment
    last_inputs = join_inputs w narrow (length r.closed) r.open_part

    abbrev closed : List Parts
    closed = joined ++ parts_of last_states last_inputs ∷ []

    closed_is : join_frames w narrow 0 (r.closed ++ parts_of r.states r.open_part ∷ []) ≡ closed
    closed_is =
        let count : 0 + length r.closed ≡ length r.closed = omega arith in
        joined_more w narrow 0 r.closed (parts_of r.states r.open_part) ∙ ap (λ (n : ℕ). joined ++ join_parts w narrow n (parts_of r.states r.open_part) ∷ []) count

    -- the lines of its inputs
    abbrev input_lines : List (List ℕ)
    input_lines = (64 ∷ decimal (length r.closed)) ∷ told_lines u.inputs (length r.closed) w.shape.inputs last_inputs

    -- behind the lines before them they are all lines of the frames
    filled : (frame_lines_with u 0 joined ++ states_lines_with u.states w.shape.states (length joined) last_states) ++ input_lines ≡ frame_lines_with u 0 closed
    filled =
        append_assoc (frame_lines_with u 0 joined) (states_lines_with u.states w.shape.states (length joined) last_states) input_lines
        ∙ ap (λ (n : ℕ). frame_lines_with u 0 joined ++ (states_lines_with u.states w.shape.states (length joined) last_states ++ ((64 ∷ decimal n) ∷ told_lines u.inputs n w.shape.inputs last_inputs))) (sym (length-joined w narrow 0 r.closed))
        ∙ sym (one_frame u joined last_states last_inputs)

    module _ (h : HoldsAt narrow r InFrame before) where
      now : after ≡ record { part = opened_by line; states = before.states; inputs = untold before.inputs }
      now = opens ∙ ap (λ (p : OpenPart). let f : Frame = record (closed_frame before p) { part = opened_by line } in f) h.part

      puts_inputs : (next : OpenPart) → opened_by line ≡ next → put ≡ text_of_lines input_lines ++ text_of_line line next
      puts_inputs next opened =
          line_put next opened ∙ ap (λ (p : OpenPart). open_text u k before p ++ text_of_line line next) h.part
          ∙ ap₂ (λ (n : ℕ) (ps : List Piece). ((64 ∷ (decimal n ++ 10 ∷ [])) ++ part_text u.inputs w.named w.names.inputs w.shape.inputs n ps) ++ text_of_line line next) many h.inputs

      inputs_untold : after.inputs ≡ pieces_from [] 0 (input_words narrow)
      inputs_untold = ap (λ (f : Frame). f.inputs) now ∙ ap untold h.inputs ∙ all_untold (pairs_of r.open_part) 0 (input_words narrow)

      states_same : after.states ≡ pieces_from [] 0 (state_words narrow)
      states_same = ap (λ (f : Frame). f.states) now ∙ h.states

      -- the frame is closed, and these lines are put behind it
      closes : (next : Place) (lines : List (List ℕ)) → opened_by line ≡ part_at next → text_of_line line (part_at next) ≡ text_of_lines lines → HoldsAt narrow (frame_closed next r) next after
          → codes "sat" ∷ claims_line r.claims ∷ (frame_lines_with u 0 closed ++ lines) ≡ said (frame_closed next r) next → Says InFrame put (frame_closed next r)
      closes next lines opened are holds same = (
        holds,
        text_put (said r InFrame) input_lines lines (said (frame_closed next r) next) put (puts_inputs (part_at next) opened ∙ ap (λ (l : List ℕ). text_of_lines input_lines ++ l) are)
            (ap (λ (ls : List (List ℕ)). codes "sat" ∷ claims_line r.claims ∷ ls) (sym (append_assoc (frame_lines_with u 0 joined ++ states_lines_with u.states w.shape.states (length joined) last_states) input_lines lines) ∙ ap (λ (ls : List (List ℕ)). ls ++ lines) filled) ∙ same),
      )

    put_at : (at : Place) → r.place ≡ at → HoldsAt narrow r at before → keeps (part_at at) line ≡ false → IfOk (admit_at shape r line at) (Says at put)
    put_at AtStatus there h keep =
        by_test (Says AtStatus put) (is_comment line) _ _ (λ e. never (is_comment line) e keep)
        (λ e. by_test (Says AtStatus put) (bytes_eq line (codes "sat")) _ _
        (λ d.
        let is = is_line (codes "sat") d in
        begins_at AtStatus (record r { place = AtClaims }) (line ∷ []) part.Nothing h refl (ap opened_by is) one_line
        (record { part = ap opened_by is; states = h.states; inputs = h.inputs; said = record { closed = h.said.closed; states = h.said.states; open_part = h.said.open_part } }) (ap (λ (l : List ℕ). l ∷ []) is)) (λ d. tt))
    put_at AtClaims there h keep = by (claims_at shape.bads line) refl
      where
        by : (o : Result (List ℕ) Why) → claims_at shape.bads line ≡ o → IfOk (after_claims r o) (Says AtClaims put)
        by (Ok claims) is =
            let are = claims_are_line shape.bads line claims small.bads is in
            let opened = ap opened_by are.spelled ∙ (claims_say claims are.some).1 in
            begins_at AtClaims (record r { place = AtParts; claims = claims }) (line ∷ []) part.Nothing h refl opened one_line
            (record { part = opened; states = h.states; inputs = h.inputs; said = record { closed = h.said.closed; states = h.said.states; open_part = h.said.open_part } }) (ap (λ (l : List ℕ). codes "sat" ∷ l ∷ []) are.spelled)
        by (Err why) is = tt
    put_at AtParts there h keep =
        by_test (Says AtParts put) (opens_states 0 line) _ _
        (λ e.
        let is = is_line (35 ∷ decimal 0) e in
        begins_at AtParts (record r { place = InStates }) [] part.States h refl (ap opened_by is) refl
        (record { part = ap opened_by is; states = h.states ∙ ap (λ (l : List Assignment). pieces_from (pairs_of l) 0 (state_words narrow)) (sym h.said.open_part); inputs = h.inputs; said = tt })
        (sym (ap (λ (c : List Parts). codes "sat" ∷ claims_line r.claims ∷ frame_lines_with u 0 (join_frames w narrow 0 c)) h.said.closed)))
        (λ e. by_test (Says AtParts put) (opens_frame 0 line) _ _
        (λ d.
        let is = is_line (64 ∷ decimal 0) d in
        begins_at AtParts (record r { place = InFrame }) [] part.Inputs h refl (ap opened_by is) refl
        (record { part = ap opened_by is; states = h.states; inputs = h.inputs ∙ ap (λ (l : List Assignment). pieces_from (pairs_of l) 0 (input_words narrow)) (sym h.said.open_part); said = tt })
        (sym (ap₂ (λ (c : List Parts) (o : Option (List Assignment)). codes "sat" ∷ claims_line r.claims ∷ (frame_lines_with u 0 (join_frames w narrow 0 c) ++ states_lines_with u.states w.shape.states (length (join_frames w narrow 0 c)) (option_map (join_states w narrow (length c)) o))) h.said.closed h.said.states)))
        (λ d. tt))
    put_at InStates there h keep =
        by_test (Says InStates put) (opens_frame (length r.closed) line) _ _
        (λ e.
        let is = is_line (64 ∷ decimal (length r.closed)) e in
        let now : after ≡ record { part = opened_by line; states = untold before.states; inputs = before.inputs } = opens ∙ ap (λ (p : OpenPart). let f : Frame = record (closed_frame before p) { part = opened_by line } in f) h.part in
        let list : List Assignment = join_states w narrow (length r.closed) r.open_part in
        let lines : List (List ℕ) = states_lines_with u.states w.shape.states (length r.closed) (Some list) in (
          record {
            part = ap (λ (f : Frame). f.part) now ∙ ap opened_by is;
            states = ap (λ (f : Frame). f.states) now ∙ ap untold h.states ∙ all_untold (pairs_of r.open_part) 0 (state_words narrow);
            inputs = ap (λ (f : Frame). f.inputs) now ∙ h.inputs;
            said = tt;
          },
          text_put (said r InStates) lines [] (said (states_closed r) InFrame) put
              (line_put part.Inputs (ap opened_by is) ∙ ap (λ (p : OpenPart). open_text u k before p ++ []) h.part ∙ ap₂ (λ (n : ℕ) (ps : List Piece). ((35 ∷ (decimal n ++ 10 ∷ [])) ++ part_text u.states w.named w.names.states w.shape.states n ps) ++ []) many h.states)
              (ap (λ (ls : List (List ℕ)). codes "sat" ∷ claims_line r.claims ∷ (frame_lines_with u 0 joined ++ ls)) (append-nil lines ∙ ap (λ (n : ℕ). states_lines_with u.states w.shape.states n (Some list)) (sym (length-joined w narrow 0 r.closed)))),
        ))
        (λ e. by_test (Says InStates put) (begins_part line) _ _ (λ g. tt) (λ g. never (begins_part line) (was_true (begins_part line) keep) g))
    put_at InFrame there h keep =
        by_test (Says InFrame put) (opens_frame (suc (length r.closed)) line) _ _
        (λ e.
        let opened = ap opened_by (is_line (64 ∷ decimal (suc (length r.closed))) e) in
        closes h InFrame [] opened refl (record { part = ap (λ (f : Frame). f.part) (now h) ∙ opened; states = states_same h; inputs = inputs_untold h; said = tt })
        (ap (λ (fs : List Parts). codes "sat" ∷ claims_line r.claims ∷ (frame_lines_with u 0 fs ++ [])) (sym closed_is)))
        (λ e. by_test (Says InFrame put) (opens_states (suc (length r.closed)) line && has_free shape) _ _
        (λ d.
        let opened = ap opened_by (is_line (35 ∷ decimal (suc (length r.closed))) (and_parts (opens_states (suc (length r.closed)) line) (has_free shape) d).0) in
        closes h InStates [] opened refl (record { part = ap (λ (f : Frame). f.part) (now h) ∙ opened; states = states_same h; inputs = inputs_untold h; said = tt })
        (ap (λ (ls : List (List ℕ)). codes "sat" ∷ claims_line r.claims ∷ ls) (append-nil (frame_lines_with u 0 closed) ∙ ap (frame_lines_with u 0) (sym closed_is))))
        (λ d. by_test (Says InFrame put) (bytes_eq line (codes ".")) _ _
        (λ f.
        let is = is_line (codes ".") f in
        closes h AtEnd (line ∷ []) (ap opened_by is) one_line (record { part = ap (λ (f : Frame). f.part) (now h) ∙ ap opened_by is; states = states_same h; inputs = inputs_untold h; said = tt })
        (ap₂ (λ (fs : List Parts) (l : List ℕ). codes "sat" ∷ claims_line r.claims ∷ (frame_lines_with u 0 fs ++ l ∷ [])) (sym closed_is) is))
        (λ f. by_test (Says InFrame put) (begins_part line) _ _ (λ g. tt) (λ g. never (begins_part line) (was_true (begins_part line) keep) g))))
    put_at AtEnd there h keep = tt

-- ---- the two together

pub keeps_line : (u : Lined) (k : ℕ) (line : List ℕ) (before after : Frame) → keeps before.part line ≡ true → TellsLine before after line → TakesAdmitted u k line before after []
unfolding admit
keeps_line u k line before after keep tells narrow r s well h many admitted =
    IfOk-at_ok (Says u narrow well r line k before after many r.place []) admitted
    (kept u narrow well r line k before after many tells r.place refl h (ap (λ (p : OpenPart). keeps p line) (sym h.part) ∙ keep))

pub puts_line : (u : Lined) (k : ℕ) (line : List ℕ) (before after : Frame) → keeps before.part line ≡ false → after ≡ record (closed_frame before before.part) { part = opened_by line } → TakesAdmitted u k line before after (open_text u k before before.part ++ text_of_line line (opened_by line))
unfolding admit
puts_line u k line before after keep opens narrow r s well h many admitted =
    IfOk-at_ok (Says u narrow well r line k before after many r.place (open_text u k before before.part ++ text_of_line line (opened_by line))) admitted
    (put_at u narrow well r line k before after many (open_text u k before before.part ++ text_of_line line (opened_by line)) refl opens r.place refl h (ap (λ (p : OpenPart). keeps p line) (sym h.part) ∙ keep))
