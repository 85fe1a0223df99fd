-- The text of a witness that tells values, as the text of the words by which it tells them.
use Rattle.std.proofs.Common.{◌≡◌, ℕ, suc, ◌+◌, ◌<◌, ◌≤◌, ◌^◌, ◌==◌, Bool, true, false, cond, List, [], ◌∷◌, ◌++◌, Option, Some, None, IfSome, codes, decimal, length, map, option_map, slice_index, refl, sym, ap, ap₂, subst, ◌∙◌, append_assoc, append-nil, arith}
use Rattle.std.specs.List.{AllByRecursion}
use Rattle.std.proofs.lemmas.Bool.{or_parts}
use Rattle.std.proofs.lemmas.List.{length-append}
use Rattle.std.proofs.lemmas.List.Elements.{recursion_from_All}
use Rattle.base.specs.Lines.{IsLine, text_of_lines}
use Rattle.base.proofs.DecimalLemmas.{decimal_without}
use Rattle.base.proofs.LineLemmas.{EachLine, lines_of_text, unfinished_of_text}
use Rattle.full.specs.Lines.{Sort}
use Rattle.witness.specs.Texts.{Shape, Assignment, Parts, Witness, IsAssignment, IsPart, IsFreePart, AreParts, AreFrames, IsWitness, assignment_line, binary, symbol_part, claims_line, states_lines, frame_lines, witness_lines, most_lines}
use Rattle.witness.specs.Admits.{begins_part}
use Rattle.witness.proofs.AssignmentLemmas.{claims_line_is_line}
use Rattle.witness.proofs.ReadLemmas.{frames_have_lines}
use Rattle.spread.specs.declared.spreader.Part.{Part}
use Rattle.spread.specs.declared.spreader.Part.TheVariants as part
use Rattle.spread.specs.Made.{lines_made}
use Rattle.spread.specs.Stands.{part_behind}
use Rattle.unfit.specs.Joined.{Fronts, Lined, is_told}
use Rattle.unfit.specs.Unfitted.{line_with, told_lines, states_lines_with, frame_lines_with}
use Rattle.fulljudge.specs.Shapes.{FullShape}
use Rattle.fulljudge.specs.Kept.{words_in}
use Rattle.fulljudge.specs.Lines.{line_in, line_in_part, word_line, words_text}
use Rattle.fullunfit.specs.Unfitted.{told_part, told_frames, told_witness}
use Rattle.fullunfit.proofs.TitleLemmas.{fronts_of, told_front}
use Rattle.fullunfit.proofs.ValueLineLemmas.{told_line, line_is_of_word, line_begins_none, told_line_is_line}

-- ---- lines that become others

stays_open : (p : Part) (line : List ℕ) → begins_part line ≡ false → part_behind p line ≡ p
stays_open p [] h = refl
stays_open p (b ∷ bs) h =
    let first = or_parts (b == 35) _ h in
    let rest = or_parts (b == 64) (b == 46) first.1 in
    rw (first.0, rest.0, rest.1) refl

each_append : (xs ys : List (List ℕ)) → EachLine xs → EachLine ys → EachLine (xs ++ ys)
each_append [] ys hx hy = hy
each_append (x ∷ xs) ys hx hy = (hx.0, each_append xs ys hx.1 hy)

module _ (full : FullShape) where
  abbrev make : Part → List ℕ → List ℕ
  make = line_in_part full

  -- lines become these of words, where one part is open before them and another behind them
  pub record Goes (p : Part) (lines of_words : List (List ℕ)) (q : Part) : Type 0 where
    pub become : (more : List (List ℕ)) → lines_made make p (lines ++ more) ≡ of_words ++ lines_made make q more
    pub each : EachLine lines

  none_goes : (p : Part) → Goes p [] [] p
  none_goes p = record { become = λ more. refl; each = tt }

  one_goes : (p q : Part) (line of_word : List ℕ) → make p line ≡ of_word → part_behind p line ≡ q → IsLine line → Goes p (line ∷ []) (of_word ∷ []) q
  one_goes p q line of_word makes opens is = record { become = λ more. ap₂ (λ (l : List ℕ) (r : Part). l ∷ lines_made make r more) makes opens; each = (is, tt) }

  both_go : (p q r : Part) (xs ys us vs : List (List ℕ)) → Goes p xs us q → Goes q ys vs r → Goes p (xs ++ ys) (us ++ vs) r
  both_go p q r xs ys us vs g h = record {
    become = λ more. ap (lines_made make p) (append_assoc xs ys more) ∙ g.become (ys ++ more) ∙ ap (λ (ls : List (List ℕ)). us ++ ls) (h.become more) ∙ sym (append_assoc us vs (lines_made make r more));
    each = each_append xs ys g.each h.each;
  }

  -- the lines of the words of a part
  module _ (p : Part) (sorts : List Sort) (widths : List ℕ) (makes : (line : List ℕ) → make p line ≡ line_in sorts line) (many : length widths < 2 ^ 64) (few : words_in sorts < 2 ^ 64) (leaves nodes : List ℕ) (f : ℕ) where
    abbrev fronts : Fronts
    fronts = fronts_of sorts leaves nodes

    abbrev line : Assignment → List ℕ
    line = line_with fronts f widths

    abbrev kept : List Assignment → List Assignment
    kept = told_part fronts f

    one_told : (a : Assignment) → IsAssignment widths a → is_told fronts f a.index ≡ true → Goes p (line a ∷ []) (assignment_line widths a ∷ []) p
    one_told a is told =
        let front = told_front sorts leaves nodes f a.index told in
        let none = line_begins_none sorts widths many few a is front.0 in
        subst (λ (l : List ℕ). Goes p (l ∷ []) (assignment_line widths a ∷ []) p) (ap (λ (start : List ℕ). (start ++ 32 ∷ binary (slice_index widths a.index) a.word) ++ symbol_part a.symbol) (sym front.1))
        (one_goes p p (told_line sorts widths a) (assignment_line widths a)
        (makes (told_line sorts widths a) ∙ ap (λ (b : Bool). cond b (told_line sorts widths a) (word_line sorts (told_line sorts widths a))) none ∙ line_is_of_word sorts widths many few a is front.0) (stays_open p (told_line sorts widths a) none)
        (told_line_is_line sorts widths many few a is front.0))

    list_goes : (list : List Assignment) → AllByRecursion (IsAssignment widths) list → Goes p (told_lines fronts f widths list) (map (assignment_line widths) (kept list)) p
    list_goes [] h = none_goes p
    list_goes (a ∷ list) h = by (is_told fronts f a.index) refl (list_goes list h.1)
      where
        by : (b : Bool) → is_told fronts f a.index ≡ b → Goes p (told_lines fronts f widths list) (map (assignment_line widths) (kept list)) p
            → Goes p (map line (cond b (a ∷ kept list) (kept list))) (map (assignment_line widths) (cond b (a ∷ kept list) (kept list))) p
        by true told rest = both_go p p p (line a ∷ []) (told_lines fronts f widths list) (assignment_line widths a ∷ []) (map (assignment_line widths) (kept list)) (one_told a h.0 told) rest
        by false told rest = rest

  -- a line that opens or ends a part stays
  mark_stays : (p : Part) (b : ℕ) (bs : List ℕ) → begins_part (b ∷ bs) ≡ true → make p (b ∷ bs) ≡ b ∷ bs
  mark_stays part.Outside b bs h = refl
  mark_stays part.States b bs h = ap (λ (t : Bool). cond t (b ∷ bs) (word_line full.states (b ∷ bs))) h
  mark_stays part.Inputs b bs h = ap (λ (t : Bool). cond t (b ∷ bs) (word_line full.inputs (b ∷ bs))) h

  -- ---- frames

  module _ (l : Lined) (leaves nodes : List ℕ) (states : l.states ≡ fronts_of full.states leaves nodes) (inputs : l.inputs ≡ fronts_of full.inputs [] []) (many_states : length l.wide.shape.states < 2 ^ 64) (many_inputs : length l.wide.shape.inputs < 2 ^ 64)
      (few_states : words_in full.states < 2 ^ 64) (few_inputs : words_in full.inputs < 2 ^ 64) where
    abbrev shape : Shape
    shape = l.wide.shape

    states_go : (p : Part) (k : ℕ) (o : Option (List Assignment)) → k < 2 ^ 64 → IfSome o (IsPart shape.states) → (q : Part) × Goes p (states_lines_with l.states shape.states k o) (states_lines shape.states k (option_map (told_part l.states k) o)) q
    states_go p k None lt is = (p, none_goes p)
    states_go p k (Some list) lt is = (
      part.States,
      both_go p part.States part.States ((35 ∷ decimal k) ∷ []) (told_lines l.states k shape.states list) ((35 ∷ decimal k) ∷ []) (map (assignment_line shape.states) (told_part l.states k list))
          (one_goes p part.States (35 ∷ decimal k) (35 ∷ decimal k) (mark_stays p 35 (decimal k) refl) refl (decimal_without 10 k (omega arith) lt))
          (subst (λ (f : Fronts). Goes part.States (told_lines f k shape.states list) (map (assignment_line shape.states) (told_part f k list)) part.States) (sym states)
          (list_goes part.States full.states shape.states (λ line. refl) many_states few_states leaves nodes k list (recursion_from_All (IsAssignment shape.states) list is.each))),
    )

    inputs_go : (k : ℕ) (list : List Assignment) → IsPart shape.inputs list → Goes part.Inputs (told_lines l.inputs k shape.inputs list) (map (assignment_line shape.inputs) (told_part l.inputs k list)) part.Inputs
    inputs_go k list is =
        subst (λ (f : Fronts). Goes part.Inputs (told_lines f k shape.inputs list) (map (assignment_line shape.inputs) (told_part f k list)) part.Inputs) (sym inputs)
        (list_goes part.Inputs full.inputs shape.inputs (λ line. refl) many_inputs few_inputs [] [] k list (recursion_from_All (IsAssignment shape.inputs) list is.each))

    frames_go : (p : Part) (k : ℕ) (frames : List Parts) → k + length frames ≤ 2 ^ 62 → AllByRecursion (AreParts shape (IsPart shape.states)) frames → (q : Part) × Goes p (frame_lines_with l k frames) (frame_lines shape k (told_frames l k frames)) q
    frames_go p k [] few all = (p, none_goes p)
    frames_go p k (parts ∷ more) few all =
        let lt : k < 2 ^ 64 = omega (arith, few) in
        let first = states_go p k parts.states lt all.0.states in
        let rest = frames_go part.Inputs (suc k) more (omega (arith, few)) all.1 in
        let here : List (List ℕ) = told_lines l.inputs k shape.inputs parts.inputs in
        let of_words : List (List ℕ) = map (assignment_line shape.inputs) (told_part l.inputs k parts.inputs) in
        let of_states : Option (List Assignment) = option_map (told_part l.states k) parts.states in
        let of_frames : List Parts = told_frames l (suc k) more in (
          rest.0,
          both_go p first.0 rest.0 (states_lines_with l.states shape.states k parts.states) ((64 ∷ decimal k) ∷ (here ++ frame_lines_with l (suc k) more)) (states_lines shape.states k of_states) ((64 ∷ decimal k) ∷ (of_words ++ frame_lines shape (suc k) of_frames)) first.1
              (both_go first.0 part.Inputs rest.0 ((64 ∷ decimal k) ∷ []) (here ++ frame_lines_with l (suc k) more) ((64 ∷ decimal k) ∷ []) (of_words ++ frame_lines shape (suc k) of_frames)
              (one_goes first.0 part.Inputs (64 ∷ decimal k) (64 ∷ decimal k) (mark_stays first.0 64 (decimal k) refl) refl (decimal_without 10 k (omega arith) lt))
              (both_go part.Inputs part.Inputs rest.0 here (frame_lines_with l (suc k) more) of_words (frame_lines shape (suc k) of_frames) (inputs_go k parts.inputs all.0.inputs) rest.1)),
        )

    -- ---- a whole witness

    -- its lines
    abbrev pub value_lines : Witness → List (List ℕ)
    value_lines v = codes "sat" ∷ claims_line v.claims ∷ (frame_lines_with l 0 v.frames ++ codes "." ∷ [])

    claims_stay : (claims : List ℕ) → part_behind part.Outside (claims_line claims) ≡ part.Outside
    claims_stay [] = refl
    claims_stay (i ∷ []) = refl
    claims_stay (i ∷ j ∷ more) = refl

    later_is_first : (frames : List Parts) → AllByRecursion (AreParts shape (IsFreePart shape)) frames → AllByRecursion (AreParts shape (IsPart shape.states)) frames
    later_is_first [] h = tt
    later_is_first (parts ∷ frames) h = (record { states = any parts.states h.0.states; inputs = h.0.inputs }, later_is_first frames h.1)
      where
        any : (o : Option (List Assignment)) → IfSome o (IsFreePart shape) → IfSome o (IsPart shape.states)
        any None is = tt
        any (Some list) is = is.part

    all_parts : (frames : List Parts) → AreFrames shape frames → AllByRecursion (AreParts shape (IsPart shape.states)) frames
    all_parts [] h = absurd h
    all_parts (first ∷ later) h = (h.0, later_is_first later (recursion_from_All (AreParts shape (IsFreePart shape)) later h.1))

    module _ (v : Witness) (bads : shape.bads < 2 ^ 64) (valid : IsWitness shape v) (few : length (witness_lines shape [] v) ≤ most_lines) where
      few_frames : 0 + length v.frames ≤ 2 ^ 62
      few_frames =
          let frames : List (List ℕ) = frame_lines shape 0 v.frames in omega (arith, few, length-append frames (codes "." ∷ []), frames_have_lines shape 0 v.frames)

      all_go : (q : Part) × Goes part.Outside (value_lines v) (witness_lines shape [] (told_witness l v)) q
      all_go =
          let frames = frames_go part.Outside 0 v.frames few_frames (all_parts v.frames valid.frames) in
          let behind : List (List ℕ) = frame_lines_with l 0 v.frames ++ codes "." ∷ [] in
          let of_words : List (List ℕ) = frame_lines shape 0 (told_frames l 0 v.frames) ++ codes "." ∷ [] in (
            part.Outside,
            both_go part.Outside part.Outside part.Outside (codes "sat" ∷ []) (claims_line v.claims ∷ behind) (codes "sat" ∷ []) (claims_line v.claims ∷ of_words) (one_goes part.Outside part.Outside (codes "sat") (codes "sat") refl refl refl)
                (both_go part.Outside part.Outside part.Outside (claims_line v.claims ∷ []) behind (claims_line v.claims ∷ []) of_words
                (one_goes part.Outside part.Outside (claims_line v.claims) (claims_line v.claims) refl (claims_stay v.claims) (claims_line_is_line shape.bads v.claims bads (recursion_from_All (λ i. i < shape.bads) v.claims valid.claims)))
                (both_go part.Outside frames.0 part.Outside (frame_lines_with l 0 v.frames) (codes "." ∷ []) (frame_lines shape 0 (told_frames l 0 v.frames)) (codes "." ∷ []) frames.1
                (one_goes frames.0 part.Outside (codes ".") (codes ".") (mark_stays frames.0 46 [] refl) refl refl))),
          )

      -- the text of words of the text of values is that of the words
      pub text_goes : words_text full (text_of_lines (value_lines v)) ≡ text_of_lines (witness_lines shape [] (told_witness l v))
      text_goes =
          let goes = all_go.1 in
          let lines : List (List ℕ) = value_lines v in
          ap₂ (λ (ls : List (List ℕ)) (behind : List ℕ). text_of_lines (lines_made make part.Outside ls) ++ behind) (lines_of_text lines goes.each) (unfinished_of_text lines)
          ∙ append-nil (text_of_lines (lines_made make part.Outside lines))
          ∙ ap text_of_lines (ap (lines_made make part.Outside) (sym (append-nil lines)) ∙ goes.become [] ∙ append-nil (witness_lines shape [] (told_witness l v)))
