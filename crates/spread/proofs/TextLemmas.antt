-- A text is judged over a model as what goes on for it is over the model that it is fitted into.
use Rattle.std.proofs.Common.{◌≡◌, ℕ, zero, suc, ◌+◌, ◌/◌, ◌-◌, ◌<◌, ◌≤◌, ◌^◌, ◌==◌, ◌⊎◌, cond, min, Bool, true, false, List, [], ◌∷◌, ◌++◌, Option, Some, None, Result, Ok, Err, decimal, length, map, replicate, slice_index, append-nil, inl, inr, refl, sym, ap, subst, ◌∙◌, arith}
use Rattle.std.proofs.lemmas.Bool.{lt-leb, or_from}
use Rattle.std.proofs.lemmas.List.Folds.{list_any-append}
use Rattle.base.specs.Lines.{IsLine, whole_lines, unfinished}
use Rattle.base.proofs.LineLemmas.{EachLine, lines_are_lines, unfinished_is_line, whole_lines-lines, whole_lines-last, unfinished-lines, unfinished-last}
use Rattle.base.proofs.DecimalLemmas.{decimal_without}
use Rattle.btor2.specs.declared.item.Item.{Item}
use Rattle.witness.specs.declared.why.Why.{Why}
use Rattle.witness.specs.declared.why.Why.TheVariants as why
use Rattle.witness.specs.declared.judgement.Judgement.{Judgement}
use Rattle.witness.specs.declared.judgement.Judgement.TheVariants as judgement
use Rattle.witness.specs.Texts.{Shape, Assignment, assignment_line, symbol_part, IsAssignment, IsWitness, Witness, shape_of, most_lines}
use Rattle.witness.specs.Readings.{Reading, Fault, so_far, next_line, lines_read, reading, is_nothing, last_refusal, refused_for, read_or_fault, text_read}
use Rattle.witness.specs.Admits.{Place, AtStatus, AtClaims, AtParts, InStates, InFrame, AtEnd, Read, nothing_read, begins_part, assignment_at, word_reader, is_at_end, witness_of}
use Rattle.witness.specs.Judgements.{Violation, first_of, makes_no_claim, words_of, JudgesWords, JudgesAs, Judges}
use Rattle.witness.proofs.AssignmentLemmas.{assignment_line_is_line, assignment_is_line}
use Rattle.witness.proofs.ReadLemmas.{IsSmall}
use Rattle.witness.proofs.ReadTextLemmas.{read_says}
use Rattle.witness.proofs.ReadingLemmas.{Goes, On, Until, goes}
use Rattle.rejoin.specs.Pieces.{piece_count, cut_shape, first_piece, pieces_from, split_assignment, split_part, split_witness, joined_judgement}
use Rattle.spread.specs.Spread.{IsShort}
use Rattle.spread.specs.Stands.{IsWideShape}
use Rattle.spread.specs.Passing.{faulty_line, faulty_rest, index_named, assigned_lines, passing_in, passing_at, passing_behind, passing_lines, passing_text, told}
use Rattle.spread.proofs.WidthLemmas.{pieces, HaveBits, segment, within_pieces, few_pieces}
use Rattle.spread.proofs.PieceLemmas.{Stand, next_stands, lowest, lowest_is}
use Rattle.spread.proofs.AssignedLemmas.{HasNoIndex, HasIndex, line_index, is_faulty, none_same}
use Rattle.spread.proofs.LineLemmas.{split_reading, Passes, all_pass, claims_alike}

-- ---- no line that goes on has a byte 10

each_append : (front back : List (List ℕ)) → EachLine front → EachLine back → EachLine (front ++ back)
each_append [] back f b = b
each_append (line ∷ front) back f b = (f.0, each_append front back f.1 b)

each_piece : (all : List ℕ) (f m n x : ℕ) → length all < 2 ^ 64 → Stand all f m n x → EachLine (map (assignment_line all) (pieces_from f m x))
each_piece all f zero n x small s = tt
each_piece all f (suc m) n x small s =
    (assignment_line_is_line all (lowest f x) small (lowest_is all f m n x s), each_piece all (suc f) m (n - 64) (x / 2 ^ 64) small (next_stands all f m n x s))

-- what makes a line faulty
pub rest_is_line : (n : ℕ) (w : Why) → IsLine (symbol_part (faulty_rest n w))
rest_is_line n why.Undetermined = none_same (λ b. b == 10) 120 n refl
rest_is_line n why.BadSymbol = list_any-append (λ b. b == 10) (replicate n 48) (32 ∷ []) ∙ or_from _ _ (none_same (λ b. b == 10) 48 n refl) refl
rest_is_line n _ = refl

module _ (widths : List ℕ) (have : HaveBits widths) (few : length widths < 2 ^ 64) (small : length (pieces widths) < 2 ^ 64) where
  each_word : (a : Assignment) → IsAssignment widths a → EachLine (map (assignment_line (pieces widths)) (split_part widths (a ∷ [])))
  each_word a is =
      let s = segment widths a.index is.index in
      subst (λ (l : List Assignment). EachLine (map (assignment_line (pieces widths)) l)) (sym (append-nil (split_assignment widths a)))
      (each_piece (pieces widths) (first_piece widths a.index) (piece_count (slice_index widths a.index)) (slice_index widths a.index) a.word small (record { front = s.front; back = s.back; split = s.split; count = s.count; fits = is.word }))

  each_assigned : (line : List ℕ) → EachLine (assigned_lines widths line (assignment_at widths [] line))
  each_assigned line = by (assignment_at widths [] line) refl (line_index widths line)
    where
      by : (o : Result (List Assignment) Why) → assignment_at widths [] line ≡ o → HasNoIndex widths line ⊎ HasIndex widths line → EachLine (assigned_lines widths line o)
      by (Ok list) h index =
          let is = assignment_is_line widths [] line list few h in
          subst (λ (l : List Assignment). EachLine (map (assignment_line (pieces widths)) (split_part widths l))) (sym is.all) (each_word is.assignment is.valid)
      by (Err w) h (inl none) =
          let same : why.BadIndex ≡ w = cc (h, none []) in
          subst (λ (v : Why). EachLine (faulty_line widths (index_named line) v ∷ [])) same (refl, tt)
      by (Err w) h (inr has) =
          let i : ℕ = has.index in
          let is = is_faulty widths i has.rest w (sym has.alone ∙ h) in
          let within : first_piece widths i < 2 ^ 64 = omega (arith, (few_pieces widths i has.within have).0, within_pieces widths i has.within, small) in
          let n : ℕ = min (slice_index widths i) 64 in
          let none : IsLine (decimal (first_piece widths i) ++ symbol_part (faulty_rest n w)) =
          list_any-append (λ b. b == 10) (decimal (first_piece widths i)) (symbol_part (faulty_rest n w)) ∙ or_from _ _ (decimal_without 10 (first_piece widths i) (omega arith) within) (rest_is_line n w) in
          subst (λ (j : ℕ). EachLine (faulty_line widths j w ∷ [])) (sym has.named) (subst IsLine (sym is.line) none, tt)

  each_in : (line : List ℕ) → IsLine line → EachLine (passing_in widths line)
  each_in line is =
      elim (begins_part line) as (λ b. EachLine (cond b (line ∷ []) (assigned_lines widths line (assignment_at widths [] line)))) [ true ↦ (is, tt) | false ↦ each_assigned line ]

module _ (shape : Shape) (good : IsWideShape shape) (small : IsSmall shape) where
  each_at : (at : Place) (line : List ℕ) → IsLine line → EachLine (passing_at shape at line)
  each_at InStates line is = each_in shape.states good.states small.states good.few_states line is
  each_at InFrame line is = each_in shape.inputs good.inputs small.inputs good.few_inputs line is
  each_at AtStatus line is = (is, tt)
  each_at AtClaims line is = (is, tt)
  each_at AtParts line is = (is, tt)
  each_at AtEnd line is = (is, tt)

  each_behind : (at : Place) (line : List ℕ) (o : Option Why) → IsLine line → EachLine (passing_behind shape at line o)
  each_behind at line None is = each_at at line is
  each_behind at line (Some w) is = tt

  pub each_passing : (g : Reading Read) (lines : List (List ℕ)) → EachLine lines → EachLine (passing_lines shape g lines)
  each_passing g [] each = tt
  each_passing g (line ∷ lines) each =
      each_append (passing_behind shape g.read.place line g.refused) (passing_lines shape (next_line (word_reader shape) g line) lines) (each_behind g.read.place line g.refused each.0) (each_passing (next_line (word_reader shape) g line) lines each.1)

-- ---- a whole text

-- no witness is judged to be malformed
never_malformed : (different : Option ℕ) (broken : Option Violation) (unreached : Option ℕ) (frames line : ℕ) (w : Why) → judgement.Malformed line w ≡ first_of different broken unreached frames → ⊥
never_malformed (Some k) broken unreached frames line w e = cc
never_malformed None (Some v) unreached frames line w e = cc
never_malformed None None (Some claim) frames line w e = cc
never_malformed None None None frames line w e = cc

pub few_lines : (shape : Shape) (lines : List (List ℕ)) → Goes (word_reader shape) 0 nothing_read lines → (lines_read (word_reader shape) lines).admitted ≤ length lines
few_lines shape lines (On final few read is) = omega (arith, ap (λ (g : Reading Read). g.admitted) is)
few_lines shape lines (Until m s w above below room is) = omega (arith, below, ap (λ (g : Reading Read). g.admitted) is)

last_alike : (ended : Bool) (n m : ℕ) (empty : Bool) → n < most_lines → m < most_lines → last_refusal ended n empty ≡ last_refusal ended m empty
last_alike ended n m empty few less = rw (lt-leb most_lines n few, lt-leb most_lines m less) refl

module _ (wide narrow : List Item) (good : IsWideShape (shape_of wide)) (small : IsSmall (shape_of wide)) (cut : shape_of narrow ≡ cut_shape (shape_of wide)) (text : List ℕ) (short : IsShort text) where
  abbrev W : Shape
  W = shape_of wide

  abbrev lines : List (List ℕ)
  lines = whole_lines text

  abbrev fed : List (List ℕ)
  fed = passing_lines W (so_far 0 nothing_read) lines

  abbrev last : List ℕ
  last = unfinished text

  -- what went on
  abbrev pub passed : List ℕ
  passed = passing_text W text ++ unfinished text

  abbrev all_of : Reading Read
  all_of = lines_read (word_reader W) lines

  passed_lines : whole_lines passed ≡ fed
  passed_lines =
      whole_lines-lines fed last (each_passing W good small (so_far 0 nothing_read) lines (lines_are_lines text))
      ∙ (ap (λ (ls : List (List ℕ)). fed ++ ls) (whole_lines-last last (unfinished_is_line text)) ∙ append-nil fed)

  passed_rest : unfinished passed ≡ last
  passed_rest = unfinished-lines fed last ∙ unfinished-last last (unfinished_is_line text)

  pub passes : Passes W 0 nothing_read all_of lines fed
  passes = all_pass W good small.states small.inputs 0 0 nothing_read lines (omega (arith, short)) (omega (arith, short)) refl

  pub claims : makes_no_claim 0 (whole_lines passed) ≡ makes_no_claim 0 lines
  claims = ap (makes_no_claim 0) passed_lines ∙ claims_alike W 0 0 nothing_read lines (omega (arith, short)) (omega (arith, short)) refl

  -- what is read of it
  abbrev over : Reading Read
  over = split_reading W passes.count all_of

  pub passed_read : text_read (word_reader (shape_of narrow)) passed ≡ read_or_fault (λ r. is_at_end r.place) over last all_of.refused
  unfolding reading
  passed_read =
      ap (λ (shape : Shape). text_read (word_reader shape) passed) cut
      ∙ (ap (λ (ls : List (List ℕ)). read_or_fault (λ r. is_at_end r.place) (lines_read (word_reader (cut_shape W)) ls) (unfinished passed) (lines_read (word_reader (cut_shape W)) ls).refused) passed_lines
      ∙ (ap (λ (g : Reading Read). read_or_fault (λ r. is_at_end r.place) g (unfinished passed) g.refused) passes.is
      ∙ ap (λ (l : List ℕ). read_or_fault (λ r. is_at_end r.place) over l all_of.refused) passed_rest))

  few_admitted : all_of.admitted ≤ length lines
  few_admitted = few_lines W lines (goes (word_reader W) 0 nothing_read lines (omega arith))

  own_read : text_read (word_reader W) text ≡ read_or_fault (λ r. is_at_end r.place) all_of last all_of.refused
  unfolding reading
  own_read = refl

  abbrev SaysNarrow : Read → Judgement → Type 0
  SaysNarrow r j = JudgesWords narrow (words_of (witness_of r)) j

  abbrev SaysWide : Read → Judgement → Type 0
  SaysWide r j = JudgesWords wide (words_of (witness_of r)) j

  -- the law that this rests on
  module _ (law : (w : Witness) (j : Judgement) → IsWitness (shape_of wide) w → JudgesWords narrow (words_of (split_witness (shape_of wide) w)) j → JudgesWords wide (words_of w) (joined_judgement (shape_of wide) j)) where
    -- what is told of a witness
    witness_told : (w : Witness) (n : ℕ) (j : Judgement) → JudgesWords wide (words_of w) (joined_judgement W j) → JudgesWords wide (words_of w) (told W n j)
    witness_told w n (judgement.Malformed line y) h = λ fs trace. absurd (never_malformed _ _ _ _ line y (h fs trace))
    witness_told w n (judgement.InitDiffers i) h = h
    witness_told w n (judgement.Accepted k) h = h
    witness_told w n (judgement.NotReached i) h = h
    witness_told w n (judgement.Violated k i) h = h
    witness_told w n judgement.NoClaim h = h

    by_read : (n : ℕ) (j : Judgement) (g : Reading Read) (m : ℕ) (last : List ℕ) → n ≡ g.admitted + 1 → g.admitted < most_lines → m < most_lines
        → ((r : Read) → read_or_fault (λ r. is_at_end r.place) g last g.refused ≡ Ok r → IsWitness W (witness_of r))
        → JudgesAs SaysNarrow false (read_or_fault (λ r. is_at_end r.place) (split_reading W m g) last g.refused) j → JudgesAs SaysWide false (read_or_fault (λ r. is_at_end r.place) g last g.refused) (told W n j)
    by_read n j g m last number few less valid h = by_refusal g.refused refl h
      where
        refuses : (w : Why) → JudgesAs SaysNarrow false (Err (record { line = m + 1; why = w })) j → JudgesAs SaysWide false (Err (record { line = g.admitted + 1; why = w })) (told W n j)
        refuses w h = ap (told W n) h ∙ ap (λ (line : ℕ). judgement.Malformed line w) number

        by_last : (o : Option Why) → last_refusal (is_at_end g.read.place) g.admitted (is_nothing last) ≡ o → g.refused ≡ None → JudgesAs SaysNarrow false (refused_for (split_reading W m g) o) j → JudgesAs SaysWide false (refused_for g o) (told W n j)
        by_last (Some w) is none h = refuses w h
        by_last None is none h =
            let read : read_or_fault (λ r. is_at_end r.place) g last g.refused ≡ Ok g.read = ap (read_or_fault (λ r. is_at_end r.place) g last) none ∙ ap (refused_for g) is in
            witness_told (witness_of g.read) n j (law (witness_of g.read) j (valid g.read read) h)

        by_refusal : (o : Option Why) → g.refused ≡ o → JudgesAs SaysNarrow false (read_or_fault (λ r. is_at_end r.place) (split_reading W m g) last o) j → JudgesAs SaysWide false (read_or_fault (λ r. is_at_end r.place) g last o) (told W n j)
        by_refusal (Some w) is h = refuses w h
        by_refusal None is h =
            by_last (last_refusal (is_at_end g.read.place) g.admitted (is_nothing last)) refl is
            (subst (λ (o : Option Why). JudgesAs SaysNarrow false (refused_for (split_reading W m g) o) j) (last_alike (is_at_end g.read.place) m g.admitted (is_nothing last) less few) h)

    by_claim : (none : Bool) (n : ℕ) (j : Judgement) → n ≡ all_of.admitted + 1 → JudgesAs SaysNarrow none (read_or_fault (λ r. is_at_end r.place) over last all_of.refused) j → JudgesAs SaysWide none (read_or_fault (λ r. is_at_end r.place) all_of last all_of.refused) (told W n j)
    by_claim true n j number h = ap (told W n) h
    by_claim false n j number h =
        by_read n j all_of passes.count last number (omega (arith, few_admitted, short)) (omega (arith, passes.few, short)) (λ r is. (read_says W text r small (own_read ∙ is)).valid) h

    -- what is judged of what went on is told of the text
    pub told_judged : (n : ℕ) (j : Judgement) → n ≡ all_of.admitted + 1 → Judges narrow passed j → Judges wide text (told W n j)
    told_judged n j number h =
        subst (λ (o : Result Read Fault). JudgesAs SaysWide (makes_no_claim 0 lines) o (told W n j)) (sym own_read)
        (by_claim (makes_no_claim 0 lines) n j number
        (subst (λ (o : Result Read Fault). JudgesAs SaysNarrow (makes_no_claim 0 lines) o j) passed_read
        (subst (λ (b : Bool). JudgesAs SaysNarrow b (text_read (word_reader (shape_of narrow)) passed) j) claims h)))
