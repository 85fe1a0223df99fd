-- The verdict over a circuit is kept over the model that it lowers.
use Rattle.std.proofs.Common.{◌≡◌, ℕ, suc, ◌<◌, ◌≤◌, ◌^◌, ◌==◌, Bool, true, false, List, [], ◌∷◌, ◌++◌, Option, Some, None, Ok, All, codes, map, filter, length, take, refl, sym, ap, subst, ◌∙◌, arith}
use Rattle.std.specs.Prelude.{if◌then◌else◌}
use Rattle.std.specs.List.{AllByRecursion}
use Rattle.std.proofs.Math.Seq.{take-length}
use Rattle.std.proofs.lemmas.List.{length-map}
use Rattle.std.proofs.lemmas.List.Elements.{All-nil, recursion_from_All}
use Rattle.base.specs.Lines.{IsLine, text_of_lines, onto_first, whole_lines, unfinished}
use Rattle.base.proofs.LineLemmas.{EachLine, lines_of_text}
use Rattle.btor2.specs.declared.item.Item.{Item}
use Rattle.btor2.specs.Items.{is_bad}
use Rattle.btor2.specs.Trace.{Frame, IsTrace, IsInitial}
use Rattle.btor2.specs.Reachability.{nodes_of, model_shows}
use Rattle.btor2.proofs.InitLemmas.{init_word_below, inits_hold}
use Rattle.base.specs.Literal.{Valuation}
use Rattle.aiger.specs.declared.circuit.Section.TheVariants as section
use Rattle.aiger.specs.Circuit.{Circuit}
use Rattle.aiger.specs.Trace.{IsCircuitTrace}
use Rattle.aiger.specs.Reachability.{circuit_shows}
use Rattle.aiger.proofs.SectionNameLemmas.{length-section_names}
use Rattle.blast.specs.Cost.{carried_width}
use Rattle.blast.specs.Leaves.{by_body, given_by_kind, own_name, input_bits, state_bits}
use Rattle.blast.specs.Lowering.{Lowers}
use Rattle.blast.proofs.LowerAssembly.{length-state_resets}
use Rattle.blast.proofs.ReachLemmas.{shows_equal}
use Rattle.base.proofs.DecimalLemmas.{decimal_without}
use Rattle.witness.specs.declared.why.Why.{Why}
use Rattle.witness.specs.declared.judgement.Judgement.{Judgement}
use Rattle.witness.specs.Texts.{Witness, shape_of, is_comment, most_lines, witness_lines, Says}
use Rattle.witness.specs.Admits.{Read, read_text, witness_of}
use Rattle.witness.specs.Judgements.{words_of, initial_words, given_frames, first_different, verdict, makes_no_claim, JudgesWords, Judges}
use Rattle.witness.specs.BitTexts.{BitWitness, bit_line, bit_witness_lines, BitSays}
use Rattle.witness.specs.Readings.{Reading, lines_read, reading, read_or_fault}
use Rattle.witness.specs.BitAdmits.{BitRead, is_done, bit_reader, read_bit_text, bit_witness_of, admitted_lines}
use Rattle.witness.specs.BitJudgements.{first_reset_differing, makes_no_bit_claim, JudgesBits, BitJudges}
use Rattle.witness.proofs.JudgedLemmas.{judged_says, read_judged}
use Rattle.witness.proofs.BitReadLemmas.{bits_are_a_line}
use Rattle.witness.proofs.FrameLemmas.{bad_names, length-nodes}
use Rattle.witness.proofs.ShapeLemmas.{length-places}
use Rattle.lift.specs.Lifted.{lifted_lines, lifted_with}
use Rattle.lift.specs.Verdicts.{IsSameVerdict, KeepsVerdictIn}
use Rattle.restore.proofs.BitPlaceLemmas.{counted}
use Rattle.lift.proofs.AssignedLemmas.{lifted_witness}
use Rattle.lift.proofs.LiftedWitness.{AreWide, lines_are_witness, lifted_is_witness}
use Rattle.lift.proofs.LiftedWords.{words_lifted, given_again, initial_again, initial_below, initial_fits, given_fit}
use Rattle.lift.proofs.DifferLemmas.{latch_belongs, init_agrees}
use Rattle.lift.proofs.SameLemmas.{same_verdict}

-- ---- the lines of the source

frames_are_lines : (frames : List (List Bool)) → EachLine (map bit_line frames ++ codes "." ∷ [])
frames_are_lines [] = (refl, tt)
frames_are_lines (bits ∷ frames) = (bits_are_a_line bits, frames_are_lines frames)

source_lines : (w : BitWitness) → w.claim < 2 ^ 64 → EachLine (bit_witness_lines w)
source_lines w small = (refl, (decimal_without 10 w.claim (omega arith) small, (bits_are_a_line w.initial, frames_are_lines w.frames)))

none_refused : (g : Reading BitRead) (last : List ℕ) (o : Option Why) (r : BitRead) → read_or_fault (λ s. is_done s.place) g last o ≡ Ok r → o ≡ None
none_refused g last None r e = refl
none_refused g last (Some w) r e = absurd (cc)

-- all lines of a source that is read are admitted
all_admitted : (c : Circuit) (text : List ℕ) (r : BitRead) → read_bit_text c text ≡ Ok r → admitted_lines c text ≡ length (whole_lines text)
unfolding reading
all_admitted c text r e =
    (counted c (whole_lines text)).all (none_refused (lines_read (bit_reader c) (whole_lines text)) (unfinished text) (lines_read (bit_reader c) (whole_lines text)).refused r e)

-- ---- the lines of the lifted text

length-onto_first : (b : ℕ) (lines : List (List ℕ)) → length (onto_first b lines) ≡ length lines
length-onto_first b [] = refl
length-onto_first b (line ∷ lines) = refl

one_line_more : (line rest : List ℕ) → suc (length (whole_lines rest)) ≤ length (whole_lines ((line ++ 10 ∷ []) ++ rest))
one_line_more [] rest = omega arith
one_line_more (b ∷ bs) rest = by (b == 10) (one_line_more bs rest)
  where
    by : (t : Bool) → suc (length (whole_lines rest)) ≤ length (whole_lines ((bs ++ 10 ∷ []) ++ rest))
        → suc (length (whole_lines rest)) ≤ length (if t then [] ∷ whole_lines ((bs ++ 10 ∷ []) ++ rest) else onto_first b (whole_lines ((bs ++ 10 ∷ []) ++ rest)))
    by true h = omega (arith, h)
    by false h = omega (arith, h, length-onto_first b (whole_lines ((bs ++ 10 ∷ []) ++ rest)))

-- each line of a text is whole
at_least : (lines : List (List ℕ)) → length lines ≤ length (whole_lines (text_of_lines lines))
at_least [] = omega arith
at_least (line ∷ lines) = omega (arith, one_line_more line (text_of_lines lines), at_least lines)

-- ---- as many bad properties

bads_named : (xs : List Item) → length (given_by_kind (by_body is_bad) own_name xs) ≡ length (filter (λ (y : Item). is_bad y.body) xs)
bads_named [] = refl
bads_named (x ∷ xs) = by (is_bad x.body) (bads_named xs)
  where
    by : (b : Bool) → length (given_by_kind (by_body is_bad) own_name xs) ≡ length (filter (λ (y : Item). is_bad y.body) xs)
        → length ((if b then own_name x else []) ++ given_by_kind (by_body is_bad) own_name xs) ≡ length (if b then x ∷ filter (λ (y : Item). is_bad y.body) xs else filter (λ (y : Item). is_bad y.body) xs)
    by true rest = ap suc rest
    by false rest = rest

bad_nodes : (items : List Item) → length (nodes_of is_bad items) ≡ length (filter (λ (y : Item). is_bad y.body) items)
bad_nodes items = length-nodes is_bad items bad_names ∙ length-places is_bad 0 items

bads_count : (items : List Item) (c : Circuit) → Lowers items c → length c.bads ≡ (shape_of items).bads
bads_count items c l = sym (length-section_names section.Bad c) ∙ (ap length l.bad_names ∙ bads_named items)

latches_count : (items : List Item) (c : Circuit) → Lowers items c → length c.latches ≡ carried_width items
latches_count items c l = sym (length-map c.latches (λ latch. latch.reset)) ∙ (ap length l.resets ∙ length-state_resets items items)

-- ---- the lifted witness

module _ (named : Bool) (items : List Item) (c : Circuit) (text : List ℕ) (b : BitWitness) (l : Lowers items c) (says : BitSays c text b) where
  initial_wide : length b.initial ≡ carried_width items
  initial_wide = says.valid.initial ∙ latches_count items c l

  frames_wide : AreWide items b.frames
  frames_wide = subst (λ (n : ℕ). AllByRecursion (λ bits. length bits ≡ n) b.frames) l.inputs (recursion_from_All (λ bits. length bits ≡ c.inputs) b.frames says.valid.frames)

  claim_inside : b.claim < (shape_of items).bads
  claim_inside = omega (arith, says.valid.claim, bads_count items c l)

  -- the lifted text is its lines
  text_is : (r : BitRead) → read_bit_text c text ≡ Ok r → lifted_with named items c text ≡ text_of_lines (witness_lines (shape_of items) [] (lifted_witness named items b))
  unfolding lifted_with
  text_is r read =
      let small : b.claim < 2 ^ 64 = omega (arith, says.valid.claim, l.circuit.few.bads) in
      let whole : whole_lines text ≡ bit_witness_lines b = ap whole_lines says.whole ∙ lines_of_text (bit_witness_lines b) (source_lines b small) in
      let all : take (admitted_lines c text) (whole_lines text) ≡ bit_witness_lines b = ap (λ (n : ℕ). take n (whole_lines text)) (all_admitted c text r read) ∙ (take-length (whole_lines text) ∙ whole) in
      ap (λ (lines : List (List ℕ)). text_of_lines (lifted_lines named items 0 lines)) all
      ∙ ap text_of_lines (lines_are_witness named items b says.valid.some_frame initial_wide frames_wide)

  -- it says the lifted witness
  pub says_few : (r : BitRead) → read_bit_text c text ≡ Ok r → length (witness_lines (shape_of items) [] (lifted_witness named items b)) ≤ most_lines → Says (shape_of items) (lifted_with named items c text) (lifted_witness named items b)
  says_few r read few =
      record {
        comments = [];
        lines = All-nil IsLine;
        marked = All-nil (λ line. is_comment line ≡ true);
        whole = text_is r read;
        valid = lifted_is_witness named items b claim_inside says.valid.some_frame initial_wide frames_wide;
        few = few;
      }

  pub few_lines : (r : BitRead) → read_bit_text c text ≡ Ok r → length (whole_lines (lifted_with named items c text)) ≤ most_lines → length (witness_lines (shape_of items) [] (lifted_witness named items b)) ≤ most_lines
  few_lines r read few =
      let lines : List (List ℕ) = witness_lines (shape_of items) [] (lifted_witness named items b) in
      omega (arith, few, at_least lines, ap (λ (t : List ℕ). length (whole_lines t)) (text_is r read))

  says_lifted : (r : BitRead) → read_bit_text c text ≡ Ok r → length (whole_lines (lifted_with named items c text)) ≤ most_lines → Says (shape_of items) (lifted_with named items c text) (lifted_witness named items b)
  says_lifted r read few = says_few r read (few_lines r read few)

  -- the first line of the source, and of the lifted text, says that there is a claim
  source_claims : makes_no_bit_claim (whole_lines text) ≡ false
  source_claims = ap (λ (t : List ℕ). makes_no_bit_claim (whole_lines t)) says.whole

  lifted_claims : (r : BitRead) → read_bit_text c text ≡ Ok r → makes_no_claim 0 (whole_lines (lifted_with named items c text)) ≡ false
  lifted_claims r read = ap (λ (t : List ℕ). makes_no_claim 0 (whole_lines t)) (text_is r read)

  -- ---- the traces

  lowered_trace : (vs : List Valuation) → IsCircuitTrace c b.initial b.frames vs → IsCircuitTrace c (state_bits items (initial_words items (words_lifted named items b))) (map (input_bits items) (given_frames items (words_lifted named items b))) vs
  lowered_trace vs trace =
      subst (λ (s : List Bool). IsCircuitTrace c s (map (input_bits items) (given_frames items (words_lifted named items b))) vs) (sym (initial_again named items b l.well_formed says.valid.some_frame initial_wide))
      (subst (λ (i : List (List Bool)). IsCircuitTrace c b.initial i vs) (sym (given_again named items b l.well_formed frames_wide)) trace)

  shown_same : (fs : List Frame) (vs : List Valuation) → IsTrace items (initial_words items (words_lifted named items b)) (given_frames items (words_lifted named items b)) fs → IsCircuitTrace c b.initial b.frames vs
      → first_different items (initial_words items (words_lifted named items b)) ≡ None → map (model_shows items) fs ≡ map (circuit_shows c) vs
  shown_same fs vs trace bits none =
      let initial : IsInitial items (initial_words items (words_lifted named items b)) =
      record { fits = initial_fits named items b l.well_formed says.valid.some_frame; inits = inits_hold items (initial_words items (words_lifted named items b)) l.well_formed (init_agrees items (initial_words items (words_lifted named items b)) l.well_formed none) } in
      shows_equal items c fs vs (l.frames (initial_words items (words_lifted named items b)) (given_frames items (words_lifted named items b)) initial (given_fit named items b) fs trace vs (lowered_trace vs bits))

  abbrev bits_verdict : List Valuation → Judgement
  bits_verdict vs = verdict (first_reset_differing 0 c.latches b.initial) (b.claim ∷ []) (length c.bads) (map (circuit_shows c) vs)

  abbrev words_verdict : List Frame → Judgement
  words_verdict fs = verdict (first_different items (initial_words items (words_lifted named items b))) (b.claim ∷ []) (length (nodes_of is_bad items)) (map (model_shows items) fs)

  verdicts_same : (fs : List Frame) (vs : List Valuation) → IsTrace items (initial_words items (words_lifted named items b)) (given_frames items (words_lifted named items b)) fs → IsCircuitTrace c b.initial b.frames vs
      → IsSameVerdict items (bits_verdict vs) (words_verdict fs)
  verdicts_same fs vs trace bits =
      same_verdict items b.claim (length c.bads) (length (nodes_of is_bad items)) _ _ (map (circuit_shows c) vs) (map (model_shows items) fs) says.valid.claim (omega (arith, says.valid.claim, bads_count items c l, bad_nodes items))
      (latch_belongs items c.latches (initial_words items (words_lifted named items b)) b.initial (λ id k e. init_word_below items id k l.well_formed e) (λ id. initial_below named items b id l.well_formed says.valid.some_frame) l.resets
      (initial_again named items b l.well_formed says.valid.some_frame initial_wide))
      (shown_same fs vs trace bits)

  -- ---- the judgements

  judged_bits : (j : Judgement) (r : BitRead) → read_bit_text c text ≡ Ok r → bit_witness_of r ≡ b → BitJudges c text j → JudgesBits c b j
  judged_bits j r read is h =
      subst (λ (w : BitWitness). JudgesBits c w j) is
      (judged_says (λ (s : BitRead). JudgesBits c (bit_witness_of s)) (makes_no_bit_claim (whole_lines text)) (read_bit_text c text) r j source_claims read h)

  pub judged_words : (k : Judgement) (r : BitRead) (q : Read) → read_bit_text c text ≡ Ok r → read_text (shape_of items) (lifted_with named items c text) ≡ Ok q → witness_of q ≡ lifted_witness named items b → Judges items (lifted_with named items c text) k
      → JudgesWords items (words_lifted named items b) k
  judged_words k r q bits read is h =
      let all : List ℕ = lifted_with named items c text in
      subst (λ (w : Witness). JudgesWords items (words_of w) k) is
      (judged_says (λ (s : Read). JudgesWords items (words_of (witness_of s))) (makes_no_claim 0 (whole_lines all)) (read_text (shape_of items) all) q k (lifted_claims r bits) read h)

  -- and back
  pub words_judged : (k : Judgement) (r : BitRead) (q : Read) → read_bit_text c text ≡ Ok r → read_text (shape_of items) (lifted_with named items c text) ≡ Ok q → witness_of q ≡ lifted_witness named items b
      → JudgesWords items (words_lifted named items b) k → Judges items (lifted_with named items c text) k
  words_judged k r q bits read is h =
      let all : List ℕ = lifted_with named items c text in
      read_judged (λ (s : Read). JudgesWords items (words_of (witness_of s))) (makes_no_claim 0 (whole_lines all)) (read_text (shape_of items) all) (Ok q) k (lifted_claims r bits) read
      (subst (λ (w : Witness). JudgesWords items (words_of w) k) (sym is) h)

  pub kept_verdict : (j k : Judgement) (r : BitRead) (q : Read) (fs : List Frame) (vs : List Valuation) → read_bit_text c text ≡ Ok r → bit_witness_of r ≡ b
      → read_text (shape_of items) (lifted_with named items c text) ≡ Ok q → witness_of q ≡ lifted_witness named items b
      → IsTrace items (initial_words items (words_lifted named items b)) (given_frames items (words_lifted named items b)) fs → IsCircuitTrace c b.initial b.frames vs
      → BitJudges c text j → Judges items (lifted_with named items c text) k → IsSameVerdict items j k
  kept_verdict j k r q fs vs bits is read own trace bit_trace h g =
      let first : j ≡ bits_verdict vs = judged_bits j r bits is h vs bit_trace in
      let second : k ≡ words_verdict fs = judged_words k r q bits read own g fs trace in
      subst (λ (x : Judgement). IsSameVerdict items x k) (sym first) (subst (IsSameVerdict items (bits_verdict vs)) (sym second) (verdicts_same fs vs trace bit_trace))

-- by the laws on texts that are read and on traces
pub keeps_verdict : (named : Bool) (items : List Item) (c : Circuit) (text : List ℕ) (j : Judgement) → Lowers items c → BitJudges c text j
    → ((w : BitWitness) → BitSays c text w → (r : BitRead) × ((read_bit_text c text ≡ Ok r) × (bit_witness_of r ≡ w)))
    → ((w : Witness) → Says (shape_of items) (lifted_with named items c text) w → (r : Read) × ((read_text (shape_of items) (lifted_with named items c text) ≡ Ok r) × (witness_of r ≡ w)))
    → ((initial : Frame) (inputs : List Frame) → (fs : List Frame) × IsTrace items initial inputs fs)
    → ((initial : List Bool) (inputs : List (List Bool)) → length initial ≡ length c.latches → All (λ input. length input ≡ c.inputs) inputs → (vs : List Valuation) × IsCircuitTrace c initial inputs vs)
    → KeepsVerdictIn items c text (lifted_with named items c text) j
keeps_verdict named items c text j l h bit_reads reads runs bit_runs =
    record {
      claim = λ b says few.
          let r = bit_reads b says in
          (lifted_witness named items b, (says_lifted named items c text b l says r.0 r.1.0 few, refl));
      verdict = λ b k says few g.
          let r = bit_reads b says in
          let q = reads (lifted_witness named items b) (says_lifted named items c text b l says r.0 r.1.0 few) in
          let fs = runs (initial_words items (words_lifted named items b)) (given_frames items (words_lifted named items b)) in
          let vs = bit_runs b.initial b.frames says.valid.initial says.valid.frames in
          kept_verdict named items c text b l says j k r.0 q.0 fs.0 vs.0 r.1.0 r.1.1 q.1.0 q.1.1 fs.1 vs.1 h g;
    }
