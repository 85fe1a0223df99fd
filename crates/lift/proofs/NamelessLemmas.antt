-- The lifted witness with names is that without, but for the names: it gives the same words in as many lines.
use Rattle.std.proofs.Common.{◌≡◌, ℕ, suc, ◌≤◌, Bool, true, false, List, [], ◌∷◌, ◌++◌, Option, Some, None, Ok, option_map, unwrap_or, map, length, take, drop, codes, decimal, length-append, refl, sym, ap, ap₂, subst, ◌∙◌, arith}
use Rattle.std.specs.Prelude.{if◌then◌else◌}
use Rattle.std.proofs.lemmas.List.{map-append, length-map}
use Rattle.base.specs.Lines.{whole_lines}
use Rattle.btor2.specs.declared.item.Item.{Item}
use Rattle.btor2.specs.Items.{is_input, is_state}
use Rattle.btor2.specs.Trace.{bits_of}
use Rattle.btor2.specs.Lists.{of_kind as leaves_of}
use Rattle.aiger.specs.Circuit.{Circuit}
use Rattle.blast.specs.Cost.{input_width}
use Rattle.blast.specs.Lowering.{Lowers}
use Rattle.witness.specs.declared.judgement.Judgement.{Judgement}
use Rattle.witness.specs.Texts.{Assignment, Parts, Shape, Says, shape_of, has_free, most_lines, assignment_line, states_lines, frame_lines, witness_lines}
use Rattle.witness.specs.Admits.{Read, read_text, witness_of}
use Rattle.witness.specs.Judgements.{FrameWords, Words, pairs_of, frame_words, JudgesWords, Judges}
use Rattle.witness.specs.BitTexts.{BitWitness, BitSays}
use Rattle.witness.specs.BitAdmits.{BitRead, read_bit_text}
use Rattle.lift.specs.Lifted.{names, lifted_with}
use Rattle.lift.proofs.AssignedLemmas.{assign, assigned, any_leaf, takes_free, takes_carried, assigned_inputs, assigned_carried, assigned_free, first_parts, later_parts, later_frames, lifted_frames, lifted_witness}
use Rattle.lift.proofs.LiftedWords.{words_lifted}
use Rattle.lift.proofs.KeepLemmas.{says_few, few_lines, judged_words, words_judged}

-- ---- without the names

abbrev nameless : Assignment → Assignment
nameless a = record { index = a.index; word = a.word; symbol = None }

abbrev nameless_parts : Parts → Parts
nameless_parts p = record { states = option_map (map nameless) p.states; inputs = map nameless p.inputs }

nameless_assigned : (named : Bool) (k : ℕ) (items : List Item) (takes : Item → Bool) (index : ℕ) (xs : List Item) (bs : List Bool) → map nameless (assigned items takes (names named k) index xs bs) ≡ assigned items takes (names false k) index xs bs
nameless_assigned named k items takes index [] bs = refl
nameless_assigned named k items takes index (x ∷ xs) bs = by (takes x) (λ cs. nameless_assigned named k items takes (suc index) xs cs)
  where
    by : (b : Bool) → ((cs : List Bool) → map nameless (assigned items takes (names named k) (suc index) xs cs) ≡ assigned items takes (names false k) (suc index) xs cs)
        → map nameless (if b then assign index (take (bits_of items x.id) bs) (names named k x) ∷ assigned items takes (names named k) (suc index) xs (drop (bits_of items x.id) bs) else assigned items takes (names named k) (suc index) xs bs)
        ≡ (if b then assign index (take (bits_of items x.id) bs) (names false k x) ∷ assigned items takes (names false k) (suc index) xs (drop (bits_of items x.id) bs) else assigned items takes (names false k) (suc index) xs bs)
    by true rest = ap (λ (l : List Assignment). assign index (take (bits_of items x.id) bs) None ∷ l) (rest (drop (bits_of items x.id) bs))
    by false rest = rest bs

same_parts : (o p : Option (List Assignment)) (i j : List Assignment) → option_map (map nameless) o ≡ p → map nameless i ≡ j → nameless_parts (record { states = o; inputs = i }) ≡ record { states = p; inputs = j }
same_parts o p i j e f = ap₂ (λ (s : Option (List Assignment)) (l : List Assignment). record { states = s; inputs = l }) e f

nameless_first : (named : Bool) (items : List Item) (initial bs : List Bool) → nameless_parts (first_parts named items initial bs) ≡ first_parts false items initial bs
nameless_first named items initial bs =
    same_parts (Some (assigned_carried items (names named 0) initial ++ assigned_free items (names named 0) (drop (input_width items) bs))) (Some (assigned_carried items (names false 0) initial ++ assigned_free items (names false 0) (drop (input_width items) bs)))
    (assigned_inputs items (names named 0) bs) (assigned_inputs items (names false 0) bs)
    (ap Some (map-append nameless (assigned_carried items (names named 0) initial) (assigned_free items (names named 0) (drop (input_width items) bs))
    ∙ ap₂ ◌++◌ (nameless_assigned named 0 items (takes_carried items) 0 (leaves_of is_state items) initial) (nameless_assigned named 0 items (takes_free items) 0 (leaves_of is_state items) (drop (input_width items) bs))))
    (nameless_assigned named 0 items any_leaf 0 (leaves_of is_input items) bs)

nameless_later : (named : Bool) (items : List Item) (k : ℕ) (bs : List Bool) → nameless_parts (later_parts named items k bs) ≡ later_parts false items k bs
nameless_later named items k bs =
    same_parts (if has_free (shape_of items) then Some (assigned_free items (names named k) (drop (input_width items) bs)) else None) (if has_free (shape_of items) then Some (assigned_free items (names false k) (drop (input_width items) bs)) else None)
    (assigned_inputs items (names named k) bs) (assigned_inputs items (names false k) bs) (by (has_free (shape_of items))) (nameless_assigned named k items any_leaf 0 (leaves_of is_input items) bs)
  where
    by : (b : Bool) → option_map (map nameless) (if b then Some (assigned_free items (names named k) (drop (input_width items) bs)) else None) ≡ (if b then Some (assigned_free items (names false k) (drop (input_width items) bs)) else None)
    by true = ap Some (nameless_assigned named k items (takes_free items) 0 (leaves_of is_state items) (drop (input_width items) bs))
    by false = refl

nameless_behind : (named : Bool) (items : List Item) (k : ℕ) (frames : List (List Bool)) → map nameless_parts (later_frames named items k frames) ≡ later_frames false items k frames
nameless_behind named items k [] = refl
nameless_behind named items k (bs ∷ more) = ap₂ ◌∷◌ (nameless_later named items k bs) (nameless_behind named items (suc k) more)

nameless_frames : (named : Bool) (items : List Item) (initial : List Bool) (frames : List (List Bool)) → map nameless_parts (lifted_frames named items initial frames) ≡ lifted_frames false items initial frames
nameless_frames named items initial [] = refl
nameless_frames named items initial (bs ∷ more) = ap₂ ◌∷◌ (nameless_first named items initial bs) (nameless_behind named items 1 more)

-- ---- the same words

nameless_pairs : (list : List Assignment) → pairs_of (map nameless list) ≡ pairs_of list
nameless_pairs [] = refl
nameless_pairs (a ∷ list) = ap (λ (l : List (ℕ × ℕ)). (a.index, a.word) ∷ l) (nameless_pairs list)

nameless_states : (o : Option (List Assignment)) → pairs_of (unwrap_or (option_map (map nameless) o) []) ≡ pairs_of (unwrap_or o [])
nameless_states None = refl
nameless_states (Some list) = nameless_pairs list

nameless_words : (parts : List Parts) → map frame_words (map nameless_parts parts) ≡ map frame_words parts
nameless_words [] = refl
nameless_words (p ∷ parts) =
    ap₂ ◌∷◌ (ap₂ (λ (s i : List (ℕ × ℕ)). record { states = s; inputs = i }) (nameless_states p.states) (nameless_pairs p.inputs)) (nameless_words parts)

same_words : (named : Bool) (items : List Item) (b : BitWitness) → words_lifted named items b ≡ words_lifted false items b
same_words named items b =
    ap (λ (fs : List FrameWords). record { claims = b.claim ∷ []; frames = fs })
    (sym (nameless_words (lifted_frames named items b.initial b.frames)) ∙ ap (map frame_words) (nameless_frames named items b.initial b.frames))

-- ---- in as many lines

as_many_assignments : (widths : List ℕ) (list : List Assignment) → length (map (assignment_line widths) (map nameless list)) ≡ length (map (assignment_line widths) list)
as_many_assignments widths list = length-map (map nameless list) (assignment_line widths) ∙ (length-map list nameless ∙ sym (length-map list (assignment_line widths)))

as_many_states : (widths : List ℕ) (k : ℕ) (o : Option (List Assignment)) → length (states_lines widths k (option_map (map nameless) o)) ≡ length (states_lines widths k o)
as_many_states widths k None = refl
as_many_states widths k (Some list) = ap suc (as_many_assignments widths list)

as_many_in_frames : (shape : Shape) (k : ℕ) (parts : List Parts) → length (frame_lines shape k (map nameless_parts parts)) ≡ length (frame_lines shape k parts)
as_many_in_frames shape k [] = refl
as_many_in_frames shape k (p ∷ parts) =
    omega (
      arith,
      as_many_states shape.states k p.states,
      as_many_assignments shape.inputs p.inputs,
      as_many_in_frames shape (suc k) parts,
      length-append (states_lines shape.states k (nameless_parts p).states) ((64 ∷ decimal k) ∷ (map (assignment_line shape.inputs) (map nameless p.inputs) ++ frame_lines shape (suc k) (map nameless_parts parts))),
      length-append (states_lines shape.states k p.states) ((64 ∷ decimal k) ∷ (map (assignment_line shape.inputs) p.inputs ++ frame_lines shape (suc k) parts)),
      length-append (map (assignment_line shape.inputs) (map nameless p.inputs)) (frame_lines shape (suc k) (map nameless_parts parts)),
      length-append (map (assignment_line shape.inputs) p.inputs) (frame_lines shape (suc k) parts),
    )

as_many_lines : (named : Bool) (items : List Item) (b : BitWitness) → length (witness_lines (shape_of items) [] (lifted_witness named items b)) ≡ length (witness_lines (shape_of items) [] (lifted_witness false items b))
as_many_lines named items b =
    let shape : Shape = shape_of items in
    let own : List (List ℕ) = frame_lines shape 0 (lifted_frames named items b.initial b.frames) in
    let plain : List (List ℕ) = frame_lines shape 0 (lifted_frames false items b.initial b.frames) in
    let same : length own ≡ length plain =
    sym (as_many_in_frames shape 0 (lifted_frames named items b.initial b.frames)) ∙ ap (λ (fs : List Parts). length (frame_lines shape 0 fs)) (nameless_frames named items b.initial b.frames) in
    omega (arith, same, length-append own (codes "." ∷ []), length-append plain (codes "." ∷ []))

-- ---- so they are judged alike

module _ (items : List Item) (c : Circuit) (text : List ℕ) (b : BitWitness) (l : Lowers items c) (says : BitSays c text b) where
  pub says_with : (named : Bool) (r : BitRead) → read_bit_text c text ≡ Ok r → length (whole_lines (lifted_with false items c text)) ≤ most_lines → Says (shape_of items) (lifted_with named items c text) (lifted_witness named items b)
  says_with named r read few =
      says_few named items c text b l says r read (subst (λ (n : ℕ). n ≤ most_lines) (sym (as_many_lines named items b)) (few_lines false items c text b l says r read few))

  pub judged_alike : (one other : Bool) (j : Judgement) (r : BitRead) (q p : Read) → read_bit_text c text ≡ Ok r
      → read_text (shape_of items) (lifted_with one items c text) ≡ Ok q → witness_of q ≡ lifted_witness one items b
      → read_text (shape_of items) (lifted_with other items c text) ≡ Ok p → witness_of p ≡ lifted_witness other items b
      → Judges items (lifted_with one items c text) j → Judges items (lifted_with other items c text) j
  judged_alike one other j r q p bits read is read' is' h =
      words_judged other items c text b l says j r p bits read' is'
      (subst (λ (w : Words). JudgesWords items w j) (same_words one items b ∙ sym (same_words other items b)) (judged_words one items c text b l says j r q bits read is h))
