-- A witness that is joined has no more lines than the other.
use Rattle.std.proofs.Common.{◌≡◌, ℕ, suc, ◌+◌, ◌<◌, ◌≤◌, ◌==◌, Bool, true, false, cond, ◌||◌, List, [], ◌∷◌, ◌++◌, Option, Some, None, is_some, option_map, find, length, map, take, drop, decimal, codes, refl, sym, ap, ap₂, ◌∙◌, arith, inl, inr}
use Rattle.std.proofs.lemmas.Bool.{cases_eq, eq-eqb, ne_eqb}
use Rattle.std.proofs.lemmas.List.{length-append, length-map, take-append-drop}
use Rattle.btor2.specs.declared.item.Item.{Item}
use Rattle.witness.specs.Texts.{Shape, Assignment, Parts, Witness, assignment_line, claims_line, states_lines, frame_lines, witness_lines}
use Rattle.witness.specs.Judgements.{pairs_of}
use Rattle.rejoin.specs.Pieces.{piece_count}
use Rattle.unfit.specs.declared.told_pieces.Piece.{Piece}
use Rattle.unfit.specs.Joined.{Wide, any_told, joined_word, join_word, join_from, join_part, join_states, join_inputs, join_frames, join_witness, pieces_from, state_words, input_words, name_at}

-- ---- pieces that are told

-- how many are
abbrev told_count : List Piece → ℕ
told_count [] = 0
told_count (p ∷ ps) = cond (is_some p.told) 1 0 + told_count ps

count_append : (xs ys : List Piece) → told_count (xs ++ ys) ≡ told_count xs + told_count ys
count_append [] ys = omega arith
count_append (x ∷ xs) ys = omega (arith, count_append xs ys)

none_counted : (i : ℕ) (xs : List ℕ) → told_count (pieces_from [] i xs) ≡ 0
none_counted i [] = refl
none_counted i (x ∷ xs) = omega (arith, none_counted (suc i) xs)

later_same : (a : ℕ × ℕ) (told : List (ℕ × ℕ)) (i : ℕ) (xs : List ℕ) → a.0 < i → pieces_from (a ∷ told) i xs ≡ pieces_from told i xs
later_same a told i [] h = refl
later_same a told i (x ∷ xs) h =
    ap₂ (λ (b : Bool) (ps : List Piece). let p : Piece = record { told = option_map (λ (q : ℕ × ℕ). q.1) (cond b (Some a) (find (λ (q : ℕ × ℕ). q.0 == i) told)); otherwise = x } in p ∷ ps)
    (ne_eqb a.0 i (λ e. omega (arith, h, e))) (later_same a told (suc i) xs (omega (arith, h)))

-- a part with one more tells one piece more at most
one_more : (a : ℕ × ℕ) (told : List (ℕ × ℕ)) (i : ℕ) (xs : List ℕ) → told_count (pieces_from (a ∷ told) i xs) ≤ suc (told_count (pieces_from told i xs))
one_more a told i [] = omega arith
one_more a told i (x ∷ xs) =
    elim (cases_eq a.0 i) [
      | inl e ↦
          let rest = ap told_count (later_same a told (suc i) xs (omega (arith, e))) in
          rw (eq-eqb a.0 i e) (omega (arith, rest))
      | inr n ↦ rw (ne_eqb a.0 i n) (omega (arith, one_more a told (suc i) xs))
    ]

few_told : (told : List (ℕ × ℕ)) (xs : List ℕ) → told_count (pieces_from told 0 xs) ≤ length told
few_told [] xs = omega (arith, none_counted 0 xs)
few_told (a ∷ told) xs = omega (arith, one_more a told 0 xs, few_told told xs)

-- ---- words

some_counted : (ps : List Piece) → any_told ps ≡ true → 1 ≤ told_count ps
some_counted [] h = absurd (cc)
some_counted (p ∷ ps) h = by (is_some p.told) h (some_counted ps)
  where
    by : (b : Bool) → (b || any_told ps) ≡ true → (any_told ps ≡ true → 1 ≤ told_count ps) → 1 ≤ cond b 1 0 + told_count ps
    by true d more = omega arith
    by false d more = omega (arith, more d)

word_counted : (name : Option (List ℕ)) (k : ℕ) (ps : List Piece) → length (join_word name k ps) ≤ told_count ps
word_counted name k ps = by (any_told ps) refl
  where
    by : (b : Bool) → any_told ps ≡ b → let a : Assignment = record { index = k; word = joined_word ps; symbol = name } in length (cond b (a ∷ []) []) ≤ told_count ps
    by true e = some_counted ps e
    by false e = omega arith

words_counted : (name : ℕ → Option (List ℕ)) (k : ℕ) (widths : List ℕ) (pieces : List Piece) → length (join_from name k widths pieces) ≤ told_count pieces
words_counted name k [] pieces = omega arith
words_counted name k (n ∷ ns) pieces =
    let here : List Piece = take (piece_count n) pieces in
    let rest : List Piece = drop (piece_count n) pieces in
    let all : told_count here + told_count rest ≡ told_count pieces = sym (count_append here rest) ∙ ap told_count (take-append-drop (piece_count n) pieces) in
    omega (arith, length-append (join_word (name k) k here) (join_from name (suc k) ns rest), word_counted (name k) k here, words_counted name (suc k) ns rest, all)

-- a part that is joined has no more assignments
part_counted : (name : ℕ → Option (List ℕ)) (widths otherwise : List ℕ) (list : List Assignment) → length (join_part name widths otherwise list) ≤ length list
part_counted name widths otherwise list =
    omega (arith, words_counted name 0 widths (pieces_from (pairs_of list) 0 otherwise), few_told (pairs_of list) otherwise, length-map {B = ℕ × ℕ} list (λ a. (a.index, a.word)))

-- ---- lines

module _ (w : Wide) (narrow : List Item) (shape : Shape) where
  states_counted : (k : ℕ) (o : Option (List Assignment)) → length (states_lines w.shape.states k (option_map (join_states w narrow k) o)) ≤ length (states_lines shape.states k o)
  states_counted k None = omega arith
  states_counted k (Some list) =
      omega (arith, part_counted (name_at w.named w.names.states k) w.shape.states (state_words narrow) list, length-map {B = List ℕ} (join_states w narrow k list) (assignment_line w.shape.states), length-map {B = List ℕ} list (assignment_line shape.states))

  frames_counted : (k : ℕ) (frames : List Parts) → length (frame_lines w.shape k (join_frames w narrow k frames)) ≤ length (frame_lines shape k frames)
  frames_counted k [] = omega arith
  frames_counted k (parts ∷ more) =
      let here : List (List ℕ) = map (assignment_line shape.inputs) parts.inputs in
      let there : List (List ℕ) = map (assignment_line w.shape.inputs) (join_inputs w narrow k parts.inputs) in
      let rest : List (List ℕ) = frame_lines shape (suc k) more in
      let rest' : List (List ℕ) = frame_lines w.shape (suc k) (join_frames w narrow (suc k) more) in
      omega (
        arith,
        length-append (states_lines shape.states k parts.states) ((64 ∷ decimal k) ∷ (here ++ rest)),
        length-append here rest,
        length-append (states_lines w.shape.states k (option_map (join_states w narrow k) parts.states)) ((64 ∷ decimal k) ∷ (there ++ rest')),
        length-append there rest',
        states_counted k parts.states,
        frames_counted (suc k) more,
        part_counted (name_at w.named w.names.inputs k) w.shape.inputs (input_words narrow) parts.inputs,
        length-map {B = List ℕ} (join_inputs w narrow k parts.inputs) (assignment_line w.shape.inputs),
        length-map {B = List ℕ} parts.inputs (assignment_line shape.inputs),
      )

  pub lines_counted : (comments : List (List ℕ)) (v : Witness) → length (witness_lines w.shape [] (join_witness w narrow v)) ≤ length (witness_lines shape comments v)
  lines_counted comments v =
      let frames : List (List ℕ) = frame_lines shape 0 v.frames in
      let frames' : List (List ℕ) = frame_lines w.shape 0 (join_frames w narrow 0 v.frames) in
      omega (arith, length-append comments (codes "sat" ∷ (claims_line v.claims ∷ (frames ++ codes "." ∷ []))), length-append frames (codes "." ∷ []), length-append frames' (codes "." ∷ []), frames_counted 0 v.frames)
