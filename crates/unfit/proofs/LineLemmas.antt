-- Lines of words: the line of an assignment is parsed, and the lines of a part are those of its words.
use Rattle.std.proofs.Common.{◌≡◌, ℕ, suc, ◌+◌, ◌-◌, ◌<◌, ◌≤◌, ◌^◌, Bool, true, false, cond, ◌&&◌, filter, List, [], ◌∷◌, ◌++◌, Option, Some, None, unwrap_or, length, map, reverse, take, drop, get_or, slice_index, decimal, refl, sym, ap, ap₂, ◌∙◌, append_assoc, append-nil, arith, inl, inr, drop-cons, add-one}
use Rattle.std.proofs.lemmas.Bool.{lt-ltb, le-ltb}
use Rattle.std.proofs.lemmas.List.{drop_all, map-append, length-map, length-reverse, reverse-reverse}
use Rattle.std.proofs.lemmas.List.Concat.{flat_map-append}
use Rattle.std.proofs.lemmas.List.Elements.{filter-append}
use Rattle.base.specs.Decimals.{number_of}
use Rattle.base.specs.Lines.{HasNone, text_of_lines}
use Rattle.base.specs.Word.{bits, word}
use Rattle.base.proofs.BitLemmas.{word-bits, length-bits}
use Rattle.base.proofs.DecimalLemmas.{number_of-decimal, decimal_without, digits_without}
use Rattle.witness.specs.Texts.{Assignment, IsAssignment, assignment_line, binary, digit, symbol_part}
use Rattle.witness.specs.Admits.{cut_at_space, is_one_bit}
use Rattle.witness.specs.KeptLines.{AreNarrow}
use Rattle.witness.proofs.PieceLemmas.{cut_at_space-parts, binary_digits, bits_of_digits}
use Rattle.rejoin.specs.Pieces.{piece_count, owner}
use Rattle.unfit.specs.declared.told_pieces.Piece.{Piece}
use Rattle.unfit.specs.Joined.{Fronts, front_at, is_told, any_told, joined_word, join_word, join_from}
use Rattle.unfit.specs.Unfitted.{line_with, told_lines}
use Rattle.unfit.specs.Steps.{CutsAtSpace, told_text, word_text}

-- ---- a line is parsed

abbrev Parts : Type 0
Parts = List ℕ × Option (List ℕ)

cut_by : (bytes front rest : List ℕ) → CutsAtSpace bytes front rest → (behind : Option (List ℕ)) × ((cut_at_space bytes ≡ (front, behind)) × (unwrap_or behind [] ≡ rest))
cut_by bytes front rest h =
    elim h.1 [
      | inl e ↦ (Some rest, (ap cut_at_space e ∙ cut_at_space-parts front (Some rest) h.0, refl))
      | inr e ↦ (None, (ap cut_at_space (e.0 ∙ sym (append-nil front)) ∙ cut_at_space-parts front None h.0, sym e.1))
    ]

-- what stands before the space and behind it is that of a known cut
cut_is : (bytes front rest token : List ℕ) (behind : Option (List ℕ)) → CutsAtSpace bytes front rest → bytes ≡ token ++ symbol_part behind → HasNone 32 token → (front ≡ token) × (rest ≡ unwrap_or behind [])
cut_is bytes front rest token behind h is none =
    let one = cut_by bytes front rest h in
    let same : (front, one.0) ≡ (token, behind) = sym one.1.0 ∙ ap cut_at_space is ∙ cut_at_space-parts token behind none in
    (ap (λ (c : Parts). c.0) same, sym one.1.1 ∙ ap (λ (c : Parts). unwrap_or c.1 []) same)

name_or_none : (name : Option (List ℕ)) → Option (List ℕ)
name_or_none name = name

pub word_of_binary : (width x : ℕ) → x < 2 ^ width → word (reverse (map is_one_bit (binary width x))) ≡ x
word_of_binary width x fits = ap (λ (bs : List Bool). word (reverse bs)) (bits_of_digits (reverse (bits width x))) ∙ ap word (reverse-reverse (bits width x)) ∙ word-bits width x fits

length-binary : (width x : ℕ) → length (binary width x) ≡ width
length-binary width x = length-map (reverse (bits width x)) digit ∙ length-reverse (bits width x) ∙ length-bits width x

pub parsed : (widths : List ℕ) (a : Assignment) (line index rest digits behind : List ℕ) (n x : ℕ) → AreNarrow widths → IsAssignment widths a → line ≡ assignment_line widths a → CutsAtSpace line index rest → CutsAtSpace rest digits behind
    → n ≡ unwrap_or (number_of index) 0 → (length digits ≤ 64 → x ≡ word (reverse (map is_one_bit digits))) → (n ≡ a.index) × (x ≡ a.word)
parsed widths a line index rest digits behind n x narrow is spelled first second number value =
    let few = narrow.few in
    let within = is.index in
    let small : a.index < 2 ^ 64 = omega (arith, few, within) in
    let width : ℕ = slice_index widths a.index in
    let text : List ℕ = binary width a.word ++ symbol_part a.symbol in
    let one = cut_is line index rest (decimal a.index) (Some text) first (spelled ∙ append_assoc (decimal a.index) (32 ∷ binary width a.word) (symbol_part a.symbol)) (decimal_without 32 a.index (omega arith) small) in
    let two = cut_is rest digits behind (binary width a.word) a.symbol second one.1 (digits_without 32 (binary width a.word) (omega arith) (binary_digits width a.word)) in
    let most : width ≤ 64 = narrow.widths a.index within in
    let short : length digits ≤ 64 = omega (arith, ap length two.0, length-binary width a.word, most) in (
      number ∙ ap (λ (token : List ℕ). unwrap_or (number_of token) 0) one.0 ∙ ap (λ (o : Option ℕ). unwrap_or o 0) (number_of-decimal a.index small),
      value short ∙ ap (λ (l : List ℕ). word (reverse (map is_one_bit l))) two.0 ∙ word_of_binary width a.word is.word,
    )

-- ---- the lines of a part

line_of_word : (fronts : Fronts) (f : ℕ) (widths : List ℕ) (k n : ℕ) (name : Option (List ℕ)) (pieces : List Piece) (t b : Bool) → n ≡ get_or widths k 0
    → text_of_lines (map (line_with fronts f widths) (cond b (cond t (record { index = k; word = joined_word pieces; symbol = name } ∷ []) []) [])) ≡ cond (t && b) (word_text (front_at fronts f k) n name pieces) []
line_of_word fronts f widths k n name pieces true false is = refl
line_of_word fronts f widths k n name pieces false false is = refl
line_of_word fronts f widths k n name pieces false true is = refl
line_of_word fronts f widths k n name pieces true true is =
    append-nil (line_with fronts f widths (record { index = k; word = joined_word pieces; symbol = name }) ++ 10 ∷ [])
    ∙ ap (λ (m : ℕ). ((front_at fronts f k ++ 32 ∷ binary m (joined_word pieces)) ++ symbol_part name) ++ 10 ∷ []) (sym is)
    ∙ append_assoc (front_at fronts f k ++ 32 ∷ binary n (joined_word pieces)) (symbol_part name) (10 ∷ [])
    ∙ ap (λ (l : List ℕ). l ++ (symbol_part name ++ 10 ∷ [])) (sym (append_assoc (front_at fronts f k) (32 ∷ []) (binary n (joined_word pieces))))

kept_word : (fronts : Fronts) (f k word : ℕ) (name : Option (List ℕ)) (b : Bool)
    → filter (λ (a : Assignment). is_told fronts f a.index) (cond b (record { index = k; word = word; symbol = name } ∷ []) []) ≡ cond b (cond (is_told fronts f k) (record { index = k; word = word; symbol = name } ∷ []) []) []
kept_word fronts f k word name true = refl
kept_word fronts f k word name false = refl

-- the lines of words in frame f from the one with an index on
abbrev pub lines_from : Fronts → ℕ → (ℕ → Option (List ℕ)) → List ℕ → ℕ → List Piece → List ℕ
lines_from fronts f name widths k pieces = text_of_lines (told_lines fronts f widths (join_from name k (drop k widths) pieces))

pub part_more : (fronts : Fronts) (f : ℕ) (name : ℕ → Option (List ℕ)) (widths : List ℕ) (k n : ℕ) (pieces here behind : List Piece) → k < length widths → n ≡ get_or widths k 0 → here ≡ take (piece_count n) pieces → behind ≡ drop (piece_count n) pieces
    → lines_from fronts f name widths k pieces ≡ told_text (is_told fronts f k) (front_at fronts f k) n (name k) here ++ lines_from fronts f name widths (k + 1) behind
part_more fronts f name widths k n pieces here behind h is front rest =
    let one : drop k widths ≡ n ∷ drop (k + 1) widths = drop-cons widths k 0 h ∙ ap₂ (λ (m : ℕ) (l : List ℕ). m ∷ l) (sym is) (ap (λ (j : ℕ). drop j widths) (sym (add-one k))) in
    let kept : List Assignment → List Assignment = filter (λ (a : Assignment). is_told fronts f a.index) in
    let line : Assignment → List ℕ = line_with fronts f widths in
    let word : List Assignment = join_word (name k) k (take (piece_count n) pieces) in
    let more : List Assignment = join_from name (suc k) (drop (k + 1) widths) (drop (piece_count n) pieces) in
    ap (λ (l : List ℕ). text_of_lines (told_lines fronts f widths (join_from name k l pieces))) one
    ∙ ap (λ (l : List Assignment). text_of_lines (map line l)) (filter-append (λ (a : Assignment). is_told fronts f a.index) word more)
    ∙ ap text_of_lines (map-append line (kept word) (kept more))
    ∙ flat_map-append (λ line. line ++ 10 ∷ []) (map line (kept word)) (map line (kept more))
    ∙ ap₂ (λ (a b : List ℕ). a ++ b)
    (ap (λ (l : List Assignment). text_of_lines (map line l)) (kept_word fronts f k (joined_word (take (piece_count n) pieces)) (name k) (any_told (take (piece_count n) pieces)))
    ∙ line_of_word fronts f widths k n (name k) (take (piece_count n) pieces) (is_told fronts f k) (any_told (take (piece_count n) pieces)) is ∙ ap (told_text (is_told fronts f k) (front_at fronts f k) n (name k)) (sym front))
    (ap₂ (λ (j : ℕ) (ps : List Piece). text_of_lines (told_lines fronts f widths (join_from name j (drop (k + 1) widths) ps))) (sym (add-one k)) (sym rest))

pub part_end : (fronts : Fronts) (f : ℕ) (name : ℕ → Option (List ℕ)) (widths : List ℕ) (k : ℕ) (pieces : List Piece) → length widths ≤ k → lines_from fronts f name widths k pieces ≡ []
part_end fronts f name widths k pieces h = ap (λ (l : List ℕ). text_of_lines (told_lines fronts f widths (join_from name k l pieces))) (drop_all k widths h)

-- ---- the word that a piece is of

module _ (ws : List ℕ) (i n rest whole : ℕ) (h : i < length ws) (is : n ≡ get_or ws i 0) (so : whole ≡ i + owner (drop i ws) rest) where
  split : whole ≡ i + owner (n ∷ drop (i + 1) ws) rest
  split = so ∙ ap (λ (l : List ℕ). i + owner l rest) (drop-cons ws i 0 h ∙ ap₂ (λ (m : ℕ) (l : List ℕ). m ∷ l) (sym is) (ap (λ (j : ℕ). drop j ws) (sym (add-one i))))

  pub owner_here : rest < piece_count n → i ≡ whole
  owner_here lt = sym (split ∙ ap (λ (b : Bool). i + cond b 0 (suc (owner (drop (i + 1) ws) (rest - piece_count n)))) (lt-ltb rest (piece_count n) lt) ∙ omega arith)

  pub owner_behind : piece_count n ≤ rest → whole ≡ (i + 1) + owner (drop (i + 1) ws) (rest - piece_count n)
  owner_behind le = split ∙ ap (λ (b : Bool). i + cond b 0 (suc (owner (drop (i + 1) ws) (rest - piece_count n)))) (le-ltb rest (piece_count n) le) ∙ omega arith

pub owner_past : (ws : List ℕ) (i rest whole : ℕ) → length ws ≤ i → i ≤ length ws → whole ≡ i + owner (drop i ws) rest → length ws ≡ whole
owner_past ws i rest whole h most so = sym (so ∙ ap (λ (l : List ℕ). i + owner l rest) (drop_all i ws h) ∙ omega (arith, h, most))
