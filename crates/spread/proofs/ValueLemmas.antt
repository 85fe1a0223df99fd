-- The digits of a word, as the code tests them.
use Rattle.std.proofs.Common.{◌≡◌, ℕ, ◌^◌, min, decimal, slice_index, append-nil, inl, inr, ap, ap₂, ◌<◌, ◌≤◌, ◌==◌, true, List, [], ◌∷◌, ◌++◌, Option, Some, None, Result, Ok, Err, map, reverse, length, refl, sym, subst, ◌∙◌}
use Rattle.std.specs.List.{list_all}
use Rattle.std.proofs.lemmas.Bool.{ne_eqb, eq-eqb, lt-ltb, le-ltb}
use Rattle.base.specs.Word.{word}
use Rattle.base.specs.Decimals.{number_of}
use Rattle.base.proofs.DecimalLemmas.{chosen}
use Rattle.btor2.specs.Symbols.{is_symbol}
use Rattle.witness.specs.declared.why.Why.{Why}
use Rattle.witness.specs.declared.why.Why.TheVariants as why
use Rattle.witness.specs.Texts.{Assignment, binary, symbol_part, assignment_line}
use Rattle.witness.specs.Admits.{is_bit, value_of, cut_at_space, with_symbol, with_value, with_index, assignment_at}
use Rattle.witness.specs.WordValues.{word_with, word_behind}
use Rattle.witness.proofs.PieceLemmas.{value_is_binary}
use Rattle.witness.proofs.WordValueLemmas.{known_are_values, known_not_x}
use Rattle.base.proofs.DecimalLemmas.{none_of}
use Rattle.rejoin.specs.Pieces.{piece_count, first_piece, pieces_from, split_assignment}
use Rattle.spread.specs.Words.{HasDigits}
use Rattle.spread.specs.Passing.{faulty_line, faulty_rest, index_named, assigned_lines}
use Rattle.spread.specs.Stands.{digit_lines}
use Rattle.spread.proofs.WidthLemmas.{pieces, segment}
use Rattle.spread.proofs.AssignedLemmas.{value_gives, is_faulty}
use Rattle.spread.proofs.WordLemmas.{length-binary, lines_of_word}

-- no name behind it
pub with_nothing : (r : Result ℕ Why) → word_with None r ≡ r
with_nothing (Ok x) = refl
with_nothing (Err w) = refl

-- as many bytes as the word has bits, each one of a value
module _ (width : ℕ) (bytes : List ℕ) where
  pub too_long : (length bytes ≡ width → ⊥) → value_of width bytes ≡ Err why.BadValue
  unfolding value_of
  too_long other = rw (ne_eqb (length bytes) width other) refl

  pub known_word : length bytes ≡ width → list_all is_bit bytes ≡ true → HasDigits width (value_of width bytes) bytes
  unfolding value_of
  known_word long all =
      let read : value_of width bytes ≡ Ok (word (reverse (map (λ b. b == 49) bytes))) = rw (eq-eqb (length bytes) width long, known_are_values bytes all, none_of is_bit 120 bytes known_not_x all) refl in
      record { word = word (reverse (map (λ b. b == 49) bytes)); is = read; digits_are = (value_is_binary width bytes (word (reverse (map (λ b. b == 49) bytes))) read).spelled }

-- ---- the whole line

-- a line that begins with the index of a word
pub record IsAt (widths line : List ℕ) (i : ℕ) : Type 0 where
  pub named : index_named line ≡ i
  pub alone : assignment_at widths [] line ≡ with_value widths [] i (cut_at_space line).1

pub is_at : (widths line : List ℕ) (i : ℕ) → number_of (cut_at_space line).0 ≡ Some i → i < length widths → IsAt widths line i
unfolding assignment_at
is_at widths line i e within = record { named = rw e refl; alone = rw (e, lt-ltb i (length widths) within) refl }

-- one that does not
pub no_index : (widths line : List ℕ) → ((i : ℕ) → number_of (cut_at_space line).0 ≡ Some i → length widths ≤ i) → assignment_at widths [] line ≡ Err why.BadIndex
unfolding assignment_at
no_index widths line none = by (number_of (cut_at_space line).0) refl
  where
    by : (o : Option ℕ) → number_of (cut_at_space line).0 ≡ o → with_index widths [] (cut_at_space line).1 (number_of (cut_at_space line).0) ≡ Err why.BadIndex
    by None e = rw e refl
    by (Some i) e = rw (e, le-ltb i (length widths) (none i e)) refl

-- what stands behind the index
pub record SaysWord (widths : List ℕ) (i x : ℕ) (rest : Option (List ℕ)) : Type 0 where
  pub one : Assignment
  pub is : with_value widths [] i rest ≡ Ok (one ∷ [])
  pub index : one.index ≡ i
  pub word : one.word ≡ x

by_name : (widths : List ℕ) (i x : ℕ) (rest : List ℕ) (name : Option (List ℕ)) (value : Result ℕ Why) → word_with name value ≡ Ok x → (with_value widths [] i (Some rest) ≡ with_symbol [] i name value) → SaysWord widths i x (Some rest)
by_name widths i x rest name (Err w) h is = absurd cc
by_name widths i x rest None (Ok y) h is = record { one = record { index = i; word = y; symbol = None }; is = is; index = refl; word = cc }
by_name widths i x rest (Some bytes) (Ok y) h is =
    elim (chosen (is_symbol bytes) (Ok y) (Err why.BadSymbol) (Ok x) h) [
      | inl e ↦ record { one = record { index = i; word = y; symbol = Some bytes }; is = is ∙ rw (e.0) refl; index = refl; word = cc (e.1) }
      | inr e ↦ absurd (cc (e.1))
    ]

pub says_word : (widths : List ℕ) (i x : ℕ) (rest : Option (List ℕ)) → word_behind (slice_index widths i) rest ≡ Ok x → SaysWord widths i x rest
says_word widths i x None h = absurd cc
says_word widths i x (Some rest) h = by_name widths i x rest (cut_at_space rest).1 (value_of (slice_index widths i) (cut_at_space rest).0) h refl

no_name : (i : ℕ) (w : Why) (name : Option (List ℕ)) (value : Result ℕ Why) → word_with name value ≡ Err w → with_symbol [] i name value ≡ Err w
no_name i w name (Err v) h = cc
no_name i w None (Ok y) h = absurd cc
no_name i w (Some bytes) (Ok y) h =
    elim (chosen (is_symbol bytes) (Ok y) (Err why.BadSymbol) (Err w) h) [
      | inl e ↦ absurd (cc (e.1))
      | inr e ↦ rw (e.0) (cc (e.1))
    ]

pub says_none : (widths : List ℕ) (i : ℕ) (w : Why) (rest : Option (List ℕ)) → word_behind (slice_index widths i) rest ≡ Err w → with_value widths [] i rest ≡ Err w
says_none widths i w None h = cc
says_none widths i w (Some rest) h = no_name i w (cut_at_space rest).1 (value_of (slice_index widths i) (cut_at_space rest).0) h

-- ---- the lines that go on for it

module _ (widths line digits : List ℕ) (i : ℕ) (number : number_of (cut_at_space line).0 ≡ Some i) (within : i < length widths) where
  -- the lines by the digits
  pub word_given : HasDigits (slice_index widths i) (word_behind (slice_index widths i) (cut_at_space line).1) digits → digit_lines (first_piece widths i) (piece_count (length digits)) digits ≡ assigned_lines widths line (assignment_at widths [] line)
  word_given has =
      let n : ℕ = slice_index widths i in
      let at = is_at widths line i number within in
      let says = says_word widths i has.word (cut_at_space line).1 has.is in
      let a : Assignment = says.one in
      let read : assignment_at widths [] line ≡ Ok (a ∷ []) = at.alone ∙ says.is in
      let valid = value_gives widths i (cut_at_space line).1 (a ∷ []) within says.is in
      let same : valid.one ≡ a = cc (valid.is) in
      let fits : a.word < 2 ^ n = subst (λ (b : Assignment). b.word < 2 ^ n) same (subst (λ (j : ℕ). valid.one.word < 2 ^ slice_index widths j) valid.index valid.valid.word) in
      let s = segment widths i within in
      let long : length digits ≡ n = ap length has.digits_are ∙ length-binary n has.word in
      ap₂ (λ (k : ℕ) (l : List ℕ). digit_lines (first_piece widths i) (piece_count k) l) long (has.digits_are ∙ ap (binary n) (sym says.word))
      ∙ (lines_of_word (pieces widths) (first_piece widths i) (piece_count n) n a.word (record { front = s.front; back = s.back; split = s.split; count = s.count; fits = fits })
      ∙ (ap (map (assignment_line (pieces widths))) (ap (λ (j : ℕ). pieces_from (first_piece widths j) (piece_count (slice_index widths j)) a.word) (sym says.index) ∙ sym (append-nil (split_assignment widths a)))
      ∙ ap (assigned_lines widths line) (sym read)))

  -- a faulty line for a faulty line
  pub fault_given : (w : Why) → word_behind (slice_index widths i) (cut_at_space line).1 ≡ Err w
      → (decimal (first_piece widths i) ++ symbol_part (faulty_rest (min (slice_index widths i) 64) w)) ∷ [] ≡ assigned_lines widths line (assignment_at widths [] line)
  fault_given w h =
      let at = is_at widths line i number within in
      let read = says_none widths i w (cut_at_space line).1 h in
      let is = is_faulty widths i (cut_at_space line).1 w read in
      ap (λ (l : List ℕ). l ∷ []) (sym is.line) ∙ (ap (λ (j : ℕ). faulty_line widths j w ∷ []) (sym at.named) ∙ ap (assigned_lines widths line) (sym (at.alone ∙ read)))
