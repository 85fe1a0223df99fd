-- The lines of the pieces of a word, by its digits.
use Rattle.std.proofs.Common.{◌≡◌, ℕ, zero, suc, ◌+◌, ◌-◌, ◌*◌, ◌/◌, ◌%◌, ◌<◌, ◌≤◌, ◌^◌, ◌==◌, min, decimal, Bool, false, List, [], ◌∷◌, ◌++◌, Option, length, map, reverse, take, drop, slice_index, append_assoc, append-nil, inl, inr, refl, sym, ap, ap₂, subst, ◌∙◌, arith}
use Rattle.std.specs.List.{list_any}
use Rattle.std.proofs.Math.Nat.{mul_assoc}
use Rattle.std.proofs.Math.Pow.{pow_mono}
use Rattle.std.proofs.Math.Seq.{take-append_seam, drop-append_seam}
use Rattle.std.proofs.lemmas.Bool.{cases_lt, or_parts}
use Rattle.std.proofs.lemmas.List.{reverse-append, map-append, length-map, length-reverse, take-append-drop}
use Rattle.std.proofs.lemmas.List.Folds.{list_any-append}
use Rattle.base.specs.Word.{bits}
use Rattle.base.proofs.BitLemmas.{two_more, length-bits}
use Rattle.witness.specs.Texts.{digit, binary, assignment_line}
use Rattle.base.specs.declared.pen.Pen.{Pen}
use Rattle.base.specs.Lines.{IsLine}
use Rattle.witness.specs.WordStands.{WordJudge}
use Rattle.rejoin.specs.Pieces.{piece_count, pieces_from}
use Rattle.spread.specs.Stands.{Gives, digit_lines}
use Rattle.spread.proofs.PieceLemmas.{Stand, lowest, lowest_bits, next_stands}
use Rattle.spread.proofs.GivingLemmas.{gives_nothing, gives_then}

-- of some lines a front was given, and these are left
pub record Gave {K : Type 0} (written : K → Option (List ℕ)) (failures : K → ℕ) (s t : K) (p q : Pen) (before after : WordJudge) (whole rest : List (List ℕ)) : Type 0 where
  pub done : List (List ℕ)
  pub all : done ++ rest ≡ whole
  pub gives : Gives written failures s t p q before after done

pub gave_none : {K : Type 0} {written : K → Option (List ℕ)} {failures : K → ℕ} {s : K} {p : Pen} {a : WordJudge} {whole : List (List ℕ)} → Gave written failures s s p p a a whole whole
gave_none = record { done = []; all = refl; gives = gives_nothing }

pub gave_more : {K : Type 0} {written : K → Option (List ℕ)} {failures : K → ℕ} {s t u : K} {p q r : Pen} {a b c : WordJudge} {whole rest more : List (List ℕ)} {line : List ℕ}
    → Gave written failures s t p q a b whole rest → Gives written failures t u q r b c (line ∷ []) → rest ≡ line ∷ more → Gave written failures s u p r a c whole more
gave_more {more = more} {line = line} so next parts = record {
  done = so.done ++ line ∷ [];
  all = append_assoc so.done (line ∷ []) more ∙ (ap (λ (ls : List (List ℕ)). so.done ++ ls) (sym parts) ∙ so.all);
  gives = gives_then so.gives next;
}

pub gave_all : {K : Type 0} {written : K → Option (List ℕ)} {failures : K → ℕ} {s t : K} {p q : Pen} {a b : WordJudge} {whole rest : List (List ℕ)} → Gave written failures s t p q a b whole rest → rest ≡ [] → Gives written failures s t p q a b whole
gave_all {written = written} {failures = failures} {s = s} {t = t} {p = p} {q = q} {a = a} {b = b} so none =
    subst (Gives written failures s t p q a b) (sym (append-nil so.done) ∙ (ap (λ (ls : List (List ℕ)). so.done ++ ls) (sym none) ∙ so.all)) so.gives

-- ---- digits from the right

-- the digits that are left behind a piece
pub digits_left : (n : ℕ) → 0 < n → piece_count n ≡ suc (piece_count (n - 64))
digits_left n some = omega (arith, some)

-- the first line is that of the lowest piece
pub lowest_line : (f : ℕ) (digits front piece : List ℕ) → 0 < length digits → front ≡ take (length digits - 64) digits → piece ≡ drop (length digits - 64) digits → length front ≡ length digits - 64
    → digit_lines f (piece_count (length digits)) digits ≡ (decimal f ++ 32 ∷ piece) ∷ digit_lines (f + 1) (piece_count (length front)) front
lowest_line f digits front piece some low high long =
    let next : suc f ≡ f + 1 = omega arith in
    ap (λ (m : ℕ). digit_lines f m digits) (digits_left (length digits) some)
    ∙ (ap₂ (λ (p l : List ℕ). (decimal f ++ 32 ∷ p) ∷ digit_lines (suc f) (piece_count (length digits - 64)) l) (sym high) (sym low)
    ∙ ap₂ (λ (i n : ℕ). (decimal f ++ 32 ∷ piece) ∷ digit_lines i (piece_count n) front) next (sym long))

-- ---- the digits of a word, cut

bits_join : (a b y z : ℕ) → y < 2 ^ a → bits (a + b) (y + 2 ^ a * z) ≡ bits a y ++ bits b z
bits_join zero b y z h = ap₂ bits (omega arith) (omega (arith, h))
bits_join (suc a) b y z h =
    let many : suc a + b ≡ suc (a + b) = omega arith in
    let high : ℕ = 2 ^ a * z in
    let twice : 2 ^ suc a * z ≡ 2 * high = ap (λ (k : ℕ). k * z) (two_more a) ∙ mul_assoc 2 (2 ^ a) z in
    let low : (y + 2 ^ suc a * z) % 2 ≡ y % 2 = omega (arith, twice) in
    let half : (y + 2 ^ suc a * z) / 2 ≡ y / 2 + high = omega (arith, twice) in
    let below : y / 2 < 2 ^ a = omega (arith, h, two_more a) in
    ap (λ (k : ℕ). bits k (y + 2 ^ suc a * z)) many
    ∙ (ap₂ (λ (i j : ℕ). (i == 1) ∷ bits (a + b) j) low half ∙ ap (λ (l : List Bool). (y % 2 == 1) ∷ l) (bits_join a b (y / 2) z below))

-- its digits are those above 64, and behind them the others
pub binary_parts : (n x : ℕ) → x < 2 ^ n → binary n x ≡ binary (n - 64) (x / 2 ^ 64) ++ binary (min n 64) (x % 2 ^ 64)
binary_parts n x h =
    elim (cases_lt n 64) [
      | inl less ↦
          let few : n ≤ 64 = omega (arith, less) in
          let most : 2 ^ n ≤ 2 ^ 64 = pow_mono few in
          let none : n - 64 ≡ 0 = omega (arith, less) in
          let all : min n 64 ≡ n = omega (arith, less) in
          let same : x % 2 ^ 64 ≡ x = omega (arith, h, most) in
          sym (ap₂ (λ (k m : ℕ). binary k (x / 2 ^ 64) ++ binary m (x % 2 ^ 64)) none all ∙ ap (binary n) same)
      | inr above ↦
          let high : ℕ = x / 2 ^ 64 in
          let low : ℕ = x % 2 ^ 64 in
          let most : min n 64 ≡ 64 = omega (arith, above) in
          let long : n ≡ 64 + (n - 64) = omega (arith, above) in
          let parts : x ≡ low + 2 ^ 64 * high = omega arith in
          let joined : bits n x ≡ bits 64 low ++ bits (n - 64) high = ap₂ bits long parts ∙ bits_join 64 (n - 64) low high (omega arith) in
          ap (λ (bs : List Bool). map digit (reverse bs)) joined
          ∙ (ap (map digit) (reverse-append (bits 64 low) (bits (n - 64) high))
          ∙ (map-append digit (reverse (bits (n - 64) high)) (reverse (bits 64 low)) ∙ ap (λ (m : ℕ). binary (n - 64) high ++ binary m low) (sym most)))
    ]

pub length-binary : (n x : ℕ) → length (binary n x) ≡ n
length-binary n x = length-map (reverse (bits n x)) digit ∙ (length-reverse (bits n x) ∙ length-bits n x)

pub binary_front : (n x : ℕ) → x < 2 ^ n → take (length (binary n x) - 64) (binary n x) ≡ binary (n - 64) (x / 2 ^ 64)
binary_front n x h =
    let front : List ℕ = binary (n - 64) (x / 2 ^ 64) in
    let count : length (binary n x) - 64 ≡ length front = ap (λ (k : ℕ). k - 64) (length-binary n x) ∙ sym (length-binary (n - 64) (x / 2 ^ 64)) in
    ap₂ take count (binary_parts n x h) ∙ take-append_seam front (binary (min n 64) (x % 2 ^ 64))

pub binary_back : (n x : ℕ) → x < 2 ^ n → drop (length (binary n x) - 64) (binary n x) ≡ binary (min n 64) (x % 2 ^ 64)
binary_back n x h =
    let front : List ℕ = binary (n - 64) (x / 2 ^ 64) in
    let count : length (binary n x) - 64 ≡ length front = ap (λ (k : ℕ). k - 64) (length-binary n x) ∙ sym (length-binary (n - 64) (x / 2 ^ 64)) in
    ap₂ drop count (binary_parts n x h) ∙ drop-append_seam front (binary (min n 64) (x % 2 ^ 64))

-- so the lines by its digits are those of its pieces
pub lines_of_word : (all : List ℕ) (f m n x : ℕ) → Stand all f m n x → digit_lines f m (binary n x) ≡ map (assignment_line all) (pieces_from f m x)
lines_of_word all f zero n x s = refl
lines_of_word all f (suc m) n x s =
    let width : min n 64 ≡ slice_index all f = sym (lowest_bits all f m n x s) in
    let line : decimal f ++ 32 ∷ drop (length (binary n x) - 64) (binary n x) ≡ assignment_line all (lowest f x) =
    ap (λ (l : List ℕ). decimal f ++ 32 ∷ l) (binary_back n x s.fits) ∙ (ap (λ (k : ℕ). decimal f ++ 32 ∷ binary k (x % 2 ^ 64)) width ∙ sym (append-nil (decimal f ++ 32 ∷ binary (slice_index all f) (x % 2 ^ 64)))) in
    ap₂ (λ (l : List ℕ) (ls : List (List ℕ)). l ∷ ls) line
    (ap (digit_lines (suc f) m) (binary_front n x s.fits) ∙ lines_of_word all (suc f) m (n - 64) (x / 2 ^ 64) (next_stands all f m n x s))

-- a front of a line has no byte 10
pub line_front : (line front : List ℕ) (n : ℕ) → front ≡ take n line → IsLine line → IsLine front
line_front line front n is none =
    let whole : list_any (λ b. b == 10) (take n line ++ drop n line) ≡ false = ap (list_any (λ b. b == 10)) (take-append-drop n line) ∙ none in
    ap (list_any (λ b. b == 10)) is ∙ (or_parts (list_any (λ b. b == 10) (take n line)) _ (sym (list_any-append (λ b. b == 10) (take n line) (drop n line)) ∙ whole)).0
