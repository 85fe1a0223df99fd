-- Where the pieces of words stand among all pieces.
use Rattle.std.proofs.Common.{◌≡◌, ℕ, zero, suc, ◌+◌, ◌-◌, ◌<◌, ◌≤◌, min, Bool, true, false, ◌||◌, List, [], ◌∷◌, ◌++◌, length, replicate, slice_index, slice_index_or, append_assoc, length-append, inl, inr, refl, sym, ap, ap₂, ◌∙◌, arith}
use Rattle.std.specs.List.{list_any, flat_map, AllByRecursion}
use Rattle.std.proofs.lemmas.Bool.{cases_lt}
use Rattle.std.proofs.lemmas.List.{length-replicate, get_or-replicate, get_or_append_left, get_or-append-add}
use Rattle.std.proofs.lemmas.List.Folds.{list_any-append}
use Rattle.wide.specs.WideModels.{greatest_width}
use Rattle.rejoin.specs.Pieces.{piece_count, widths_from, cut_width, repeated, first_piece}

pub length-widths_from : (m n : ℕ) → length (widths_from m n) ≡ m
length-widths_from zero n = refl
length-widths_from (suc m) n = ap suc (length-widths_from m (n - 64))

-- the widths of all pieces
abbrev pub pieces : List ℕ → List ℕ
pieces widths = flat_map cut_width widths

-- the pieces of a word, with those before and behind them
pub record Segment (widths : List ℕ) (i : ℕ) : Type 0 where
  pub front : List ℕ
  pub back : List ℕ
  pub split : pieces widths ≡ front ++ (cut_width (slice_index widths i) ++ back)
  pub count : length front ≡ first_piece widths i

pub segment : (widths : List ℕ) (i : ℕ) → i < length widths → Segment widths i
segment [] i h = absurd (omega (arith, h))
segment (n ∷ ns) zero h = record { front = []; back = flat_map cut_width ns; split = refl; count = refl }
segment (n ∷ ns) (suc i) h =
    let s = segment ns i (omega arith) in
    record {
      front = cut_width n ++ s.front;
      back = s.back;
      split = ap (λ (l : List ℕ). cut_width n ++ l) s.split ∙ sym (append_assoc (cut_width n) s.front (cut_width (slice_index ns i) ++ s.back));
      count = length-append (cut_width n) s.front ∙ ap₂ (λ (a b : ℕ). a + b) (length-widths_from (piece_count n) n) s.count;
    }

-- all pieces of a word are there
pub within_pieces : (widths : List ℕ) (i : ℕ) → i < length widths → first_piece widths i + piece_count (slice_index widths i) ≤ length (pieces widths)
within_pieces widths i h =
    let s = segment widths i h in
    let own : List ℕ = cut_width (slice_index widths i) in
    omega (arith, s.count, ap length s.split, length-append s.front (own ++ s.back), length-append own s.back, length-widths_from (piece_count (slice_index widths i)) (slice_index widths i))

-- the pieces of a word stand before those of a later one
pub pieces_before : (widths : List ℕ) (i k : ℕ) → i < k → k < length widths → first_piece widths i + piece_count (slice_index widths i) ≤ first_piece widths k
pieces_before [] i k less h = absurd (omega (arith, h))
pieces_before (n ∷ ns) i zero less h = absurd (omega (arith, less))
pieces_before (n ∷ ns) zero (suc k) less h = omega arith
pieces_before (n ∷ ns) (suc i) (suc k) less h = let rest = pieces_before ns i k (omega (arith, less)) (omega (arith, h)) in omega (arith, rest)

-- a piece with an index is one of the word
pub record IsPieceOf (widths : List ℕ) (i j : ℕ) : Type 0 where
  pub least : first_piece widths i ≤ j
  pub most : j < first_piece widths i + piece_count (slice_index widths i)

-- it is one of no other
pub one_owner : (widths : List ℕ) (i k j : ℕ) → i < length widths → k < length widths → IsPieceOf widths i j → IsPieceOf widths k j → i ≡ k
one_owner widths i k j first second one other =
    elim (cases_lt i k) [
      | inl less ↦ absurd (omega (arith, pieces_before widths i k less second, one.most, other.least))
      | inr above ↦
          elim (cases_lt k i) [
            | inl less ↦ absurd (omega (arith, pieces_before widths k i less first, other.most, one.least))
            | inr below ↦ omega (arith, above, below)
          ]
    ]

-- ---- what is said of each piece

-- a piece of a word has what is said of the word
pub said_of_piece : (widths : List ℕ) (flags : List Bool) (i d : ℕ) → length flags ≡ length widths → i < length widths → d < piece_count (slice_index widths i)
    → slice_index_or (repeated widths flags) (first_piece widths i + d) false ≡ slice_index_or flags i false
said_of_piece [] flags i d many h inside = absurd (omega (arith, h))
said_of_piece (n ∷ ns) [] i d many h inside = absurd (omega (arith, many))
said_of_piece (n ∷ ns) (b ∷ bs) zero d many h inside =
    ap (λ (k : ℕ). slice_index_or (replicate (piece_count n) b ++ repeated ns bs) k false) (omega arith)
    ∙ get_or_append_left (replicate (piece_count n) b) (repeated ns bs) false d (omega (arith, inside, length-replicate (piece_count n) b)) ∙ get_or-replicate (piece_count n) d b false inside
said_of_piece (n ∷ ns) (b ∷ bs) (suc i) d many h inside =
    let place : (piece_count n + first_piece ns i) + d ≡ length (replicate (piece_count n) b) + (first_piece ns i + d) = omega (arith, length-replicate (piece_count n) b) in
    ap (λ (k : ℕ). slice_index_or (replicate (piece_count n) b ++ repeated ns bs) k false) place
    ∙ (get_or-append-add (replicate (piece_count n) b) (repeated ns bs) (first_piece ns i + d) false ∙ said_of_piece ns bs i d (omega (arith, many)) (omega (arith, h)) inside)

-- each word has a bit, and few enough
abbrev pub HaveBits : List ℕ → Type 0
HaveBits widths = AllByRecursion (λ n. (0 < n) × (n ≤ greatest_width)) widths

any_of_same : (n : ℕ) (b : Bool) → list_any (λ c. c) (replicate (suc n) b) ≡ b
any_of_same n true = refl
any_of_same zero false = refl
any_of_same (suc n) false = any_of_same n false

some_of_same : (n : ℕ) (b : Bool) → 0 < n → list_any (λ c. c) (replicate n b) ≡ b
some_of_same zero b h = absurd (omega (arith, h))
some_of_same (suc n) b h = any_of_same n b

pub some_piece : (n : ℕ) → 0 < n → 0 < piece_count n
some_piece n h = omega (arith, h)

-- it is said of some piece where it is said of some word
pub said_of_some : (widths : List ℕ) (flags : List Bool) → length flags ≡ length widths → HaveBits widths → list_any (λ b. b) (repeated widths flags) ≡ list_any (λ b. b) flags
said_of_some [] [] many have = refl
said_of_some [] (b ∷ bs) many have = absurd (omega (arith, many))
said_of_some (n ∷ ns) [] many have = refl
said_of_some (n ∷ ns) (b ∷ bs) many have =
    list_any-append (λ c. c) (replicate (piece_count n) b) (repeated ns bs)
    ∙ ap₂ (λ (x y : Bool). x || y) (some_of_same (piece_count n) b (omega (arith, have.0))) (said_of_some ns bs (omega (arith, many)) have.1)

pub has_bits : (widths : List ℕ) (i : ℕ) → i < length widths → HaveBits widths → (0 < slice_index widths i) × (slice_index widths i ≤ greatest_width)
has_bits [] i h have = absurd (omega (arith, h))
has_bits (n ∷ ns) zero h have = have.0
has_bits (n ∷ ns) (suc i) h have = has_bits ns i (omega (arith, h)) have.1

-- so it has a piece, and few enough
pub few_pieces : (widths : List ℕ) (i : ℕ) → i < length widths → HaveBits widths → (0 < piece_count (slice_index widths i)) × (piece_count (slice_index widths i) ≤ 16384)
few_pieces widths i h have =
    let n : ℕ = slice_index widths i in
    let bits = has_bits widths i h have in
    (omega (arith, bits.0), omega (arith, bits.1))

-- its lowest piece is one of it
pub lowest_piece : (widths : List ℕ) (i : ℕ) → i < length widths → HaveBits widths → IsPieceOf widths i (first_piece widths i)
lowest_piece widths i h have =
    let some = few_pieces widths i h have in
    record { least = omega arith; most = omega (arith, some.0) }

-- it has as many bits as the word, or 64
pub lowest_width : (widths : List ℕ) (i : ℕ) → i < length widths → HaveBits widths → slice_index (pieces widths) (first_piece widths i) ≡ min (slice_index widths i) 64
lowest_width widths i h have =
    let s = segment widths i h in
    let n : ℕ = slice_index widths i in
    let own : List ℕ = cut_width n in
    ap₂ slice_index s.split (sym s.count ∙ omega arith) ∙ (get_or-append-add s.front (own ++ s.back) 0 0 ∙ by (piece_count n) n s.back (few_pieces widths i h have).0)
  where
    by : (m n : ℕ) (back : List ℕ) → 0 < m → slice_index (widths_from m n ++ back) 0 ≡ min n 64
    by zero n back some = absurd (omega (arith, some))
    by (suc m) n back some = refl

-- the next word's pieces stand behind them
pub next_word : (widths : List ℕ) (k : ℕ) → k < length widths → first_piece widths (k + 1) ≡ first_piece widths k + piece_count (slice_index widths k)
next_word [] k h = absurd (omega (arith, h))
next_word (n ∷ []) zero h = omega arith
next_word (n ∷ m ∷ ns) zero h = omega arith
next_word (n ∷ ns) (suc k) h =
    let place : suc k + 1 ≡ suc (k + 1) = omega arith in
    let rest = next_word ns k (omega (arith, h)) in
    ap (first_piece (n ∷ ns)) place ∙ omega (arith, rest)

pub first_none : (widths : List ℕ) → first_piece widths 0 ≡ 0
first_none [] = refl
first_none (n ∷ ns) = refl

-- ---- the list of them, as it grows

pub firsts_more : (widths firsts out : List ℕ) (k next : ℕ) → length firsts ≡ k → ((i : ℕ) → i < k → slice_index firsts i ≡ first_piece widths i) → next ≡ first_piece widths k → out ≡ firsts ++ next ∷ []
    → (i : ℕ) → i < k + 1 → slice_index out i ≡ first_piece widths i
firsts_more widths firsts out k next many each is all i less =
    elim (cases_lt i k) [
      | inl before ↦ ap (λ (l : List ℕ). slice_index l i) all ∙ (get_or_append_left firsts (next ∷ []) 0 i (omega (arith, many, before)) ∙ each i before)
      | inr above ↦
          let same : k ≡ i = omega (arith, above, less) in
          let here : i ≡ length firsts + 0 = omega (arith, many, above, less) in
          ap₂ slice_index all here ∙ (get_or-append-add firsts (next ∷ []) 0 0 ∙ (is ∙ ap (first_piece widths) same))
    ]
