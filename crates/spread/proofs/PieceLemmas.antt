-- The lines of a word's pieces are admitted one after the other.
use Rattle.std.proofs.Common.{◌≡◌, ℕ, zero, suc, ◌+◌, ◌-◌, ◌*◌, ◌/◌, ◌%◌, ◌^◌, ◌<◌, ◌≤◌, ◌==◌, min, Bool, true, false, ◌||◌, List, [], ◌∷◌, ◌++◌, None, Ok, length, map, slice_index, append_assoc, append-nil, length-append, inl, inr, refl, sym, ap, ap₂, subst, ◌∙◌, arith}
use Rattle.std.specs.List.{AllByRecursion}
use Rattle.std.proofs.lemmas.Bool.{cases_lt, cases_eq, ne_eqb, eq-eqb, or_from}
use Rattle.std.proofs.lemmas.Nat.{pow-add}
use Rattle.std.proofs.Math.Pow.{pow_mono}
use Rattle.std.proofs.lemmas.List.{get_or-append-add}
use Rattle.std.proofs.lemmas.List.Folds.{list_any-append}
use Rattle.witness.specs.Texts.{Shape, Assignment, assignment_line, IsAssignment, most_lines}
use Rattle.witness.specs.Readings.{Reading, so_far, lines_behind}
use Rattle.witness.specs.Admits.{Read, admit, word_reader}
use Rattle.witness.proofs.AssignmentLemmas.{stands_in}
use Rattle.witness.proofs.ReadingLemmas.{line_admitted}
use Rattle.rejoin.specs.Pieces.{piece_count, widths_from, first_piece, pieces_from, split_assignment, split_part}
use Rattle.spread.proofs.WidthLemmas.{IsPieceOf, one_owner}

-- ---- which indices the pieces have

-- so many from one on have these indices
pub among_pieces : (f m x j : ℕ) → f ≤ j → j < f + m → stands_in j (pieces_from f m x) ≡ true
among_pieces f zero x j least most = absurd (omega (arith, least, most))
among_pieces f (suc m) x j least most =
    elim (cases_eq f j) [
      | inl e ↦ rw (eq-eqb f j e) refl
      | inr n ↦ rw (ne_eqb f j n) (among_pieces (suc f) m (x / 2 ^ 64) j (omega (arith, least, n)) (omega (arith, most)))
    ]

-- and no others
pub beside_pieces : (f m x j : ℕ) → (f ≤ j → j < f + m → ⊥) → stands_in j (pieces_from f m x) ≡ false
beside_pieces f zero x j out = refl
beside_pieces f (suc m) x j out =
    or_from (f == j) _ (ne_eqb f j (λ e. out (omega (arith, e)) (omega (arith, e)))) (beside_pieces (suc f) m (x / 2 ^ 64) j (λ least most. out (omega (arith, least)) (omega (arith, most))))

-- a piece of a word stands among those of an assignment where that is of the word
pub stands_in-assignment : (widths : List ℕ) (a : Assignment) (i j : ℕ) → a.index < length widths → i < length widths → IsPieceOf widths i j → stands_in j (split_assignment widths a) ≡ (a.index == i)
stands_in-assignment widths a i j first second is =
    let own : ℕ = first_piece widths a.index in
    let count : ℕ = piece_count (slice_index widths a.index) in
    elim (cases_eq a.index i) [
      | inl e ↦
          let here : IsPieceOf widths a.index j = subst (λ (k : ℕ). IsPieceOf widths k j) (sym e) is in
          among_pieces own count a.word j here.least here.most ∙ sym (eq-eqb a.index i e)
      | inr n ↦
          beside_pieces own count a.word j (λ least most. n (one_owner widths a.index i j first second (record { least = least; most = most }) is)) ∙ sym (ne_eqb a.index i n)
    ]

-- of assignments of words that are there
abbrev pub AreThere : List ℕ → List Assignment → Type 0
AreThere widths list = AllByRecursion (λ a. a.index < length widths) list

pub stands_in-part : (widths : List ℕ) (list : List Assignment) (i j : ℕ) → AreThere widths list → i < length widths → IsPieceOf widths i j → stands_in j (split_part widths list) ≡ stands_in i list
stands_in-part widths [] i j there within is = refl
stands_in-part widths (a ∷ list) i j there within is =
    list_any-append (λ (b : Assignment). b.index == j) (split_assignment widths a) (split_part widths list)
    ∙ ap₂ (λ (x y : Bool). x || y) (stands_in-assignment widths a i j there.0 within is) (stands_in-part widths list i j there.1 within is)

-- ---- the words of pieces

low_fits : (n x : ℕ) → x < 2 ^ n → x % 2 ^ 64 < 2 ^ min n 64
low_fits n x h =
    elim (cases_lt n 64) [
      | inl less ↦ let same : min n 64 ≡ n = omega (arith, less) in subst (λ (k : ℕ). x % 2 ^ 64 < 2 ^ k) (sym same) (omega (arith, h))
      | inr above ↦ let same : min n 64 ≡ 64 = omega (arith, above) in subst (λ (k : ℕ). x % 2 ^ 64 < 2 ^ k) (sym same) (omega arith)
    ]

high_fits : (n x : ℕ) → x < 2 ^ n → x / 2 ^ 64 < 2 ^ (n - 64)
high_fits n x h =
    elim (cases_lt n 64) [
      | inl less ↦
          let none : n - 64 ≡ 0 = omega (arith, less) in
          let few : n ≤ 64 = omega (arith, less) in
          let most : 2 ^ n ≤ 2 ^ 64 = pow_mono few in
          subst (λ (k : ℕ). x / 2 ^ 64 < 2 ^ k) (sym none) (omega (arith, h, most))
      | inr above ↦
          let whole : n ≡ (n - 64) + 64 = omega (arith, above) in
          let parts : 2 ^ n ≡ 2 ^ (n - 64) * 2 ^ 64 = ap (λ (k : ℕ). 2 ^ k) whole ∙ pow-add 2 (n - 64) 64 in
          omega (arith, h, parts)
    ]

-- ---- the pieces of a word, one behind the other

-- pieces have these widths, among those of all; the bits that are left fit
pub record Stand (all : List ℕ) (f m n x : ℕ) : Type 0 where
  pub front : List ℕ
  pub back : List ℕ
  pub split : all ≡ front ++ (widths_from m n ++ back)
  pub count : length front ≡ f
  pub fits : x < 2 ^ n

pub next_stands : (all : List ℕ) (f m n x : ℕ) → Stand all f (suc m) n x → Stand all (suc f) m (n - 64) (x / 2 ^ 64)
next_stands all f m n x s =
    record {
      front = s.front ++ min n 64 ∷ [];
      back = s.back;
      split = s.split ∙ sym (append_assoc s.front (min n 64 ∷ []) (widths_from m (n - 64) ++ s.back));
      count = length-append s.front (min n 64 ∷ []) ∙ omega (arith, s.count);
      fits = high_fits n x s.fits;
    }

abbrev pub lowest : ℕ → ℕ → Assignment
lowest f x = record { index = f; word = x % 2 ^ 64; symbol = None }

-- the lowest of them has as many bits as are left, or 64
pub lowest_bits : (all : List ℕ) (f m n x : ℕ) → Stand all f (suc m) n x → slice_index all f ≡ min n 64
lowest_bits all f m n x s =
    let more : List ℕ = widths_from m (n - 64) ++ s.back in
    ap₂ slice_index s.split (sym s.count ∙ omega arith) ∙ get_or-append-add s.front (min n 64 ∷ more) 0 0

pub lowest_is : (all : List ℕ) (f m n x : ℕ) → Stand all f (suc m) n x → IsAssignment all (lowest f x)
lowest_is all f m n x s =
    let more : List ℕ = widths_from m (n - 64) ++ s.back in
    record {
      index = omega (arith, s.count, ap length s.split, length-append s.front (min n 64 ∷ more));
      word = subst (λ (k : ℕ). x % 2 ^ 64 < 2 ^ k) (sym (lowest_bits all f m n x s)) (low_fits n x s.fits);
      symbol = tt;
    }

-- at a place that goes by what was read of the part, each line of an assignment that may stand there is admitted
module _ (shape : Shape) (all : List ℕ) (at : List Assignment → Read) (May : ℕ → Type 0)
    (step : (before : List Assignment) (a : Assignment) → IsAssignment all a → May a.index → stands_in a.index before ≡ false → admit shape (at before) (assignment_line all a) ≡ Ok (at (before ++ a ∷ []))) where
  pub pieces_go : (k f m n x : ℕ) (before : List Assignment) → k + m ≤ most_lines → Stand all f m n x → ((j : ℕ) → f ≤ j → j < f + m → May j × (stands_in j before ≡ false))
      → lines_behind (word_reader shape) (so_far k (at before)) (map (assignment_line all) (pieces_from f m x)) ≡ so_far (k + m) (at (before ++ pieces_from f m x))
  pieces_go k f zero n x before room s free = ap₂ (λ (c : ℕ) (l : List Assignment). so_far c (at l)) (omega arith) (sym (append-nil before))
  pieces_go k f (suc m) n x before room s free =
      let a : Assignment = lowest f x in
      let here = free f (omega arith) (omega arith) in
      let others : List Assignment = pieces_from (suc f) m (x / 2 ^ 64) in
      let admits : admit shape (at before) (assignment_line all a) ≡ Ok (at (before ++ a ∷ [])) = step before a (lowest_is all f m n x s) here.0 here.1 in
      ap (λ (g : Reading Read). lines_behind (word_reader shape) g (map (assignment_line all) others)) (line_admitted (word_reader shape) k (at before) (assignment_line all a) (at (before ++ a ∷ [])) (omega (arith, room)) admits)
      ∙ (pieces_go (k + 1) (suc f) m (n - 64) (x / 2 ^ 64) (before ++ a ∷ []) (omega (arith, room)) (next_stands all f m n x s)
      (λ j least most. let there = free j (omega (arith, least)) (omega (arith, most)) in (there.0, behind before a j (omega (arith, least)) there.1))
      ∙ ap₂ (λ (c : ℕ) (l : List Assignment). so_far c (at l)) (omega arith) (append_assoc before (a ∷ []) others))
    where
      behind : (before : List Assignment) (a : Assignment) (j : ℕ) → a.index < j → stands_in j before ≡ false → stands_in j (before ++ a ∷ []) ≡ false
      behind before a j less none = list_any-append (λ (b : Assignment). b.index == j) before (a ∷ []) ∙ or_from (stands_in j before) _ none (or_from (a.index == j) false (ne_eqb a.index j (λ e. omega (arith, less, e))) refl)
