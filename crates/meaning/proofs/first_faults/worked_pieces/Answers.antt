use Rattle.std.proofs.Common.{◌≡◌, ℕ, ◌≤◌, List, [], ◌∷◌, ◌++◌, length, get_or, All, codes, refl, sym, ap, inl, inr, arith}
use Rattle.std.proofs.lemmas.List.Elements.{All-nil, All-cons, All-from_recursion, recursion_from_All}
use Rattle.aigertext.specs.Reading.{cut_at_byte}
use Rattle.meaning.proofs.LineLemmas.{one_cut}
use Rattle.meaning.proofs.first_faults.worked_pieces.Goals as goal

pub returns-clause-line : goal.returns-clause-line
returns-clause-line c = record { line = codes "2 3"; is_line = refl; whole = refl }

pub returns-clause-two_lines : goal.returns-clause-two_lines
returns-clause-two_lines c is =
    let cut = one_cut 10 is.line [] (codes "2", codes "3\n") is.is_line (ap (cut_at_byte 10) (sym is.whole)) in
    let long : 0 ≡ 2 = ap (λ (x : List ℕ × List ℕ). length x.1) cut in
    omega (arith, long)

pub returns-clause-delta : goal.returns-clause-delta
returns-clause-delta c = record { front = 130 ∷ []; last = 1; tops = All-cons (λ b. 128 ≤ b) 130 [] (omega arith) (All-nil (λ b. 128 ≤ b)); few = omega arith; ends = inl (omega arith); whole = refl }

pub returns-clause-fifth : goal.returns-clause-fifth
returns-clause-fifth c =
    record {
      front = 255 ∷ 255 ∷ 255 ∷ 255 ∷ [];
      last = 255;
      tops = All-from_recursion (λ b. 128 ≤ b) (255 ∷ 255 ∷ 255 ∷ 255 ∷ []) (omega arith);
      few = omega arith;
      ends = inr refl;
      whole = refl;
    }

-- the first of two bytes has not the top bit
no_delta : (front : List ℕ) (last : ℕ) → All (λ b. 128 ≤ b) front → 2 ∷ 1 ∷ [] ≡ front ++ last ∷ [] → ⊥
no_delta [] last tops is = let long : 2 ≡ 1 = ap (length {A = ℕ}) is in omega (arith, long)
no_delta (b ∷ bs) last tops is =
    let same : 2 ≡ b = ap (λ (l : List ℕ). get_or l 0 0) is in
    let top : 128 ≤ b = (recursion_from_All (λ b. 128 ≤ b) (b ∷ bs) tops).0 in
    omega (arith, same, top)

pub returns-clause-two_deltas : goal.returns-clause-two_deltas
returns-clause-two_deltas c is = no_delta is.front is.last is.tops is.whole

pub returns-clause-part : goal.returns-clause-part
returns-clause-part c = record { tops = All-cons (λ b. 128 ≤ b) 130 [] (omega arith) (All-nil (λ b. 128 ≤ b)); few = omega arith }

pub returns-clause-no_part : goal.returns-clause-no_part
returns-clause-no_part c is = let low : 128 ≤ 1 = (recursion_from_All (λ b. 128 ≤ b) (130 ∷ 1 ∷ []) is.tops).1.0 in omega (arith, low)

pub returns-clause-ascii : goal.returns-clause-ascii
returns-clause-ascii c = record { rest = codes " 0 0 0 0 0\n"; is = refl }

pub returns-clause-binary : goal.returns-clause-binary
returns-clause-binary c is = let second : 105 ≡ 97 = ap (λ (l : List ℕ). get_or l 1 0) is.is in omega (arith, second)
