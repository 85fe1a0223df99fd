-- The words of the rest of a proof in the binary form, with a byte more in front.
use Rattle.std.proofs.Common.{◌≡◌, ℕ, suc, ◌==◌, nat_lt, true, false, List, [], ◌∷◌, ◌++◌, codes, inl, inr, refl, ap, arith}
use Rattle.std.specs.List.{list_any}
use Rattle.std.specs.Str.{bytes_eq}
use Rattle.std.proofs.lemmas.Bool.{ltb-false, lt-ltb, ne_eqb, and_left, cases_Bool, or_parts, or_from}
use Rattle.base.specs.Lines.{to_first}
use Rattle.drup.specs.declared.why.Why.TheVariants as why
use Rattle.drup.specs.Proofs.{ends, deletes, faulty, Token, Mark, mark, most_proof_lines}
use Rattle.drup.specs.BinaryProofs.{number_pieces, last_byte, number_said, step_marks}
use Rattle.drup.specs.ProofJudges.{ends_number}

-- ---- pieces

pieces_onto : (b : ℕ) (bytes : List ℕ) (pieces : List (List ℕ)) → ends_number b ≡ false → number_pieces bytes ≡ pieces → number_pieces (b ∷ bytes) ≡ to_first b pieces
pieces_onto b bytes pieces high is = rw high (ap (to_first b) is)

-- a number that is open ends with a byte without the top bit
pub pieces_end : (bytes more : List ℕ) (b : ℕ) → list_any ends_number bytes ≡ false → nat_lt b 128 ≡ true → number_pieces (bytes ++ b ∷ more) ≡ (bytes ++ b ∷ []) ∷ number_pieces more
pieces_end [] more b unended low = rw low refl
pieces_end (x ∷ xs) more b unended low =
    let parts = or_parts (ends_number x) (list_any ends_number xs) unended in
    pieces_onto x (xs ++ b ∷ more) ((xs ++ b ∷ []) ∷ number_pieces more) parts.0 (pieces_end xs more b parts.1 low)

pub pieces_cut : (x : ℕ) (xs : List ℕ) → list_any ends_number (x ∷ xs) ≡ false → number_pieces (x ∷ xs) ≡ (x ∷ xs) ∷ []
pieces_cut x [] unended = let parts = or_parts (ends_number x) false unended in rw parts.0 refl
pieces_cut x (y ∷ ys) unended =
    let parts = or_parts (ends_number x) (list_any ends_number (y ∷ ys)) unended in
    pieces_onto x (y ∷ ys) ((y ∷ ys) ∷ []) parts.0 (pieces_cut y ys parts.1)

-- the first piece begins with the first byte
record FirstPiece (b : ℕ) (more : List ℕ) : Type 0 where
  rest : List ℕ
  pieces : List (List ℕ)
  is : number_pieces (b ∷ more) ≡ (b ∷ rest) ∷ pieces

first_piece : (b : ℕ) (more : List ℕ) → FirstPiece b more
first_piece b more =
    elim (cases_Bool (nat_lt b 128)) [
      | inl low ↦ record { rest = []; pieces = number_pieces more; is = rw low refl }
      | inr high ↦ joined high (number_pieces more) refl
    ]
  where
    joined : nat_lt b 128 ≡ false → (pieces : List (List ℕ)) → number_pieces more ≡ pieces → FirstPiece b more
    joined high [] is = record { rest = []; pieces = []; is = rw (high, is) refl }
    joined high (p ∷ ps) is = record { rest = p; pieces = ps; is = rw (high, is) refl }

pub open_more : (bytes : List ℕ) (b : ℕ) → list_any ends_number bytes ≡ false → nat_lt b 128 ≡ false → list_any ends_number (bytes ++ b ∷ []) ≡ false
open_more [] b unended high = or_from (ends_number b) false high refl
open_more (x ∷ xs) b unended high =
    let parts = or_parts (ends_number x) (list_any ends_number xs) unended in
    or_from (ends_number x) (list_any ends_number (xs ++ b ∷ [])) parts.0 (open_more xs b parts.1 high)

-- ---- the byte by which a step begins

abbrev pub before_step : ℕ → ℕ → ℕ → List ℕ → List Mark
before_step variables n b more = step_marks variables n false (number_pieces (b ∷ more))

pub begins_too_many : (variables n b : ℕ) (more : List ℕ) → nat_lt most_proof_lines n ≡ true → before_step variables n b more ≡ mark n (faulty why.TooLong) ∷ []
begins_too_many variables n b more many = let first = first_piece b more in rw (first.is, many) refl

pub begins_addition : (variables n b : ℕ) (more : List ℕ) → nat_lt most_proof_lines n ≡ false → b ≡ 97 → before_step variables n b more ≡ step_marks variables n true (number_pieces more)
begins_addition variables n b more few is = rw (is, few) refl

pub begins_deletion : (variables n b : ℕ) (more : List ℕ) → nat_lt most_proof_lines n ≡ false → b ≡ 100 → before_step variables n b more ≡ mark n deletes ∷ step_marks variables n true (number_pieces more)
begins_deletion variables n b more few is = rw (is, few) refl

pub begins_badly : (variables n b : ℕ) (more : List ℕ) → nat_lt most_proof_lines n ≡ false → (b == 97) ≡ false → (b == 100) ≡ false → before_step variables n b more ≡ mark n (faulty why.BadWord) ∷ []
begins_badly variables n b more few no_a no_d =
    let first = first_piece b more in
    let a : bytes_eq (b ∷ first.rest) (codes "a") ≡ false = and_left (b == 97) (bytes_eq first.rest []) no_a in
    let d : bytes_eq (b ∷ first.rest) (codes "d") ≡ false = and_left (b == 100) (bytes_eq first.rest []) no_d in
    rw (first.is, few, a, d) refl

-- ---- a byte within a step

abbrev pub within_step : ℕ → ℕ → List ℕ → List Mark
within_step variables n bytes = step_marks variables n true (number_pieces bytes)

pub within_ends : (variables n : ℕ) (bytes more : List ℕ) (b : ℕ) → list_any ends_number bytes ≡ false → nat_lt b 128 ≡ true → bytes_eq (bytes ++ b ∷ []) (0 ∷ []) ≡ true
    → within_step variables n (bytes ++ b ∷ more) ≡ mark n ends ∷ step_marks variables (suc n) false (number_pieces more)
within_ends variables n bytes more b unended low is = rw (pieces_end bytes more b unended low, is) refl

pub within_number : (variables n : ℕ) (bytes more : List ℕ) (b : ℕ) (t : Token) → list_any ends_number bytes ≡ false → nat_lt b 128 ≡ true → bytes_eq (bytes ++ b ∷ []) (0 ∷ []) ≡ false → t ≡ number_said variables (bytes ++ b ∷ [])
    → within_step variables n (bytes ++ b ∷ more) ≡ mark n t ∷ within_step variables n more
within_number variables n bytes more b t unended low not said = rw (pieces_end bytes more b unended low, not, said) refl

-- ---- the end within a step

pub last_open : (before : ℕ) (bytes : List ℕ) → nat_lt 127 before ≡ true → list_any ends_number bytes ≡ false → nat_lt 127 (last_byte before bytes) ≡ true
last_open before [] high unended = high
last_open before (x ∷ xs) high unended =
    let parts = or_parts (ends_number x) (list_any ends_number xs) unended in
    last_open x xs (lt-ltb 127 x (omega (arith, ltb-false x 128 parts.0))) parts.1

zero_no_more : (x : ℕ) (xs : List ℕ) → ends_number x ≡ false → bytes_eq (x ∷ xs) (0 ∷ []) ≡ false
zero_no_more x xs high = and_left (x == 0) (bytes_eq xs []) (ne_eqb x 0 (λ e. omega (arith, e, ltb-false x 128 high)))

-- what is told first where a step has no end
pub cut_within : (variables n : ℕ) (bytes : List ℕ) → list_any ends_number bytes ≡ false → (rest : List Mark) × (within_step variables n bytes ≡ mark n (faulty why.CutOff) ∷ rest)
cut_within variables n [] unended = ([], refl)
cut_within variables n (x ∷ xs) unended =
    let parts = or_parts (ends_number x) (list_any ends_number xs) unended in
    let high : nat_lt 127 x ≡ true = lt-ltb 127 x (omega (arith, ltb-false x 128 parts.0)) in
    let cut : nat_lt 127 (last_byte x xs) ≡ true = last_open x xs high parts.1 in
    (mark n (faulty why.CutOff) ∷ [], rw (pieces_cut x xs unended, zero_no_more x xs parts.0, cut) refl)
