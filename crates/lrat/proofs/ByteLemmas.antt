-- The words of the rest of a proof in the binary form, with a byte more in front.
use Rattle.std.proofs.Common.{◌≡◌, ◌⊎◌, inl, inr, ℕ, ◌==◌, nat_lt, true, false, List, [], ◌∷◌, ◌++◌, refl, sym, ap, subst, ◌∙◌, arith}
use Rattle.std.specs.List.{list_any}
use Rattle.std.specs.Str.{bytes_eq}
use Rattle.std.proofs.lemmas.Bool.{ltb-false, lt-ltb, ne_eqb, and_left, or_parts}
use Rattle.base.specs.Decimals.{is_nothing}
use Rattle.drup.specs.declared.why.Why.{Why}
use Rattle.drup.specs.declared.why.Why.TheVariants as why
use Rattle.drup.specs.BinaryProofs.{number_pieces, last_byte}
use Rattle.drup.specs.ProofJudges.{ends_number}
use Rattle.drup.proofs.BytesLemmas.{pieces_end, pieces_cut, last_open}
use Rattle.lrat.specs.declared.scan.Spot.{Spot as CodeSpot}
use Rattle.lrat.specs.declared.scan.Spot.TheVariants as spot
use Rattle.lrat.specs.Scans.{spot_of}
use Rattle.lrat.specs.HintedProofs.{Token, number, faulty, Mark, mark}
use Rattle.lrat.specs.BinaryHintedProofs.{Spot, at_step, at_id, at_literal, at_other, number_in, literal_coded, step_said, piece_said, spot_behind, step_behind, step_marks}

-- ---- pieces

pub piece_ends : (n : ℕ) (spot : Spot) (bytes more : List ℕ) (b : ℕ) → list_any ends_number bytes ≡ false → nat_lt b 128 ≡ true
    → step_marks n spot (number_pieces (bytes ++ b ∷ more)) ≡ mark n (piece_said n spot (bytes ++ b ∷ [])) ∷ step_marks (step_behind n spot (bytes ++ b ∷ [])) (spot_behind spot (bytes ++ b ∷ [])) (number_pieces more)
piece_ends n spot bytes more b unended low = ap (step_marks n spot) (pieces_end bytes more b unended low)

-- ---- the end of a text

-- what is said first of what is left, where a text has no end there
abbrev pub IsCut : ℕ → Spot → List ℕ → Why → Type 0
IsCut n spot bytes w = (rest : List Mark) × (step_marks n spot (number_pieces bytes) ≡ mark n (faulty w) ∷ rest)

number_cut : (said : ℕ → Token) (x : ℕ) (xs : List ℕ) → list_any ends_number (x ∷ xs) ≡ false → number_in said (x ∷ xs) ≡ faulty why.CutOff
number_cut said x xs unended =
    let parts = or_parts (ends_number x) (list_any ends_number xs) unended in
    let high : nat_lt 127 x ≡ true = lt-ltb 127 x (omega (arith, ltb-false x 128 parts.0)) in
    let cut : nat_lt 127 (last_byte x xs) ≡ true = last_open x xs high parts.1 in
    rw cut refl

zero_no_more : (x : ℕ) (xs : List ℕ) → list_any ends_number (x ∷ xs) ≡ false → bytes_eq (x ∷ xs) (0 ∷ []) ≡ false
zero_no_more x xs unended =
    let parts = or_parts (ends_number x) (list_any ends_number xs) unended in
    and_left (x == 0) (bytes_eq xs []) (ne_eqb x 0 (λ e. omega (arith, e, ltb-false x 128 parts.0)))

cut_piece : (n : ℕ) (spot : Spot) (x : ℕ) (xs : List ℕ) (w : Why) → list_any ends_number (x ∷ xs) ≡ false → piece_said n spot (x ∷ xs) ≡ faulty w → IsCut n spot (x ∷ xs) w
cut_piece n spot x xs w unended is = (
  step_marks (step_behind n spot (x ∷ xs)) (spot_behind spot (x ∷ xs)) [],
  ap (step_marks n spot) (pieces_cut x xs unended) ∙ ap (λ (t : Token). mark n t ∷ step_marks (step_behind n spot (x ∷ xs)) (spot_behind spot (x ∷ xs)) []) is,
)

cut_id : (n : ℕ) (bytes : List ℕ) → list_any ends_number bytes ≡ false → IsCut n at_id bytes why.CutOff
cut_id n [] unended = ([], refl)
cut_id n (x ∷ xs) unended = cut_piece n at_id x xs why.CutOff unended (number_cut number x xs unended)

cut_literal : (n : ℕ) (bytes : List ℕ) → list_any ends_number bytes ≡ false → IsCut n at_literal bytes why.CutOff
cut_literal n [] unended = ([], refl)
cut_literal n (x ∷ xs) unended = cut_piece n at_literal x xs why.CutOff unended (rw (zero_no_more x xs unended) (number_cut literal_coded x xs unended))

cut_other : (n : ℕ) (bytes : List ℕ) → list_any ends_number bytes ≡ false → IsCut n at_other bytes why.CutOff
cut_other n [] unended = ([], refl)
cut_other n (x ∷ xs) unended = cut_piece n at_other x xs why.CutOff unended (rw (zero_no_more x xs unended) (number_cut number x xs unended))

pub cut_within : (n : ℕ) (s : CodeSpot) (bytes : List ℕ) → (s ≡ spot.Id) ⊎ ((s ≡ spot.Literal) ⊎ (s ≡ spot.Other)) → list_any ends_number bytes ≡ false → IsCut n (spot_of s) bytes why.CutOff
cut_within n s bytes (inl is) unended = subst (λ (p : CodeSpot). IsCut n (spot_of p) bytes why.CutOff) (sym is) (cut_id n bytes unended)
cut_within n s bytes (inr (inl is)) unended = subst (λ (p : CodeSpot). IsCut n (spot_of p) bytes why.CutOff) (sym is) (cut_literal n bytes unended)
cut_within n s bytes (inr (inr is)) unended = subst (λ (p : CodeSpot). IsCut n (spot_of p) bytes why.CutOff) (sym is) (cut_other n bytes unended)

pub cut_step : (n : ℕ) (bytes : List ℕ) (w : Why) → list_any ends_number bytes ≡ false → is_nothing bytes ≡ false → ((b : ℕ) (bs : List ℕ) → ends_number b ≡ false → step_said n (b ∷ bs) ≡ faulty w) → IsCut n at_step bytes w
cut_step n [] w unended some is = absurd (cc)
cut_step n (x ∷ xs) w unended some is = cut_piece n at_step x xs w unended (is x xs (or_parts (ends_number x) (list_any ends_number xs) unended).0)
