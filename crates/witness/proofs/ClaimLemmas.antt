-- Claims lines: each list of claims has one line, and the line is read as the list.
use Rattle.std.proofs.Common.{◌≡◌, ℕ, ◌<◌, ◌^◌, ◌-◌, ◌==◌, nat_lt, Bool, true, false, ◌&&◌, List, [], ◌∷◌, ◌++◌, Option, Some, None, Ok, IfOk, map, if◌then◌else◌, inl, inr, refl, sym, ap, subst, ◌∙◌, arith}
use Rattle.std.specs.List.{list_any, list_all, AllByRecursion}
use Rattle.std.proofs.lemmas.Bool.{or_parts, and_parts, and_from, eqb-true, ltb-true, lt-ltb}
use Rattle.std.proofs.lemmas.Result.{IfOk-at_ok}
use Rattle.base.specs.Decimals.{number_of}
use Rattle.base.proofs.DecimalLemmas.{chosen, number_is_decimal, number_of-decimal, decimal_without}
use Rattle.witness.specs.Texts.{claim, claims_line, are_distinct}
use Rattle.witness.specs.Admits.{between_spaces, Claim, claim_of, claims_of, judged_claims, claims_at}
use Rattle.witness.proofs.StepWords.{claim_with, with_claim}
use Rattle.witness.proofs.ReadingLemmas.{by_test}
use Rattle.witness.proofs.PieceLemmas.{between_spaces-last, between_spaces-more, with_spaces, some_piece, parts_of_line}

-- each claim is below the number of bad properties
abbrev pub AreBelow : ℕ → List ℕ → Type 0
AreBelow bads list = AllByRecursion (λ i. i < bads) list

-- the claim of a bad property
abbrev as_claim : ℕ → Claim
as_claim i = record { justice = false; index = i }

pieces_of_claims : (bads i : ℕ) (more : List ℕ) → bads < 2 ^ 64 → AreBelow bads (i ∷ more) → between_spaces (claims_line (i ∷ more)) ≡ map claim (i ∷ more)
pieces_of_claims bads i [] small below =
    let lt : i < 2 ^ 64 = omega (arith, below.0) in
    between_spaces-last (claim i) (decimal_without 32 i (omega arith) lt)
pieces_of_claims bads i (j ∷ more) small below =
    let lt : i < 2 ^ 64 = omega (arith, below.0) in
    between_spaces-more (claim i) (claims_line (j ∷ more)) (decimal_without 32 i (omega arith) lt)
    ∙ ap (λ (ps : List (List ℕ)). claim i ∷ ps) (pieces_of_claims bads j more small below.1)

claims_of_pieces : (bads : ℕ) (list : List ℕ) → bads < 2 ^ 64 → AreBelow bads list → claims_of (map claim list) ≡ Some (map as_claim list)
claims_of_pieces bads [] small below = refl
claims_of_pieces bads (i ∷ more) small below =
    let lt : i < 2 ^ 64 = omega (arith, below.0) in
    rw (number_of-decimal i lt, claims_of_pieces bads more small below.1) refl

none_of_justice : (list : List ℕ) → list_any (λ c. c.justice) (map as_claim list) ≡ false
none_of_justice [] = refl
none_of_justice (i ∷ more) = none_of_justice more

indices_of_claims : (list : List ℕ) → map (λ c. c.index) (map as_claim list) ≡ list
indices_of_claims [] = refl
indices_of_claims (i ∷ more) = ap (λ (others : List ℕ). i ∷ others) (indices_of_claims more)

claims_in_range : (bads : ℕ) (list : List ℕ) → AreBelow bads list → list_all (λ c. nat_lt c.index bads) (map as_claim list) ≡ true
claims_in_range bads [] below = refl
claims_in_range bads (i ∷ more) below = and_from (nat_lt i bads) (list_all (λ c. nat_lt c.index bads) (map as_claim more)) (lt-ltb i bads below.0) (claims_in_range bads more below.1)

claims_pass : (bads : ℕ) (list : List ℕ) → AreBelow bads list → are_distinct list ≡ true → judged_claims bads (Some (map as_claim list)) ≡ Ok list
claims_pass bads list below distinct =
    let same = indices_of_claims list in
    let apart : are_distinct (map (λ c. c.index) (map as_claim list)) ≡ true = ap are_distinct same ∙ distinct in
    rw (none_of_justice list, claims_in_range bads list below, apart) (ap Ok same)

-- the line of a list of claims is read as the list
pub claims_at-claims_line : (bads : ℕ) (list : List ℕ) → bads < 2 ^ 64 → (list ≡ [] → ⊥) → AreBelow bads list → are_distinct list ≡ true → claims_at bads (claims_line list) ≡ Ok list
unfolding claims_at
claims_at-claims_line bads [] small some below distinct = absurd (some refl)
claims_at-claims_line bads (i ∷ more) small some below distinct =
    ap (λ (ps : List (List ℕ)). judged_claims bads (claims_of ps)) (pieces_of_claims bads i more small below)
    ∙ (ap (judged_claims bads) (claims_of_pieces bads (i ∷ more) small below) ∙ claims_pass bads (i ∷ more) below distinct)

-- ---- a line that is read as claims

-- claims that a list of them may have
pub record AreClaims (bads : ℕ) (line list : List ℕ) : Type 0 where
  pub spelled : line ≡ claims_line list
  pub some : list ≡ [] → ⊥
  pub below : AreBelow bads list
  pub distinct : are_distinct list ≡ true

claim_parts : (justice : Bool) (o : Option ℕ) (c : Claim) → claim_with justice o ≡ Some c → (o ≡ Some c.index) × (c.justice ≡ justice)
claim_parts justice None c h = absurd cc
claim_parts justice (Some i) c h = (cc, cc)

pub piece_is_claim : (piece : List ℕ) (c : Claim) → claim_of piece ≡ Some c → c.justice ≡ false → c.index < 2 ^ 64 - 1 → piece ≡ claim c.index
piece_is_claim [] c h bad lt = absurd cc
piece_is_claim (b ∷ bs) c h bad lt =
    let other : Option Claim = if b == 106 then claim_with true (number_of bs) else None in
    elim (chosen (b == 98) (claim_with false (number_of bs)) other (Some c) h) [
      | inl e ↦
          let first = eqb-true b 98 e.0 in
          let rest = number_is_decimal bs c.index (claim_parts false (number_of bs) c e.1).0 lt in
          cc
      | inr e ↦
          elim (chosen (b == 106) (claim_with true (number_of bs)) None (Some c) e.1) [
            | inl d ↦ let justice = (claim_parts true (number_of bs) c d.1).1 in absurd cc
            | inr d ↦ absurd (cc (d.1))
          ]
    ]

with_claim_parts : (o : Option Claim) (m : Option (List Claim)) (cs : List Claim) → with_claim o m ≡ Some cs
    → (c : Claim) × ((more : List Claim) × ((o ≡ Some c) × (m ≡ Some more) × (cs ≡ c ∷ more)))
with_claim_parts None m cs h = absurd cc
with_claim_parts (Some c) None cs h = absurd cc
with_claim_parts (Some c) (Some more) cs h = (c, (more, (refl, refl, cc)))

-- what is to show of pieces that are read as claims
abbrev AreSpelled : ℕ → List (List ℕ) → List Claim → Type 0
AreSpelled bads pieces cs =
    list_any (λ c. c.justice) cs ≡ false → list_all (λ c. nat_lt c.index bads) cs ≡ true
    → (pieces ≡ map claim (map (λ c. c.index) cs)) × AreBelow bads (map (λ c. c.index) cs)

first_and_others : (bads : ℕ) (p : List ℕ) (ps : List (List ℕ)) (c : Claim) (more cs : List Claim) → bads < 2 ^ 64 → claim_of p ≡ Some c → cs ≡ c ∷ more
    → AreSpelled bads ps more → AreSpelled bads (p ∷ ps) cs
first_and_others bads p ps c more cs small first is others =
    rw is (λ bad range.
    let kind = or_parts c.justice (list_any (λ d. d.justice) more) bad in
    let inside = and_parts (nat_lt c.index bads) (list_all (λ d. nat_lt d.index bads) more) range in
    let lt = ltb-true c.index bads inside.0 in
    let piece = piece_is_claim p c first kind.0 (omega arith) in
    let rest = others kind.1 inside.1 in
    let same = rest.0 in
    (cc, (lt, rest.1)))

pieces_are_claims : (bads : ℕ) (pieces : List (List ℕ)) (cs : List Claim) → bads < 2 ^ 64 → claims_of pieces ≡ Some cs → AreSpelled bads pieces cs
pieces_are_claims bads [] cs small h =
    let none : cs ≡ [] = cc in
    rw none (λ bad range. (refl, tt))
pieces_are_claims bads (p ∷ ps) cs small h =
    let parts = with_claim_parts (claim_of p) (claims_of ps) cs h in
    first_and_others bads p ps parts.0 parts.1.0 cs small parts.1.1.0 parts.1.1.2 (pieces_are_claims bads ps parts.1.0 small parts.1.1.1)

-- what is told of claims by the numbers that they are judged as
abbrev AreJudged : ℕ → Option (List Claim) → List ℕ → Type 0
AreJudged bads o list =
    (cs : List Claim) × ((o ≡ Some cs) × (list_any (λ c. c.justice) cs ≡ false) × (list_all (λ c. nat_lt c.index bads) cs ≡ true) × (are_distinct (map (λ c. c.index) cs) ≡ true) × (map (λ c. c.index) cs ≡ list))

judged_parts : (bads : ℕ) (o : Option (List Claim)) → IfOk (judged_claims bads o) (AreJudged bads o)
judged_parts bads None = tt
judged_parts bads (Some cs) =
    by_test (AreJudged bads (Some cs)) (list_any (λ c. c.justice) cs) _ _ (λ e. tt)
    (λ e. by_test (AreJudged bads (Some cs)) (list_all (λ c. nat_lt c.index bads) cs && are_distinct (map (λ c. c.index) cs)) _ _
    (λ d. let both = and_parts (list_all (λ c. nat_lt c.index bads) cs) (are_distinct (map (λ c. c.index) cs)) d in (cs, (refl, e, both.0, both.1, refl)))
    (λ d. tt))

line_of_claims : (list : List ℕ) → with_spaces (map claim list) ≡ claims_line list
line_of_claims [] = refl
line_of_claims (i ∷ []) = refl
line_of_claims (i ∷ j ∷ more) = ap (λ (rest : List ℕ). claim i ++ 32 ∷ rest) (line_of_claims (j ∷ more))

-- a line that is read as claims is their line
pub claims_are_line : (bads : ℕ) (line list : List ℕ) → bads < 2 ^ 64 → claims_at bads line ≡ Ok list → AreClaims bads line list
unfolding claims_at
claims_are_line bads line list small h =
    let parts = IfOk-at_ok (AreJudged bads (claims_of (between_spaces line))) h (judged_parts bads (claims_of (between_spaces line))) in
    let facts = parts.1 in
    let is = facts.4 in
    let found = pieces_are_claims bads (between_spaces line) parts.0 small facts.0 facts.1 facts.2 in
    let pieces : between_spaces line ≡ map claim list = found.0 ∙ ap (map claim) is in
    record {
      spelled = sym (parts_of_line line) ∙ (ap with_spaces pieces ∙ line_of_claims list);
      some = λ none. some_piece line (pieces ∙ ap (map claim) none);
      below = subst (AreBelow bads) is found.1;
      distinct = subst (λ (l : List ℕ). are_distinct l ≡ true) is facts.3;
    }
