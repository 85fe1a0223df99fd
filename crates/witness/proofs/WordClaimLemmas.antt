-- What is kept of a line of claims byte by byte is what its pieces claim.
use Rattle.std.proofs.Common.{◌≡◌, ℕ, ◌<◌, ◌==◌, nat_lt, Bool, true, false, not, ◌&&◌, ◌||◌, List, [], ◌∷◌, ◌++◌, Option, Some, None, Result, Ok, Err, if◌then◌else◌, length, map, set, append_assoc, append-nil, refl, sym, ap, ◌∙◌}
use Rattle.std.specs.List.{list_any, list_all}
use Rattle.std.proofs.lemmas.Bool.{and_parts, or_from, ne_eqb, ltb-true}
use Rattle.std.proofs.lemmas.List.{map-append}
use Rattle.std.proofs.lemmas.List.Folds.{list_any-append, list_all-append}
use Rattle.std.proofs.Math.Bool.{or-false, and-true}
use Rattle.witness.specs.declared.why.Why.{Why}
use Rattle.witness.specs.declared.why.Why.TheVariants as why
use Rattle.witness.specs.declared.claim_scan.Scan.{Scan}
use Rattle.witness.specs.declared.word_claims.ClaimScan.{ClaimScan}
use Rattle.witness.specs.Texts.{are_distinct}
use Rattle.witness.specs.Admits.{between_spaces, Claim, claim_of, claims_of, judged_claims, claims_at}
use Rattle.witness.specs.ClaimScans.{Scans}
use Rattle.witness.specs.Fits.{is_set, NoneIsSet, AreClaimed}
use Rattle.witness.specs.WordClaims.{and_claim, are_fit, AreTold, AreClaims}
use Rattle.witness.proofs.StepWords.{with_claim}
use Rattle.witness.proofs.PieceLemmas.{between_spaces-last, between_spaces-more}
use Rattle.witness.proofs.ReadLemmas.{distinct_more}
use Rattle.witness.proofs.FitLemmas.{flagged_more}

-- the claims of pieces with one more behind them
claims_of_more : (whole : List (List ℕ)) (p : List ℕ) → claims_of (whole ++ p ∷ []) ≡ and_claim (claims_of whole) (claim_of p)
claims_of_more [] p = alone (claim_of p)
  where
    alone : (c : Option Claim) → with_claim c (Some []) ≡ and_claim (Some []) c
    alone None = refl
    alone (Some c) = refl
claims_of_more (q ∷ whole) p = ap (with_claim (claim_of q)) (claims_of_more whole p) ∙ moved (claim_of q) (claims_of whole) (claim_of p)
  where
    moved : (first : Option Claim) (list : Option (List Claim)) (c : Option Claim) → with_claim first (and_claim list c) ≡ and_claim (with_claim first list) c
    moved None list c = refl
    moved (Some d) None c = refl
    moved (Some d) (Some list) None = refl
    moved (Some d) (Some list) (Some c) = refl

-- ---- one claim more

both_more : (all apart below new : Bool) → ((all && apart) && (below && new)) ≡ ((all && (below && true)) && (apart && new))
both_more true true below new = ap (λ (b : Bool). b && new) (sym (and-true below))
both_more true false true new = refl
both_more true false false new = refl
both_more false apart below new = refl

fit_more : (bads : ℕ) (list : List Claim) (c : Claim) → are_fit bads (list ++ c ∷ []) ≡ (are_fit bads list && (nat_lt c.index bads && not (list_any (λ i. i == c.index) (map (λ d. d.index) list))))
fit_more bads list c =
    rw (list_all-append (λ d. nat_lt d.index bads) list (c ∷ []), map-append (λ d. d.index) list (c ∷ []), distinct_more (map (λ d. d.index) list) c.index)
    (sym (both_more (list_all (λ d. nat_lt d.index bads) list) (are_distinct (map (λ d. d.index) list)) (nat_lt c.index bads) (not (list_any (λ i. i == c.index) (map (λ d. d.index) list)))))

pub told_more : (s t : ClaimScan) (flags now : List Bool) (before : Option (List Claim)) (c : Claim) → t.claims ≡ s.claims → t.justice ≡ (s.justice || c.justice)
    → t.fit ≡ (s.fit && (nat_lt c.index (length flags) && not (is_set flags c.index))) → (c.index < length flags → now ≡ set flags c.index true) → length now ≡ length flags
    → AreTold s flags before → AreTold t now (and_claim before (Some c))
told_more s t flags now None c claims justice fit put many told = claims ∙ told
told_more s t flags now (Some list) c claims justice fit put many told =
    record {
      claims = claims ∙ told.claims;
      justice = justice ∙ (ap (λ (b : Bool). b || c.justice) told.justice ∙ sym (list_any-append (λ d. d.justice) list (c ∷ []) ∙ ap (λ (b : Bool). list_any (λ d. d.justice) list || b) (or-false c.justice)));
      fit = fit ∙ (by s.fit refl ∙ (ap (λ (b : Bool). b && (nat_lt c.index (length flags) && not (twice c.index))) told.fit ∙ sym (ap (λ (n : ℕ). are_fit n (list ++ c ∷ [])) many ∙ fit_more (length flags) list c)));
      claimed = λ is.
          let parts = and_parts s.fit _ (sym fit ∙ is) in
          let below = ltb-true c.index (length flags) (and_parts _ _ parts.1).0 in
          rw (put below, map-append (λ (d : Claim). d.index) list (c ∷ [])) (flagged_more (λ (i : ℕ). i) flags (map (λ d. d.index) list) c.index below (told.claimed parts.0));
    }
  where
    twice : ℕ → Bool
    twice n = list_any (λ i. i == n) (map (λ d. d.index) list)

    by : (b : Bool) → s.fit ≡ b → (b && (nat_lt c.index (length flags) && not (is_set flags c.index))) ≡ (b && (nat_lt c.index (length flags) && not (twice c.index)))
    by false e = refl
    by true e = ap (λ (b : Bool). nat_lt c.index (length flags) && not b) (told.claimed e c.index)

pub told_nothing : (s : ClaimScan) (flags : List Bool) (before : Option (List Claim)) (o : Option Claim) → o ≡ None → s.claims ≡ false → AreTold s flags (and_claim before o)
told_nothing s flags None o none is = is
told_nothing s flags (Some list) o none is = rw none is

-- ---- the line

pub claims_nothing : (s : ClaimScan) (flags : List Bool) → s.claims ≡ true → s.justice ≡ false → s.fit ≡ true → NoneIsSet flags → Scans s.piece [] → AreClaims s flags []
claims_nothing s flags claims justice fit none scans =
    record { whole = []; last = []; pieces = λ rest. refl; bare = refl; told = record { claims = claims; justice = justice; fit = fit; claimed = λ e. none }; piece = scans }

module _ (s : ClaimScan) (flags : List Bool) (line : List ℕ) (h : AreClaims s flags line) where
  pub claims_byte : (p : Scan) (b : ℕ) → (b ≡ 32 → ⊥) → Scans p (h.last ++ b ∷ []) → AreClaims (record s { piece = p }) flags (line ++ b ∷ [])
  claims_byte p b other scans =
      record {
        whole = h.whole;
        last = h.last ++ b ∷ [];
        pieces = λ rest.
            ap between_spaces (append_assoc line (b ∷ []) rest) ∙ (h.pieces (b ∷ rest) ∙ ap (λ (l : List ℕ). h.whole ++ between_spaces l) (sym (append_assoc h.last (b ∷ []) rest)));
        bare = list_any-append (λ c. c == 32) h.last (b ∷ []) ∙ or_from _ _ h.bare (or_from _ _ (ne_eqb b 32 other) refl);
        told = by (claims_of h.whole) h.told;
        piece = scans;
      }
    where
      by : (o : Option (List Claim)) → AreTold s flags o → AreTold (record s { piece = p }) flags o
      by None told = told
      by (Some list) told = record { claims = told.claims; justice = told.justice; fit = told.fit; claimed = told.claimed }

  -- a piece is whole
  pub claims_piece : (t : ClaimScan) (after : List Bool) → AreTold t after (and_claim (claims_of h.whole) (claim_of h.last)) → AreTold t after (claims_of (h.whole ++ h.last ∷ []))
  claims_piece t after told = rw (claims_of_more h.whole h.last) told

  pub claims_space : (t : ClaimScan) (after : List Bool) → AreTold t after (and_claim (claims_of h.whole) (claim_of h.last)) → Scans t.piece [] → AreClaims t after (line ++ 32 ∷ [])
  claims_space t after told scans =
      record {
        whole = h.whole ++ h.last ∷ [];
        last = [];
        pieces = λ rest.
            ap between_spaces (append_assoc line (32 ∷ []) rest)
            ∙ (h.pieces (32 ∷ rest) ∙ (ap (λ (ps : List (List ℕ)). h.whole ++ ps) (between_spaces-more h.last rest h.bare) ∙ sym (append_assoc h.whole (h.last ∷ []) (between_spaces rest))));
        bare = refl;
        told = claims_piece t after told;
        piece = scans;
      }

  -- what is told at the end, by the flags
  abbrev ending : ClaimScan → List ℕ → Result (List ℕ) Why
  ending t list = if t.claims && t.justice then Err why.JusticeClaim else (if t.claims && t.fit then Ok list else Err why.BadClaim)

  pub claims_end : (t : ClaimScan) (after : List Bool) (bads : ℕ) → length after ≡ bads → AreTold t after (and_claim (claims_of h.whole) (claim_of h.last))
      → (list : List ℕ) × ((claims_at bads line ≡ ending t list) × ((t.claims && t.fit) ≡ true → AreClaimed after list))
  unfolding claims_at
  claims_end t after bads many told = by (claims_of (h.whole ++ h.last ∷ [])) (ap claims_of pieces) (claims_piece t after told)
    where
      pieces : between_spaces line ≡ h.whole ++ h.last ∷ []
      pieces = ap between_spaces (sym (append-nil line)) ∙ (h.pieces [] ∙ ap (λ (ps : List (List ℕ)). h.whole ++ ps) (ap between_spaces (append-nil h.last) ∙ between_spaces-last h.last h.bare))

      by : (o : Option (List Claim)) → claims_of (between_spaces line) ≡ o → AreTold t after o → (list : List ℕ) × ((judged_claims bads (claims_of (between_spaces line)) ≡ ending t list) × ((t.claims && t.fit) ≡ true → AreClaimed after list))
      by None is kept = ([], (rw (is, kept) refl, λ e. absurd (cc (rw kept at e))))
      by (Some list) is kept = (map (λ c. c.index) list, (rw (is, kept.claims, kept.justice, kept.fit, sym many) refl, λ e. kept.claimed (and_parts t.claims t.fit e).1))
