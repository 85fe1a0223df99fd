-- Lifted texts line by line: a line more of a source is lifted to nothing more, or to its own piece.
use Rattle.std.proofs.Common.{◌≡◌, ◌⊎◌, ℕ, suc, ◌+◌, Bool, List, [], ◌∷◌, ◌++◌, length, take, length-append, append_assoc, append-nil, refl, sym, ap, ap₂, ◌∙◌, arith, inl, inr}
use Rattle.std.proofs.lemmas.List.Concat.{flat_map-append}
use Rattle.std.proofs.Math.Seq.{take-length, take-append-le}
use Rattle.base.specs.Device.{BeginsWith}
use Rattle.base.specs.Lines.{text_of_lines, whole_lines, unfinished}
use Rattle.btor2.specs.declared.item.Item.{Item}
use Rattle.aiger.specs.Circuit.{Circuit}
use Rattle.witness.specs.Readings.{lines_read, reading}
use Rattle.witness.specs.BitAdmits.{admitted_lines, bit_reader}
use Rattle.witness.proofs.TextEndLemmas.{lines_behind_text}
use Rattle.restore.proofs.BitPlaceLemmas as place
use Rattle.lift.specs.Lifted.{piece, lifted_lines, lifted_with}

-- ---- lines that are lifted

abbrev pub lifted_of : Bool → List Item → Circuit → List (List ℕ) → List (List ℕ)
lifted_of named items c lines = lifted_lines named items 0 (take (lines_read (bit_reader c) lines).admitted lines)

lifted-append : (named : Bool) (items : List Item) (n : ℕ) (xs ys : List (List ℕ)) → lifted_lines named items n (xs ++ ys) ≡ lifted_lines named items n xs ++ lifted_lines named items (n + length xs) ys
lifted-append named items n [] ys = let same : n + 0 ≡ n = omega arith in rw same refl
lifted-append named items n (x ∷ xs) ys =
    let same : suc n + length xs ≡ n + suc (length xs) = omega arith in
    ap (λ (l : List (List ℕ)). piece named items n x ++ l) (lifted-append named items (suc n) xs ys ∙ ap (λ (k : ℕ). lifted_lines named items (suc n) xs ++ lifted_lines named items k ys) same)
    ∙ sym (append_assoc (piece named items n x) (lifted_lines named items (suc n) xs) (lifted_lines named items (n + suc (length xs)) ys))

-- a line behind others is not admitted, and lifted to nothing, or it is, and lifted to its piece
pub record Passes (named : Bool) (items : List Item) (c : Circuit) (lines : List (List ℕ)) (line : List ℕ) : Type 0 where
  pub step : place.Passes c lines line
  pub lifted : lifted_of named items c (lines ++ line ∷ []) ≡ lifted_of named items c lines

pub record Adds (named : Bool) (items : List Item) (c : Circuit) (lines : List (List ℕ)) (line : List ℕ) : Type 0 where
  pub step : place.Adds c lines line
  pub lifted : lifted_of named items c (lines ++ line ∷ []) ≡ lifted_of named items c lines ++ piece named items (length lines) line

passes : (named : Bool) (items : List Item) (c : Circuit) (lines : List (List ℕ)) (line : List ℕ) → place.Passes c lines line → Passes named items c lines line
passes named items c lines line p = record {
  step = p;
  lifted = ap (λ (n : ℕ). lifted_lines named items 0 (take n (lines ++ line ∷ []))) p.count
      ∙ ap (lifted_lines named items 0) (take-append-le (lines_read (bit_reader c) lines).admitted lines (line ∷ []) (place.counted c lines).few);
}

adds : (named : Bool) (items : List Item) (c : Circuit) (lines : List (List ℕ)) (line : List ℕ) → place.Adds c lines line → Adds named items c lines line
adds named items c lines line a =
    let all : take (length lines + 1) (lines ++ line ∷ []) ≡ lines ++ line ∷ [] = ap (λ (n : ℕ). take n (lines ++ line ∷ [])) (sym (length-append lines (line ∷ []))) ∙ take-length (lines ++ line ∷ []) in
    let same : 0 + length lines ≡ length lines = omega arith in
    let last : lifted_lines named items (0 + length lines) (line ∷ []) ≡ piece named items (length lines) line = ap (λ (n : ℕ). piece named items n line ++ []) same ∙ append-nil (piece named items (length lines) line) in
    record {
      step = a;
      lifted =
          ap (λ (n : ℕ). lifted_lines named items 0 (take n (lines ++ line ∷ []))) a.count ∙ ap (lifted_lines named items 0) all ∙ lifted-append named items 0 lines (line ∷ [])
          ∙ ap₂ (λ (l m : List (List ℕ)). l ++ m) (sym (ap (lifted_lines named items 0) (ap (λ (n : ℕ). take n lines) a.before ∙ take-length lines))) last;
    }

pub line_more : (named : Bool) (items : List Item) (c : Circuit) (lines : List (List ℕ)) (line : List ℕ) → Passes named items c lines line ⊎ Adds named items c lines line
line_more named items c lines line =
    elim (place.line_more c lines line) [
      | inl p ↦ inl (passes named items c lines line p)
      | inr a ↦ inr (adds named items c lines line a)
    ]

-- ---- beginnings

pub record BeginsLines (whole front : List (List ℕ)) : Type 0 where
  pub rest : List (List ℕ)
  pub all : front ++ rest ≡ whole

begins_lines : (named : Bool) (items : List Item) (c : Circuit) (lines more : List (List ℕ)) → BeginsLines (lifted_of named items c (lines ++ more)) (lifted_of named items c lines)
begins_lines named items c lines [] = record { rest = []; all = append-nil (lifted_of named items c lines) ∙ ap (lifted_of named items c) (sym (append-nil lines)) }
begins_lines named items c lines (line ∷ more) =
    let whole : (lines ++ line ∷ []) ++ more ≡ lines ++ line ∷ more = append_assoc lines (line ∷ []) more in
    let later = begins_lines named items c (lines ++ line ∷ []) more in
    let later_all : lifted_of named items c (lines ++ line ∷ []) ++ later.rest ≡ lifted_of named items c (lines ++ line ∷ more) = later.all ∙ ap (lifted_of named items c) whole in
    elim (line_more named items c lines line) [
      | inl p ↦ record { rest = later.rest; all = ap (λ (l : List (List ℕ)). l ++ later.rest) (sym p.lifted) ∙ later_all }
      | inr a ↦ record {
        rest = piece named items (length lines) line ++ later.rest;
        all = sym (append_assoc (lifted_of named items c lines) (piece named items (length lines) line) later.rest) ∙ ap (λ (l : List (List ℕ)). l ++ later.rest) (sym a.lifted) ∙ later_all;
      }
    ]

-- what is lifted is that of the whole lines
pub lifted_by_lines : (named : Bool) (items : List Item) (c : Circuit) (text : List ℕ) → lifted_with named items c text ≡ text_of_lines (lifted_of named items c (whole_lines text))
unfolding lifted_with reading
lifted_by_lines named items c text = refl

pub lifted_begins : (named : Bool) (items : List Item) (c : Circuit) (front rest : List ℕ) → BeginsWith (lifted_with named items c (front ++ rest)) (lifted_with named items c front)
lifted_begins named items c front rest =
    let b = begins_lines named items c (whole_lines front) (whole_lines (unfinished front ++ rest)) in (
      text_of_lines b.rest,
      ap (λ (l : List ℕ). l ++ text_of_lines b.rest) (lifted_by_lines named items c front)
          ∙ sym (flat_map-append (λ line. line ++ 10 ∷ []) (lifted_of named items c (whole_lines front)) b.rest)
          ∙ ap text_of_lines (b.all ∙ ap (lifted_of named items c) (sym (lines_behind_text front rest))) ∙ sym (lifted_by_lines named items c (front ++ rest)),
    )

-- nothing is admitted of a text that makes no claim
pub nothing_lifted : (named : Bool) (items : List Item) (c : Circuit) (text : List ℕ) → admitted_lines c text ≡ 0 → lifted_with named items c text ≡ []
unfolding lifted_with
nothing_lifted named items c text none = rw none refl
